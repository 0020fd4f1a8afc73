use Rattle.std.proofs.Common.{◌≡◌, ◌++◌, string_bytes}
use Rattle.load_maker.specs.Lines.{text_of}
use Rattle.load_maker.specs.Source.{function_lines, all_function_lines}
use Rattle.load_maker.proofs.Texts.{text_from}
use Rattle.load_maker.proofs.source.push_functions.Given as goal

-- those so far, and those that follow
abbrev pub invariant-loop-i : goal.invariant-loop-i
invariant-loop-i l = string_bytes l.text ++ text_from function_lines l.i l.i-end ≡ string_bytes l.fn.text ++ text_of (all_function_lines l.fn.n)
