use Rattle.std.proofs.Common.{◌≡◌, ◌++◌, string_bytes}
use Rattle.load_maker.specs.Lines.{text_of}
use Rattle.load_maker.specs.Script.{hundred_lines, all_moment_lines}
use Rattle.load_maker.proofs.Texts.{text_from}
use Rattle.load_maker.proofs.script.push_moments.Given as goal

-- those so far, and those that follow
abbrev pub invariant-loop-k : goal.invariant-loop-k
invariant-loop-k l = string_bytes l.text ++ text_from (hundred_lines l.fn.n) l.k l.k-end ≡ string_bytes l.fn.text ++ text_of (all_moment_lines l.fn.n)
