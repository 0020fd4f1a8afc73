-- The lines of the notes that are left, at one of them.
use Rattle.std.proofs.Common.{◌≡◌, ℕ, ◌+◌, List, ◌++◌, drop, Some, ap, ◌∙◌, sym}
use Rattle.std.specs.List.{slice_get}
use Rattle.s7_events.specs.declared.diagnostics.DiagCode.{DiagCode}
use Rattle.trace_text.specs.Tail.{note_line, note_lines}
use Rattle.trace_printer.proofs.Lists.{drop_at}

pub lines_at : (notes : List (ℕ × DiagCode)) (k : ℕ) (note : ℕ × DiagCode) (line : List ℕ) → slice_get notes k ≡ Some note → line ≡ note_line note
    → note_lines (drop k notes) ≡ line ++ note_lines (drop (k + 1) notes)
lines_at notes k note line here is =
    ap note_lines (drop_at notes k note here) ∙ ap (λ (l : List ℕ). l ++ note_lines (drop (k + 1) notes)) (sym is)
