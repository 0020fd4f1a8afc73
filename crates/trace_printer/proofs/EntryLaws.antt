-- The text of the entries that are left, at one of them.
use Rattle.std.proofs.Common.{◌≡◌, ℕ, ◌+◌, ◌<◌, List, ◌++◌, drop, get_or, length, ap, ◌∙◌, sym}
use Rattle.std.proofs.lemmas.List.{drop_more}
use Rattle.s7_events.specs.declared.entry.Entry.{Entry}
use Rattle.s7_events.specs.declared.entry.Side.{Side}
use Rattle.trace_text.specs.Text.{entry_text, entries_text, behind_showing}

pub entries_at : (entries : List Entry) (k : ℕ) (d : Entry) (shown left : List (ℕ × Side)) → k < length entries
    → left ≡ behind_showing k (behind_showing k shown)
    → entries_text k (drop k entries) shown ≡ entry_text k (get_or entries k d) shown ++ entries_text (k + 1) (drop (k + 1) entries) left
entries_at entries k d shown left within is =
    ap (λ (es : List Entry). entries_text k es shown) (drop_more entries k d within)
    ∙ ap (λ (l : List (ℕ × Side)). entry_text k (get_or entries k d) shown ++ entries_text (k + 1) (drop (k + 1) entries) l) (sym is)
