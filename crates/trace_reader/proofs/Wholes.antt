-- The tail and the whole trace that were written are read back.
use Rattle.std.proofs.Common.{◌≡◌, ℕ, ◌<◌, Bool, true, false, List, [], ◌∷◌, ◌++◌, length, Option, Some, None, refl, sym, subst, ap, ◌∙◌, arith, append_assoc}
use Rattle.std.specs.Prelude.{codes, is_some}
use Rattle.std.specs.List.{flat_map}
use Rattle.std.proofs.lemmas.List.{append-nil}
use Rattle.trace_reader.specs.declared.trace.Ending.{Ending}
use Rattle.trace_reader.specs.declared.trace.Ending.TheVariants as endings
use Rattle.trace_reader.specs.declared.trace.Counter.{Counter}
use Rattle.trace_reader.specs.Fields.{after}
use Rattle.trace_reader.specs.Parts.{TailParts}
use Rattle.trace_reader.specs.Text.{note_line, area_lines, block_line, counter_line, count_line, notes_and_after, tail_lines, last_line}
use Rattle.trace_reader.specs.Lines.{count_at, ending_at}
use Rattle.trace_reader.specs.Ranges.{FitsTail, EndsAs, FitsEnding, ClosesEntries, ClosesTail}
use Rattle.trace_reader.proofs.ReadBack.{number_at_none}
use Rattle.trace_reader.proofs.ReadTail.{count_again, end_again, stopped_again, none_again, spent_again}
use Rattle.trace_reader.proofs.GoesOn.{no_reading, pair_is}

pub counters_close : (counters : List Counter) (rest : List ℕ) → after (codes "DB ") rest ≡ None → after (codes "DB ") (flat_map counter_line counters ++ rest) ≡ None
counters_close [] rest closed = closed
counters_close (counter ∷ counters) rest closed = refl

-- the notes of a tail and what follows them, before this text
abbrev pub tail_before : TailParts → List ℕ → List ℕ
tail_before tail rest =
    flat_map note_line tail.notes ++ (area_lines tail.areas ++ (flat_map block_line tail.blocks ++ (flat_map counter_line tail.counters ++ rest)))

tail_joined : (tail : TailParts) (rest : List ℕ) → notes_and_after tail ++ rest ≡ tail_before tail rest
tail_joined tail rest =
    let notes = flat_map note_line tail.notes in
    let areas = area_lines tail.areas in
    let blocks = flat_map block_line tail.blocks in
    let counters = flat_map counter_line tail.counters in
    append_assoc notes (areas ++ (blocks ++ counters)) rest
    ∙ ap (λ (t : List ℕ). notes ++ t) (append_assoc areas (blocks ++ counters) rest ∙ ap (λ (t : List ℕ). areas ++ t) (append_assoc blocks counters rest))

count_read : (tail : TailParts) (text rest : List ℕ) → FitsTail (Some tail) → text ≡ tail_lines (Some tail) ++ rest → count_at text ≡ Some (length tail.notes, notes_and_after tail ++ rest)
count_read tail text rest fits whole =
    ap count_at (whole ∙ append_assoc (count_line (length tail.notes)) (notes_and_after tail) rest) ∙ count_again (length tail.notes) (notes_and_after tail ++ rest) fits.0

pub no_tail : (text : List ℕ) (tail : Option TailParts) (rest : List ℕ) → None ≡ count_at text → FitsTail tail → text ≡ tail_lines tail ++ rest → (false ≡ is_some tail) × (text ≡ rest)
no_tail text None rest none fits whole = (refl, whole)
no_tail text (Some tail) rest none fits whole =
    absurd (no_reading (length tail.notes) (notes_and_after tail ++ rest) (count_at text) none (count_read tail text rest fits whole))

abbrev pub HasTail : ℕ → List ℕ → Option TailParts → List ℕ → Type 0
HasTail count later tail rest = (t : TailParts) × (length t.notes ≡ count) × FitsTail (Some t) × (later ≡ tail_before t rest) × (true ≡ is_some tail)

pub no_count : (rest : List ℕ) → after (codes "DIAG ") rest ≡ None → count_at rest ≡ None
unfolding count_at
no_count rest closed = rw closed refl

pub has_tail : (text : List ℕ) (count : ℕ) (later : List ℕ) (tail : Option TailParts) (rest : List ℕ) → Some (count, later) ≡ count_at text → FitsTail tail → ClosesTail rest → text ≡ tail_lines tail ++ rest → HasTail count later tail rest
has_tail text count later None rest some fits closes whole =
    absurd (no_reading count later (count_at text) (sym (ap count_at whole ∙ no_count rest closes.0)) (sym some))
has_tail text count later (Some tail) rest some fits closes whole =
    let same = pair_is count (length tail.notes) later (notes_and_after tail ++ rest) (some ∙ count_read tail text rest fits whole) in
    (tail, sym same.0, fits, same.1 ∙ tail_joined tail rest, refl)

pub last_quiet : (ending : Ending) (count : ℕ) (rest : List ℕ) → ClosesTail (last_line ending count ++ rest)
last_quiet endings.End count rest = (refl, refl, refl)
last_quiet (endings.Stop code) count rest = (refl, refl, refl)
last_quiet endings.NoneLeft count rest = (refl, refl, refl)
last_quiet endings.Spent count rest = (refl, refl, refl)

pub last_closes : (ending : Ending) (count : ℕ) → ClosesTail (last_line ending count)
last_closes ending count = subst ClosesTail (append-nil (last_line ending count)) (last_quiet ending count [])

-- where the entries are followed by this text, none of it is an entry or a showing
pub quiet_after : (tail : Option TailParts) (ending : Ending) (count : ℕ) (rest : List ℕ) → FitsEnding tail ending → ClosesEntries (tail_lines tail ++ (last_line ending count ++ rest))
quiet_after (Some tail) ending count rest fits = (number_at_none 4294967294 (tail_lines (Some tail) ++ (last_line ending count ++ rest)) refl, refl, refl)
quiet_after None endings.End count rest fits = absurd fits
quiet_after None (endings.Stop code) count rest fits = absurd fits
quiet_after None endings.NoneLeft count rest fits = (number_at_none 4294967294 (last_line endings.NoneLeft count ++ rest) refl, refl, refl)
quiet_after None endings.Spent count rest fits = (number_at_none 4294967294 (last_line endings.Spent count ++ rest) refl, refl, refl)

pub entries_close : (tail : Option TailParts) (ending : Ending) (count : ℕ) → FitsEnding tail ending → ClosesEntries (tail_lines tail ++ last_line ending count)
entries_close tail ending count fits = subst (λ (t : List ℕ). ClosesEntries (tail_lines tail ++ t)) (append-nil (last_line ending count)) (quiet_after tail ending count [] fits)

-- the last line is read back
pub ending_read : (has_tail : Bool) (ending : Ending) (count : ℕ) (rest : List ℕ) → EndsAs has_tail ending → count < 4294967296 → ending_at has_tail count (last_line ending count ++ rest) ≡ Some (ending, rest)
ending_read true endings.End count rest fits few = end_again count rest few
ending_read true (endings.Stop code) count rest fits few = stopped_again code count rest few
ending_read true endings.NoneLeft count rest fits few = absurd fits
ending_read true endings.Spent count rest fits few = absurd fits
ending_read false endings.End count rest fits few = absurd fits
ending_read false (endings.Stop code) count rest fits few = absurd fits
ending_read false endings.NoneLeft count rest fits few = none_again count rest few
ending_read false endings.Spent count rest fits few = spent_again count rest few

pub ending_again : (tail : Option TailParts) (ending : Ending) (count read : ℕ) (found : Bool) (text : List ℕ) → FitsEnding tail ending → count < 4294967296
    → found ≡ is_some tail → read ≡ count → text ≡ last_line ending count → ending_at found read text ≡ Some (ending, [])
ending_again tail ending count read found text fits few same number whole =
    ap (λ (b : Bool). ending_at b read text) same ∙ ap (λ (n : ℕ). ending_at (is_some tail) n text) number
    ∙ ap (ending_at (is_some tail) count) (whole ∙ sym (append-nil (last_line ending count))) ∙ ending_read (is_some tail) ending count [] fits few

pub never : false ≡ true → ⊥
never e = absurd cc

is_empty : (xs : List ℕ) → length xs ≡ 0 → xs ≡ []
is_empty [] none = refl
is_empty (x ∷ xs) none = absurd (omega (arith, none))

-- the sections of a text make up the whole
pub whole_text : (title entries tail last over text first second third : List ℕ) → text ≡ title ++ first → first ≡ entries ++ second → second ≡ tail ++ third → third ≡ last ++ over → length over ≡ 0
    → title ++ (entries ++ (tail ++ last)) ≡ text
whole_text title entries tail last over text first second third a b c d none =
    let ended : third ≡ last = d ∙ ap (λ (t : List ℕ). last ++ t) (is_empty over none) ∙ append-nil last in
    let later : second ≡ tail ++ last = c ∙ ap (λ (t : List ℕ). tail ++ t) ended in
    sym (a ∙ ap (λ (t : List ℕ). title ++ t) (b ∙ ap (λ (t : List ℕ). entries ++ t) later))
