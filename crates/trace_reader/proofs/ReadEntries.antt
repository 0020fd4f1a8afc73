-- The entries that were written are read back.
use Rattle.std.proofs.Common.{◌≡◌, inl, inr, ℕ, suc, ◌+◌, ◌<◌, ◌≤◌, Bool, true, false, cond, eqb, eq-eqb, List, [], ◌∷◌, ◌++◌, length, Some, None, refl, sym, ap, ◌∙◌, arith, append_assoc}
use Rattle.std.specs.Prelude.{codes}
use Rattle.std.specs.Char.{is_ascii_digit}
use Rattle.std.specs.Str.{all_ascii_digits}
use Rattle.std.specs.Fmt.{decimal}
use Rattle.std.proofs.lemmas.Bool.{and_parts, eqb-true}
use Rattle.std.proofs.lemmas.Fmt.{digits_decimal, decimal_nonempty}
use Rattle.trace_reader.specs.declared.trace.Side.TheVariants as sides
use Rattle.trace_reader.specs.declared.trace.Showings.{Showings}
use Rattle.trace_reader.specs.declared.trace.Showings.TheVariants as showings
use Rattle.trace_reader.specs.declared.trace.Entry.{Entry}
use Rattle.trace_reader.specs.Fields.{after}
use Rattle.trace_reader.specs.Text.{request_text, answer_text, entry_line, shown_lines, entries_text}
use Rattle.trace_reader.specs.Words.{side_at}
use Rattle.trace_reader.specs.Requests.{request_at, answer_at}
use Rattle.trace_reader.specs.Lines.{is_output, side_line_at, shown_at, showings_at, asked_at, entry_at}
use Rattle.trace_reader.specs.Ranges.{FitsShowings, FitsEntry, ClosesEntries}
use Rattle.trace_reader.proofs.Numbers.{own}
use Rattle.trace_reader.proofs.ReadLines.{number_before, number_then, request_again, answer_again}

-- no showing begins here
abbrev pub NoShowing : List ℕ → Type 0
NoShowing rest = (after (codes "SHOW ") rest ≡ None) × (after (codes "AGAIN ") rest ≡ None)

abbrev pub bare : Entry → Entry
bare entry = record { priority = entry.priority; request = entry.request; answer = entry.answer; shown = showings.None }

pub asked_again : (k : ℕ) (entry : Entry) (rest : List ℕ) → k < 4294967295 → FitsEntry entry → asked_at k (entry_line k entry ++ rest) ≡ Some (bare entry, rest)
unfolding asked_at
asked_again k entry rest few fits =
    let ending = answer_text entry.answer ++ codes "\n" in
    let answered = codes " = " ++ ending in
    let asked = codes " " ++ (request_text entry.request ++ answered) in
    let n : number_before 4294967294 k (codes " " ++ (decimal entry.priority ++ asked)) rest = number_then 4294967294 k (codes " " ++ (decimal entry.priority ++ asked)) rest (omega (arith, few)) (omega (arith, few)) refl in
    let same : eqb k k ≡ true = eq-eqb k k refl in
    let p : number_before 255 entry.priority asked rest = number_then 255 entry.priority asked rest (omega (arith, fits.0)) (omega (arith, fits.0)) refl in
    let r : request_at ((request_text entry.request ++ answered) ++ rest) ≡ Some (entry.request, answered ++ rest) =
    ap request_at (append_assoc (request_text entry.request) answered rest) ∙ request_again entry.request (answered ++ rest) fits.1 refl in
    let a : answer_at (ending ++ rest) ≡ Some (entry.answer, 10 ∷ rest) =
    ap answer_at (append_assoc (answer_text entry.answer) (codes "\n") rest) ∙ answer_again entry.answer (10 ∷ rest) fits.2 refl in
    rw (n, same, p, r, a) refl

shown_again : (shown : Showings) (rest : List ℕ) → NoShowing rest → shown_at (shown_lines shown ++ rest) ≡ (shown, rest)
unfolding shown_at side_line_at side_at
shown_again showings.None rest quiet = rw quiet.0 refl
shown_again (showings.Once sides.A) rest quiet = rw quiet.1 refl
shown_again (showings.Once sides.B) rest quiet = rw quiet.1 refl
shown_again (showings.Twice sides.A sides.A) rest quiet = refl
shown_again (showings.Twice sides.A sides.B) rest quiet = refl
shown_again (showings.Twice sides.B sides.A) rest quiet = refl
shown_again (showings.Twice sides.B sides.B) rest quiet = refl

showings_again : (entry : Entry) (rest : List ℕ) → FitsShowings entry → NoShowing rest → showings_at entry.request entry.answer (shown_lines entry.shown ++ rest) ≡ (entry.shown, rest)
unfolding showings_at
showings_again entry rest (inl output) quiet = rw output (shown_again entry.shown rest quiet)
showings_again entry rest (inr none) quiet = rw none (by_output (is_output entry.request entry.answer))
  where
    by_output : (t : Bool) → cond t (shown_at rest) (showings.None, rest) ≡ (showings.None, rest)
    by_output true = shown_again showings.None rest quiet
    by_output false = refl

pub entry_again : (k : ℕ) (entry : Entry) (rest : List ℕ) → k < 4294967295 → FitsEntry entry → NoShowing rest → entry_at k (entry_line k entry ++ (shown_lines entry.shown ++ rest)) ≡ Some (entry, rest)
unfolding entry_at
entry_again k entry rest few fits quiet =
    rw (asked_again k entry (shown_lines entry.shown ++ rest) few fits, showings_again entry rest fits.3 quiet) refl

-- where no entry begins
pub no_entry : (k : ℕ) (rest : List ℕ) → ClosesEntries rest → entry_at k rest ≡ None
unfolding entry_at asked_at
no_entry k rest closes = rw closes.0 refl

no_letter : (letter c : ℕ) → is_ascii_digit c ≡ true → is_ascii_digit letter ≡ false → eqb c letter ≡ false
no_letter letter c digit other = by_test (eqb c letter) refl
  where
    by_test : (t : Bool) → eqb c letter ≡ t → t ≡ false
    by_test true is = sym digit ∙ ap is_ascii_digit (eqb-true c letter is) ∙ other
    by_test false is = refl

no_word : (letter : ℕ) (word ds rest : List ℕ) → is_ascii_digit letter ≡ false → 0 < length ds → all_ascii_digits ds ≡ true → after (letter ∷ word) (ds ++ rest) ≡ None
no_word letter word [] rest other some digits = absurd (omega (arith, some))
no_word letter word (c ∷ ds) rest other some digits =
    let digit = (and_parts (is_ascii_digit c) (all_ascii_digits ds) digits).0 in
    rw (no_letter letter c digit other) refl

-- an entry begins with no showing
entry_no_showing : (k : ℕ) (more rest : List ℕ) → k < 4294967296 → NoShowing ((decimal k ++ more) ++ rest)
entry_no_showing k more rest few =
    let digits = digits_decimal own k (omega (arith, few)) in
    let some = decimal_nonempty k (omega (arith, few)) in
    let joined = append_assoc (decimal k) more rest in (
      ap (after (codes "SHOW ")) joined ∙ no_word 83 (codes "HOW ") (decimal k) (more ++ rest) refl some digits,
      ap (after (codes "AGAIN ")) joined ∙ no_word 65 (codes "GAIN ") (decimal k) (more ++ rest) refl some digits,
    )

-- entries begin with no showing, whatever follows them
pub entries_begin_quiet : (k : ℕ) (entry : Entry) (entries : List Entry) (rest : List ℕ) → k < 4294967296 → NoShowing (entries_text k (entry ∷ entries) ++ rest)
entries_begin_quiet k entry entries rest few =
    let line = codes " " ++ (decimal entry.priority ++ (codes " " ++ (request_text entry.request ++ (codes " = " ++ (answer_text entry.answer ++ codes "\n"))))) in
    let later = shown_lines entry.shown ++ entries_text (k + 1) entries in
    let joined : ((decimal k ++ line) ++ later) ++ rest ≡ (decimal k ++ line) ++ (later ++ rest) = append_assoc (decimal k ++ line) later rest in
    let quiet = entry_no_showing k line (later ++ rest) few in
    (ap (after (codes "SHOW ")) joined ∙ quiet.0, ap (after (codes "AGAIN ")) joined ∙ quiet.1)

entries_no_showing : (k : ℕ) (entries : List Entry) (rest : List ℕ) → k + length entries ≤ 4294967295 → ClosesEntries rest → NoShowing (entries_text k entries ++ rest)
entries_no_showing k [] rest few closes = (closes.1, closes.2)
entries_no_showing k (entry ∷ entries) rest few closes = entries_begin_quiet k entry entries rest (omega (arith, few))

-- the first of some entries is read
pub first_entry : (k : ℕ) (entry : Entry) (entries : List Entry) (rest : List ℕ) → k + suc (length entries) ≤ 4294967295 → FitsEntry entry → ClosesEntries rest
    → entry_at k (entries_text k (entry ∷ entries) ++ rest) ≡ Some (entry, entries_text (k + 1) entries ++ rest)
first_entry k entry entries rest few fits closes =
    let later = entries_text (k + 1) entries in
    ap (entry_at k) (append_assoc (entry_line k entry) (shown_lines entry.shown ++ later) rest ∙ ap (λ (t : List ℕ). entry_line k entry ++ t) (append_assoc (shown_lines entry.shown) later rest))
    ∙ entry_again k entry (later ++ rest) (omega (arith, few)) fits (entries_no_showing (k + 1) entries rest (omega (arith, few)) closes)
