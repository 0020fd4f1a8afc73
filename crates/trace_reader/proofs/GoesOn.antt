-- Reading section by section: what is left of a section that was written.
use Rattle.std.proofs.Common.{◌≡◌, ℕ, suc, ◌+◌, ◌<◌, ◌≤◌, List, [], ◌∷◌, ◌++◌, length, Option, Some, None, refl, sym, ap, ◌∙◌, arith, append_assoc, length-append}
use Rattle.std.specs.Prelude.{codes}
use Rattle.std.specs.List.{flat_map}
use Rattle.trace_reader.specs.Fields.{after}
use Rattle.std.proofs.lemmas.List.{append-nil}
use Rattle.trace_reader.specs.declared.trace.Entry.{Entry}
use Rattle.trace_reader.specs.Text.{entries_text}
use Rattle.trace_reader.specs.Lines.{entry_at, block_at, counter_at}
use Rattle.trace_reader.specs.Ranges.{Each, FitsEntry, ClosesEntries}
use Rattle.trace_reader.proofs.ReadEntries.{first_entry, no_entry}

-- what was read, with the text after it
abbrev pub read_as : {A : Type 0} → A → List ℕ → Option (A × List ℕ)
read_as x rest = Some (x, rest)

got : {A : Type 0} → A → Option (A × List ℕ) → A
got other None = other
got other (Some p) = p.0

text_left : {A : Type 0} → Option (A × List ℕ) → List ℕ
text_left None = []
text_left (Some p) = p.1

pub pair_is : {A : Type 0} (x y : A) (xs ys : List ℕ) → read_as x xs ≡ read_as y ys → (x ≡ y) × (xs ≡ ys)
unfolding got text_left
pair_is x y xs ys e = (ap (got x) e, ap text_left e)

-- ---- lines of one form

-- of all the lines these are left
abbrev pub Left : {A : Type 0} → (A → List ℕ) → (A → Type 0) → List A → List A → List ℕ → List ℕ → Type 0
Left {A} line Fits all read rest end = (more : List A) × (all ≡ read ++ more) × Each Fits more × (rest ≡ flat_map line more ++ end)

pub left_at_first : {A : Type 0} (line : A → List ℕ) (Fits : A → Type 0) (all : List A) (text end : List ℕ) → Each Fits all → text ≡ flat_map line all ++ end → Left line Fits all [] text end
left_at_first line Fits all text end fit whole = (all, refl, fit, whole)

-- a line was read
pub one_less : {A : Type 0} (line : A → List ℕ) (Fits : A → Type 0) (read_at : List ℕ → Option (A × List ℕ)) (all read : List A) (rest end next : List ℕ) (x : A)
    → ((y : A) (after : List ℕ) → Fits y → read_at (line y ++ after) ≡ Some (y, after)) → read_at end ≡ None
    → read_at rest ≡ Some (x, next) → Left line Fits all read rest end → Left line Fits all (read ++ x ∷ []) next end
one_less {A} line Fits read_at all read rest end next x again closed found ([], whole, fit, here) = absurd (clash (sym found ∙ ap read_at here ∙ closed))
  where
    clash : read_as x next ≡ None → ⊥
    clash e = absurd cc
one_less {A} line Fits read_at all read rest end next x again closed found (y ∷ more, whole, fit, here) =
    let taken = pair_is y x (flat_map line more ++ end) next (sym (again y (flat_map line more ++ end) fit.0) ∙ sym (ap read_at (here ∙ append_assoc (line y) (flat_map line more) end)) ∙ found) in
    (more, whole ∙ ap (λ (z : A). read ++ z ∷ more) taken.0 ∙ sym (append_assoc read (x ∷ []) more), fit.1, sym taken.1)

-- no line is left
pub none_left : {A : Type 0} (line : A → List ℕ) (Fits : A → Type 0) (read_at : List ℕ → Option (A × List ℕ)) (all read : List A) (rest end : List ℕ)
    → ((y : A) (after : List ℕ) → Fits y → read_at (line y ++ after) ≡ Some (y, after))
    → read_at rest ≡ None → Left line Fits all read rest end → (read ≡ all) × (rest ≡ end)
none_left line Fits read_at all read rest end again over ([], whole, fit, here) = (sym (whole ∙ append-nil read), here)
none_left line Fits read_at all read rest end again over (y ∷ more, whole, fit, here) =
    absurd (clash (sym (again y (flat_map line more ++ end) fit.0) ∙ sym (ap read_at (here ∙ append_assoc (line y) (flat_map line more) end)) ∙ over))
  where
    clash : read_as y (flat_map line more ++ end) ≡ None → ⊥
    clash e = absurd cc

-- ---- entries

abbrev pub EntriesLeft : List Entry → List Entry → List ℕ → List ℕ → Type 0
EntriesLeft all read rest end = (more : List Entry) × (all ≡ read ++ more) × Each FitsEntry more × (rest ≡ entries_text (length read) more ++ end)

within : (all read : List Entry) (e : Entry) (more : List Entry) → all ≡ read ++ e ∷ more → length all < 4294967296 → length read + suc (length more) ≤ 4294967295
within all read e more whole few =
    let n : length all ≡ length read + suc (length more) = ap length whole ∙ length-append read (e ∷ more) in
    omega (arith, n, few)

one_longer : (read : List Entry) (e : Entry) → length (read ++ e ∷ []) ≡ length read + 1
one_longer read e = length-append read (e ∷ [])

pub entry_less : (all read : List Entry) (rest end next : List ℕ) (x : Entry) → length all < 4294967296 → ClosesEntries end
    → entry_at (length read) rest ≡ Some (x, next) → EntriesLeft all read rest end → EntriesLeft all (read ++ x ∷ []) next end
entry_less all read rest end next x few closes found ([], whole, fit, here) = absurd (clash (sym found ∙ ap (entry_at (length read)) here ∙ no_entry (length read) end closes))
  where
    clash : read_as x next ≡ None → ⊥
    clash e = absurd cc
entry_less all read rest end next x few closes found (y ∷ more, whole, fit, here) =
    let k = length read in
    let taken = pair_is y x (entries_text (k + 1) more ++ end) next (sym (first_entry k y more end (within all read y more whole few) fit.0 closes) ∙ sym (ap (entry_at k) here) ∙ found) in
    (more, whole ∙ ap (λ (z : Entry). read ++ z ∷ more) taken.0 ∙ sym (append_assoc read (x ∷ []) more), fit.1, sym taken.1 ∙ ap (λ (n : ℕ). entries_text n more ++ end) (sym (one_longer read x)))

pub no_entry_left : (all read : List Entry) (rest end : List ℕ) → length all < 4294967296 → ClosesEntries end
    → entry_at (length read) rest ≡ None → EntriesLeft all read rest end → (read ≡ all) × (rest ≡ end)
no_entry_left all read rest end few closes over ([], whole, fit, here) = (sym (whole ∙ append-nil read), here)
no_entry_left all read rest end few closes over (y ∷ more, whole, fit, here) =
    absurd (clash (sym (first_entry (length read) y more end (within all read y more whole few) fit.0 closes) ∙ sym (ap (entry_at (length read)) here) ∙ over))
  where
    clash : read_as y (entries_text (length read + 1) more ++ end) ≡ None → ⊥
    clash e = absurd cc

-- ---- a given number of lines

-- one of a given number of lines was read
pub one_of_many_less : {A : Type 0} (line : A → List ℕ) (Fits : A → Type 0) (read_at : List ℕ → Option (A × List ℕ)) (all read : List A) (rest end next : List ℕ) (x : A)
    → ((y : A) (after : List ℕ) → Fits y → read_at (line y ++ after) ≡ Some (y, after)) → length read < length all
    → read_at rest ≡ Some (x, next) → Left line Fits all read rest end → Left line Fits all (read ++ x ∷ []) next end
one_of_many_less {A} line Fits read_at all read rest end next x again short found ([], whole, fit, here) =
    let n : length all ≡ length read = ap length (whole ∙ append-nil read) in
    absurd (omega (arith, n, short))
one_of_many_less {A} line Fits read_at all read rest end next x again short found (y ∷ more, whole, fit, here) =
    let taken = pair_is y x (flat_map line more ++ end) next (sym (again y (flat_map line more ++ end) fit.0) ∙ sym (ap read_at (here ∙ append_assoc (line y) (flat_map line more) end)) ∙ found) in
    (more, whole ∙ ap (λ (z : A). read ++ z ∷ more) taken.0 ∙ sym (append_assoc read (x ∷ []) more), fit.1, sym taken.1)

-- the last of a given number of lines was read
pub many_done : {A : Type 0} (line : A → List ℕ) (Fits : A → Type 0) (all read : List A) (rest end : List ℕ) → length all ≤ length read → Left line Fits all read rest end → rest ≡ end
many_done line Fits all read rest end full ([], whole, fit, here) = here
many_done line Fits all read rest end full (y ∷ more, whole, fit, here) =
    let n : length all ≡ length read + suc (length more) = ap length whole ∙ length-append read (y ∷ more) in
    absurd (omega (arith, n, full))

-- no data block and no counter begins here
pub no_block : (rest : List ℕ) → after (codes "DB ") rest ≡ None → block_at rest ≡ None
unfolding block_at
no_block rest closed = rw closed refl

pub no_counter : (rest : List ℕ) → after (codes "C ") rest ≡ None → counter_at rest ≡ None
unfolding counter_at
no_counter rest closed = rw closed refl

pub no_reading : {A : Type 0} (x : A) (rest : List ℕ) (o : Option (A × List ℕ)) → None ≡ o → o ≡ read_as x rest → ⊥
no_reading x rest o none some = absurd cc

-- the text that is left
pub same_left : {A : Type 0} (x y : A) (xs ys : List ℕ) (o : Option (A × List ℕ)) → read_as x xs ≡ o → o ≡ read_as y ys → xs ≡ ys
same_left x y xs ys o e f = (pair_is x y xs ys (e ∙ f)).1
