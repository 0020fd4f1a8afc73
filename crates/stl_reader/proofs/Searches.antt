-- A search among the numbers of the elements that may pass gives what the search of the whole list gives.
use Rattle.std.proofs.Common.{◌≡◌, ℕ, suc, ◌+◌, ◌++◌, List, [], ◌∷◌, Bool, true, false, cond, ◌||◌, refl, ap, sym, ◌∙◌, arith}
use Rattle.std.specs.Prelude.{Option, Some, None, slice_get}
use Rattle.std.specs.List.{find, list_any, position, position_from}
use Rattle.std.proofs.lemmas.Bool.{false_from_ne_true}
use Rattle.std.proofs.lemmas.Iterator.Adapters.{position_from-zero}
use Rattle.instruction_set.specs.declared.table.InstructionRow.{InstructionRow}
use Rattle.instruction_set.specs.InstructionSet.{instruction_set}
use Rattle.stl_reader.specs.Letters.{numbers_where, passes, read_at, begins_like, numbers_like}

abbrev read_by : {A : Type 0} → (ℕ → Option A) → Option ℕ → Option A
read_by at None = None
read_by at (Some n) = at n

same_read : {A : Type 0} (xs : List A) (o : Option ℕ) → read_at xs o ≡ read_by (slice_get xs) o
same_read xs None = refl
same_read xs (Some n) = refl

module _ {A : Type 0} (test may : A → Bool) (implied : (x : A) → test x ≡ true → may x ≡ true) where
  -- what may not pass doesn't
  fails : (x : A) → may x ≡ false → test x ≡ false
  fails x is = false_from_ne_true (test x) (λ e. let h : may x ≡ true = implied x e in cc)

  -- the list stands at n by these look-ups
  abbrev StandsAt : (ℕ → Option A) → ℕ → List A → Type 0
  StandsAt at n xs = (i : ℕ) → at (n + i) ≡ slice_get xs i

  first_there : (at : ℕ → Option A) (n : ℕ) (x : A) (xs : List A) → StandsAt at n (x ∷ xs) → at n ≡ Some x
  first_there at n x xs h = let e : n ≡ n + 0 = omega arith in ap at e ∙ h 0

  others_there : (at : ℕ → Option A) (n : ℕ) (x : A) (xs : List A) → StandsAt at n (x ∷ xs) → StandsAt at (n + 1) xs
  others_there at n x xs h i = let e : n + 1 + i ≡ n + suc i = omega arith in ap at e ∙ h (suc i)

  any_one : (at : ℕ → Option A) (n : ℕ) (x : A) (ns : List ℕ) (b : Bool) (later : Bool) → may x ≡ b → at n ≡ Some x → list_any (λ k. passes test (at k)) ns ≡ later → list_any (λ k. passes test (at k)) (cond b (n ∷ []) [] ++ ns) ≡ (test x || later)
  any_one at n x ns true later is there e =
      ap (λ o. passes test o || list_any (λ k. passes test (at k)) ns) there ∙ ap (λ b. test x || b) e
  any_one at n x ns false later is there e = e ∙ sym (ap (λ b. b || later) (fails x is))

  any_where : (at : ℕ → Option A) (n : ℕ) (xs : List A) → StandsAt at n xs → list_any (λ k. passes test (at k)) (numbers_where may n xs) ≡ list_any test xs
  unfolding numbers_where
  any_where at n [] h = refl
  any_where at n (x ∷ xs) h =
      any_one at n x (numbers_where may (n + 1) xs) (may x) (list_any test xs) refl (first_there at n x xs h) (any_where at (n + 1) xs (others_there at n x xs h))

  position_one : (at : ℕ → Option A) (n : ℕ) (x : A) (ns : List ℕ) (b : Bool) (later : Option ℕ) → may x ≡ b → at n ≡ Some x → find (λ k. passes test (at k)) ns ≡ later → find (λ k. passes test (at k)) (cond b (n ∷ []) [] ++ ns) ≡ cond (test x) (Some n) later
  position_one at n x ns true later is there e =
      ap (λ o. cond (passes test o) (Some n) (find (λ k. passes test (at k)) ns)) there ∙ ap (λ o. cond (test x) (Some n) o) e
  position_one at n x ns false later is there e = e ∙ sym (ap (λ b. cond b (Some n) later) (fails x is))

  position_where : (at : ℕ → Option A) (n : ℕ) (xs : List A) → StandsAt at n xs → find (λ k. passes test (at k)) (numbers_where may n xs) ≡ position_from test n xs
  unfolding numbers_where
  position_where at n [] h = refl
  position_where at n (x ∷ xs) h =
      position_one at n x (numbers_where may (n + 1) xs) (may x) (position_from test (n + 1) xs) refl (first_there at n x xs h) (position_where at (n + 1) xs (others_there at n x xs h))

  row_one : (at : ℕ → Option A) (n : ℕ) (x : A) (b : Bool) (later : Option ℕ) (others : Option A) → at n ≡ Some x → read_by at later ≡ others → read_by at (cond b (Some n) later) ≡ cond b (Some x) others
  row_one at n x true later others there e = there
  row_one at n x false later others there e = e

  row_from : (at : ℕ → Option A) (n : ℕ) (xs : List A) → StandsAt at n xs → read_by at (position_from test n xs) ≡ find test xs
  row_from at n [] h = refl
  row_from at n (x ∷ xs) h =
      row_one at n x (test x) (position_from test (n + 1) xs) (find test xs) (first_there at n x xs h) (row_from at (n + 1) xs (others_there at n x xs h))

-- the same of the instruction set, for a test that passes only where the mnemonic begins like the letter
module _ (test : InstructionRow → Bool) (rows : List InstructionRow) (numbers : List ℕ) (letter : ℕ) (implied : (row : InstructionRow) → test row ≡ true → begins_like letter row ≡ true) (set : rows ≡ instruction_set) (like : numbers ≡ numbers_like letter) where
  all_there : (i : ℕ) → slice_get rows (0 + i) ≡ slice_get rows i
  all_there i = let e : 0 + i ≡ i = omega arith in ap (slice_get rows) e

  are_numbers : numbers ≡ numbers_where (begins_like letter) 0 rows
  unfolding numbers_like
  are_numbers = like ∙ ap (numbers_where (begins_like letter) 0) (sym set)

  pub any_like : list_any (λ n. passes test (slice_get rows n)) numbers ≡ list_any test instruction_set
  any_like =
      ap (list_any (λ n. passes test (slice_get rows n))) are_numbers
      ∙ any_where test (begins_like letter) implied (slice_get rows) 0 rows all_there
      ∙ ap (list_any test) set

  position_in : find (λ n. passes test (slice_get rows n)) numbers ≡ position_from test 0 rows
  position_in =
      ap (find (λ n. passes test (slice_get rows n))) are_numbers
      ∙ position_where test (begins_like letter) implied (slice_get rows) 0 rows all_there

  pub position_like : find (λ n. passes test (slice_get rows n)) numbers ≡ position test instruction_set
  position_like = position_in ∙ sym (position_from-zero test rows) ∙ ap (position test) set

  pub row_like : read_at rows (find (λ n. passes test (slice_get rows n)) numbers) ≡ find test instruction_set
  row_like =
      same_read rows (find (λ n. passes test (slice_get rows n)) numbers)
      ∙ ap (read_by (slice_get rows)) position_in
      ∙ row_from test (begins_like letter) implied (slice_get rows) 0 rows all_there
      ∙ ap (find test) set
