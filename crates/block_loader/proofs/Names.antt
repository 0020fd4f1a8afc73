-- A map of the names so far, and the labels so far.
use Rattle.std.proofs.Common.{◌≡◌, ◌≤◌, ◌<◌, ℕ, suc, List, [], ◌∷◌, ◌++◌, ◌+◌, refl, subst, sym, ◌∙◌, Bool, true, false, cond, length, take, drop, get_or, add-one, arith}
use Rattle.std.proofs.Math.Seq.{drop-cons}
use Rattle.std.proofs.lemmas.List.{take_more}
use Rattle.std.proofs.Math.ListN.{drop_of_length-le}
use Rattle.std.specs.Prelude.{Option, Some, None}
use Rattle.std.specs.List.{find, flat_map}
use Rattle.std.specs.Option.{option_map, is_some}
use Rattle.std.specs.Str.{bytes_eq}
use Rattle.std.specs.Ordering.{nat_cmp, is_eq}
use Rattle.std.specs.Cmp.Lexicographic.{slice_cmp}
use Rattle.std.proofs.lemmas.Cmp.{same_from_slice_cmp}
use Rattle.std.proofs.lemmas.Bool.Decides.{nat_tests}
use Rattle.std.proofs.lemmas.Slice.Eq.{bytes_eq-Decides}
use Rattle.stl_reader.specs.declared.items.BodyStatement.{BodyStatement}
use Rattle.stl_reader.specs.declared.contents.Label.{Label}
use Rattle.stl_reader.specs.declared.contents.Jump.{Jump}
use Rattle.stl_decl.specs.declared.fault.Fault.{Fault}
use Rattle.block_loader.specs.declared.blocks.SourceCode.{SourceCode}
use Rattle.block_loader.specs.Faults.{target, with_label, least_of, lesser, double_labels, double_label, jump_fault, jump_faults, code_faults}

-- names that compare as equal are equal
pub same_name : (a b : List ℕ) → is_eq (slice_cmp nat_cmp a b) ≡ bytes_eq a b
same_name a b =
    same_from_slice_cmp nat_cmp is_eq bytes_eq refl (λ y ys. refl) (λ x xs. refl) (λ x y xs ys o h. grind (arith, nat_tests)) a b (slice_cmp nat_cmp a b) refl

-- what an index past the list gives
abbrev pub no_label_there : Label
no_label_there = record { name = []; statement = 0; line = 0; column = 0 }

abbrev pub no_jump_there : Jump
no_jump_there = record { statement = 0; name = [] }

none_of : (o : Option ℕ) → is_some o ≡ false → o ≡ None
none_of None e = refl
none_of (Some n) e = cc

-- one more name, by whether it is this one
by_test : (b : Bool) (o v : Option ℕ) (n : ℕ) → v ≡ cond b (Some n) o → (b ≡ true → o ≡ None) → v ≡ elim o [ Some m ↦ Some m | None ↦ cond b (Some n) None ]
by_test true None v n e h = e
by_test true (Some m) v n e h = let z = h refl in cc
by_test false None v n e h = e
by_test false (Some m) v n e h = e

as_label : (o : Option ℕ) (k : List ℕ) (l : Label) → elim o [ Some m ↦ Some m | None ↦ cond (bytes_eq l.name k) (Some l.statement) None ] ≡ with_label o k l
as_label None k l = refl
as_label (Some m) k l = refl

-- after the insertion of a name that wasn't there
pub inserted : (old new : List ℕ → Option ℕ) (l : Label) → ((q : List ℕ) → new q ≡ cond (bytes_eq l.name q) (Some l.statement) (old q)) → is_some (old l.name) ≡ false → (k : List ℕ) → new k ≡ with_label (old k) k l
inserted old new l updates absent k =
    by_test (bytes_eq l.name k) (old k) (new k) l.statement (updates k)
    (λ is. let e : l.name ≡ k = (bytes_eq-Decides l.name k).0 is in rw (← e) (none_of (old l.name) absent))
    ∙ as_label (old k) k l

-- the least of two lists, one after the other
pub least_append : (o : Option Fault) (xs ys : List Fault) → least_of o (xs ++ ys) ≡ least_of (least_of o xs) ys
unfolding least_of
least_append o [] ys = refl
least_append o (x ∷ xs) ys = least_append (lesser o x) xs ys

push_none : (b : Bool) (l : Label) → option_map (λ m. m.statement) (cond b (Some l) None) ≡ cond b (Some l.statement) None
push_none true l = refl
push_none false l = refl

push_some : (b : Bool) (x l : Label) (k : List ℕ) (found found' : Option Label) → option_map (λ m. m.statement) found' ≡ with_label (option_map (λ m. m.statement) found) k l → option_map (λ m. m.statement) (cond b (Some x) found') ≡ with_label (option_map (λ m. m.statement) (cond b (Some x) found)) k l
push_some true x l k found found' e = refl
push_some false x l k found found' e = e

-- one more label
pub target_push : (front : List Label) (l : Label) (k : List ℕ) → target (front ++ l ∷ []) k ≡ with_label (target front k) k l
target_push [] l k = push_none (bytes_eq l.name k) l
target_push (x ∷ front) l k = push_some (bytes_eq x.name k) x l k (find (λ m. bytes_eq m.name k) front) (find (λ m. bytes_eq m.name k) (front ++ l ∷ [])) (target_push front l k)

-- a loop over a list: what is found so far, and the faults of what is left
module _ {X : Type 0} (f : X → List Fault) (xs : List X) (i : ℕ) (d : X) where
  pub next_one : (o o' all : Option Fault) → i < length xs → o' ≡ least_of o (f (get_or xs i d)) → least_of o (flat_map f (drop i xs)) ≡ all → least_of o' (flat_map f (drop (i + 1) xs)) ≡ all
  next_one o o' all h e here =
      let split : drop i xs ≡ get_or xs i d ∷ drop (suc i) xs = drop-cons xs i d h in
      let more : least_of o (f (get_or xs i d) ++ flat_map f (drop (suc i) xs)) ≡ all = subst (λ ys. least_of o (flat_map f ys) ≡ all) split here in
      rw (add-one, e) (sym (least_append o (f (get_or xs i d)) (flat_map f (drop (suc i) xs))) ∙ more)

  pub none_left : (o all : Option Fault) → length xs ≤ i → least_of o (flat_map f (drop i xs)) ≡ all → o ≡ all
  unfolding least_of
  none_left o all h here = let e : drop i xs ≡ [] = drop_of_length-le xs h in subst (λ ys. least_of o (flat_map f ys) ≡ all) e here

module _ (xs : List Label) (i : ℕ) (d : Label) where
  pub next_label : (o o' all : Option Fault) → i < length xs → o' ≡ least_of o (double_label (target (take i xs) (get_or xs i d).name) (get_or xs i d)) → least_of o (double_labels (take i xs) (drop i xs)) ≡ all → least_of o' (double_labels (take (i + 1) xs) (drop (i + 1) xs)) ≡ all
  unfolding double_labels
  next_label o o' all h e here =
      let split : drop i xs ≡ get_or xs i d ∷ drop (suc i) xs = drop-cons xs i d h in
      let more : least_of o (double_label (target (take i xs) (get_or xs i d).name) (get_or xs i d) ++ double_labels (take i xs ++ get_or xs i d ∷ []) (drop (suc i) xs)) ≡ all = subst (λ ys. least_of o (double_labels (take i xs) ys) ≡ all) split here in
      rw (take_more xs i d h, add-one, e) (sym (least_append o (double_label (target (take i xs) (get_or xs i d).name) (get_or xs i d)) (double_labels (take i xs ++ get_or xs i d ∷ []) (drop (suc i) xs))) ∙ more)

  pub no_label : (o all : Option Fault) → length xs ≤ i → least_of o (double_labels (take i xs) (drop i xs)) ≡ all → o ≡ all
  unfolding least_of double_labels
  no_label o all h here = let e : drop i xs ≡ [] = drop_of_length-le xs h in subst (λ ys. least_of o (double_labels (take i xs) ys) ≡ all) e here

  pub next_names : (old new : List ℕ → Option ℕ) → i < length xs → ((k : List ℕ) → old k ≡ target (take i xs) k) → ((k : List ℕ) → new k ≡ with_label (old k) k (get_or xs i d)) → (k : List ℕ) → new k ≡ target (take (i + 1) xs) k
  next_names old new h here more k = rw (take_more xs i d h, more k, here k) (sym (target_push (take i xs) (get_or xs i d) k))

  pub at_target : (names : List ℕ → Option ℕ) (o o' : Option Fault) → ((k : List ℕ) → names k ≡ target (take i xs) k) → o' ≡ least_of o (double_label (names (get_or xs i d).name) (get_or xs i d)) → o' ≡ least_of o (double_label (target (take i xs) (get_or xs i d).name) (get_or xs i d))
  at_target names o o' here e = subst (λ t. o' ≡ least_of o (double_label t (get_or xs i d))) (here (get_or xs i d).name) e

-- the jumps judged by the map are those judged by the labels
pub same_jumps : (statements : List BodyStatement) (names : List ℕ → Option ℕ) (labels : List Label) (jumps : List Jump) → ((k : List ℕ) → names k ≡ target labels k) → flat_map (λ j. jump_fault statements (names j.name) j) jumps ≡ jump_faults statements labels jumps
same_jumps statements names labels [] e = refl
same_jumps statements names labels (j ∷ js) e = rw (e j.name, same_jumps statements names labels js e) refl

pub block_found : (names : List ℕ → Option ℕ) (code : SourceCode) (o o' o'' : Option Fault) → ((k : List ℕ) → names k ≡ target code.body.labels k) → o' ≡ least_of o (double_labels [] code.body.labels) → o'' ≡ least_of o' (flat_map (λ j. jump_fault code.body.statements (names j.name) j) code.body.jumps) → o'' ≡ least_of o (code_faults code)
block_found names code o o' o'' e f g =
    rw (g, f, same_jumps code.body.statements names code.body.labels code.body.jumps e) (sym (least_append o (double_labels [] code.body.labels) (jump_faults code.body.statements code.body.labels code.body.jumps)))
