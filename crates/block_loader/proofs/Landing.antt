-- The jumps of a body without a fault land.
use Rattle.std.proofs.Common.{◌≡◌, ◌∙◌, ◌≤◌, ◌+◌, ◌-◌, ℕ, zero, suc, List, [], ◌∷◌, ◌++◌, length, map, take, drop, refl, sym, ap, subst, Bool, true, false, cond, not, ◌&&◌, ◌||◌, arith, append_assoc, length-append}
use Rattle.std.specs.Prelude.{All, IsTrue, Option, Some, None, nat_lt, nat_le, slice_get}
use Rattle.std.specs.List.{fold, find, flat_map, list_all}
use Rattle.std.specs.Option.{option_map}
use Rattle.std.specs.Str.{bytes_eq}
use Rattle.std.proofs.Math.Seq.{drop-append-add, set-append_seam}
use Rattle.std.proofs.lemmas.Bool.{and_from, le-leb, ltb-false, not-false, or_parts, or_right}
use Rattle.std.proofs.lemmas.List.{length-map}
use Rattle.std.proofs.lemmas.List.Elements.{All-nil, All-cons, All-head, All-tail}
use Rattle.instruction_set.specs.declared.operands.OperandArea.TheVariants.{Target}
use Rattle.s7_base.specs.declared.statement.Statement.{Statement}
use Rattle.s7_base.specs.Operands.{is_in}
use Rattle.s7_base.specs.Statements.{is_statement, all_land, lands, is_target, is_list, is_ju, is_jl}
use Rattle.stl_decl.specs.declared.fault.FaultKind.TheVariants.{NoLabel, JumpTooFar}
use Rattle.stl_reader.specs.declared.items.BodyStatement.{BodyStatement}
use Rattle.stl_reader.specs.declared.contents.Jump.{Jump}
use Rattle.stl_reader.specs.declared.contents.Label.{Label}
use Rattle.stl_reader.specs.Contents.{Contents}
use Rattle.stl_reader.specs.Sound.{IsSound, jump_places}
use Rattle.stl_decl.specs.declared.fault.Fault.{Fault}
use Rattle.block_loader.specs.Faults.{target, is_far, has_list, label_fault, fault_of_jump, jump_fault, jump_faults, fault_at}
use Rattle.block_loader.specs.Load.{with_target, jumping, landed_one, landed}
use Rattle.block_loader.proofs.Values.{still_statement}

-- the statements once all jumps have their targets: as many as before, of the language, and each jump lands
pub record IsLanded (locals : ℕ) (body : Contents) : Type 0 where
  pub count : length (landed body) ≡ length body.statements
  pub language : All (λ s. IsTrue (is_statement locals s)) (landed body)
  pub jumps : IsTrue (all_land 0 (landed body))

-- the element behind a front
at_seam : {A : Type 0} (front : List A) (x : A) (after : List A) → slice_get (front ++ x ∷ after) (length front) ≡ Some x
at_seam [] x after = refl
at_seam (y ∷ front) x after = at_seam front x after

-- a label names a statement or the end
named_within : (most : ℕ) (labels : List Label) (name : List ℕ) (goal : ℕ) → All (λ l. l.statement ≤ most) labels → target labels name ≡ Some goal → goal ≤ most
named_within most [] name goal h e = absurd cc
named_within most (l ∷ ls) name goal h e = by (named_within most ls name goal (All-tail (λ l. l.statement ≤ most) l ls h)) (bytes_eq l.name name) e
  where
    by : (target ls name ≡ Some goal → goal ≤ most) → (t : Bool) → option_map (λ l. l.statement) (cond t (Some l) (find (λ l. bytes_eq l.name name) ls)) ≡ Some goal → goal ≤ most
    by rest true e = let same : l.statement ≡ goal = cc in subst (λ n. n ≤ most) same (All-head (λ l. l.statement ≤ most) l ls h)
    by rest false e = rest e

as_many : (rest : List Statement) (ss : List BodyStatement) → map (λ s. s.op) rest ≡ map (λ s. s.statement.op) ss → length rest ≡ length ss
as_many rest ss e = sym (length-map rest (λ s. s.op)) ∙ (ap length e ∙ length-map ss (λ s. s.statement.op))

-- as many JU, where the operations are the same
same_ju : (n : ℕ) (rest : List Statement) (ss : List BodyStatement) → map (λ s. s.op) rest ≡ map (λ s. s.statement.op) ss → list_all (λ s. is_ju s.statement) (take n ss) ≡ list_all is_ju (take n rest)
same_ju zero rest ss e = refl
same_ju (suc n) [] [] e = refl
same_ju (suc n) [] (s ∷ ss) e = absurd cc
same_ju (suc n) (r ∷ rest) [] e = absurd cc
same_ju (suc n) (r ∷ rest) (s ∷ ss) e =
    let op : r.op ≡ s.statement.op = cc in
    let ops : map (λ s. s.op) rest ≡ map (λ s. s.statement.op) ss = cc in
    rw (same_ju n rest ss ops, op) refl

-- what is known of a jump that has no fault
record IsFree (at : ℕ) (named : Option ℕ) (s : BodyStatement) (after : List BodyStatement) : Type 0 where
  goal : ℕ
  is : named ≡ Some goal
  list : (is_jl s.statement && not (has_list at goal after)) ≡ false
  near : is_far goal at ≡ false

free : (j : Jump) (named : Option ℕ) (s : BodyStatement) (after : List BodyStatement) → label_fault j named s after ≡ [] → IsFree j.statement named s after
free j None s after e = absurd cc
free j (Some goal) s after e = by (is_jl s.statement && not (has_list j.statement goal after)) (is_far goal j.statement) refl refl e
  where
    by : (t u : Bool) → (is_jl s.statement && not (has_list j.statement goal after)) ≡ t → is_far goal j.statement ≡ u → cond {A = List Fault} t (fault_at NoLabel s ∷ []) (cond {A = List Fault} u (fault_at JumpTooFar s ∷ []) []) ≡ [] → IsFree j.statement (Some goal) s after
    by true u list near e = absurd cc
    by false true list near e = absurd cc
    by false false list near e = record { goal = goal; is = refl; list = list; near = near }

-- the jump behind a front has no fault
found_free : (j : Jump) (named : Option ℕ) (before : List BodyStatement) (s : BodyStatement) (after : List BodyStatement) → j.statement ≡ length before → jump_fault (before ++ s ∷ after) named j ≡ [] → IsFree j.statement named s after
unfolding jump_fault
found_free j named before s after at e =
    let whole : List BodyStatement = before ++ s ∷ after in
    let here = subst (λ n. fault_of_jump j named (slice_get whole n) (drop (n + 1) whole) ≡ []) at e in
    let there = subst (λ o. fault_of_jump j named o (drop (length before + 1) whole) ≡ []) (at_seam before s after) here in
    free j named s after (subst (λ ss. label_fault j named s ss ≡ []) (drop-append-add before (s ∷ after) 1) there)

no_faults : (fs gs : List Fault) → fs ++ gs ≡ [] → (fs ≡ []) × (gs ≡ [])
no_faults [] gs e = (refl, e)
no_faults (f ∷ fs) gs e = absurd cc

-- the statement behind a front gets its target
placed_behind : (front : List Statement) (s : Statement) (after : List Statement) (at goal : ℕ) (named : Option ℕ) → at ≡ length front → named ≡ Some goal → jumping (front ++ s ∷ after) at named ≡ front ++ with_target goal s ∷ after
placed_behind front s after at goal named e f = rw (e, f, at_seam front s after) (set-append_seam front s after (with_target goal s))

but_third : (x y z u : Bool) → (x && y && z && u) ≡ true → (x && y && u) ≡ true
but_third false y z u e = absurd cc
but_third true false z u e = absurd cc
but_third true true false u e = absurd cc
but_third true true true u e = e

-- a jump without a fault lands
free_lands : (at goal : ℕ) (s : BodyStatement) (after : List BodyStatement) (rest : List Statement) → map (λ s. s.op) rest ≡ map (λ s. s.statement.op) after → (is_jl s.statement && not (has_list at goal after)) ≡ false → is_far goal at ≡ false → goal ≤ at + 1 + length after → lands at (with_target goal s.statement) rest ≡ true
free_lands at goal s after rest ops list near within =
    let count : length rest ≡ length after = as_many rest after ops in
    let sides = or_parts (nat_lt (goal + 2000) at) (nat_lt (at + 2000) goal) near in
    let ends = le-leb goal (at + 1 + length rest) (omega arith) in
    let back = le-leb at (goal + 2000) (ltb-false (goal + 2000) at sides.0) in
    let ahead = le-leb goal (at + 2000) (ltb-false (at + 2000) goal sides.1) in
    let there : is_target at goal rest ≡ true = rw (ends, back, ahead) refl in
    or_right (not (is_in Target (with_target goal s.statement))) _ (and_from (is_target at goal rest) (not (is_jl s.statement) || is_list at goal rest) there (by (is_jl s.statement) list))
  where
    by : (t : Bool) → (t && not (has_list at goal after)) ≡ false → (not t || is_list at goal rest) ≡ true
    by false e = refl
    by true e =
        let listed = but_third (nat_le (at + 2) goal) (nat_le goal (at + 256)) (nat_le goal (at + 1 + length after)) (list_all (λ s. is_ju s.statement) (take (goal - (at + 1)) after)) (not-false (has_list at goal after) e) in
        subst (λ t. (nat_le (at + 2) goal && nat_le goal (at + 256) && t) ≡ true) (same_ju (goal - (at + 1)) rest after ops) listed

-- the statements behind a front once their jumps have their targets
record IsRest (locals : ℕ) (front all : List Statement) (ss : List BodyStatement) : Type 0 where
  rest : List Statement
  is : all ≡ front ++ rest
  ops : map (λ s. s.op) rest ≡ map (λ s. s.statement.op) ss
  language : All (λ s. IsTrue (is_statement locals s)) rest
  jumps : all_land (length front) rest ≡ true

module _ (locals : ℕ) where
  nothing_left : (front : List Statement) → IsRest locals front (front ++ []) []
  nothing_left front = record { rest = []; is = refl; ops = refl; language = All-nil (λ s. IsTrue (is_statement locals s)); jumps = refl }

  -- one more statement before them
  one_before : (front all : List Statement) (t : Statement) (s : BodyStatement) (ss : List BodyStatement) → t.op ≡ s.statement.op → is_statement locals t ≡ true → (next : IsRest locals (front ++ t ∷ []) all ss) → lands (length front) t next.rest ≡ true → IsRest locals front all (s ∷ ss)
  one_before front all t s ss op language next land =
      let count : length (front ++ t ∷ []) ≡ length front + 1 = length-append front (t ∷ []) in
      record {
        rest = t ∷ next.rest;
        is = next.is ∙ append_assoc front (t ∷ []) next.rest;
        ops = rw (op, next.ops) refl;
        language = All-cons (λ s. IsTrue (is_statement locals s)) t next.rest language next.language;
        jumps = and_from (lands (length front) t next.rest) (all_land (length front + 1) next.rest) land (subst (λ n. all_land n next.rest ≡ true) count next.jumps);
      }

module _ (locals : ℕ) (whole : List BodyStatement) (labels : List Label) (within : All (λ l. l.statement ≤ length whole) labels) where
  abbrev names : List ℕ → Option ℕ
  names = target labels

  abbrev all_landed : List Statement → List BodyStatement → List Jump → List Statement
  all_landed front ss js = fold (landed_one names) (front ++ map (λ s. s.statement) ss) js

  abbrev faults : List Jump → List Fault
  faults js = flat_map (λ j. jump_fault whole (names j.name) j) js

  rest_lands : (ss : List BodyStatement) (js : List Jump) (before : List BodyStatement) (front : List Statement) → length front ≡ length before → before ++ ss ≡ whole → All (λ s. IsTrue (is_statement locals s.statement)) ss → map (λ j. j.statement) js ≡ jump_places (length front) ss → faults js ≡ [] → IsRest locals front (all_landed front ss js) ss
  rest_lands [] [] before front count split language places none = nothing_left locals front
  rest_lands [] (j ∷ js) before front count split language places none = absurd cc
  rest_lands (s ∷ ss) js before front count split language places none =
      by (λ js next more places none.
      let longer : length (before ++ s ∷ []) ≡ length before + 1 = length-append before (s ∷ []) in
      let same : length next ≡ length (before ++ s ∷ []) = omega arith in
      rest_lands ss js (before ++ s ∷ []) next same (append_assoc before (s ∷ []) ss ∙ split) (All-tail (λ s. IsTrue (is_statement locals s.statement)) s ss language) (subst (λ n. map (λ j. j.statement) js ≡ jump_places n ss) (sym more) places) none)
      js (is_in Target s.statement) refl places none
    where
      of_language : is_statement locals s.statement ≡ true
      of_language = All-head (λ s. IsTrue (is_statement locals s.statement)) s ss language

      by : ((js : List Jump) (next : List Statement) → length next ≡ length front + 1 → map (λ j. j.statement) js ≡ jump_places (length front + 1) ss → faults js ≡ [] → IsRest locals next (all_landed next ss js) ss) → (js : List Jump) (t : Bool) → is_in Target s.statement ≡ t → map (λ j. j.statement) js ≡ cond t (length front ∷ []) [] ++ jump_places (length front + 1) ss → faults js ≡ [] → IsRest locals front (all_landed front (s ∷ ss) js) (s ∷ ss)
      by again js false is places none =
          let t : Statement = s.statement in
          let next = again js (front ++ t ∷ []) (length-append front (t ∷ [])) places none in
          let same : all_landed (front ++ t ∷ []) ss js ≡ all_landed front (s ∷ ss) js = ap (λ xs. fold (landed_one names) xs js) (append_assoc front (t ∷ []) (map (λ s. s.statement) ss)) in
          subst (λ all. IsRest locals front all (s ∷ ss)) same (one_before locals front _ t s ss refl of_language next (rw is refl))
      by again [] true is places none = absurd cc
      by again (j ∷ js) true is places none =
          let at : j.statement ≡ length front = cc in
          let rest : map (λ j. j.statement) js ≡ jump_places (length front + 1) ss = cc in
          let parts = no_faults (jump_fault whole (names j.name) j) (faults js) none in
          let found = found_free j (names j.name) before s ss (at ∙ count) (subst (λ w. jump_fault w (names j.name) j ≡ []) (sym split) parts.0) in
          let f : IsFree (length front) (names j.name) s ss = subst (λ n. IsFree n (names j.name) s ss) at found in
          let t : Statement = with_target f.goal s.statement in
          let next = again js (front ++ t ∷ []) (length-append front (t ∷ [])) rest parts.1 in
          let after : List Statement = map (λ s. s.statement) ss in
          let same : all_landed (front ++ t ∷ []) ss js ≡ all_landed front (s ∷ ss) (j ∷ js) =
          ap (λ xs. fold (landed_one names) xs js) (append_assoc front (t ∷ []) after ∙ sym (placed_behind front s.statement after j.statement f.goal (names j.name) at f.is)) in
          let size : length whole ≡ length before + length (s ∷ ss) = sym (ap length split) ∙ length-append before (s ∷ ss) in
          let below : f.goal ≤ length whole = named_within (length whole) labels j.name f.goal within f.is in
          subst (λ all. IsRest locals front all (s ∷ ss)) same (one_before locals front _ t s ss refl (still_statement locals f.goal s.statement is of_language) next (free_lands (length front) f.goal s ss next.rest next.ops f.list f.near (omega arith)))

-- where no jump of a body has a fault, all of them land
pub landing : (locals : ℕ) (body : Contents) → IsSound locals body → jump_faults body.statements body.labels body.jumps ≡ [] → IsLanded locals body
landing locals body sound none =
    let all : IsRest locals [] (landed body) body.statements = rest_lands locals body.statements body.labels sound.labels body.statements body.jumps [] [] refl refl sound.language sound.jumps none in
    record {
      count = ap length all.is ∙ as_many all.rest body.statements all.ops;
      language = subst (All (λ s. IsTrue (is_statement locals s))) (sym all.is) all.language;
      jumps = subst (λ ss. all_land 0 ss ≡ true) (sym all.is) all.jumps;
    }
