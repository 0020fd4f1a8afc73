-- The states of a script's modules, moment by moment.
use Rattle.std.proofs.Common.{◌≡◌, ◌∙◌, ℕ, zero, suc, ◌+◌, ◌*◌, ◌^◌, ◌<◌, ◌≤◌, Bool, true, false, cond, eqb, List, [], ◌∷◌, ◌++◌, length, get_or, set, Option, Some, None, refl, sym, ap, subst, arith, add-one, length-append}
use Rattle.std.specs.Prelude.{All, IsSomeAnd, slice_get, not, nat_lt, if◌then◌else◌}
use Rattle.std.proofs.lemmas.Bool.{eqb-true, eqb-false}
use Rattle.std.proofs.lemmas.List.{get_or-set_same, get_or-set_other, length-set, set-get_or}
use Rattle.std.proofs.lemmas.Option.{slice_get-get_or, slice_get_within, get_or_from_slice_get}
use Rattle.plant_script.specs.declared.plan.Module.{Module}
use Rattle.plant_script.specs.Plan.{Plan}
use Rattle.plant_script.specs.declared.plan.ModuleKind.TheVariants.{Switched}
use Rattle.s7_events.specs.declared.entry.Side.TheVariants.{A, B}
use Rattle.std.specs.Str.{bytes_eq}
use Rattle.plant_io.specs.PlantValue.{side_bytes}
use Rattle.plant_io.specs.PairValue.{PairState, Standing, fresh, of_side, time_of, step_of}
use Rattle.plant_io.specs.Inputs.{is_paired, no_states, stepped, states_before, step_module, AreStates, AreWithin, AreFresh, IsStepped}

pub stays : (xs : List PairState) (i : ℕ) (d : PairState) → set xs i (get_or xs i d) ≡ xs
stays xs i d = set-get_or xs i d

-- the modules before one place more are stepped
module _ (plan : Plan) (now : Standing) (moment place : ℕ) (old mid : List PairState) (m : Module) where
  stepped_here : (new : List PairState) → slice_get plan.modules place ≡ Some m → place < length old → IsStepped plan now moment place old mid
      → new ≡ set mid place (step_module plan now moment m (get_or mid place fresh)) → (j : ℕ) (n : Module) → slice_get plan.modules j ≡ Some n → j ≡ place
      → get_or new j fresh ≡ step_module plan now moment n (get_or old j fresh)
  stepped_here new there less h is j n of_j same =
      let other : slice_get plan.modules place ≡ Some n = subst (λ i. slice_get plan.modules i ≡ Some n) same of_j in
      let one : m ≡ n = (let both : Some m ≡ Some n = sym there ∙ other in cc) in
      ap (λ i. get_or new i fresh) same ∙ ap (λ xs. get_or xs place fresh) is
      ∙ get_or-set_same mid place (step_module plan now moment m (get_or mid place fresh)) fresh (omega (arith, less, h.size))
      ∙ ap (step_module plan now moment m) (h.rest place (omega arith))
      ∙ ap (λ x. step_module plan now moment x (get_or old place fresh)) one
      ∙ ap (λ i. step_module plan now moment n (get_or old i fresh)) (sym same)

  stepped_before : (new : List PairState) → IsStepped plan now moment place old mid
      → new ≡ set mid place (step_module plan now moment m (get_or mid place fresh)) → (j : ℕ) (n : Module) → slice_get plan.modules j ≡ Some n → (j ≡ place → ⊥) → j < place
      → get_or new j fresh ≡ step_module plan now moment n (get_or old j fresh)
  stepped_before new h is j n of_j apart less =
      ap (λ xs. get_or xs j fresh) is ∙ get_or-set_other mid place j (step_module plan now moment m (get_or mid place fresh)) fresh apart ∙ h.done j n of_j less

  stepped_by : (new : List PairState) → slice_get plan.modules place ≡ Some m → place < length old → IsStepped plan now moment place old mid
      → new ≡ set mid place (step_module plan now moment m (get_or mid place fresh)) → (j : ℕ) (n : Module) → slice_get plan.modules j ≡ Some n → j < place + 1
      → (b : Bool) → eqb j place ≡ b → get_or new j fresh ≡ step_module plan now moment n (get_or old j fresh)
  stepped_by new there less h is j n of_j below true same = stepped_here new there less h is j n of_j (eqb-true j place same)
  stepped_by new there less h is j n of_j below false same =
      let apart : j ≡ place → ⊥ = eqb-false j place same in
      stepped_before new h is j n of_j apart (below_other j place below apart)
    where
      below_other : (j place : ℕ) → j < place + 1 → (j ≡ place → ⊥) → j < place
      below_other j place below apart = first_of (omega (arith, below, apart), grind (arith, apart))

  pub stepped_more : (new : List PairState) → slice_get plan.modules place ≡ Some m → place < length old → IsStepped plan now moment place old mid
      → new ≡ set mid place (step_module plan now moment m (get_or mid place fresh)) → IsStepped plan now moment (place + 1) old new
  stepped_more new there less h is = record {
    size = ap (λ (xs : List PairState). length xs) is ∙ length-set mid place (step_module plan now moment m (get_or mid place fresh)) ∙ h.size;
    done = λ j n of_j below. stepped_by new there less h is j n of_j below (eqb j place) refl;
    rest = λ j past. (
        let apart : j ≡ place → ⊥ = (λ same. absurd (omega (arith, past, same))) in
        ap (λ xs. get_or xs j fresh) is ∙ get_or-set_other mid place j (step_module plan now moment m (get_or mid place fresh)) fresh apart ∙ h.rest j (omega (arith, past))
        );
  }

-- all modules are stepped
step_paired : (plan : Plan) (now : Standing) (moment : ℕ) (m : Module) (before : PairState) → is_paired m ≡ true → step_module plan now moment m before ≡ step_of plan m now moment before
step_paired plan now moment m before is = rw is refl

pub are_stepped : (plan : Plan) (now : Standing) (moment : ℕ) (before : Module → PairState) (old new : List PairState) → AreStates plan.modules before old
    → IsStepped plan now moment (length plan.modules) old new → AreStates plan.modules (stepped plan now moment before) new
are_stepped plan now moment before old new h all = record {
  size = all.size ∙ h.size;
  each = λ i m there paired. (
      let less : i < length plan.modules = slice_get_within plan.modules i m there in
      let was : get_or old i fresh ≡ before m = get_or_from_slice_get old i (before m) fresh (h.each i m there paired) in
      slice_get-get_or new i fresh (omega (arith, less, all.size, h.size))
      ∙ ap (λ (s : PairState). Some s) (all.done i m there less ∙ step_paired plan now moment m (get_or old i fresh) paired ∙ ap (step_of plan m now moment) was)
      );
}

pub are_whole : (plan : Plan) (standing : ℕ → Standing) (now : Standing) (moment : ℕ) (old new : List PairState) → standing moment ≡ now
    → AreStates plan.modules (states_before plan standing moment) old → IsStepped plan now moment (length plan.modules) old new
    → AreStates plan.modules (states_before plan standing (moment + 1)) new
are_whole plan standing now moment old new at h all =
    let here : IsStepped plan (standing moment) moment (length plan.modules) old new = subst (λ s. IsStepped plan s moment (length plan.modules) old new) (sym at) all in
    subst (λ k. AreStates plan.modules (states_before plan standing k) new) (sym (add-one moment))
    (are_stepped plan (standing moment) moment (states_before plan standing moment) old new h here)

-- a difference lasts for one moment more at most
run_by : (p q r : Bool) (a b x : List ℕ) (before : PairState)
    → (if not p then record before { run = 0; bytes = b } else if not q then record before { run = 0; bytes = a } else if r then record before { run = 0; bytes = a } else record before { run = before.run + 1; bytes = x }).run ≤ before.run + 1
run_by false q r a b x before = omega arith
run_by true false r a b x before = omega arith
run_by true true true a b x before = omega arith
run_by true true false a b x before = omega arith

run_step : (plan : Plan) (now : Standing) (moment : ℕ) (m : Module) (before : PairState) → (step_of plan m now moment before).run ≤ before.run + 1
run_step plan now moment m before =
    run_by now.a_runs now.b_runs (bytes_eq (side_bytes plan m A moment) (side_bytes plan m B moment)) (side_bytes plan m A moment) (side_bytes plan m B moment)
    (if nat_lt (before.run + 1) (time_of m.kind) then before.bytes else of_side now.master (side_bytes plan m A moment) (side_bytes plan m B moment))
    (record before { first = m.at_byte })

run_module : (b : Bool) (plan : Plan) (now : Standing) (moment : ℕ) (m : Module) (before : PairState) → (if b then step_of plan m now moment before else before).run ≤ before.run + 1
run_module true plan now moment m before = run_step plan now moment m before
run_module false plan now moment m before = omega arith

no_module : Module
no_module = record { line = 0; input = false; at_byte = 0; len = 0; kind = Switched }

pub run_at : (xs : List PairState) (moment i : ℕ) → AreWithin moment xs → i < length xs → (get_or xs i fresh).run ≤ moment
run_at xs moment i h less = h i fresh less

pub within_after : (plan : Plan) (now : Standing) (moment : ℕ) (old new : List PairState) → length old ≡ length plan.modules → AreWithin moment old
    → IsStepped plan now moment (length plan.modules) old new → AreWithin (moment + 1) new
within_after plan now moment old new size h all = λ i d less.
    let here : i < length old = omega (arith, less, all.size) in
    let there : i < length plan.modules = omega (arith, here, size) in
    let m = get_or plan.modules i no_module in
    let is = all.done i m (slice_get-get_or plan.modules i no_module there) there in
    let some : slice_get new i ≡ Some (get_or new i d) = slice_get-get_or new i d less in
    let same : get_or new i d ≡ get_or new i fresh = (let both : Some (get_or new i d) ≡ Some (get_or new i fresh) = sym some ∙ slice_get-get_or new i fresh less in cc) in
    let bound = run_module (is_paired m) plan now moment m (get_or old i fresh) in
    omega (arith, ap (λ (s : PairState). s.run) (same ∙ is), bound, h i fresh here)

-- before the first moment
pub none_fresh : (xs : List PairState) → xs ≡ [] → AreFresh 0 xs
none_fresh xs is = record { size = ap (λ (l : List PairState). length l) is; each = λ i. ap (λ l. get_or l i fresh) is ∙ past i }
  where
    past : (i : ℕ) → get_or [] i fresh ≡ fresh
    past zero = refl
    past (suc i) = refl

push_fresh : (xs : List PairState) → ((i : ℕ) → get_or xs i fresh ≡ fresh) → (i : ℕ) → get_or (xs ++ fresh ∷ []) i fresh ≡ fresh
push_fresh [] h zero = refl
push_fresh [] h (suc i) = h i
push_fresh (x ∷ xs) h zero = h zero
push_fresh (x ∷ xs) h (suc i) = push_fresh xs (λ j. h (suc j)) i

pub more_fresh : (count : ℕ) (xs ys : List PairState) (x : PairState) → AreFresh count xs → x ≡ fresh → ys ≡ xs ++ x ∷ [] → AreFresh (count + 1) ys
more_fresh count xs ys x h one is = record {
  size = omega (arith, ap (λ (l : List PairState). length l) is, length-append xs (x ∷ []), h.size);
  each = λ i. ap (λ l. get_or l i fresh) is ∙ ap (λ y. get_or (xs ++ y ∷ []) i fresh) one ∙ push_fresh xs h.each i;
}

pub fresh_states : (modules : List Module) (count : ℕ) (xs : List PairState) → count ≡ length modules → AreFresh count xs → AreStates modules no_states xs
fresh_states modules count xs is h = record {
  size = h.size ∙ is;
  each = λ i m there paired. (
      let less : i < length modules = slice_get_within modules i m there in
      slice_get-get_or xs i fresh (omega (arith, less, h.size, is)) ∙ ap (λ (s : PairState). Some s) (h.each i)
      );
}

pub fresh_within : (count : ℕ) (xs : List PairState) → AreFresh count xs → AreWithin 0 xs
fresh_within count xs h = λ i d less.
    let some : slice_get xs i ≡ Some (get_or xs i d) = slice_get-get_or xs i d less in
    let same : get_or xs i d ≡ get_or xs i fresh = (let both : Some (get_or xs i d) ≡ Some (get_or xs i fresh) = sym some ∙ slice_get-get_or xs i fresh less in cc) in
    omega (arith, ap (λ (s : PairState). s.run) (same ∙ h.each i))

-- a module that was read stands in its place
pub read_there : (xs ys : List Module) (i : ℕ) (d : Module) → xs ≡ ys → i < length ys → slice_get ys i ≡ Some (get_or xs i d)
read_there xs ys i d same less = slice_get-get_or ys i d less ∙ ap (λ (zs : List Module). Some (get_or zs i d)) (sym same)

-- what a REDUNDANT module of inputs has as its state
pub state_at : (modules : List Module) (states : Module → PairState) (kept : List PairState) (i : ℕ) (m : Module) (s : PairState) → AreStates modules states kept
    → slice_get modules i ≡ Some m → is_paired m ≡ true → s ≡ get_or kept i s → s ≡ states m
state_at modules states kept i m s h there paired read = read ∙ get_or_from_slice_get kept i (states m) s (h.each i m there paired)
