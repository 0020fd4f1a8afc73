-- Each kind of step keeps the rule of the turn.
use Rattle.std.proofs.Common.{is_some, ◌≡◌, ◌≢◌, ℕ, zero, suc, ◌==◌, ◌<◌, Bool, true, false, ◌||◌, ◌⊎◌, inl, inr, ⊎_elim, List, [], ◌∷◌, ◌++◌, length, set, sym, refl, ap, ◌∙◌, subst, arith, length-set, get_or-set_same, Option, Some, None, append-nil, append_assoc}
use mathlib.Core.Logic.{dite}
use mathlib.Core.Option.{none, some, some-injective, some-ne-none}
use mathlib.Core.List.{IsPrefix}
use native.Mathlib.Decide.{ℕ_discrete}
use prog.Atomic.{either}
use lib.ListN.{get_elem?}
use denote.Ref.{MutBor}
use Rattle.std.specs.Fn.{Once}
use Rattle.s7_events.specs.declared.entry.Side.{Side}
use Rattle.s7_events.specs.declared.entry.Side.TheVariants.{A, B}
use Rattle.atomic_table.specs.Table.{State, Me, step, Act, keeps, takes, gives, stepped, Valid, carried_after, rest, Allows, Splits, Joins, opening, Final, Seen}
use Rattle.atomic_table.proofs.Lists.{at_set, set_here, set_else, at_longer}
use Rattle.pair_lock.specs.declared.view.View.{View}
use Rattle.pair_lock.specs.Meetings.{MayMeet}
use Rattle.pair_lock.specs.Turns.{FollowsKnown, Fits, Keeps, IsFree, IsHeld, Kept, Takes, Gives}
use Rattle.pair_lock.specs.Views.{last_known, first_view, only_a, only_b, joined_view, spent_view, after_taking, after_try, update, after_giving, Learns, SameKnown}

module _ {A₀ : Type 0} where
  pub prefix_refl : (xs : List A₀) → IsPrefix xs xs
  prefix_refl xs = ([], append-nil xs)

  pub prefix_trans : (xs ys zs : List A₀) → IsPrefix xs ys → IsPrefix ys zs → IsPrefix xs zs
  prefix_trans xs ys zs p q = (p.0 ++ q.0, sym (append_assoc xs p.0 q.0) ∙ (ap (λ l. l ++ q.0) p.1 ∙ q.1))

  -- what stands in a list with one more at the end
  snoc_at : (l : List A₀) (a b : A₀) (j : ℕ) → get_elem? (l ++ a ∷ []) j ≡ some b → (get_elem? l j ≡ some b) ⊎ ((j ≡ length l) × (a ≡ b))
  snoc_at [] a b zero e = inr (refl, some-injective a b e)
  snoc_at [] a b (suc j) e = absurd (some-ne-none b (sym e))
  snoc_at (x ∷ xs) a b zero e = inl e
  snoc_at (x ∷ xs) a b (suc j) e = ⊎_elim inl (λ t. inr (ap suc t.0, t.1)) (snoc_at xs a b j e)

  at_inside : (l : List A₀) (j : ℕ) (a : A₀) → get_elem? l j ≡ some a → j < length l
  at_inside [] j a e = absurd (some-ne-none a (sym e))
  at_inside (x ∷ xs) zero a e = omega arith
  at_inside (x ∷ xs) (suc j) a e = let r = at_inside xs j a e in omega arith

module _ {T : Type 0} where
  pub update_is_some : (o : Option T) (w : T) → is_some (update o w) ≡ is_some o
  update_is_some None w = refl
  update_is_some (Some x) w = refl

  -- a view that has learned is that of the same sides
  pub learned_side : (u u' : View T) (w : T) → ((s : Side) → last_known u' s ≡ update (last_known u s) w) → (s : Side) → is_some (last_known u' s) ≡ is_some (last_known u s)
  learned_side u u' w knows s = ap is_some (knows s) ∙ update_is_some (last_known u s) w

module _ {T E O : Type 0} (entries : T → List E) (own : T → Side → O) where
  abbrev St : Type 0
  St = State (Option T) (View T)

  abbrev Rule : St → Type 0
  Rule = Kept entries own

  -- of each side's part one view knows
  abbrev One : Side → List (View T) → Type 0
  One s vs = (i j : ℕ) (u v : View T) → get_elem? vs i ≡ some u → get_elem? vs j ≡ some v → is_some (last_known u s) ≡ true → is_some (last_known v s) ≡ true → i ≡ j

  -- the view at id becomes w, which knows the parts of no other side
  one_set : (s : Side) (vs : List (View T)) (id : ℕ) (u w : View T) → get_elem? vs id ≡ some u → (is_some (last_known w s) ≡ true → is_some (last_known u s) ≡ true) → One s vs → One s (set vs id w)
  one_set s vs id u w at less one i j x y ix jy hx hy =
      ⊎_elim
      (λ (a : (i ≡ id) × (w ≡ x)). ⊎_elim
      (λ (b : (j ≡ id) × (w ≡ y)). a.0 ∙ sym b.0)
      (λ (b : (j ≢ id) × (get_elem? vs j ≡ some y)). a.0 ∙ one id j u y at b.1 (less (ap (λ v. is_some (last_known v s)) a.1 ∙ hx)) hy)
      (at_set vs id j w y jy))
      (λ (a : (i ≢ id) × (get_elem? vs i ≡ some x)). ⊎_elim
      (λ (b : (j ≡ id) × (w ≡ y)). one i id x u a.1 at hx (less (ap (λ v. is_some (last_known v s)) b.1 ∙ hy)) ∙ sym b.0)
      (λ (b : (j ≢ id) × (get_elem? vs j ≡ some y)). one i j x y a.1 b.1 hx hy)
      (at_set vs id j w y jy))
      (at_set vs id i w x ix)

  -- what holds of the new view and of each other one
  each_set : (P : ℕ → View T → Type 0) (vs : List (View T)) (id : ℕ) (w : View T) → P id w → ((j : ℕ) (u : View T) → j ≢ id → get_elem? vs j ≡ some u → P j u)
      → (j : ℕ) (u : View T) → get_elem? (set vs id w) j ≡ some u → P j u
  each_set P vs id w mine others j u e = ⊎_elim (λ (t : (j ≡ id) × (w ≡ u)). subst (λ (x : ℕ × View T). P x.0 x.1) (λ i. (sym t.0 i, t.1 i)) mine)
      (λ (t : (j ≢ id) × (get_elem? vs j ≡ some u)). others j u t.0 t.1) (at_set vs id j w u e)

  pub same_parts : (x y : View T) → x.a ≡ y.a → x.b ≡ y.b → SameKnown y x
  same_parts x y p q A = p
  same_parts x y p q B = q

  pub same_known : (x y : View T) (v : T) → SameKnown y x → Fits entries own y v → Fits entries own x v
  same_known x y v same fits s = subst (λ o. FollowsKnown entries own s o v) (sym (same s)) (fits s)

  -- the view x knows the parts that y knows
  less_known : (x y : View T) → SameKnown y x → (s : Side) → is_some (last_known x s) ≡ true → is_some (last_known y s) ≡ true
  less_known x y same s h = ap is_some (sym (same s)) ∙ h

  -- a seat that took nothing is not the holder
  not_holder : (s : St) (v : T) (held : IsHeld entries own s v) (id : ℕ) (u : View T) → get_elem? s.views id ≡ some u → u.took ≡ None → id ≢ held.holder
  not_holder s v held id u at idle same = let e : u ≡ held.view = some-injective u held.view (sym at ∙ (ap (get_elem? s.views) same ∙ held.at)) in absurd (cc (ap (λ (x : View T). x.took) e, idle, held.took))

  -- one that took a value is the holder
  is_holder : (s : St) (v : T) (held : IsHeld entries own s v) (id : ℕ) (u : View T) (x : T) → get_elem? s.views id ≡ some u → u.took ≡ Some x → (id ≡ held.holder) × (held.view ≡ u)
  is_holder s v held id u x at took = dite (ℕ_discrete id held.holder)
      (λ e. (e, some-injective held.view u (sym held.at ∙ (ap (get_elem? s.views) (sym e) ∙ at))))
      (λ ne. absurd (let h = held.others id u ne at in cc))

  -- the turn is taken where it is free, and else one more try is counted
  pub takes_turn : (slots id : ℕ) (u : View T) (s₀ : Side) → slots ≡ 1 → u.took ≡ None → is_some (last_known u s₀) ≡ true
      → Allows Rule slots id (u, []) 0 (λ n. either (n == 0) 1 n) (Takes entries own (step slots 0 0 1 none) (u, []))
  takes_turn slots id u s₀ one_slot idle live s k homes at small =
      let G : ℕ → Type 0 = λ n. (w : View T) × (a : Act (Option T)) × Valid s.homes [] a × Rule (stepped s 0 (either (n == 0) 1 n) id [] w a) × Takes entries own (step slots 0 0 1 none) (u, []) n (w, carried_after [] a) in
      ⊎_elim
      (λ (free : IsFree entries own s k.value).
      let w : View T = after_taking u k.value in
      let same : SameKnown u w = same_parts w u refl refl in
      subst G (sym free.word) (
        w,
        takes 0 (Some k.value),
        free.home,
        record {
          value = k.value;
          word = length-set s.words 0 1 ∙ k.word;
          fits = each_set (λ _ x. Fits entries own x k.value) s.views id w (same_known w u k.value same (k.fits id u at)) (λ j x _. k.fits j x);
          one = λ t. one_set t s.views id u w at (less_known w u same t) (k.one t);
          turn = inr record {
            word = get_or-set_same s.words 0 1 0 (omega (arith, k.word));
            out = set_here s.homes 0 none (omega (arith, homes, one_slot));
            holder = id;
            view = w;
            at = set_here s.views id w (at_inside s.views id u at);
            took = refl;
            side = s₀;
            live = ap is_some (same s₀) ∙ live;
            others = λ j x ne e. free.none_took j x (sym (set_else s.views id j w ne) ∙ e);
          };
        },
        ((λ _. (k.value, k.fits id u at, refl)), λ ne. absurd (ne refl)),
      ))
      (λ (held : IsHeld entries own s k.value).
      let w : View T = after_try u in
      let same : SameKnown u w = same_parts w u refl refl in
      let apart : id ≢ held.holder = not_holder s k.value held id u at idle in
      subst G (sym held.word) (
        w,
        keeps,
        tt,
        record {
          value = k.value;
          word = length-set s.words 0 1 ∙ k.word;
          fits = each_set (λ _ x. Fits entries own x k.value) s.views id w (same_known w u k.value same (k.fits id u at)) (λ j x _. k.fits j x);
          one = λ t. one_set t s.views id u w at (less_known w u same t) (k.one t);
          turn = inr record {
            word = get_or-set_same s.words 0 1 0 (omega (arith, k.word));
            out = held.out;
            holder = held.holder;
            view = held.view;
            at = set_else s.views id held.holder w (λ e. apart (sym e)) ∙ held.at;
            took = held.took;
            side = held.side;
            live = held.live;
            others = λ j x ne e. each_set (λ i y. i ≢ held.holder → y.took ≡ None) s.views id w (λ _. idle) (λ i y _ f n. held.others i y n f) j x e ne;
          };
        },
        ((λ e. absurd (omega (arith, e))), λ _. refl),
      ))
      k.turn

  giving_updates : (u : View T) (w : T) (s : Side) → last_known (after_giving u w) s ≡ update (last_known u s) w
  giving_updates u w A = refl
  giving_updates u w B = refl

  update_follows : (s : Side) (o : Option T) (w : T) → FollowsKnown entries own s (update o w) w
  update_follows s None w = tt
  update_follows s (Some x) w = (prefix_refl (entries w), refl)

  -- what another view knows stays, where it has no part of the view that changes the value
  known_stays : (s : Side) (o : Option T) (v w : T) → IsPrefix (entries v) (entries w) → (is_some o ≡ true → own v s ≡ own w s) → FollowsKnown entries own s o v → FollowsKnown entries own s o w
  known_stays s None v w more same k = tt
  known_stays s (Some x) v w more same k = (prefix_trans (entries x) (entries v) (entries w) k.0 more, k.1 ∙ same refl)

  not_both : (b : Bool) → (b ≡ true → ⊥) → b ≡ false
  not_both true h = absurd (h refl)
  not_both false h = refl

  abbrev first_slot : List (ℕ × Option T) → Option T
  first_slot [] = None
  first_slot (x ∷ xs) = x.1

  -- the holder gives the turn, and leaves w at home
  pub gives_turn : (slots id : ℕ) (u : View T) (v w : T) → slots ≡ 1 → u.took ≡ Some v → Keeps entries own u v w
      → Allows Rule slots id (u, (0, Some w) ∷ []) 0 (λ _. 0) (λ _. Gives (step slots 0 0 0 none) (u, (0, Some w) ∷ []) 0)
  gives_turn slots id u v w one_slot took kept s k homes at small =
      ⊎_elim
      (λ (free : IsFree entries own s k.value). absurd (let h = free.none_took id u at in cc))
      (λ (held : IsHeld entries own s k.value).
      let h = is_holder s k.value held id u v at took in
      let is : k.value ≡ v = (let e = ap (λ (x : View T). x.took) h.1 in let t = held.took in cc) in
      let x : View T = after_giving u w in
      let kept' : Keeps entries own u k.value w = subst (λ y. Keeps entries own u y w) (sym is) kept in (
        x,
        gives,
        tt,
        record {
          value = w;
          word = length-set s.words 0 0 ∙ k.word;
          fits = each_set (λ _ y. Fits entries own y w) s.views id x
              (λ t. subst (λ o. FollowsKnown entries own t o w) (sym (giving_updates u w t)) (update_follows t (last_known u t) w))
              (λ j y ne e t. known_stays t (last_known y t) k.value w kept'.0 (λ hy. kept'.1 t (not_both (is_some (last_known u t)) (λ hu. ne (k.one t j id y u e at hy hu)))) (k.fits j y e t));
          one = λ t. one_set t s.views id u x at (λ e. sym (update_is_some (last_known u t) w) ∙ (ap is_some (sym (giving_updates u w t)) ∙ e)) (k.one t);
          turn = inl record {
            word = get_or-set_same s.words 0 0 0 (omega (arith, k.word));
            home = set_here s.homes 0 (some (Some w)) (omega (arith, homes, one_slot));
            none_took = each_set (λ _ y. y.took ≡ None) s.views id x refl (λ j y ne e. held.others j y (λ same. ne (same ∙ sym h.0)) e);
          };
        },
        (λ z e. let same : w ≡ z = (let f : Some w ≡ Some z = ap first_slot e in cc) in ap (λ (y : T). let m : Me (Option T) (View T) = (after_giving u y, []) in m) same),
      ))
      k.turn

  -- at the end of a list stands one view more
  each_more : (P : ℕ → View T → Type 0) (vs : List (View T)) (w : View T) → P (length vs) w → ((j : ℕ) (u : View T) → get_elem? vs j ≡ some u → P j u)
      → (j : ℕ) (u : View T) → get_elem? (vs ++ w ∷ []) j ≡ some u → P j u
  each_more P vs w mine others j u e = ⊎_elim (others j u)
      (λ (t : (j ≡ length vs) × (w ≡ u)). subst (λ (x : ℕ × View T). P x.0 x.1) (λ i. (sym t.0 i, t.1 i)) mine) (snoc_at vs w u j e)

  -- a view that is new, or in the place of another, with parts that no other view has
  one_more : (s : Side) (vs : List (View T)) (w : View T) → (is_some (last_known w s) ≡ true → (j : ℕ) (v : View T) → get_elem? vs j ≡ some v → is_some (last_known v s) ≡ true → ⊥) → One s vs → One s (vs ++ w ∷ [])
  one_more s vs w alone one i j x y ix jy hx hy =
      ⊎_elim
      (λ (a : get_elem? vs i ≡ some x). ⊎_elim
      (λ (b : get_elem? vs j ≡ some y). one i j x y a b hx hy)
      (λ (b : (j ≡ length vs) × (w ≡ y)). absurd (alone (ap (λ v. is_some (last_known v s)) b.1 ∙ hy) i x a hx))
      (snoc_at vs w y j jy))
      (λ (a : (i ≡ length vs) × (w ≡ x)). ⊎_elim
      (λ (b : get_elem? vs j ≡ some y). absurd (alone (ap (λ v. is_some (last_known v s)) a.1 ∙ hx) j y b hy))
      (λ (b : (j ≡ length vs) × (w ≡ y)). a.0 ∙ sym b.0)
      (snoc_at vs w y j jy))
      (snoc_at vs w x i ix)

  pub splits_seat : (id : ℕ) (u : View T) → u.took ≡ None → Splits Rule id u (only_a u) (only_b u)
  splits_seat id u idle s k at =
      let x : View T = only_a u in
      let y : View T = only_b u in
      let vs : List (View T) = set s.views id x in
      let fits_u = k.fits id u at in
      record {
        value = k.value;
        word = k.word;
        fits = each_more (λ _ z. Fits entries own z k.value) vs y (elim [ A ↦ tt | B ↦ fits_u B ]) (each_set (λ _ z. Fits entries own z k.value) s.views id x (elim [ A ↦ fits_u A | B ↦ tt ]) (λ j z _. k.fits j z));
        one = elim [
          | A ↦ one_more A vs y (λ h. absurd cc) (one_set A s.views id u x at (λ e. e) (k.one A))
          | B ↦ one_more B vs y (λ h j v e hv. each_set (λ i z. is_some (last_known z B) ≡ true → ⊥) s.views id x (λ n. cc) (λ i z ne f n. ne (k.one B i id z u f at n h)) j v e hv)
              (one_set B s.views id u x at (λ e. absurd cc) (k.one B))
        ];
        turn = ⊎_elim
            (λ (free : IsFree entries own s k.value). inl record {
              word = free.word;
              home = free.home;
              none_took = each_more (λ _ z. z.took ≡ None) vs y refl (each_set (λ _ z. z.took ≡ None) s.views id x refl (λ j z _. free.none_took j z));
            })
            (λ (held : IsHeld entries own s k.value). inr record {
              word = held.word;
              out = held.out;
              holder = held.holder;
              view = held.view;
              at = at_longer vs (y ∷ []) held.holder held.view (set_else s.views id held.holder x (λ e. not_holder s k.value held id u at idle (sym e)) ∙ held.at);
              took = held.took;
              side = held.side;
              live = held.live;
              others = λ j z ne e. each_more (λ i v. i ≢ held.holder → v.took ≡ None) vs y (λ _. refl) (each_set (λ i v. i ≢ held.holder → v.took ≡ None) s.views id x (λ _. refl) (λ i v _ f n. held.others i v n f)) j z e ne;
            })
            k.turn;
      }

  one_joined : (vs : List (View T)) (id other : ℕ) (u w : View T) → get_elem? vs id ≡ some u → get_elem? vs other ≡ some w → other ≢ id → One B vs → (b : Bool) → is_some w.b ≡ b → One B (set (set vs id (joined_view u w)) other spent_view)
  one_joined vs id other u w at there apart one false is =
      one_set B (set vs id (joined_view u w)) other w spent_view (set_else vs id other (joined_view u w) apart ∙ there) (λ e. absurd cc) (one_set B vs id u (joined_view u w) at (λ e. absurd cc) one)
  one_joined vs id other u w at there apart one true is = λ i j x y ix jy hx hy.
      let P : ℕ → View T → Type 0 = λ n v. is_some (last_known v B) ≡ true → n ≡ id in
      let all : (n : ℕ) (v : View T) → get_elem? (set (set vs id (joined_view u w)) other spent_view) n ≡ some v → P n v =
      each_set P (set vs id (joined_view u w)) other spent_view (λ e. absurd cc)
      (λ n v ne f. each_set (λ m z. m ≢ other → P m z) vs id (joined_view u w) (λ _ _. refl) (λ m z _ g no h. absurd (no (one m other z w g there h is))) n v f ne) in
      all i x ix hx ∙ sym (all j y jy hy)

  pub joins_seats : (id other : ℕ) (u w : View T) → u.took ≡ None → w.took ≡ None → Joins Rule id u other w (joined_view u w) spent_view
  joins_seats id other u w idle idle' s k at apart there =
      let x : View T = joined_view u w in
      let vs : List (View T) = set s.views id x in
      let at_other : get_elem? s.views other ≡ some w = sym (set_else s.views id other x apart) ∙ there in
      let fits_u = k.fits id u at in
      let fits_w = k.fits other w at_other in
      record {
        value = k.value;
        word = k.word;
        fits = each_set (λ _ z. Fits entries own z k.value) vs other spent_view (elim [ A ↦ tt | B ↦ tt ]) (λ j z _. each_set (λ _ v. Fits entries own v k.value) s.views id x (elim [ A ↦ fits_u A | B ↦ fits_w B ]) (λ i v _. k.fits i v) j z);
        one = elim [
          | A ↦ one_set A vs other w spent_view there (λ e. absurd cc) (one_set A s.views id u x at (λ e. e) (k.one A))
          | B ↦ one_joined s.views id other u w at at_other apart (k.one B) (is_some w.b) refl
        ];
        turn = ⊎_elim
            (λ (free : IsFree entries own s k.value). inl record {
              word = free.word;
              home = free.home;
              none_took = each_set (λ _ z. z.took ≡ None) vs other spent_view refl (λ j z _. each_set (λ _ v. v.took ≡ None) s.views id x refl (λ i v _. free.none_took i v) j z);
            })
            (λ (held : IsHeld entries own s k.value). inr record {
              word = held.word;
              out = held.out;
              holder = held.holder;
              view = held.view;
              at = set_else vs other held.holder spent_view (λ e. not_holder s k.value held other w at_other idle' (sym e)) ∙ (set_else s.views id held.holder x (λ e. not_holder s k.value held id u at idle (sym e)) ∙ held.at);
              took = held.took;
              side = held.side;
              live = held.live;
              others = λ j z ne e. each_set (λ i v. i ≢ held.holder → v.took ≡ None) vs other spent_view (λ _. refl) (λ i v _ f n. each_set (λ i v. i ≢ held.holder → v.took ≡ None) s.views id x (λ _. refl) (λ i v _ f n. held.others i v n f) i v f n) j z e ne;
            })
            k.turn;
      }

  first_at : (P : View T → Type 0) (v : T) → P (first_view v) → (j : ℕ) (u : View T) → get_elem? (first_view v ∷ []) j ≡ some u → P u
  first_at P v p zero u e = subst P (some-injective (first_view v) u e) p
  first_at P v p (suc j) u e = absurd (some-ne-none u (sym e))

  only_first : (v : T) (j : ℕ) (u : View T) → get_elem? (first_view v ∷ []) j ≡ some u → j ≡ 0
  only_first v zero u e = refl
  only_first v (suc j) u e = absurd (some-ne-none u (sym e))

  both_has : (u : View T) (s : Side) → is_some u.a ≡ true → is_some u.b ≡ true → is_some (last_known u s) ≡ true
  both_has u A ha hb = ha
  both_has u B ha hb = hb

  pub opens : (v : T) → Rule (opening (0 ∷ []) (Some v ∷ []) (first_view v))
  opens v = record {
    value = v;
    word = refl;
    fits = λ j u e. first_at (λ x. Fits entries own x v) v (elim [ A ↦ (prefix_refl (entries v), refl) | B ↦ (prefix_refl (entries v), refl) ]) j u e;
    one = λ s i j x y ix jy _ _. only_first v i x ix ∙ sym (only_first v j y jy);
    turn = inl record { word = refl; home = refl; none_took = λ j u e. first_at (λ x. x.took ≡ None) v refl j u e };
  }

  -- both seats are one again, so that nobody holds the turn
  pub closes : (id : ℕ) (u : View T) (ws : List ℕ) (xs : List (Option T)) → u.took ≡ None → is_some u.a ≡ true → is_some u.b ≡ true → Final (Seen Rule id u) ws xs
      → (v : T) × (get_elem? xs 0 ≡ some (Some v)) × Fits entries own u v
  closes id u ws xs idle ha hb fin =
      let s : St = fin.0 in
      let k : Rule s = fin.1.0 in
      ⊎_elim
      (λ (free : IsFree entries own s k.value). (k.value, fin.4 0 (Some k.value) free.home, k.fits id u fin.1.1))
      (λ (held : IsHeld entries own s k.value). absurd (not_holder s k.value held id u fin.1.1 idle (k.one held.side id held.holder u held.view fin.1.1 held.at (both_has u held.side ha hb) held.live)))
      k.turn

  some_side : (u : View T) → (is_some u.a || is_some u.b) ≡ true → (s : Side) × (is_some (last_known u s) ≡ true)
  some_side u live = by_first (is_some u.a) refl live where
    by_first : (b : Bool) → is_some u.a ≡ b → (is_some u.a || is_some u.b) ≡ true → (s : Side) × (is_some (last_known u s) ≡ true)
    by_first true is live = (A, is)
    by_first false is live = (B, rw is at live)

  pub takes_at : (slots id : ℕ) (me : Me (Option T) (View T)) → me.1 ≡ [] → slots ≡ 1 → me.0.took ≡ None → (is_some me.0.a || is_some me.0.b) ≡ true
      → Allows Rule slots id me 0 (λ n. either (n == 0) 1 n) (Takes entries own (step slots 0 0 1 none) me)
  takes_at slots id me empty one_slot idle live =
      let side = some_side me.0 live in
      subst (λ l. Allows Rule slots id (me.0, l) 0 (λ n. either (n == 0) 1 n) (Takes entries own (step slots 0 0 1 none) (me.0, l))) (sym empty) (takes_turn slots id me.0 side.0 one_slot idle side.1)

  pub gives_at : (slots id : ℕ) (me : Me (Option T) (View T)) (v w : T) → me.1 ≡ (0, Some w) ∷ [] → slots ≡ 1 → me.0.took ≡ Some v → Keeps entries own me.0 v w
      → Allows Rule slots id me 0 (λ _. 0) (λ _. Gives (step slots 0 0 0 none) me 0)
  gives_at slots id me v w is one_slot took kept =
      subst (λ l. Allows Rule slots id (me.0, l) 0 (λ _. 0) (λ _. Gives (step slots 0 0 0 none) (me.0, l) 0)) (sym is) (gives_turn slots id me.0 v w one_slot took kept)

module _ {S : Type 0} where
  -- a seat that holds the one slot, by what it carries
  pub slot_there : (l : List (ℕ × S)) (x : S) → l ≡ (0, x) ∷ [] → l ≡ (0, x) ∷ rest l
  slot_there l x is = is ∙ sym (ap (λ m. (0, x) ∷ rest m) is)

  pub slot_put : (l : List (ℕ × S)) (x y : S) → l ≡ (0, x) ∷ [] → (0, y) ∷ rest l ≡ (0, y) ∷ []
  slot_put l x y is = ap (λ m. (0, y) ∷ rest m) is

-- what the holder may leave
module _ {T E O : Type 0} (entries : T → List E) (own : T → Side → O) where
  keeps_taking : (u : View T) (v w : T) → Keeps entries own u v w → Keeps entries own (after_taking u v) v w
  keeps_taking u v w k = (k.0, elim [ A ↦ k.1 A | B ↦ k.1 B ])

  pub keeps_held : (u u' : View T) (v w : T) → u' ≡ after_taking u v → Keeps entries own u v w → Keeps entries own u' v w
  keeps_held u u' v w is k = subst (λ x. Keeps entries own x v w) (sym is) (keeps_taking u v w k)

  pub keeps_same : (u u' : View T) (v w : T) → SameKnown u u' → Keeps entries own u v w → Keeps entries own u' v w
  keeps_same u u' v w same k = (k.0, λ s none. k.1 s (ap is_some (sym (same s)) ∙ none))

  pub learns : (u u' x : View T) (v w : T) → u' ≡ after_taking u v → x ≡ after_giving u' w → Learns u w x
  learns u u' x v w is now = let e : x ≡ after_giving u w = now ∙ ap (λ z. after_giving z w) is in
      record { knows = λ s. ap (λ z. last_known z s) e ∙ giving_updates entries own u w s; tries = ap (λ (z : View T). z.tries) e }

  update_either : (u : View T) (w : T) → (is_some u.a || is_some u.b) ≡ true → (is_some (after_giving u w).a || is_some (after_giving u w).b) ≡ true
  update_either u w live = rw (update_is_some u.a w, update_is_some u.b w) live

  pub giving_live : (u u' x : View T) (v w : T) → u' ≡ after_taking u v → x ≡ after_giving u' w → (is_some u.a || is_some u.b) ≡ true → (is_some x.a || is_some x.b) ≡ true
  giving_live u u' x v w is now live = let e : x ≡ after_giving u w = now ∙ ap (λ z. after_giving z w) is in subst (λ (z : View T). (is_some z.a || is_some z.b) ≡ true) (sym e) (update_either u w live)

  pub closes_both : (id : ℕ) (u x y : View T) (ws : List ℕ) (xs : List (Option T)) → u ≡ joined_view x y → is_some x.a ≡ true → is_some y.b ≡ true → Final (Seen (Kept entries own) id u) ws xs
      → (v : T) × (get_elem? xs 0 ≡ some (Some v)) × FollowsKnown entries own A x.a v × FollowsKnown entries own B y.b v
  closes_both id u x y ws xs is ha hb fin =
      let r = closes entries own id (joined_view x y) ws xs refl ha hb (subst (λ z. Final (Seen (Kept entries own) id z) ws xs) is fin) in
      (r.0, r.1, r.2 A, r.2 B)

  pub may_meet_again : {F R : Type 0} (m : Once F (MutBor T × Unit {0}) (R × (MutBor T × Unit {0}))) (f : F) (u u' : View T) → SameKnown u u' → MayMeet entries own m f u → MayMeet entries own m f u'
  may_meet_again m f u u' same may v fits =
      let k = may v (same_known entries own u u' v (λ s. sym (same s)) fits) in
      (k.0, λ r w met. (let p = k.1 r w met in (p.0, λ s none. p.1 s (ap is_some (sym (same s)) ∙ none))))
