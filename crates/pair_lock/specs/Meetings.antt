-- A meeting: one call of a function on the locked value.
use Rattle.std.specs.Prelude.{◌≡◌, List}
use Rattle.std.specs.Fn.{Once, FnOnceTakesAtMut, FnOnceReturnsAtMut}
use denote.Ref.{MutBor}
use Rattle.s7_events.specs.declared.entry.Side.{Side}
use Rattle.pair_lock.specs.declared.view.View.{View}
use Rattle.pair_lock.specs.Turns.{Fits, Keeps}

module _ {T E O : Type 0} (entries : T → List E) (own : T → Side → O) where
  -- f may be called on every value that the view may find; on each it only adds entries, and leaves the other side's own part
  abbrev pub MayMeet : {F R : Type 0} → Once F (MutBor T × Unit {0}) (R × (MutBor T × Unit {0})) → F → View T → Type 0
  MayMeet {F} {R} g f u = (v : T) → Fits entries own u v → FnOnceTakesAtMut g f v × ((r : R) (w : T) → FnOnceReturnsAtMut g f v r w → Keeps entries own u v w)

  -- f was called once, on the value v, returned r and left w
  pub record Met {F R : Type 0} (g : Once F (MutBor T × Unit {0}) (R × (MutBor T × Unit {0}))) (f : F) (u : View T) (v : T) (r : R) (w : T) : Type 0 where
    pub fits : Fits entries own u v
    pub called : FnOnceReturnsAtMut g f v r w
    pub keeps : Keeps entries own u v w

-- a call of f at a `&mut` to x and one to s may return r, and leave x' and s'
pub record CalledWith {T F S R : Type 0} (g : Once F (MutBor T × (MutBor S × Unit {0})) (R × (MutBor T × (MutBor S × Unit {0})))) (f : F) (x : T) (s : S) (r : R) (x' : T) (s' : S) : Type 0 where
  pub shown : MutBor T
  pub shows : shown.now ≡ x
  pub lent : MutBor S
  pub lends : lent.now ≡ s
  pub left : MutBor T
  pub back : MutBor S
  pub met : g.post f (shown, (lent, tt)) (r, (left, (back, tt)))
  pub leaves : left.now ≡ x'
  pub gives : back.now ≡ s'

-- f may be called at a `&mut` to x and one to s
abbrev pub TakesWith : {T F S R : Type 0} → Once F (MutBor T × (MutBor S × Unit {0})) (R × (MutBor T × (MutBor S × Unit {0}))) → F → T → S → Type 0
TakesWith {T} {F} {S} {R} g f x s = (p : MutBor T) (q : MutBor S) → p.now ≡ x → q.now ≡ s → g.pre f (p, (q, tt))

module _ {T E O : Type 0} (entries : T → List E) (own : T → Side → O) where
  -- the same as `MayMeet`, with a value s that the caller lends
  abbrev pub MayMeetWith : {F S R : Type 0} → Once F (MutBor T × (MutBor S × Unit {0})) (R × (MutBor T × (MutBor S × Unit {0}))) → F → View T → S → Type 0
  MayMeetWith {F} {S} {R} g f u s = (v : T) → Fits entries own u v → TakesWith g f v s × ((r : R) (w : T) (s' : S) → CalledWith g f v s r w s' → Keeps entries own u v w)

  -- the same as `Met`, where the caller lent s, and f left s' in it
  pub record MetWith {F S R : Type 0} (g : Once F (MutBor T × (MutBor S × Unit {0})) (R × (MutBor T × (MutBor S × Unit {0})))) (f : F) (u : View T) (v : T) (s : S) (r : R) (w : T) (s' : S) : Type 0 where
    pub fits : Fits entries own u v
    pub called : CalledWith g f v s r w s'
    pub keeps : Keeps entries own u v w
