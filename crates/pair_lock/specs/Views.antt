-- What a seat knows, and what it knows after each kind of step.
use Rattle.std.specs.Prelude.{◌≡◌, ◌≤◌, ◌+◌, Option, Some, None}
use Rattle.s7_events.specs.declared.entry.Side.{Side}
use Rattle.s7_events.specs.declared.entry.Side.TheVariants.{A, B}
use Rattle.pair_lock.specs.declared.view.View.{View}

module _ {T : Type 0} where
  -- the value as the view last knew it, where the view is that of this side
  abbrev pub last_known : View T → Side → Option T
  last_known u A = u.a
  last_known u B = u.b

  -- the view of the one seat with which a lock begins: it is that of both sides
  abbrev pub first_view : T → View T
  first_view x = record { a = Some x; b = Some x; took = None; tries = 0 }

  -- the part of A in a view
  abbrev pub only_a : View T → View T
  only_a u = record { a = u.a; b = None; took = None; tries = u.tries }

  -- the part of B in a view
  abbrev pub only_b : View T → View T
  only_b u = record { a = None; b = u.b; took = None; tries = 0 }

  -- the part of A in u and that of B in w
  abbrev pub joined_view : View T → View T → View T
  joined_view u w = record { a = u.a; b = w.b; took = None; tries = u.tries }

  -- the view of a seat that was joined to another
  abbrev pub spent_view : View T
  spent_view = record { a = None; b = None; took = None; tries = 0 }

  -- it has taken the turn, and the value v with it
  abbrev pub after_taking : View T → T → View T
  after_taking u v = record { a = u.a; b = u.b; took = Some v; tries = u.tries }

  -- it has found the turn held once more
  abbrev pub after_try : View T → View T
  after_try u = record { a = u.a; b = u.b; took = u.took; tries = u.tries + 1 }

  -- w in place of what was known
  abbrev pub update : Option T → T → Option T
  update None w = None
  update (Some x) w = Some w

  -- it has given the turn, and left the value w
  abbrev pub after_giving : View T → T → View T
  after_giving u w = record { a = update u.a w; b = update u.b w; took = None; tries = u.tries }

  -- the view u' knows the value as w, for the side of u, and counts no further try
  pub record Learns (u : View T) (w : T) (u' : View T) : Type 0 where
    pub knows : (s : Side) → last_known u' s ≡ update (last_known u s) w
    pub tries : u'.tries ≡ u.tries

  -- the same, after any number of tries
  pub record LearnsLater (u : View T) (w : T) (u' : View T) : Type 0 where
    pub knows : (s : Side) → last_known u' s ≡ update (last_known u s) w
    pub tries : u.tries ≤ u'.tries

  -- both know the same, the tries apart
  abbrev pub SameKnown : View T → View T → Type 0
  SameKnown u u' = (s : Side) → last_known u' s ≡ last_known u s
