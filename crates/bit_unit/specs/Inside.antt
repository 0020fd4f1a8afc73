-- The fields of a bit unit, and the state that they stand for.
use Rattle.std.specs.Prelude.{◌≡◌, ℕ, ◌-◌, ◌≤◌, false, List, ◌++◌, length, take, drop, replicate}
use Rattle.std.proofs.Common.{ap, sym, ◌∙◌, arith, length-drop, take-append-drop}
use Rattle.instruction_set.specs.declared.operation.Check.TheVariants.{And}
use Rattle.bit_unit.specs.declared.group.Group.{Group}
use Rattle.bit_unit.specs.declared.unit.BitUnit.TheInside.{Inside}
use Rattle.bit_unit.specs.State.{BitState}

-- an entry that holds nothing
abbrev pub blank : Group
blank = record { how = And; rlo = false; or = false; first_check = false }

-- the entries stand behind the free places
abbrev pub state_of : Inside → BitState
state_of u = record {
  groups = drop u.free_groups u.groups;
  zones = drop u.free_zones u.zones;
  active = u.active;
}

-- of so many places the first are free and blank
pub record IsStack {X : Type 0} (places free : ℕ) (nothing : X) (xs : List X) : Type 0 where
  pub full : length xs ≡ places
  pub within : free ≤ places
  pub unused : take free xs ≡ replicate free nothing

pub record IsTidy (u : Inside) : Type 0 where
  pub groups : IsStack 7 u.free_groups blank u.groups
  pub zones : IsStack 8 u.free_zones false u.zones

-- the fields that stand for a state
abbrev pub inside_of : BitState → Inside
inside_of s = record {
  groups = replicate (7 - length s.groups) blank ++ s.groups;
  free_groups = 7 - length s.groups;
  zones = replicate (8 - length s.zones) false ++ s.zones;
  free_zones = 8 - length s.zones;
  active = s.active;
}

used : {X : Type 0} (places free : ℕ) (nothing : X) (xs : List X) → IsStack places free nothing xs → places - length (drop free xs) ≡ free
used places free nothing xs s = omega (arith, length-drop free xs, s.full, s.within)

whole : {X : Type 0} (places free : ℕ) (nothing : X) (xs : List X) → IsStack places free nothing xs → replicate (places - length (drop free xs)) nothing ++ drop free xs ≡ xs
whole places free nothing xs s =
    ap (λ n. replicate n nothing ++ drop free xs) (used places free nothing xs s)
    ∙ ap (λ front. front ++ drop free xs) (sym s.unused)
    ∙ take-append-drop free xs

-- the state gives the fields back
pub inside_of-state_of : (u : Inside) → IsTidy u → inside_of (state_of u) ≡ u
inside_of-state_of u tidy i = record {
  groups = whole 7 u.free_groups blank u.groups tidy.groups i;
  free_groups = used 7 u.free_groups blank u.groups tidy.groups i;
  zones = whole 8 u.free_zones false u.zones tidy.zones i;
  free_zones = used 8 u.free_zones false u.zones tidy.zones i;
  active = u.active;
}
