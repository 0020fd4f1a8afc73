-- What the least fault is.
use Rattle.std.specs.Prelude.{◌≡◌, ◌<◌, ◌≤◌, ◌⊎◌, List, [], ◌∷◌}
use Rattle.stl_decl.specs.Faults.{kind_number}
use Rattle.stl_decl.specs.declared.fault.Fault.{Fault}

-- the earlier line, then the earlier column, then the lower kind
abbrev pub IsNotAfter : Fault → Fault → Type 0
IsNotAfter f g = (f.line < g.line) ⊎ ((f.line ≡ g.line) × ((f.column < g.column) ⊎ ((f.column ≡ g.column) × (kind_number f.kind ≤ kind_number g.kind))))

abbrev pub IsOneOf : Fault → List Fault → Type 0
IsOneOf f [] = ⊥
IsOneOf f (g ∷ gs) = (f ≡ g) ⊎ IsOneOf f gs

abbrev pub IsBeforeAll : Fault → List Fault → Type 0
IsBeforeAll f [] = Unit {0}
IsBeforeAll f (g ∷ gs) = IsNotAfter f g × IsBeforeAll f gs

-- f is one of these faults, and none of them is before it
pub record IsLeast (f : Fault) (fs : List Fault) : Type 0 where
  pub one : IsOneOf f fs
  pub before : IsBeforeAll f fs
