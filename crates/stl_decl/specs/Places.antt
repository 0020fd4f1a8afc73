-- Where a declared name lies.
use Rattle.std.specs.Prelude.{ℕ}
use Rattle.stl_decl.specs.declared.types.Shape.{Shape}

-- what a name stands for: its type, and the bit of its section that it begins at
pub record Place : Type 0 where
  pub first_bit : ℕ
  pub shape : Shape
