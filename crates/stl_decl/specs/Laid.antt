-- How names lie one behind the other, and what follows from it: no two overlap, and each has its type's place.
use Rattle.std.specs.Prelude.{◌≡◌, ◌≤◌, ℕ, List, [], ◌∷◌, ◌+◌, ◌*◌, ◌%◌, if◌then◌else◌}
use Rattle.stl_decl.specs.Places.{Place}
use Rattle.stl_decl.specs.Types.{bits_of, first_bit, end_bit}
use Rattle.stl_decl.specs.Layout.{Name}
use Rattle.stl_decl.specs.declared.types.SimpleType.{SimpleType}
use Rattle.stl_decl.specs.declared.types.SimpleType.TheVariants as types
use Rattle.stl_decl.specs.declared.types.Shape.{Shape}

-- from a bit on, each name begins where its type may begin behind the one before; the last ends at a bit
unfoldable pub AreLaid : ℕ → List Name → ℕ → Type 0
AreLaid at [] end = at ≡ end
AreLaid at (n ∷ ns) end =
    (n.variable.first_bit ≡ first_bit n.variable.shape at) × AreLaid (end_bit n.variable.shape n.variable.first_bit) ns end

-- the bit behind the last element
abbrev pub behind : Place → ℕ
behind p = p.first_bit + p.shape.count * bits_of p.shape.simple

-- each of these begins at this bit or behind it
unfoldable pub AllFrom : ℕ → List Name → Type 0
AllFrom low [] = Unit {0}
AllFrom low (n ∷ ns) = (low ≤ n.variable.first_bit) × AllFrom low ns

-- each begins behind the last element of those before it
unfoldable pub AreApart : List Name → Type 0
AreApart [] = Unit {0}
AreApart (n ∷ ns) = AllFrom (behind n.variable) ns × AreApart ns

abbrev pub unit_of_simple : SimpleType → ℕ
unit_of_simple types.Bool = 1
unit_of_simple types.Byte = 8
unit_of_simple types.Char = 8
unit_of_simple _ = 16

-- at which bits a type may begin: at the multiples of this
abbrev pub unit_of : Shape → ℕ
unit_of shape = if shape.is_array then 16 else unit_of_simple shape.simple

-- each is at a place of its type and ends within these bits
unfoldable pub AreAligned : ℕ → List Name → Type 0
AreAligned end [] = Unit {0}
AreAligned end (n ∷ ns) = (n.variable.first_bit % unit_of n.variable.shape ≡ 0) × (behind n.variable ≤ end) × AreAligned end ns
