-- The layout of a section.
use Rattle.std.specs.Prelude.{◌≡◌, ℕ, suc, List, [], ◌∷◌, ◌++◌, ◌/◌, Option, Some, None, Vec, if◌then◌else◌}
use Rattle.std.specs.declared.alloc.Global.{Global}
use Rattle.std.specs.BTreeMap.{BTreeMap, get_by}
use Rattle.std.specs.Cmp.Lexicographic.{slice_cmp}
use Rattle.std.specs.Ordering.{nat_cmp}
use Rattle.std.specs.List.{find}
use Rattle.std.specs.Option.{option_map}
use Rattle.std.specs.Str.{bytes_eq}
use Rattle.stl_decl.specs.Types.{round_up, end_bit}
use Rattle.stl_decl.specs.Places.{Place}
use Rattle.stl_decl.specs.declared.names.DeclaredName.{DeclaredName}
use Rattle.stl_decl.specs.declared.layout.FirstValue.{FirstValue}
use Rattle.stl_decl.specs.declared.layout.Declaration.{Declaration}

-- a declared name in upper case, and what it stands for
pub record Name : Type 0 where
  pub name : List ℕ
  pub variable : Place

-- the names in order, the bit behind the last of them, and the first values in the order in which they are written
pub record Section : Type 0 where
  pub names : List Name
  pub end : ℕ
  pub values : List FirstValue

-- a declared name, and its first values
pub record Declared : Type 0 where
  pub name : List ℕ
  pub variable : Place
  pub values : List FirstValue

-- a declared name without where it lies in memory
abbrev pub named : DeclaredName → Name
named d = record { name = d.name.items; variable = d.variable }

-- a declaration without where it lies in memory
abbrev pub declaration_of : Declaration → Declared
declaration_of d = record { name = d.name.items; variable = d.variable; values = d.values.items }

abbrev pub empty_section : Section
empty_section = record { names = []; end = 0; values = [] }

-- what a name in upper case stands for among these
abbrev pub variable_among : List Name → List ℕ → Option Place
variable_among ns word = option_map (λ n. n.variable) (find (λ n. bytes_eq word n.name) ns)

-- the place of a name in the list: how many stand before it
unfoldable pub place_of : List Name → List ℕ → Option ℕ
place_of [] word = None
place_of (n ∷ ns) word = if bytes_eq word n.name then Some 0 else option_map suc (place_of ns word)

-- the map has exactly the names of the list, each at its place
abbrev pub FindsPlaces : BTreeMap (Vec ℕ Global) ℕ → List Name → Type 0
FindsPlaces places ns = (word : List ℕ) → get_by (λ k. slice_cmp nat_cmp word k.items) places ≡ place_of ns word

-- what a name in upper case stands for
abbrev pub variable_of : Section → List ℕ → Option Place
variable_of s word = variable_among s.names word

-- the whole is rounded up to an even number of bytes
abbrev pub size_of : Section → ℕ
size_of s = round_up 16 s.end / 8

-- with one name more
abbrev pub added : Section → Declared → Section
added s d = record {
  names = s.names ++ record { name = d.name; variable = d.variable } ∷ [];
  end = end_bit d.variable.shape d.variable.first_bit;
  values = s.values ++ d.values;
}

-- with a first value more
abbrev pub assigned : Section → FirstValue → Section
assigned s v = record s { values = s.values ++ v ∷ [] }
