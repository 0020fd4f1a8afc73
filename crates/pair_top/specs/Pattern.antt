-- The pattern of a play by turns: parts joined by commas. A part is 1 to 64 letters, or a number, `*` and such letters.
use Rattle.std.specs.Prelude.{ℕ, zero, suc, ◌+◌, ◌*◌, ◌==◌, Bool, ◌&&◌, if◌then◌else◌, nat_le, List, [], ◌∷◌, ◌++◌, length, Option, Some, None}
use Rattle.std.specs.List.{flat_map}
use Rattle.std.specs.Str.{all_ascii_digits}
use Rattle.s7_events.specs.declared.entry.Side.{Side}
use Rattle.s7_events.specs.declared.entry.Side.TheVariants.{A, B}
use Rattle.s7_events.specs.Optional.{◌>>=◌}
use Rattle.plant_script.specs.Fields.{split_at}
use Rattle.pair_top.specs.Fields.{value_from}

-- a part has at most 64 letters, which are repeated at most 1,000,000 times; a pattern has at most 4,000,000 visits
abbrev pub most_letters : ℕ
most_letters = 64

abbrev pub most_times : ℕ
most_times = 1000000

abbrev pub most_visits : ℕ
most_visits = 4000000

-- the side that a letter names: `a` or `b`
abbrev pub side_of : ℕ → Option Side
side_of letter = if letter == 97 then Some A else (if letter == 98 then Some B else None)

abbrev pub sides_from : List ℕ → Option (List Side)
sides_from [] = Some []
sides_from (letter ∷ letters) = do
  side ← side_of letter
  sides ← sides_from letters
  Some (side ∷ sides)

-- the sides that 1 to 64 letters name
abbrev pub sides_of : List ℕ → Option (List Side)
sides_of letters = if nat_le 1 (length letters) && nat_le (length letters) most_letters then sides_from letters else None

-- a number from 1 to 1,000,000, whose digits these are
abbrev pub times_by : Bool → ℕ → Option ℕ
times_by digits value = if digits && nat_le 1 value && nat_le value most_times then Some value else None

abbrev pub times_of : List ℕ → Option ℕ
times_of digits = times_by (all_ascii_digits digits) (value_from 0 digits)

-- a part: so often these sides
pub record Repeated : Type 0 where
  pub times : ℕ
  pub sides : List Side

abbrev pub repeated : ℕ → List Side → List Side
repeated zero sides = []
repeated (suc times) sides = sides ++ repeated times sides

abbrev pub visits_of_part : Repeated → List Side
visits_of_part part = repeated part.times part.sides

-- the letters alone stand for once
abbrev pub part_by : Option (List ℕ × List ℕ) → List ℕ → Option Repeated
part_by None piece = do
  sides ← sides_of piece
  Some (record { times = 1; sides = sides })
part_by (Some split) piece = do
  times ← times_of split.0
  sides ← sides_of split.1
  Some (record { times = times; sides = sides })

-- the part that a piece spells: what stands before a `*` is the number
abbrev pub part_of : List ℕ → Option Repeated
part_of piece = part_by (split_at 42 piece) piece

-- the first byte of a word comes before its first piece
abbrev pub onto_first : ℕ → List (List ℕ) → List (List ℕ)
onto_first b [] = (b ∷ []) ∷ []
onto_first b (piece ∷ pieces) = (b ∷ piece) ∷ pieces

-- the pieces of a word between its commas
abbrev pub pieces : List ℕ → List (List ℕ)
pieces [] = [] ∷ []
pieces (b ∷ bs) = if b == 44 then [] ∷ pieces bs else onto_first b (pieces bs)

abbrev pub parts_of : List (List ℕ) → Option (List Repeated)
parts_of [] = Some []
parts_of (piece ∷ pieces) = do
  part ← part_of piece
  parts ← parts_of pieces
  Some (part ∷ parts)

-- how many visits they are
abbrev pub visits_in : List Repeated → ℕ
visits_in [] = 0
visits_in (part ∷ parts) = part.times * length part.sides + visits_in parts

-- the visits that parts order, of which there are 4,000,000 at most
abbrev pub visits_by : Option (List Repeated) → Option (List Side)
visits_by None = None
visits_by (Some parts) = if nat_le (visits_in parts) most_visits then Some (flat_map visits_of_part parts) else None

-- the visits that a word orders, if it is a pattern
unfoldable pub visits_of : List ℕ → Option (List Side)
visits_of word = visits_by (parts_of (pieces word))
