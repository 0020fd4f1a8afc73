-- What contracts see of the parts of a pattern.
use Rattle.std.specs.Prelude.{ℕ, List, [], unwrap_or, Option, Some, None}
use Rattle.std.specs.Borrow.{Bor}
use Rattle.s7_events.specs.declared.entry.Side.{Side}
use Rattle.pair_top.specs.declared.pattern.PatternPart.{PatternPart}
use Rattle.pair_top.specs.Pattern.{Repeated, sides_of, pieces}

-- the sides that letters name, which are letters
abbrev pub sides_in : List ℕ → List Side
sides_in letters = unwrap_or (sides_of letters) []

abbrev pub part_view : PatternPart → Repeated
part_view part = record { times = part.times; sides = sides_in part.letters.now }

-- the pieces of what is left of a word
abbrev pub pieces_left : Option (Bor (List ℕ)) → List (List ℕ)
pieces_left None = []
pieces_left (Some rest) = pieces rest.now
