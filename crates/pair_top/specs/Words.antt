-- The command words.
use Rattle.std.specs.Prelude.{ℕ, nat_le, Bool, ◌&&◌, List, [], ◌∷◌, Option, Some, None, codes, map, Vec, if◌then◌else◌}
use Rattle.std.specs.Option.{option_map}
use Rattle.std.specs.declared.alloc.Global.{Global}
use Rattle.std.specs.Str.{bytes_eq, all_ascii_digits}
use Rattle.pair_top.specs.Fields.{value_from}
use Rattle.pair_top.specs.Orders.{Order, play, load, connect, make, alone, by_turns, fewest_moments, most_moments}
use Rattle.pair_top.specs.Pattern.{visits_of}

-- the bytes of the words
abbrev pub words_of : List (Vec ℕ Global) → List (List ℕ)
words_of words = map (λ word. word.items) words

-- `turns SOURCE SCRIPT PATTERN`, where the last word is a pattern
abbrev pub turns_of : List ℕ → List ℕ → List ℕ → Option Order
turns_of source script pattern = option_map (λ visits. play (by_turns visits) source script) (visits_of pattern)

-- a number from 1,000 to 100,000, whose digits these are
abbrev pub moments_by : Bool → ℕ → Option ℕ
moments_by digits value = if digits && nat_le fewest_moments value && nat_le value most_moments then Some value else None

abbrev pub moments_of : List ℕ → Option ℕ
moments_of digits = moments_by (all_ascii_digits digits) (value_from 0 digits)

-- `make N`, where the last word is such a number
abbrev pub make_of : List ℕ → Option Order
make_of digits = option_map (λ moments. make moments) (moments_of digits)

-- the command that the words are: `load SOURCE`, `connect EVENTS`, `make N`, `solo SOURCE SCRIPT` or
-- `turns SOURCE SCRIPT PATTERN`; other words are none
abbrev pub command_of : List (List ℕ) → Option Order
command_of (word ∷ argument ∷ []) =
    if bytes_eq word (codes "load") then Some (load argument)
    else if bytes_eq word (codes "connect") then Some (connect argument)
    else if bytes_eq word (codes "make") then make_of argument
    else None
command_of (word ∷ source ∷ script ∷ []) = if bytes_eq word (codes "solo") then Some (play alone source script) else None
command_of (word ∷ source ∷ script ∷ pattern ∷ []) = if bytes_eq word (codes "turns") then turns_of source script pattern else None
command_of words = None
