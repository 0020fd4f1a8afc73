-- What contracts see of a command.
use Rattle.std.specs.Prelude.{ℕ, List, [], ◌≡◌, true, unwrap_or, is_some}
use Rattle.s7_events.specs.declared.entry.Side.{Side}
use Rattle.pair_top.specs.declared.words.Command.{Command}
use Rattle.pair_top.specs.declared.words.Command.TheVariants as commands
use Rattle.pair_top.specs.declared.play.Visits.{Visits}
use Rattle.pair_top.specs.declared.play.Visits.TheVariants.{Alone, Turns, Made}
use Rattle.pair_top.specs.Orders.{Order, play, load, connect, make, Manner, alone, by_turns, made, AreMoments}
use Rattle.pair_top.specs.Pattern.{visits_of}

-- the visits that a pattern orders
abbrev pub visits_in : List ℕ → List Side
visits_in pattern = unwrap_or (visits_of pattern) []

abbrev pub order_of : Command → Order
order_of (commands.Load source) = load source.now
order_of (commands.Connect events) = connect events.now
order_of (commands.Solo source script) = play alone source.now script.now
order_of (commands.Turns source script pattern) = play (by_turns (visits_in pattern.now)) source.now script.now
order_of (commands.Make moments) = make moments

-- its pattern is one, its number of moments is one of a made play
abbrev pub IsReadable : Command → Type 0
IsReadable (commands.Load source) = Unit {0}
IsReadable (commands.Connect events) = Unit {0}
IsReadable (commands.Solo source script) = Unit {0}
IsReadable (commands.Turns source script pattern) = is_some (visits_of pattern.now) ≡ true
IsReadable (commands.Make moments) = AreMoments moments

abbrev pub manner_in : Visits → Manner
manner_in Alone = alone
manner_in (Turns pattern) = by_turns (visits_in pattern.now)
manner_in (Made moments) = made moments

-- the same of visits
abbrev pub AreReadable : Visits → Type 0
AreReadable Alone = Unit {0}
AreReadable (Turns pattern) = is_some (visits_of pattern.now) ≡ true
AreReadable (Made moments) = AreMoments moments
