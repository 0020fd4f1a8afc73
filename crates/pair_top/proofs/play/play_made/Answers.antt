-- Both sides in turn.
use Rattle.std.proofs.Common.{◌*◌, ◌∷◌, []}
use Rattle.s7_events.specs.declared.entry.Side.TheVariants.{A, B}
use Rattle.pair_top.specs.Pattern.{repeated}
use Rattle.pair_top.proofs.Plays.{plays_through}
use Rattle.pair_top.proofs.play.play_made.Goals as goal

pub returns-clause-played : goal.returns-clause-played
returns-clause-played c =
    plays_through c.args.pair.now.setup c.args.pair.now.world c.play_part.new.pair.world (repeated (4 * c.args.moments) (A ∷ B ∷ []))
    c.play_part.result c.play_part.ensures.played
