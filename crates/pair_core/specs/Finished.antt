-- How a run is told to have ended.
use Rattle.std.specs.Prelude.{◌≡◌, false, not, ◌&&◌, is_some, unwrap_or}
use Rattle.pair_core.specs.declared.endings.Ended.{Ended}
use Rattle.pair_core.specs.declared.endings.Ended.TheVariants.{Spent}
use Rattle.pair_core.specs.Setup.{Setup}
use Rattle.pair_core.specs.World.{World, ended}

-- Spent where nothing else holds
abbrev pub ended_by : Setup → World → Ended
ended_by p w = unwrap_or (ended p w) Spent

-- of two sides, or of one where the run has ended: it alone is played until then
abbrev pub MayEnd : Setup → World → Type 0
MayEnd p w = (p.solo && not (is_some (ended p w))) ≡ false
