-- The bytes before place i are the module's.
use Rattle.std.proofs.Common.{◌≡◌, ℕ, ◌<◌, length, get_or}
use Rattle.plant_io.specs.PlantValue.{byte_at}
use Rattle.plant_io.proofs.value.side_bytes.Given as goal

abbrev pub invariant-loop-i : goal.invariant-loop-i
invariant-loop-i l =
    (length l.bytes ≡ 64) × ((j : ℕ) → j < l.i → get_or l.bytes j 0 ≡ byte_at l.script l.m l.side l.k j)
