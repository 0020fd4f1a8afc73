-- A test that two bits are not the same is their exclusive OR.
use Rattle.std.proofs.Common.{◌≡◌, refl}
use Rattle.std.specs.Prelude.{Bool, true, false, not}
use Rattle.std.specs.Bool.{beq}
use Rattle.status_word.specs.BitRows.{differ}

pub not_same_is_differ : (a b : Bool) → not (beq a b) ≡ differ a b
not_same_is_differ true true = refl
not_same_is_differ true false = refl
not_same_is_differ false true = refl
not_same_is_differ false false = refl
