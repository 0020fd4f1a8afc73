-- The data blocks of a CPU are those of its tail.
use Rattle.std.proofs.Common.{◌≡◌, ℕ, zero, suc, List, [], ◌∷◌, Option, Some, None, length, refl, slice_get}
use Rattle.std.specs.Prelude.{slice_index_or, unwrap_or}
use Rattle.std.specs.Option.{option_map}
use Rattle.cpu_image.specs.Image.{bytes_in}
use Rattle.trace_text.specs.Tail.{block_by}

pub block_same : (blocks : List (Option (List ℕ))) (number : ℕ) → slice_index_or blocks number None ≡ block_by (slice_get blocks number)
block_same [] number = refl
block_same (block ∷ blocks) zero = refl
block_same (block ∷ blocks) (suc number) = block_same blocks number

pub bytes_same : (block : Option (List ℕ)) → bytes_in block ≡ unwrap_or block []
bytes_same None = refl
bytes_same (Some bytes) = refl

pub block_size : (block : Option (List ℕ)) (size : ℕ) → option_map length block ≡ Some size → length (unwrap_or block []) ≡ size
block_size None size e = absurd cc
block_size (Some bytes) size e = cc
