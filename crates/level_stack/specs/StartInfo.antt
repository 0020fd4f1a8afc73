-- The start information of an organisation block.
use Rattle.std.specs.Prelude.{ℕ, List, [], ◌∷◌, ◌++◌, replicate}
use Rattle.std.specs.Int.{bytes_high_first}

-- 17, byte 1, the priority of the level, the number of the block, the info and the moment in four bytes each, and
-- eight bytes 0
abbrev pub start_bytes : ℕ → ℕ → ℕ → ℕ → ℕ → List ℕ
start_bytes first prio ob info at =
    17 ∷ first ∷ prio ∷ ob ∷ [] ++ bytes_high_first 4 info ++ bytes_high_first 4 at ++ replicate 8 0
