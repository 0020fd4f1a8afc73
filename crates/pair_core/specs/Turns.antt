-- What a visit is answered.
use Rattle.std.specs.Prelude.{Bool, true, false}
use Rattle.pair_core.specs.declared.turns.Turn.{Turn}
use Rattle.pair_core.specs.declared.turns.Turn.TheVariants.{Answered, Show, Marked, NotYet, Begin, Chunk, Page, Adopt, Dead, Over}

abbrev pub is_over : Turn → Bool
is_over (Over ending) = true
is_over (Answered k) = false
is_over (Show k) = false
is_over (Marked k) = false
is_over (NotYet reason) = false
is_over Begin = false
is_over (Chunk k) = false
is_over (Page k) = false
is_over Adopt = false
is_over Dead = false
