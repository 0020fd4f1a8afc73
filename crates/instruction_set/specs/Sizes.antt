-- How wide the values of a statement are.
use Rattle.std.specs.Prelude.{Bool, true, false}
use Rattle.instruction_set.specs.declared.operation.WordSize.{WordSize}
use Rattle.instruction_set.specs.declared.operation.WordSize.TheVariants.{Word, DoubleWord}

-- double words and double integers have 32 bits, words and integers 16
abbrev pub is_wide : WordSize → Bool
is_wide Word = false
is_wide DoubleWord = true
