-- AND, OR and exclusive OR of words and double words.
use Rattle.std.specs.Prelude.{ℕ, ◌==◌, bit_and, bit_or, bit_xor, Bool, not, Option, unwrap_or}
use Rattle.status_word.specs.declared.status.StatusWord.{StatusWord}
use Rattle.status_word.specs.NumberRows.{logic_row}
use Rattle.accumulators.specs.declared.accus.Accus.{Accus}
use Rattle.instruction_set.specs.declared.operation.Word.{Word}
use Rattle.instruction_set.specs.declared.operation.Word.TheVariants.{And, Or, Xor}
use Rattle.accumulators.specs.Parts.{part, low, with_low}

abbrev pub combined : Word → ℕ → ℕ → ℕ
combined And left right = bit_and left right
combined Or left right = bit_or left right
combined Xor left right = bit_xor left right

-- the part of ACCU1 combined with that of the constant, or of ACCU2 where there is none
abbrev pub word_result : Word → Bool → Option ℕ → Accus → ℕ
word_result op wide constant a =
    combined op (low (part wide) a.accu1) (low (part wide) (unwrap_or constant a.accu2))

-- the result in its part of ACCU1
abbrev pub worded : Word → Bool → Option ℕ → Accus → Accus
worded op wide constant a =
    record a { accu1 = with_low (part wide) a.accu1 (word_result op wide constant a) }

abbrev pub worded_status : Word → Bool → Option ℕ → Accus → StatusWord → StatusWord
worded_status op wide constant a s = logic_row (not (word_result op wide constant a == 0)) s
