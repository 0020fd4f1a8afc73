-- The words and signs that operands begin with.
use Rattle.std.specs.Prelude.{ℕ, List, Option}
use Rattle.std.specs.List.{find}
use Rattle.std.specs.Str.{bytes_eq}
use Rattle.stl_lex.specs.Bytes.{spells, letters_of}
use Rattle.stl_reader.specs.declared.words.OperandWord.{OperandWord}
use Rattle.stl_reader.specs.declared.words.StatusSign.{StatusSign}
use Rattle.stl_reader.specs.OperandWords.{operand_words, status_signs}

-- the row of a word
unfoldable pub operand_word : List ℕ → Option OperandWord
operand_word word = find (λ row. spells (letters_of row.spelling) word) operand_words

-- the row of a comparison sign
unfoldable pub status_sign : List ℕ → Option StatusSign
status_sign sign = find (λ row. bytes_eq (letters_of row.sign) sign) status_signs
