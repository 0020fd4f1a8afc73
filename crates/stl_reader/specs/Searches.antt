-- What is asked of an entry of the instruction set.
use Rattle.std.specs.Prelude.{ℕ, List, Bool, ◌&&◌}
use Rattle.std.specs.Str.{bytes_eq}
use Rattle.instruction_set.specs.declared.table.InstructionRow.{InstructionRow}
use Rattle.s7_base.specs.declared.statement.Statement.{Statement}
use Rattle.s7_base.specs.Operands.{allows}
use Rattle.stl_lex.specs.Bytes.{spells, letters_of}
use Rattle.stl_reader.specs.declared.forms.OperandForm.{OperandForm}
use Rattle.stl_reader.specs.Forms.{takes, takes_none, takes_some}

-- its mnemonic is the word
abbrev pub row_spells : List ℕ → InstructionRow → Bool
row_spells word row = spells (letters_of row.mnemonic) word

-- it has the mnemonic and takes an operand of the form
abbrev pub row_accepts : List ℕ → OperandForm → InstructionRow → Bool
row_accepts mnemonic form row = bytes_eq row.mnemonic mnemonic && takes row.operand form

-- it has the mnemonic and may stand without an operand
abbrev pub row_may_be_alone : List ℕ → InstructionRow → Bool
row_may_be_alone mnemonic row = bytes_eq row.mnemonic mnemonic && takes_none row.operand

-- it has the mnemonic and takes an operand
abbrev pub row_takes_operand : List ℕ → InstructionRow → Bool
row_takes_operand mnemonic row = bytes_eq row.mnemonic mnemonic && takes_some row.operand

-- it has the mnemonic and allows the operand of the statement, in a block with so many bytes of local data
abbrev pub row_allows : List ℕ → ℕ → Statement → InstructionRow → Bool
row_allows mnemonic locals s row = bytes_eq row.mnemonic mnemonic && allows row.operand locals s
