-- How operands are written, and which of these forms stand behind a mnemonic.
use Rattle.std.specs.Prelude.{ℕ, List, Bool, true, false, ◌&&◌, ◌==◌, if◌then◌else◌}
use Rattle.std.specs.List.{list_any}
use Rattle.std.specs.Str.{bytes_eq}
use Rattle.instruction_set.specs.declared.operands.OperandKind.{OperandKind}
use Rattle.instruction_set.specs.declared.operands.OperandKind.TheVariants as kinds
use Rattle.instruction_set.specs.InstructionSet.{instruction_set}
use Rattle.stl_reader.specs.declared.forms.OperandForm.{OperandForm}
use Rattle.stl_reader.specs.declared.forms.OperandForm.TheVariants as forms

-- what a check reads
abbrev pub is_checked : OperandForm → Bool
is_checked forms.Bit = true
is_checked forms.Timer = true
is_checked forms.Counter = true
is_checked forms.Status = true
is_checked _ = false

-- a bit of memory
abbrev pub is_bit : OperandForm → Bool
is_bit forms.Bit = true
is_bit _ = false

-- what is set
abbrev pub is_set : OperandForm → Bool
is_set forms.Bit = true
is_set forms.Counter = true
is_set _ = false

-- what is reset
abbrev pub is_reset : OperandForm → Bool
is_reset forms.Bit = true
is_reset forms.Timer = true
is_reset forms.Counter = true
is_reset _ = false

-- what is loaded
abbrev pub is_loaded : OperandForm → Bool
is_loaded forms.Value = true
is_loaded forms.PeripheralIn = true
is_loaded forms.Timer = true
is_loaded forms.Counter = true
is_loaded forms.StatusWord = true
is_loaded forms.DataRegister = true
is_loaded forms.Number = true
is_loaded forms.SignedNumber = true
is_loaded forms.LongInteger = true
is_loaded forms.WordPattern = true
is_loaded forms.DoubleWordPattern = true
is_loaded forms.OtherLiteral = true
is_loaded _ = false

-- what is stored to
abbrev pub is_stored : OperandForm → Bool
is_stored forms.Value = true
is_stored forms.PeripheralOut = true
is_stored forms.StatusWord = true
is_stored _ = false

-- what is loaded in BCD
abbrev pub is_coded : OperandForm → Bool
is_coded forms.Timer = true
is_coded forms.Counter = true
is_coded _ = false

-- what is added
abbrev pub is_addend : OperandForm → Bool
is_addend forms.Number = true
is_addend forms.SignedNumber = true
is_addend forms.LongInteger = true
is_addend _ = false

abbrev pub is_number : OperandForm → Bool
is_number forms.Number = true
is_number _ = false

abbrev pub is_word_pattern : OperandForm → Bool
is_word_pattern forms.WordPattern = true
is_word_pattern _ = false

abbrev pub is_double_word_pattern : OperandForm → Bool
is_double_word_pattern forms.DoubleWordPattern = true
is_double_word_pattern _ = false

abbrev pub is_label : OperandForm → Bool
is_label forms.Label = true
is_label _ = false

abbrev pub is_timer : OperandForm → Bool
is_timer forms.Timer = true
is_timer _ = false

abbrev pub is_counter : OperandForm → Bool
is_counter forms.Counter = true
is_counter _ = false

abbrev pub is_data_block : OperandForm → Bool
is_data_block forms.DataBlock = true
is_data_block _ = false

abbrev pub is_instance_block : OperandForm → Bool
is_instance_block forms.InstanceBlock = true
is_instance_block _ = false

abbrev pub is_function : OperandForm → Bool
is_function forms.Function = true
is_function _ = false

abbrev pub is_function_block : OperandForm → Bool
is_function_block forms.FunctionBlock = true
is_function_block _ = false

abbrev pub is_function_block_with_data : OperandForm → Bool
is_function_block_with_data forms.FunctionBlockWithData = true
is_function_block_with_data _ = false

abbrev pub is_system_function : OperandForm → Bool
is_system_function forms.SystemFunction = true
is_system_function _ = false

-- an operand of the kind may be written in this form; a mask of 16 bits is written as W#16#, a count as a number
abbrev pub takes : OperandKind → OperandForm → Bool
takes kinds.Nothing form = false
takes kinds.CheckedBit form = is_checked form
takes kinds.WrittenBit form = is_bit form
takes kinds.SetBit form = is_set form
takes kinds.ResetBit form = is_reset form
takes kinds.Loaded form = is_loaded form
takes kinds.Stored form = is_stored form
takes kinds.Coded form = is_coded form
takes kinds.Addend form = is_addend form
takes (kinds.UpTo most) form = is_number form
takes (kinds.Exactly number) form = is_number form
takes (kinds.AtMost most) form = if most == 65535 then is_word_pattern form else is_number form
takes kinds.Mask form = is_double_word_pattern form
takes kinds.Target form = is_label form
takes kinds.Timer form = is_timer form
takes kinds.Counter form = is_counter form
takes kinds.DataBlock form = is_data_block form
takes kinds.InstanceBlock form = is_instance_block form
takes kinds.Function form = is_function form
takes kinds.FunctionBlock form = is_function_block form
takes kinds.FunctionBlockWithData form = is_function_block_with_data form
takes (kinds.SystemFunction number) form = is_system_function form

-- an operand of the kind may be left out
abbrev pub takes_none : OperandKind → Bool
takes_none kinds.Nothing = true
takes_none (kinds.AtMost most) = true
takes_none kinds.Mask = true
takes_none _ = false

-- there are operands of the kind
abbrev pub takes_some : OperandKind → Bool
takes_some kinds.Nothing = false
takes_some _ = true

-- an operand of this form may stand behind the mnemonic
unfoldable pub accepts : List ℕ → OperandForm → Bool
accepts mnemonic form = list_any (λ row. bytes_eq row.mnemonic mnemonic && takes row.operand form) instruction_set

-- the mnemonic may stand without an operand
unfoldable pub may_be_alone : List ℕ → Bool
may_be_alone mnemonic = list_any (λ row. bytes_eq row.mnemonic mnemonic && takes_none row.operand) instruction_set

-- an operand may stand behind the mnemonic
unfoldable pub takes_operand : List ℕ → Bool
takes_operand mnemonic = list_any (λ row. bytes_eq row.mnemonic mnemonic && takes_some row.operand) instruction_set
