-- The numbers of the areas that stored operands name.
use Rattle.std.specs.Prelude.{ℕ}
use Rattle.instruction_set.specs.declared.operands.OperandArea.{OperandArea}
use Rattle.instruction_set.specs.declared.operands.OperandArea.TheVariants as areas

-- the areas are numbered in this order
abbrev pub area_number : OperandArea → ℕ
area_number areas.Nothing = 0
area_number areas.Inputs = 1
area_number areas.Outputs = 2
area_number areas.Memory = 3
area_number areas.Local = 4
area_number areas.Data = 5
area_number areas.Instance = 6
area_number areas.PeripheralIn = 7
area_number areas.PeripheralOut = 8
area_number areas.Timer = 9
area_number areas.Counter = 10
area_number areas.Word = 11
area_number areas.DoubleWord = 12
area_number areas.Target = 13
area_number areas.Status = 14
area_number areas.StatusWord = 15
area_number areas.Function = 16
area_number areas.FunctionBlock = 17
area_number areas.SystemFunction = 18
area_number areas.DataLength = 19
area_number areas.DataNumber = 20
area_number areas.InstanceLength = 21
area_number areas.InstanceNumber = 22
