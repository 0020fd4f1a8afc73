-- The instruction set: its operations by groups, in the order in which the manual lists the groups. Each entry is a
-- mnemonic, an operation, and the kind of operand that it takes. The place of an entry, from 0, is the operation's
-- number; a mnemonic that takes operands of several kinds has an entry for each of its operations.
use Rattle.std.specs.Prelude.{ℕ, ◌-◌, ◌++◌, List, [], ◌∷◌, length, replicate, codes}
use Prim.Native.String.{String}
use Rattle.instruction_set.specs.declared.table.InstructionRow.{InstructionRow}
use Rattle.instruction_set.specs.declared.operands.OperandKind.{OperandKind}
use Rattle.instruction_set.specs.declared.operands.OperandKind.TheVariants as kinds
use Rattle.instruction_set.specs.declared.operation.Operation.{Operation}
use Rattle.instruction_set.specs.declared.operation.Operation.TheVariants as operations
use Rattle.instruction_set.specs.declared.operation.Check.TheVariants as checks
use Rattle.instruction_set.specs.declared.operation.BitWrite.TheVariants as writes
use Rattle.instruction_set.specs.declared.operation.RloOperation.TheVariants as rlo
use Rattle.instruction_set.specs.declared.operation.Edge.TheVariants as edges
use Rattle.instruction_set.specs.declared.operation.MasterControl.TheVariants as zones
use Rattle.instruction_set.specs.declared.operation.Move.TheVariants as moves
use Rattle.instruction_set.specs.declared.operation.Num.TheVariants as integers
use Rattle.instruction_set.specs.declared.operation.WordSize.TheVariants as sizes
use Rattle.instruction_set.specs.declared.operation.Cmp.TheVariants as relations
use Rattle.instruction_set.specs.declared.operation.Word.TheVariants as word_logic
use Rattle.instruction_set.specs.declared.operation.Shift.TheVariants as shifted
use Rattle.instruction_set.specs.declared.operation.Jump.TheVariants as jumped
use Rattle.instruction_set.specs.declared.operation.TimerKind.TheVariants as timing
use Rattle.instruction_set.specs.declared.operation.BlockOperation.TheVariants as control
use Rattle.instruction_set.specs.declared.operation.NoOperation.TheVariants as idle

-- letters in a field of n bytes, zero-padded
abbrev pub in_field : ℕ → List ℕ → List ℕ
in_field size letters = letters ++ replicate (size - length letters) 0

-- a mnemonic has at most five letters
abbrev pub entry : String → Operation → OperandKind → InstructionRow
entry mnemonic operation operand = record { operation = operation; mnemonic = in_field 5 (codes mnemonic); operand = operand }

-- bit logic
abbrev pub bit_logic : List InstructionRow
bit_logic =
    entry "A" (operations.Check checks.And) kinds.CheckedBit
    ∷ entry "AN" (operations.Check checks.AndNot) kinds.CheckedBit
    ∷ entry "O" (operations.Check checks.Or) kinds.CheckedBit
    ∷ entry "ON" (operations.Check checks.OrNot) kinds.CheckedBit
    ∷ entry "X" (operations.Check checks.Xor) kinds.CheckedBit
    ∷ entry "XN" (operations.Check checks.XorNot) kinds.CheckedBit
    ∷ entry "O" operations.AndBeforeOr kinds.Nothing
    ∷ entry "A(" (operations.Open checks.And) kinds.Nothing
    ∷ entry "AN(" (operations.Open checks.AndNot) kinds.Nothing
    ∷ entry "O(" (operations.Open checks.Or) kinds.Nothing
    ∷ entry "ON(" (operations.Open checks.OrNot) kinds.Nothing
    ∷ entry "X(" (operations.Open checks.Xor) kinds.Nothing
    ∷ entry "XN(" (operations.Open checks.XorNot) kinds.Nothing
    ∷ entry ")" operations.Close kinds.Nothing
    ∷ entry "=" (operations.Write writes.Assign) kinds.WrittenBit
    ∷ entry "S" (operations.Write writes.Set) kinds.SetBit
    ∷ entry "R" (operations.Write writes.Reset) kinds.ResetBit
    ∷ entry "NOT" (operations.Rlo rlo.NegateRlo) kinds.Nothing
    ∷ entry "SET" (operations.Rlo rlo.SetRlo) kinds.Nothing
    ∷ entry "CLR" (operations.Rlo rlo.ClearRlo) kinds.Nothing
    ∷ entry "SAVE" (operations.Rlo rlo.SaveRlo) kinds.Nothing
    ∷ entry "FP" (operations.Edge edges.Rising) kinds.WrittenBit
    ∷ entry "FN" (operations.Edge edges.Falling) kinds.WrittenBit
    ∷ entry "MCRA" (operations.MasterControl zones.Activate) kinds.Nothing
    ∷ entry "MCRD" (operations.MasterControl zones.Deactivate) kinds.Nothing
    ∷ entry "MCR(" (operations.MasterControl zones.OpenZone) kinds.Nothing
    ∷ entry ")MCR" (operations.MasterControl zones.CloseZone) kinds.Nothing
    ∷ []

-- load and transfer, and moves between the accumulators
abbrev pub load_and_transfer : List InstructionRow
load_and_transfer =
    entry "L" operations.Load kinds.Loaded
    ∷ entry "T" operations.Transfer kinds.Stored
    ∷ entry "LC" operations.LoadCoded kinds.Coded
    ∷ entry "PUSH" (operations.Move moves.Push) kinds.Nothing
    ∷ entry "POP" (operations.Move moves.Pop) kinds.Nothing
    ∷ entry "ENT" (operations.Move moves.Ent) kinds.Nothing
    ∷ entry "LEAVE" (operations.Move moves.Leave) kinds.Nothing
    ∷ entry "TAK" (operations.Move moves.Tak) kinds.Nothing
    ∷ entry "CAW" (operations.Move moves.Caw) kinds.Nothing
    ∷ entry "CAD" (operations.Move moves.Cad) kinds.Nothing
    ∷ entry "INC" operations.Increment (kinds.UpTo 255)
    ∷ entry "DEC" operations.Decrement (kinds.UpTo 255)
    ∷ entry "+" operations.AddConstant kinds.Addend
    ∷ []

-- arithmetic and conversions of integers
abbrev pub numbers : List InstructionRow
numbers =
    entry "+I" (operations.Number integers.AddI) kinds.Nothing
    ∷ entry "-I" (operations.Number integers.SubI) kinds.Nothing
    ∷ entry "*I" (operations.Number integers.MulI) kinds.Nothing
    ∷ entry "/I" (operations.Number integers.DivI) kinds.Nothing
    ∷ entry "+D" (operations.Number integers.AddD) kinds.Nothing
    ∷ entry "-D" (operations.Number integers.SubD) kinds.Nothing
    ∷ entry "*D" (operations.Number integers.MulD) kinds.Nothing
    ∷ entry "/D" (operations.Number integers.DivD) kinds.Nothing
    ∷ entry "MOD" (operations.Number integers.ModD) kinds.Nothing
    ∷ entry "NEGI" (operations.Number integers.NegI) kinds.Nothing
    ∷ entry "NEGD" (operations.Number integers.NegD) kinds.Nothing
    ∷ entry "INVI" (operations.Move moves.Invi) kinds.Nothing
    ∷ entry "INVD" (operations.Move moves.Invd) kinds.Nothing
    ∷ entry "BTI" (operations.FromBcd sizes.Word) kinds.Nothing
    ∷ entry "ITB" (operations.ToBcd sizes.Word) kinds.Nothing
    ∷ entry "BTD" (operations.FromBcd sizes.DoubleWord) kinds.Nothing
    ∷ entry "DTB" (operations.ToBcd sizes.DoubleWord) kinds.Nothing
    ∷ entry "ITD" (operations.Move moves.Itd) kinds.Nothing
    ∷ []

-- comparisons
abbrev pub comparisons : List InstructionRow
comparisons =
    entry "==I" (operations.Compare relations.Eq sizes.Word) kinds.Nothing
    ∷ entry "<>I" (operations.Compare relations.Ne sizes.Word) kinds.Nothing
    ∷ entry ">I" (operations.Compare relations.Gt sizes.Word) kinds.Nothing
    ∷ entry "<I" (operations.Compare relations.Lt sizes.Word) kinds.Nothing
    ∷ entry ">=I" (operations.Compare relations.Ge sizes.Word) kinds.Nothing
    ∷ entry "<=I" (operations.Compare relations.Le sizes.Word) kinds.Nothing
    ∷ entry "==D" (operations.Compare relations.Eq sizes.DoubleWord) kinds.Nothing
    ∷ entry "<>D" (operations.Compare relations.Ne sizes.DoubleWord) kinds.Nothing
    ∷ entry ">D" (operations.Compare relations.Gt sizes.DoubleWord) kinds.Nothing
    ∷ entry "<D" (operations.Compare relations.Lt sizes.DoubleWord) kinds.Nothing
    ∷ entry ">=D" (operations.Compare relations.Ge sizes.DoubleWord) kinds.Nothing
    ∷ entry "<=D" (operations.Compare relations.Le sizes.DoubleWord) kinds.Nothing
    ∷ []

-- logic of words: alone, or with a constant of 16 or of 32 bits
abbrev pub words : List InstructionRow
words =
    entry "AW" (operations.WordLogic word_logic.And sizes.Word) (kinds.AtMost 65535)
    ∷ entry "OW" (operations.WordLogic word_logic.Or sizes.Word) (kinds.AtMost 65535)
    ∷ entry "XOW" (operations.WordLogic word_logic.Xor sizes.Word) (kinds.AtMost 65535)
    ∷ entry "AD" (operations.WordLogic word_logic.And sizes.DoubleWord) kinds.Mask
    ∷ entry "OD" (operations.WordLogic word_logic.Or sizes.DoubleWord) kinds.Mask
    ∷ entry "XOD" (operations.WordLogic word_logic.Xor sizes.DoubleWord) kinds.Mask
    ∷ []

-- shifts: alone, or with a count up to 15 for words, and up to 32 for double words
abbrev pub shifts : List InstructionRow
shifts =
    entry "SSI" (operations.Shift shifted.Ssi) (kinds.AtMost 15)
    ∷ entry "SLW" (operations.Shift shifted.Slw) (kinds.AtMost 15)
    ∷ entry "SRW" (operations.Shift shifted.Srw) (kinds.AtMost 15)
    ∷ entry "SSD" (operations.Shift shifted.Ssd) (kinds.AtMost 32)
    ∷ entry "SLD" (operations.Shift shifted.Sld) (kinds.AtMost 32)
    ∷ entry "SRD" (operations.Shift shifted.Srd) (kinds.AtMost 32)
    ∷ entry "RLD" (operations.Shift shifted.Rld) (kinds.AtMost 32)
    ∷ entry "RRD" (operations.Shift shifted.Rrd) (kinds.AtMost 32)
    ∷ []

-- jumps
abbrev pub jumps : List InstructionRow
jumps =
    entry "JU" (operations.Jump jumped.Ju) kinds.Target
    ∷ entry "JL" operations.JumpList kinds.Target
    ∷ entry "JC" (operations.Jump jumped.Jc) kinds.Target
    ∷ entry "JCN" (operations.Jump jumped.Jcn) kinds.Target
    ∷ entry "JCB" (operations.Jump jumped.Jcb) kinds.Target
    ∷ entry "JNB" (operations.Jump jumped.Jnb) kinds.Target
    ∷ entry "JBI" (operations.Jump jumped.Jbi) kinds.Target
    ∷ entry "JNBI" (operations.Jump jumped.Jnbi) kinds.Target
    ∷ entry "JO" (operations.Jump jumped.Jo) kinds.Target
    ∷ entry "JOS" (operations.Jump jumped.Jos) kinds.Target
    ∷ entry "JZ" (operations.Jump jumped.Jz) kinds.Target
    ∷ entry "JN" (operations.Jump jumped.Jn) kinds.Target
    ∷ entry "JP" (operations.Jump jumped.Jp) kinds.Target
    ∷ entry "JM" (operations.Jump jumped.Jm) kinds.Target
    ∷ entry "JPZ" (operations.Jump jumped.Jpz) kinds.Target
    ∷ entry "JMZ" (operations.Jump jumped.Jmz) kinds.Target
    ∷ entry "JUO" (operations.Jump jumped.Juo) kinds.Target
    ∷ entry "LOOP" operations.Loop kinds.Target
    ∷ []

-- timers
abbrev pub timers : List InstructionRow
timers =
    entry "SP" (operations.StartTimer timing.Sp) kinds.Timer
    ∷ entry "SE" (operations.StartTimer timing.Se) kinds.Timer
    ∷ entry "SD" (operations.StartTimer timing.Sd) kinds.Timer
    ∷ entry "SS" (operations.StartTimer timing.Ss) kinds.Timer
    ∷ entry "SF" (operations.StartTimer timing.Sf) kinds.Timer
    ∷ entry "FR" operations.EnableTimer kinds.Timer
    ∷ []

-- counters
abbrev pub counters : List InstructionRow
counters =
    entry "CU" operations.CountUp kinds.Counter
    ∷ entry "CD" operations.CountDown kinds.Counter
    ∷ entry "FR" operations.EnableCounter kinds.Counter
    ∷ []

-- data blocks, calls, and ends of blocks
abbrev pub blocks : List InstructionRow
blocks =
    entry "OPN" (operations.Block control.OpenData) kinds.DataBlock
    ∷ entry "OPN" (operations.Block control.OpenInstance) kinds.InstanceBlock
    ∷ entry "CDB" (operations.Block control.ExchangeData) kinds.Nothing
    ∷ entry "CALL" (operations.Block control.CallFunction) kinds.Function
    ∷ entry "CALL" (operations.Block control.CallFunctionBlock) kinds.FunctionBlockWithData
    ∷ entry "CALL" (operations.Block control.CallRetrigger) (kinds.SystemFunction 43)
    ∷ entry "CALL" (operations.Block control.CallStop) (kinds.SystemFunction 46)
    ∷ entry "UC" (operations.Block control.UnconditionalCallFunction) kinds.Function
    ∷ entry "UC" (operations.Block control.UnconditionalCallFunctionBlock) kinds.FunctionBlock
    ∷ entry "CC" (operations.Block control.ConditionalCallFunction) kinds.Function
    ∷ entry "CC" (operations.Block control.ConditionalCallFunctionBlock) kinds.FunctionBlock
    ∷ entry "BE" (operations.Block control.End) kinds.Nothing
    ∷ entry "BEC" (operations.Block control.ConditionalEnd) kinds.Nothing
    ∷ entry "BEU" (operations.Block control.UnconditionalEnd) kinds.Nothing
    ∷ []

-- statements that do nothing
abbrev pub nothing : List InstructionRow
nothing =
    entry "NOP" (operations.NoOperation idle.Nop0) (kinds.Exactly 0)
    ∷ entry "NOP" (operations.NoOperation idle.Nop1) (kinds.Exactly 1)
    ∷ entry "BLD" (operations.NoOperation idle.Display) (kinds.UpTo 255)
    ∷ []

abbrev pub instruction_set : List InstructionRow
instruction_set =
    bit_logic ++ load_and_transfer ++ numbers ++ comparisons ++ words ++ shifts ++ jumps
    ++ timers ++ counters ++ blocks ++ nothing
