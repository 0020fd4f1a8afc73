-- The kinds of faults behind the tokens, and what is told of a fault.
use Rattle.std.specs.Prelude.{ℕ, Result, Ok, Err}
use Rattle.stl_lex.specs.declared.fault.LoadFault.{LoadFault}
use Rattle.stl_decl.specs.declared.fault.FaultKind.{FaultKind}
use Rattle.stl_decl.specs.declared.fault.FaultKind.TheVariants.{UnknownType, RealType, DoubleName, BadArray, UnknownInstruction, RealInstruction, BadOperand, UnknownName, MissingSemicolon, DoubleBlock, DoubleLabel, NoLabel, JumpTooFar, NoOb1, TooManyBlocks, TooLarge, OutOfScope}
use Rattle.stl_decl.specs.declared.fault.Fault.{Fault}

-- the numbers of the kinds
abbrev pub kind_number : FaultKind → ℕ
kind_number UnknownType = 5
kind_number RealType = 6
kind_number DoubleName = 7
kind_number BadArray = 8
kind_number UnknownInstruction = 9
kind_number RealInstruction = 10
kind_number BadOperand = 11
kind_number UnknownName = 12
kind_number MissingSemicolon = 13
kind_number DoubleBlock = 14
kind_number DoubleLabel = 15
kind_number NoLabel = 16
kind_number JumpTooFar = 17
kind_number NoOb1 = 18
kind_number TooManyBlocks = 19
kind_number TooLarge = 20
kind_number OutOfScope = 21

-- what is told of a fault: the number of its kind, and its line
abbrev pub told : Fault → LoadFault
told f = record { kind = kind_number f.kind; line = f.line }

-- what is told of reading that may fail
abbrev pub told_of : {A : Type 0} → Result A Fault → Result A LoadFault
told_of (Ok x) = Ok x
told_of (Err f) = Err (told f)
