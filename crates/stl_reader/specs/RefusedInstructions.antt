-- The instructions that are known and refused: those of real numbers, and those that are out of scope.
use Rattle.std.specs.Prelude.{List, [], ◌∷◌, ◌++◌, codes}
use Prim.Native.String.{String}
use Rattle.stl_lex.specs.Bytes.{in_field}
use Rattle.stl_decl.specs.declared.fault.FaultKind.TheVariants.{RealInstruction, OutOfScope}
use Rattle.stl_reader.specs.declared.mnemonics.RefusedInstruction.{RefusedInstruction}

abbrev pub real : String → RefusedInstruction
real mnemonic = record { mnemonic = in_field 5 (codes mnemonic); fault = RealInstruction }

abbrev pub real_instructions : List RefusedInstruction
real_instructions =
    real "+R" ∷ real "-R" ∷ real "*R" ∷ real "/R"
    ∷ real "==R" ∷ real "<>R" ∷ real ">R" ∷ real "<R" ∷ real ">=R" ∷ real "<=R"
    ∷ real "NEGR" ∷ real "ABS" ∷ real "SQR" ∷ real "SQRT" ∷ real "EXP" ∷ real "LN"
    ∷ real "SIN" ∷ real "COS" ∷ real "TAN" ∷ real "ASIN" ∷ real "ACOS" ∷ real "ATAN"
    ∷ real "DTR" ∷ real "RND" ∷ real "RND+" ∷ real "RND-" ∷ real "TRUNC" ∷ []

abbrev pub left_out : String → RefusedInstruction
left_out mnemonic = record { mnemonic = in_field 5 (codes mnemonic); fault = OutOfScope }

-- address registers, and rotations through CC1
abbrev pub left_out_instructions : List RefusedInstruction
left_out_instructions =
    left_out "LAR1" ∷ left_out "LAR2" ∷ left_out "TAR1" ∷ left_out "TAR2" ∷ left_out "CAR"
    ∷ left_out "+AR1" ∷ left_out "+AR2" ∷ left_out "RLDA" ∷ left_out "RRDA" ∷ []

abbrev pub refused_instructions : List RefusedInstruction
refused_instructions = real_instructions ++ left_out_instructions
