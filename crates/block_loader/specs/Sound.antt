-- What holds of each block that is read.
use Rattle.std.specs.Prelude.{◌≡◌, ◌%◌, ◌≤◌, IsTrue}
use Rattle.s7_base.specs.Limits.{has_number, locals_of}
use Rattle.stl_reader.specs.Sound.{IsSound}
use Rattle.block_loader.specs.declared.blocks.Front.{Front}
use Rattle.block_loader.specs.declared.blocks.Front.TheVariants as fronts
use Rattle.block_loader.specs.declared.blocks.SourceCode.{SourceCode}
use Rattle.block_loader.specs.declared.blocks.SourceData.{SourceData}
use Rattle.block_loader.specs.declared.blocks.SourceBlock.{SourceBlock}
use Rattle.block_loader.specs.declared.blocks.SourceBlock.TheVariants.{Code, Data}

-- a code block has a number of its kind, an even number of bytes of temporary data, and statements of the language
pub record IsSoundCode (code : SourceCode) : Type 0 where
  pub number : IsTrue (has_number code.kind code.number)
  pub temp_even : code.temp ≤ 256 → code.temp % 2 ≡ 0
  pub body : IsSound (locals_of code.kind code.temp) code.body

-- a data block has a number from 1 to 255
pub record IsSoundData (block : SourceData) : Type 0 where
  pub number : 1 ≤ block.number
  pub last_number : block.number ≤ 255

abbrev pub IsSoundBlock : SourceBlock → Type 0
IsSoundBlock (Code code) = IsSoundCode code
IsSoundBlock (Data block) = IsSoundData block

-- what is read before the statements of a block has such a number
abbrev pub IsSoundFront : Front → Type 0
IsSoundFront (fronts.Code front) = IsTrue (has_number front.kind front.number)
IsSoundFront (fronts.Data block) = IsSoundData block
