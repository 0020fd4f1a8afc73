-- What a program is: lists of code blocks and of data blocks.
use Rattle.std.specs.Prelude.{ℕ, ◌==◌, ◌&&◌, Bool, true, false, List, Option}
use Rattle.std.specs.List.{find}
use Rattle.s7_base.specs.declared.blocks.CodeKind.{CodeKind}
use Rattle.s7_base.specs.declared.blocks.CodeKind.TheVariants.{Ob, Fb, Fc}
use Rattle.s7_base.specs.declared.statement.Statement.{Statement}

-- a code block: its kind and number, the bytes of its temporary data, its statements
pub record Code : Type 0 where
  pub kind : CodeKind
  pub number : ℕ
  pub temp : ℕ
  pub statements : List Statement

-- a data block: its number and its first bytes
pub record Data : Type 0 where
  pub number : ℕ
  pub bytes : List ℕ

pub record Program : Type 0 where
  pub codes : List Code
  pub data_blocks : List Data

abbrev pub same_kind : CodeKind → CodeKind → Bool
same_kind Ob Ob = true
same_kind Fb Fb = true
same_kind Fc Fc = true
same_kind _ _ = false

-- the code block of this name in a list
abbrev pub code_named : List Code → CodeKind → ℕ → Option Code
code_named codes kind number = find (λ code. same_kind code.kind kind && code.number == number) codes

-- the code block of this name, if it is loaded
abbrev pub code_of : Program → CodeKind → ℕ → Option Code
code_of program kind number = code_named program.codes kind number

-- the data block of this number, if it is loaded
abbrev pub data_of : Program → ℕ → Option Data
data_of program number = find (λ data_block. data_block.number == number) program.data_blocks
