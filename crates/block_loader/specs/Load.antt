-- What a source means: the blocks of a program.
use Rattle.std.specs.Prelude.{◌≡◌, ℕ, List, [], map, min, length, ◌==◌, ◌&&◌, ◌||◌, nat_lt, nat_le, Bool, Option, Some, None, Result, Ok, Err, slice_get, slice_set, if◌then◌else◌}
use Rattle.std.specs.List.{fold, insert, filter}
use Rattle.s7_base.specs.declared.statement.Statement.{Statement}
use Rattle.s7_base.specs.Blocks as programs
use Rattle.stl_lex.specs.declared.fault.LoadFault.{LoadFault}
use Rattle.stl_lex.specs.Tokens.{text_tokens}
use Rattle.stl_decl.specs.Layout.{Section, size_of}
use Rattle.stl_decl.specs.Bytes.{first_bytes}
use Rattle.stl_reader.specs.Contents.{Contents}
use Rattle.stl_reader.specs.declared.contents.Jump.{Jump}
use Rattle.stl_decl.specs.Steps.{◌>>=◌}
use Rattle.block_loader.specs.Faults.{target, kind_byte, judged}
use Rattle.block_loader.specs.Blocks.{blocks_of}
use Rattle.block_loader.specs.declared.error.LoadError.{LoadError}
use Rattle.block_loader.specs.declared.error.LoadError.TheVariants as errors
use Rattle.block_loader.specs.declared.blocks.SourceCode.{SourceCode}
use Rattle.block_loader.specs.declared.blocks.SourceData.{SourceData}
use Rattle.block_loader.specs.declared.blocks.SourceBlock.{SourceBlock}
use Rattle.block_loader.specs.declared.blocks.SourceBlock.TheVariants.{Code, Data}

-- the statement with the number of the one that it jumps to
abbrev pub with_target : ℕ → Statement → Statement
with_target n s = record { op = s.op; area = s.area; bit = s.bit; db = s.db; value = n }

abbrev pub placed : List Statement → ℕ → ℕ → Option Statement → List Statement
placed statements at n None = statements
placed statements at n (Some s) = slice_set statements at (with_target n s)

-- the statements, of which this one, if it is there, jumps to number n
abbrev pub jumping : List Statement → ℕ → Option ℕ → List Statement
jumping statements at None = statements
jumping statements at (Some n) = placed statements at n (slice_get statements at)

-- the statements once one more jump has its target
abbrev pub landed_one : (List ℕ → Option ℕ) → List Statement → Jump → List Statement
landed_one names statements j = jumping statements j.statement (names j.name)

-- the statements of a body, each jump with the number of the statement that its label names
abbrev pub landed : Contents → List Statement
landed body = fold (landed_one (target body.labels)) (map (λ s. s.statement) body.statements) body.jumps

abbrev pub loaded_code : SourceCode → programs.Code
loaded_code code = record { kind = code.kind; number = code.number; temp = min code.temp 65535; statements = landed code.body }

-- the first bytes of a data block that isn't too large
abbrev pub bytes_of : Section → List ℕ
bytes_of section = if nat_le (size_of section) 65536 then first_bytes section else []

abbrev pub loaded_data : SourceData → programs.Data
loaded_data block = record { number = block.number; bytes = bytes_of block.layout }

-- by kind, and in a kind by number
abbrev pub is_code_before : programs.Code → programs.Code → Bool
is_code_before a b = nat_lt (kind_byte a.kind) (kind_byte b.kind) || (kind_byte a.kind == kind_byte b.kind && nat_lt a.number b.number)

abbrev pub is_data_before : programs.Data → programs.Data → Bool
is_data_before a b = nat_lt a.number b.number

-- a code block behind those that stand before it
abbrev pub with_code : List programs.Code → programs.Code → List programs.Code
with_code codes code = insert codes (length (filter (λ c. is_code_before c code) codes)) code

abbrev pub with_data : List programs.Data → programs.Data → List programs.Data
with_data blocks block = insert blocks (length (filter (λ b. is_data_before b block) blocks)) block

-- the program with one block more
abbrev pub added : programs.Program → SourceBlock → programs.Program
added p (Code code) = record { codes = with_code p.codes (loaded_code code); data_blocks = p.data_blocks }
added p (Data block) = record { codes = p.codes; data_blocks = with_data p.data_blocks (loaded_data block) }

abbrev pub no_blocks : programs.Program
no_blocks = record { codes = []; data_blocks = [] }

-- the program of these blocks
abbrev pub program_of : List SourceBlock → programs.Program
program_of blocks = fold added no_blocks blocks

-- the blocks of a source in their order, or its first fault
unfoldable pub sources_of : List ℕ → Result (List SourceBlock) LoadFault
sources_of text = text_tokens text >>= λ tokens. (blocks_of text tokens >>= judged)

-- the program of a source, or its first fault
unfoldable pub meaning_of : List ℕ → Result programs.Program LoadFault
meaning_of text = sources_of text >>= λ blocks. Ok (program_of blocks)

-- what was returned is the program of the source, or its first fault, unless memory ran out
abbrev pub Loads : List ℕ → Result programs.Program LoadError → Type 0
Loads text (Ok program) = meaning_of text ≡ Ok program
Loads text (Err (errors.Fault f)) = meaning_of text ≡ Err f
Loads text (Err errors.NoMemory) = Unit {0}
