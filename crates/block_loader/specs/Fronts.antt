-- A block up to its statements.
use Rattle.std.specs.Prelude.{ℕ, List, Result, Ok, codes}
use Rattle.s7_base.specs.declared.blocks.CodeKind.{CodeKind}
use Rattle.stl_lex.specs.declared.token.Token.{Token}
use Rattle.stl_decl.specs.declared.fault.Fault.{Fault}
use Rattle.stl_decl.specs.Steps.{◌>>=◌, word_at}
use Rattle.stl_decl.specs.Sections.{temporaries_at, structure_at, assignments_at}
use Rattle.block_loader.specs.Heads.{heading_at, heads_at}
use Rattle.block_loader.specs.declared.heads.BlockKind.{BlockKind}
use Rattle.block_loader.specs.declared.heads.BlockKind.TheVariants as kinds
use Rattle.block_loader.specs.declared.heads.Heading.{Heading}
use Rattle.block_loader.specs.declared.blocks.Front.{Front}
use Rattle.block_loader.specs.declared.blocks.Front.TheVariants as fronts
use Rattle.block_loader.specs.declared.blocks.CodeFront.{CodeFront}
use Rattle.block_loader.specs.declared.blocks.SourceData.{SourceData}

-- { head } { "VAR_TEMP" { decl } "END_VAR" } "BEGIN"
unfoldable pub code_front_at : ℕ → List ℕ → Heading → CodeKind → List Token → Result (CodeFront × List Token) Fault
code_front_at turns text heading kind tokens = do
  rest ← heads_at turns text tokens
  temps ← temporaries_at turns text rest
  begin ← word_at text (codes "BEGIN") temps.1
  Ok (record { kind = kind; number = heading.number; line = heading.line; column = heading.column; temps = temps.0 }, begin.1)

-- { head } "STRUCT" { decl } "END_STRUCT" [ ";" ] "BEGIN" { assignment } "END_DATA_BLOCK"
unfoldable pub data_at : ℕ → List ℕ → Heading → List Token → Result (SourceData × List Token) Fault
data_at turns text heading tokens = do
  rest ← heads_at turns text tokens
  section ← structure_at turns text rest
  begin ← word_at text (codes "BEGIN") section.1
  assigned ← assignments_at turns text section.0 begin.1
  Ok (record { number = heading.number; line = heading.line; column = heading.column; layout = assigned.0 }, assigned.1)

-- a block behind its first line, up to its statements
abbrev pub front_by : BlockKind → ℕ → List ℕ → Heading → List Token → Result (Front × List Token) Fault
front_by (kinds.Code kind) turns text heading tokens = code_front_at turns text heading kind tokens >>= λ x. Ok (fronts.Code x.0, x.1)
front_by kinds.Data turns text heading tokens = data_at turns text heading tokens >>= λ x. Ok (fronts.Data x.0, x.1)

-- a block up to its statements
unfoldable pub front_at : ℕ → List ℕ → List Token → Result (Front × List Token) Fault
front_at turns text tokens = do
  heading ← heading_at text tokens
  front_by heading.0.kind turns text heading.0 heading.1
