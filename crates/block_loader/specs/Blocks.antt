-- The blocks of a source, as they are read.
use Rattle.std.specs.Prelude.{ℕ, List, [], ◌∷◌, ◌++◌, ◌+◌, ◌-◌, length, drop, min, nat_le, Result, Ok, if◌then◌else◌, Vec}
use Rattle.std.specs.declared.alloc.Global.{Global}
use Rattle.stl_lex.specs.declared.fault.LoadFault.{LoadFault}
use Rattle.stl_lex.specs.declared.token.Token.{Token}
use Rattle.stl_decl.specs.Faults.{told, told_of}
use Rattle.stl_decl.specs.Steps.{◌>>=◌, end_fault}
use Rattle.stl_decl.specs.Repeat.{Turn, Ended, Goes, repeated}
use Rattle.stl_decl.specs.Layout.{size_of}
use Rattle.stl_reader.specs.Reading.{body_of}
use Rattle.block_loader.specs.Fronts.{front_at}
use Rattle.block_loader.specs.declared.blocks.Front.{Front}
use Rattle.block_loader.specs.declared.blocks.Front.TheVariants as fronted
use Rattle.block_loader.specs.declared.blocks.CodeFront.{CodeFront}
use Rattle.block_loader.specs.declared.blocks.SourceBlock.{SourceBlock}
use Rattle.block_loader.specs.declared.blocks.SourceBlock.TheVariants as blocks

-- a code block from its front and its body
abbrev pub code_of : CodeFront → List ℕ → List Token → ℕ → Result (SourceBlock × ℕ) LoadFault
code_of front text tokens from = do
  body ← body_of text tokens from front.kind front.temps
  Ok (
    blocks.Code (record {
      kind = front.kind;
      number = front.number;
      line = front.line;
      column = front.column;
      temp = min (size_of front.temps) 4294967295;
      body = body.0;
    }),
    body.1,
  )

-- the statements behind a front
unfoldable pub block_by : Front → List ℕ → List Token → ℕ → Result (SourceBlock × ℕ) LoadFault
block_by (fronted.Data block) text tokens from = Ok (blocks.Data block, from)
block_by (fronted.Code front) text tokens from = code_of front text tokens from

-- the block that begins with this token, and the number of the token behind it
unfoldable pub block_from : List ℕ → List Token → ℕ → Result (SourceBlock × ℕ) LoadFault
block_from text tokens from = do
  front ← told_of (front_at (length tokens + 1) text (drop from tokens))
  block_by front.0 text tokens (length tokens - length front.1)

-- the end, or one more block
unfoldable pub blocks_turn : List ℕ → List Token → List SourceBlock × ℕ → Result (Turn (List SourceBlock × ℕ) (List SourceBlock)) LoadFault
blocks_turn text tokens s =
    if nat_le (length tokens) s.1 then Ok (Ended s.0)
    else (block_from text tokens s.1 >>= λ b. Ok (Goes (s.0 ++ b.0 ∷ [], b.1)))

-- { block } in at most so many turns
abbrev pub blocks_in : ℕ → List ℕ → List Token → Result (List SourceBlock) LoadFault
blocks_in turns text tokens = repeated (told (end_fault text)) (blocks_turn text tokens) turns ([], 0)

-- { block }: a block has a token at least, so with more turns than these the same is read
unfoldable pub blocks_of : List ℕ → List Token → Result (List SourceBlock) LoadFault
blocks_of text tokens = blocks_in (length tokens + 1) text tokens

abbrev pub items_of : Vec SourceBlock Global → List SourceBlock
items_of v = v.items
