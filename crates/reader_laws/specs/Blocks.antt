-- How blocks and whole sources are spelled.
use Rattle.std.specs.Prelude.{◌≡◌, ◌+◌, ℕ, List, [], ◌∷◌, ◌++◌, length, min, true, None, Ok, codes}
use Rattle.s7_base.specs.declared.blocks.CodeKind.{CodeKind}
use Rattle.s7_base.specs.Blocks.{Program}
use Rattle.stl_lex.specs.declared.token.Token.{Token}
use Rattle.stl_lex.specs.Tokens.{text_tokens}
use Rattle.stl_decl.specs.Layout.{Section, empty_section, size_of}
use Rattle.stl_decl.specs.Steps.{is_word}
use Rattle.stl_reader.specs.Contents.{Contents}
use Rattle.stl_reader.specs.Reading.{empty}
use Rattle.block_loader.specs.declared.heads.BlockKind.TheVariants as kinds
use Rattle.block_loader.specs.declared.heads.Heading.{Heading}
use Rattle.block_loader.specs.declared.blocks.SourceBlock.{SourceBlock}
use Rattle.block_loader.specs.declared.blocks.SourceBlock.TheVariants.{Code, Data}
use Rattle.block_loader.specs.Blocks.{block_from, blocks_of}
use Rattle.block_loader.specs.Faults.{first_fault}
use Rattle.block_loader.specs.Load.{program_of, Loads}
use Rattle.reader_laws.specs.Heads.{IsHeading, AreHeads}
use Rattle.reader_laws.specs.Sections.{AreTemporaries, IsStructure, AreAssignments}
use Rattle.reader_laws.specs.Bodies.{AreBodyParts}

-- The tokens spell a block. Behind its first line and its heads a code block has its temporary names, BEGIN, and its body
-- up to the end word of its kind; a data block has its names, BEGIN, and its assignments up to END_DATA_BLOCK. The size of
-- temporary names is told up to 4,294,967,295 bytes.
pub data IsBlock (text : List ℕ) : SourceBlock → List Token → Type 0 where
  of_code : (kind : CodeKind) (heading : Heading) (temps : Section) (body : Contents) (begin : Token) (first heads names parts : List Token) → heading.kind ≡ kinds.Code kind → IsHeading text heading first → AreHeads text heads → AreTemporaries text empty_section temps names → is_word text begin (codes "BEGIN") ≡ true → AreBodyParts text kind temps empty body parts → IsBlock text (Code (record { kind = kind; number = heading.number; line = heading.line; column = heading.column; temp = min (size_of temps) 4294967295; body = body })) (first ++ (heads ++ (names ++ begin ∷ parts)))
  of_data : (heading : Heading) (section layout : Section) (begin : Token) (first heads names values : List Token) → heading.kind ≡ kinds.Data → IsHeading text heading first → AreHeads text heads → IsStructure text section names → is_word text begin (codes "BEGIN") ≡ true → AreAssignments text section layout values → IsBlock text (Data (record { number = heading.number; line = heading.line; column = heading.column; layout = layout })) (first ++ (heads ++ (names ++ begin ∷ values)))

-- what is spelled as a block is read as it and as no other, whatever stands before it, and whatever follows it
abbrev pub BlocksSpelledAreRead : Type 0
BlocksSpelledAreRead =
    (text : List ℕ) (block : SourceBlock) (before front rest : List Token)
    → IsBlock text block front → block_from text (before ++ (front ++ rest)) (length before) ≡ Ok (block, length before + length front)

-- what was read as a block is spelled by the tokens from the one that it begins with up to that behind it
pub record IsBlockRead (text : List ℕ) (tokens : List Token) (from : ℕ) (x : SourceBlock × ℕ) : Type 0 where
  pub before : List Token
  pub front : List Token
  pub rest : List Token
  pub cut : tokens ≡ before ++ (front ++ rest)
  pub begins : from ≡ length before
  pub ends : x.1 ≡ length before + length front
  pub spelled : IsBlock text x.0 front

-- what is read as a block is spelled so
abbrev pub BlocksReadAreSpelled : Type 0
BlocksReadAreSpelled =
    (text : List ℕ) (tokens : List Token) (from : ℕ) (x : SourceBlock × ℕ) → block_from text tokens from ≡ Ok x → IsBlockRead text tokens from x

-- the tokens spell these blocks one behind the other, and nothing else
pub data AreBlocks (text : List ℕ) : List SourceBlock → List Token → Type 0 where
  no_block : AreBlocks text [] []
  one_block : (block : SourceBlock) (blocks : List SourceBlock) (ts us : List Token) → IsBlock text block ts → AreBlocks text blocks us → AreBlocks text (block ∷ blocks) (ts ++ us)

-- what is spelled as a source is read as its blocks and as no others
abbrev pub SourcesSpelledAreRead : Type 0
SourcesSpelledAreRead =
    (text : List ℕ) (blocks : List SourceBlock) (tokens : List Token) → AreBlocks text blocks tokens → blocks_of text tokens ≡ Ok blocks

-- what is read as a source is spelled so, to its last token
abbrev pub SourcesReadAreSpelled : Type 0
SourcesReadAreSpelled =
    (text : List ℕ) (blocks : List SourceBlock) (tokens : List Token) → blocks_of text tokens ≡ Ok blocks → AreBlocks text blocks tokens

-- tokens spell the blocks of one source at most
abbrev pub SpellingsAreOfOneSource : Type 0
SpellingsAreOfOneSource =
    (text : List ℕ) (some others : List SourceBlock) (tokens : List Token) → AreBlocks text some tokens → AreBlocks text others tokens → some ≡ others

-- the tokens of the text spell blocks without a fault, and these make the program
pub record IsProgram (text : List ℕ) (program : Program) : Type 0 where
  pub tokens : List Token
  pub blocks : List SourceBlock
  pub cut : text_tokens text ≡ Ok tokens
  pub spelled : AreBlocks text blocks tokens
  pub faultless : first_fault blocks ≡ None
  pub made : program_of blocks ≡ program

-- a program that a text is loaded as is spelled by its tokens
abbrev pub ProgramsLoadedAreSpelled : Type 0
ProgramsLoadedAreSpelled = (text : List ℕ) (program : Program) → Loads text (Ok program) → IsProgram text program

-- a text whose tokens spell a program is loaded as it, and as no other
abbrev pub ProgramsSpelledAreLoaded : Type 0
ProgramsSpelledAreLoaded = (text : List ℕ) (program : Program) → IsProgram text program → Loads text (Ok program)
