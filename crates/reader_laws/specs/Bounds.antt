-- The loops of reading never come to the end of their turns.
use Rattle.std.specs.Prelude.{◌≡◌, ◌<◌, ◌-◌, ℕ, List, length, Result}
use Rattle.s7_base.specs.declared.blocks.CodeKind.{CodeKind}
use Rattle.stl_lex.specs.declared.token.Token.{Token}
use Rattle.stl_decl.specs.Repeat.{Turn, repeated}
use Rattle.stl_decl.specs.Places.{Place}
use Rattle.stl_decl.specs.Layout.{Section}
use Rattle.stl_decl.specs.Initials.{Filled, initial_turn}
use Rattle.stl_decl.specs.Sections.{section_turn, temporaries_turn, assignments_turn}
use Rattle.stl_decl.specs.declared.grammar.SectionKind.{SectionKind}
use Rattle.stl_reader.specs.Contents.{Contents}
use Rattle.stl_reader.specs.Reading.{body_turn}
use Rattle.block_loader.specs.declared.blocks.SourceBlock.{SourceBlock}
use Rattle.block_loader.specs.Heads.{heads_turn}
use Rattle.block_loader.specs.Blocks.{blocks_turn}

-- With more turns than this the reading is the same for any two answers that would stand where the turns run out: so they
-- never do.
abbrev pub IsNeverMet : {S A F : Type 0} → (S → Result (Turn S A) F) → S → ℕ → Type 0
IsNeverMet {F = F} turn start least = (turns : ℕ) (late other : F) → least < turns → repeated late turn turns start ≡ repeated other turn turns start

-- each loop of reading, from anywhere in it: more turns than there are tokens left are never used up
pub record BoundsAreNeverMet : Type 0 where
  pub first_values : (text : List ℕ) (place : Place) (s : Filled × List Token) → IsNeverMet (initial_turn text place) s (length s.1)
  pub section : (most : ℕ) (text : List ℕ) (kind : SectionKind) (s : Section × List Token) → IsNeverMet (section_turn most text kind) s (length s.1)
  pub temporaries : (most : ℕ) (text : List ℕ) (s : Section × List Token) → IsNeverMet (temporaries_turn most text) s (length s.1)
  pub assignments : (text : List ℕ) (s : Section × List Token) → IsNeverMet (assignments_turn text) s (length s.1)
  pub heads : (text : List ℕ) (tokens : List Token) → IsNeverMet (heads_turn text) tokens (length tokens)
  pub body : (text : List ℕ) (kind : CodeKind) (temps : Section) (s : Contents × List Token) → IsNeverMet (body_turn text kind temps) s (length s.1)
  pub blocks : (text : List ℕ) (tokens : List Token) (s : List SourceBlock × ℕ) → IsNeverMet (blocks_turn text tokens) s (length tokens - s.1)
