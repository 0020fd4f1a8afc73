-- The body of a code block.
use Rattle.std.specs.Prelude.{◌≡◌, ℕ, List, [], ◌∷◌, ◌++◌, ◌-◌, length, drop, Option, Some, None, Result, Ok, Err}
use Rattle.std.specs.Borrow.{Bor}
use Rattle.std.specs.Option.{option_to_list}
use Rattle.s7_base.specs.declared.blocks.CodeKind.{CodeKind}
use Rattle.stl_lex.specs.declared.fault.LoadFault.{LoadFault}
use Rattle.stl_lex.specs.declared.token.Token.{Token}
use Rattle.stl_decl.specs.declared.fault.Fault.{Fault}
use Rattle.stl_decl.specs.declared.fault.StepError.{StepError}
use Rattle.stl_decl.specs.declared.fault.StepError.TheVariants as steps
use Rattle.stl_decl.specs.Faults.{told}
use Rattle.stl_decl.specs.Steps.{◌>>=◌, end_fault}
use Rattle.stl_decl.specs.Repeat.{Turn, Ended, Goes, repeated}
use Rattle.stl_decl.specs.Layout.{Section}
use Rattle.stl_reader.specs.declared.items.LabelName.{LabelName}
use Rattle.stl_reader.specs.declared.items.Item.{Item}
use Rattle.stl_reader.specs.declared.contents.Label.{Label}
use Rattle.stl_reader.specs.declared.contents.Jump.{Jump}
use Rattle.stl_reader.specs.declared.contents.Lists.{Lists}
use Rattle.stl_reader.specs.declared.reading.ReadError.{ReadError}
use Rattle.stl_reader.specs.declared.reading.ReadError.TheVariants as denials
use Rattle.stl_reader.specs.Items.{part_at}
use Rattle.stl_reader.specs.Contents.{Contents, contents_of}

abbrev pub empty : Contents
empty = record { statements = []; labels = []; jumps = [] }

abbrev pub labels_of : Option LabelName → ℕ → List Label
labels_of None n = []
labels_of (Some l) n = record { name = l.name; statement = n; line = l.line; column = l.column } ∷ []

abbrev pub jumps_of : Option (List ℕ) → ℕ → List Jump
jumps_of None n = []
jumps_of (Some name) n = record { statement = n; name = name } ∷ []

-- with an item more: its label names the next statement, by its number
abbrev pub adds : Contents → Item → Contents
adds b item = record {
  statements = b.statements ++ option_to_list item.statement;
  labels = b.labels ++ labels_of item.label (length b.statements);
  jumps = b.jumps ++ jumps_of item.target (length b.statements);
}

abbrev pub turned : Option Item → Contents → List Token → Turn (Contents × List Token) (Contents × List Token)
turned None b rest = Ended (b, rest)
turned (Some item) b rest = Goes (adds b item, rest)

-- one part more, or the end word
unfoldable pub body_turn : List ℕ → CodeKind → Section → Contents × List Token → Result (Turn (Contents × List Token) (Contents × List Token)) Fault
body_turn text kind temps s = part_at text kind temps s.1 >>= λ p. Ok (turned p.0 s.0 p.1)

-- the parts of a body up to its end word, and the rest, in at most so many turns
abbrev pub parts_in : ℕ → List ℕ → CodeKind → Section → List Token → Result (Contents × List Token) Fault
parts_in turns text kind temps tokens = repeated (end_fault text) (body_turn text kind temps) turns (empty, tokens)

-- The parts of a body up to its end word, and the rest. A part has a token at least, so there are no more parts than
-- tokens: with any more turns the reading is the same, as `more_turns_read_the_same` says.
abbrev pub parts_at : List ℕ → CodeKind → Section → List Token → Result (Contents × List Token) Fault
parts_at text kind temps tokens = parts_in (length tokens) text kind temps tokens

abbrev pub contents_view : Lists × Bor (List Token) → Contents × List Token
contents_view x = (contents_of x.0, x.1.now)

-- what is told of a fault
abbrev pub tells : {A : Type 0} → Result A Fault → Result A LoadFault
tells (Ok x) = Ok x
tells (Err f) = Err (told f)

abbrev pub behind : List Token → Contents × List Token → Contents × ℕ
behind tokens x = (x.0, length tokens - length x.1)

-- the body that begins with token number `from`, and the number of the token behind its end word; or the first fault
abbrev pub body_of : List ℕ → List Token → ℕ → CodeKind → Section → Result (Contents × ℕ) LoadFault
body_of text tokens from kind temps = tells (parts_at text kind temps (drop from tokens) >>= λ x. Ok (behind tokens x))

-- what the reading of a body answers where a step of it ended so
abbrev pub denied : StepError → ReadError
denied (steps.Fault f) = denials.Fault (told f)
denied steps.NoMemory = denials.NoMemory

-- what was returned is what the definition gives, unless memory ran out
abbrev pub Gives : {A : Type 0} → Result A ReadError → Result A LoadFault → Type 0
Gives (Ok x) read = read ≡ Ok x
Gives (Err (denials.Fault f)) read = read ≡ Err f
Gives (Err denials.NoMemory) read = Unit {0}
