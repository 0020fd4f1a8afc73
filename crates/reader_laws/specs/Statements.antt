-- How statements are spelled: a mnemonic, an operand or none, and `;`.
use Rattle.std.specs.Prelude.{◌≡◌, ℕ, List, [], ◌∷◌, ◌++◌, ◌==◌, ◌&&◌, ◌||◌, not, Bool, true, Option, Some, Ok, slice_get, codes}
use Rattle.std.specs.List.{list_any}
use Rattle.s7_base.specs.declared.statement.Statement.{Statement}
use Rattle.instruction_set.specs.declared.table.InstructionRow.{InstructionRow}
use Rattle.instruction_set.specs.InstructionSet.{instruction_set}
use Rattle.s7_base.specs.Statements.{is_statement}
use Rattle.stl_lex.specs.Bytes.{spells, letters_of}
use Rattle.stl_lex.specs.declared.token.Token.{Token}
use Rattle.stl_decl.specs.Layout.{Section}
use Rattle.stl_decl.specs.Steps.{spelling}
use Rattle.stl_reader.specs.RefusedInstructions.{refused_instructions}
use Rattle.stl_reader.specs.declared.forms.OperandForm.{OperandForm}
use Rattle.stl_reader.specs.declared.addresses.Operand.{Operand}
use Rattle.stl_reader.specs.Forms.{accepts}
use Rattle.stl_reader.specs.Statements.{no_operand, stored, target_of, statement_at}
use Rattle.reader_laws.specs.Tokens.{IsSign}
use Rattle.reader_laws.specs.Operands.{IsOperand}

-- the letters of the mnemonic, in one token or in two that nothing parts
pub data IsMnemonic (text : List ℕ) (mnemonic : List ℕ) : List Token → Type 0 where
  in_one : (t : Token) → spells (letters_of mnemonic) (spelling text t) ≡ true → IsMnemonic text mnemonic (t ∷ [])
  in_two : (t u : Token) → (t.to == u.from) ≡ true → spells (letters_of mnemonic) (spelling text (record t { to = u.to })) ≡ true → IsMnemonic text mnemonic (t ∷ u ∷ [])

-- an instruction is called so: one of the language, or one that is known and refused
abbrev pub is_instruction : List ℕ → Bool
is_instruction word =
    list_any (λ row. spells (letters_of row.mnemonic) word) instruction_set
    || list_any (λ row. spells (letters_of row.mnemonic) word) refused_instructions

-- the mnemonic goes no further: one token is no instruction together with the one that stands directly behind it
abbrev pub is_longest : List ℕ → List Token → List Token → Bool
is_longest text (t ∷ []) (u ∷ us) = not (t.to == u.from && is_instruction (spelling text (record t { to = u.to })))
is_longest text _ _ = true

-- what stands between the mnemonic and the `;`: an operand in a form that the mnemonic takes, or nothing
pub data IsArgument (text : List ℕ) (temps : Section) (mnemonic : List ℕ) : Operand → List Token → Type 0 where
  of_operand : (form : OperandForm) (o : Operand) (ts : List Token) → accepts mnemonic form ≡ true → IsOperand text temps form o ts → IsArgument text temps mnemonic o ts
  of_nothing : IsArgument text temps mnemonic no_operand []

-- The tokens spell the statement, with the label that it jumps to where it is a jump: the mnemonic of its operation,
-- as long as it can be, its operand, and `;`. It is of the language: its operation allows the operand in a block with so many bytes of local
-- data.
pub data IsStatement (text : List ℕ) (locals : ℕ) (temps : Section) : Statement → Option (List ℕ) → List Token → Type 0 where
  of_row : (op : ℕ) (row : InstructionRow) (o : Operand) (m ts : List Token) (semicolon : Token) → slice_get instruction_set op ≡ Some row → IsMnemonic text row.mnemonic m → is_longest text m (ts ++ semicolon ∷ []) ≡ true → IsArgument text temps row.mnemonic o ts → is_statement locals (stored op o) ≡ true → IsSign text (codes ";") semicolon → IsStatement text locals temps (stored op o) (target_of (stored op o) o.name) (m ++ (ts ++ semicolon ∷ []))

-- what was read is spelled by the tokens that it took
pub record IsStatementRead (text : List ℕ) (locals : ℕ) (temps : Section) (tokens : List Token) (x : Statement × Option (List ℕ) × List Token) : Type 0 where
  pub front : List Token
  pub cut : tokens ≡ front ++ x.2
  pub spelled : IsStatement text locals temps x.0 x.1 front

-- what is read as a statement is spelled so
abbrev pub StatementsReadAreSpelled : Type 0
StatementsReadAreSpelled =
    (text : List ℕ) (locals : ℕ) (temps : Section) (tokens : List Token) (x : Statement × Option (List ℕ) × List Token)
    → statement_at text locals temps tokens ≡ Ok x → IsStatementRead text locals temps tokens x

-- what is spelled as a statement is read as that statement and as no other, and what follows is left, whatever it is
abbrev pub StatementsSpelledAreRead : Type 0
StatementsSpelledAreRead =
    (text : List ℕ) (locals : ℕ) (temps : Section) (s : Statement) (target : Option (List ℕ)) (front rest : List Token)
    → IsStatement text locals temps s target front → statement_at text locals temps (front ++ rest) ≡ Ok (s, target, rest)
