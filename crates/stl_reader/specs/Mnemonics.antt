-- Mnemonics: the longest run of adjacent tokens that is one.
use Rattle.std.specs.Prelude.{ℕ, List, [], ◌∷◌, ◌==◌, Option, Some, None, Result, Ok, Err, if◌then◌else◌}
use Rattle.std.specs.List.{find}
use Rattle.stl_lex.specs.Bytes.{spells, letters_of}
use Rattle.stl_lex.specs.declared.token.Token.{Token}
use Rattle.stl_decl.specs.declared.fault.FaultKind.TheVariants.{UnknownInstruction}
use Rattle.stl_decl.specs.declared.fault.Fault.{Fault}
use Rattle.stl_decl.specs.Steps.{spelling, end_fault, fault_at}
use Rattle.instruction_set.specs.declared.table.InstructionRow.{InstructionRow}
use Rattle.instruction_set.specs.InstructionSet.{instruction_set}
use Rattle.stl_reader.specs.RefusedInstructions.{refused_instructions}
use Rattle.stl_reader.specs.declared.mnemonics.RefusedInstruction.{RefusedInstruction}
use Rattle.stl_reader.specs.declared.mnemonics.Meaning.{Meaning}
use Rattle.stl_reader.specs.declared.mnemonics.Meaning.TheVariants.{Mnemonic, Refused}

-- the first row of the instruction set with the mnemonic
unfoldable pub row_named : List ℕ → Option InstructionRow
row_named word = find (λ row. spells (letters_of row.mnemonic) word) instruction_set

-- the row of an instruction of real numbers, or of one that is out of scope
unfoldable pub refused_named : List ℕ → Option RefusedInstruction
refused_named word = find (λ row. spells (letters_of row.mnemonic) word) refused_instructions

abbrev pub refusal_by : Option RefusedInstruction → Option Meaning
refusal_by (Some row) = Some (Refused row.fault)
refusal_by None = None

abbrev pub meaning_by : Option InstructionRow → Option RefusedInstruction → Option Meaning
meaning_by (Some row) refused = Some (Mnemonic row.mnemonic)
meaning_by None refused = refusal_by refused

-- what a word means where an instruction stands
abbrev pub meaning_of : List ℕ → Option Meaning
meaning_of word = meaning_by (row_named word) (refused_named word)

abbrev pub with_rest : {A : Type 0} → Option A → Token → List Token → Option (A × Token × List Token)
with_rest (Some x) t ts = Some (x, t, ts)
with_rest None t ts = None

-- two adjacent tokens that mean something together
abbrev pub pair_at : List ℕ → List Token → Option (Meaning × Token × List Token)
pair_at text [] = None
pair_at text (t ∷ []) = None
pair_at text (t ∷ u ∷ ts) = if t.to == u.from then with_rest (meaning_of (spelling text (record t { to = u.to }))) u ts else None

abbrev pub one_at : List ℕ → List Token → Option (Meaning × Token × List Token)
one_at text [] = None
one_at text (t ∷ ts) = with_rest (meaning_of (spelling text t)) t ts

abbrev pub longer_of : {A : Type 0} → Option A → Option A → Option A
longer_of (Some x) o = Some x
longer_of None o = o

-- the longest run of adjacent tokens that means something
unfoldable pub run_at : List ℕ → List Token → Option (Meaning × Token × List Token)
run_at text tokens = longer_of (pair_at text tokens) (one_at text tokens)

abbrev pub meant : Token → Meaning → Token → List Token → Result (List ℕ × Token × List Token) Fault
meant first (Mnemonic mnemonic) last rest = Ok (mnemonic, last, rest)
meant first (Refused fault) last rest = Err (fault_at fault first)

abbrev pub mnemonic_by : Token → Option (Meaning × Token × List Token) → Result (List ℕ × Token × List Token) Fault
mnemonic_by first None = Err (fault_at UnknownInstruction first)
mnemonic_by first (Some x) = meant first x.0 x.1 x.2

-- the mnemonic that a statement begins with, or the fault of a token that begins none
abbrev pub mnemonic_at : List ℕ → List Token → Result (List ℕ × Token × List Token) Fault
mnemonic_at text [] = Err (end_fault text)
mnemonic_at text (t ∷ ts) = mnemonic_by t (run_at text (t ∷ ts))
