-- Reading as it is told: a fault is its kind and its line.
use Rattle.std.specs.Prelude.{◌≡◌, Result, Ok, Err}
use Rattle.stl_lex.specs.declared.fault.LoadFault.{LoadFault}
use Rattle.stl_lex.specs.declared.lexer.LexError.{LexError}
use Rattle.stl_lex.specs.declared.lexer.LexError.TheVariants as lexical
use Rattle.stl_decl.specs.declared.fault.StepError.{StepError}
use Rattle.stl_decl.specs.declared.fault.StepError.TheVariants as steps
use Rattle.stl_decl.specs.Faults.{told}
use Rattle.stl_reader.specs.declared.reading.ReadError.{ReadError}
use Rattle.stl_reader.specs.declared.reading.ReadError.TheVariants as denials
use Rattle.block_loader.specs.declared.error.LoadError.{LoadError}
use Rattle.block_loader.specs.declared.error.LoadError.TheVariants as errors

-- loading fails so, unless memory ran out
abbrev pub Fails : {A : Type 0} → LoadError → Result A LoadFault → Type 0
Fails (errors.Fault f) read = read ≡ Err f
Fails errors.NoMemory read = Unit {0}

-- what was returned is what the definition gives, unless memory ran out
abbrev pub Gives : {A B : Type 0} → (A → B) → Result A LoadError → Result B LoadFault → Type 0
Gives view (Ok x) read = read ≡ Ok (view x)
Gives view (Err e) read = Fails e read

abbrev pub of_step : StepError → LoadError
of_step (steps.Fault f) = errors.Fault (told f)
of_step steps.NoMemory = errors.NoMemory

abbrev pub of_read : ReadError → LoadError
of_read (denials.Fault f) = errors.Fault f
of_read denials.NoMemory = errors.NoMemory

abbrev pub of_lex : LexError → LoadError
of_lex (lexical.Fault f) = errors.Fault f
of_lex lexical.NoMemory = errors.NoMemory
