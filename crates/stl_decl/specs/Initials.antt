-- First values of declared names.
use Rattle.std.specs.Prelude.{ℕ, List, [], ◌∷◌, ◌++◌, ◌+◌, ◌&&◌, nat_le, Bool, false, Option, Some, None, Result, Ok, Err, if◌then◌else◌, codes, Vec}
use Rattle.std.specs.Borrow.{Bor}
use Rattle.std.specs.declared.alloc.Global.{Global}
use Rattle.stl_lex.specs.declared.token.Token.{Token}
use Rattle.stl_decl.specs.Steps.{◌>>=◌, end_fault, fault_at, unfit, is_number_kind, is_sign, number_of, sign_at, maybe_sign_at}
use Rattle.stl_decl.specs.Repeat.{Turn, Ended, Goes, repeated}
use Rattle.stl_decl.specs.Places.{Place}
use Rattle.stl_decl.specs.Types.{bits_of, element_bit}
use Rattle.stl_decl.specs.Constants.{suits, value_at}
use Rattle.stl_decl.specs.declared.fault.Fault.{Fault}
use Rattle.stl_decl.specs.declared.fault.FaultKind.TheVariants.{BadOperand}
use Rattle.stl_decl.specs.declared.types.SimpleType.{SimpleType}
use Rattle.stl_decl.specs.declared.constants.Constant.{Constant}
use Rattle.stl_decl.specs.declared.constants.Value.{Value}
use Rattle.stl_decl.specs.declared.layout.FirstValue.{FirstValue}
use Rattle.stl_decl.specs.declared.initials.Filling.{Filling}

-- a number and `(`
abbrev pub is_repetition : List ℕ → List Token → Bool
is_repetition text (t ∷ u ∷ ts) = is_number_kind t.kind && is_sign text u (codes "(")
is_repetition text _ = false

-- so many elements more pass the last one
abbrev pub has_room : Place → ℕ → ℕ → Token → Result (Unit {0}) Fault
has_room variable filled more t = if nat_le (filled + more) variable.shape.count then Ok tt else Err (fault_at BadOperand t)

-- the constant is a value of the type
abbrev pub suited : SimpleType → Value → Result (Unit {0}) Fault
suited simple value = if suits simple value.constant.form then Ok tt else Err (fault_at BadOperand value.first)

-- a constant of the type
unfoldable pub value_of_type_at : List ℕ → SimpleType → List Token → Result (Value × List Token) Fault
value_of_type_at text simple tokens = do
  value ← value_at text tokens
  fits ← suited simple value.0
  Ok value

-- so many elements behind the filled ones have the value
abbrev pub fill : Place → ℕ → ℕ → Constant → Filling
fill variable filled count constant = record {
  value = record { first_bit = element_bit variable filled; bits = bits_of variable.shape.simple; count = count; value = constant.value };
  filled = filled + count;
}

-- "(" value ")" behind a number of repetitions
unfoldable pub repetition_at : List ℕ → Place → ℕ → Token → List Token → Result (Filling × Token × List Token) Fault
repetition_at text variable filled number tokens = do
  room ← has_room variable filled (number_of text number) number
  opening ← sign_at text (codes "(") tokens
  value ← value_of_type_at text variable.shape.simple opening.1
  closing ← sign_at text (codes ")") value.1
  Ok (fill variable filled (number_of text number) value.0.constant, closing.0, closing.1)

-- one element has the value
abbrev pub one_at : List ℕ → Place → ℕ → List Token → Result (Filling × Token × List Token) Fault
one_at text variable filled tokens = do
  value ← value_of_type_at text variable.shape.simple tokens
  Ok (fill variable filled 1 value.0.constant, value.0.last, value.1)

-- a single value; one too many can't stand there
abbrev pub single_initial_at : List ℕ → Place → ℕ → Token → List Token → Result (Filling × Token × List Token) Fault
single_initial_at text variable filled t tokens =
    if nat_le variable.shape.count filled then Err (unfit text t) else one_at text variable filled tokens

-- init = value | n "(" value ")"
unfoldable pub initial_at : List ℕ → Place → ℕ → List Token → Result (Filling × Token × List Token) Fault
initial_at text variable filled [] = Err (end_fault text)
initial_at text variable filled (t ∷ ts) =
    if is_repetition text (t ∷ ts) then repetition_at text variable filled t ts else single_initial_at text variable filled t (t ∷ ts)

-- values so far, and how many elements have one
pub record Filled : Type 0 where
  pub values : List FirstValue
  pub filled : ℕ

-- behind a comma another one follows
abbrev pub initial_by : Option (Token × List Token) → Filled → Token → List Token → Turn (Filled × List Token) (List FirstValue × Token × List Token)
initial_by (Some x) s last rest = Goes (s, x.1)
initial_by None s last rest = Ended (s.values, last, rest)

abbrev pub more_filled : Filled → Filling → Filled
more_filled s f = record { values = s.values ++ f.value ∷ []; filled = f.filled }

unfoldable pub initial_turn : List ℕ → Place → Filled × List Token → Result (Turn (Filled × List Token) (List FirstValue × Token × List Token)) Fault
initial_turn text variable s = do
  i ← initial_at text variable s.0.filled s.1
  Ok (initial_by (maybe_sign_at text (codes ",") i.2) (more_filled s.0 i.0) i.1 i.2)

-- init { "," init }
abbrev pub initials_at : ℕ → List ℕ → Place → List Token → Result (List FirstValue × Token × List Token) Fault
initials_at turns text variable tokens =
    repeated (end_fault text) (initial_turn text variable) turns (record { values = []; filled = 0 }, tokens)

abbrev pub initials_view : Vec FirstValue Global × Token × Bor (List Token) → List FirstValue × Token × List Token
initials_view x = (x.0.items, x.1, x.2.now)
