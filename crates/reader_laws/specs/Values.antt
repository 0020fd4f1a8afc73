-- How the values of declared names are spelled.
use Rattle.std.specs.Prelude.{◌≡◌, ℕ, List, [], ◌∷◌, ◌++◌, Bool, true, Some, Ok}
use Rattle.stl_lex.specs.declared.token.Token.{Token}
use Rattle.stl_decl.specs.declared.types.SimpleType.{SimpleType}
use Rattle.stl_decl.specs.declared.constants.Constant.{Constant}
use Rattle.stl_decl.specs.declared.constants.ConstantForm.TheVariants as constants
use Rattle.stl_decl.specs.declared.constants.Value.{Value}
use Rattle.stl_decl.specs.Constants.{constant_of, stored, suits}
use Rattle.stl_decl.specs.Initials.{value_of_type_at}
use Rattle.reader_laws.specs.Operands.{IsInteger, is_in_range, last_of}

-- the tokens spell the constant: a number from -32,768 to 32,767, or one token that is a literal, characters, TRUE or
-- FALSE
pub data IsConstant (text : List ℕ) : Constant → List Token → Type 0 where
  of_number : (minus : Bool) (n : ℕ) (ts : List Token) → IsInteger text minus n ts → is_in_range minus n ≡ true → IsConstant text (record { form = constants.Integer; value = stored minus 65536 n }) ts
  of_token : (c : Constant) (t : Token) → constant_of text t ≡ Some c → IsConstant text c (t ∷ [])

-- the first of the tokens
abbrev pub first_in : Token → List Token → Token
first_in t [] = t
first_in t (u ∷ us) = u

-- a constant that is a value of the type is read as it and as no other, and what follows is left, whatever it is
abbrev pub ValuesSpelledAreRead : Type 0
ValuesSpelledAreRead =
    (text : List ℕ) (simple : SimpleType) (c : Constant) (front rest : List Token) (l : Token)
    → IsConstant text c front → suits simple c.form ≡ true
    → value_of_type_at text simple (front ++ rest) ≡ Ok (record { constant = c; first = first_in l front; last = last_of l front }, rest)

-- what was read as a value of the type is spelled by the tokens that it took, from its first to its last
pub record IsValueRead (text : List ℕ) (simple : SimpleType) (tokens : List Token) (x : Value × List Token) : Type 0 where
  pub front : List Token
  pub cut : tokens ≡ front ++ x.1
  pub last : last_of x.0.last front ≡ x.0.last
  pub spelled : IsConstant text x.0.constant front
  pub suits : suits simple x.0.constant.form ≡ true

-- what is read as a value of a type is spelled so, and suits the type
abbrev pub ValuesReadAreSpelled : Type 0
ValuesReadAreSpelled =
    (text : List ℕ) (simple : SimpleType) (tokens : List Token) (x : Value × List Token)
    → value_of_type_at text simple tokens ≡ Ok x → IsValueRead text simple tokens x
