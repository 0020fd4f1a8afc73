-- Reading takes tokens from the front: what is left has fewer of them.
use Rattle.std.proofs.Common.{◌≡◌, ◌≤◌, ◌<◌, ℕ, suc, List, [], ◌∷◌, length, arith, refl, subst, Bool, true, false}
use Rattle.std.specs.Prelude.{Result, Ok, Err, Option, Some, None, if◌then◌else◌, codes, nat_le}
use Rattle.stl_lex.specs.declared.token.Token.{Token}
use Rattle.stl_decl.specs.declared.fault.Fault.{Fault}
use Rattle.stl_decl.specs.declared.steps.SignedNumber.{SignedNumber}
use Rattle.stl_decl.specs.declared.types.SimpleType.{SimpleType}
use Rattle.stl_decl.specs.declared.types.Shape.{Shape}
use Rattle.stl_decl.specs.declared.types.Meaning.{Meaning}
use Rattle.stl_decl.specs.declared.types.Meaning.TheVariants.{Known, Refused}
use Rattle.stl_decl.specs.declared.types.TypeRow.{TypeRow}
use Rattle.stl_decl.specs.declared.constants.Constant.{Constant}
use Rattle.stl_decl.specs.Steps.{◌>>=◌, end_fault, spelling, is_word, is_sign, is_word_kind, is_number_kind, word_at, sign_at, semicolon_at, name_at, number_at, number_of, signed_at, integer_at, maybe_word_at, maybe_sign_at, unfit, fault_at}
use Rattle.stl_decl.specs.Types.{is_int, type_row}
use Rattle.stl_decl.specs.Constants.{integer_value, integer_value_at, single_value, value_at, begins_integer, constant_of, integer_constant}
use Rattle.stl_decl.specs.Places.{Place}
use Rattle.stl_decl.specs.Layout.{Section}
use Rattle.stl_decl.specs.Elements.{index_of, indexed_at, no_index, element_by, element_at}
use Rattle.stl_decl.specs.Initials.{is_repetition, has_room, suited, value_of_type_at, repetition_at, one_at, initial_at}
use Rattle.stl_decl.specs.Declarations.{meant, by_row, simple_at, bounded, bound_at, count_between, closing_at, array_at, plain_at, shape_by, shape_at, is_attribute_kind, skip_attribute}
use Rattle.stl_decl.specs.Sections.{is_left_out, opening_at, skip_semicolon, declared_name, assignment_at}
use Rattle.stl_decl.specs.declared.fault.FaultKind.TheVariants.{BadOperand, BadArray, UnknownType, MissingSemicolon, OutOfScope}

-- where the rest stands in what is read
abbrev pub itself : List Token → List Token
itself tokens = tokens

abbrev pub second : {A : Type 0} → A × List Token → List Token
second x = x.1

abbrev pub third : {A B : Type 0} → A × B × List Token → List Token
third x = x.2

abbrev pub Fewer : {A : Type 0} → (A → List Token) → ℕ → Result A Fault → Type 0
Fewer rest n (Ok x) = length (rest x) < n
Fewer rest n (Err f) = Unit {0}

-- what is read leaves fewer tokens than n
pub record Leaves {A : Type 0} (rest : A → List Token) (n : ℕ) (reading : Result A Fault) : Type 0 where
  pub fewer : Fewer rest n reading

module _ {A : Type 0} (rest : A → List Token) (n : ℕ) where
  pub given : (x : A) → length (rest x) < n → Leaves rest n (Ok x)
  given x h = record { fewer = h }

  pub refused : (f : Fault) → Leaves rest n (Err f)
  refused f = record { fewer = tt }

  pub either : (b : Bool) (r s : Result A Fault) → Leaves rest n r → Leaves rest n s → Leaves rest n (if b then r else s)
  either true r s h g = h
  either false r s h g = g

  -- what was read leaves fewer
  pub left_by : (r : Result A Fault) (x : A) → Leaves rest n r → r ≡ Ok x → length (rest x) < n
  left_by r x h e = subst (Fewer rest n) e h.fewer

-- a step and what follows it
pub after : {A B : Type 0} {from : A → List Token} {n : ℕ} {r : Result A Fault} {to : B → List Token} {k : ℕ} {f : A → Result B Fault} → Leaves from n r → ((x : A) → length (from x) < n → Leaves to k (f x)) → Leaves to k (r >>= f)
after {r = Ok x} h g = g x h.fewer
after {r = Err e} h g = record { fewer = tt }

-- a test and what follows it
pub beside : {A B : Type 0} {to : B → List Token} {k : ℕ} (r : Result A Fault) {f : A → Result B Fault} → ((x : A) → Leaves to k (f x)) → Leaves to k (r >>= f)
beside (Ok x) g = g x
beside (Err e) g = record { fewer = tt }

-- a longer bound
pub wider : {A : Type 0} {rest : A → List Token} {n k : ℕ} {r : Result A Fault} → Leaves rest n r → n ≤ k → Leaves rest k r
wider {r = Ok x} h le = let less = h.fewer in record { fewer = omega arith }
wider {r = Err e} h le = record { fewer = tt }

some_leaves : (b : Bool) (t : Token) (ts : List Token) (x : Token × List Token) → (let found : Option (Token × List Token) = if b then Some (t, ts) else None in found ≡ Some x) → length x.1 < length (t ∷ ts)
some_leaves true t ts x e = let same : (t, ts) ≡ x = cc in subst (λ y. length y.1 < length (t ∷ ts)) same (omega arith)
some_leaves false t ts x e = absurd cc

module _ (text : List ℕ) where
  pub word_leaves : (word : List ℕ) (tokens : List Token) → Leaves second (length tokens) (word_at text word tokens)
  word_leaves word [] = refused second _ (end_fault text)
  word_leaves word (t ∷ ts) = either second _ (is_word text t word) _ _ (given second _ (t, ts) (omega arith)) (refused second _ (unfit text t))

  pub sign_leaves : (sign : List ℕ) (tokens : List Token) → Leaves second (length tokens) (sign_at text sign tokens)
  sign_leaves sign [] = refused second _ (end_fault text)
  sign_leaves sign (t ∷ ts) = either second _ (is_sign text t sign) _ _ (given second _ (t, ts) (omega arith)) (refused second _ (unfit text t))

  pub semicolon_leaves : (last : Token) (tokens : List Token) → Leaves itself (length tokens) (semicolon_at text last tokens)
  semicolon_leaves last [] = refused itself _ (fault_at MissingSemicolon last)
  semicolon_leaves last (t ∷ ts) = either itself _ (is_sign text t (codes ";")) _ _ (given itself _ ts (omega arith)) (refused itself _ (fault_at MissingSemicolon last))

  pub name_leaves : (tokens : List Token) → Leaves second (length tokens) (name_at text tokens)
  name_leaves [] = refused second _ (end_fault text)
  name_leaves (t ∷ ts) = either second _ (is_word_kind t.kind) _ _ (given second _ (t, ts) (omega arith)) (refused second _ (unfit text t))

  pub number_leaves : (tokens : List Token) → Leaves third (length tokens) (number_at text tokens)
  number_leaves [] = refused third _ (end_fault text)
  number_leaves (t ∷ ts) = either third _ (is_number_kind t.kind) _ _ (given third _ (number_of text t, t, ts) (omega arith)) (refused third _ (unfit text t))

  pub signed_leaves : (negative : Bool) (first : Token) (tokens : List Token) (n : ℕ) → length tokens ≤ n → Leaves second n (signed_at text negative first tokens)
  unfolding signed_at
  signed_leaves negative first tokens n h =
      after (number_leaves tokens) (λ x less. given second n _ (omega arith))

  pub integer_leaves : (tokens : List Token) → Leaves second (length tokens) (integer_at text tokens)
  unfolding integer_at
  integer_leaves [] = refused second _ (end_fault text)
  integer_leaves (t ∷ ts) =
      either second _ (is_sign text t (codes "-")) _ _ (signed_leaves true t ts _ (omega arith))
      (either second _ (is_sign text t (codes "+")) _ _ (signed_leaves false t ts _ (omega arith)) (signed_leaves false t (t ∷ ts) _ (omega arith)))

  pub maybe_word_leaves : (word : List ℕ) (tokens : List Token) (x : Token × List Token) → maybe_word_at text word tokens ≡ Some x → length x.1 < length tokens
  maybe_word_leaves word [] x e = absurd cc
  maybe_word_leaves word (t ∷ ts) x e = some_leaves (is_word text t word) t ts x e

  pub maybe_sign_leaves : (sign : List ℕ) (tokens : List Token) (x : Token × List Token) → maybe_sign_at text sign tokens ≡ Some x → length x.1 < length tokens
  maybe_sign_leaves sign [] x e = absurd cc
  maybe_sign_leaves sign (t ∷ ts) x e = some_leaves (is_sign text t sign) t ts x e

  -- constants
  integer_value_leaves : (n : SignedNumber) (tokens : List Token) (k : ℕ) → length tokens < k → Leaves second k (integer_value n tokens)
  integer_value_leaves n tokens k h =
      either second k (is_int n) _ _ (given second k (record { constant = integer_constant n; first = n.first; last = n.last }, tokens) h) (refused second k (fault_at BadOperand n.first))

  integer_value_at_leaves : (tokens : List Token) → Leaves second (length tokens) (integer_value_at text tokens)
  unfolding integer_value_at
  integer_value_at_leaves tokens = after (integer_leaves tokens) (λ x less. integer_value_leaves x.0 x.1 _ less)

  single_value_leaves : (found : Option Constant) (t : Token) (ts : List Token) → Leaves second (length (t ∷ ts)) (single_value found text t ts)
  single_value_leaves None t ts = refused second _ (unfit text t)
  single_value_leaves (Some c) t ts = given second _ (record { constant = c; first = t; last = t }, ts) (omega arith)

  pub value_leaves : (tokens : List Token) → Leaves second (length tokens) (value_at text tokens)
  value_leaves [] = refused second _ (end_fault text)
  value_leaves (t ∷ ts) = either second _ (begins_integer text t) _ _ (integer_value_at_leaves (t ∷ ts)) (single_value_leaves (constant_of text t) t ts)

  pub value_of_type_leaves : (simple : SimpleType) (tokens : List Token) → Leaves second (length tokens) (value_of_type_at text simple tokens)
  unfolding value_of_type_at
  value_of_type_leaves simple tokens = after (value_leaves tokens) (λ x less. beside (suited simple x.0) (λ fits. given second _ x less))

  -- first values
  repetition_leaves : (variable : Place) (filled : ℕ) (number : Token) (tokens : List Token) (n : ℕ) → length tokens ≤ n → Leaves third n (repetition_at text variable filled number tokens)
  unfolding repetition_at
  repetition_leaves variable filled number tokens n h =
      beside (has_room variable filled (number_of text number) number) (λ room.
      after (sign_leaves (codes "(") tokens) (λ opening one.
      after (value_of_type_leaves variable.shape.simple opening.1) (λ value two.
      after (sign_leaves (codes ")") value.1) (λ closing three. given third n _ (omega arith)))))

  one_leaves : (variable : Place) (filled : ℕ) (tokens : List Token) → Leaves third (length tokens) (one_at text variable filled tokens)
  one_leaves variable filled tokens = after (value_of_type_leaves variable.shape.simple tokens) (λ value less. given third _ _ less)

  pub initial_leaves : (variable : Place) (filled : ℕ) (tokens : List Token) → Leaves third (length tokens) (initial_at text variable filled tokens)
  unfolding initial_at
  initial_leaves variable filled [] = refused third _ (end_fault text)
  initial_leaves variable filled (t ∷ ts) =
      either third _ (is_repetition text (t ∷ ts)) _ _ (repetition_leaves variable filled t ts _ (omega arith))
      (either third _ (nat_le variable.shape.count filled) _ _ (refused third _ (unfit text t)) (one_leaves variable filled (t ∷ ts)))

  -- elements
  indexed_leaves : (shape : Shape) (tokens : List Token) → Leaves third (length tokens) (indexed_at text shape tokens)
  unfolding indexed_at
  indexed_leaves shape tokens =
      after (integer_leaves tokens) (λ index one.
      beside (index_of shape index.0) (λ k.
      after (sign_leaves (codes "]") index.1) (λ closing two. given third _ _ (omega arith))))

  element_by_leaves : (found : Option (Token × List Token)) (shape : Shape) (name : Token) (tokens : List Token) → maybe_sign_at text (codes "[") tokens ≡ found → Leaves third (suc (length tokens)) (element_by found text shape name tokens)
  element_by_leaves (Some x) shape name tokens e = let less = maybe_sign_leaves (codes "[") tokens x e in wider (indexed_leaves shape x.1) (omega arith)
  element_by_leaves None shape name tokens e = either third _ shape.is_array _ _ (refused third _ (no_index text name tokens)) (given third _ (0, name, tokens) (omega arith))

  element_leaves : (shape : Shape) (name : Token) (tokens : List Token) → Leaves third (suc (length tokens)) (element_at text shape name tokens)
  element_leaves shape name tokens = element_by_leaves (maybe_sign_at text (codes "[") tokens) shape name tokens refl

  -- types
  meant_leaves : (meaning : Meaning) (t : Token) (ts : List Token) (n : ℕ) → length ts < n → Leaves third n (meant meaning t ts)
  meant_leaves (Known simple) t ts n h = given third n (simple, t, ts) h
  meant_leaves (Refused kind) t ts n h = refused third n (fault_at kind t)

  by_row_leaves : (row : Option TypeRow) (t : Token) (ts : List Token) (n : ℕ) → length ts < n → Leaves third n (by_row row t ts)
  by_row_leaves None t ts n h = refused third n (fault_at UnknownType t)
  by_row_leaves (Some row) t ts n h = meant_leaves row.meaning t ts n h

  simple_leaves : (tokens : List Token) → Leaves third (length tokens) (simple_at text tokens)
  unfolding simple_at
  simple_leaves tokens = after (name_leaves tokens) (λ name less. by_row_leaves (type_row (spelling text name.0)) name.0 name.1 _ less)

  bounded_leaves : (bound : SignedNumber) (tokens : List Token) (n : ℕ) → length tokens < n → Leaves second n (bounded bound tokens)
  bounded_leaves bound tokens n h = either second n (is_int bound) _ _ (given second n (bound, tokens) h) (refused second n (fault_at BadArray bound.first))

  bound_leaves : (tokens : List Token) → Leaves second (length tokens) (bound_at text tokens)
  unfolding bound_at
  bound_leaves tokens = after (integer_leaves tokens) (λ x less. bounded_leaves x.0 x.1 _ less)

  closing_leaves : (tokens : List Token) → Leaves second (length tokens) (closing_at text tokens)
  closing_leaves [] = refused second _ (end_fault text)
  closing_leaves (t ∷ ts) =
      either second _ (is_sign text t (codes "]")) _ _ (given second _ (t, ts) (omega arith))
      (either second _ (is_sign text t (codes ",")) _ _ (refused second _ (fault_at OutOfScope t)) (refused second _ (unfit text t)))

  array_leaves : (tokens : List Token) → Leaves third (length tokens) (array_at text tokens)
  unfolding array_at
  array_leaves tokens =
      after (sign_leaves (codes "[") tokens) (λ opening one.
      after (bound_leaves opening.1) (λ low two.
      after (sign_leaves (codes "..") low.1) (λ dots three.
      after (bound_leaves dots.1) (λ high four.
      beside (count_between low.0 high.0) (λ count.
      after (closing_leaves high.1) (λ closing five.
      after (word_leaves (codes "OF") closing.1) (λ of six.
      after (simple_leaves of.1) (λ simple seven. given third _ _ (omega arith)))))))))

  plain_leaves : (tokens : List Token) → Leaves third (length tokens) (plain_at text tokens)
  unfolding plain_at
  plain_leaves tokens = after (simple_leaves tokens) (λ simple less. given third _ _ less)

  shape_by_leaves : (found : Option (Token × List Token)) (tokens : List Token) → maybe_word_at text (codes "ARRAY") tokens ≡ found → Leaves third (length tokens) (shape_by found text tokens)
  shape_by_leaves (Some x) tokens e = let less = maybe_word_leaves (codes "ARRAY") tokens x e in wider (array_leaves x.1) (omega arith)
  shape_by_leaves None tokens e = plain_leaves tokens

  pub shape_leaves : (tokens : List Token) → Leaves third (length tokens) (shape_at text tokens)
  unfolding shape_at
  shape_leaves tokens = shape_by_leaves (maybe_word_at text (codes "ARRAY") tokens) tokens refl

pub no_longer : (tokens : List Token) → length (skip_attribute tokens) ≤ length tokens
no_longer [] = omega arith
no_longer (t ∷ ts) = by (is_attribute_kind t.kind)
  where
    by : (b : Bool) → length (if b then ts else t ∷ ts) ≤ length (t ∷ ts)
    by true = omega arith
    by false = omega arith

module _ (text : List ℕ) where
  pub opening_leaves : (tokens : List Token) → Leaves second (length tokens) (opening_at text tokens)
  opening_leaves [] = refused second _ (end_fault text)
  opening_leaves (t ∷ ts) =
      either second _ (is_word text t (codes "STRUCT")) _ _ (given second _ (t, ts) (omega arith))
      (either second _ (is_left_out text t) _ _ (refused second _ (fault_at OutOfScope t)) (refused second _ (unfit text t)))

  pub skipped_leaves : (tokens : List Token) → length (skip_semicolon text tokens) ≤ length tokens
  skipped_leaves [] = omega arith
  skipped_leaves (t ∷ ts) = by (is_sign text t (codes ";"))
    where
      by : (b : Bool) → length (if b then ts else t ∷ ts) ≤ length (t ∷ ts)
      by true = omega arith
      by false = omega arith

  pub assignment_leaves : (section : Section) (tokens : List Token) → Leaves second (length tokens) (assignment_at text section tokens)
  unfolding assignment_at
  assignment_leaves section tokens =
      after (name_leaves text tokens) (λ name one.
      beside (declared_name text section name.0) (λ variable.
      after (element_leaves text variable.shape name.0 name.1) (λ element two.
      after (sign_leaves text (codes ":=") element.2) (λ becomes three.
      after (value_of_type_leaves text variable.shape.simple becomes.1) (λ value four.
      after (semicolon_leaves text value.0.last value.1) (λ rest five. given second _ _ (omega arith)))))))
