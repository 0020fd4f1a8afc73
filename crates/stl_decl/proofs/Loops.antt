-- The loops of reading: with any number of turns above that of the tokens each of them reads the same.
use Rattle.std.proofs.Common.{◌≡◌, ◌<◌, ℕ, suc, List, [], length, arith, refl, ap}
use Rattle.std.specs.Prelude.{Result, Ok, Err, Option, Some, None, codes}
use Rattle.stl_lex.specs.declared.token.Token.{Token}
use Rattle.stl_decl.specs.declared.fault.Fault.{Fault}
use Rattle.stl_decl.specs.declared.grammar.SectionKind.{SectionKind}
use Rattle.stl_decl.specs.declared.grammar.SectionKind.TheVariants.{Temporary, Structure}
use Rattle.stl_decl.specs.Steps.{◌>>=◌, end_fault, maybe_sign_at, maybe_word_at}
use Rattle.stl_decl.specs.Repeat.{Turn, Ended, IsSameAbove}
use Rattle.stl_decl.specs.Places.{Place}
use Rattle.stl_decl.specs.Layout.{Section, empty_section}
use Rattle.stl_decl.specs.Initials.{Filled, more_filled, initial_by, initial_turn, initials_at}
use Rattle.stl_decl.specs.Declarations.{skip_attribute, fresh_name, placed, refusal, given_at, initial_values_by, declaration_at}
use Rattle.stl_decl.specs.Sections.{end_word, section_by, section_turn, section_at, no_section_at, temporaries_by, temporaries_turn, temporaries_at, skip_semicolon, structure_at, assignments_by, assignments_turn, assignments_at}
use Rattle.stl_decl.proofs.Fewer.{Leaves, second, third, given, refused, after, beside, wider, name_leaves, sign_leaves, semicolon_leaves, maybe_word_leaves, maybe_sign_leaves, initial_leaves, shape_leaves, no_longer, opening_leaves, skipped_leaves, assignment_leaves}
use Rattle.stl_decl.proofs.Enough.{Lowers, lowers_after, repeated_leaves, same_turns}

-- how many tokens are left
abbrev pub size : {A : Type 0} → A × List Token → ℕ
size s = length s.1

-- two readings that go on alike behind a step, behind a test and behind readings that are the same
pub same_after : {A B : Type 0} {from : A → List Token} {n : ℕ} {r : Result A Fault} {f g : A → Result B Fault} → Leaves from n r → ((x : A) → length (from x) < n → f x ≡ g x) → (r >>= f) ≡ (r >>= g)
same_after {r = Ok x} h k = k x h.fewer
same_after {r = Err e} h k = refl

pub same_beside : {A B : Type 0} (r : Result A Fault) {f g : A → Result B Fault} → ((x : A) → f x ≡ g x) → (r >>= f) ≡ (r >>= g)
same_beside (Ok x) k = k x
same_beside (Err e) k = refl

pub same_before : {A B : Type 0} {r s : Result A Fault} (f : A → Result B Fault) → r ≡ s → (r >>= f) ≡ (s >>= f)
same_before f e = ap (λ r. r >>= f) e

module _ (text : List ℕ) where
  -- first values
  comma_lowers : (found : Option (Token × List Token)) (s : Filled) (last : Token) (tokens : List Token) (n : ℕ) → maybe_sign_at text (codes ",") tokens ≡ found → length tokens < n → Lowers size third n (Ok (initial_by found s last tokens))
  comma_lowers (Some x) s last tokens n e h = let less = maybe_sign_leaves text (codes ",") tokens x e in record { sinks = omega arith }
  comma_lowers None s last tokens n e h = record { sinks = omega arith }

  initial_lowers : (variable : Place) (s : Filled × List Token) → Lowers size third (size s) (initial_turn text variable s)
  unfolding initial_turn
  initial_lowers variable s = lowers_after (initial_leaves text variable s.0.filled s.1) (λ i less. comma_lowers (maybe_sign_at text (codes ",") i.2) (more_filled s.0 i.0) i.1 i.2 _ refl less)

  initials_leaves : (turns : ℕ) (variable : Place) (tokens : List Token) → Leaves third (suc (length tokens)) (initials_at turns text variable tokens)
  initials_leaves turns variable tokens =
      repeated_leaves (end_fault text) size third (initial_turn text variable) (initial_lowers variable) turns _ (record { values = []; filled = 0 }, tokens) (omega arith)

  pub same_initials : (variable : Place) (tokens : List Token) → IsSameAbove (length tokens) (λ turns. initials_at turns text variable tokens)
  same_initials variable tokens n m h k =
      same_turns (end_fault text) size third (initial_turn text variable) (initial_lowers variable) (initial_turn text variable) (length tokens) (λ s b. refl) n m (record { values = []; filled = 0 }, tokens) (omega arith) h k

  -- declarations
  given_leaves : (turns : ℕ) (kind : SectionKind) (variable : Place) (tokens : List Token) → Leaves third (suc (length tokens)) (given_at turns text kind variable tokens)
  given_leaves turns Temporary variable tokens = refused third _ (refusal text tokens)
  given_leaves turns Structure variable tokens = initials_leaves turns variable tokens

  values_leave : (found : Option (Token × List Token)) (turns : ℕ) (kind : SectionKind) (variable : Place) (last : Token) (tokens : List Token) → maybe_sign_at text (codes ":=") tokens ≡ found → Leaves third (suc (length tokens)) (initial_values_by found turns text kind variable last tokens)
  values_leave (Some x) turns kind variable last tokens e = let less = maybe_sign_leaves text (codes ":=") tokens x e in wider (given_leaves turns kind variable x.1) (omega arith)
  values_leave None turns kind variable last tokens e = given third _ ([], last, tokens) (omega arith)

  declaration_leaves : (turns : ℕ) (kind : SectionKind) (section : Section) (tokens : List Token) → Leaves second (length tokens) (declaration_at turns text kind section tokens)
  unfolding declaration_at
  declaration_leaves turns kind section tokens =
      after (name_leaves text tokens) (λ first one.
      beside (fresh_name text section first.0) (λ name.
      after (sign_leaves text (codes ":") (skip_attribute first.1)) (λ colon two.
      after (shape_leaves text colon.1) (λ shape three.
      after (values_leave (maybe_sign_at text (codes ":=") shape.2) turns kind (placed section shape.0) shape.1 shape.2 refl) (λ values four.
      after (semicolon_leaves text values.1 values.2) (λ rest five. let skipped = no_longer first.1 in given second _ _ (omega arith)))))))

  same_given : (n m : ℕ) (kind : SectionKind) (variable : Place) (tokens : List Token) → length tokens < n → length tokens < m → given_at n text kind variable tokens ≡ given_at m text kind variable tokens
  same_given n m Temporary variable tokens h k = refl
  same_given n m Structure variable tokens h k = same_initials variable tokens n m h k

  same_values : (n m : ℕ) (found : Option (Token × List Token)) (kind : SectionKind) (variable : Place) (last : Token) (tokens : List Token) → maybe_sign_at text (codes ":=") tokens ≡ found → length tokens < n → length tokens < m → initial_values_by found n text kind variable last tokens ≡ initial_values_by found m text kind variable last tokens
  same_values n m (Some x) kind variable last tokens e h k = let less = maybe_sign_leaves text (codes ":=") tokens x e in same_given n m kind variable x.1 (omega arith) (omega arith)
  same_values n m None kind variable last tokens e h k = refl

  pub same_declaration : (kind : SectionKind) (section : Section) (tokens : List Token) → IsSameAbove (length tokens) (λ turns. declaration_at turns text kind section tokens)
  unfolding declaration_at
  same_declaration kind section tokens n m h k =
      same_after (name_leaves text tokens) (λ first one.
      same_beside (fresh_name text section first.0) (λ name.
      same_after (sign_leaves text (codes ":") (skip_attribute first.1)) (λ colon two.
      same_after (shape_leaves text colon.1) (λ shape three.
      let skipped = no_longer first.1 in
      same_before _ (same_values n m (maybe_sign_at text (codes ":=") shape.2) kind (placed section shape.0) shape.1 shape.2 refl (omega arith) (omega arith))))))

  -- sections
  section_by_lowers : (found : Option (Token × List Token)) (turns : ℕ) (kind : SectionKind) (s : Section × List Token) → maybe_word_at text (end_word kind) s.1 ≡ found → Lowers size second (size s) (section_by found turns text kind s)
  section_by_lowers (Some x) turns kind s e = let less = maybe_word_leaves text (end_word kind) s.1 x e in record { sinks = omega arith }
  section_by_lowers None turns kind s e = lowers_after (declaration_leaves turns kind s.0 s.1) (λ d less. record { sinks = less })

  section_lowers : (turns : ℕ) (kind : SectionKind) (s : Section × List Token) → Lowers size second (size s) (section_turn turns text kind s)
  unfolding section_turn
  section_lowers turns kind s = section_by_lowers (maybe_word_at text (end_word kind) s.1) turns kind s refl

  pub section_leaves : (turns : ℕ) (kind : SectionKind) (section : Section) (tokens : List Token) → Leaves second (suc (length tokens)) (section_at turns text kind section tokens)
  unfolding section_at
  section_leaves turns kind section tokens =
      repeated_leaves (end_fault text) size second (section_turn turns text kind) (section_lowers turns kind) turns _ (section, tokens) (omega arith)

  same_section_by : (n m : ℕ) (found : Option (Token × List Token)) (kind : SectionKind) (s : Section × List Token) → size s < n → size s < m → section_by found n text kind s ≡ section_by found m text kind s
  same_section_by n m (Some x) kind s h k = refl
  same_section_by n m None kind s h k = same_before _ (same_declaration kind s.0 s.1 n m h k)

  same_section_turn : (n m : ℕ) (kind : SectionKind) (s : Section × List Token) → size s < n → size s < m → section_turn n text kind s ≡ section_turn m text kind s
  unfolding section_turn
  same_section_turn n m kind s h k = same_section_by n m (maybe_word_at text (end_word kind) s.1) kind s h k

  pub same_section : (kind : SectionKind) (section : Section) (tokens : List Token) → IsSameAbove (length tokens) (λ turns. section_at turns text kind section tokens)
  unfolding section_at
  same_section kind section tokens n m h k =
      same_turns (end_fault text) size second (section_turn n text kind) (section_lowers n kind) (section_turn m text kind) (length tokens) (λ s b. same_section_turn n m kind s (omega arith) (omega arith)) n m (section, tokens) (omega arith) h k

  -- temporary data
  temporaries_by_lowers : (found : Option (Token × List Token)) (turns : ℕ) (s : Section × List Token) → maybe_word_at text (codes "VAR_TEMP") s.1 ≡ found → Lowers size second (size s) (temporaries_by found turns text s)
  temporaries_by_lowers (Some x) turns s e =
      let less = maybe_word_leaves text (codes "VAR_TEMP") s.1 x e in lowers_after (section_leaves turns Temporary s.0 x.1) (λ r no_more. record { sinks = omega arith })
  temporaries_by_lowers None turns s e = by (no_section_at text s.1)
    where
      by : (r : Result (Unit {0}) Fault) → Lowers size second (size s) (r >>= λ u. let t : Result (Turn (Section × List Token) (Section × List Token)) Fault = Ok (Ended s) in t)
      by (Ok u) = record { sinks = omega arith }
      by (Err f) = record { sinks = tt }

  temporaries_lowers : (turns : ℕ) (s : Section × List Token) → Lowers size second (size s) (temporaries_turn turns text s)
  unfolding temporaries_turn
  temporaries_lowers turns s = temporaries_by_lowers (maybe_word_at text (codes "VAR_TEMP") s.1) turns s refl

  pub temporaries_leave : (turns : ℕ) (tokens : List Token) → Leaves second (suc (length tokens)) (temporaries_at turns text tokens)
  unfolding temporaries_at
  temporaries_leave turns tokens =
      repeated_leaves (end_fault text) size second (temporaries_turn turns text) (temporaries_lowers turns) turns _ (empty_section, tokens) (omega arith)

  same_temporaries_by : (n m : ℕ) (found : Option (Token × List Token)) (s : Section × List Token) → maybe_word_at text (codes "VAR_TEMP") s.1 ≡ found → size s < n → size s < m → temporaries_by found n text s ≡ temporaries_by found m text s
  same_temporaries_by n m (Some x) s e h k = let less = maybe_word_leaves text (codes "VAR_TEMP") s.1 x e in same_before _ (same_section Temporary s.0 x.1 n m (omega arith) (omega arith))
  same_temporaries_by n m None s e h k = refl

  same_temporaries_turn : (n m : ℕ) (s : Section × List Token) → size s < n → size s < m → temporaries_turn n text s ≡ temporaries_turn m text s
  unfolding temporaries_turn
  same_temporaries_turn n m s h k = same_temporaries_by n m (maybe_word_at text (codes "VAR_TEMP") s.1) s refl h k

  pub same_temporaries : (tokens : List Token) → IsSameAbove (length tokens) (λ turns. temporaries_at turns text tokens)
  unfolding temporaries_at
  same_temporaries tokens n m h k =
      same_turns (end_fault text) size second (temporaries_turn n text) (temporaries_lowers n) (temporaries_turn m text) (length tokens) (λ s b. same_temporaries_turn n m s (omega arith) (omega arith)) n m (empty_section, tokens) (omega arith) h k

  -- a data block's section
  pub structure_leaves : (turns : ℕ) (tokens : List Token) → Leaves second (length tokens) (structure_at turns text tokens)
  unfolding structure_at
  structure_leaves turns tokens =
      after (opening_leaves text tokens) (λ opening one.
      after (section_leaves turns Structure empty_section opening.1) (λ section two.
      let skipped = skipped_leaves text section.1 in given second _ (section.0, skip_semicolon text section.1) (omega arith)))

  pub same_structure : (tokens : List Token) → IsSameAbove (length tokens) (λ turns. structure_at turns text tokens)
  unfolding structure_at
  same_structure tokens n m h k =
      same_after (opening_leaves text tokens) (λ opening less. same_before _ (same_section Structure empty_section opening.1 n m (omega arith) (omega arith)))

  -- assignments
  assignments_by_lowers : (found : Option (Token × List Token)) (s : Section × List Token) → maybe_word_at text (codes "END_DATA_BLOCK") s.1 ≡ found → Lowers size second (size s) (assignments_by found text s)
  assignments_by_lowers (Some x) s e = let less = maybe_word_leaves text (codes "END_DATA_BLOCK") s.1 x e in record { sinks = omega arith }
  assignments_by_lowers None s e = lowers_after (assignment_leaves text s.0 s.1) (λ v less. record { sinks = less })

  assignments_lowers : (s : Section × List Token) → Lowers size second (size s) (assignments_turn text s)
  unfolding assignments_turn
  assignments_lowers s = assignments_by_lowers (maybe_word_at text (codes "END_DATA_BLOCK") s.1) s refl

  pub assignments_leave : (turns : ℕ) (section : Section) (tokens : List Token) → Leaves second (suc (length tokens)) (assignments_at turns text section tokens)
  unfolding assignments_at
  assignments_leave turns section tokens =
      repeated_leaves (end_fault text) size second (assignments_turn text) assignments_lowers turns _ (section, tokens) (omega arith)

  pub same_assignments : (section : Section) (tokens : List Token) → IsSameAbove (length tokens) (λ turns. assignments_at turns text section tokens)
  unfolding assignments_at
  same_assignments section tokens n m h k =
      same_turns (end_fault text) size second (assignments_turn text) assignments_lowers (assignments_turn text) (length tokens) (λ s b. refl) n m (section, tokens) (omega arith) h k
