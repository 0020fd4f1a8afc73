-- Mnemonics: what is read as one is as long as it can be, and what is spelled as one is read as it.
use Rattle.std.proofs.Common.{◌≡◌, ℕ, List, [], ◌∷◌, ◌++◌, refl, ap, sym, ◌∙◌, Bool, true, false, cond, ◌&&◌, ◌||◌, ◌==◌}
use Rattle.std.specs.Prelude.{Ok, Option, Some, None, not, is_some, map}
use Rattle.std.specs.List.{find, list_all, list_any}
use Rattle.std.specs.Str.{bytes_eq, str_to_ascii_lowercase}
use Rattle.std.specs.Char.{to_ascii_uppercase}
use Rattle.std.proofs.lemmas.Bool.{or_parts, or_from}
use Rattle.std.proofs.lemmas.Slice.Eq.{bytes_eq-Decides}
use Rattle.instruction_set.specs.declared.table.InstructionRow.{InstructionRow}
use Rattle.instruction_set.specs.InstructionSet.{instruction_set}
use Rattle.stl_lex.specs.Bytes.{spells, letters_of, in_field}
use Rattle.stl_lex.specs.declared.token.Token.{Token}
use Rattle.stl_decl.specs.Steps.{spelling}
use Rattle.stl_reader.specs.RefusedInstructions.{refused_instructions}
use Rattle.stl_reader.specs.declared.mnemonics.RefusedInstruction.{RefusedInstruction}
use Rattle.stl_reader.specs.declared.mnemonics.Meaning.{Meaning}
use Rattle.stl_reader.specs.declared.mnemonics.Meaning.TheVariants.{Mnemonic}
use Rattle.stl_reader.specs.Mnemonics.{row_named, refused_named, refusal_by, meaning_by, meaning_of, pair_at, one_at, run_at, mnemonic_at}
use Rattle.reader_laws.specs.Tokens.{IsOneOf}
use Rattle.reader_laws.specs.Statements.{IsMnemonic, in_one, in_two, is_instruction, is_longest}
use Rattle.reader_laws.proofs.Rows.{found, each}
use Rattle.reader_laws.proofs.Forms.{passes_any}

-- one that passes is found where there is one
find_any : {A : Type 0} (p : A → Bool) (xs : List A) → is_some (find p xs) ≡ list_any p xs
find_any p [] = refl
find_any p (y ∷ ys) = by (p y) (find_any p ys)
  where
    by : (b : Bool) → is_some (find p ys) ≡ list_any p ys → is_some (cond b (Some y) (find p ys)) ≡ (b || list_any p ys)
    by true e = refl
    by false e = e

is_none : {A : Type 0} (o : Option A) → is_some o ≡ false → o ≡ None
is_none None e = refl
is_none (Some x) e = absurd cc

neither_means : (o : Option InstructionRow) (r : Option RefusedInstruction) → meaning_by o r ≡ None → (is_some o ≡ false) × (is_some r ≡ false)
neither_means (Some row) r e = absurd cc
neither_means None (Some row) e = absurd cc
neither_means None None e = (refl, refl)

pub no_instruction : (word : List ℕ) → meaning_of word ≡ None → is_instruction word ≡ false
unfolding row_named refused_named
no_instruction word e =
    let h = neither_means (row_named word) (refused_named word) e in
    or_from (list_any (λ (row : InstructionRow). spells (letters_of row.mnemonic) word) instruction_set) (list_any (λ (row : RefusedInstruction). spells (letters_of row.mnemonic) word) refused_instructions)
    (sym (find_any (λ (row : InstructionRow). spells (letters_of row.mnemonic) word) instruction_set) ∙ h.0)
    (sym (find_any (λ (row : RefusedInstruction). spells (letters_of row.mnemonic) word) refused_instructions) ∙ h.1)

no_meaning : (word : List ℕ) → is_instruction word ≡ false → meaning_of word ≡ None
unfolding row_named refused_named
no_meaning word e =
    let h = or_parts (list_any (λ (row : InstructionRow). spells (letters_of row.mnemonic) word) instruction_set) (list_any (λ (row : RefusedInstruction). spells (letters_of row.mnemonic) word) refused_instructions) e in
    let a : row_named word ≡ None = is_none (row_named word) (find_any (λ (row : InstructionRow). spells (letters_of row.mnemonic) word) instruction_set ∙ h.0) in
    let b : refused_named word ≡ None = is_none (refused_named word) (find_any (λ (row : RefusedInstruction). spells (letters_of row.mnemonic) word) refused_instructions ∙ h.1) in
    ap (λ o. meaning_by o (refused_named word)) a ∙ ap refusal_by b

-- a mnemonic stands in its row in capital letters, and so it is known by its letters in any case
abbrev in_capitals : List ℕ → List ℕ
in_capitals letters = in_field 5 (map to_ascii_uppercase letters)

abbrev stands_so : InstructionRow → Bool
stands_so row = bytes_eq row.mnemonic (in_capitals (str_to_ascii_lowercase (letters_of row.mnemonic)))

all_stand_so : list_all stands_so instruction_set ≡ true
all_stand_so = refl

one_mnemonic : (a b : InstructionRow) (word : List ℕ) → IsOneOf a instruction_set → IsOneOf b instruction_set → spells (letters_of a.mnemonic) word ≡ true → spells (letters_of b.mnemonic) word ≡ true → a.mnemonic ≡ b.mnemonic
one_mnemonic a b word ha hb ea eb =
    let at : a.mnemonic ≡ in_capitals (str_to_ascii_lowercase (letters_of a.mnemonic)) = (bytes_eq-Decides _ _).0 (each stands_so instruction_set a all_stand_so ha) in
    let bt : b.mnemonic ≡ in_capitals (str_to_ascii_lowercase (letters_of b.mnemonic)) = (bytes_eq-Decides _ _).0 (each stands_so instruction_set b all_stand_so hb) in
    let al : str_to_ascii_lowercase (letters_of a.mnemonic) ≡ str_to_ascii_lowercase word = (bytes_eq-Decides _ _).0 ea in
    let bl : str_to_ascii_lowercase (letters_of b.mnemonic) ≡ str_to_ascii_lowercase word = (bytes_eq-Decides _ _).0 eb in
    at ∙ (ap in_capitals (al ∙ sym bl) ∙ sym bt)

means_it : (word : List ℕ) (row : InstructionRow) (o : Option InstructionRow) → row_named word ≡ o → is_some o ≡ true → IsOneOf row instruction_set → spells (letters_of row.mnemonic) word ≡ true → meaning_by o (refused_named word) ≡ Some (Mnemonic row.mnemonic)
unfolding row_named
means_it word row None is some listed h = absurd cc
means_it word row (Some other) is some listed h =
    let f = found (λ (r : InstructionRow). spells (letters_of r.mnemonic) word) instruction_set other is in
    ap (λ m. Some (Mnemonic m)) (one_mnemonic other row word f.0 listed f.1 h)

pub meaning_again : (word : List ℕ) (row : InstructionRow) → IsOneOf row instruction_set → spells (letters_of row.mnemonic) word ≡ true → meaning_of word ≡ Some (Mnemonic row.mnemonic)
unfolding row_named
meaning_again word row listed h =
    let p : InstructionRow → Bool = λ r. spells (letters_of r.mnemonic) word in
    means_it word row (row_named word) refl (find_any p instruction_set ∙ passes_any p instruction_set row listed h) listed h

-- a mnemonic is read
pub record ReadsMnemonic (text mnemonic : List ℕ) (front rest : List Token) : Type 0 where
  pub last : Token
  pub read : mnemonic_at text (front ++ rest) ≡ Ok (mnemonic, last, rest)

module _ (text : List ℕ) where
  one_again : (t : Token) (rest : List Token) (m : Meaning) → meaning_of (spelling text t) ≡ Some m → one_at text (t ∷ rest) ≡ Some (m, t, rest)
  one_again t rest m is = rw is refl

  pair_none : (t : Token) (rest : List Token) → is_longest text (t ∷ []) rest ≡ true → pair_at text (t ∷ rest) ≡ None
  pair_none t [] h = refl
  pair_none t (u ∷ us) h = by (t.to == u.from) refl (is_instruction (spelling text (record t { to = u.to }))) refl h
    where
      by : (b : Bool) → (t.to == u.from) ≡ b → (i : Bool) → is_instruction (spelling text (record t { to = u.to })) ≡ i → not (b && i) ≡ true → pair_at text (t ∷ u ∷ us) ≡ None
      by false near i is e = rw near refl
      by true near true is e = absurd cc
      by true near false is e = rw (near, no_meaning (spelling text (record t { to = u.to })) is) refl

  pair_again : (t u : Token) (rest : List Token) (m : Meaning) → (t.to == u.from) ≡ true → meaning_of (spelling text (record t { to = u.to })) ≡ Some m → pair_at text (t ∷ u ∷ rest) ≡ Some (m, u, rest)
  pair_again t u rest m near is = rw (near, is) refl

  pub mnemonic_again : (row : InstructionRow) (front rest : List Token) → IsOneOf row instruction_set → IsMnemonic text row.mnemonic front → is_longest text front rest ≡ true → ReadsMnemonic text row.mnemonic front rest
  unfolding run_at
  mnemonic_again row front rest listed (in_one t h) longest =
      record { last = t; read = rw (pair_none t rest longest, one_again t rest (Mnemonic row.mnemonic) (meaning_again (spelling text t) row listed h)) refl }
  mnemonic_again row front rest listed (in_two t u near h) longest =
      record { last = u; read = rw (pair_again t u rest (Mnemonic row.mnemonic) near (meaning_again (spelling text (record t { to = u.to })) row listed h)) refl }
