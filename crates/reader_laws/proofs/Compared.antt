-- Comparisons with 0 that are spelled so are read.
use Rattle.std.proofs.Common.{◌≡◌, ℕ, List, ◌∷◌, refl, ap, sym, ◌∙◌, Bool, true, false, ◌&&◌, ◌||◌}
use Rattle.std.specs.Prelude.{Ok, Some, map, not, codes}
use Rattle.std.specs.List.{list_all}
use Rattle.std.specs.Str.{bytes_eq}
use Rattle.std.proofs.lemmas.Bool.{and_parts}
use Rattle.std.proofs.lemmas.Slice.Eq.{bytes_eq-Decides}
use Rattle.instruction_set.specs.declared.operands.OperandArea.TheVariants as areas
use Rattle.stl_lex.specs.Bytes.{letters_of}
use Rattle.stl_lex.specs.declared.piece.TokenKind.{TokenKind}
use Rattle.stl_lex.specs.declared.piece.TokenKind.TheVariants as kinds
use Rattle.stl_lex.specs.declared.token.Token.{Token}
use Rattle.stl_decl.specs.Layout.{Section}
use Rattle.stl_decl.specs.Steps.{spelling, is_number_kind, is_sign_kind}
use Rattle.stl_reader.specs.declared.forms.OperandForm.TheVariants as forms
use Rattle.stl_reader.specs.declared.words.StatusSign.{StatusSign}
use Rattle.stl_reader.specs.declared.addresses.Operand.{Operand}
use Rattle.stl_reader.specs.Forms.{accepts}
use Rattle.stl_reader.specs.OperandWords.{status_signs}
use Rattle.stl_reader.specs.Words.{status_sign}
use Rattle.stl_reader.specs.Constants.{is_plus_or_minus, is_real, status_operand, sign_by}
use Rattle.stl_reader.specs.Statements.{kind_operand, operand_at}
use Rattle.reader_laws.specs.Tokens.{IsOneOf, IsSign}
use Rattle.reader_laws.specs.Operands.{operand}
use Rattle.reader_laws.specs.Tables.{are_apart}
use Rattle.reader_laws.proofs.Rows.{each}
use Rattle.reader_laws.proofs.Again.{find_key}

abbrev sign_key : StatusSign → List ℕ
sign_key row = letters_of row.sign

signs_apart : are_apart (map sign_key status_signs) ≡ true
signs_apart = refl

pub status_again : (sign : List ℕ) (row : StatusSign) → IsOneOf row status_signs → sign ≡ letters_of row.sign → status_sign sign ≡ Some row
unfolding status_sign
status_again sign row h e = find_key sign_key sign status_signs row signs_apart h ((bytes_eq-Decides (letters_of row.sign) sign).1 (sym e))

abbrev is_no_sum : StatusSign → Bool
is_no_sum row = not (bytes_eq (letters_of row.sign) (codes "+")) && not (bytes_eq (letters_of row.sign) (codes "-"))

no_sums : list_all is_no_sum status_signs ≡ true
no_sums = refl

both_not : (k a b : Bool) → (not a && not b) ≡ true → (k && a || k && b) ≡ false
both_not true false false e = refl
both_not false false false e = refl
both_not k true b e = absurd cc
both_not k false true e = absurd cc

pub sign_is : (k : TokenKind) → is_sign_kind k ≡ true → k ≡ kinds.Sign
sign_is kinds.Sign h = refl
sign_is _ h = absurd cc

pub sign_kind_again : (kind : TokenKind) (text : List ℕ) (temps : Section) (mnemonic : List ℕ) (s : Token) (rest tokens : List Token) (r : Operand × Token × List Token) → kind ≡ kinds.Sign → sign_by (status_sign (spelling text s)) text mnemonic s rest tokens ≡ Ok r → kind_operand kind text temps mnemonic s rest tokens ≡ Ok r
sign_kind_again kinds.Sign text temps mnemonic s rest tokens r is e = e
sign_kind_again _ text temps mnemonic s rest tokens r is e = absurd cc

figure : (text : List ℕ) (s : Token) (rest : List Token) → s.kind ≡ kinds.Sign → is_plus_or_minus text s ≡ false → is_real text (s ∷ rest) ≡ false
figure text s rest kind sum = rw (sum, kind) refl

pub comparison_read : (text : List ℕ) (temps : Section) (mnemonic : List ℕ) (row : StatusSign) (s z : Token) (rest : List Token) → IsOneOf row status_signs → IsSign text (letters_of row.sign) s → is_number_kind z.kind ≡ true → spelling text z ≡ codes "0" → accepts mnemonic forms.Status ≡ true → operand_at text temps mnemonic (s ∷ z ∷ rest) ≡ Ok (operand areas.Status 0 0 row.value, z, rest)
unfolding operand_at status_operand
comparison_read text temps mnemonic row s z rest h sign number zero takes =
    let parts = and_parts (is_sign_kind s.kind) (bytes_eq (spelling text s) (letters_of row.sign)) sign in
    let letters : spelling text s ≡ letters_of row.sign = (bytes_eq-Decides (spelling text s) (letters_of row.sign)).0 parts.1 in
    let no_sum = each is_no_sum status_signs row no_sums h in
    let sum : is_plus_or_minus text s ≡ false =
    ap (λ w. is_sign_kind s.kind && bytes_eq w (codes "+") || is_sign_kind s.kind && bytes_eq w (codes "-")) letters
    ∙ both_not (is_sign_kind s.kind) (bytes_eq (letters_of row.sign) (codes "+")) (bytes_eq (letters_of row.sign) (codes "-")) no_sum in
    let kind = sign_is s.kind parts.0 in
    let same : bytes_eq (spelling text z) (codes "0") ≡ true = (bytes_eq-Decides (spelling text z) (codes "0")).1 zero in
    rw (figure text s (z ∷ rest) kind sum)
    (sign_kind_again s.kind text temps mnemonic s (z ∷ rest) (s ∷ z ∷ rest) (operand areas.Status 0 0 row.value, z, rest) kind
    (rw (status_again (spelling text s) row h letters, takes, number, same) refl))
