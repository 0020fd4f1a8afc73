-- Each field of an image says what was written there.
use Rattle.std.proofs.Common.{◌≡◌, ℕ, suc, ◌*◌, ◌/◌, ◌%◌, ◌^◌, ◌<◌, true, ltb, List, [], ◌∷◌, ◌++◌, length, get_or, take, drop, Some, refl, sym, ap, ◌∙◌, append_assoc, arith, length-append}
use Rattle.std.specs.List.{flat_map, AllByRecursion}
use Rattle.std.proofs.lemmas.List.{take-append-drop, drop_at, append-nil}
use Rattle.std.proofs.lemmas.Nat.{from_be_bytes-to_be_bytes_2, from_be_bytes-to_be_bytes_4}
use Rattle.s7_base.specs.declared.statement.Statement.{Statement}
use Rattle.s7_base.specs.declared.blocks.CodeKind.{CodeKind}
use Rattle.s7_base.specs.declared.blocks.CodeKind.TheVariants.{Ob, Fb, Fc}
use Rattle.s7_base.specs.Limits.{kind_place}
use Rattle.load_image.specs.Image.{statement_bytes, entry, header, IsStoredStatement}
use Rattle.load_image.specs.Reading.{word_at, double_word_at, first_statement, statements_in, code_kind}

-- statements

pub statement_length : (s : Statement) → length (statement_bytes s) ≡ 12
unfolding statement_bytes
statement_length s = refl

pub statement_again : (s : Statement) (rest : List ℕ) → IsStoredStatement s → first_statement (statement_bytes s ++ rest) ≡ s
unfolding statement_bytes first_statement
statement_again s rest fits =
    let op : word_at (statement_bytes s ++ rest) 0 ≡ s.op = from_be_bytes-to_be_bytes_2 s.op fits.op in
    let db : word_at (statement_bytes s ++ rest) 4 ≡ s.db = from_be_bytes-to_be_bytes_2 s.db fits.db in
    let value : double_word_at (statement_bytes s ++ rest) 8 ≡ s.value = from_be_bytes-to_be_bytes_4 s.value fits.value in
    let made : ℕ → ℕ → ℕ → Statement = λ o d v. record { op = o; area = s.area; bit = s.bit; db = d; value = v } in
    ap (λ (o : ℕ). made o (word_at (statement_bytes s ++ rest) 4) (double_word_at (statement_bytes s ++ rest) 8)) op
    ∙ ap (λ (d : ℕ). made s.op d (double_word_at (statement_bytes s ++ rest) 8)) db
    ∙ ap (λ (v : ℕ). made s.op s.db v) value

pub statement_there : (s : Statement) (bytes : List ℕ) → IsStoredStatement s → take 12 bytes ≡ statement_bytes s → first_statement bytes ≡ s
statement_there s bytes fits e =
    let whole : bytes ≡ statement_bytes s ++ drop 12 bytes = sym (take-append-drop 12 bytes) ∙ ap (λ (front : List ℕ). front ++ drop 12 bytes) e in
    ap first_statement whole ∙ statement_again s (drop 12 bytes) fits

pub statements_length : (ss : List Statement) → length (flat_map statement_bytes ss) ≡ 12 * length ss
statements_length [] = refl
statements_length (s ∷ ss) = omega (arith, length-append (statement_bytes s) (flat_map statement_bytes ss), statement_length s, statements_length ss)

pub statements_again : (ss : List Statement) (rest : List ℕ) → AllByRecursion IsStoredStatement ss → statements_in (length ss) (flat_map statement_bytes ss ++ rest) ≡ ss
statements_again [] rest fits = refl
statements_again (s ∷ ss) rest fits =
    let regrouped : flat_map statement_bytes (s ∷ ss) ++ rest ≡ statement_bytes s ++ (flat_map statement_bytes ss ++ rest) = append_assoc (statement_bytes s) (flat_map statement_bytes ss) rest in
    ap (statements_in (suc (length ss))) regrouped
    ∙ rw (statement_again s (flat_map statement_bytes ss ++ rest) fits.0, drop_at (statement_bytes s) (flat_map statement_bytes ss ++ rest) 12 (statement_length s), statements_again ss rest fits.1) refl

-- a body of statements, all of it
pub body_again : (ss : List Statement) → AllByRecursion IsStoredStatement ss → statements_in (length (flat_map statement_bytes ss) / 12) (flat_map statement_bytes ss) ≡ ss
body_again ss fits =
    let twelve : 12 * length ss / 12 ≡ length ss = omega arith in
    let count : length (flat_map statement_bytes ss) / 12 ≡ length ss = ap (λ (n : ℕ). n / 12) (statements_length ss) ∙ twelve in
    ap (λ (n : ℕ). statements_in n (flat_map statement_bytes ss)) count
    ∙ ap (statements_in (length ss)) (sym (append-nil (flat_map statement_bytes ss)))
    ∙ statements_again ss [] fits

-- directory entries

pub entry_length : (kind number count temp offset : ℕ) → length (entry kind number count temp offset) ≡ 16
unfolding entry
entry_length kind number count temp offset = refl

pub entry_kind : (kind number count temp offset : ℕ) (rest : List ℕ) → get_or (entry kind number count temp offset ++ rest) 0 0 ≡ kind
unfolding entry
entry_kind kind number count temp offset rest = refl

pub entry_number : (kind number count temp offset : ℕ) (rest : List ℕ) → number < 2 ^ 8 → get_or (entry kind number count temp offset ++ rest) 3 0 ≡ number
unfolding entry
entry_number kind number count temp offset rest lt =
    let low : number % 256 ≡ number = omega arith in low

pub entry_count : (kind number count temp offset : ℕ) (rest : List ℕ) → count < 2 ^ 32 → double_word_at (entry kind number count temp offset ++ rest) 4 ≡ count
unfolding entry
entry_count kind number count temp offset rest lt = from_be_bytes-to_be_bytes_4 count lt

pub entry_temp : (kind number count temp offset : ℕ) (rest : List ℕ) → temp < 2 ^ 16 → word_at (entry kind number count temp offset ++ rest) 8 ≡ temp
unfolding entry
entry_temp kind number count temp offset rest lt = from_be_bytes-to_be_bytes_2 temp lt

-- the header

pub header_length : (blocks whole : ℕ) → length (header blocks whole) ≡ 16
unfolding header
header_length blocks whole = refl

pub header_blocks : (blocks whole : ℕ) (rest : List ℕ) → blocks < 2 ^ 16 → word_at (header blocks whole ++ rest) 4 ≡ blocks
unfolding header
header_blocks blocks whole rest lt = from_be_bytes-to_be_bytes_2 blocks lt

-- kinds

pub kind_again : (kind : CodeKind) → code_kind (kind_place kind) ≡ Some kind
kind_again Ob = refl
kind_again Fb = refl
kind_again Fc = refl

pub kind_is_code : (kind : CodeKind) → ltb (kind_place kind) 3 ≡ true
kind_is_code Ob = refl
kind_is_code Fb = refl
kind_is_code Fc = refl
