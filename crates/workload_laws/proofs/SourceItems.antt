-- A made source as the tokens, the blanks and the line ends that it is made of.
use Rattle.std.proofs.Common.{◌≡◌, ◌<◌, ◌≤◌, ◌+◌, ◌/◌, ℕ, zero, suc, List, [], ◌∷◌, ◌++◌, length, append_assoc, append-nil, refl, ap, sym, subst, ◌∙◌, true, false, arith, codes}
use Rattle.std.specs.Prelude.{Ok}
use Rattle.std.specs.List.{flat_map, range_with_len}
use Rattle.std.specs.Fmt.{decimal}
use Rattle.std.proofs.lemmas.List.Concat.{flat_map-append}
use Rattle.std.proofs.lemmas.Fmt.{decimal_digit, decimal_step}
use Rattle.stl_lex.specs.declared.piece.TokenKind.TheVariants as kinds
use Rattle.stl_lex.specs.declared.place.Place.{Place}
use Rattle.stl_lex.specs.declared.token.Token.{Token}
use Rattle.stl_lex.specs.Bytes.{begins}
use Rattle.stl_lex.specs.Place.{start}
use Rattle.stl_lex.specs.Pieces.{cut}
use Rattle.stl_lex.specs.Tokens.{tokens_of, text_tokens}
use Rattle.load_maker.specs.Lines.{ended, text_of}
use Rattle.load_maker.specs.Source.{main_lines, alarm_ob_lines, function_lines, all_function_lines, source_text}
use Rattle.workload_laws.proofs.Cut.{Item, part, space, written, past_all, laid, IsCut, AreCut, all_read, IsEnd, blank_ends, line_ends, semicolon_ends, is_word_run, word_cut, blank_cut, line_cut, semicolon_cut, colon_cut, plus_cut}
use Rattle.workload_laws.proofs.Numerals.{decimal_cut}

abbrev pub word : List ℕ → Item
word w = part kinds.Word w

-- a number by its digits
abbrev pub figure : List ℕ → Item
figure ds = part kinds.Number ds

abbrev pub semicolon : Item
semicolon = part kinds.Sign (codes ";")

abbrev pub colon : Item
colon = part kinds.Sign (codes ":")

abbrev pub plus : Item
plus = part kinds.Sign (codes "+")

-- ---- the lines

-- a block's first line
abbrev pub head_line : List ℕ → List ℕ → List ℕ → List Item
head_line first short ds = word first ∷ space 32 ∷ word short ∷ space 32 ∷ figure ds ∷ space 10 ∷ []

abbrev pub function_line : List ℕ → List Item
function_line ds = word (codes "FUNCTION") ∷ space 32 ∷ word (codes "FC") ∷ space 32 ∷ figure ds ∷ space 32 ∷ colon ∷ space 32 ∷ word (codes "VOID") ∷ space 10 ∷ []

-- BEGIN, or the word that ends a block
abbrev pub word_line : List ℕ → List Item
word_line w = word w ∷ space 10 ∷ []

-- a mnemonic and an address
abbrev pub address_line : List ℕ → List ℕ → List ℕ → List Item
address_line mnemonic w ds = word mnemonic ∷ space 32 ∷ word w ∷ space 32 ∷ figure ds ∷ semicolon ∷ space 10 ∷ []

abbrev pub load_line : List ℕ → List Item
load_line ds = word (codes "L") ∷ space 32 ∷ figure ds ∷ semicolon ∷ space 10 ∷ []

abbrev pub sum_line : List Item
sum_line = plus ∷ word (codes "I") ∷ semicolon ∷ space 10 ∷ []

-- a word of memory is counted up, and the block ends
abbrev pub stored_items : List ℕ → List Item
stored_items ds = address_line (codes "T") (codes "MW") ds ++ word_line (codes "END_ORGANIZATION_BLOCK")

abbrev pub counted_items : List ℕ → List Item
counted_items ds = address_line (codes "L") (codes "MW") ds ++ (load_line (codes "1") ++ (sum_line ++ stored_items ds))

abbrev pub copied_items : List Item
copied_items = address_line (codes "L") (codes "IB") (codes "0") ++ (address_line (codes "T") (codes "QB") (codes "0") ++ counted_items (codes "0"))

abbrev pub main_items : List Item
main_items = head_line (codes "ORGANIZATION_BLOCK") (codes "OB") (codes "1") ++ (word_line (codes "BEGIN") ++ copied_items)

abbrev pub alarm_items : List Item
alarm_items = head_line (codes "ORGANIZATION_BLOCK") (codes "OB") (codes "40") ++ (word_line (codes "BEGIN") ++ counted_items (codes "2"))

abbrev pub function_items : ℕ → List Item
function_items i = function_line (decimal i) ++ (word_line (codes "BEGIN") ++ (load_line (decimal i) ++ word_line (codes "END_FUNCTION")))

abbrev pub functions_items : ℕ → ℕ → List Item
functions_items i count = flat_map function_items (range_with_len i count)

abbrev pub source_items : ℕ → List Item
source_items n = main_items ++ (alarm_items ++ functions_items 1 (n / 1000))

-- ---- they are what is written

pub written_both : (xs ys : List Item) → written (xs ++ ys) ≡ written xs ++ written ys
written_both [] ys = refl
written_both (part kind w ∷ xs) ys = ap (λ (l : List ℕ). w ++ l) (written_both xs ys) ∙ sym (append_assoc w (written xs) (written ys))
written_both (space b ∷ xs) ys = ap (λ (l : List ℕ). b ∷ l) (written_both xs ys)

pub function_written : (i : ℕ) → written (function_items i) ≡ text_of (function_lines i)
function_written i = simp append_assoc

functions_written : (i count : ℕ) → written (functions_items i count) ≡ text_of (flat_map function_lines (range_with_len i count))
functions_written i zero = refl
functions_written i (suc count) =
    written_both (function_items i) (functions_items (i + 1) count)
    ∙ ap (λ (l : List ℕ). l ++ written (functions_items (i + 1) count)) (function_written i)
    ∙ ap (λ (l : List ℕ). text_of (function_lines i) ++ l) (functions_written (i + 1) count)
    ∙ sym (flat_map-append ended (function_lines i) (flat_map function_lines (range_with_len (i + 1) count)))

main_written : written main_items ≡ text_of main_lines
main_written = refl

alarm_written : written alarm_items ≡ text_of alarm_ob_lines
alarm_written = refl

pub source_written : (n : ℕ) → written (source_items n) ≡ source_text n
source_written n =
    written_both main_items (alarm_items ++ functions_items 1 (n / 1000))
    ∙ ap (λ (l : List ℕ). written main_items ++ l) (written_both alarm_items (functions_items 1 (n / 1000)))
    ∙ ap (λ (l : List ℕ). written main_items ++ (written alarm_items ++ l)) (functions_written 1 (n / 1000))
    ∙ sources (all_function_lines n)
  where
    sources : (fs : List (List ℕ)) → written main_items ++ (written alarm_items ++ text_of fs) ≡ text_of ((main_lines ++ alarm_ob_lines) ++ fs)
    sources fs = refl

-- ---- they are the pieces of the text

-- the word, before a byte that ends it, is one, and begins no title
record IsName (w : List ℕ) (c : ℕ) : Type 0 where
  some : 0 < length w
  run : is_word_run w ≡ true
  title : (ys : List ℕ) → begins (codes "TITLE") (w ++ c ∷ ys) ≡ false

name_cut : (w : List ℕ) (c : ℕ) (ys : List ℕ) → IsEnd c → IsName w c → IsCut (word w) (c ∷ ys)
name_cut [] c ys ends is = let some = is.some in absurd (omega arith)
name_cut (a ∷ w) c ys ends is = word_cut a w c ys ends is.run (is.title ys)

-- digits that are a number
record IsFigure (ds : List ℕ) : Type 0 where
  cuts : (c : ℕ) (ys : List ℕ) → IsEnd c → IsCut (figure ds) (c ∷ ys)

decimal_figure : (n : ℕ) → n ≤ 65535 → IsFigure (decimal n)
decimal_figure n few = record { cuts = λ c ys ends. decimal_cut n c ys few ends }

digit_figure : (n : ℕ) → n < 10 → IsFigure ((48 + n) ∷ [])
digit_figure n small = subst (λ (ds : List ℕ). IsFigure ds) (decimal_digit n (omega arith)) (decimal_figure n (omega arith))

forty_digits : decimal 40 ≡ codes "40"
forty_digits = decimal_step 40 (omega arith) (omega arith) ∙ ap (λ (ds : List ℕ). ds ++ 48 ∷ []) (decimal_digit 4 (omega arith))

forty_figure : IsFigure (codes "40")
forty_figure = subst (λ (ds : List ℕ). IsFigure ds) forty_digits (decimal_figure 40 (omega arith))

cut_both : (xs ys : List Item) (rest : List ℕ) → AreCut xs (written ys ++ rest) → AreCut ys rest → AreCut (xs ++ ys) rest
cut_both [] ys rest a b = b
cut_both (x ∷ xs) ys rest a b =
    let same : written (xs ++ ys) ++ rest ≡ written xs ++ (written ys ++ rest) = ap (λ (l : List ℕ). l ++ rest) (written_both xs ys) ∙ append_assoc (written xs) (written ys) rest in
    (subst (λ (l : List ℕ). IsCut x l) (sym same) a.0, cut_both xs ys rest a.1 b)

word_line_cut : (w rest : List ℕ) → IsName w 10 → AreCut (word_line w) rest
word_line_cut w rest name = (name_cut w 10 rest line_ends name, (line_cut rest, tt))

head_line_cut : (first short ds rest : List ℕ) → IsName first 32 → IsName short 32 → IsFigure ds → AreCut (head_line first short ds) rest
head_line_cut first short ds rest one two number =
    let behind_two = written (figure ds ∷ space 10 ∷ []) ++ rest in
    let behind_one = written (word short ∷ space 32 ∷ figure ds ∷ space 10 ∷ []) ++ rest in
    (name_cut first 32 behind_one blank_ends one, (blank_cut behind_one, (name_cut short 32 behind_two blank_ends two, (blank_cut behind_two, (number.cuts 10 rest line_ends, (line_cut rest, tt))))))

function_line_cut : (ds rest : List ℕ) → IsFigure ds → AreCut (function_line ds) rest
function_line_cut ds rest number =
    let void = written (word (codes "VOID") ∷ space 10 ∷ []) ++ rest in
    let behind_number = written (colon ∷ space 32 ∷ word (codes "VOID") ∷ space 10 ∷ []) ++ rest in
    let behind_two = written (figure ds ∷ space 32 ∷ colon ∷ space 32 ∷ word (codes "VOID") ∷ space 10 ∷ []) ++ rest in
    let behind_one = written (word (codes "FC") ∷ space 32 ∷ figure ds ∷ space 32 ∷ colon ∷ space 32 ∷ word (codes "VOID") ∷ space 10 ∷ []) ++ rest in (
      name_cut (codes "FUNCTION") 32 behind_one blank_ends (record { some = omega arith; run = refl; title = λ ys. refl }),
      (
        blank_cut behind_one,
        (
          name_cut (codes "FC") 32 behind_two blank_ends (record { some = omega arith; run = refl; title = λ ys. refl }),
          (
            blank_cut behind_two,
            (
              number.cuts 32 behind_number blank_ends,
              (
                blank_cut behind_number,
                (
                  colon_cut void,
                  (
                    blank_cut void,
                    (
                      name_cut (codes "VOID") 10 rest line_ends (record { some = omega arith; run = refl; title = λ ys. refl }),
                      (line_cut rest, tt),
                    ),
                  ),
                ),
              ),
            ),
          ),
        ),
      ),
    )

address_line_cut : (mnemonic w ds rest : List ℕ) → IsName mnemonic 32 → IsName w 32 → IsFigure ds → AreCut (address_line mnemonic w ds) rest
address_line_cut mnemonic w ds rest one two number =
    let behind_two = written (figure ds ∷ semicolon ∷ space 10 ∷ []) ++ rest in
    let behind_one = written (word w ∷ space 32 ∷ figure ds ∷ semicolon ∷ space 10 ∷ []) ++ rest in
    (name_cut mnemonic 32 behind_one blank_ends one, (blank_cut behind_one, (name_cut w 32 behind_two blank_ends two, (blank_cut behind_two, (number.cuts 59 (10 ∷ rest) semicolon_ends, (semicolon_cut rest, (line_cut rest, tt)))))))

load_line_cut : (ds rest : List ℕ) → IsFigure ds → AreCut (load_line ds) rest
load_line_cut ds rest number =
    let behind_one = written (figure ds ∷ semicolon ∷ space 10 ∷ []) ++ rest in
    (name_cut (codes "L") 32 behind_one blank_ends (record { some = omega arith; run = refl; title = λ ys. refl }), (blank_cut behind_one, (number.cuts 59 (10 ∷ rest) semicolon_ends, (semicolon_cut rest, (line_cut rest, tt)))))

sum_line_cut : (rest : List ℕ) → AreCut sum_line rest
sum_line_cut rest =
    (plus_cut (59 ∷ 10 ∷ rest), (name_cut (codes "I") 59 (10 ∷ rest) semicolon_ends (record { some = omega arith; run = refl; title = λ ys. refl }), (semicolon_cut rest, (line_cut rest, tt))))

begin_cut : (rest : List ℕ) → AreCut (word_line (codes "BEGIN")) rest
begin_cut rest = word_line_cut (codes "BEGIN") rest (record { some = omega arith; run = refl; title = λ ys. refl })

ob_end_cut : (rest : List ℕ) → AreCut (word_line (codes "END_ORGANIZATION_BLOCK")) rest
ob_end_cut rest = word_line_cut (codes "END_ORGANIZATION_BLOCK") rest (record { some = omega arith; run = refl; title = λ ys. refl })

ob_head_cut : (ds rest : List ℕ) → IsFigure ds → AreCut (head_line (codes "ORGANIZATION_BLOCK") (codes "OB") ds) rest
ob_head_cut ds rest number =
    head_line_cut (codes "ORGANIZATION_BLOCK") (codes "OB") ds rest (record { some = omega arith; run = refl; title = λ ys. refl }) (record { some = omega arith; run = refl; title = λ ys. refl }) number

load_name : IsName (codes "L") 32
load_name = record { some = omega arith; run = refl; title = λ ys. refl }

transfer_name : IsName (codes "T") 32
transfer_name = record { some = omega arith; run = refl; title = λ ys. refl }

memory_name : IsName (codes "MW") 32
memory_name = record { some = omega arith; run = refl; title = λ ys. refl }

-- what follows the first items of a list is what follows the others
then_cut : (xs ys : List Item) (rest : List ℕ) → ((behind : List ℕ) → AreCut xs behind) → AreCut ys rest → AreCut (xs ++ ys) rest
then_cut xs ys rest a b = cut_both xs ys rest (a (written ys ++ rest)) b

counted_cut : (ds rest : List ℕ) → IsFigure ds → AreCut (counted_items ds) rest
counted_cut ds rest number =
    let store = then_cut (address_line (codes "T") (codes "MW") ds) (word_line (codes "END_ORGANIZATION_BLOCK")) rest (λ b. address_line_cut (codes "T") (codes "MW") ds b transfer_name memory_name number) (ob_end_cut rest) in
    let sum = then_cut sum_line (stored_items ds) rest sum_line_cut store in
    let one = then_cut (load_line (codes "1")) (sum_line ++ stored_items ds) rest (λ b. load_line_cut (codes "1") b (digit_figure 1 (omega arith))) sum in
    then_cut (address_line (codes "L") (codes "MW") ds) (load_line (codes "1") ++ (sum_line ++ stored_items ds)) rest (λ b. address_line_cut (codes "L") (codes "MW") ds b load_name memory_name number) one

zero_figure : IsFigure (codes "0")
zero_figure = digit_figure 0 (omega arith)

copied_cut : (rest : List ℕ) → AreCut copied_items rest
copied_cut rest =
    let output = then_cut (address_line (codes "T") (codes "QB") (codes "0")) (counted_items (codes "0")) rest
    (λ b. address_line_cut (codes "T") (codes "QB") (codes "0") b transfer_name (record { some = omega arith; run = refl; title = λ ys. refl }) zero_figure) (counted_cut (codes "0") rest zero_figure) in
    then_cut (address_line (codes "L") (codes "IB") (codes "0")) (address_line (codes "T") (codes "QB") (codes "0") ++ counted_items (codes "0")) rest
    (λ b. address_line_cut (codes "L") (codes "IB") (codes "0") b load_name (record { some = omega arith; run = refl; title = λ ys. refl }) zero_figure) output

main_cut : (rest : List ℕ) → AreCut main_items rest
main_cut rest =
    then_cut (head_line (codes "ORGANIZATION_BLOCK") (codes "OB") (codes "1")) (word_line (codes "BEGIN") ++ copied_items) rest (λ b. ob_head_cut (codes "1") b (digit_figure 1 (omega arith)))
    (then_cut (word_line (codes "BEGIN")) copied_items rest begin_cut (copied_cut rest))

alarm_cut : (rest : List ℕ) → AreCut alarm_items rest
alarm_cut rest =
    then_cut (head_line (codes "ORGANIZATION_BLOCK") (codes "OB") (codes "40")) (word_line (codes "BEGIN") ++ counted_items (codes "2")) rest (λ b. ob_head_cut (codes "40") b forty_figure)
    (then_cut (word_line (codes "BEGIN")) (counted_items (codes "2")) rest begin_cut (counted_cut (codes "2") rest (digit_figure 2 (omega arith))))

function_cut : (i : ℕ) (rest : List ℕ) → i ≤ 65535 → AreCut (function_items i) rest
function_cut i rest few =
    let number = decimal_figure i few in
    let end = word_line_cut (codes "END_FUNCTION") rest (record { some = omega arith; run = refl; title = λ ys. refl }) in
    let load = then_cut (load_line (decimal i)) (word_line (codes "END_FUNCTION")) rest (λ b. load_line_cut (decimal i) b number) end in
    let begin = then_cut (word_line (codes "BEGIN")) (load_line (decimal i) ++ word_line (codes "END_FUNCTION")) rest begin_cut load in
    then_cut (function_line (decimal i)) (word_line (codes "BEGIN") ++ (load_line (decimal i) ++ word_line (codes "END_FUNCTION"))) rest (λ b. function_line_cut (decimal i) b number) begin

functions_cut : (i count : ℕ) (rest : List ℕ) → i + count ≤ 65536 → AreCut (functions_items i count) rest
functions_cut i zero rest few = tt
functions_cut i (suc count) rest few =
    then_cut (function_items i) (functions_items (i + 1) count) rest (λ b. function_cut i b (omega arith)) (functions_cut (i + 1) count rest (omega arith))

source_cut : (n : ℕ) → n ≤ 100000 → AreCut (source_items n) []
source_cut n few =
    then_cut main_items (alarm_items ++ functions_items 1 (n / 1000)) [] main_cut
    (then_cut alarm_items (functions_items 1 (n / 1000)) [] alarm_cut (functions_cut 1 (n / 1000) [] (omega arith)))

nothing_left : (p : Place) → tokens_of (cut 0 p []) ≡ Ok []
unfolding cut tokens_of
nothing_left p = refl

-- the tokens of a made source
pub source_tokens : (n : ℕ) → n ≤ 100000 → text_tokens (source_text n) ≡ Ok (laid start (source_items n))
source_tokens n few =
    let items = source_items n in
    ap (λ (text : List ℕ). text_tokens text) (sym (source_written n) ∙ sym (append-nil (written items)))
    ∙ all_read start items [] [] (source_cut n few) (nothing_left (past_all start items))
    ∙ ap (λ (ts : List Token). Ok ts) (append-nil (laid start items))
