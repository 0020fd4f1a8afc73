-- How long the texts are.
use Rattle.std.proofs.Common.{◌≡◌, ℕ, zero, suc, ◌+◌, ◌*◌, ◌-◌, ◌/◌, ◌%◌, ◌≤◌, ◌<◌, Bool, true, false, List, [], ◌∷◌, ◌++◌, length, length-append, arith, refl, ◌∙◌, ap, codes}
use Rattle.std.specs.Prelude.{◌==◌, if◌then◌else◌}
use Rattle.std.specs.List.{flat_map, range_with_len}
use Rattle.std.specs.Fmt.{decimal}
use Rattle.std.proofs.lemmas.Fmt.{length-decimal-le, hex_one_digit}
use Rattle.load_maker.specs.Lines.{ended, text_of, hex_byte}
use Rattle.load_maker.specs.Source.{organization_block_lines, function_lines, all_function_lines, source_text}
use Rattle.load_maker.specs.Script.{module_lines, input_lines, alarm_lines, loss_lines, hundred_lines, all_moment_lines, end_lines, script_text}
use Rattle.load_maker.proofs.Texts.{text_of_both}

-- the bytes of the text of lines
abbrev pub size : List (List ℕ) → ℕ
size lines = length (text_of lines)

size_both : (xs ys : List (List ℕ)) → size (xs ++ ys) ≡ size xs + size ys
size_both xs ys = ap length (text_of_both xs ys) ∙ length-append (text_of xs) (text_of ys)

size_line : (line : List ℕ) (lines : List (List ℕ)) → size (line ∷ lines) ≡ length line + 1 + size lines
size_line line lines =
    length-append (ended line) (text_of lines) ∙ ap (λ (k : ℕ). k + size lines) (length-append line (codes "\n"))

-- a number in a line
numbered : (front : List ℕ) (m : ℕ) (back : List ℕ) → length (front ++ (decimal m ++ back)) ≡ length front + (length (decimal m) + length back)
numbered front m back = length-append front (decimal m ++ back) ∙ ap (λ (k : ℕ). length front + k) (length-append (decimal m) back)

six_digits : (m : ℕ) → m < 1000000 → length (decimal m) ≤ 6
six_digits m few = length-decimal-le 6 m (omega arith) few (omega arith)

two_digits : (b : ℕ) → b < 256 → length (hex_byte b) ≡ 2
two_digits b few = rw (hex_one_digit true (b / 16) (omega arith), hex_one_digit true (b % 16) (omega arith)) refl

some_lines : (t : Bool) (lines : List (List ℕ)) (most : ℕ) → size lines ≤ most → size (if t then lines else []) ≤ most
some_lines true lines most few = few
some_lines false lines most few = omega arith

-- the lines of each number have at most 100 bytes
size_all : (lines : ℕ → List (List ℕ)) → ((i : ℕ) → i < 1000 → size (lines i) ≤ 100) → (i count : ℕ) → i + count ≤ 1000
    → size (flat_map lines (range_with_len i count)) ≤ 100 * count
size_all lines each i zero within = omega arith
size_all lines each i (suc count) within =
    omega (arith, size_both (lines i) (flat_map lines (range_with_len (i + 1) count)), each i (omega arith), size_all lines each (i + 1) count (omega arith))

-- the source

function_size : (i : ℕ) → i < 1000 → size (function_lines i) ≤ 100
function_size i few =
    let head = codes "FUNCTION FC " ++ (decimal i ++ codes " : VOID") in
    let load = codes "L " ++ (decimal i ++ codes ";") in
    let end = codes "END_FUNCTION" in
    omega (
      arith,
      six_digits i (omega arith),
      numbered (codes "FUNCTION FC ") i (codes " : VOID"),
      numbered (codes "L ") i (codes ";"),
      size_line head (codes "BEGIN" ∷ load ∷ end ∷ []),
      size_line (codes "BEGIN") (load ∷ end ∷ []),
      size_line load (end ∷ []),
      size_line end [],
    )

pub source_size : (n : ℕ) → n ≤ 100000 → length (source_text n) ≤ 1048576
source_size n few =
    let blocks : size organization_block_lines ≡ 173 = refl in
    omega (arith, blocks, size_both organization_block_lines (all_function_lines n), size_all function_lines function_size 1 (n / 1000) (omega arith))

-- the script

input_size : (m : ℕ) → m < 1000000 → size (input_lines m) ≤ 30
input_size m few =
    let value = hex_byte (m / 100 % 256) in
    let back = codes " INPUT 0 " ++ value in
    omega (
      arith,
      six_digits m few,
      two_digits (m / 100 % 256) (omega arith),
      length-append (codes " INPUT 0 ") value,
      numbered (codes "AT ") m back,
      size_line (codes "AT " ++ (decimal m ++ back)) [],
    )

alarm_size : (m : ℕ) → m < 100000 → size (alarm_lines m) ≤ 40
alarm_size m few =
    let number = hex_byte (m / 1000) in
    let back = codes " ALARM 40 000000" ++ number in
    let line = codes "AT " ++ (decimal m ++ back) in
    some_lines (m % 1000 == 0) (line ∷ []) 40
    (omega (arith, six_digits m (omega arith), two_digits (m / 1000) (omega arith), length-append (codes " ALARM 40 000000") number, numbered (codes "AT ") m back, size_line line []))

loss_size : (n m : ℕ) → m < 1000000 → size (loss_lines n m) ≤ 30
loss_size n m few =
    let back = codes " FAIL B" in
    let line = codes "AT " ++ (decimal m ++ back) in
    some_lines (m == 100 * (n / 200)) (line ∷ []) 30 (omega (arith, six_digits m few, numbered (codes "AT ") m back, size_line line []))

hundred_size : (n k : ℕ) → k < 1000 → size (hundred_lines n k) ≤ 100
hundred_size n k few =
    let m = 100 * k in
    let low : m < 100000 = omega arith in
    omega (
      arith,
      size_both (input_lines m) (alarm_lines m ++ loss_lines n m),
      size_both (alarm_lines m) (loss_lines n m),
      input_size m (omega arith),
      alarm_size m low,
      loss_size n m (omega arith),
    )

end_size : (n : ℕ) → n < 1000000 → size (end_lines n) ≤ 30
end_size n few =
    omega (arith, six_digits n few, length-append (codes "END ") (decimal n), size_line (codes "END " ++ decimal n) [])

pub script_size : (n : ℕ) → n ≤ 100000 → length (script_text n) ≤ 1048576
script_size n few =
    let modules : size module_lines ≡ 47 = refl in
    omega (
      arith,
      modules,
      size_both module_lines (all_moment_lines n ++ end_lines n),
      size_both (all_moment_lines n) (end_lines n),
      size_all (hundred_lines n) (hundred_size n) 1 ((n - 1) / 100) (omega arith),
      end_size n (omega arith),
    )
