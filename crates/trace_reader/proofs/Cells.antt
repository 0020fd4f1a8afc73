-- An image, cell by cell.
use Rattle.std.proofs.Common.{◌≡◌, ℕ, suc, ◌+◌, ◌-◌, ◌≤◌, ◌<◌, Bool, true, false, eqb, List, [], ◌∷◌, ◌++◌, length, length-take, length-set, take, Option, Some, cond, refl, sym, subst, ◌∙◌, ap, arith, append_assoc}
use Rattle.std.specs.Prelude.{◌&&◌, codes, slice_set}
use Rattle.std.proofs.lemmas.List.{append-nil, take_more_set, take_all}
use Rattle.std.proofs.lemmas.Bool.{and_parts}
use Rattle.std.specs.Option.{option_map}
use Rattle.trace_reader.specs.Fields.{after}
use Rattle.trace_reader.specs.Ranges.{AreBytes}
use Rattle.trace_reader.specs.Images.{cell_text, cells_text, is_dark, image, byte_of, cells_from, lit_or_dash, image_at}

and_true : (a : Bool) → (a && true) ≡ a
and_true true = refl
and_true false = refl

and_assoc : (a b c : Bool) → ((a && b) && c) ≡ (a && (b && c))
and_assoc true b c = refl
and_assoc false b c = refl

-- one byte more
pub cells_more : (first : Bool) (at : ℕ) (xs : List ℕ) (b : ℕ) → cells_text first at (xs ++ b ∷ []) ≡ cells_text first at xs ++ cell_text (first && is_dark xs) (at + length xs) b
cells_more first at [] b =
    let here : at + 0 ≡ at = omega arith in
    append-nil (cell_text first at b) ∙ ap (λ (f : Bool). cell_text f at b) (sym (and_true first)) ∙ ap (λ (k : ℕ). cell_text (first && true) k b) (sym here)
cells_more first at (x ∷ xs) b =
    let place : at + 1 + length xs ≡ at + suc (length xs) = omega arith in
    let later = cells_more (first && eqb x 0) (at + 1) xs b in
    let rest = cells_text (first && eqb x 0) (at + 1) xs in
    let joined : cell_text ((first && eqb x 0) && is_dark xs) (at + 1 + length xs) b ≡ cell_text (first && (eqb x 0 && is_dark xs)) (at + suc (length xs)) b =
    ap (λ (f : Bool). cell_text f (at + 1 + length xs) b) (and_assoc first (eqb x 0) (is_dark xs)) ∙ ap (λ (k : ℕ). cell_text (first && (eqb x 0 && is_dark xs)) k b) place in
    ap (λ (ys : List ℕ). cell_text first at x ++ ys) (later ∙ ap (λ (ys : List ℕ). rest ++ ys) joined)
    ∙ sym (append_assoc (cell_text first at x) rest (cell_text (first && (eqb x 0 && is_dark xs)) (at + suc (length xs)) b))

pub dark_more : (xs : List ℕ) (b : ℕ) → is_dark (xs ++ b ∷ []) ≡ (is_dark xs && eqb b 0)
dark_more [] b = and_true (eqb b 0)
dark_more (x ∷ xs) b = ap (λ (t : Bool). eqb x 0 && t) (dark_more xs b) ∙ sym (and_assoc (eqb x 0) (is_dark xs) (eqb b 0))

pub dark_cells : (first : Bool) (at : ℕ) (xs : List ℕ) → is_dark xs ≡ true → cells_text first at xs ≡ []
dark_cells first at [] dark = refl
dark_cells first at (x ∷ xs) dark =
    let parts = and_parts (eqb x 0) (is_dark xs) dark in
    let here : cell_text first at x ≡ [] = rw parts.0 refl in
    let later : cells_text (first && eqb x 0) (at + 1) xs ≡ [] = dark_cells (first && eqb x 0) (at + 1) xs parts.1 in
    rw here later

length_before : (bytes : List ℕ) (at : ℕ) → at < length bytes → length (take at bytes) ≡ at
length_before bytes at below = grind (arith, length-take)

-- a byte that was read goes on with what was read
pub more_read : (text bytes rest next : List ℕ) (at byte : ℕ) (first : Bool) → at < length bytes
    → text ≡ cells_text true 0 (take at bytes) ++ rest → first ≡ is_dark (take at bytes) → rest ≡ cell_text first at byte ++ next
    → text ≡ cells_text true 0 (take (at + 1) (slice_set bytes at byte)) ++ next
more_read text bytes rest next at byte first below whole is here =
    let front = take at bytes in
    let more : cells_text true 0 (front ++ byte ∷ []) ≡ cells_text true 0 front ++ cell_text first at byte =
    cells_more true 0 front byte ∙ ap (λ (f : Bool). cells_text true 0 front ++ cell_text f (0 + length front) byte) (sym is) ∙ ap (λ (k : ℕ). cells_text true 0 front ++ cell_text first k byte) (let n = length_before bytes at below in omega (arith, n)) in
    whole ∙ ap (λ (r : List ℕ). cells_text true 0 front ++ r) here ∙ sym (append_assoc (cells_text true 0 front) (cell_text first at byte) next)
    ∙ ap (λ (t : List ℕ). t ++ next) (sym more) ∙ ap (λ (l : List ℕ). cells_text true 0 l ++ next) (sym (take_more_set bytes at byte below))

pub first_more : (bytes : List ℕ) (at byte : ℕ) (first : Bool) → at < length bytes → first ≡ is_dark (take at bytes) → (first && eqb byte 0) ≡ is_dark (take (at + 1) (slice_set bytes at byte))
first_more bytes at byte first below is =
    ap (λ (f : Bool). f && eqb byte 0) is ∙ sym (dark_more (take at bytes) byte) ∙ ap is_dark (sym (take_more_set bytes at byte below))

each_byte : (xs : List ℕ) (b : ℕ) → AreBytes xs → b < 256 → AreBytes (xs ++ b ∷ [])
each_byte [] b fit last = (last, tt)
each_byte (x ∷ xs) b fit last = (fit.0, each_byte xs b fit.1 last)

pub bytes_more : (bytes : List ℕ) (at byte : ℕ) → at < length bytes → AreBytes (take at bytes) → byte < 256 → AreBytes (take (at + 1) (slice_set bytes at byte))
bytes_more bytes at byte below fit last = subst AreBytes (sym (take_more_set bytes at byte below)) (each_byte (take at bytes) byte fit last)

pub bytes_all : (bytes : List ℕ) (at : ℕ) → length bytes ≤ at → AreBytes (take at bytes) → AreBytes bytes
bytes_all bytes at all fit = subst AreBytes (take_all at bytes all) fit

-- a dash where no byte was read
pub dark_image : (text bytes rest left : List ℕ) (at : ℕ) → length bytes ≤ at → text ≡ cells_text true 0 (take at bytes) ++ rest
    → (first : Bool) → first ≡ is_dark (take at bytes) → first ≡ true → rest ≡ codes "-" ++ left → text ≡ image bytes ++ left
dark_image text bytes rest left at all whole first is lit here =
    let full : take at bytes ≡ bytes = take_all at bytes all in
    let dark : is_dark bytes ≡ true = ap is_dark (sym full) ∙ sym is ∙ lit in
    let none : cells_text true 0 (take at bytes) ≡ [] = ap (cells_text true 0) full ∙ dark_cells true 0 bytes dark in
    whole ∙ ap (λ (t : List ℕ). t ++ rest) none ∙ here ∙ ap (λ (t : Bool). cond t (codes "-") (cells_text true 0 bytes) ++ left) (sym dark)

-- the bytes read so far, in front of those that are read from here on
abbrev pub with_bytes : List ℕ → List ℕ × List ℕ → List ℕ × List ℕ
with_bytes front cells = (front ++ cells.0, cells.1)

one_more : (first : Bool) (at count byte : ℕ) (rest next front : List ℕ) → (byte, next) ≡ byte_of first at rest → with_bytes front (cells_from first at (suc count) rest) ≡ with_bytes (front ++ byte ∷ []) (cells_from (first && eqb byte 0) (at + 1) count next)
unfolding cells_from
one_more first at count byte rest next front is =
    let later = cells_from (first && eqb byte 0) (at + 1) count next in
    rw (sym is) (ap (λ (xs : List ℕ). (xs, later.1)) (sym (append_assoc front (byte ∷ []) later.0)))

-- the reading goes on after the byte that was read
pub cells_go_on : (text bytes rest next : List ℕ) (at byte : ℕ) (first : Bool) → at < length bytes → (byte, next) ≡ byte_of first at rest
    → with_bytes (take at bytes) (cells_from first at (length bytes - at) rest) ≡ cells_from true 0 (length bytes) text
    → with_bytes (take (at + 1) (slice_set bytes at byte)) (cells_from (first && eqb byte 0) (at + 1) (length (slice_set bytes at byte) - (at + 1)) next) ≡ cells_from true 0 (length (slice_set bytes at byte)) text
cells_go_on text bytes rest next at byte first below is before =
    let count = length bytes - (at + 1) in
    let turn : length bytes - at ≡ suc count = omega (arith, below) in
    let same : length (slice_set bytes at byte) ≡ length bytes = length-set bytes at byte in
    rw same (
    ap (λ (front : List ℕ). with_bytes front (cells_from (first && eqb byte 0) (at + 1) count next)) (take_more_set bytes at byte below)
    ∙ sym (one_more first at count byte rest next (take at bytes) is)
    ∙ ap (λ (n : ℕ). with_bytes (take at bytes) (cells_from first at n rest)) (sym turn)
    ∙ before)

none_left : (first : Bool) (at : ℕ) (rest front : List ℕ) → with_bytes front (cells_from first at 0 rest) ≡ (front, rest)
unfolding cells_from
none_left first at rest front = ap (λ (xs : List ℕ). (xs, rest)) (append-nil front)

-- all bytes are read
cells_done : (text bytes rest : List ℕ) (all at : ℕ) (first : Bool) → length bytes ≤ at → length bytes ≡ all
    → with_bytes (take at bytes) (cells_from first at (all - at) rest) ≡ cells_from true 0 all text → cells_from true 0 all text ≡ (bytes, rest)
cells_done text bytes rest all at first over same before =
    let none : all - at ≡ 0 = omega (arith, over, same) in
    let full : take at bytes ≡ bytes = take_all at bytes over in
    sym before ∙ ap (λ (n : ℕ). with_bytes (take at bytes) (cells_from first at n rest)) none ∙ none_left first at rest (take at bytes) ∙ ap (λ (xs : List ℕ). (xs, rest)) full

dark_at_end : (bytes : List ℕ) (at : ℕ) (first : Bool) → length bytes ≤ at → first ≡ is_dark (take at bytes) → is_dark bytes ≡ first
dark_at_end bytes at first over is = ap is_dark (sym (take_all at bytes over)) ∙ sym is

pub lit_exact : (text bytes rest : List ℕ) (all at : ℕ) (first : Bool) → length bytes ≤ at → length bytes ≡ all
    → with_bytes (take at bytes) (cells_from first at (all - at) rest) ≡ cells_from true 0 all text
    → first ≡ is_dark (take at bytes) → first ≡ false → Some (bytes, rest) ≡ image_at all text
unfolding image_at
lit_exact text bytes rest all at first over same before is lit =
    let cells = cells_done text bytes rest all at first over same before in
    let dark : is_dark bytes ≡ false = dark_at_end bytes at first over is ∙ lit in
    sym (ap lit_or_dash cells ∙ rw dark refl)

pub dash_exact : (text bytes rest : List ℕ) (all at : ℕ) (first : Bool) (o : Option (List ℕ)) → length bytes ≤ at → length bytes ≡ all
    → with_bytes (take at bytes) (cells_from first at (all - at) rest) ≡ cells_from true 0 all text
    → first ≡ is_dark (take at bytes) → first ≡ true → o ≡ after (codes "-") rest → option_map (λ left. (bytes, left)) o ≡ image_at all text
unfolding image_at
dash_exact text bytes rest all at first o over same before is lit found =
    let cells = cells_done text bytes rest all at first over same before in
    let dark : is_dark bytes ≡ true = dark_at_end bytes at first over is ∙ lit in
    sym (ap lit_or_dash cells ∙ rw (dark, sym found) refl)
