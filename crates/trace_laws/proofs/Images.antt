-- How images are written.
use Rattle.std.proofs.Common.{◌≡◌, ◌∙◌, ℕ, ◌+◌, ◌^◌, ◌/◌, ◌%◌, ◌<◌, ◌≤◌, List, [], ◌∷◌, ◌++◌, length, refl, ap, sym, arith, inl, inr}
use Rattle.std.specs.Prelude.{◌==◌, get_or, codes}
use Rattle.std.specs.Fmt.{decimal}
use Rattle.std.proofs.lemmas.Bool.{cond_both, cond-true, cond-false, eq-eqb, ne_eqb, cases_eq}
use Rattle.std.proofs.lemmas.List.{append_assoc}
use Rattle.std.proofs.lemmas.Fmt.{decimal_injective}
use Rattle.trace_text.specs.Image.{hex_digit, hex_byte, cell, cells, behind_commas, joined, image}
use Rattle.trace_laws.proofs.Splits.{Free, IsMark, mark_out, free_word, free_append, split_at}
use Rattle.trace_laws.proofs.Numbers.{decimal_is, number_head, decimal_free, hex_byte_free, byte_one}

cells_zero : (at byte : ℕ) (bytes : List ℕ) → byte ≡ 0 → cells at (byte ∷ bytes) ≡ cells (at + 1) bytes
cells_zero at byte bytes is = cond-true (byte == 0) _ _ (eq-eqb byte 0 is)

cells_more : (at byte : ℕ) (bytes : List ℕ) → (byte ≡ 0 → ⊥) → cells at (byte ∷ bytes) ≡ cell at byte ∷ cells (at + 1) bytes
cells_more at byte bytes isnt = cond-false (byte == 0) _ _ (ne_eqb byte 0 isnt)

-- a cell, up to its colon
cell_text : (at byte : ℕ) (rest : List ℕ) → cell at byte ++ rest ≡ decimal at ++ 58 ∷ (hex_byte byte ++ rest)
cell_text at byte rest = append_assoc (decimal at) (58 ∷ hex_byte byte) rest

-- two cells with what follows them
cells_split : (a b x y : ℕ) (r s : List ℕ) → decimal a ++ 58 ∷ (hex_byte x ++ r) ≡ decimal b ++ 58 ∷ (hex_byte y ++ s)
    → (decimal a ≡ decimal b) × (x ≡ y) × (r ≡ s)
cells_split a b x y r s e =
    let parts = split_at 58 (decimal a) (decimal b) (hex_byte x ++ r) (hex_byte y ++ s) (decimal_free 58 a (inr (omega arith))) (decimal_free 58 b (inr (omega arith))) e in
    let both : hex_digit (x / 16) ∷ hex_digit (x % 16) ∷ r ≡ hex_digit (y / 16) ∷ hex_digit (y % 16) ∷ s = parts.1 in
    let high : hex_digit (x / 16) ≡ hex_digit (y / 16) = cc in
    let low : hex_digit (x % 16) ≡ hex_digit (y % 16) = cc in
    (parts.0, byte_one x y high low, cc)

-- the cells of later bytes do not begin at an earlier address
cells_past : (a b byte : ℕ) (bytes rest : List ℕ) → b < a → a + length bytes ≤ 2 ^ 64
    → behind_commas (cells a bytes) ≡ 44 ∷ (decimal b ++ 58 ∷ (hex_byte byte ++ rest)) → ⊥
cells_past a b byte [] rest past room e = absurd cc
cells_past a b byte (x ∷ bytes) rest past room e =
    elim (cases_eq x 0) [
      | inl is ↦ cells_past (a + 1) b byte bytes rest (omega arith) (omega arith) (sym (ap behind_commas (cells_zero a x bytes is)) ∙ e)
      | inr isnt ↦
          let begins : 44 ∷ (cell a x ++ behind_commas (cells (a + 1) bytes)) ≡ 44 ∷ (decimal b ++ 58 ∷ (hex_byte byte ++ rest)) =
          sym (ap behind_commas (cells_more a x bytes isnt)) ∙ e in
          let apart : cell a x ++ behind_commas (cells (a + 1) bytes) ≡ decimal b ++ 58 ∷ (hex_byte byte ++ rest) = cc in
          let split = cells_split a b x byte (behind_commas (cells (a + 1) bytes)) rest (sym (cell_text a x _) ∙ apart) in
          let same = decimal_injective a b (omega arith) (omega arith) split.0 in
          omega arith
    ]

-- bytes of one length are determined by their cells
cells_one : (a : ℕ) (xs ys : List ℕ) → length xs ≡ length ys → a + length xs ≤ 2 ^ 64
    → behind_commas (cells a xs) ≡ behind_commas (cells a ys) → xs ≡ ys
cells_one a [] [] same room e = refl
cells_one a [] (y ∷ ys) same room e = absurd (omega arith)
cells_one a (x ∷ xs) [] same room e = absurd (omega arith)
cells_one a (x ∷ xs) (y ∷ ys) same room e =
    elim (cases_eq x 0) [
      | inl x_is ↦
          let left = ap behind_commas (cells_zero a x xs x_is) in
          elim (cases_eq y 0) [
            | inl y_is ↦
                let rest = cells_one (a + 1) xs ys (omega arith) (omega arith) (sym left ∙ e ∙ ap behind_commas (cells_zero a y ys y_is)) in
                cc
            | inr y_isnt ↦ absurd (cells_past (a + 1) a y xs (behind_commas (cells (a + 1) ys)) (omega arith) (omega arith)
                (sym left ∙ e ∙ ap behind_commas (cells_more a y ys y_isnt) ∙ ap (λ (t : List ℕ). 44 ∷ t) (cell_text a y _)))
          ]
      | inr x_isnt ↦
          let left = ap behind_commas (cells_more a x xs x_isnt) ∙ ap (λ (t : List ℕ). 44 ∷ t) (cell_text a x (behind_commas (cells (a + 1) xs))) in
          elim (cases_eq y 0) [
            | inl y_is ↦ absurd (cells_past (a + 1) a x ys (behind_commas (cells (a + 1) xs)) (omega arith) (omega arith)
                (sym (ap behind_commas (cells_zero a y ys y_is)) ∙ sym e ∙ left))
            | inr y_isnt ↦
                let right = ap behind_commas (cells_more a y ys y_isnt) ∙ ap (λ (t : List ℕ). 44 ∷ t) (cell_text a y (behind_commas (cells (a + 1) ys))) in
                let both : 44 ∷ (decimal a ++ 58 ∷ (hex_byte x ++ behind_commas (cells (a + 1) xs))) ≡ 44 ∷ (decimal a ++ 58 ∷ (hex_byte y ++ behind_commas (cells (a + 1) ys))) = sym left ∙ e ∙ right in
                let inner : decimal a ++ 58 ∷ (hex_byte x ++ behind_commas (cells (a + 1) xs)) ≡ decimal a ++ 58 ∷ (hex_byte y ++ behind_commas (cells (a + 1) ys)) = cc in
                let split = cells_split a a x y _ _ inner in
                let rest = cells_one (a + 1) xs ys (omega arith) (omega arith) split.2 in
                cc (split.1, rest)
          ]
    ]

-- each cell begins with a digit
abbrev HaveHeads : List (List ℕ) → Type 0
HaveHeads [] = Unit {0}
HaveHeads (c ∷ cs) = (rest : List ℕ) → 48 ≤ get_or (c ++ rest) 0 0

cell_heads : (at byte : ℕ) (rest : List ℕ) → 48 ≤ get_or (cell at byte ++ rest) 0 0
cell_heads at byte rest =
    let head = number_head (decimal at) (58 ∷ (hex_byte byte ++ rest)) (decimal_is at) in
    omega (arith, head.0, ap (λ (t : List ℕ). get_or t 0 0) (cell_text at byte rest))

cells_heads : (at : ℕ) (bytes : List ℕ) → HaveHeads (cells at bytes)
cells_heads at [] = tt
cells_heads at (x ∷ bytes) =
    cond_both (x == 0) (cells (at + 1) bytes) (cell at x ∷ cells (at + 1) bytes) HaveHeads
    (λ _. cells_heads (at + 1) bytes) (λ _. cell_heads at x)

joined_one : (cs ds : List (List ℕ)) → HaveHeads cs → HaveHeads ds → joined cs ≡ joined ds → behind_commas cs ≡ behind_commas ds
joined_one [] [] hc hd e = refl
joined_one [] (d ∷ ds) hc hd e = absurd (omega (arith, hd (behind_commas ds), ap (λ (t : List ℕ). get_or t 0 0) e))
joined_one (c ∷ cs) [] hc hd e = absurd (omega (arith, hc (behind_commas cs), ap (λ (t : List ℕ). get_or t 0 0) e))
joined_one (c ∷ cs) (d ∷ ds) hc hd e = ap (λ (t : List ℕ). 44 ∷ t) e

-- an image of 64 bytes is determined by its text
pub image_one : (xs ys : List ℕ) → length xs ≡ 64 → length ys ≡ 64 → image xs ≡ image ys → xs ≡ ys
image_one xs ys lx ly e =
    cells_one 0 xs ys (omega arith) (omega arith)
    (joined_one (cells 0 xs) (cells 0 ys) (cells_heads 0 xs) (cells_heads 0 ys) e)

-- neither mark stands in an image --

cell_free : (c at byte : ℕ) → IsMark c → Free c (cell at byte)
cell_free c at byte mark =
    free_append c (decimal at) (58 ∷ hex_byte byte) (decimal_free c at (mark_out c mark)) (free_append c (58 ∷ []) (hex_byte byte) (free_word c (58 ∷ []) mark refl refl) (hex_byte_free c byte mark))

behind_free : (c at : ℕ) (bytes : List ℕ) → IsMark c → Free c (behind_commas (cells at bytes))
behind_free c at [] mark = tt
behind_free c at (x ∷ bytes) mark =
    cond_both (x == 0) (cells (at + 1) bytes) (cell at x ∷ cells (at + 1) bytes) (λ cs. Free c (behind_commas cs))
    (λ _. behind_free c (at + 1) bytes mark)
    (λ _. free_append c (44 ∷ []) (cell at x ++ behind_commas (cells (at + 1) bytes)) (free_word c (44 ∷ []) mark refl refl)
    (free_append c (cell at x) (behind_commas (cells (at + 1) bytes)) (cell_free c at x mark) (behind_free c (at + 1) bytes mark)))

joined_free : (c : ℕ) (cs : List (List ℕ)) → IsMark c → Free c (behind_commas cs) → Free c (joined cs)
joined_free c [] mark h = free_word c (codes "-") mark refl refl
joined_free c (d ∷ ds) mark h = h.1

pub image_free : (c : ℕ) (bytes : List ℕ) → IsMark c → Free c (image bytes)
image_free c bytes mark = joined_free c (cells 0 bytes) mark (behind_free c 0 bytes mark)
