-- The first line of a text, and the first word of a line.
use Rattle.std.proofs.Common.{◌≡◌, ℕ, suc, ◌<◌, ◌+◌, ◌-◌, Bool, true, false, cond, eqb, List, [], ◌∷◌, ◌++◌, length, take, get_or, Option, Some, None, refl, sym, ◌∙◌, ap, subst, arith}
use Rattle.std.specs.Prelude.{◌&&◌}
use Rattle.std.proofs.lemmas.Bool.{ne_eqb}
use Rattle.std.proofs.lemmas.List.{length-append}
use Rattle.plant_script.specs.Fields.{split_at}
use Rattle.plant_script.specs.Words.{uncons, onto, begins_with, lines_of, ends_word, words_of, without_return, without_blanks}
use Rattle.plant_script.proofs.Pieces.{Lacks, IsSplit, split_takes, split_lacks}

-- ---- lines

line_step : (b : ℕ) (bs : List ℕ) → eqb b 10 ≡ false → (b2 : Bool) → (eqb b 13 && begins_with 10 bs) ≡ b2
    → lines_of (b ∷ bs) ≡ cond b2 (lines_of bs) (onto b (lines_of bs))
unfolding lines_of
line_step b bs other b2 is = rw (other, is) refl

line_end : (rest : List ℕ) → lines_of (10 ∷ rest) ≡ [] ∷ lines_of rest
unfolding lines_of
line_end rest = refl

and_false : (b : Bool) → (b && false) ≡ false
and_false true = refl
and_false false = refl

and_true : (b : Bool) → (b && true) ≡ b
and_true true = refl
and_true false = refl

-- a line that a line feed ends
ended_line : (w rest : List ℕ) → Lacks 10 w → lines_of (w ++ 10 ∷ rest) ≡ without_return w ∷ lines_of rest
ended_line [] rest lacks = line_end rest
ended_line (b ∷ []) rest lacks =
    line_step b (10 ∷ rest) lacks.0 (eqb b 13) (and_true (eqb b 13)) ∙ by_test (eqb b 13)
  where
    by_test : (t : Bool) → cond t (lines_of (10 ∷ rest)) (onto b (lines_of (10 ∷ rest))) ≡ cond t [] (b ∷ []) ∷ lines_of rest
    by_test true = line_end rest
    by_test false = ap (λ (ls : List (List ℕ)). onto b ls) (line_end rest)
ended_line (b ∷ c ∷ w) rest lacks =
    let no_end : (eqb b 13 && begins_with 10 (c ∷ (w ++ 10 ∷ rest))) ≡ false = rw lacks.1.0 (and_false (eqb b 13)) in
    line_step b (c ∷ (w ++ 10 ∷ rest)) lacks.0 false no_end
    ∙ ap (λ (ls : List (List ℕ)). onto b ls) (ended_line (c ∷ w) rest lacks.1)

-- a last line that no line feed ends
last_line : (b : ℕ) (bs : List ℕ) → Lacks 10 (b ∷ bs) → lines_of (b ∷ bs) ≡ (b ∷ bs) ∷ []
unfolding lines_of
last_line b [] lacks = rw (lacks.0, and_false (eqb b 13)) refl
last_line b (c ∷ cs) lacks =
    let no_end : (eqb b 13 && begins_with 10 (c ∷ cs)) ≡ false = rw lacks.1.0 (and_false (eqb b 13)) in
    line_step b (c ∷ cs) lacks.0 false no_end ∙ ap (λ (ls : List (List ℕ)). onto b ls) (last_line c cs lacks.1)

pub line_split : (text w rest : List ℕ) → split_at 10 text ≡ Some (w, rest) → lines_of text ≡ without_return w ∷ lines_of rest
line_split text w rest e = let is = split_takes 10 text w rest e in ap lines_of is.whole ∙ ended_line w rest is.lacks

pub line_whole : (text : List ℕ) → 0 < length text → split_at 10 text ≡ None → lines_of text ≡ text ∷ []
line_whole [] some e = absurd (omega arith)
line_whole (b ∷ bs) some e = last_line b bs (split_lacks 10 (b ∷ bs) e)

pub no_lines : lines_of [] ≡ []
unfolding lines_of
no_lines = refl

-- what is behind a piece is shorter than the text
pub split_shorter : (d : ℕ) (text w rest : List ℕ) → split_at d text ≡ Some (w, rest) → length rest < length text
split_shorter d text w rest e =
    let is = split_takes d text w rest e in
    let size : length text ≡ length (w ++ d ∷ rest) = ap length is.whole in
    omega (arith, size, length-append w (d ∷ rest))

-- ---- a carriage return at the end

pub return_stands : (line : List ℕ) → get_or line (length line - 1) 0 ≡ 13 → without_return line ≡ take (length line - 1) line
return_stands [] e = refl
return_stands (b ∷ []) e = let is : b ≡ 13 = e in rw is refl
return_stands (b ∷ c ∷ bs) e =
    let k : length (b ∷ c ∷ bs) - 1 ≡ suc (length (c ∷ bs) - 1) = omega arith in
    let there : get_or (c ∷ bs) (length (c ∷ bs) - 1) 0 ≡ 13 = let e2 = rw k at e in e2 in
    rw k (ap (λ (l : List ℕ). b ∷ l) (return_stands (c ∷ bs) there))

pub return_lacks : (line : List ℕ) → (get_or line (length line - 1) 0 ≡ 13 → ⊥) → without_return line ≡ line
return_lacks [] other = refl
return_lacks (b ∷ []) other = let is : eqb b 13 ≡ false = ne_eqb b 13 other in rw is refl
return_lacks (b ∷ c ∷ bs) other =
    let k : length (b ∷ c ∷ bs) - 1 ≡ suc (length (c ∷ bs) - 1) = omega arith in
    let there : get_or (c ∷ bs) (length (c ∷ bs) - 1) 0 ≡ 13 → ⊥ = let e2 = rw k at other in e2 in
    ap (λ (l : List ℕ). b ∷ l) (return_lacks (c ∷ bs) there)

-- ---- words

word_step : (b : ℕ) (bs : List ℕ) (blank ends : Bool) → eqb b 32 ≡ blank → ends_word bs ≡ ends
    → words_of (b ∷ bs) ≡ cond blank (words_of bs) (cond ends ((b ∷ []) ∷ words_of bs) (onto b (words_of bs)))
unfolding words_of
word_step b bs blank ends is next = rw (is, next) refl

no_words : words_of [] ≡ []
unfolding words_of
no_words = refl

-- blanks at the front count nothing
pub blanks_first : (text : List ℕ) → words_of text ≡ words_of (without_blanks text)
blanks_first [] = refl
blanks_first (b ∷ bs) = by_test (blanks_first bs) (eqb b 32) refl
  where
    by_test : words_of bs ≡ words_of (without_blanks bs) → (t : Bool) → eqb b 32 ≡ t → words_of (b ∷ bs) ≡ words_of (without_blanks (b ∷ bs))
    by_test deeper true is =
        let off : without_blanks (b ∷ bs) ≡ without_blanks bs = rw is refl in
        word_step b bs true (ends_word bs) is refl ∙ deeper ∙ ap words_of (sym off)
    by_test deeper false is = let off : without_blanks (b ∷ bs) ≡ b ∷ bs = rw is refl in ap words_of (sym off)

-- then no blank stands first
pub no_blank_first : (text : List ℕ) → begins_with 32 (without_blanks text) ≡ false
no_blank_first [] = refl
no_blank_first (b ∷ bs) = by_test (no_blank_first bs) (eqb b 32) refl
  where
    by_test : begins_with 32 (without_blanks bs) ≡ false → (t : Bool) → eqb b 32 ≡ t → begins_with 32 (without_blanks (b ∷ bs)) ≡ false
    by_test deeper true is = rw is deeper
    by_test deeper false is = rw is is

-- a word that a blank ends
ended_word : (b : ℕ) (w rest : List ℕ) → Lacks 32 (b ∷ w) → words_of (b ∷ (w ++ 32 ∷ rest)) ≡ (b ∷ w) ∷ words_of rest
ended_word b [] rest lacks =
    word_step b (32 ∷ rest) false true lacks.0 refl ∙ ap (λ (ws : List (List ℕ)). (b ∷ []) ∷ ws) (word_step 32 rest true (ends_word rest) refl refl)
ended_word b (c ∷ w) rest lacks =
    word_step b (c ∷ (w ++ 32 ∷ rest)) false false lacks.0 lacks.1.0 ∙ ap (λ (ws : List (List ℕ)). onto b ws) (ended_word c w rest lacks.1)

-- a word that the line ends
last_word : (b : ℕ) (w : List ℕ) → Lacks 32 (b ∷ w) → words_of (b ∷ w) ≡ (b ∷ w) ∷ []
last_word b [] lacks = word_step b [] false true lacks.0 refl ∙ ap (λ (ws : List (List ℕ)). (b ∷ []) ∷ ws) no_words
last_word b (c ∷ w) lacks =
    word_step b (c ∷ w) false false lacks.0 lacks.1.0 ∙ ap (λ (ws : List (List ℕ)). onto b ws) (last_word c w lacks.1)

word_split_off : (text w rest : List ℕ) → begins_with 32 text ≡ false → split_at 32 text ≡ Some (w, rest) → words_of text ≡ w ∷ words_of rest
word_split_off text [] rest first e =
    let is = split_takes 32 text [] rest e in
    let blank : begins_with 32 text ≡ true = ap (λ (l : List ℕ). begins_with 32 l) is.whole in
    absurd cc
word_split_off text (b ∷ w) rest first e =
    let is = split_takes 32 text (b ∷ w) rest e in ap words_of is.whole ∙ ended_word b w rest is.lacks

pub word_split : (line text w rest : List ℕ) → text ≡ without_blanks line → split_at 32 text ≡ Some (w, rest) → words_of line ≡ w ∷ words_of rest
word_split line text w rest is e =
    let first : begins_with 32 text ≡ false = rw is (no_blank_first line) in
    blanks_first line ∙ ap words_of (sym is) ∙ word_split_off text w rest first e

word_left : (text : List ℕ) → 0 < length text → split_at 32 text ≡ None → words_of text ≡ text ∷ []
word_left [] some e = absurd (omega arith)
word_left (b ∷ bs) some e = last_word b bs (split_lacks 32 (b ∷ bs) e)

pub word_whole : (line text : List ℕ) → text ≡ without_blanks line → 0 < length text → split_at 32 text ≡ None → words_of line ≡ text ∷ words_of []
word_whole line text is some e =
    blanks_first line ∙ ap words_of (sym is) ∙ word_left text some e ∙ ap (λ (ws : List (List ℕ)). text ∷ ws) (sym no_words)

pub word_none : (line text : List ℕ) → text ≡ without_blanks line → length text ≡ 0 → words_of line ≡ []
word_none line [] is none = blanks_first line ∙ ap words_of (sym is) ∙ no_words
word_none line (b ∷ bs) is none = absurd (omega arith)

pub no_text : (text : List ℕ) → length text ≡ 0 → lines_of text ≡ []
no_text [] none = no_lines
no_text (b ∷ bs) none = absurd (omega arith)

pub no_return : (line : List ℕ) → length line ≡ 0 → without_return line ≡ line
no_return [] none = refl
no_return (b ∷ bs) none = absurd (omega arith)
