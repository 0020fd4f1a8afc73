-- The text of lines that are written one item after another.
use Rattle.std.proofs.Common.{◌≡◌, ℕ, suc, ◌+◌, ◌-◌, ◌≤◌, ◌<◌, List, [], ◌++◌, arith, sym, ◌∙◌, ap, append_assoc, append-nil, codes}
use Rattle.std.proofs.lemmas.List.Concat.{flat_map-append}
use Rattle.std.specs.List.{flat_map, range_with_len}
use Rattle.load_maker.specs.Lines.{ended, text_of}

pub adds_nothing : (bytes : List ℕ) → bytes ++ [] ≡ bytes
adds_nothing bytes = append-nil bytes

-- the text of two lists of lines, one after the other
pub text_of_both : (xs ys : List (List ℕ)) → text_of (xs ++ ys) ≡ text_of xs ++ text_of ys
text_of_both xs ys = flat_map-append ended xs ys

-- two lists of lines were added
pub both_added : (a b c : List ℕ) (xs ys : List (List ℕ)) → b ≡ a ++ text_of xs → c ≡ b ++ text_of ys → c ≡ a ++ text_of (xs ++ ys)
both_added a b c xs ys first second =
    second ∙ ap (λ (t : List ℕ). t ++ text_of ys) first ∙ append_assoc a (text_of xs) (text_of ys)
    ∙ ap (λ (t : List ℕ). a ++ t) (sym (text_of_both xs ys))

-- lines were added to an empty text
pub added_to_none : (a b : List ℕ) (xs : List (List ℕ)) → a ≡ [] → b ≡ a ++ text_of xs → b ≡ text_of xs
added_to_none a b xs none added = added ∙ ap (λ (t : List ℕ). t ++ text_of xs) none

-- the text of the lines of the numbers from i on, below the end
pub text_from : (ℕ → List (List ℕ)) → ℕ → ℕ → List ℕ
text_from lines i end = text_of (flat_map lines (range_with_len i (end - i)))

-- at the start all are left
pub all_left : (lines : ℕ → List (List ℕ)) (front : List ℕ) (count : ℕ)
    → front ++ text_from lines 1 (count + 1) ≡ front ++ text_of (flat_map lines (range_with_len 1 count))
unfolding text_from
all_left lines front count =
    let same : count + 1 - 1 ≡ count = omega arith in
    ap (λ (k : ℕ). front ++ text_of (flat_map lines (range_with_len 1 k))) same

-- the lines of i, and those that follow
split : (lines : ℕ → List (List ℕ)) (i end : ℕ) → i < end → text_from lines i end ≡ text_of (lines i) ++ text_from lines (i + 1) end
unfolding text_from
split lines i end within =
    let step : end - i ≡ suc (end - (i + 1)) = omega arith in
    ap (λ (k : ℕ). text_of (flat_map lines (range_with_len i k))) step
    ∙ text_of_both (lines i) (flat_map lines (range_with_len (i + 1) (end - (i + 1))))

-- the lines of i were added
pub one_more : (lines : ℕ → List (List ℕ)) (front new whole : List ℕ) (i end : ℕ) → i < end
    → new ≡ front ++ text_of (lines i) → front ++ text_from lines i end ≡ whole → new ++ text_from lines (i + 1) end ≡ whole
one_more lines front new whole i end within added so =
    ap (λ (t : List ℕ). t ++ text_from lines (i + 1) end) added
    ∙ append_assoc front (text_of (lines i)) (text_from lines (i + 1) end)
    ∙ ap (λ (t : List ℕ). front ++ t) (sym (split lines i end within))
    ∙ so

-- none is left
pub none_left : (lines : ℕ → List (List ℕ)) (front whole : List ℕ) (i end : ℕ) → end ≤ i → front ++ text_from lines i end ≡ whole → front ≡ whole
unfolding text_from
none_left lines front whole i end past so =
    let none : 0 ≡ end - i = omega arith in
    sym (append-nil front) ∙ ap (λ (k : ℕ). front ++ text_of (flat_map lines (range_with_len i k))) none ∙ so

-- a line that ends with d and x, and the text that follows
pub ended_by : (d x rest : List ℕ) → ((d ++ x) ++ codes "\n") ++ rest ≡ d ++ ((x ++ codes "\n") ++ rest)
ended_by d x rest = ap (λ (t : List ℕ). t ++ rest) (append_assoc d x (codes "\n")) ∙ append_assoc d (x ++ codes "\n") rest
