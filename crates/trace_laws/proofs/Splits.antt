-- Where a text is split: at a byte that stands in no part before it.
use Rattle.std.proofs.Common.{◌≡◌, ◌∙◌, ℕ, ◌<◌, ◌≤◌, Bool, true, List, [], ◌∷◌, ◌++◌, refl, sym, arith, subst, inl, inr}
use Rattle.std.specs.Prelude.{◌⊎◌, ◌==◌, ◌&&◌, not}
use Rattle.std.proofs.lemmas.Bool.{and_parts, not-true, eqb-false}
use Rattle.std.proofs.lemmas.List.{append_assoc, same_from_push}

-- a byte does not stand in a text
abbrev pub Free : ℕ → List ℕ → Type 0
Free c [] = Unit {0}
Free c (x ∷ xs) = (x ≡ c → ⊥) × Free c xs

-- the same, as a test
abbrev pub is_free : ℕ → List ℕ → Bool
is_free c [] = true
is_free c (x ∷ xs) = not (x == c) && is_free c xs

pub free_by : (c : ℕ) (xs : List ℕ) → is_free c xs ≡ true → Free c xs
free_by c [] e = tt
free_by c (x ∷ xs) e =
    let parts = and_parts (not (x == c)) (is_free c xs) e in
    (eqb-false x c (not-true (x == c) parts.0), free_by c xs parts.1)

pub free_append : (c : ℕ) (xs ys : List ℕ) → Free c xs → Free c ys → Free c (xs ++ ys)
free_append c [] ys h g = g
free_append c (x ∷ xs) ys h g = (h.0, free_append c xs ys h.1 g)

-- the bytes at which a line is split: the line feed, and the equals sign
abbrev pub IsMark : ℕ → Type 0
IsMark c = (c ≡ 10) ⊎ (c ≡ 61)

pub line_feed : IsMark 10
line_feed = inl refl

pub equals_sign : IsMark 61
equals_sign = inr refl

pub mark_out : (c : ℕ) → IsMark c → (c < 48) ⊎ (58 ≤ c)
mark_out c mark = elim mark [ inl is ↦ inl (omega arith) | inr is ↦ inr (omega arith) ]

-- neither stands in a word
pub free_word : (c : ℕ) (xs : List ℕ) → IsMark c → is_free 10 xs ≡ true → is_free 61 xs ≡ true → Free c xs
free_word c xs mark e g =
    elim mark [ inl is ↦ subst (λ (m : ℕ). Free m xs) (sym is) (free_by 10 xs e) | inr is ↦ subst (λ (m : ℕ). Free m xs) (sym is) (free_by 61 xs g) ]

-- texts without a byte that stand before that byte
pub split_at : (c : ℕ) (u v x y : List ℕ) → Free c u → Free c v → u ++ c ∷ x ≡ v ++ c ∷ y → (u ≡ v) × (x ≡ y)
split_at c [] [] x y fu fv e = (refl, cc)
split_at c [] (b ∷ v) x y fu fv e = let same : b ≡ c = cc in absurd (fv.0 same)
split_at c (a ∷ u) [] x y fu fv e = let same : a ≡ c = cc in absurd (fu.0 same)
split_at c (a ∷ u) (b ∷ v) x y fu fv e =
    let rest = split_at c u v x y fu.1 fv.1 (cc) in
    let head : a ≡ b = cc in
    (cc (rest.0, head), rest.1)

-- the last two bytes
pub last_two : (xs ys : List ℕ) (p q r s : ℕ) → xs ++ p ∷ q ∷ [] ≡ ys ++ r ∷ s ∷ [] → (xs ≡ ys) × (p ≡ r) × (q ≡ s)
last_two xs ys p q r s e =
    let pushed : (xs ++ p ∷ []) ++ q ∷ [] ≡ (ys ++ r ∷ []) ++ s ∷ [] = append_assoc xs (p ∷ []) (q ∷ []) ∙ e ∙ sym (append_assoc ys (r ∷ []) (s ∷ [])) in
    let last = same_from_push (xs ++ p ∷ []) (ys ++ r ∷ []) q s pushed in
    let before = same_from_push xs ys p r last.0 in
    (before.0, before.1, last.1)
