-- Pages that are laid one after another.
use Rattle.std.proofs.Common.{◌≡◌, ℕ, zero, suc, ◌+◌, ◌*◌, ◌≤◌, List, [], ◌∷◌, ◌++◌, length, take, sym, ap, ◌∙◌, append_assoc, arith}
use Rattle.std.specs.List.{flat_map, range_with_len}
use Rattle.std.proofs.lemmas.List.{take_all, append-nil}
use Rattle.dynamic_pages.specs.Pages.{page_of}
use Rattle.dynamic_pages.proofs.Whole.{whole}

one_more : (f : ℕ → List ℕ) (a n : ℕ) → flat_map f (range_with_len a (suc n)) ≡ flat_map f (range_with_len a n) ++ f (a + n)
one_more f a zero =
    let same : a + 0 ≡ a = omega arith in
    append-nil (f a) ∙ ap f (sym same)
one_more f a (suc n) =
    let same : a + 1 + n ≡ a + suc n = omega arith in
    ap (λ (z : List ℕ). f a ++ z) (one_more f (a + 1) n)
    ∙ sym (append_assoc (f a) (flat_map f (range_with_len (a + 1) n)) (f (a + 1 + n)))
    ∙ ap (λ (m : ℕ). (f a ++ flat_map f (range_with_len (a + 1) n)) ++ f m) same

pub page_more : (laid bytes page next : List ℕ) (k : ℕ) → laid ≡ flat_map (page_of bytes) (range_with_len 0 k) → page ≡ page_of bytes k → next ≡ laid ++ page
    → next ≡ flat_map (page_of bytes) (range_with_len 0 (k + 1))
page_more laid bytes page next k before is put =
    let same : suc k ≡ k + 1 = omega arith in
    let here : k ≡ 0 + k = omega arith in
    put ∙ ap (λ (z : List ℕ). z ++ page) before ∙ ap (λ (z : List ℕ). flat_map (page_of bytes) (range_with_len 0 k) ++ z) is
    ∙ ap (λ (m : ℕ). flat_map (page_of bytes) (range_with_len 0 k) ++ page_of bytes m) here ∙ sym (one_more (page_of bytes) 0 k) ∙ ap (λ (n : ℕ). flat_map (page_of bytes) (range_with_len 0 n)) same

pub all_pages : (laid bytes : List ℕ) (k n size : ℕ) → laid ≡ flat_map (page_of bytes) (range_with_len 0 k) → k ≡ n → length bytes ≡ 256 * n → length bytes ≡ size → take size laid ≡ bytes
all_pages laid bytes k n size is end long wide =
    let same : laid ≡ bytes = is ∙ ap (λ (m : ℕ). flat_map (page_of bytes) (range_with_len 0 m)) end ∙ whole bytes n long in
    take_all size laid (omega (arith, ap length same, wide)) ∙ same
