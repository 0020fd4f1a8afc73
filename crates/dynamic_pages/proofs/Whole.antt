-- Pages one after another are the bytes.
use Rattle.std.proofs.Common.{◌≡◌, ℕ, zero, suc, ◌+◌, ◌*◌, ◌<◌, ◌≤◌, List, [], ◌∷◌, ◌++◌, length, get_or, take, drop, refl, sym, ap, ◌∙◌, arith, length-take, length-drop}
use Rattle.std.specs.List.{flat_map, range_with_len}
use Rattle.std.proofs.lemmas.List.{take-append-drop, get_or-drop, drop-drop}
use Rattle.std.proofs.lemmas.List.FromFn.{fill_by_all}
use Rattle.dynamic_pages.specs.Pages.{page_of}

take_at_front : (xs : List ℕ) (n i : ℕ) → i < n → get_or (take n xs) i 0 ≡ get_or xs i 0
take_at_front xs zero i lt = absurd (omega arith)
take_at_front [] (suc n) i lt = refl
take_at_front (x ∷ xs) (suc n) zero lt = refl
take_at_front (x ∷ xs) (suc n) (suc i) lt = take_at_front xs n i (omega (arith, lt))

-- a page is the piece of the bytes at its place
piece : (bytes : List ℕ) (k : ℕ) → 256 * k + 256 ≤ length bytes → page_of bytes k ≡ take 256 (drop (256 * k) bytes)
unfolding page_of
piece bytes k le =
    let rest = drop (256 * k) bytes in
    let long : length (take 256 rest) ≡ 256 = omega (arith, le, length-take 256 rest, length-drop (256 * k) bytes) in
    sym (fill_by_all (λ (i : ℕ). get_or bytes (256 * k + i) 0) (take 256 rest) 256 0 long
    (λ i lt. take_at_front rest 256 i lt ∙ get_or-drop (256 * k) bytes i 0))

none : (xs : List ℕ) → length xs ≡ 0 → xs ≡ []
none [] e = refl
none (x ∷ xs) e = absurd (omega arith)

from : (bytes : List ℕ) (k n : ℕ) → length bytes ≡ 256 * k + 256 * n → flat_map (page_of bytes) (range_with_len k n) ≡ drop (256 * k) bytes
from bytes k zero long = sym (none (drop (256 * k) bytes) (omega (arith, long, length-drop (256 * k) bytes)))
from bytes k (suc n) long =
    let later : 256 * k + 256 ≡ 256 * (k + 1) = omega arith in
    ap (λ (z : List ℕ). z ++ flat_map (page_of bytes) (range_with_len (k + 1) n)) (piece bytes k (omega (arith, long)))
    ∙ ap (λ (z : List ℕ). take 256 (drop (256 * k) bytes) ++ z) (from bytes (k + 1) n (omega (arith, long)))
    ∙ ap (λ (m : ℕ). take 256 (drop (256 * k) bytes) ++ drop m bytes) (sym later)
    ∙ ap (λ (z : List ℕ). take 256 (drop (256 * k) bytes) ++ z) (sym (drop-drop 256 (256 * k) bytes))
    ∙ take-append-drop 256 (drop (256 * k) bytes)

pub whole : (bytes : List ℕ) (n : ℕ) → length bytes ≡ 256 * n → flat_map (page_of bytes) (range_with_len 0 n) ≡ bytes
whole bytes n long = from bytes 0 n (omega (arith, long))
