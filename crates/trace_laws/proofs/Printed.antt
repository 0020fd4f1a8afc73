-- Each showing of a run has its line.
use Rattle.std.proofs.Common.{◌≡◌, ◌∙◌, ℕ, ◌+◌, ◌≤◌, Bool, List, [], ◌∷◌, ◌++◌, length, refl, ap, sym, subst, arith, inl, inr}
use Rattle.std.specs.Prelude.{◌==◌, ◌&&◌, not, if◌then◌else◌}
use mathlib.Core.List.{IsPrefix}
use Rattle.std.proofs.lemmas.Bool.{cond_both, cond-true, cond-false, eq-eqb, ne_eqb, cases_eq}
use Rattle.s7_events.specs.declared.entry.Side.{Side}
use Rattle.s7_events.specs.declared.entry.Entry.{Entry}
use Rattle.pair_core.specs.Setup.{Setup}
use Rattle.pair_core.specs.Ledger.{Ledger, first_ledger, after}
use Rattle.pair_core.specs.declared.endings.Ended.{Ended}
use Rattle.pair_core.specs.declared.endings.Ended.TheVariants.{End, Stop, NoneLeft, Spent, NotPlayed}
use Rattle.pair_core.specs.Cuts.{is_cut, is_late}
use Rattle.pair_core.specs.Sides.{other_side, runs}
use Rattle.pair_core.specs.Showings.{is_output, showers_by, showers, tagged, showings_of, shown_from, shown_of}
use Rattle.pair_core.specs.Endings.{IsShown}
use Rattle.trace_text.specs.Text.{behind_showing}

-- the showings behind those of an entry
abbrev pub behind_both : ℕ → List (ℕ × Side) → List (ℕ × Side)
behind_both k shown = behind_showing k (behind_showing k shown)

-- of the showings none is left behind the last entry
abbrev pub ArePrinted : ℕ → List Entry → List (ℕ × Side) → Type 0
ArePrinted k [] shown = shown ≡ []
ArePrinted k (e ∷ es) shown = ArePrinted (k + 1) es (behind_both k shown)

-- no showing of an earlier entry comes first
abbrev AreFrom : ℕ → List (ℕ × Side) → Type 0
AreFrom k [] = Unit {0}
AreFrom k (x ∷ xs) = k ≤ x.0

-- a showing of the entry comes first
pub behind_own : (k : ℕ) (x : ℕ × Side) (xs : List (ℕ × Side)) → x.0 ≡ k → behind_showing k (x ∷ xs) ≡ xs
behind_own k x xs is = cond-true (x.0 == k) _ _ (eq-eqb x.0 k is)

-- one of another entry does
pub behind_other : (k : ℕ) (x : ℕ × Side) (xs : List (ℕ × Side)) → (x.0 ≡ k → ⊥) → behind_showing k (x ∷ xs) ≡ x ∷ xs
behind_other k x xs isnt = cond-false (x.0 == k) _ _ (ne_eqb x.0 k isnt)

behind_later : (k : ℕ) (xs : List (ℕ × Side)) → AreFrom (k + 1) xs → behind_showing k xs ≡ xs
behind_later k [] later = refl
behind_later k (x ∷ xs) later = behind_other k x xs (λ is. omega arith)

behind_two : (k : ℕ) (sides : List Side) (xs : List (ℕ × Side)) → length sides ≤ 2 → AreFrom (k + 1) xs → behind_both k (tagged k sides ++ xs) ≡ xs
behind_two k [] xs few later = ap (behind_showing k) (behind_later k xs later) ∙ behind_later k xs later
behind_two k (s ∷ []) xs few later = ap (behind_showing k) (behind_own k (k, s) xs refl) ∙ behind_later k xs later
behind_two k (s ∷ t ∷ []) xs few later = ap (behind_showing k) (behind_own k (k, s) ((k, t) ∷ xs) refl) ∙ behind_own k (k, t) xs refl
behind_two k (s ∷ t ∷ u ∷ sides) xs few later = absurd (omega arith)

other_few : (m : Side) (other : Bool) → length (if other then other_side m ∷ [] else []) ≤ 1
other_few m other = cond_both other (other_side m ∷ []) [] (λ l. length l ≤ 1) (λ _. omega arith) (λ _. omega arith)

-- at most two sides show an entry
few_showers : (m : Side) (cut late other : Bool) → length (showers_by m cut late other) ≤ 2
few_showers m cut late other =
    let few = other_few m other in
    cond_both cut _ _ (λ l. length l ≤ 2)
    (λ _. cond_both late (m ∷ (if other then other_side m ∷ [] else [])) (if other then other_side m ∷ [] else []) (λ l. length l ≤ 2) (λ _. omega arith) (λ _. omega arith))
    (λ _. omega arith)

tagged_from : (k : ℕ) (sides : List Side) (xs : List (ℕ × Side)) → AreFrom (k + 1) xs → AreFrom k (tagged k sides ++ xs)
tagged_from k [] [] later = tt
tagged_from k [] (x ∷ xs) later = omega arith
tagged_from k (s ∷ sides) xs later = omega arith

shown_later : (p : Setup) (g : Ledger) (es : List Entry) → AreFrom g.moment (shown_from p g es)
shown_later p g [] = tt
shown_later p g (e ∷ es) =
    let k = g.moment in
    let next = (after p g e).standing in
    let later = shown_later p (after p g e) es in
    let rest = shown_from p (after p g e) es in
    cond_both (is_output e) (tagged k (showers p.plan next (k + 1))) [] (λ l. AreFrom k (l ++ rest))
    (λ _. tagged_from k (showers p.plan next (k + 1)) rest later) (λ _. tagged_from k [] rest later)

-- all showings of a record have their lines
printed_all : (p : Setup) (g : Ledger) (es : List Entry) → ArePrinted g.moment es (shown_from p g es)
printed_all p g [] = refl
printed_all p g (e ∷ es) =
    let k = g.moment in
    let next = (after p g e).standing in
    let rest = shown_from p (after p g e) es in
    let later = shown_later p (after p g e) es in
    let left : behind_both k (showings_of p.plan next k e ++ rest) ≡ rest =
    cond_both (is_output e) (tagged k (showers p.plan next (k + 1))) [] (λ l. behind_both k (l ++ rest) ≡ rest)
    (λ _. behind_two k (showers p.plan next (k + 1)) rest (few_showers next.master (is_cut p.plan next.master (k + 1)) (is_late p.plan next.master (k + 1))
    (runs next (other_side next.master) && not (is_cut p.plan (other_side next.master) (k + 1)))) later) (λ _. behind_two k [] rest (omega arith) later) in
    subst (ArePrinted (k + 1) es) (sym left) (printed_all p (after p g e) es)

nothing_before : (xs : List (ℕ × Side)) → IsPrefix xs [] → xs ≡ []
nothing_before [] h = refl
nothing_before (x ∷ xs) h = absurd (let made = h.1 in cc)

behind_prefix : (k : ℕ) (xs ys : List (ℕ × Side)) → IsPrefix xs ys → IsPrefix (behind_showing k xs) (behind_showing k ys)
behind_prefix k [] ys h = (behind_showing k ys, refl)
behind_prefix k (x ∷ xs) [] h = absurd (let made = h.1 in cc)
behind_prefix k (x ∷ xs) (y ∷ ys) h =
    let made : x ∷ (xs ++ h.0) ≡ y ∷ ys = h.1 in
    let heads : x ≡ y = cc in
    let tails : xs ++ h.0 ≡ ys = cc in
    elim (cases_eq x.0 k) [
      | inl is ↦
          let left = behind_own k x xs is in
          let right = behind_own k y ys (sym (ap (λ (p : ℕ × Side). p.0) heads) ∙ is) in
          (h.0, ap (λ (l : List (ℕ × Side)). l ++ h.0) left ∙ tails ∙ sym right)
      | inr isnt ↦
          let left = behind_other k x xs isnt in
          let right = behind_other k y ys (λ e. isnt (ap (λ (p : ℕ × Side). p.0) heads ∙ e)) in
          (h.0, ap (λ (l : List (ℕ × Side)). l ++ h.0) left ∙ made ∙ sym right)
    ]

printed_prefix : (k : ℕ) (es : List Entry) (xs ys : List (ℕ × Side)) → IsPrefix xs ys → ArePrinted k es ys → ArePrinted k es xs
printed_prefix k [] xs ys h printed = nothing_before xs (h.0, h.1 ∙ printed)
printed_prefix k (e ∷ es) xs ys h printed =
    printed_prefix (k + 1) es (behind_both k xs) (behind_both k ys)
    (behind_prefix k (behind_showing k xs) (behind_showing k ys) (behind_prefix k xs ys h)) printed

printed_as : (p : Setup) (es : List Entry) (shown : List (ℕ × Side)) → shown ≡ shown_of p es → ArePrinted 0 es shown
printed_as p es shown is = subst (ArePrinted 0 es) (sym is) (printed_all p (first_ledger p) es)

-- so have those of a run
pub printed_run : (p : Setup) (es : List Entry) (ended : Ended) (shown : List (ℕ × Side)) → IsShown p es ended shown → ArePrinted 0 es shown
printed_run p es End shown is = printed_as p es shown is
printed_run p es (Stop code) shown is = printed_as p es shown is
printed_run p es NoneLeft shown is = printed_as p es shown is
printed_run p es Spent shown is = printed_prefix 0 es shown (shown_of p es) is.1 (printed_all p (first_ledger p) es)
printed_run p es NotPlayed shown is = absurd is
