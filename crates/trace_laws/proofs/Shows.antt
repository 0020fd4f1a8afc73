-- What the lines of an entry's showings tell.
use Rattle.std.proofs.Common.{◌≡◌, ◌∙◌, ℕ, List, [], ◌∷◌, ◌++◌, refl, ap, sym, arith, inl, inr}
use Rattle.std.specs.Prelude.{◌==◌, ◌⊎◌, get_or, codes}
use Rattle.std.proofs.lemmas.Bool.{cond-true, cond-false, eq-eqb, ne_eqb, cases_eq}
use Rattle.std.proofs.lemmas.List.{append_assoc, append_cancel_left}
use Rattle.s7_events.specs.declared.entry.Side.{Side}
use Rattle.s7_events.specs.declared.entry.Side.TheVariants.{A, B}
use Rattle.trace_text.specs.EntryText.{side_word}
use Rattle.trace_text.specs.Text.{showing_line, behind_showing}
use Rattle.trace_laws.proofs.Printed.{behind_own, behind_other}

-- a showing of entry k comes first, and has its line
record Shows (word : List ℕ) (k : ℕ) (shown : List (ℕ × Side)) : Type 0 where
  side : Side
  rest : List (ℕ × Side)
  is : shown ≡ (k, side) ∷ rest
  line : (after : List ℕ) → showing_line word k shown ++ after ≡ word ++ (side_word side ++ 10 ∷ after)
  behind : behind_showing k shown ≡ rest

-- none comes first
record ShowsNone (word : List ℕ) (k : ℕ) (shown : List (ℕ × Side)) : Type 0 where
  line : (after : List ℕ) → showing_line word k shown ++ after ≡ after
  behind : behind_showing k shown ≡ shown

line_text : (word s after : List ℕ) → ((word ++ s) ++ 10 ∷ []) ++ after ≡ word ++ (s ++ 10 ∷ after)
line_text word s after = append_assoc (word ++ s) (10 ∷ []) after ∙ append_assoc word s (10 ∷ after)

shows_or_none : (word : List ℕ) (k : ℕ) (shown : List (ℕ × Side)) → Shows word k shown ⊎ ShowsNone word k shown
shows_or_none word k [] = inr (record { line = λ after. refl; behind = refl })
shows_or_none word k (x ∷ xs) =
    elim (cases_eq x.0 k) [
      | inl is ↦ inl (record {
        side = x.1;
        rest = xs;
        is = ap (λ (n : ℕ). let p : ℕ × Side = (n, x.1) in p ∷ xs) is;
        line = λ after. ap (λ (l : List ℕ). l ++ after) (cond-true (x.0 == k) _ _ (eq-eqb x.0 k is)) ∙ line_text word (side_word x.1) after;
        behind = behind_own k x xs is;
      })
      | inr isnt ↦ inr (record {
        line = λ after. ap (λ (l : List ℕ). l ++ after) (cond-false (x.0 == k) _ _ (ne_eqb x.0 k isnt));
        behind = behind_other k x xs isnt;
      })
    ]

-- a text does not begin with a word
abbrev pub IsApart : List ℕ → List ℕ → Type 0
IsApart word text = (rest : List ℕ) → text ≡ word ++ rest → ⊥

side_line : (s t : Side) (x y : List ℕ) → side_word s ++ 10 ∷ x ≡ side_word t ++ 10 ∷ y → (s ≡ t) × (x ≡ y)
side_line A A x y e = (refl, cc)
side_line B B x y e = (refl, cc)
side_line A B x y e = absurd (omega (arith, ap (λ (t : List ℕ). get_or t 0 0) e))
side_line B A x y e = absurd (omega (arith, ap (λ (t : List ℕ). get_or t 0 0) e))

-- what stands behind the line of a showing, and where that is the same the showings
pub record OneLine (k : ℕ) (xs ys : List (ℕ × Side)) (x y : List ℕ) : Type 0 where
  pub behind : x ≡ y
  pub showings : behind_showing k xs ≡ behind_showing k ys → xs ≡ ys

pub one_line : (word : List ℕ) (k : ℕ) (xs ys : List (ℕ × Side)) (x y : List ℕ) → IsApart word x → IsApart word y
    → showing_line word k xs ++ x ≡ showing_line word k ys ++ y → OneLine k xs ys x y
one_line word k xs ys x y ax ay e =
    elim (shows_or_none word k xs) [
      | inl p ↦ elim (shows_or_none word k ys) [
        | inl q ↦
            let lines = append_cancel_left word _ _ (sym (p.line x) ∙ e ∙ q.line y) in
            let both = side_line p.side q.side x y lines in
            record {
              behind = both.1;
              showings = λ same.
                  let left : xs ≡ (k, p.side) ∷ p.rest = p.is in
                  let rests : p.rest ≡ q.rest = sym p.behind ∙ same ∙ q.behind in
                  let sides : p.side ≡ q.side = both.0 in
                  let first = λ (s : Side). let one : ℕ × Side = (k, s) in one ∷ p.rest in
                  let one : ℕ × Side = (k, q.side) in
                  left ∙ ap first sides ∙ ap (λ (l : List (ℕ × Side)). one ∷ l) rests ∙ sym q.is;
            }
        | inr q ↦ absurd (ay (side_word p.side ++ 10 ∷ x) (sym (q.line y) ∙ sym e ∙ p.line x))
      ]
      | inr p ↦ elim (shows_or_none word k ys) [
        | inl q ↦ absurd (ax (side_word q.side ++ 10 ∷ y) (sym (p.line x) ∙ e ∙ q.line y))
        | inr q ↦ record {
          behind = sym (p.line x) ∙ e ∙ q.line y;
          showings = λ same. sym p.behind ∙ same ∙ q.behind;
        }
      ]
    ]

-- what may stand behind the showings of an entry: the text begins neither as SHOW nor as AGAIN
pub record IsNext (text : List ℕ) : Type 0 where
  pub no_again : get_or text 0 0 ≡ 65 → ⊥
  pub no_show : get_or text 0 0 ≡ 83 → get_or text 1 0 ≡ 80

pub apart_again : (text : List ℕ) → IsNext text → IsApart (codes "AGAIN ") text
apart_again text next rest e = next.no_again (ap (λ (t : List ℕ). get_or t 0 0) e)

pub apart_show : (text : List ℕ) → IsNext text → IsApart (codes "SHOW ") text
apart_show text next rest e =
    let first = ap (λ (t : List ℕ). get_or t 0 0) e in
    let second = ap (λ (t : List ℕ). get_or t 1 0) e in
    let p = next.no_show first in
    omega arith

-- nor does it as SHOW where the second showing comes before it
pub apart_second : (k : ℕ) (shown : List (ℕ × Side)) (text : List ℕ) → IsNext text → IsApart (codes "SHOW ") (showing_line (codes "AGAIN ") k shown ++ text)
apart_second k shown text next rest e =
    elim (shows_or_none (codes "AGAIN ") k shown) [
      | inl p ↦ omega (arith, ap (λ (t : List ℕ). get_or t 0 0) (sym (p.line text) ∙ e))
      | inr p ↦ apart_show text next rest (sym (p.line text) ∙ e)
    ]
