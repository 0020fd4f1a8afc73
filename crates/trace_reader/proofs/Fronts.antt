-- What stands at the front of a text.
use Rattle.std.proofs.Common.{◌≡◌, ℕ, ◌+◌, ◌*◌, ◌/◌, ◌%◌, ◌<◌, Bool, true, false, cond, eqb, eq-eqb, List, [], ◌∷◌, ◌++◌, Option, Some, None, refl, sym, ◌∙◌, ap, arith, append_assoc}
use Rattle.std.specs.Prelude.{◌≢◌}
use Rattle.std.specs.Option.{option_map, MatchOption}
use Rattle.std.proofs.lemmas.Bool.{eqb-true}
use denote.Ref.{Bor}
use Rattle.trace_reader.specs.Fields.{after, hex_word, hex_double}

abbrev some : {A : Type 0} → A → Option A
some x = Some x

some_is : {A : Type 0} (x y : A) → some x ≡ some y → x ≡ y
some_is x y e = cc

pub after_again : (word rest : List ℕ) → after word (word ++ rest) ≡ Some rest
after_again [] rest = refl
after_again (c ∷ word) rest = rw (eq-eqb c c refl) (after_again word rest)

pub after_takes : (word text rest : List ℕ) → after word text ≡ Some rest → text ≡ word ++ rest
after_takes [] text rest e = some_is text rest e
after_takes (c ∷ word) [] rest e = absurd cc
after_takes (c ∷ word) (b ∷ text) rest e = by_test (λ h. after_takes word text rest h) (eqb b c) refl e
  where
    by_test : (after word text ≡ Some rest → text ≡ word ++ rest) → (t : Bool) → eqb b c ≡ t → cond t (after word text) None ≡ Some rest → b ∷ text ≡ c ∷ word ++ rest
    by_test deeper true is h = ap (λ (x : ℕ). x ∷ text) (eqb-true b c is) ∙ ap (λ (xs : List ℕ). c ∷ xs) (deeper h)
    by_test deeper false is h = absurd cc

after_none : (word text : List ℕ) → ((rest : List ℕ) → text ≢ word ++ rest) → (o : Option (List ℕ)) → after word text ≡ o → None ≡ o
after_none word text none None e = refl
after_none word text none (Some rest) e = absurd (none rest (after_takes word text rest e))

pub after_is : (word text : List ℕ) (r : Option (Bor (List ℕ))) → MatchOption r ((rest : List ℕ) → text ≢ word ++ rest) (λ x. text ≡ word ++ x.now) → option_map (λ rest. rest.now) r ≡ after word text
after_is word text None m = after_none word text m (after word text) refl
after_is word text (Some x) m = sym (ap (after word) m ∙ after_again word x.now)

-- the digits passed, in front of those that follow
abbrev pub with_digits : List ℕ → List ℕ × List ℕ → List ℕ × List ℕ
with_digits front p = (front ++ p.0, p.1)

high_part : (h l : ℕ) → l < 65536 → (h * 65536 + l) / 65536 ≡ h
high_part h l low = omega arith

low_part : (h l : ℕ) → l < 65536 → (h * 65536 + l) % 65536 ≡ l
low_part h l low = omega arith

pub double_is : (h l : ℕ) → l < 65536 → hex_double (h * 65536 + l) ≡ hex_word h ++ hex_word l
double_is h l low = ap (λ (x : ℕ). hex_word x ++ hex_word ((h * 65536 + l) % 65536)) (high_part h l low) ∙ ap (λ (x : ℕ). hex_word h ++ hex_word x) (low_part h l low)

pub double_read : (text mid rest : List ℕ) (h l n : ℕ) → n ≡ h * 65536 + l → l < 65536 → text ≡ hex_word h ++ mid → mid ≡ hex_word l ++ rest → text ≡ hex_double n ++ rest
double_read text mid rest h l n is low first second =
    let number : hex_double n ≡ hex_word h ++ hex_word l = ap hex_double is ∙ double_is h l low in
    first ∙ ap (λ (m : List ℕ). hex_word h ++ m) second ∙ sym (append_assoc (hex_word h) (hex_word l) rest) ∙ ap (λ (t : List ℕ). t ++ rest) (sym number)
