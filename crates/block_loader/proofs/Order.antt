-- The blocks of a program stay in their order with one more.
use Rattle.std.proofs.Common.{◌≡◌, ◌≢◌, ◌<◌, ◌==◌, ◌&&◌, ◌||◌, ◌⊎◌, inl, inr, ℕ, List, [], ◌∷◌, refl, arith, sym, ◌∙◌, Bool, true, false, nat_lt}
use Rattle.std.specs.Prelude.{IsTrue}
use Rattle.std.specs.Bool.{Decides}
use Rattle.std.specs.List.{All}
use Rattle.std.proofs.lemmas.Bool.{cases_order, false_from_ne_true, lt-ltb, ltb-false, ltb-true}
use Rattle.std.proofs.lemmas.Bool.Decides.{Decides-and, Decides-eqb, Decides-ltb, Decides-or, not_from_Decides}
use Rattle.std.proofs.lemmas.List.Elements.{All-weaker}
use Rattle.s7_base.specs.declared.blocks.CodeKind.{CodeKind}
use Rattle.s7_base.specs.declared.blocks.CodeKind.TheVariants.{Ob, Fb, Fc}
use Rattle.s7_base.specs.Blocks.{Code, Data, same_kind}
use Rattle.s7_base.specs.Limits.{codes_rise, data_rise, is_before, kind_place}
use Rattle.block_loader.specs.Faults.{kind_byte}
use Rattle.block_loader.specs.Load.{is_code_before, is_data_before, with_code, with_data}
use Rattle.block_loader.proofs.Ordered.{IsOrder, rises, rises_with}

-- kind and number, as in a source
abbrev pub code_name : Code → List ℕ
code_name code = kind_byte code.kind ∷ code.number ∷ []

abbrev pub data_name : Data → List ℕ
data_name block = 3 ∷ block.number ∷ []

-- kinds are told apart by their bytes
pub same_kinds : (k l : CodeKind) → same_kind k l ≡ (kind_byte k == kind_byte l)
same_kinds Ob Ob = refl
same_kinds Ob Fb = refl
same_kinds Ob Fc = refl
same_kinds Fb Ob = refl
same_kinds Fb Fb = refl
same_kinds Fb Fc = refl
same_kinds Fc Ob = refl
same_kinds Fc Fb = refl
same_kinds Fc Fc = refl

same_places : (k : CodeKind) → kind_place k ≡ kind_byte k
same_places Ob = refl
same_places Fb = refl
same_places Fc = refl

same_order : (a b : Code) → is_before a b ≡ is_code_before a b
same_order a b = rw (same_kinds a.kind b.kind, same_places a.kind, same_places b.kind) refl

same_rise : (codes : List Code) → codes_rise codes ≡ rises is_code_before codes
same_rise [] = refl
same_rise (c ∷ []) = refl
same_rise (c ∷ d ∷ ds) = rw (same_order c d, same_rise (d ∷ ds)) refl

-- kind and number, one before the other
abbrev before_at : ℕ → ℕ → ℕ → ℕ → Bool
before_at k m l n = nat_lt k l || (k == l && nat_lt m n)

abbrev Before : ℕ → ℕ → ℕ → ℕ → Type 0
Before k m l n = (k < l) ⊎ ((k ≡ l) × (m < n))

decided : (k m l n : ℕ) → Decides (before_at k m l n) (Before k m l n)
decided k m l n = Decides-or (nat_lt k l) (k == l && nat_lt m n) (Decides-ltb k l) (Decides-and (k == l) (nat_lt m n) (Decides-eqb k l) (Decides-ltb m n))

through : (k m l n i j : ℕ) → Before k m l n → Before l n i j → Before k m i j
through k m l n i j (inl a) (inl b) = inl (omega arith)
through k m l n i j (inl a) (inr b) = let e = b.0 in inl (omega arith)
through k m l n i j (inr a) (inl b) = let e = a.0 in inl (omega arith)
through k m l n i j (inr a) (inr b) = inr (a.0 ∙ b.0, (let h = a.1 in let i = b.1 in omega arith))

one_way : (k m l n : ℕ) → Before k m l n → Before l n k m → ⊥
one_way k m l n (inl a) (inl b) = omega arith
one_way k m l n (inl a) (inr b) = let e = b.0 in omega arith
one_way k m l n (inr a) (inl b) = let e = a.0 in omega arith
one_way k m l n (inr a) (inr b) = let h = a.1 in let i = b.1 in omega arith

apart : (k m l n : ℕ) → (Before k m l n → ⊥) → ((k ≡ l) × (m ≡ n) → ⊥) → Before l n k m
apart k m l n never other = by (cases_order k l) (cases_order m n)
  where
    by : (k ≡ l) ⊎ ((k < l) ⊎ (l < k)) → (m ≡ n) ⊎ ((m < n) ⊎ (n < m)) → Before l n k m
    by (inr (inr a)) b = inl a
    by (inr (inl a)) b = absurd (never (inl a))
    by (inl a) (inl b) = absurd (other (a, b))
    by (inl a) (inr (inl b)) = absurd (never (inr (a, b)))
    by (inl a) (inr (inr b)) = inr (sym a, b)

code_order : IsOrder is_code_before
code_order = record {
  through = λ x y z e f. (decided (kind_byte x.kind) x.number (kind_byte z.kind) z.number).1 (through (kind_byte x.kind) x.number (kind_byte y.kind) y.number (kind_byte z.kind) z.number ((decided (kind_byte x.kind) x.number (kind_byte y.kind) y.number).0 e) ((decided (kind_byte y.kind) y.number (kind_byte z.kind) z.number).0 f));
  one_way = λ x y e. false_from_ne_true (is_code_before y x) (λ f. one_way (kind_byte x.kind) x.number (kind_byte y.kind) y.number ((decided (kind_byte x.kind) x.number (kind_byte y.kind) y.number).0 e) ((decided (kind_byte y.kind) y.number (kind_byte x.kind) x.number).0 f));
}

code_apart : (a b : Code) → code_name a ≢ code_name b → is_code_before a b ≡ false → is_code_before b a ≡ true
code_apart a b other e =
    (decided (kind_byte b.kind) b.number (kind_byte a.kind) a.number).1
    (apart (kind_byte a.kind) a.number (kind_byte b.kind) b.number (not_from_Decides (is_code_before a b) (decided (kind_byte a.kind) a.number (kind_byte b.kind) b.number) e) (λ p. other (let k = p.0 in let n = p.1 in cc)))

-- code blocks rise with one more of another name
pub codes_with : (codes : List Code) (code : Code) → All (λ c. code_name c ≢ code_name code) codes → IsTrue (codes_rise codes) → IsTrue (codes_rise (with_code codes code))
codes_with codes code other r =
    same_rise (with_code codes code)
    ∙ rises_with is_code_before code_order code codes (All-weaker (λ c. code_name c ≢ code_name code) (λ c. is_code_before c code ≡ false → is_code_before code c ≡ true) (λ c n e. code_apart c code n e) codes other) (sym (same_rise codes) ∙ r)

data_order : IsOrder is_data_before
data_order = record {
  through = λ x y z e f. lt-ltb x.number z.number (let h = ltb-true x.number y.number e in let i = ltb-true y.number z.number f in omega arith);
  one_way = λ x y e. false_from_ne_true (is_data_before y x) (λ f. let h = ltb-true x.number y.number e in let i = ltb-true y.number x.number f in omega arith);
}

data_apart : (a b : Data) → data_name a ≢ data_name b → is_data_before a b ≡ false → is_data_before b a ≡ true
data_apart a b other e = by (cases_order a.number b.number)
  where
    by : (a.number ≡ b.number) ⊎ ((a.number < b.number) ⊎ (b.number < a.number)) → is_data_before b a ≡ true
    by (inl h) = absurd (other cc)
    by (inr (inl h)) = let l = ltb-false a.number b.number e in absurd (omega arith)
    by (inr (inr h)) = lt-ltb b.number a.number h

same_data_rise : (blocks : List Data) → data_rise blocks ≡ rises is_data_before blocks
same_data_rise [] = refl
same_data_rise (b ∷ []) = refl
same_data_rise (b ∷ d ∷ ds) = rw (same_data_rise (d ∷ ds)) refl

-- data blocks rise with one more of another name
pub data_with : (blocks : List Data) (block : Data) → All (λ b. data_name b ≢ data_name block) blocks → IsTrue (data_rise blocks) → IsTrue (data_rise (with_data blocks block))
data_with blocks block other r =
    same_data_rise (with_data blocks block)
    ∙ rises_with is_data_before data_order block blocks (All-weaker (λ b. data_name b ≢ data_name block) (λ b. is_data_before b block ≡ false → is_data_before block b ≡ true) (λ b n e. data_apart b block n e) blocks other) (sym (same_data_rise blocks) ∙ r)
