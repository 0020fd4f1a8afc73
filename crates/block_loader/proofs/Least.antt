-- The fold gives the least fault.
use Rattle.std.proofs.Common.{◌≡◌, ◌==◌, ◌&&◌, ◌||◌, ◌⊎◌, ◌≢◌, inl, inr, ℕ, List, [], ◌∷◌, refl, subst, arith, sym, ◌∙◌, Bool, true, false}
use Rattle.std.proofs.lemmas.Bool.{eqb-true, ltb-true, ltb-false}
use Rattle.std.proofs.lemmas.Bool.Decides.{eqb_tells}
use Rattle.std.specs.Prelude.{Some, None, nat_lt}
use Rattle.stl_decl.specs.declared.fault.Fault.{Fault}
use Rattle.stl_decl.specs.Faults.{kind_number}
use Rattle.block_loader.specs.Faults.{least_of, lesser, is_before}
use Rattle.block_loader.specs.Least.{IsNotAfter, IsOneOf, IsBeforeAll, IsLeast}

same : (f : Fault) → IsNotAfter f f
same f = inr (refl, inr (refl, omega arith))

through : (f g h : Fault) → IsNotAfter f g → IsNotAfter g h → IsNotAfter f h
through f g h (inl a) (inl b) = inl (omega arith)
through f g h (inl a) (inr b) = let e = b.0 in inl (omega arith)
through f g h (inr a) (inl b) = let e = a.0 in inl (omega arith)
through f g h (inr (e, inl a)) (inr (d, inl b)) = inr (e ∙ d, inl (omega arith))
through f g h (inr (e, inl a)) (inr (d, inr b)) = let i = b.0 in inr (e ∙ d, inl (omega arith))
through f g h (inr (e, inr a)) (inr (d, inl b)) = let i = a.0 in inr (e ∙ d, inl (omega arith))
through f g h (inr (e, inr a)) (inr (d, inr b)) = inr (e ∙ d, inr (a.0 ∙ b.0, (let i = a.1 in let j = b.1 in omega arith)))

unequal : (a b : ℕ) → (a == b) ≡ false → a ≢ b
unequal a b e = by (eqb_tells a b)
  where
    by : (((a == b) ≡ true) × (a ≡ b)) ⊎ (((a == b) ≡ false) × (a ≢ b)) → a ≢ b
    by (inl p) = let q = p.0 in absurd cc
    by (inr p) = p.1

-- what the test says
module _ (f g : Fault) where
  yes : (a b c d e : Bool) → nat_lt f.line g.line ≡ a → (f.line == g.line) ≡ b → nat_lt f.column g.column ≡ c → (f.column == g.column) ≡ d → nat_lt (kind_number f.kind) (kind_number g.kind) ≡ e → (a || (b && (c || (d && e)))) ≡ true → IsNotAfter f g
  yes true b c d e ea eb ec ed ee t = inl (ltb-true f.line g.line ea)
  yes false true true d e ea eb ec ed ee t = inr (eqb-true f.line g.line eb, inl (ltb-true f.column g.column ec))
  yes false true false true true ea eb ec ed ee t = inr (eqb-true f.line g.line eb, inr (eqb-true f.column g.column ed, (let k = ltb-true (kind_number f.kind) (kind_number g.kind) ee in omega arith)))
  yes false true false true false ea eb ec ed ee t = cc
  yes false true false false e ea eb ec ed ee t = cc
  yes false false c d e ea eb ec ed ee t = cc

  no : (a b c d e : Bool) → nat_lt f.line g.line ≡ a → (f.line == g.line) ≡ b → nat_lt f.column g.column ≡ c → (f.column == g.column) ≡ d → nat_lt (kind_number f.kind) (kind_number g.kind) ≡ e → (a || (b && (c || (d && e)))) ≡ false → IsNotAfter g f
  no true b c d e ea eb ec ed ee t = cc
  no false false c d e ea eb ec ed ee t = let l = ltb-false f.line g.line ea in let n = unequal f.line g.line eb in inl (omega arith)
  no false true true d e ea eb ec ed ee t = cc
  no false true false false e ea eb ec ed ee t = let l = ltb-false f.column g.column ec in let n = unequal f.column g.column ed in inr (sym (eqb-true f.line g.line eb), inl (omega arith))
  no false true false true true ea eb ec ed ee t = cc
  no false true false true false ea eb ec ed ee t = inr (sym (eqb-true f.line g.line eb), inr (sym (eqb-true f.column g.column ed), ltb-false (kind_number f.kind) (kind_number g.kind) ee))

  before : is_before f g ≡ true → IsNotAfter f g
  before t = yes (nat_lt f.line g.line) (f.line == g.line) (nat_lt f.column g.column) (f.column == g.column) (nat_lt (kind_number f.kind) (kind_number g.kind)) refl refl refl refl refl t

  not_before : is_before f g ≡ false → IsNotAfter g f
  not_before t = no (nat_lt f.line g.line) (f.line == g.line) (nat_lt f.column g.column) (f.column == g.column) (nat_lt (kind_number f.kind) (kind_number g.kind)) refl refl refl refl refl t

-- the lesser of two is one of them, and not after either
pub record IsLesser (h g f : Fault) : Type 0 where
  pub one : (h ≡ g) ⊎ (h ≡ f)
  pub first : IsNotAfter h g
  pub second : IsNotAfter h f

lesser_is : (g f : Fault) → (h : Fault) × (lesser (Some g) f ≡ Some h) × IsLesser h g f
lesser_is g f = by (is_before f g) refl
  where
    by : (b : Bool) → is_before f g ≡ b → (h : Fault) × (lesser (Some g) f ≡ Some h) × IsLesser h g f
    by true e = (f, rw e refl, record { one = inr refl; first = before f g e; second = same f })
    by false e = (g, rw e refl, record { one = inl refl; first = same g; second = not_before f g e })

one_of : (h l g f : Fault) (fs : List Fault) → (l ≡ g) ⊎ (l ≡ f) → (h ≡ l) ⊎ IsOneOf h fs → (h ≡ g) ⊎ ((h ≡ f) ⊎ IsOneOf h fs)
one_of h l g f fs a (inr b) = inr (inr b)
one_of h l g f fs (inl a) (inl b) = inl (b ∙ a)
one_of h l g f fs (inr a) (inl b) = inr (inl (b ∙ a))

-- what comes out of the fold, where something was found before
pub record IsLeastFrom (h g : Fault) (fs : List Fault) : Type 0 where
  pub one : (h ≡ g) ⊎ IsOneOf h fs
  pub first : IsNotAfter h g
  pub others : IsBeforeAll h fs

least_from : (g : Fault) (fs : List Fault) → (h : Fault) × (least_of (Some g) fs ≡ Some h) × IsLeastFrom h g fs
unfolding least_of
least_from g [] = (g, refl, record { one = inl refl; first = same g; others = tt })
least_from g (f ∷ fs) =
    let l = lesser_is g f in
    let r = least_from l.0 fs in
    (r.0, rw l.1 r.1, record { one = one_of r.0 l.0 g f fs l.2.one r.2.one; first = through r.0 l.0 g r.2.first l.2.first; others = (through r.0 l.0 f r.2.first l.2.second, r.2.others) })

-- none is found exactly where there is none; what is found is the least
pub least_is : (fs : List Fault) (f : Fault) → least_of None fs ≡ Some f → IsLeast f fs
unfolding least_of
least_is [] f e = absurd cc
least_is (g ∷ gs) f e =
    let r = least_from g gs in
    let same_one : r.0 ≡ f = let t = r.1 in cc in
    subst (λ h. IsLeast h (g ∷ gs)) same_one (record { one = r.2.one; before = (r.2.first, r.2.others) })

pub none_is : (fs : List Fault) → least_of None fs ≡ None → fs ≡ []
unfolding least_of
none_is [] e = refl
none_is (g ∷ gs) e = let r = least_from g gs in let t = r.1 in absurd cc
