-- Who was lost, and when, where no side comes back.
use Rattle.std.proofs.Common.{◌≡◌, ◌∙◌, ℕ, ◌+◌, Bool, true, false, List, [], ◌∷◌, ◌++◌, length, refl, add-zero, Option, Some, None}
use Rattle.std.specs.Prelude.{if◌then◌else◌}
use Rattle.s7_events.specs.declared.entry.Side.{Side}
use Rattle.s7_events.specs.declared.entry.Side.TheVariants.{A, B}
use Rattle.s7_events.specs.declared.entry.Answer.{Answer}
use Rattle.s7_events.specs.declared.entry.Answer.TheVariants.{Lost, Back}
use Rattle.s7_events.specs.declared.entry.Entry.{Entry}
use Rattle.pair_core.specs.declared.standing.Standing.{Standing}
use Rattle.pair_core.specs.Setup.{Setup}
use Rattle.pair_core.specs.Ledger.{Ledger, first_ledger, after, ledger_from, standing}
use Rattle.pair_core.specs.Sides.{runs, first_standing, after_answer}
use Rattle.pair_core.specs.Lawful.{MayStand, LawfulFrom, IsLawful}
use Rattle.pair_core.specs.Losses.{loses_by, lost_from}
use Rattle.pair_core.proofs.Snoc.{shift}
use Rattle.pair_core.proofs.Answers.{comes_back, answer_kind, kind_stays}

-- the first of two
abbrev pub pick : Option ℕ → Option ℕ → Option ℕ
pick (Some k) o = Some k
pick None o = o

snoc_by : (b : Bool) (k : ℕ) (u v w : Option ℕ) → u ≡ pick v w → (if b then Some k else u) ≡ pick (if b then Some k else v) w
snoc_by true k u v w h = refl
snoc_by false k u v w h = h

pub lost_snoc : (k : ℕ) (es : List Entry) (e : Entry) (s : Side) → lost_from k (es ++ e ∷ []) s ≡ pick (lost_from k es s) (if loses_by e.answer s then Some (k + length es) else None)
lost_snoc k [] e s = rw add-zero
lost_snoc k (x ∷ xs) e s =
    rw (shift k (length xs)) (snoc_by (loses_by x.answer s) k (lost_from (k + 1) (xs ++ e ∷ []) s) (lost_from (k + 1) xs s) (if loses_by e.answer s then Some (k + 1 + length xs) else None) (lost_snoc (k + 1) xs e s))

out_after : (st : Standing) (a : Answer) (s : Side) → loses_by a s ≡ true → runs (after_answer st a) s ≡ false
out_after st (Lost A why) A h = refl
out_after st (Lost A why) B h = absurd cc
out_after st (Lost B why) A h = absurd cc
out_after st (Lost B why) B h = refl
out_after st answer s h = absurd cc

pub in_after : (st : Standing) (a : Answer) (s : Side) → loses_by a s ≡ false → comes_back a ≡ false → runs (after_answer st a) s ≡ runs st s
in_after st (Lost A why) A h b = absurd cc
in_after st (Lost A why) B h b = refl
in_after st (Lost B why) A h b = refl
in_after st (Lost B why) B h b = absurd cc
in_after st (Back t) s h b = absurd cc
in_after st answer s h b = refl

still_out : (st : Standing) (a : Answer) (s : Side) (b : Bool) → loses_by a s ≡ b → comes_back a ≡ false → runs st s ≡ false → runs (after_answer st a) s ≡ false
still_out st a s true l back h = out_after st a s l
still_out st a s false l back h = in_after st a s l back ∙ h

module _ (p : Setup) (s : Side) where
  stays : (g : Ledger) (e : Entry) → MayStand p g e → comes_back e.answer ≡ false
  stays g e may = kind_stays p g e.answer (answer_kind p g e.request e.answer may.answer)

  -- who is out stays out
  pub stays_out : (g : Ledger) (es : List Entry) → LawfulFrom p g es → runs g.standing s ≡ false → runs (ledger_from p g es).standing s ≡ false
  stays_out g [] lawful h = h
  stays_out g (e ∷ es) lawful h = stays_out (after p g e) es lawful.1 (still_out g.standing e.answer s (loses_by e.answer s) refl (stays g e lawful.0) h)

  -- a side that was lost doesn't run
  pub lost_out : (g : Ledger) (k : ℕ) (es : List Entry) → LawfulFrom p g es → (j : ℕ) → lost_from k es s ≡ Some j → runs (ledger_from p g es).standing s ≡ false
  lost_out g k [] lawful j h = absurd cc
  lost_out g k (e ∷ es) lawful j h =
      let P : Bool → Type 0 = λ b. loses_by e.answer s ≡ b → (if b then Some k else lost_from (k + 1) es s) ≡ Some j → runs (ledger_from p (after p g e) es).standing s ≡ false in
      let by : P (loses_by e.answer s) = elim (loses_by e.answer s) as P [
        | true ↦ λ l i. stays_out (after p g e) es lawful.1 (out_after g.standing e.answer s l)
        | false ↦ λ l i. lost_out (after p g e) (k + 1) es lawful.1 j i
      ] in
      by refl h

  -- a side that was not lost runs as at first
  pub not_lost : (g : Ledger) (k : ℕ) (es : List Entry) → LawfulFrom p g es → lost_from k es s ≡ None → runs (ledger_from p g es).standing s ≡ runs g.standing s
  not_lost g k [] lawful h = refl
  not_lost g k (e ∷ es) lawful h =
      let P : Bool → Type 0 = λ b. loses_by e.answer s ≡ b → (if b then Some k else lost_from (k + 1) es s) ≡ None → runs (ledger_from p (after p g e) es).standing s ≡ runs g.standing s in
      let by : P (loses_by e.answer s) = elim (loses_by e.answer s) as P [
        | true ↦ λ l i. absurd cc
        | false ↦ λ l i. not_lost (after p g e) (k + 1) es lawful.1 i ∙ in_after g.standing e.answer s l (stays g e lawful.0)
      ] in
      by refl h

ran_by : (first now : Bool) → (first ≡ false → now ≡ false) → now ≡ true → first ≡ true
ran_by true now h run = refl
ran_by false now h run = absurd (let off = h refl in cc)

-- who runs ran at first
pub ran_first : (p : Setup) (s : Side) (es : List Entry) → IsLawful p es → runs (standing p es) s ≡ true → runs (first_standing p.solo) s ≡ true
ran_first p s es lawful run = ran_by (runs (first_standing p.solo) s) (runs (standing p es) s) (stays_out p s (first_ledger p) es lawful) run
