-- Two lawful records of one CPU.
use Rattle.std.proofs.Common.{◌≡◌, ◌∙◌, Bool, List, [], ◌∷◌, ◌++◌, refl, ap, sym, inl, inr}
use Rattle.std.specs.Prelude.{◌⊎◌, Some}
use mathlib.Core.List.{IsPrefix}
use Rattle.s7_events.specs.declared.entry.Answer.{Answer}
use Rattle.s7_events.specs.declared.entry.Request.{Request}
use Rattle.s7_events.specs.declared.entry.Entry.{Entry}
use Rattle.s7_base.specs.Blocks.{Program}
use Rattle.mc_machine.specs.Meaning.{asked_after}
use Rattle.plant_script.specs.Plan.{Plan}
use Rattle.pair_core.specs.Setup.{Setup, made_for}
use Rattle.pair_core.specs.Ledger.{Ledger, first_ledger, after}
use Rattle.pair_core.specs.Lawful.{MayAnswer, LawfulFrom}
use Rattle.pair_core.specs.Played.{requests_of, answers_of}
use Rattle.pair_core.specs.OneRecord.{OneBegins}

-- a request has one lawful answer
one_answer : (p : Setup) (g : Ledger) (request : Request) (a b : Answer) → MayAnswer p g request a → MayAnswer p g request b → a ≡ b
one_answer p g request a b h g2 =
    let same : Some a ≡ Some b = sym h ∙ g2 in cc

pub same_entry : (x y : Entry) → x.request ≡ y.request → x.answer ≡ y.answer → x ≡ y
same_entry x y h g =
    let first = λ (r : Request). let e : Entry = record { request = r; answer = x.answer } in e in
    let second = λ (b : Answer). let e : Entry = record { request = y.request; answer = b } in e in
    ap first h ∙ ap second g

both_from : (p : Setup) (g : Ledger) (before : List Answer) (xs ys : List Entry)
    → requests_of xs ≡ asked_after p.program before (answers_of xs) → LawfulFrom p g xs
    → requests_of ys ≡ asked_after p.program before (answers_of ys) → LawfulFrom p g ys → IsPrefix xs ys ⊎ IsPrefix ys xs
both_from p g before [] ys ax lx ay ly = inl (ys, refl)
both_from p g before (x ∷ xs) [] ax lx ay ly = inr (x ∷ xs, refl)
both_from p g before (x ∷ xs) (y ∷ ys) ax lx ay ly =
    let requests : x.request ≡ y.request = cc in
    let answers : x.answer ≡ y.answer = one_answer p g x.request x.answer y.answer lx.0.answer (rw requests ly.0.answer) in
    let same : x ≡ y = same_entry x y requests answers in
    let rest = both_from p (after p g x) (before ++ x.answer ∷ []) xs ys (cc) lx.1 (rw answers (cc)) (rw same ly.1) in
    elim rest [ inl r ↦ inl (r.0, cc (r.1, same)) | inr r ↦ inr (r.0, cc (r.1, same)) ]

pub one_begins : (program : Program) (plan : Plan) (solo : Bool) (xs ys : List Entry) → OneBegins program plan solo xs ys
one_begins program plan solo xs ys ax lx ay ly = both_from (made_for program plan solo) (first_ledger (made_for program plan solo)) [] xs ys ax lx ay ly
