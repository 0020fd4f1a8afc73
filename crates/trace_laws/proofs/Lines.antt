-- What the line of an entry tells, behind its number.
use Rattle.std.proofs.Common.{◌≡◌, ◌∙◌, ℕ, ◌+◌, List, [], ◌∷◌, ◌++◌, refl, ap, sym, subst, arith}
use Rattle.std.specs.Prelude.{Some, codes}
use Rattle.std.specs.Fmt.{decimal}
use Rattle.std.proofs.lemmas.List.{append_assoc, append_cancel_left, same_from_push}
use Rattle.std.proofs.lemmas.List.Elements.{All-head, All-tail}
use Rattle.s7_events.specs.declared.entry.Ask.{Ask}
use Rattle.s7_events.specs.declared.entry.Answer.{Answer}
use Rattle.s7_events.specs.declared.entry.Request.{Request}
use Rattle.s7_events.specs.declared.entry.Entry.{Entry}
use Rattle.mc_machine.specs.Meaning.{std, next_of, asked_after}
use Rattle.pair_core.specs.Setup.{Setup}
use Rattle.pair_core.specs.Ledger.{Ledger, after}
use Rattle.pair_core.specs.Lawful.{LawfulFrom}
use Rattle.pair_core.specs.Played.{requests_of, answers_of}
use Rattle.trace_text.specs.EntryText.{ask_text, answer_text}
use Rattle.plant_script.specs.Plan.{IsPlan}
use Rattle.pair_core.proofs.Prefixes.{same_entry}
use Rattle.pair_core.proofs.Waiting.{IsFine, after_fine}
use Rattle.trace_laws.specs.Determines.{IsRequest, AreRequests}
use Rattle.trace_laws.proofs.Splits.{free_by, free_append, split_at}
use Rattle.trace_laws.proofs.AnswerTexts.{IsTold, answer_one, answer_free, lawful_told}
use Rattle.trace_laws.proofs.AskTexts.{numbers_split, ask_one, ask_free}

-- what stands between the number of an entry and its answer
abbrev pub middle : Request → List ℕ
middle r = codes " " ++ (decimal r.prio ++ (codes " " ++ (ask_text r.ask ++ codes " = ")))

-- the line of an entry behind its number, and what follows it
abbrev pub line_text : Entry → List ℕ → List ℕ
line_text e rest = middle e.request ++ (answer_text e.answer ++ 10 ∷ rest)

-- such lines of two entries tell the entries, where the texts are one
abbrev pub TellEntries : Entry → Entry → Type 0
TellEntries x y = (r r' : List ℕ) → line_text x r ≡ line_text y r' → (x ≡ y) × (r ≡ r')

-- so do the lines of two records, each where the entries before it are the same
abbrev pub Tell : List Entry → List Entry → Type 0
Tell [] ys = Unit {0}
Tell (x ∷ xs) [] = Unit {0}
Tell (x ∷ xs) (y ∷ ys) = TellEntries x y × (x ≡ y → Tell xs ys)

-- where the requests are the same, the answers tell them
by_request : (k : ℕ) (x y : Entry) → IsTold k x.answer → IsTold k y.answer → x.request ≡ y.request → TellEntries x y
by_request k x y told told' requests r r' e =
    let left = answer_text x.answer ++ 10 ∷ r in
    let right = answer_text y.answer ++ 10 ∷ r' in
    let answered : left ≡ right = append_cancel_left (middle x.request) left right (e ∙ ap (λ (q : Request). middle q ++ right) (sym requests)) in
    let parts = split_at 10 (answer_text x.answer) (answer_text y.answer) r r' (answer_free k x.answer told) (answer_free k y.answer told') answered in
    (same_entry x y requests (answer_one k x.answer y.answer told told' parts.0), parts.1)

-- the requests of one program are the same where the answers before them are
pub by_program : (before : List Answer) (p q : Setup) (g h : Ledger) (xs ys : List Entry) → p.program ≡ q.program → g.moment ≡ h.moment
    → IsPlan p.plan → IsFine g → IsPlan q.plan → IsFine h
    → requests_of xs ≡ asked_after p.program before (answers_of xs) → LawfulFrom p g xs
    → requests_of ys ≡ asked_after q.program before (answers_of ys) → LawfulFrom q h ys → Tell xs ys
by_program before p q g h [] ys same here fine sound fine' sound' ax lx ay ly = tt
by_program before p q g h (x ∷ xs) [] same here fine sound fine' sound' ax lx ay ly = tt
by_program before p q g h (x ∷ xs) (y ∷ ys) same here fine sound fine' sound' ax lx ay ly =
    let left : Some x.request ∷ requests_of xs ≡ next_of (std p.program before) ∷ asked_after p.program (before ++ x.answer ∷ []) (answers_of xs) = ax in
    let right : Some y.request ∷ requests_of ys ≡ next_of (std q.program before) ∷ asked_after q.program (before ++ y.answer ∷ []) (answers_of ys) = ay in
    let requests : x.request ≡ y.request = cc in
    let told = lawful_told p g x.request x.answer fine sound lx.0.answer in
    let told' : IsTold g.moment y.answer = subst (λ k. IsTold k y.answer) (sym here) (lawful_told q h y.request y.answer fine' sound' ly.0.answer) in (
      by_request g.moment x y told told' requests,
      λ one.
          let answers : y.answer ≡ x.answer = ap (λ (e : Entry). e.answer) (sym one) in
          let behind : requests_of ys ≡ asked_after q.program (before ++ x.answer ∷ []) (answers_of ys) =
          subst (λ (a : Answer). requests_of ys ≡ asked_after q.program (before ++ a ∷ []) (answers_of ys)) answers (cc right) in
          by_program (before ++ x.answer ∷ []) p q (after p g x) (after q h y) xs ys same (ap (λ k. k + 1) here) fine (after_fine p fine g x sound) fine' (after_fine q fine' h y sound') (cc left) lx.1 behind ly.1,
    )

-- requests in their ranges are told by their texts --

middle_shape : (p a t : List ℕ) → (32 ∷ (p ++ (32 ∷ (a ++ 32 ∷ 61 ∷ 32 ∷ [])))) ++ t ≡ 32 ∷ (p ++ 32 ∷ ((a ++ 32 ∷ []) ++ 61 ∷ 32 ∷ t))
middle_shape p a t = simp append_assoc

same_request : (a b : Request) → a.prio ≡ b.prio → a.ask ≡ b.ask → a ≡ b
same_request a b h g =
    let first = λ (n : ℕ). let r : Request = record { prio = n; ask = a.ask } in r in
    let second = λ (q : Ask). let r : Request = record { prio = b.prio; ask = q } in r in
    ap first h ∙ ap second g

request_one : (a b : Request) (r s : List ℕ) → IsRequest a → IsRequest b → middle a ++ r ≡ middle b ++ s → a ≡ b
request_one a b r s ra rb e =
    let shaped : 32 ∷ (decimal a.prio ++ 32 ∷ ((ask_text a.ask ++ 32 ∷ []) ++ 61 ∷ 32 ∷ r)) ≡ 32 ∷ (decimal b.prio ++ 32 ∷ ((ask_text b.ask ++ 32 ∷ []) ++ 61 ∷ 32 ∷ s)) =
    sym (middle_shape (decimal a.prio) (ask_text a.ask) r) ∙ e ∙ middle_shape (decimal b.prio) (ask_text b.ask) s in
    let behind : decimal a.prio ++ 32 ∷ ((ask_text a.ask ++ 32 ∷ []) ++ 61 ∷ 32 ∷ r) ≡ decimal b.prio ++ 32 ∷ ((ask_text b.ask ++ 32 ∷ []) ++ 61 ∷ 32 ∷ s) = cc in
    let low = ra.prio in
    let low' = rb.prio in
    let first = numbers_split a.prio b.prio ((ask_text a.ask ++ 32 ∷ []) ++ 61 ∷ 32 ∷ r) ((ask_text b.ask ++ 32 ∷ []) ++ 61 ∷ 32 ∷ s) (omega arith) (omega arith) behind in
    let blank = free_by 61 (32 ∷ []) refl in
    let second = split_at 61 (ask_text a.ask ++ 32 ∷ []) (ask_text b.ask ++ 32 ∷ []) (32 ∷ r) (32 ∷ s)
    (free_append 61 (ask_text a.ask) (32 ∷ []) (ask_free a.ask) blank) (free_append 61 (ask_text b.ask) (32 ∷ []) (ask_free b.ask) blank) first.1 in
    let asks = ask_one a.ask b.ask ra.ask rb.ask (same_from_push (ask_text a.ask) (ask_text b.ask) 32 32 second.0).0 in
    same_request a b first.0 asks

by_range_entry : (k : ℕ) (x y : Entry) → IsTold k x.answer → IsTold k y.answer → IsRequest x.request → IsRequest y.request → TellEntries x y
by_range_entry k x y told told' rx ry r r' e = by_request k x y told told' (request_one x.request y.request _ _ rx ry e) r r' e

pub by_range : (p q : Setup) (g h : Ledger) (xs ys : List Entry) → g.moment ≡ h.moment
    → IsPlan p.plan → IsFine g → IsPlan q.plan → IsFine h
    → AreRequests xs → LawfulFrom p g xs → AreRequests ys → LawfulFrom q h ys → Tell xs ys
by_range p q g h [] ys here fine sound fine' sound' rx lx ry ly = tt
by_range p q g h (x ∷ xs) [] here fine sound fine' sound' rx lx ry ly = tt
by_range p q g h (x ∷ xs) (y ∷ ys) here fine sound fine' sound' rx lx ry ly =
    let told = lawful_told p g x.request x.answer fine sound lx.0.answer in
    let told' : IsTold g.moment y.answer = subst (λ k. IsTold k y.answer) (sym here) (lawful_told q h y.request y.answer fine' sound' ly.0.answer) in (
      by_range_entry g.moment x y told told' (All-head (λ e. IsRequest e.request) x xs rx) (All-head (λ e. IsRequest e.request) y ys ry),
      λ one. by_range p q (after p g x) (after q h y) xs ys (ap (λ k. k + 1) here) fine (after_fine p fine g x sound) fine' (after_fine q fine' h y sound')
          (All-tail (λ e. IsRequest e.request) x xs rx) lx.1 (All-tail (λ e. IsRequest e.request) y ys ry) ly.1,
    )
