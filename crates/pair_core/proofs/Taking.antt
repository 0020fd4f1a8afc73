-- A subsystem takes an entry of the record.
use Rattle.std.proofs.Common.{arith, length-append, ◌≡◌, ◌∙◌, ℕ, ◌+◌, ◌≤◌, true, false, List, [], ◌∷◌, ◌++◌, length, take, drop, Option, Some, None, refl, ap, sym, subst, append_assoc, append-nil, add-zero, zero-add, add-one, slice_get}
use Rattle.std.proofs.lemmas.List.{take-append-drop, take_more, take_all, length-map, length-take-le}
use Rattle.std.proofs.lemmas.Option.{slice_get_within, get_or_from_slice_get}
use Rattle.std.proofs.Math.Seq.{drop-cons}
use Rattle.s7_events.specs.declared.entry.Side.{Side}
use Rattle.s7_events.specs.declared.entry.Side.TheVariants.{A, B}
use Rattle.s7_events.specs.declared.entry.Request.{Request}
use Rattle.s7_events.specs.declared.entry.Answer.{Answer}
use Rattle.s7_events.specs.declared.entry.Entry.{Entry}
use Rattle.s7_base.specs.Blocks.{Program}
use Rattle.mc_machine.specs.Meaning.{std, next_of, asked_after, takes, is_dated, stops_cpu}
use Rattle.mc_machine.specs.Stands.{Running, CanAsk, CanTake, CanGoOn, IsTaken, GoesOn, WaitsAt, Stands, CpuWaits}
use Rattle.plant_script.specs.Plan.{IsPlan}
use Rattle.subsystem.specs.Part.{Part, TookOne}
use Rattle.pair_core.specs.Setup.{Setup}
use Rattle.pair_core.specs.Ledger.{Ledger, first_ledger, after, ledger_from, ledger}
use Rattle.pair_core.specs.OwnParts.{OwnPart, own_place, taken_one, had_life}
use Rattle.pair_core.specs.Lawful.{MayStand, LawfulFrom}
use Rattle.pair_core.specs.Stops.{stop_by, stop_of}
use Rattle.pair_core.specs.Played.{requests_of, answers_of}
use Rattle.pair_core.specs.declared.sides.Sides.{Sides}
use Rattle.pair_core.specs.World.{Log}
use Rattle.pair_core.specs.Sides.{of_side, with_side}
use Rattle.pair_core.specs.Places.{IsAt}
use Rattle.pair_core.specs.Good.{GoodLog}
use Rattle.pair_core.proofs.Lasts.{stop_snoc}
use Rattle.pair_core.proofs.OwnParts.{own_longer, life_longer}
use Rattle.pair_core.proofs.Snoc.{stop_is, moment_is, answers_snoc}
use Rattle.pair_core.proofs.Answers.{lawful_dated, not_stopping}
use Rattle.pair_core.proofs.Fits.{lawful_takes}
use Rattle.pair_core.proofs.Waiting.{ledger_fine}

-- an entry in the middle of a lawful record may stand there
lawful_mid : (p : Setup) (g : Ledger) (front : List Entry) (e : Entry) (rest : List Entry) → LawfulFrom p g (front ++ e ∷ rest) → MayStand p (ledger_from p g front) e
lawful_mid p g [] e rest h = h.0
lawful_mid p g (x ∷ xs) e rest h = lawful_mid p (after p g x) xs e rest h.1

-- the request of an entry in the middle is what the CPU asks there
asked_mid : (program : Program) (before : List Answer) (front : List Entry) (e : Entry) (rest : List Entry)
    → requests_of (front ++ e ∷ rest) ≡ asked_after program before (answers_of (front ++ e ∷ rest)) → next_of (std program (before ++ answers_of front)) ≡ Some e.request
asked_mid program before [] e rest h =
    let same : next_of (std program before) ≡ Some e.request = cc in
    ap (λ l. next_of (std program l)) (append-nil before) ∙ same
asked_mid program before (x ∷ xs) e rest h =
    let more : requests_of (xs ++ e ∷ rest) ≡ asked_after program (before ++ x.answer ∷ []) (answers_of (xs ++ e ∷ rest)) = cc in
    ap (λ l. next_of (std program l)) (sym (append_assoc before (x.answer ∷ []) (answers_of xs))) ∙ asked_mid program (before ++ x.answer ∷ []) xs e rest more

drop_at : (xs : List Entry) (k : ℕ) (x : Entry) → slice_get xs k ≡ Some x → drop k xs ≡ x ∷ drop (k + 1) xs
drop_at xs k x here =
    let within = slice_get_within xs k x here in
    let get = get_or_from_slice_get xs k x x here in
    rw (add-one, drop-cons xs k x within, get)

split_at : (es : List Entry) (k : ℕ) (e : Entry) → slice_get es k ≡ Some e → es ≡ take k es ++ e ∷ drop (k + 1) es
split_at es k e here = sym (take-append-drop k es) ∙ ap (λ (l : List Entry). take k es ++ l) (drop_at es k e here)

-- what is known of an entry of a good record
pub record IsMet (p : Setup) (l : Log) (k : ℕ) (e : Entry) : Type 0 where
  pub going : stop_of (take k l.entries) ≡ None
  pub fits : takes e.request e.answer ≡ true
  pub dated : is_dated k e.answer ≡ true
  pub asked : next_of (std p.program (answers_of (take k l.entries))) ≡ Some e.request

pub met : (p : Setup) (l : Log) (k : ℕ) (e : Entry) → IsPlan p.plan → GoodLog p l → slice_get l.entries k ≡ Some e → IsMet p l k e
met p l k e fine good here =
    let is : l.entries ≡ take k l.entries ++ e ∷ drop (k + 1) l.entries = split_at l.entries k e here in
    let front = take k l.entries in
    let rest = drop (k + 1) l.entries in
    let g = ledger p front in
    let may : MayStand p g e = lawful_mid p (first_ledger p) front e rest (subst (λ es. LawfulFrom p (first_ledger p) es) is good.same.lawful) in
    let here_k : g.moment ≡ k = moment_is p front ∙ length-take-le k l.entries (let within = slice_get_within l.entries k e here in omega arith) in
    record {
      going = sym (stop_is p front) ∙ may.going;
      fits = lawful_takes p g e.request e.answer fine (ledger_fine p front fine) may.answer;
      dated = subst (λ n. is_dated n e.answer ≡ true) here_k (lawful_dated p g e.request e.answer may.answer);
      asked = asked_mid p.program [] front e rest (subst (λ es. requests_of es ≡ asked_after p.program [] (answers_of es)) is good.same.requests);
    }

-- the machine ---------------------------------------------------------------

pub waits_next : (program : Program) (given : List Answer) (request : Request) (machine : Option Running) → CpuWaits program given request machine → next_of (std program given) ≡ Some request
waits_next program given request None waits = absurd waits
waits_next program given request (Some running) waits = ap next_of waits.1

pub can_take : (machine : Option Running) (request : Request) (answer : Answer) → WaitsAt machine request → takes request answer ≡ true → CanTake machine answer
can_take None request answer waits fits = absurd waits
can_take (Some running) request answer waits fits = subst (λ o. IsTaken o answer) (sym waits) fits

can_go_on : (machine : Option Running) (request : Request) (answer : Answer) → WaitsAt machine request → stops_cpu request.ask answer ≡ false → CanGoOn machine answer
can_go_on None request answer waits on = absurd waits
can_go_on (Some running) request answer waits on = subst (λ o. GoesOn o answer) (sym waits) on

-- a subsystem that stands where its part says can be asked
pub can_ask_at : (program : Program) (own : OwnPart) (es : List Entry) (s : Part) → IsAt program own es s → own.alive ≡ true → stop_of (take (own_place own) es) ≡ None → CanAsk s.machine
can_ask_at program own es s at_old alive going = (at_old.machine alive).going going

pub stands_at : (program : Program) (own : OwnPart) (es : List Entry) (s : Part) → IsAt program own es s → own.alive ≡ true → Stands program (answers_of (take (own_place own) es)) s.machine
stands_at program own es s at_old alive = (at_old.machine alive).stands

-- the machine waits at the request that the CPU makes
pub asked_same : (program : Program) (own : OwnPart) (es : List Entry) (s new : Part) (request asks : Request)
    → IsAt program own es s → own.alive ≡ true
    → (Stands program (answers_of (take (own_place own) es)) s.machine → CpuWaits program (answers_of (take (own_place own) es)) asks new.machine)
    → next_of (std program (answers_of (take (own_place own) es))) ≡ Some request → asks ≡ request
asked_same program own es s new request asks at_old alive next is =
    let mine : next_of (std program (answers_of (take (own_place own) es))) ≡ Some asks = waits_next program (answers_of (take (own_place own) es)) asks new.machine (next (stands_at program own es s at_old alive)) in
    cc

-- a machine that waits at the record's request takes the record's answer
pub takes_next : (program : Program) (own : OwnPart) (es : List Entry) (s new : Part) (request asks : Request) (answer : Answer)
    → IsAt program own es s → own.alive ≡ true → WaitsAt new.machine asks
    → (Stands program (answers_of (take (own_place own) es)) s.machine → CpuWaits program (answers_of (take (own_place own) es)) asks new.machine)
    → next_of (std program (answers_of (take (own_place own) es))) ≡ Some request → takes request answer ≡ true → CanTake new.machine answer
takes_next program own es s new request asks answer at_old alive waits next is fits =
    let same : asks ≡ request = asked_same program own es s new request asks at_old alive next is in
    can_take new.machine asks answer waits (subst (λ r. takes r answer ≡ true) (sym same) fits)

-- an entry is taken --------------------------------------------------------

-- a side that has taken an entry stands behind it
pub took : (program : Program) (own : OwnPart) (before fs : List Entry) (e : Entry) (mid new : Part) (request : Request)
    → own.alive ≡ true → had_life own.lives ≡ true → mid.lives ≡ own.lives → WaitsAt mid.machine request → request ≡ e.request
    → take (own_place own + 1) fs ≡ before ++ e ∷ []
    → TookOne mid.lives new.lives → (CanGoOn mid.machine e.answer → CanAsk new.machine) → Stands program (answers_of before ++ e.answer ∷ []) new.machine
    → IsAt program (taken_one own) fs new
took program own before fs e mid new request alive had lives waits asks more longer going stands =
    let here : take (own_place (taken_one own)) fs ≡ before ++ e ∷ [] = ap (λ k. take k fs) (own_longer own had) ∙ more in record {
      lives = life_longer own.lives mid.lives new.lives lives longer;
      idle = λ off. absurd cc;
      machine = λ on. record {
        stands = subst (λ l. Stands program l new.machine) (sym (ap answers_of here ∙ answers_snoc before e)) stands;
        going = λ free. (
            let none : stop_by e.request.ask e.answer ≡ None = sym (stop_snoc None before e) ∙ ap stop_of (sym here) ∙ free in
            let mine : stops_cpu request.ask e.answer ≡ false = ap (λ r. stops_cpu r.ask e.answer) asks ∙ not_stopping e.request.ask e.answer none in
            going (can_go_on mid.machine request e.answer waits mine)
            );
      };
    }

pub answers_length : (es : List Entry) (k : ℕ) → k ≤ length es → length (answers_of (take k es)) ≡ k
answers_length es k few = length-map (take k es) (λ (x : Entry). x.answer) ∙ length-take-le k es few

-- the entries before and including entry k
pub take_next : (es : List Entry) (k : ℕ) (e : Entry) → slice_get es k ≡ Some e → take (k + 1) es ≡ take k es ++ e ∷ []
take_next es k e here =
    let within = slice_get_within es k e here in
    take_more es k e within ∙ ap (λ (x : Entry). take k es ++ x ∷ []) (get_or_from_slice_get es k e e here)

part_put : (parts : Sides OwnPart) (side : Side) (own : OwnPart) → of_side (with_side parts side own) side ≡ own
part_put parts A own = refl
part_put parts B own = refl

-- a subsystem stands where the part of a side that has taken an entry says
pub put_taken : (parts new : Sides OwnPart) (side : Side) (program : Program) (es : List Entry) (s : Part)
    → new ≡ with_side parts side (taken_one (of_side parts side)) → IsAt program (taken_one (of_side parts side)) es s → IsAt program (of_side new side) es s
put_taken parts new side program es s put h =
    let same : of_side new side ≡ taken_one (of_side parts side) = ap (λ ps. of_side ps side) put ∙ part_put parts side (taken_one (of_side parts side)) in
    subst (λ o. IsAt program o es s) (sym same) h

-- a side that has appended an entry, and taken it, stands behind it
pub put_added : (program now : Program) (parts mid new : Sides OwnPart) (side : Side) (es all : List Entry) (e : Entry) (s : Part)
    → now ≡ program → all ≡ es ++ e ∷ [] → mid ≡ parts → new ≡ with_side mid side (taken_one (of_side mid side))
    → IsAt program (taken_one (of_side parts side)) (es ++ e ∷ []) s → IsAt now (of_side new side) all s
put_added program now parts mid new side es all e s same longer kept put h =
    rw (same, longer)
    (put_taken parts new side program (es ++ e ∷ []) s (put ∙ ap (λ (q : Sides OwnPart). with_side q side (taken_one (of_side q side))) kept) h)

-- all entries and the one that was added
pub take_added : (es : List Entry) (k : ℕ) (e : Entry) → k ≡ length es → take (k + 1) (es ++ e ∷ []) ≡ es ++ e ∷ []
take_added es k e here = take_all (k + 1) (es ++ e ∷ []) (omega (arith, here, length-append es (e ∷ [])))

-- what stands for a program after the entries of a place stands after all of them where the place is their end
pub stands_all : (program : Program) (own : OwnPart) (es : List Entry) (s : Part) → IsAt program own es s → own.alive ≡ true → own_place own ≡ length es → Stands program (answers_of es) s.machine
stands_all program own es s at_old alive here =
    let all : take (own_place own) es ≡ es = take_all (own_place own) es (omega (arith, here)) in
    subst (λ l. Stands program (answers_of l) s.machine) all (stands_at program own es s at_old alive)
