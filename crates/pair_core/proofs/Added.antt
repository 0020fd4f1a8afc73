-- An entry is added: the record stays lawful, and who runs after it was not cut at it.
use Rattle.std.proofs.Common.{◌≡◌, ◌∙◌, ℕ, ◌+◌, ◌<◌, Bool, true, false, [], ◌∷◌, ◌++◌, length, refl, ap, sym, subst, arith, length-append, Option, Some, None, inl, inr}
use Rattle.std.specs.Prelude.{◌&&◌, ◌||◌, not}
use Rattle.std.proofs.lemmas.List.{append-nil}
use Rattle.s7_events.specs.declared.entry.Side.{Side}
use Rattle.s7_events.specs.declared.entry.Side.TheVariants.{A, B}
use Rattle.s7_events.specs.declared.entry.Request.{Request}
use Rattle.s7_events.specs.declared.entry.Answer.{Answer}
use Rattle.s7_events.specs.declared.entry.Entry.{Entry}
use Rattle.mc_machine.specs.Meaning.{std, next_of, asked}
use Rattle.mc_machine.proofs.Asked.{asked_push}
use Rattle.pair_core.specs.Setup.{Setup}
use Rattle.pair_core.specs.Ledger.{Ledger, first_ledger, ledger, standing}
use Rattle.pair_core.specs.Sides.{runs}
use Rattle.pair_core.specs.Cuts.{is_cut, is_late}
use Rattle.pair_core.specs.Stops.{stop_of}
use Rattle.pair_core.specs.Lawful.{answer_at, MayAnswer, MayStand, someone_stands}
use Rattle.pair_core.specs.Showings.{is_output, shown_of}
use Rattle.pair_core.specs.Played.{answers_of}
use Rattle.pair_core.specs.World.{Log, standing_in, is_open, is_pending, next_entry, entry_for, entry_with, with_entry}
use Rattle.pair_core.specs.Good.{may_have, is_available, Settled, IsSameRecord, IsSameShown, GoodLog}
use Rattle.pair_core.proofs.Snoc.{stop_is, moment_is, standing_snoc, shown_snoc, marked_snoc, lawful_snoc, answers_snoc, requests_snoc}
use Rattle.pair_core.proofs.Answers.{Kind, answer_kind, Fresh, fresh_by}
use Rattle.pair_core.proofs.Opens.{open_going, open_room}
use Rattle.pair_core.proofs.Logs.{settled_shows}

-- the entry that comes next has the CPU's request and a lawful answer
pub record IsNext (p : Setup) (l : Log) (e : Entry) : Type 0 where
  pub asks : next_of (std p.program (answers_of l.entries)) ≡ Some e.request
  pub answer : MayAnswer p (ledger p l.entries) e.request e.answer

next_with : (request : Request) (o : Option Answer) (e : Entry) → entry_with request o ≡ Some e → (request ≡ e.request) × (o ≡ Some e.answer)
next_with request None e h = absurd cc
next_with request (Some answer) e h =
    let entry : Entry = record { request = request; answer = answer } in
    let same : entry ≡ e = cc in
    (ap (λ (x : Entry). x.request) same, ap (λ (x : Entry). Some x.answer) same)

next_for : (p : Setup) (l : Log) (o : Option Request) (e : Entry) → entry_for p l o ≡ Some e → (o ≡ Some e.request) × MayAnswer p (ledger p l.entries) e.request e.answer
next_for p l None e h = absurd cc
next_for p l (Some request) e h =
    let parts = next_with request (answer_at p (ledger p l.entries) request) e h in
    (ap Some parts.0, ap (λ (r : Request). answer_at p (ledger p l.entries) r) (sym parts.0) ∙ parts.1)

pub is_next : (p : Setup) (l : Log) (e : Entry) → next_entry p l ≡ Some e → IsNext p l e
is_next p l e h = let parts = next_for p l (next_of (std p.program (answers_of l.entries))) e h in record { asks = parts.0; answer = parts.1 }

-- of which kind its answer is
pub next_kind : (p : Setup) (l : Log) (e : Entry) → IsNext p l e → Kind p (ledger p l.entries) e.answer
next_kind p l e next = answer_kind p (ledger p l.entries) e.request e.answer next.answer

-- what holds of the standing after it, when a side that is not cut adds it
pub fresh_after : (p : Setup) (l : Log) (e : Entry) (s : Side) → IsNext p l e → runs (standing_in p l) (standing_in p l).master ≡ true → runs (standing_in p l) s ≡ true
    → is_cut p.plan s (length l.entries) ≡ false → Fresh p (ledger p l.entries) e.answer
fresh_after p l e s next master run uncut =
    fresh_by p (ledger p l.entries) e.answer s (next_kind p l e next) master run (subst (λ k. is_cut p.plan s k ≡ false) (sym (moment_is p l.entries)) uncut)

-- who runs after it ran before it, and was not cut at it
pub fresh_side : (p : Setup) (l : Log) (e : Entry) (s t : Side) → IsNext p l e → runs (standing_in p l) (standing_in p l).master ≡ true → runs (standing_in p l) s ≡ true
    → is_cut p.plan s (length l.entries) ≡ false → runs (standing_in p (with_entry l e)) t ≡ true → (is_cut p.plan t (length l.entries) ≡ false) × (runs (standing_in p l) t ≡ true)
fresh_side p l e s t next master run uncut r =
    let h = fresh_after p l e s next master run uncut in
    let now = subst (λ st. runs st t ≡ true) (standing_snoc p l.entries e) r in
    (subst (λ k. is_cut p.plan t k ≡ false) (moment_is p l.entries) (h.uncut t now), h.ran t now)

or_true : (b : Bool) → (b || true) ≡ true
or_true true = refl
or_true false = refl

stands_by : (p : Setup) (g : Ledger) (s : Side) → runs g.standing s ≡ true → is_cut p.plan s g.moment ≡ false → someone_stands p g ≡ true
stands_by p g A run uncut = rw (run, uncut)
stands_by p g B run uncut = rw (run, uncut) (or_true (g.standing.running.a && not (is_cut p.plan A g.moment)))

none_may : (cut late avail : Bool) → may_have cut late avail false false ≡ true
none_may true true avail = refl
none_may true false avail = refl
none_may false late avail = refl

added_shows : (p : Setup) (l : Log) (e : Entry) → Settled p l → (b : Bool) → is_output e ≡ b → IsSameShown p (with_entry l e)
added_shows p l e h false out = inl (record {
  shown = h.shown ∙ (rw (shown_snoc p (first_ledger p) l.entries e, out, append-nil));
  marked = h.marked ∙ (rw (marked_snoc 0 0 l.entries e, out));
})
added_shows p l e h true out = inr (record {
  front = l.entries;
  last = e;
  is = refl;
  output = out;
  marked = h.marked;
  by_master = false;
  by_other = false;
  shown = h.shown ∙ sym (append-nil (shown_of p l.entries));
  allowed = none_may (is_cut p.plan (standing_in p (with_entry l e)).master (length (l.entries ++ e ∷ []))) (is_late p.plan (standing_in p (with_entry l e)).master (length (l.entries ++ e ∷ []))) (is_available p (with_entry l e));
})

added_record : (p : Setup) (l : Log) (e : Entry) (s : Side) → IsSameRecord p l.entries → IsNext p l e → runs (standing_in p l) s ≡ true → is_cut p.plan s (length l.entries) ≡ false → is_open p l ≡ true
    → IsSameRecord p (l.entries ++ e ∷ [])
added_record p l e s good next run uncut on =
    let es = l.entries in
    let g = ledger p es in
    let less : length es < p.plan.end = open_room p l on in
    let now : is_cut p.plan s g.moment ≡ false = subst (λ k. is_cut p.plan s k ≡ false) (sym (moment_is p es)) uncut in
    let may : MayStand p g e = record { early = omega (arith, less, moment_is p es); going = stop_is p es ∙ open_going p l on; stands = stands_by p g s run now; answer = next.answer } in
    record {
      lawful = lawful_snoc p (first_ledger p) es e good.lawful may;
      requests =
          requests_snoc es e ∙ ap (λ l. l ++ Some e.request ∷ []) good.requests
          ∙ ap (λ o. asked p.program (answers_of es) ++ o ∷ []) (sym next.asks)
          ∙ sym (asked_push p.program [] (answers_of es) e.answer)
          ∙ ap (asked p.program) (sym (answers_snoc es e));
      within = omega (arith, less, length-append es (e ∷ []));
      master = subst (λ st. runs st st.master ≡ true) (sym (standing_snoc p es e)) (fresh_after p l e s next good.master run uncut).master;
      fresh = λ t r k is. (
          let here : k ≡ length es = omega (arith, is, length-append es (e ∷ [])) in
          let h = fresh_side p l e s t next good.master run uncut r in
          rw here h.0
          );
    }

pub good_added : (p : Setup) (l : Log) (e : Entry) (s : Side) → GoodLog p l → IsNext p l e → is_pending l ≡ false → runs (standing_in p l) s ≡ true → is_cut p.plan s (length l.entries) ≡ false → is_open p l ≡ true
    → GoodLog p (with_entry l e)
good_added p l e s good next settled run uncut on = record {
  same = added_record p l e s good.same next run uncut on;
  shows = added_shows p l e (settled_shows p l good.shows settled) (is_output e) refl;
}
