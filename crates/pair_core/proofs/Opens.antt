-- A record to which another entry may be added.
use Rattle.std.proofs.Common.{◌≡◌, ◌∙◌, ℕ, ◌+◌, ◌<◌, Bool, true, false, not, ◌&&◌, nat_lt, List, [], ◌∷◌, ◌++◌, length, take, Option, Some, None, is_some, refl, ap, arith, length-append}
use Rattle.std.proofs.lemmas.Bool.Decides.{nat_tests}
use Rattle.std.proofs.Math.Seq.{take-length}
use Rattle.s7_events.specs.declared.entry.Entry.{Entry}
use Rattle.s7_events.specs.declared.entry.Request.{Request}
use Rattle.s7_events.specs.declared.entry.Answer.{Answer}
use Rattle.mc_machine.specs.Meaning.{std, next_of}
use Rattle.pair_core.specs.Setup.{Setup}
use Rattle.pair_core.specs.Ledger.{ledger}
use Rattle.pair_core.specs.Lawful.{MayAnswer}
use Rattle.pair_core.specs.Stops.{stop_of}
use Rattle.pair_core.specs.Played.{answers_of}
use Rattle.pair_core.specs.World.{Log, is_open, next_entry, entry_for, entry_with}

not_some : {X : Type 0} (early : Bool) (o : Option X) → (early && not (is_some o)) ≡ true → o ≡ None
not_some early None h = refl
not_some true (Some x) h = absurd cc
not_some false (Some x) h = absurd cc

is_early : (early : Bool) (b : Bool) → (early && b) ≡ true → early ≡ true
is_early true b h = refl
is_early false b h = absurd cc

-- the last entry of an open record does not stop the CPU
pub open_going : (p : Setup) (l : Log) → is_open p l ≡ true → stop_of l.entries ≡ None
unfolding is_open
open_going p l h = not_some (nat_lt (length l.entries) p.plan.end) (stop_of l.entries) h

-- and the record is not full
pub open_room : (p : Setup) (l : Log) → is_open p l ≡ true → length l.entries < p.plan.end
unfolding is_open
open_room p l h =
    let early : nat_lt (length l.entries) p.plan.end ≡ true = is_early (nat_lt (length l.entries) p.plan.end) (not (is_some (stop_of l.entries))) h in
    grind (arith, nat_tests)

-- a record that is not full and goes on is open
pub open_by : (p : Setup) (l : Log) → stop_of l.entries ≡ None → length l.entries < p.plan.end → is_open p l ≡ true
unfolding is_open
open_by p l free less =
    let early : nat_lt (length l.entries) p.plan.end ≡ true = grind (arith, nat_tests) in
    rw (early, free)

pub going_at : (p : Setup) (l : Log) (k : ℕ) → is_open p l ≡ true → k ≡ length l.entries → stop_of (take k l.entries) ≡ None
going_at p l k h here = ap (λ n. stop_of (take n l.entries)) here ∙ (ap stop_of (take-length l.entries) ∙ open_going p l h)

-- the entry that comes next
pub next_is : (p : Setup) (l : Log) (request : Request) (answer : Answer) → next_of (std p.program (answers_of l.entries)) ≡ Some request
    → MayAnswer p (ledger p l.entries) request answer → next_entry p l ≡ Some (record { request = request; answer = answer })
next_is p l request answer asks is = ap (entry_for p l) asks ∙ ap (entry_with request) is

pub take_all : (es : List Entry) (k : ℕ) → k ≡ length es → take k es ≡ es
take_all es k here = ap (λ n. take n es) here ∙ take-length es

-- all entries and one more
pub take_added : (es : List Entry) (e : Entry) (k : ℕ) → k ≡ length es → take (k + 1) (es ++ e ∷ []) ≡ es ++ e ∷ []
take_added es e k here =
    let all : k + 1 ≡ length (es ++ e ∷ []) = omega (arith, length-append es (e ∷ [])) in
    take_all (es ++ e ∷ []) (k + 1) all
