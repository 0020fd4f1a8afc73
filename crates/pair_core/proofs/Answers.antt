-- The lawful answer: of which kind it is, and when it stops the CPU.
use Rattle.std.proofs.Common.{◌≡◌, ◌∙◌, ℕ, Bool, true, false, ◌&&◌, List, Option, Some, None, refl, ap, sym, subst, inl, inr}
use Rattle.std.specs.Prelude.{if◌then◌else◌, ◌⊎◌}
use Rattle.std.proofs.lemmas.Bool.{eq-eqb}
use Rattle.s7_events.specs.declared.entry.Side.{Side}
use Rattle.s7_events.specs.declared.entry.Side.TheVariants.{A, B}
use Rattle.s7_events.specs.declared.entry.Loss.TheVariants.{Failed}
use Rattle.s7_events.specs.declared.entry.Ask.{Ask}
use Rattle.s7_events.specs.declared.entry.Ask.TheVariants as asks
use Rattle.s7_events.specs.declared.entry.StopCode.TheVariants as codes
use Rattle.s7_events.specs.declared.entry.Request.{Request}
use Rattle.s7_events.specs.declared.entry.Job.{Job}
use Rattle.s7_events.specs.declared.entry.Answer.{Answer}
use Rattle.s7_events.specs.declared.entry.Answer.TheVariants as answers
use Rattle.mc_machine.specs.Meaning.{is_dated, stops_cpu}
use Rattle.plant_io.specs.Inputs.{input_image, input_read, takes_output}
use Rattle.alarm_queue.specs.Waiting.{first_above}
use Rattle.pair_core.specs.declared.standing.Standing.{Standing}
use Rattle.pair_core.specs.Setup.{Setup}
use Rattle.pair_core.specs.Ledger.{Ledger}
use Rattle.pair_core.specs.Sides.{other_side, runs, after_answer}
use Rattle.pair_core.specs.Cuts.{is_cut}
use Rattle.pair_core.specs.Stops.{stop_by}
use Rattle.pair_core.specs.Losses.{loses_by}
use Rattle.pair_core.specs.PlantInputs.{answer_read, answer_written}
use Rattle.pair_core.specs.Monitor.{is_overdue}
use Rattle.pair_core.specs.Lawful.{plain_answer, alarm_or, job_or, job_for, calm_answer, going_answer, falls, answer_at, MayAnswer}

-- what holds of every lawful answer --------------------------------------------

-- it holds of the alarm that goes first
abbrev pub IfAlarm : (Answer → Type 0) → Ledger → Request → Type 0
IfAlarm P g request = (x : ℕ × ℕ) → first_above request.prio g.waiting ≡ Some x → P (answers.Alarm x.0 x.1)

-- of the job that is done first, where no alarm goes first
abbrev pub IfJob : (Answer → Type 0) → Setup → Ledger → Request → Type 0
IfJob P p g request = (j : Job) → first_above request.prio g.waiting ≡ None → job_for p g request.ask ≡ Some j → P (answers.Job j)

-- of the plain answer, where no alarm goes first
abbrev pub IfPlain : (Answer → Type 0) → Setup → Ledger → Request → Type 0
IfPlain P p g request = (a : Answer) → first_above request.prio g.waiting ≡ None → plain_answer p g request.ask ≡ Some a → P a

calm_by : (P : Answer → Type 0) (p : Setup) (g : Ledger) (ask : Ask) (answer : Answer) (o : Option Job) → job_or o (plain_answer p g ask) ≡ Some answer
    → ((j : Job) → o ≡ Some j → P (answers.Job j)) → ((a : Answer) → plain_answer p g ask ≡ Some a → P a) → P answer
calm_by P p g ask answer None is job plain = plain answer is
calm_by P p g ask answer (Some j) is job plain = let same : answers.Job j ≡ answer = cc in subst P same (job j refl)

alarm_by : (P : Answer → Type 0) (p : Setup) (g : Ledger) (ask : Ask) (answer : Answer) (o : Option (ℕ × ℕ)) → alarm_or o (calm_answer p g ask) ≡ Some answer
    → ((x : ℕ × ℕ) → o ≡ Some x → P (answers.Alarm x.0 x.1)) → ((j : Job) → o ≡ None → job_for p g ask ≡ Some j → P (answers.Job j))
    → ((a : Answer) → o ≡ None → plain_answer p g ask ≡ Some a → P a) → P answer
alarm_by P p g ask answer None is alarm job plain = calm_by P p g ask answer (job_for p g ask) is (λ j. job j refl) (λ a. plain a refl)
alarm_by P p g ask answer (Some x) is alarm job plain = let same : answers.Alarm x.0 x.1 ≡ answer = cc in subst P same (alarm x refl)

going_by : (P : Answer → Type 0) (p : Setup) (g : Ledger) (request : Request) (answer : Answer) (overdue : Bool)
    → (if overdue then Some (answers.CpuStop codes.Cycle) else alarm_or (first_above request.prio g.waiting) (calm_answer p g request.ask)) ≡ Some answer
    → P (answers.CpuStop codes.Cycle) → IfAlarm P g request → IfJob P p g request → IfPlain P p g request → P answer
going_by P p g request answer true is stop alarm job plain = let same : answers.CpuStop codes.Cycle ≡ answer = cc in subst P same stop
going_by P p g request answer false is stop alarm job plain = alarm_by P p g request.ask answer (first_above request.prio g.waiting) is alarm job plain

going_any : (P : Answer → Type 0) (p : Setup) (g : Ledger) (request : Request) (answer : Answer) → going_answer p g request ≡ Some answer
    → P (answers.CpuStop codes.Cycle) → IfAlarm P g request → IfJob P p g request → IfPlain P p g request → P answer
unfolding going_answer
going_any P p g request answer is stop alarm job plain = going_by P p g request answer (is_overdue p.program g.watch g.moment) is stop alarm job plain

any_by : (P : Answer → Type 0) (p : Setup) (g : Ledger) (request : Request) (answer : Answer) (a b : Bool)
    → (if a then Some (answers.Lost A Failed) else (if b then Some (answers.Lost B Failed) else going_answer p g request)) ≡ Some answer
    → ((t : Side) → P (answers.Lost t Failed)) → P (answers.CpuStop codes.Cycle) → IfAlarm P g request → IfJob P p g request → IfPlain P p g request → P answer
any_by P p g request answer true b is lost stop alarm job plain = let same : answers.Lost A Failed ≡ answer = cc in subst P same (lost A)
any_by P p g request answer false true is lost stop alarm job plain = let same : answers.Lost B Failed ≡ answer = cc in subst P same (lost B)
any_by P p g request answer false false is lost stop alarm job plain = going_any P p g request answer is stop alarm job plain

-- what holds of the loss of a side, of the stop of the CPU, of the first alarm, of the next job and of plain answers holds of every
-- answer that may be given
pub answer_any : (P : Answer → Type 0) (p : Setup) (g : Ledger) (request : Request) (answer : Answer) → MayAnswer p g request answer
    → ((t : Side) → P (answers.Lost t Failed)) → P (answers.CpuStop codes.Cycle) → IfAlarm P g request → IfJob P p g request → IfPlain P p g request → P answer
answer_any P p g request answer is lost stop alarm job plain = any_by P p g request answer (falls p g A) (falls p g B) is lost stop alarm job plain

pub given : (P : Answer → Type 0) (x a : Answer) → Some x ≡ Some a → P x → P a
given P x a is h = let same : x ≡ a = cc in subst P same h

-- what is read by a direct access at the moment
abbrev pub read_at : Setup → Ledger → ℕ → ℕ → Option ℕ
read_at p g addr width = input_read p.plan g.standing.running.a g.standing.running.b g.inputs g.moment addr width

abbrev pub image_at : Setup → Ledger → List ℕ
image_at p g = input_image p.plan g.standing.running.a g.standing.running.b g.inputs g.moment

read_any : (P : Answer → Type 0) (o : Option ℕ) (a : Answer) → Some (answer_read o) ≡ Some a → P answers.NoModule → ((value : ℕ) → o ≡ Some value → P (answers.Value value)) → P a
read_any P None a is none read = given P answers.NoModule a is none
read_any P (Some value) a is none read = given P (answers.Value value) a is (read value refl)

written_any : (P : Answer → Type 0) (b : Bool) (a : Answer) → Some (answer_written b) ≡ Some a → P answers.NoModule → P answers.Done → P a
written_any P true a is none done = given P answers.Done a is done
written_any P false a is none done = given P answers.NoModule a is none

-- a plain answer is Done, the input image, Go, the moment, that there is no module, or the value that is read
pub plain_any : (P : Answer → Type 0) (p : Setup) (g : Ledger) (ask : Ask) (a : Answer) → plain_answer p g ask ≡ Some a
    → P answers.Done → P (answers.Image (image_at p g)) → P answers.Go → P (answers.Now g.moment) → P answers.NoModule
    → ((addr width value : ℕ) → read_at p g addr width ≡ Some value → P (answers.Value value)) → P a
plain_any P p g (asks.Outputs image) a is done inputs go now none read = given P answers.Done a is done
plain_any P p g asks.Inputs a is done inputs go now none read = given P (answers.Image (image_at p g)) a is inputs
plain_any P p g asks.Cycle a is done inputs go now none read = given P answers.Go a is go
plain_any P p g asks.Now a is done inputs go now none read = given P (answers.Now g.moment) a is now
plain_any P p g asks.Tick a is done inputs go now none read = given P answers.Done a is done
plain_any P p g asks.Retrigger a is done inputs go now none read = given P answers.Done a is done
plain_any P p g (asks.Reply value) a is done inputs go now none read = given P answers.Done a is done
plain_any P p g (asks.Stop code) a is done inputs go now none read = given P answers.Done a is done
plain_any P p g (asks.ReadP addr width) a is done inputs go now none read = read_any P (read_at p g addr width) a is none (read addr width)
plain_any P p g (asks.WriteP addr width value) a is done inputs go now none read =
    written_any P (takes_output p.plan g.standing.running.a g.standing.running.b addr width) a is none done

-- of which kind it is ------------------------------------------------------------

-- by this answer a side comes back
abbrev pub comes_back : Answer → Bool
comes_back (answers.Back s) = true
comes_back answer = false

-- the answer takes a side out, of two that run, that is cut
pub record IsLoss (p : Setup) (g : Ledger) (t : Side) (answer : Answer) : Type 0 where
  pub is : answer ≡ answers.Lost t Failed
  pub a : g.standing.running.a ≡ true
  pub b : g.standing.running.b ≡ true
  pub cut : is_cut p.plan t g.moment ≡ true

-- by the answer no side is lost and none comes back
pub record LeavesStanding (answer : Answer) : Type 0 where
  pub same : (st : Standing) → after_answer st answer ≡ st
  pub keeps : (s : Side) → loses_by answer s ≡ false
  pub stays : comes_back answer ≡ false

-- the answer leaves the standing, and of two sides that run none is cut
pub record IsCalm (p : Setup) (g : Ledger) (answer : Answer) : Type 0 where
  pub leaves : LeavesStanding answer
  pub uncut : (s : Side) → falls p g s ≡ false

abbrev pub Kind : Setup → Ledger → Answer → Type 0
Kind p g answer = ((t : Side) × IsLoss p g t answer) ⊎ IsCalm p g answer

plain_leaves : (p : Setup) (g : Ledger) (ask : Ask) (a : Answer) → plain_answer p g ask ≡ Some a → LeavesStanding a
plain_leaves p g ask a is =
    plain_any LeavesStanding p g ask a is
    (record { same = λ st. refl; keeps = λ s. refl; stays = refl }) (record { same = λ st. refl; keeps = λ s. refl; stays = refl })
    (record { same = λ st. refl; keeps = λ s. refl; stays = refl }) (record { same = λ st. refl; keeps = λ s. refl; stays = refl })
    (record { same = λ st. refl; keeps = λ s. refl; stays = refl }) (λ addr width value read. record { same = λ st. refl; keeps = λ s. refl; stays = refl })

going_leaves : (p : Setup) (g : Ledger) (request : Request) (answer : Answer) → going_answer p g request ≡ Some answer → LeavesStanding answer
going_leaves p g request answer is =
    going_any LeavesStanding p g request answer is (record { same = λ st. refl; keeps = λ s. refl; stays = refl })
    (λ x first. record { same = λ st. refl; keeps = λ s. refl; stays = refl }) (λ j none next. record { same = λ st. refl; keeps = λ s. refl; stays = refl })
    (λ a none. plain_leaves p g request.ask a)

and_left : (x y : Bool) → (x && y) ≡ true → x ≡ true
and_left true y h = refl
and_left false y h = absurd cc

and_right : (x y : Bool) → (x && y) ≡ true → y ≡ true
and_right true y h = h
and_right false y h = absurd cc

loss_of : (p : Setup) (g : Ledger) (t : Side) (answer : Answer) → falls p g t ≡ true → Some (answers.Lost t Failed) ≡ Some answer → IsLoss p g t answer
loss_of p g t answer h is =
    let both = and_left (g.standing.running.a && g.standing.running.b) (is_cut p.plan t g.moment) h in
    let same : answers.Lost t Failed ≡ answer = cc in
    record {
      is = sym same;
      a = and_left g.standing.running.a g.standing.running.b both;
      b = and_right g.standing.running.a g.standing.running.b both;
      cut = and_right (g.standing.running.a && g.standing.running.b) (is_cut p.plan t g.moment) h;
    }

kind_by : (p : Setup) (g : Ledger) (request : Request) (answer : Answer) (fa fb : Bool) → falls p g A ≡ fa → falls p g B ≡ fb
    → (if fa then Some (answers.Lost A Failed) else (if fb then Some (answers.Lost B Failed) else going_answer p g request)) ≡ Some answer → Kind p g answer
kind_by p g request answer true fb ha hb is = inl (A, loss_of p g A answer ha is)
kind_by p g request answer false true ha hb is = inl (B, loss_of p g B answer hb is)
kind_by p g request answer false false ha hb is = inr (record {
  leaves = going_leaves p g request answer is;
  uncut = λ s. elim s as (λ v. falls p g v ≡ false) [ A ↦ ha | B ↦ hb ];
})

-- a lawful answer is the loss of a side that is cut, of two that run, or it leaves the standing
pub answer_kind : (p : Setup) (g : Ledger) (request : Request) (answer : Answer) → MayAnswer p g request answer → Kind p g answer
answer_kind p g request answer is = kind_by p g request answer (falls p g A) (falls p g B) refl refl is

-- no side comes back by it
pub kind_stays : (p : Setup) (g : Ledger) (answer : Answer) → Kind p g answer → comes_back answer ≡ false
kind_stays p g answer (inl l) = ap comes_back l.1.is
kind_stays p g answer (inr c) = c.leaves.stays

lost_same : (u t : Side) → loses_by (answers.Lost u Failed) t ≡ true → u ≡ t
lost_same A A h = refl
lost_same A B h = absurd cc
lost_same B A h = absurd cc
lost_same B B h = refl

both_run : (st : Standing) (t : Side) → st.running.a ≡ true → st.running.b ≡ true → runs st t ≡ true
both_run st A a b = a
both_run st B a b = b

-- a side that it takes out failed
pub kind_lost : (p : Setup) (g : Ledger) (answer : Answer) (t : Side) → Kind p g answer → loses_by answer t ≡ true → IsLoss p g t answer
kind_lost p g answer t (inl l) h =
    let same : l.0 ≡ t = lost_same l.0 t (subst (λ x. loses_by x t ≡ true) l.1.is h) in
    subst (λ v. IsLoss p g v answer) same l.1
kind_lost p g answer t (inr c) h = absurd (let no = c.leaves.keeps t in cc)

-- that side runs and is cut
pub lost_was_cut : (p : Setup) (g : Ledger) (answer : Answer) (t : Side) → Kind p g answer → loses_by answer t ≡ true → (is_cut p.plan t g.moment ≡ true) × (runs g.standing t ≡ true)
lost_was_cut p g answer t kind h = let l = kind_lost p g answer t kind h in (l.cut, both_run g.standing t l.a l.b)

-- who runs after it ---------------------------------------------------------------

-- of the sides that run after an answer none is cut at its moment, and each ran before; and the master runs
pub record Fresh (p : Setup) (g : Ledger) (answer : Answer) : Type 0 where
  pub uncut : (t : Side) → runs (after_answer g.standing answer) t ≡ true → is_cut p.plan t g.moment ≡ false
  pub ran : (t : Side) → runs (after_answer g.standing answer) t ≡ true → runs g.standing t ≡ true
  pub master : runs (after_answer g.standing answer) (after_answer g.standing answer).master ≡ true

lost_runs : (st : Standing) (t v : Side) → runs (after_answer st (answers.Lost t Failed)) v ≡ true → (v ≡ other_side t) × (runs st v ≡ true)
lost_runs st A A r = absurd cc
lost_runs st A B r = (refl, r)
lost_runs st B A r = (refl, r)
lost_runs st B B r = absurd cc

lost_master : (st : Standing) (t : Side) → st.running.a ≡ true → st.running.b ≡ true → runs (after_answer st (answers.Lost t Failed)) (after_answer st (answers.Lost t Failed)).master ≡ true
lost_master st A a b = b
lost_master st B a b = a

-- of a side that is not cut and one that is, each is the other one
apart : (s t : Side) (cut : Side → Bool) → cut s ≡ false → cut t ≡ true → other_side t ≡ s
apart A A cut here there = absurd cc
apart A B cut here there = refl
apart B A cut here there = refl
apart B B cut here there = absurd cc

fresh_loss : (p : Setup) (g : Ledger) (s t : Side) → is_cut p.plan s g.moment ≡ false → g.standing.running.a ≡ true → g.standing.running.b ≡ true → is_cut p.plan t g.moment ≡ true
    → Fresh p g (answers.Lost t Failed)
fresh_loss p g s t uncut a b cut = record {
  uncut = λ v r. (
      let same : v ≡ s = (lost_runs g.standing t v r).0 ∙ apart s t (λ x. is_cut p.plan x g.moment) uncut cut in
      subst (λ x. is_cut p.plan x g.moment ≡ false) (sym same) uncut
      );
  ran = λ v r. (lost_runs g.standing t v r).1;
  master = lost_master g.standing t a b;
}

third : (x y z : Bool) → x ≡ true → y ≡ true → (x && y && z) ≡ false → z ≡ false
third true true z hx hy h = h
third false y z hx hy h = absurd cc
third true false z hx hy h = absurd cc

-- where nobody falls, a side that runs is not cut, if the visitor is not
calm_uncut : (p : Setup) (g : Ledger) (s t : Side) → runs g.standing s ≡ true → is_cut p.plan s g.moment ≡ false → ((v : Side) → falls p g v ≡ false) → runs g.standing t ≡ true
    → is_cut p.plan t g.moment ≡ false
calm_uncut p g A A run uncut none r = uncut
calm_uncut p g A B run uncut none r = third g.standing.running.a g.standing.running.b (is_cut p.plan B g.moment) run r (none B)
calm_uncut p g B A run uncut none r = third g.standing.running.a g.standing.running.b (is_cut p.plan A g.moment) r run (none A)
calm_uncut p g B B run uncut none r = uncut

-- what holds of the standing after the answer, where a side that is not cut adds it
pub fresh_by : (p : Setup) (g : Ledger) (answer : Answer) (s : Side) → Kind p g answer → runs g.standing g.standing.master ≡ true → runs g.standing s ≡ true → is_cut p.plan s g.moment ≡ false
    → Fresh p g answer
fresh_by p g answer s (inl l) master run uncut = subst (Fresh p g) (sym l.1.is) (fresh_loss p g s l.0 uncut l.1.a l.1.b l.1.cut)
fresh_by p g answer s (inr c) master run uncut =
    let same = c.leaves.same g.standing in
    record {
      uncut = λ t r. calm_uncut p g s t run uncut c.uncut (subst (λ st. runs st t ≡ true) same r);
      ran = λ t r. subst (λ st. runs st t ≡ true) same r;
      master = rw same master;
    }

-- its moment, and what stops the CPU --------------------------------------------------

-- a lawful answer, if it is Now, is that of its own moment
pub lawful_dated : (p : Setup) (g : Ledger) (request : Request) (answer : Answer) → MayAnswer p g request answer → is_dated g.moment answer ≡ true
lawful_dated p g request answer may =
    answer_any (λ a. is_dated g.moment a ≡ true) p g request answer may (λ t. refl) refl (λ x first. refl) (λ j none next. refl)
    (λ a none is. plain_any (λ x. is_dated g.moment x ≡ true) p g request.ask a is refl refl refl (eq-eqb g.moment g.moment refl) refl (λ addr width value read. refl))

-- the record and the CPU agree on what stops it
pub not_stopping : (ask : Ask) (answer : Answer) → stop_by ask answer ≡ None → stops_cpu ask answer ≡ false
not_stopping ask (answers.CpuStop code) h = absurd cc
not_stopping (asks.Stop code) answers.Done h = absurd cc
not_stopping ask answer h = refl
