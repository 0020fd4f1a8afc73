-- What the record, the showings and the end of a good world say of the run.
use Rattle.std.proofs.Common.{◌≡◌, ◌∙◌, ℕ, ◌+◌, ◌-◌, ◌==◌, ◌<◌, ◌≤◌, Bool, true, false, List, [], ◌∷◌, ◌++◌, length, take, refl, ap, sym, subst, arith, length-append, append_assoc, Option, Some, None, is_some, inl, inr}
use Rattle.std.specs.Prelude.{if◌then◌else◌, ◌⊎◌, nat_lt, ◌&&◌, ◌||◌, not, unwrap_or}
use Rattle.std.proofs.lemmas.Bool.Decides.{nat_tests}
use Rattle.std.proofs.Math.Seq.{take-append_seam}
use Rattle.std.proofs.lemmas.List.{append-nil, map-append}
use mathlib.Core.List.{IsPrefix}
use Rattle.s7_events.specs.declared.entry.Side.{Side}
use Rattle.s7_events.specs.declared.entry.Side.TheVariants.{A, B}
use Rattle.s7_events.specs.declared.entry.Entry.{Entry}
use Rattle.s7_events.specs.declared.entry.StopCode.{StopCode}
use Rattle.pair_core.specs.declared.endings.Ended.{Ended}
use Rattle.pair_core.specs.declared.endings.Ended.TheVariants.{End, Stop, NoneLeft, Spent, NotPlayed}
use Rattle.pair_core.specs.declared.standing.Standing.{Standing}
use Rattle.pair_core.specs.Setup.{Setup}
use Rattle.pair_core.specs.Ledger.{Ledger, first_ledger, after, ledger_from, standing}
use Rattle.pair_core.specs.Sides.{same_side, other_side, runs, after_answer}
use Rattle.pair_core.specs.Cuts.{is_cut, is_late}
use Rattle.pair_core.specs.Stops.{stop_of}
use Rattle.pair_core.specs.Showings.{is_output, showers, showers_by, showings_of, tagged, shown_of, shown_from}
use Rattle.pair_core.specs.Endings.{ends_by_output, has_shown_from, has_shown_last, is_gone, stays_in, IsEnded, IsShown}
use Rattle.pair_core.specs.Played.{IsRun}
use Rattle.pair_core.specs.World.{Log, World, standing_in, is_open, is_pending, has_shown, is_down, is_left, is_behind, end_by, ended, shown_past_from}
use Rattle.pair_core.specs.Finished.{ended_by}
use Rattle.pair_core.specs.Good.{Settled, Pending, IsSameShown, GoodLog, Good, shown_by, may_have, is_available}
use Rattle.pair_core.proofs.Lasts.{last_of, output_snoc}
use Rattle.pair_core.proofs.Snoc.{shown_snoc}
use Rattle.pair_core.proofs.Bounds.{shown_bound, shown_past_append}
use Rattle.pair_core.proofs.Opens.{open_going, open_room, open_by}
use Rattle.pair_core.proofs.Logs.{same_is, self_same, has_cases, down_is, down_by, settled_shows, marked_settled, master_down, other_down, whole_shown, pending_goes}

-- what the test of the end says
abbrev pub EndedMeans : Bool → Bool → Bool → Bool → Bool → Option StopCode → Bool → Option Ended → Type 0
EndedMeans on left_a left_b behind_a behind_b stop pending (Some End) = (on ≡ false) × (pending ≡ false) × (stop ≡ None) × (behind_a ≡ false) × (behind_b ≡ false)
EndedMeans on left_a left_b behind_a behind_b stop pending (Some (Stop code)) = (on ≡ false) × (stop ≡ Some code) × (behind_a ≡ false) × (behind_b ≡ false)
EndedMeans on left_a left_b behind_a behind_b stop pending (Some NoneLeft) = (on ≡ true) × (left_a ≡ false) × (left_b ≡ false)
EndedMeans on left_a left_b behind_a behind_b stop pending (Some Spent) = ⊥
EndedMeans on left_a left_b behind_a behind_b stop pending (Some NotPlayed) = ⊥
EndedMeans on left_a left_b behind_a behind_b stop pending None = on ≡ true → (left_a || left_b) ≡ true

means : (on left_a left_b behind_a behind_b : Bool) (stop : Option StopCode) (pending : Bool)
    → EndedMeans on left_a left_b behind_a behind_b stop pending (if on then (if left_a || left_b then None else Some NoneLeft) else (if behind_a || behind_b then None else end_by stop pending))
means true true left_b behind_a behind_b stop pending = λ e. refl
means true false true behind_a behind_b stop pending = λ e. refl
means true false false behind_a behind_b stop pending = (refl, refl, refl)
means false left_a left_b true behind_b stop pending = λ e. absurd cc
means false left_a left_b false true stop pending = λ e. absurd cc
means false left_a left_b false false (Some code) pending = (refl, refl, refl, refl)
means false left_a left_b false false None true = λ e. absurd cc
means false left_a left_b false false None false = (refl, refl, refl, refl, refl)

abbrev pub Means : Setup → World → Option Ended → Type 0
Means p w o = EndedMeans (is_open p w.log) (is_left p w.log A) (is_left p w.log B) (is_behind p w A) (is_behind p w B) (stop_of w.log.entries) (is_pending w.log) o

pub ended_means : (p : Setup) (w : World) → Means p w (ended p w)
unfolding ended
ended_means p w = means (is_open p w.log) (is_left p w.log A) (is_left p w.log B) (is_behind p w A) (is_behind p w B) (stop_of w.log.entries) (is_pending w.log)

-- where nobody is left, the last list is whole
none_whole : (m : Side) (cut late avail hm ho : Bool) → may_have cut late avail hm ho ≡ true → avail ≡ false → down_by true cut late true true hm ≡ true → shown_by m hm ho ≡ showers_by m cut late avail
none_whole m false late avail hm ho may none down = absurd cc
none_whole m true late true hm ho may none down = absurd cc
none_whole m true false false true ho may none down = absurd cc
none_whole m true false false false true may none down = absurd cc
none_whole m true false false false false may none down = refl
none_whole m true true false false ho may none down = absurd cc
none_whole m true true false true true may none down = absurd cc
none_whole m true true false true false may none down = refl

-- what is shown is the beginning of what is to be shown
may_prefix : (m : Side) (cut late avail hm ho : Bool) → may_have cut late avail hm ho ≡ true → (rest : List Side) × (shown_by m hm ho ++ rest ≡ showers_by m cut late avail)
may_prefix m false late avail hm true may = absurd cc
may_prefix m false late avail true false may = ([], refl)
may_prefix m false late avail false false may = (m ∷ [], refl)
may_prefix m true false avail true ho may = absurd cc
may_prefix m true false true false true may = ([], refl)
may_prefix m true false false false true may = absurd cc
may_prefix m true false true false false may = (other_side m ∷ [], refl)
may_prefix m true false false false false may = ([], refl)
may_prefix m true true true true true may = ([], refl)
may_prefix m true true true false true may = absurd cc
may_prefix m true true false true true may = absurd cc
may_prefix m true true false false true may = absurd cc
may_prefix m true true true true false may = (other_side m ∷ [], refl)
may_prefix m true true true false false may = (m ∷ other_side m ∷ [], refl)
may_prefix m true true false true false may = ([], refl)
may_prefix m true true false false false may = (m ∷ [], refl)

left_master : (p : Setup) (l : Log) (s : Side) → is_left p l A ≡ false → is_left p l B ≡ false → is_left p l s ≡ false
left_master p l A a b = a
left_master p l B a b = b

not_left_down : (run down : Bool) → run ≡ true → (run && not down) ≡ false → down ≡ true
not_left_down run true r h = refl
not_left_down true false r h = absurd cc
not_left_down false false r h = absurd cc

none_left_whole : (p : Setup) (l : Log) → GoodLog p l → (h : Pending p l) → is_open p l ≡ true → is_left p l A ≡ false → is_left p l B ≡ false
    → shown_by (standing_in p l).master h.by_master h.by_other ≡ showers p.plan (standing_in p l) (length l.entries)
none_left_whole p l good h early a b =
    let m = (standing_in p l).master in
    let o = other_side m in
    let down : is_down p l m ≡ true = not_left_down (runs (standing_in p l) m) (is_down p l m) good.same.master (left_master p l m a b) in
    let other : is_down p l o ≡ is_cut p.plan o (length l.entries) = other_down p l ∙ (rw early) in
    let none : is_available p l ≡ false = rw other at (left_master p l o a b) in
    none_whole m (is_cut p.plan m (length l.entries)) (is_late p.plan m (length l.entries)) (is_available p l) h.by_master h.by_other h.allowed none
    (rw early at (sym (master_down p l h) ∙ down))

take_front : (front : List Entry) (last : Entry) → take (length (front ++ last ∷ []) - 1) (front ++ last ∷ []) ≡ front
take_front front last =
    let n : length (front ++ last ∷ []) - 1 ≡ length front = omega (arith, length-append front (last ∷ [])) in
    rw n (take-append_seam front (last ∷ []))

Begins : Setup → List Entry → List (ℕ × Side) → Type 0
Begins p es shown = IsPrefix (shown_of p (take (length es - 1) es)) shown × IsPrefix shown (shown_of p es)

snoc_begins : (p : Setup) (front : List Entry) (last : Entry) → IsPrefix (shown_of p (take (length (front ++ last ∷ []) - 1) (front ++ last ∷ []))) (shown_of p (front ++ last ∷ []))
snoc_begins p front last = (
  showings_of p.plan (after_answer (standing p front) last.answer) (0 + length front) last,
  rw (take_front front last) (sym (shown_snoc p (first_ledger p) front last)),
)

whole_begins : (p : Setup) (es : List Entry) → (es ≡ []) ⊎ ((front : List Entry) × (last : Entry) × (es ≡ front ++ last ∷ [])) → IsPrefix (shown_of p (take (length es - 1) es)) (shown_of p es)
whole_begins p es (inl e) = rw e ([], refl)
whole_begins p es (inr r) = rw r.2 (snoc_begins p r.0 r.1)

-- the last list, whole, makes all showings of the record
whole_list : (p : Setup) (l : Log) (h : Pending p l) → shown_of p h.front ++ tagged (length h.front) (showers p.plan (standing_in p l) (length l.entries)) ≡ shown_of p l.entries
whole_list p l h =
    whole_shown p h.front h.last (showers p.plan (standing_in p l) (length l.entries)) h.output (ap (λ es. showers p.plan (standing p es) (length es)) h.is)
    ∙ sym (ap (shown_of p) h.is)

part_begins : (p : Setup) (l : Log) (h : Pending p l) → IsPrefix (shown_of p (take (length l.entries - 1) l.entries)) l.shown × IsPrefix l.shown (shown_of p l.entries)
part_begins p l h =
    let front : take (length l.entries - 1) l.entries ≡ h.front = rw h.is (take_front h.front h.last) in
    let m = (standing_in p l).master in
    let r = may_prefix m (is_cut p.plan m (length l.entries)) (is_late p.plan m (length l.entries)) (is_available p l) h.by_master h.by_other h.allowed in (
      (tagged (length h.front) (shown_by m h.by_master h.by_other), ap (λ es. shown_of p es ++ tagged (length h.front) (shown_by m h.by_master h.by_other)) front ∙ sym h.shown),
      (
        tagged (length h.front) r.0,
        ap (λ xs. xs ++ tagged (length h.front) r.0) h.shown
            ∙ (append_assoc (shown_of p h.front) (tagged (length h.front) (shown_by m h.by_master h.by_other)) (tagged (length h.front) r.0)
            ∙ (ap (λ xs. shown_of p h.front ++ xs) (sym (map-append (λ s. (length h.front, s)) (shown_by m h.by_master h.by_other) r.0) ∙ ap (tagged (length h.front)) r.1)
            ∙ whole_list p l h)),
      ),
    )

shown_by_end : (p : Setup) (w : World) (o : Option Ended) → Means p w o → Good p w → IsShown p w.log.entries (unwrap_or o Spent) w.log.shown
shown_by_end p w (Some End) h good = (let s = settled_shows p w.log good.log.shows h.1 in s.shown)
shown_by_end p w (Some (Stop code)) h good = elim good.log.shows [ inl s ↦ s.shown | inr q ↦ absurd (let free = pending_goes p w.log q in let stop = h.1 in cc) ]
shown_by_end p w (Some NoneLeft) h good = elim good.log.shows [ inl s ↦ s.shown | inr q ↦ (let s = marked_settled p w.log q (none_left_whole p w.log good.log q h.0 h.1 h.2) in s.shown) ]
shown_by_end p w (Some Spent) h good = absurd h
shown_by_end p w (Some NotPlayed) h good = absurd h
shown_by_end p w None h good = elim good.log.shows [
  | inl s ↦ (subst (λ xs. IsPrefix (shown_of p (take (length w.log.entries - 1) w.log.entries)) xs) (sym s.shown) (whole_begins p w.log.entries (last_of w.log.entries)), ([], append-nil w.log.shown ∙ s.shown))
  | inr q ↦ part_begins p w.log q
]

pub good_shown : (p : Setup) (w : World) → Good p w → IsShown p w.log.entries (ended_by p w) w.log.shown
good_shown p w good = shown_by_end p w (ended p w) (ended_means p w) good

-- who has shown the last output ------------------------------------------------

-- a list of showings is whole in the form of an unmarked one
whole_form : (m : Side) (cut late avail : Bool) → showers_by m cut late avail ≡ shown_by m (not cut || late) (cut && avail)
whole_form m false late avail = refl
whole_form m true true true = refl
whole_form m true true false = refl
whole_form m true false true = refl
whole_form m true false false = refl

last_append : (before : Bool) (xs ys : List (ℕ × Side)) (k : ℕ) (s : Side) → has_shown_from before (xs ++ ys) k s ≡ has_shown_from (has_shown_from before xs k s) ys k s
last_append before [] ys k s = refl
last_append before (x ∷ xs) ys k s = last_append (before || (x.0 == k && same_side x.1 s)) xs ys k s

neq_less : (a k : ℕ) → a < k → (a == k) ≡ false
neq_less a k less = grind (arith, nat_tests)

eq_same : (k : ℕ) → (k == k) ≡ true
eq_same k = grind (arith, nat_tests)

-- showings of an earlier entry are none of the last one
tagged_not : (before : Bool) (a k : ℕ) (sides : List Side) (s : Side) → a < k → has_shown_from before (tagged a sides) k s ≡ before
tagged_not before a k [] s less = refl
tagged_not true a k (x ∷ xs) s less = tagged_not true a k xs s less
tagged_not false a k (x ∷ xs) s less = ap (λ b. has_shown_from (b && same_side x s) (tagged a xs) k s) (neq_less a k less) ∙ tagged_not false a k xs s less

showings_not : (p : Setup) (st : Standing) (before : Bool) (a k : ℕ) (e : Entry) (s : Side) (b : Bool) → is_output e ≡ b → a < k → has_shown_from before (showings_of p.plan st a e) k s ≡ before
showings_not p st before a k e s true is less = rw is (tagged_not before a k (showers p.plan st (a + 1)) s less)
showings_not p st before a k e s false is less = rw is

earlier_not : (p : Setup) (g : Ledger) (before : Bool) (k : ℕ) (es : List Entry) (s : Side) → g.moment + length es ≤ k → has_shown_from before (shown_from p g es) k s ≡ before
earlier_not p g before k [] s few = refl
earlier_not p g before k (e ∷ es) s few =
    let next = after p g e in
    let less : g.moment < k = omega arith in
    let more : g.moment + 1 + length es ≤ k = omega arith in
    last_append before (showings_of p.plan next.standing g.moment e) (shown_from p next es) k s
    ∙ (earlier_not p next (has_shown_from before (showings_of p.plan next.standing g.moment e) k s) k es s more
    ∙ showings_not p next.standing before g.moment k e s (is_output e) refl less)

last_cases : (k : ℕ) (m s : Side) (hm ho : Bool) → has_shown_from false (tagged k (shown_by m hm ho)) k s ≡ (if same_side s m then hm else ho)
last_cases k A A true true = rw (eq_same k)
last_cases k A A true false = rw (eq_same k)
last_cases k A A false true = rw (eq_same k)
last_cases k A A false false = refl
last_cases k A B true true = rw (eq_same k)
last_cases k A B true false = rw (eq_same k)
last_cases k A B false true = rw (eq_same k)
last_cases k A B false false = refl
last_cases k B A true true = rw (eq_same k)
last_cases k B A true false = rw (eq_same k)
last_cases k B A false true = rw (eq_same k)
last_cases k B A false false = refl
last_cases k B B true true = rw (eq_same k)
last_cases k B B true false = rw (eq_same k)
last_cases k B B false true = rw (eq_same k)
last_cases k B B false false = refl

-- the two tests whether a side has shown the last output agree
module _ (p : Setup) (l : Log) (s : Side) (front : List Entry) (last : Entry) (is : l.entries ≡ front ++ last ∷ []) (hm ho : Bool)
    (shown : l.shown ≡ shown_of p front ++ tagged (length front) (shown_by (standing_in p l).master hm ho)) where
  long : length l.entries ≡ length front + 1
  long = ap length is ∙ length-append front (last ∷ [])

  by_place : has_shown l s ≡ (if same_side s (standing_in p l).master then hm else ho)
  unfolding has_shown
  by_place =
      let few : shown_past_from 0 (shown_from p (first_ledger p) front) s ≤ 0 + length front = shown_bound p (first_ledger p) 0 front s (omega arith) in
      rw (shown, long, shown_past_append 0 (shown_of p front) (tagged (length front) (shown_by (standing_in p l).master hm ho)) s)
      (has_cases (shown_past_from 0 (shown_of p front) s) (length front) (standing_in p l).master s hm ho (omega (arith, few)))

  by_list : has_shown_last l.entries l.shown s ≡ (if same_side s (standing_in p l).master then hm else ho)
  by_list =
      let at_last : length l.entries - 1 ≡ length front = omega (arith, long) in
      let none : has_shown_from false (shown_of p front) (length front) s ≡ false = earlier_not p (first_ledger p) false (length front) front s (omega arith) in
      ap (λ k. has_shown_from false l.shown k s) at_last
      ∙ (ap (λ xs. has_shown_from false xs (length front) s) shown
      ∙ (last_append false (shown_of p front) (tagged (length front) (shown_by (standing_in p l).master hm ho)) (length front) s
      ∙ (ap (λ b. has_shown_from b (tagged (length front) (shown_by (standing_in p l).master hm ho)) (length front) s) none
      ∙ last_cases (length front) (standing_in p l).master s hm ho)))

  pub both_tests : has_shown l s ≡ has_shown_last l.entries l.shown s
  both_tests = by_place ∙ sym by_list

-- the showings of a settled record that ends by an output
settled_list : (p : Setup) (l : Log) (front : List Entry) (last : Entry) → Settled p l → l.entries ≡ front ++ last ∷ [] → is_output last ≡ true
    → l.shown ≡ shown_of p front ++ tagged (length front) (shown_by (standing_in p l).master
    (not (is_cut p.plan (standing_in p l).master (length l.entries)) || is_late p.plan (standing_in p l).master (length l.entries))
    (is_cut p.plan (standing_in p l).master (length l.entries) && is_available p l))
settled_list p l front last h is out =
    let m = (standing_in p l).master in
    let list = whole_form m (is_cut p.plan m (length l.entries)) (is_late p.plan m (length l.entries)) (is_available p l) in
    h.shown ∙ (ap (shown_of p) is
    ∙ sym (whole_shown p front last (shown_by m (not (is_cut p.plan m (length l.entries)) || is_late p.plan m (length l.entries)) (is_cut p.plan m (length l.entries) && is_available p l)) out
    (sym list ∙ ap (λ es. showers p.plan (standing p es) (length es)) is)))

settled_tests : (p : Setup) (l : Log) (s : Side) → Settled p l → ends_by_output l.entries ≡ true → (l.entries ≡ []) ⊎ ((front : List Entry) × (last : Entry) × (l.entries ≡ front ++ last ∷ [])) → has_shown l s ≡ has_shown_last l.entries l.shown s
settled_tests p l s h out (inl e) = absurd (let none : ends_by_output l.entries ≡ false = ap ends_by_output e in cc)
settled_tests p l s h out (inr r) =
    let last : is_output r.1 ≡ true = sym (output_snoc false r.0 r.1) ∙ (ap ends_by_output (sym r.2) ∙ out) in
    both_tests p l s r.0 r.1 r.2
    (not (is_cut p.plan (standing_in p l).master (length l.entries)) || is_late p.plan (standing_in p l).master (length l.entries))
    (is_cut p.plan (standing_in p l).master (length l.entries) && is_available p l) (settled_list p l r.0 r.1 h r.2 last)

last_tests : (p : Setup) (l : Log) (s : Side) → IsSameShown p l → ends_by_output l.entries ≡ true → has_shown l s ≡ has_shown_last l.entries l.shown s
last_tests p l s (inl h) out = settled_tests p l s h out (last_of l.entries)
last_tests p l s (inr h) out = both_tests p l s h.front h.last h.is h.by_master h.by_other h.shown

-- where all outputs are marked, a late master that is cut has shown the last one
late_list : (m : Side) (avail : Bool) → showers_by m true true avail ≡ shown_by m true avail
late_list m true = refl
late_list m false = refl

late_shown : (p : Setup) (l : Log) (front : List Entry) (last : Entry) → Settled p l → l.entries ≡ front ++ last ∷ [] → is_output last ≡ true
    → is_cut p.plan (standing_in p l).master (length l.entries) ≡ true → is_late p.plan (standing_in p l).master (length l.entries) ≡ true → has_shown l (standing_in p l).master ≡ true
unfolding has_shown
late_shown p l front last h is out cut late =
    let m = (standing_in p l).master in
    let avail = is_available p l in
    let list : shown_by m true avail ≡ showers p.plan (standing_in p l) (length l.entries) = sym (late_list m avail) ∙ (rw (cut, late)) in
    let all : l.shown ≡ shown_of p front ++ tagged (length front) (shown_by m true avail) =
    h.shown ∙ (ap (shown_of p) is ∙ sym (whole_shown p front last (shown_by m true avail) out (list ∙ ap (λ es. showers p.plan (standing p es) (length es)) is))) in
    let len : length l.entries ≡ length front + 1 = ap length is ∙ length-append front (last ∷ []) in
    let few : shown_past_from 0 (shown_from p (first_ledger p) front) m ≤ 0 + length front = shown_bound p (first_ledger p) 0 front m (omega arith) in
    let has = has_cases (shown_past_from 0 (shown_of p front) m) (length front) m m true avail (omega (arith, few)) in
    ap (λ k. shown_past_from 0 l.shown m == k) len
    ∙ (ap (λ xs. shown_past_from 0 xs m == length front + 1) all
    ∙ (ap (λ k. k == length front + 1) (shown_past_append 0 (shown_of p front) (tagged (length front) (shown_by m true avail)) m)
    ∙ (has ∙ ap (λ b. if b then true else avail) (self_same m))))

-- the record and the showings tell who is cut
gone_by : (early cut late same output pending shown : Bool) → (pending ≡ true → output ≡ true) → (cut ≡ true → late ≡ true → same ≡ true → output ≡ true → pending ≡ false → shown ≡ true)
    → down_by early cut late same pending shown ≡ down_by early cut late same output shown
gone_by early cut late same true true shown h g = refl
gone_by early cut late same false false shown h g = refl
gone_by early cut late same false true shown h g = absurd (cc (h refl))
gone_by false cut late same true false true h g = refl
gone_by true false late same true false true h g = refl
gone_by true true false same true false true h g = refl
gone_by true true true false true false true h g = refl
gone_by true true true true true false true h g = refl
gone_by false cut late same true false false h g = refl
gone_by true false late same true false false h g = refl
gone_by true true false same true false false h g = refl
gone_by true true true false true false false h g = refl
gone_by true true true true true false false h g = absurd (cc (g refl refl refl refl refl))

and_first : (x y : Bool) → (x && y) ≡ true → x ≡ true
and_first true y h = refl
and_first false y h = absurd cc

and_second : (x y : Bool) → (x && not y) ≡ true → y ≡ false
and_second true true h = absurd cc
and_second true false h = refl
and_second false y h = absurd cc

marked_shown : (p : Setup) (l : Log) (s : Side) → GoodLog p l → (l.entries ≡ []) ⊎ ((front : List Entry) × (last : Entry) × (l.entries ≡ front ++ last ∷ []))
    → is_cut p.plan s (length l.entries) ≡ true → is_late p.plan s (length l.entries) ≡ true → same_side s (standing_in p l).master ≡ true → ends_by_output l.entries ≡ true → is_pending l ≡ false → has_shown l s ≡ true
marked_shown p l s good (inl e) cut late same out settled = absurd (let none : ends_by_output l.entries ≡ false = ap ends_by_output e in cc)
marked_shown p l s good (inr r) cut late same out settled =
    let m : s ≡ (standing_in p l).master = same_is s (standing_in p l).master same in
    let last : is_output r.1 ≡ true = sym (output_snoc false r.0 r.1) ∙ (ap ends_by_output (sym r.2) ∙ out) in
    subst (λ v. has_shown l v ≡ true) (sym m)
    (late_shown p l r.0 r.1 (settled_shows p l good.shows settled) r.2 last (subst (λ v. is_cut p.plan v (length l.entries) ≡ true) m cut) (subst (λ v. is_late p.plan v (length l.entries) ≡ true) m late))

swap_shown : (cut late same output one two : Bool) → (output ≡ true → one ≡ two) → down_by true cut late same output one ≡ down_by true cut late same output two
swap_shown cut late same true one two h = ap (λ b. down_by true cut late same true b) (h refl)
swap_shown cut false same false one two h = refl
swap_shown cut true true false one two h = refl
swap_shown cut true false false one two h = refl

pending_output : (p : Setup) (l : Log) → is_pending l ≡ true → ends_by_output l.entries ≡ true
unfolding is_pending
pending_output p l h = and_first (ends_by_output l.entries) (nat_lt l.marked (length l.entries)) h

pub gone_is : (p : Setup) (l : Log) (s : Side) → GoodLog p l → is_open p l ≡ true → is_down p l s ≡ is_gone p l.entries l.shown s
gone_is p l s good on =
    let n = length l.entries in
    let cut = is_cut p.plan s n in
    let late = is_late p.plan s n in
    let same = same_side s (standing_in p l).master in
    let output = ends_by_output l.entries in
    down_is p l s ∙ (ap (λ b. down_by b cut late same (is_pending l) (has_shown l s)) on
    ∙ (gone_by true cut late same output (is_pending l) (has_shown l s) (pending_output p l) (marked_shown p l s good (last_of l.entries))
    ∙ swap_shown cut late same output (has_shown l s) (has_shown_last l.entries l.shown s) (last_tests p l s good.shows)))

left_is : (p : Setup) (l : Log) (s : Side) → GoodLog p l → is_open p l ≡ true → is_left p l s ≡ stays_in p l.entries l.shown s
left_is p l s good on = ap (λ b. runs (standing_in p l) s && not b) (gone_is p l s good on)

-- how the run ended ------------------------------------------------------------

full_early : (early : Bool) (o : Option StopCode) → o ≡ None → (early && not (is_some o)) ≡ false → early ≡ false
full_early true None free h = absurd cc
full_early true (Some code) free h = absurd cc
full_early false o free h = refl

full_end : (p : Setup) (l : Log) → is_open p l ≡ false → stop_of l.entries ≡ None → length l.entries ≤ p.plan.end → length l.entries ≡ p.plan.end
unfolding is_open
full_end p l on free within =
    let early : nat_lt (length l.entries) p.plan.end ≡ false = full_early (nat_lt (length l.entries) p.plan.end) (stop_of l.entries) free on in
    let full : p.plan.end ≤ length l.entries = grind (arith, nat_tests) in
    omega (arith, within, full)

not_solo : (solo : Bool) → (solo && true) ≡ false → solo ≡ false
not_solo true h = absurd cc
not_solo false h = refl

-- of two sides, or of one where the run has ended
abbrev IsTold : Setup → Option Ended → Type 0
IsTold p o = (p.solo && not (is_some o)) ≡ false

how_by_end : (p : Setup) (w : World) (o : Option Ended) → Means p w o → Good p w → IsTold p o → IsEnded p w.log.entries w.log.shown (unwrap_or o Spent)
how_by_end p w (Some End) h good told = (h.2, full_end p w.log h.0 h.2 good.log.same.within)
how_by_end p w (Some (Stop code)) h good told = h.1
how_by_end p w (Some NoneLeft) h good told = (
  open_going p w.log h.0,
  open_room p w.log h.0,
  sym (left_is p w.log A good.log h.0) ∙ h.1,
  sym (left_is p w.log B good.log h.0) ∙ h.2,
)
how_by_end p w (Some Spent) h good told = absurd h
how_by_end p w (Some NotPlayed) h good told = absurd h
how_by_end p w None h good told = (
  not_solo p.solo told,
  λ free less. (
      let on : is_open p w.log ≡ true = open_by p w.log free less in
      ap (λ b. b || stays_in p w.log.entries w.log.shown B) (sym (left_is p w.log A good.log on))
      ∙ (ap (λ b. is_left p w.log A || b) (sym (left_is p w.log B good.log on)) ∙ h on)
      ),
)

pub good_ended : (p : Setup) (w : World) → Good p w → IsTold p (ended p w) → IsEnded p w.log.entries w.log.shown (ended_by p w)
good_ended p w good told = how_by_end p w (ended p w) (ended_means p w) good told

-- a good world is a run
pub good_run : (p : Setup) (w : World) → Good p w → (p.solo && not (is_some (ended p w))) ≡ false → IsRun p.program p.plan p.solo w.log.entries w.log.shown (ended_by p w)
good_run p w good told = record {
  requests = good.log.same.requests;
  lawful = good.log.same.lawful;
  shown = good_shown p w good;
  ended = good_ended p w good told;
}
