-- The cursor passes the lines that are due.
use Rattle.std.proofs.Common.{◌≡◌, ◌∙◌, ℕ, ◌+◌, ◌<◌, ◌≤◌, true, false, List, [], ◌∷◌, length, drop, get_or, refl, ap, sym, subst, arith}
use Rattle.std.proofs.lemmas.List.{drop_more}
use Rattle.std.proofs.Math.Seq.{drop-length}
use Rattle.std.specs.Prelude.{◌==◌}
use Rattle.std.proofs.lemmas.Bool.Decides.{nat_tests}
use Rattle.alarm_queue.specs.declared.alarm.DueAlarm.{DueAlarm}
use Rattle.alarm_queue.specs.Order.{add, add_all}
use Rattle.alarm_queue.specs.Due.{lines_due}
use Rattle.alarm_queue.specs.Cursor.{IsRising, IsPast, IsPassing}

-- a later line is not due
pub none_due : (m k : ℕ) (lines : List DueAlarm) → k < m → IsRising m lines → lines_due lines k ≡ []
none_due m k [] less h = refl
none_due m k (a ∷ rest) less h =
    let test : (a.due == k) ≡ false = (let le = h.0 in grind (arith, nat_tests)) in
    rw test (none_due a.due k rest (omega (arith, h.0)) h.1)

pub passing_first : (lines : List DueAlarm) (k cursor : ℕ) (xs : List DueAlarm) → IsPast lines k cursor → IsPassing lines k xs cursor xs
passing_first lines k cursor xs h = record {
  within = h.within;
  rest = h.rest;
  past = λ j le. h.past j (omega arith);
  items = ap (λ due. add_all due xs) (h.past k (omega arith));
}

other_moment : (a : DueAlarm) (k j : ℕ) (rest : List DueAlarm) → a.due ≡ k → k + 1 ≤ j → lines_due (a ∷ rest) j ≡ lines_due rest j
other_moment a k j rest is le =
    let test : (a.due == j) ≡ false = grind (arith, nat_tests) in
    rw test refl

same_moment : (a : DueAlarm) (k : ℕ) (rest : List DueAlarm) → a.due ≡ k → lines_due (a ∷ rest) k ≡ a ∷ lines_due rest k
same_moment a k rest is =
    let test : (a.due == k) ≡ true = grind (arith, nat_tests) in
    rw test refl

pub passing_next : (lines : List DueAlarm) (k : ℕ) (start : List DueAlarm) (cursor : ℕ) (xs : List DueAlarm) (a : DueAlarm) → IsPassing lines k start cursor xs → cursor < length lines → a ≡ get_or lines cursor a → a.due ≡ k
    → IsPassing lines k start (cursor + 1) (add a xs)
passing_next lines k start cursor xs a h less at is =
    let split : drop cursor lines ≡ a ∷ drop (cursor + 1) lines = drop_more lines cursor a less ∙ ap (λ x. x ∷ drop (cursor + 1) lines) (sym at) in
    let rest = subst (IsRising k) split h.rest in
    record {
      within = omega arith;
      rest = subst (λ m. IsRising m (drop (cursor + 1) lines)) is rest.1;
      past = λ j le. h.past j le ∙ (ap (λ ls. lines_due ls j) split ∙ other_moment a k j (drop (cursor + 1) lines) is le);
      items = h.items ∙ ap (λ due. add_all due xs) (ap (λ ls. lines_due ls k) split ∙ same_moment a k (drop (cursor + 1) lines) is);
    }

passing_done : (lines : List DueAlarm) (k : ℕ) (start : List DueAlarm) (cursor : ℕ) (xs : List DueAlarm) → IsPassing lines k start cursor xs → IsRising (k + 1) (drop cursor lines)
    → IsPast lines (k + 1) cursor × (xs ≡ add_all (lines_due lines k) start)
passing_done lines k start cursor xs h later = (
  record { within = h.within; rest = later; past = h.past },
  sym (h.items ∙ ap (λ due. add_all due xs) (none_due (k + 1) k (drop cursor lines) (omega arith) later)),
)

pub passing_stop : (lines : List DueAlarm) (k : ℕ) (start : List DueAlarm) (cursor : ℕ) (xs : List DueAlarm) (d : DueAlarm) → IsPassing lines k start cursor xs → cursor < length lines → ((get_or lines cursor d).due ≡ k → ⊥)
    → IsPast lines (k + 1) cursor × (xs ≡ add_all (lines_due lines k) start)
passing_stop lines k start cursor xs d h less other =
    let split : drop cursor lines ≡ get_or lines cursor d ∷ drop (cursor + 1) lines = drop_more lines cursor d less in
    let rest = subst (IsRising k) split h.rest in
    let more : k + 1 ≤ (get_or lines cursor d).due = (let le = rest.0 in grind (arith, nat_tests)) in
    passing_done lines k start cursor xs h (subst (IsRising (k + 1)) (sym split) (more, rest.1))

pub passing_end : (lines : List DueAlarm) (k : ℕ) (start : List DueAlarm) (cursor : ℕ) (xs : List DueAlarm) → IsPassing lines k start cursor xs → length lines ≤ cursor
    → IsPast lines (k + 1) cursor × (xs ≡ add_all (lines_due lines k) start)
passing_end lines k start cursor xs h all =
    let end : cursor ≡ length lines = omega (arith, h.within) in
    let none : drop cursor lines ≡ [] = rw end (drop-length lines) in
    passing_done lines k start cursor xs h (subst (IsRising (k + 1)) (sym none) tt)

pub past_first : (lines : List DueAlarm) → IsRising 0 lines → IsPast lines 0 0
past_first lines h = record { within = omega arith; rest = h; past = λ j le. refl }
