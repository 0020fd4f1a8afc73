-- The whole text of a run, entry by entry.
use Rattle.std.proofs.Common.{◌≡◌, ◌∙◌, ℕ, ◌+◌, ◌<◌, ◌≤◌, List, [], ◌∷◌, ◌++◌, length, refl, ap, sym, arith}
use Rattle.std.specs.Prelude.{get_or, codes}
use Rattle.std.specs.Fmt.{decimal}
use Rattle.std.proofs.lemmas.List.{append_assoc, append_cancel_left}
use Rattle.s7_events.specs.declared.entry.Side.{Side}
use Rattle.s7_events.specs.declared.entry.Entry.{Entry}
use Rattle.s7_base.specs.Blocks.{Program}
use Rattle.trace_text.specs.declared.mode.Mode.{Mode}
use Rattle.trace_text.specs.declared.mode.Mode.TheVariants.{Solo, Pair, TailOnly}
use Rattle.pair_core.specs.declared.endings.Ended.{Ended}
use Rattle.pair_core.specs.declared.endings.Ended.TheVariants.{End, Stop, NoneLeft, Spent, NotPlayed}
use Rattle.pair_core.specs.Setup.{Setup, made_for}
use Rattle.pair_core.specs.Ledger.{first_ledger}
use Rattle.pair_core.specs.Endings.{IsEnded}
use Rattle.pair_core.proofs.Waiting.{first_fine}
use Rattle.trace_text.specs.EntryText.{ask_text, answer_text}
use Rattle.trace_text.specs.Tail.{Tail}
use Rattle.trace_text.specs.Text.{showing_line, behind_showing, entries_text, record_text, tail_text, last_line}
use Rattle.trace_laws.specs.Determines.{Run, text_of, HasRecord, IsWritten, AreSame, TextDetermines, TextAloneDetermines}
use Rattle.trace_laws.proofs.Numbers.{decimal_is, number_head}
use Rattle.trace_laws.proofs.Lines.{line_text, TellEntries, Tell, by_program, by_range}
use Rattle.trace_laws.proofs.Printed.{ArePrinted, behind_both, printed_run}
use Rattle.trace_laws.proofs.Shows.{one_line, IsNext, apart_again, apart_second}

-- the text from an entry's showings on
abbrev shows_text : ℕ → List Entry → List (ℕ × Side) → List ℕ → List ℕ
shows_text k es shown r =
    showing_line (codes "SHOW ") k shown
    ++ (showing_line (codes "AGAIN ") k (behind_showing k shown) ++ (entries_text (k + 1) es (behind_both k shown) ++ r))

regroup : (d b p c a e x l s g t r : List ℕ) → ((d ++ b ++ p ++ c ++ a ++ e ++ x ++ l) ++ (s ++ g) ++ t) ++ r
    ≡ d ++ ((b ++ (p ++ (c ++ (a ++ e)))) ++ (x ++ (l ++ (s ++ (g ++ (t ++ r))))))
regroup d b p c a e x l s g t r = simp append_assoc

-- the text from an entry on: its number, its request, its answer, and what follows behind the line feed
entry_shape : (k : ℕ) (e : Entry) (es : List Entry) (shown : List (ℕ × Side)) (r : List ℕ)
    → entries_text k (e ∷ es) shown ++ r ≡ decimal k ++ line_text e (shows_text k es shown r)
entry_shape k e es shown r =
    regroup (decimal k) (codes " ") (decimal e.request.prio) (codes " ") (ask_text e.request.ask) (codes " = ") (answer_text e.answer) (codes "\n")
    (showing_line (codes "SHOW ") k shown) (showing_line (codes "AGAIN ") k (behind_showing k shown)) (entries_text (k + 1) es (behind_both k shown)) r

-- it begins with a digit
entry_head : (k : ℕ) (e : Entry) (es : List Entry) (shown : List (ℕ × Side)) (r : List ℕ) → get_or (entries_text k (e ∷ es) shown ++ r) 0 0 < 58
entry_head k e es shown r =
    let head = number_head (decimal k) (line_text e (shows_text k es shown r)) (decimal_is k) in
    omega (arith, head.1, ap (λ (t : List ℕ). get_or t 0 0) (entry_shape k e es shown r))

-- what may stand behind the last entry: no digit, and no showing
record IsLast (text : List ℕ) : Type 0 where
  high : 58 ≤ get_or text 0 0
  next : IsNext text

entries_next : (k : ℕ) (es : List Entry) (shown : List (ℕ × Side)) (r : List ℕ) → IsLast r → IsNext (entries_text k es shown ++ r)
entries_next k [] shown r last = last.next
entries_next k (e ∷ es) shown r last =
    let head = entry_head k e es shown r in
    record { no_again = λ is. omega arith; no_show = λ is. omega arith }

-- the lines of an entry and of its showings
record OneEntry (x y : Entry) (k : ℕ) (xs ys : List Entry) (shown shown' : List (ℕ × Side)) (r r' : List ℕ) : Type 0 where
  same : x ≡ y
  showings : behind_both k shown ≡ behind_both k shown' → shown ≡ shown'
  rest : entries_text (k + 1) xs (behind_both k shown) ++ r ≡ entries_text (k + 1) ys (behind_both k shown') ++ r'

one_entry : (k : ℕ) (x y : Entry) (xs ys : List Entry) (shown shown' : List (ℕ × Side)) (r r' : List ℕ) → TellEntries x y → IsLast r → IsLast r'
    → entries_text k (x ∷ xs) shown ++ r ≡ entries_text k (y ∷ ys) shown' ++ r' → OneEntry x y k xs ys shown shown' r r'
one_entry k x y xs ys shown shown' r r' tell last last' e =
    let numbered : decimal k ++ line_text x (shows_text k xs shown r) ≡ decimal k ++ line_text y (shows_text k ys shown' r') =
    sym (entry_shape k x xs shown r) ∙ e ∙ entry_shape k y ys shown' r' in
    let both = tell (shows_text k xs shown r) (shows_text k ys shown' r') (append_cancel_left (decimal k) _ _ numbered) in
    let next = entries_next (k + 1) xs (behind_both k shown) r last in
    let next' = entries_next (k + 1) ys (behind_both k shown') r' last' in
    let first = one_line (codes "SHOW ") k shown shown' _ _ (apart_second k (behind_showing k shown) _ next) (apart_second k (behind_showing k shown') _ next') both.1 in
    let second = one_line (codes "AGAIN ") k (behind_showing k shown) (behind_showing k shown') _ _ (apart_again _ next) (apart_again _ next') first.behind in
    record {
      same = both.0;
      showings = λ behind. first.showings (second.showings behind);
      rest = second.behind;
    }

-- the records, the showings and the texts behind them are the same
record AreOne (xs ys : List Entry) (shown shown' : List (ℕ × Side)) (r r' : List ℕ) : Type 0 where
  entries : xs ≡ ys
  showings : shown ≡ shown'
  rest : r ≡ r'

both_from : (k : ℕ) (xs ys : List Entry) (shown shown' : List (ℕ × Side)) (r r' : List ℕ)
    → Tell xs ys → ArePrinted k xs shown → ArePrinted k ys shown' → IsLast r → IsLast r'
    → entries_text k xs shown ++ r ≡ entries_text k ys shown' ++ r' → AreOne xs ys shown shown' r r'
both_from k [] [] shown shown' r r' tell printed printed' last last' e =
    record { entries = refl; showings = printed ∙ sym printed'; rest = e }
both_from k [] (y ∷ ys) shown shown' r r' tell printed printed' last last' e =
    let head = entry_head k y ys shown' r' in
    let high = last.high in
    absurd (omega (arith, ap (λ (t : List ℕ). get_or t 0 0) e))
both_from k (x ∷ xs) [] shown shown' r r' tell printed printed' last last' e =
    let head = entry_head k x xs shown r in
    let high = last'.high in
    absurd (omega (arith, ap (λ (t : List ℕ). get_or t 0 0) e))
both_from k (x ∷ xs) (y ∷ ys) shown shown' r r' tell printed printed' last last' e =
    let one = one_entry k x y xs ys shown shown' r r' tell.0 last last' e in
    let rest = both_from (k + 1) xs ys (behind_both k shown) (behind_both k shown') r r' (tell.1 one.same) printed printed' last last' one.rest in
    record { entries = cc (one.same, rest.entries); showings = one.showings rest.showings; rest = rest.rest }

-- the tail and the last line of a run that was played are no entries and no showings
last_of : (ended : Ended) (tail : Tail) (count : ℕ) → (ended ≡ NotPlayed → ⊥) → IsLast (tail_text ended tail ++ last_line ended count)
last_of End tail count played = record { high = omega arith; next = record { no_again = λ e. omega (arith, e); no_show = λ e. absurd (omega (arith, e)) } }
last_of (Stop code) tail count played = record { high = omega arith; next = record { no_again = λ e. omega (arith, e); no_show = λ e. absurd (omega (arith, e)) } }
last_of NoneLeft tail count played = record { high = omega arith; next = record { no_again = λ e. omega (arith, e); no_show = λ e. absurd (omega (arith, e)) } }
last_of Spent tail count played = record { high = omega arith; next = record { no_again = λ e. omega (arith, e); no_show = λ e. refl } }
last_of NotPlayed tail count played = absurd (played refl)

was_played : (p : Setup) (es : List Entry) (shown : List (ℕ × Side)) (ended : Ended) → IsEnded p es shown ended → ended ≡ NotPlayed → ⊥
was_played p es shown End is e = cc
was_played p es shown (Stop code) is e = cc
was_played p es shown NoneLeft is e = cc
was_played p es shown Spent is e = cc
was_played p es shown NotPlayed is e = is

-- the end follows from the record and the first letter after it
end_one : (p q : Setup) (es : List Entry) (shown : List (ℕ × Side)) (ended ended' : Ended) (tail tail' : Tail) (count count' : ℕ)
    → IsEnded p es shown ended → IsEnded q es shown ended'
    → tail_text ended tail ++ last_line ended count ≡ tail_text ended' tail' ++ last_line ended' count' → ended ≡ ended'
end_one p q es shown End End tail tail' count count' is is' e = refl
end_one p q es shown NoneLeft NoneLeft tail tail' count count' is is' e = refl
end_one p q es shown Spent Spent tail tail' count count' is is' e = refl
end_one p q es shown (Stop code) (Stop code') tail tail' count count' is is' e = cc
end_one p q es shown NotPlayed ended' tail tail' count count' is is' e = absurd is
end_one p q es shown ended NotPlayed tail tail' count count' is is' e = absurd is'
end_one p q es shown End (Stop code) tail tail' count count' is is' e = let none = is.0 in cc
end_one p q es shown (Stop code) End tail tail' count count' is is' e = let none = is'.0 in cc
end_one p q es shown End ended' tail tail' count count' is is' e = absurd (omega (arith, ap (λ (t : List ℕ). get_or t 0 0) e))
end_one p q es shown (Stop code) ended' tail tail' count count' is is' e = absurd (omega (arith, ap (λ (t : List ℕ). get_or t 0 0) e))
end_one p q es shown NoneLeft ended' tail tail' count count' is is' e = absurd (omega (arith, ap (λ (t : List ℕ). get_or t 0 0) e))
end_one p q es shown Spent ended' tail tail' count count' is is' e = absurd (omega (arith, ap (λ (t : List ℕ). get_or t 0 0) e))

-- behind the first line
behind_title : (mode mode' : Mode) (es es' : List Entry) (shown shown' : List (ℕ × Side)) (r r' : List ℕ) → HasRecord mode → HasRecord mode'
    → record_text mode es shown ++ r ≡ record_text mode' es' shown' ++ r' → entries_text 0 es shown ++ r ≡ entries_text 0 es' shown' ++ r'
behind_title Solo Solo es es' shown shown' r r' h h' e = append_cancel_left (codes "TRACE 1 SOLO\n") (entries_text 0 es shown ++ r) (entries_text 0 es' shown' ++ r') e
behind_title Pair Pair es es' shown shown' r r' h h' e = append_cancel_left (codes "TRACE 1 PAIR\n") (entries_text 0 es shown ++ r) (entries_text 0 es' shown' ++ r') e
behind_title Solo Pair es es' shown shown' r r' h h' e = absurd (omega (arith, ap (λ (t : List ℕ). get_or t 8 0) e))
behind_title Pair Solo es es' shown shown' r r' h h' e = absurd (omega (arith, ap (λ (t : List ℕ). get_or t 8 0) e))
behind_title TailOnly mode' es es' shown shown' r r' h h' e = absurd h
behind_title mode TailOnly es es' shown shown' r r' h h' e = absurd h'

-- where the lines tell the entries, the text tells the run
by_lines : (program other : Program) (first second : Run) → IsWritten program first → IsWritten other second → Tell first.entries second.entries
    → text_of first ≡ text_of second → AreSame first second
by_lines program other first second one two tell e =
    let p = made_for program first.plan first.solo in
    let q = made_for other second.plan second.solo in
    let left = printed_run p first.entries first.ended first.showings one.run.shown in
    let right = printed_run q second.entries second.ended second.showings two.run.shown in
    let ends = last_of first.ended first.tail (length first.entries) (was_played p first.entries first.showings first.ended one.run.ended) in
    let ends' = last_of second.ended second.tail (length second.entries) (was_played q second.entries second.showings second.ended two.run.ended) in
    let same = both_from 0 first.entries second.entries first.showings second.showings _ _ tell left right ends ends'
    (behind_title first.mode second.mode first.entries second.entries first.showings second.showings _ _ one.has_record two.has_record e) in
    let is_ended : IsEnded q first.entries first.showings second.ended = rw (same.entries, same.showings) two.run.ended in
    record {
      entries = same.entries;
      showings = same.showings;
      ended = end_one p q first.entries first.showings first.ended second.ended first.tail second.tail (length first.entries) (length second.entries) one.run.ended is_ended same.rest;
    }

pub text_determines : (program : Program) (first second : Run) → TextDetermines program first second
text_determines program first second one two e =
    let p = made_for program first.plan first.solo in
    let q = made_for program second.plan second.solo in
    by_lines program program first second one two
    (by_program [] p q (first_ledger p) (first_ledger q) first.entries second.entries refl refl one.plan (first_fine p one.plan) two.plan (first_fine q two.plan) one.run.requests one.run.lawful two.run.requests two.run.lawful)
    e

pub text_alone_determines : (program other : Program) (first second : Run) → TextAloneDetermines program other first second
text_alone_determines program other first second one ranges two ranges' e =
    let p = made_for program first.plan first.solo in
    let q = made_for other second.plan second.solo in
    by_lines program other first second one two
    (by_range p q (first_ledger p) (first_ledger q) first.entries second.entries refl one.plan (first_fine p one.plan) two.plan (first_fine q two.plan) ranges one.run.lawful ranges' two.run.lawful)
    e
