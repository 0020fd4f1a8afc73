-- Where the text of a trace stops to fit.
use Rattle.std.proofs.Common.{◌≡◌, ℕ, ◌+◌, ◌-◌, ◌<◌, Bool, List, [], ◌∷◌, ◌++◌, length, length-append, take, Option, Some, None, refl, sym, subst, ap, ◌∙◌, arith, append_assoc}
use Rattle.std.specs.Prelude.{is_some}
use Rattle.std.proofs.lemmas.List.{append-nil}
use Rattle.trace_reader.specs.declared.trace.Mode.{Mode}
use Rattle.trace_reader.specs.declared.trace.Mode.TheVariants.{Solo}
use Rattle.trace_reader.specs.declared.trace.Entry.{Entry}
use Rattle.trace_reader.specs.declared.trace.Ending.{Ending}
use Rattle.trace_reader.specs.declared.trace.Ending.TheVariants as endings
use Rattle.trace_reader.specs.declared.reading.Stop.{Stop}
use Rattle.trace_reader.specs.declared.reading.Stop.TheVariants as stops
use Rattle.trace_reader.specs.Parts.{TailParts, TraceParts}
use Rattle.trace_reader.specs.Lines.{title_at, entry_at, count_at, ending_at}
use Rattle.trace_reader.specs.Text.{title_line, entries_text, count_line, notes_and_after, tail_lines, last_line, text_of}
use Rattle.trace_reader.specs.Ranges.{Each, FitsEntry, FitsTail, EndsAs, FitsEnding, IsTrace, EndShowings, ClosesEntries}
use Rattle.trace_reader.specs.Refusal.{lines_after, BeginsTrace, NoLineFits, StopsAt, WithinTail, BeginsTail, TailStop, TraceStop, TailIsOver}
use Rattle.trace_reader.proofs.ReadBack.{number_at_none}
use Rattle.trace_reader.proofs.ReadTail.{title_again, count_again}
use Rattle.trace_reader.proofs.LineEnds.{title_is_line, last_is_line}
use Rattle.trace_reader.proofs.GoesOn.{pair_is}
use Rattle.trace_reader.proofs.Wholes.{last_quiet, last_closes, quiet_after, entries_close, ending_read}
use Rattle.trace_reader.proofs.SectionStops.{ReadsAgain, AreLines, no_line_here, stops_at_once, stops_later, with_line}
use Rattle.trace_reader.proofs.EntryStops.{NoEntry, no_entry_here, no_entry_closed, LastIsShown, last_shown_here, last_shown_quiet, entries_same}
use Rattle.trace_reader.proofs.TailStops.{tail_ends_here, tail_ends_closed, tails_same}

-- a trace of these parts
abbrev made : Mode → List Entry → Option TailParts → Ending → TraceParts
made mode entries tail ending = record { mode = mode; entries = entries; tail = tail; ending = ending }

-- what follows the title
abbrev body : List Entry → Option TailParts → Ending → List ℕ
body entries tail ending = entries_text 0 entries ++ (tail_lines tail ++ last_line ending (length entries))

-- two traces' texts begin with the same title
same_body : (mode : Mode) (trace : TraceParts) (rest : List ℕ) (after : List ℕ) → text_of trace ++ after ≡ title_line mode ++ rest → body trace.entries trace.tail trace.ending ++ after ≡ rest
same_body mode trace rest after e =
    let own = body trace.entries trace.tail trace.ending ++ after in
    (pair_is trace.mode mode own rest (sym (title_again trace.mode own) ∙ ap title_at (sym (append_assoc (title_line trace.mode) (body trace.entries trace.tail trace.ending) after) ∙ e) ∙ title_again mode rest)).1

-- ---- the title

abbrev any_mode : Mode → Type 0
any_mode mode = Unit {0}

titles_again : ReadsAgain title_line any_mode title_at
titles_again mode rest fits = title_again mode rest

titles_are_lines : AreLines title_line any_mode
titles_are_lines mode fits = title_is_line mode

blank : TraceParts
blank = made Solo [] None endings.NoneLeft

blank_is : IsTrace blank
unfolding blank
blank_is = (omega arith, tt, tt, tt)

pub title_stop : (text : List ℕ) → None ≡ title_at text → StopsAt BeginsTrace BeginsTrace text (length text)
title_stop text over =
    stops_at_once BeginsTrace BeginsTrace text (blank, text_of blank, blank_is, refl) (λ more later split begins.
    no_line_here title_line any_mode title_at text more later begins.1 titles_are_lines titles_again over split begins.0.mode (body begins.0.entries begins.0.tail begins.0.ending) tt
    (sym (with_line [] more begins.1) ∙ sym begins.3))

-- ---- the tail

counted : (count : ℕ) (rest : List ℕ) → ClosesEntries (count_line count ++ rest)
counted count rest = (number_at_none 4294967294 (count_line count ++ rest) refl, refl, refl)

-- a trace whose text begins with these entries, and then has no entry and no showing, has these and goes on with what follows them
after_entries : (entries : List Entry) (u : List ℕ) (trace : TraceParts) → length entries < 4294967296 → Each FitsEntry entries → NoEntry (length entries) u → LastIsShown entries u → IsTrace trace
    → entries_text 0 entries ++ u ≡ body trace.entries trace.tail trace.ending
    → (length entries ≡ length trace.entries) × (u ≡ tail_lines trace.tail ++ last_line trace.ending (length trace.entries))
after_entries entries u trace few fit none shown is e =
    let v = tail_lines trace.tail ++ last_line trace.ending (length trace.entries) in
    let quiet = entries_close trace.tail trace.ending (length trace.entries) is.3 in
    entries_same 0 (length entries) (length trace.entries) entries trace.entries u v (omega arith) (omega arith) (omega (arith, few)) (let n = is.0 in omega (arith, n)) fit is.1 none
    (no_entry_closed (length trace.entries) v quiet.0) shown (quiet.1, quiet.2) e

after_title : (mode : Mode) (front : List ℕ) (trace : TraceParts) (rest : List ℕ) → text_of trace ≡ (title_line mode ++ front) ++ rest → front ++ rest ≡ body trace.entries trace.tail trace.ending
after_title mode front trace rest e =
    sym (sym (append-nil (body trace.entries trace.tail trace.ending)) ∙ same_body mode trace (front ++ rest) [] (append-nil (text_of trace) ∙ e ∙ append_assoc (title_line mode) front rest))

pub tail_stop : (mode : Mode) (entries : List Entry) (count : ℕ) (text first second later : List ℕ) (left : ℕ) → length entries < 4294967296 → Each FitsEntry entries → count < 4294967296
    → text ≡ title_line mode ++ first → first ≡ entries_text 0 entries ++ second → second ≡ count_line count ++ later → StopsAt (WithinTail count) (BeginsTail count) later left → StopsAt BeginsTrace BeginsTrace text left
tail_stop mode entries count text first second later left few fit small a b c stop =
    stops_later BeginsTrace BeginsTrace (WithinTail count) (BeginsTail count) (title_line mode ++ (entries_text 0 entries ++ count_line count)) text later left (a ∙ ap (λ (t : List ℕ). title_line mode ++ t) (b ∙ ap (λ (t : List ℕ). entries_text 0 entries ++ t) c) ∙ joined (title_line mode) (entries_text 0 entries) (count_line count) later) stop within section
  where
    joined : (p q r x : List ℕ) → p ++ (q ++ (r ++ x)) ≡ (p ++ (q ++ r)) ++ x
    joined p q r x = simp append_assoc

    regroup : (p q r x y z : List ℕ) → p ++ (q ++ ((r ++ (x ++ y)) ++ z)) ≡ ((p ++ (q ++ r)) ++ x) ++ (y ++ z)
    regroup p q r x y z = simp append_assoc

    within : (t : List ℕ) → WithinTail count t → BeginsTrace ((title_line mode ++ (entries_text 0 entries ++ count_line count)) ++ t)
    within t w = (
      made mode entries (Some w.0) endings.End,
      w.1 ++ last_line endings.End (length entries),
      (few, fit, w.3, tt),
      ap (λ (n : ℕ). title_line mode ++ (entries_text 0 entries ++ ((count_line n ++ notes_and_after w.0) ++ last_line endings.End (length entries)))) w.2
          ∙ ap (λ (s : List ℕ). title_line mode ++ (entries_text 0 entries ++ ((count_line count ++ s) ++ last_line endings.End (length entries)))) w.4
          ∙ regroup (title_line mode) (entries_text 0 entries) (count_line count) t w.1 (last_line endings.End (length entries)),
    )

    no_count_line : (ending : Ending) (n : ℕ) (rest : List ℕ) → count_line count ++ rest ≡ last_line ending n → ⊥
    no_count_line ending n rest e = tail_ends_closed None (last_line ending n) (last_closes ending n) count rest small (sym e)

    by_tail : (tail : Option TailParts) (ending : Ending) (n : ℕ) (t rest : List ℕ) → FitsTail tail → count_line count ++ (t ++ rest) ≡ tail_lines tail ++ last_line ending n → BeginsTail count t
    by_tail None ending n t rest fits e = absurd (no_count_line ending n (t ++ rest) e)
    by_tail (Some tail) ending n t rest fits e =
        let own = notes_and_after tail ++ last_line ending n in
        let same = pair_is count (length tail.notes) (t ++ rest) own (sym (count_again count (t ++ rest) small) ∙ ap count_at (e ∙ append_assoc (count_line (length tail.notes)) (notes_and_after tail) (last_line ending n)) ∙ count_again (length tail.notes) own fits.0) in
        (tail, last_line ending n, rest, sym same.0, fits, sym same.1)

    split_front : (t rest : List ℕ) → (title_line mode ++ (entries_text 0 entries ++ count_line count)) ++ t ≡ title_line mode ++ (entries_text 0 entries ++ (count_line count ++ t))
    split_front t rest = sym (joined (title_line mode) (entries_text 0 entries) (count_line count) t)

    section : (t : List ℕ) → BeginsTrace ((title_line mode ++ (entries_text 0 entries ++ count_line count)) ++ t) → BeginsTail count t
    section t b =
        let whole : text_of b.0 ≡ (title_line mode ++ (entries_text 0 entries ++ (count_line count ++ t))) ++ b.1 = b.3 ∙ ap (λ (s : List ℕ). s ++ b.1) (split_front t b.1) in
        let under = after_title mode (entries_text 0 entries ++ (count_line count ++ t)) b.0 b.1 whole in
        let u = count_line count ++ (t ++ b.1) in
        let e : entries_text 0 entries ++ u ≡ body b.0.entries b.0.tail b.0.ending =
        sym (append_assoc (entries_text 0 entries) (count_line count ++ t) b.1 ∙ ap (λ (s : List ℕ). entries_text 0 entries ++ s) (append_assoc (count_line count) t b.1)) ∙ under in
        let quiet = counted count (t ++ b.1) in
        let goes = after_entries entries u b.0 few fit (no_entry_closed (length entries) u quiet.0) (last_shown_quiet entries u (quiet.1, quiet.2)) b.2 e in
        by_tail b.0.tail b.0.ending (length b.0.entries) t b.1 b.2.2 goes.1

-- ---- the last line

abbrev last_of : ℕ → Ending → List ℕ
last_of count ending = last_line ending count

abbrev fits_last : Bool → ℕ → Ending → Type 0
fits_last has_tail count ending = EndsAs has_tail ending × (count < 4294967296)

last_again : (has_tail : Bool) (count : ℕ) → ReadsAgain (last_of count) (fits_last has_tail count) (ending_at has_tail count)
last_again has_tail count ending rest fits = ending_read has_tail ending count rest fits.0 fits.1

lasts_are_lines : (has_tail : Bool) (count : ℕ) → AreLines (last_of count) (fits_last has_tail count)
lasts_are_lines has_tail count ending fits = last_is_line ending count fits.1

-- how a trace may end
some_ending : Option TailParts → Ending
some_ending None = endings.NoneLeft
some_ending (Some tail) = endings.End

ending_fits : (tail : Option TailParts) → FitsEnding tail (some_ending tail)
unfolding some_ending
ending_fits None = tt
ending_fits (Some tail) = tt

pub last_stop : (mode : Mode) (entries : List Entry) (tail : Option TailParts) (has_tail : Bool) (count : ℕ) (text first second rest : List ℕ) → length entries < 4294967296 → Each FitsEntry entries → FitsTail tail
    → has_tail ≡ is_some tail → count ≡ length entries → text ≡ title_line mode ++ first → first ≡ entries_text 0 entries ++ second → second ≡ tail_lines tail ++ rest
    → entry_at (length entries) second ≡ None → EndShowings entries second → TailIsOver tail rest → None ≡ ending_at has_tail count rest → StopsAt BeginsTrace BeginsTrace text (length rest)
last_stop mode entries tail has_tail count text first second rest few fit fits has n a b c over shown closed none = (
  title_line mode ++ (entries_text 0 entries ++ tail_lines tail),
  rest,
  a ∙ ap (λ (t : List ℕ). title_line mode ++ t) (b ∙ ap (λ (t : List ℕ). entries_text 0 entries ++ t) c) ∙ joined (title_line mode) (entries_text 0 entries) (tail_lines tail) rest,
  refl,
  (made mode entries tail (some_ending tail), last_line (some_ending tail) (length entries), (few, fit, fits, ending_fits tail), joined (title_line mode) (entries_text 0 entries) (tail_lines tail) (last_line (some_ending tail) (length entries))),
  (λ more later split begins. refuse more later split begins.0 begins.1 begins.2 begins.3),
)
  where
    joined : (p q r x : List ℕ) → p ++ (q ++ (r ++ x)) ≡ (p ++ (q ++ r)) ++ x
    joined p q r x = simp append_assoc

    regroup : (p q r x y : List ℕ) → ((p ++ (q ++ r)) ++ (x ++ (10 ∷ []))) ++ y ≡ (p ++ (q ++ (r ++ (x ++ (10 ∷ []))))) ++ y
    regroup p q r x y = simp append_assoc

    inner : (q r x y : List ℕ) → (q ++ (r ++ (x ++ (10 ∷ [])))) ++ y ≡ q ++ (r ++ (x ++ (10 ∷ y)))
    inner q r x y = simp append_assoc

    over_here : (t : Option TailParts) → second ≡ tail_lines t ++ rest → (more later x : List ℕ) → rest ≡ more ++ (10 ∷ later) → NoEntry (length entries) (tail_lines t ++ (more ++ (10 ∷ x)))
    over_here None here more later x split = no_entry_here (length entries) second more later x over (here ∙ split)
    over_here (Some t) here more later x split = no_entry_closed (length entries) (tail_lines (Some t) ++ (more ++ (10 ∷ x))) (number_at_none 4294967294 (tail_lines (Some t) ++ (more ++ (10 ∷ x))) refl)

    shown_here : (t : Option TailParts) → second ≡ tail_lines t ++ rest → (more later x : List ℕ) → rest ≡ more ++ (10 ∷ later) → LastIsShown entries (tail_lines t ++ (more ++ (10 ∷ x)))
    shown_here None here more later x split = last_shown_here entries second more later x (here ∙ split) shown
    shown_here (Some t) here more later x split = last_shown_quiet entries (tail_lines (Some t) ++ (more ++ (10 ∷ x))) (refl, refl)

    refuse : (more later : List ℕ) → rest ≡ more ++ (10 ∷ later) → (trace : TraceParts) (x : List ℕ) → IsTrace trace
        → text_of trace ≡ ((title_line mode ++ (entries_text 0 entries ++ tail_lines tail)) ++ (more ++ (10 ∷ []))) ++ x → ⊥
    refuse more later split trace x is e =
        let u = more ++ (10 ∷ x) in
        let under = after_title mode (entries_text 0 entries ++ (tail_lines tail ++ (more ++ (10 ∷ [])))) trace x (e ∙ regroup (title_line mode) (entries_text 0 entries) (tail_lines tail) more x) in
        let own = last_line trace.ending (length trace.entries) in
        let goes = after_entries entries (tail_lines tail ++ u) trace few fit (over_here tail c more later x split) (shown_here tail c more later x split) is
        (sym (inner (entries_text 0 entries) (tail_lines tail) more x) ∙ under) in
        let same = tails_same tail trace.tail u own fits is.2 (tail_ends_here tail rest more later x split closed) (tail_ends_closed trace.tail own (last_closes trace.ending (length trace.entries))) goes.1 in
        let kind : EndsAs has_tail trace.ending = subst (λ (t : Bool). EndsAs t trace.ending) (sym (has ∙ same.0)) is.3 in
        let counts : count ≡ length trace.entries = n ∙ goes.0 in
        no_line_here (last_of count) (fits_last has_tail count) (ending_at has_tail count) rest more later x (lasts_are_lines has_tail count) (last_again has_tail count) none split
        trace.ending [] (kind, (let m = is.0 in omega (arith, m, counts))) (same.1 ∙ ap (λ (i : ℕ). last_line trace.ending i) (sym counts) ∙ sym (append-nil (last_line trace.ending count)))

-- ---- after the last line

pub over_stop : (mode : Mode) (entries : List Entry) (tail : Option TailParts) (ending : Ending) (text first second third rest : List ℕ) → IsTrace (made mode entries tail ending)
    → text ≡ title_line mode ++ first → first ≡ entries_text 0 entries ++ second → second ≡ tail_lines tail ++ third → third ≡ last_line ending (length entries) ++ rest → StopsAt BeginsTrace BeginsTrace text (length rest)
over_stop mode entries tail ending text first second third rest is a b c d = (
  text_of (made mode entries tail ending),
  rest,
  a ∙ ap (λ (t : List ℕ). title_line mode ++ t) (b ∙ ap (λ (t : List ℕ). entries_text 0 entries ++ t) (c ∙ ap (λ (t : List ℕ). tail_lines tail ++ t) d))
      ∙ joined (title_line mode) (entries_text 0 entries) (tail_lines tail) (last_line ending (length entries)) rest,
  refl,
  (made mode entries tail ending, [], is, sym (append-nil (text_of (made mode entries tail ending)))),
  (λ more later split begins. refuse more begins.0 begins.1 begins.2 begins.3),
)
  where
    joined : (p q r l x : List ℕ) → p ++ (q ++ (r ++ (l ++ x))) ≡ (p ++ (q ++ (r ++ l))) ++ x
    joined p q r l x = simp append_assoc

    regroup : (p q r l x y : List ℕ) → ((p ++ (q ++ (r ++ l))) ++ (x ++ (10 ∷ []))) ++ y ≡ (p ++ (q ++ (r ++ (l ++ (x ++ (10 ∷ [])))))) ++ y
    regroup p q r l x y = simp append_assoc

    inner : (q r l x y : List ℕ) → (q ++ (r ++ (l ++ (x ++ (10 ∷ []))))) ++ y ≡ q ++ (r ++ (l ++ (x ++ (10 ∷ y))))
    inner q r l x y = simp append_assoc

    not_empty : (more x : List ℕ) → more ++ (10 ∷ x) ≡ [] → ⊥
    not_empty [] x e = absurd cc
    not_empty (m ∷ more) x e = absurd cc

    refuse : (more : List ℕ) (trace : TraceParts) (x : List ℕ) → IsTrace trace
        → text_of trace ≡ ((title_line mode ++ (entries_text 0 entries ++ (tail_lines tail ++ last_line ending (length entries)))) ++ (more ++ (10 ∷ []))) ++ x → ⊥
    refuse more trace x own e =
        let last = last_line ending (length entries) in
        let u = last ++ (more ++ (10 ∷ x)) in
        let other = last_line trace.ending (length trace.entries) in
        let under = after_title mode (entries_text 0 entries ++ (tail_lines tail ++ (last ++ (more ++ (10 ∷ []))))) trace x (e ∙ regroup (title_line mode) (entries_text 0 entries) (tail_lines tail) last more x) in
        let quiet = quiet_after tail ending (length entries) (more ++ (10 ∷ x)) is.3 in
        let goes = after_entries entries (tail_lines tail ++ u) trace is.0 is.1 (no_entry_closed (length entries) (tail_lines tail ++ u) quiet.0) (last_shown_quiet entries (tail_lines tail ++ u) (quiet.1, quiet.2)) own
        (sym (inner (entries_text 0 entries) (tail_lines tail) last more x) ∙ under) in
        let same = tails_same tail trace.tail u other is.2 own.2 (tail_ends_closed tail u (last_quiet ending (length entries) (more ++ (10 ∷ x)))) (tail_ends_closed trace.tail other (last_closes trace.ending (length trace.entries))) goes.1 in
        let kind : EndsAs (is_some tail) trace.ending = subst (λ (t : Bool). EndsAs t trace.ending) (sym same.0) own.3 in
        let number : other ++ [] ≡ last_line trace.ending (length entries) ++ [] = ap (λ (i : ℕ). last_line trace.ending i ++ []) (sym goes.0) in
        let whole : u ≡ last_line trace.ending (length entries) ++ [] = same.1 ∙ sym (append-nil other) ∙ number in
        let last_read = pair_is ending trace.ending (more ++ (10 ∷ x)) [] (sym (last_again (is_some tail) (length entries) ending (more ++ (10 ∷ x)) (is.3, is.0)) ∙ ap (ending_at (is_some tail) (length entries)) whole ∙ last_again (is_some tail) (length entries) trace.ending [] (kind, is.0)) in
        not_empty more x last_read.1

-- ---- the number of the line

pub line_stop : (text : List ℕ) (left number : ℕ) → number ≡ lines_after 1 (take (length text - left) text) → StopsAt BeginsTrace BeginsTrace text left
    → (front : List ℕ) × (rest : List ℕ) × (text ≡ front ++ rest) × (number ≡ lines_after 1 front) × BeginsTrace front × NoLineFits BeginsTrace front rest
line_stop text left number is stop = (stop.0, stop.1, stop.2, is ∙ ap (lines_after 1) (front_is text stop.0 stop.1 left stop.2 stop.3), stop.4, stop.5)
  where
    taken : (xs ys : List ℕ) → take (length xs) (xs ++ ys) ≡ xs
    taken [] ys = refl
    taken (x ∷ xs) ys = ap (λ (t : List ℕ). x ∷ t) (taken xs ys)

    front_is : (whole front rest : List ℕ) (n : ℕ) → whole ≡ front ++ rest → length rest ≡ n → take (length whole - n) whole ≡ front
    front_is whole front rest n e m =
        let all : length whole ≡ length front + length rest = ap length e ∙ length-append front rest in
        let size : length whole - n ≡ length front = omega (arith, all, m) in
        ap (λ (i : ℕ). take i whole) size ∙ ap (take (length front)) e ∙ taken front rest

pub tail_stops : (mode : Mode) (entries : List Entry) (text first second : List ℕ) (stop : Stop) → length entries < 4294967296 → Each FitsEntry entries → text ≡ title_line mode ++ first → first ≡ entries_text 0 entries ++ second
    → TailStop second stop → TraceStop text stop
tail_stops mode entries text first second (stops.Left left) few fit a b stop = tail_stop mode entries stop.0 text first second stop.1 left few fit stop.2 a b stop.3 stop.4
tail_stops mode entries text first second stops.NoMemory few fit a b stop = tt
