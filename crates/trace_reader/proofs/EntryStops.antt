-- Where the entries are over: no entry and no showing goes on there.
use Rattle.std.proofs.Common.{◌≡◌, inl, inr, ℕ, suc, ◌+◌, ◌<◌, ◌≤◌, Bool, true, false, cond, List, [], ◌∷◌, ◌++◌, length, Option, Some, None, refl, sym, ap, ◌∙◌, arith, append_assoc}
use Rattle.std.specs.Prelude.{◌⊎◌, codes}
use Rattle.trace_reader.specs.declared.trace.Side.{Side}
use Rattle.trace_reader.specs.declared.trace.Side.TheVariants as sides
use Rattle.trace_reader.specs.declared.trace.Showings.{Showings}
use Rattle.trace_reader.specs.declared.trace.Showings.TheVariants as showings
use Rattle.trace_reader.specs.declared.trace.Request.{Request}
use Rattle.trace_reader.specs.declared.trace.Entry.{Entry}
use Rattle.trace_reader.specs.Fields.{◌>>=◌, after, number_at}
use Rattle.trace_reader.specs.Words.{side_at}
use Rattle.trace_reader.specs.Lines.{is_output, side_line_at, second_shown, first_shown, shown_at, showings_at, asked_at, with_showings, entry_at}
use Rattle.trace_reader.specs.Text.{side_text, entry_line, shown_lines, entries_text}
use Rattle.trace_reader.specs.Ranges.{Each, FitsEntry, EndShowings}
use Rattle.trace_reader.proofs.Fronts.{after_again}
use Rattle.trace_reader.proofs.ReadEntries.{NoShowing, bare, asked_again, entries_begin_quiet}
use Rattle.trace_reader.proofs.LineEnds.{line_join, same_line, side_unbroken, entry_is_line}
use Rattle.trace_reader.proofs.GoesOn.{no_reading, pair_is}
use Rattle.trace_reader.proofs.SectionStops.{ReadsAgain, AreLines, NoLine, no_line_here}

-- no line of entry k begins here
abbrev pub NoEntry : ℕ → List ℕ → Type 0
NoEntry k text = (entry : Entry) (rest : List ℕ) → k < 4294967295 → FitsEntry entry → text ≡ entry_line k entry ++ rest → ⊥

none_asked : (k : ℕ) (text : List ℕ) → entry_at k text ≡ None → asked_at k text ≡ None
unfolding entry_at
none_asked k text over = by_asked (asked_at k text) over
  where
    by_asked : (o : Option (Entry × List ℕ)) → (o >>= (λ asked. Some (with_showings asked.0 (showings_at asked.0.request asked.0.answer asked.1)))) ≡ None → o ≡ None
    by_asked None e = refl
    by_asked (Some asked) e = absurd cc

pub no_entry_here : (k : ℕ) (rest more later x : List ℕ) → entry_at k rest ≡ None → rest ≡ more ++ (10 ∷ later) → NoEntry k (more ++ (10 ∷ x))
no_entry_here k rest more later x over split entry z few fits here =
    no_reading (bare entry) same.0 (asked_at k rest) (sym (none_asked k rest over)) (ap (asked_at k) (split ∙ same.1) ∙ asked_again k entry same.0 few fits)
  where
    same : (z : List ℕ) × (more ++ (10 ∷ later) ≡ entry_line k entry ++ z)
    same = same_line (entry_line k entry) z more x later (entry_is_line k entry (omega (arith, few)) fits) (sym here)

none_numbered : (k : ℕ) (text : List ℕ) → number_at 4294967294 text ≡ None → asked_at k text ≡ None
unfolding asked_at
none_numbered k text closed = rw closed refl

pub no_entry_closed : (k : ℕ) (text : List ℕ) → number_at 4294967294 text ≡ None → NoEntry k text
no_entry_closed k text closed entry z few fits here =
    no_reading (bare entry) z (asked_at k text) (sym (none_numbered k text closed)) (ap (asked_at k) here ∙ asked_again k entry z few fits)

-- ---- showings

abbrev show_row : List ℕ → Side → List ℕ
show_row word side = word ++ (side_text side ++ codes "\n")

abbrev any_side : Side → Type 0
any_side side = Unit {0}

show_is_line : AreLines (show_row (codes "SHOW ")) any_side
show_is_line side fits = line_join (side_text side) (codes "\n") (side_unbroken side) refl

again_is_line : AreLines (show_row (codes "AGAIN ")) any_side
again_is_line side fits = line_join (side_text side) (codes "\n") (side_unbroken side) refl

show_again : ReadsAgain (show_row (codes "SHOW ")) any_side (side_line_at (codes "SHOW "))
unfolding side_line_at side_at
show_again sides.A rest fits = refl
show_again sides.B rest fits = refl

again_again : ReadsAgain (show_row (codes "AGAIN ")) any_side (side_line_at (codes "AGAIN "))
unfolding side_line_at side_at
again_again sides.A rest fits = refl
again_again sides.B rest fits = refl

-- no showing that may follow these begins here
abbrev NoMoreShown : Showings → List ℕ → Type 0
NoMoreShown showings.None text = NoLine (show_row (codes "SHOW ")) any_side text
NoMoreShown (showings.Once first) text = NoLine (show_row (codes "AGAIN ")) any_side text
NoMoreShown (showings.Twice first second) text = Unit {0}

once_none : (a : Side) → showings.Once a ≡ showings.None → ⊥
once_none a e = absurd cc

twice_none : (a b : Side) → showings.Twice a b ≡ showings.None → ⊥
twice_none a b e = absurd cc

twice_once : (a b c : Side) → showings.Twice a b ≡ showings.Once c → ⊥
twice_once a b c e = absurd cc

none_first : (text rest : List ℕ) (o : Option (Side × List ℕ)) → first_shown text o ≡ (showings.None, rest) → None ≡ o
none_first text rest None e = refl
none_first text rest (Some first) e = by_second (side_line_at (codes "AGAIN ") first.1) e
  where
    by_second : (o : Option (Side × List ℕ)) → second_shown first o ≡ (showings.None, rest) → None ≡ Some first
    by_second None e = absurd (once_none first.0 (ap (λ (p : Showings × List ℕ). p.0) e))
    by_second (Some second) e = absurd (twice_none first.0 second.0 (ap (λ (p : Showings × List ℕ). p.0) e))

none_second : (side : Side) (text rest : List ℕ) (o : Option (Side × List ℕ)) → second_shown (side, text) o ≡ (showings.Once side, rest) → None ≡ o
none_second side text rest None e = refl
none_second side text rest (Some second) e = absurd (twice_once side second.0 side (ap (λ (p : Showings × List ℕ). p.0) e))

no_more : (shown : Showings) (rest more later x : List ℕ) → rest ≡ more ++ (10 ∷ later) → shown_at (shown_lines shown ++ rest) ≡ (shown, rest) → NoMoreShown shown (more ++ (10 ∷ x))
unfolding shown_at side_line_at side_at
no_more showings.None rest more later x split e =
    no_line_here (show_row (codes "SHOW ")) any_side (side_line_at (codes "SHOW ")) rest more later x show_is_line show_again (none_first rest rest (side_line_at (codes "SHOW ") rest) e) split
no_more (showings.Once sides.A) rest more later x split e =
    no_line_here (show_row (codes "AGAIN ")) any_side (side_line_at (codes "AGAIN ")) rest more later x again_is_line again_again (none_second sides.A rest rest (side_line_at (codes "AGAIN ") rest) e) split
no_more (showings.Once sides.B) rest more later x split e =
    no_line_here (show_row (codes "AGAIN ")) any_side (side_line_at (codes "AGAIN ")) rest more later x again_is_line again_again (none_second sides.B rest rest (side_line_at (codes "AGAIN ") rest) e) split
no_more (showings.Twice first second) rest more later x split e = tt

abbrev some_text : List ℕ → Option (List ℕ)
some_text t = Some t

not_some : (t : List ℕ) → None ≡ some_text t → ⊥
not_some t e = absurd cc

no_word_line : (word text : List ℕ) → after word text ≡ None → NoLine (show_row word) any_side text
no_word_line word text closed side rest fits here = not_some ((side_text side ++ codes "\n") ++ rest) (sym closed ∙ ap (after word) (here ∙ append_assoc word (side_text side ++ codes "\n") rest) ∙ after_again word ((side_text side ++ codes "\n") ++ rest))

quiet_shown : (shown : Showings) (text : List ℕ) → NoShowing text → NoMoreShown shown text
quiet_shown showings.None text quiet = no_word_line (codes "SHOW ") text quiet.0
quiet_shown (showings.Once first) text quiet = no_word_line (codes "AGAIN ") text quiet.1
quiet_shown (showings.Twice first second) text quiet = tt

same_show : (a b : Side) (u v : List ℕ) → show_row (codes "SHOW ") a ++ u ≡ show_row (codes "SHOW ") b ++ v → u ≡ v
same_show a b u v e = (pair_is a b u v (sym (show_again a u tt) ∙ ap (side_line_at (codes "SHOW ")) e ∙ show_again b v tt)).1

same_again : (a b : Side) (u v : List ℕ) → show_row (codes "AGAIN ") a ++ u ≡ show_row (codes "AGAIN ") b ++ v → u ≡ v
same_again a b u v e = (pair_is a b u v (sym (again_again a u tt) ∙ ap (side_line_at (codes "AGAIN ")) e ∙ again_again b v tt)).1

twice_rows : (a b : Side) (u : List ℕ) → shown_lines (showings.Twice a b) ++ u ≡ show_row (codes "SHOW ") a ++ (show_row (codes "AGAIN ") b ++ u)
twice_rows sides.A sides.A u = refl
twice_rows sides.A sides.B u = refl
twice_rows sides.B sides.A u = refl
twice_rows sides.B sides.B u = refl

shown_same : (s t : Showings) (u v : List ℕ) → NoMoreShown s u → NoShowing v → shown_lines s ++ u ≡ shown_lines t ++ v → u ≡ v
shown_same showings.None showings.None u v none quiet e = e
shown_same showings.None (showings.Once b) u v none quiet e = absurd (none b v tt e)
shown_same showings.None (showings.Twice b c) u v none quiet e = absurd (none b (show_row (codes "AGAIN ") c ++ v) tt (e ∙ twice_rows b c v))
shown_same (showings.Once a) showings.None u v none quiet e = absurd (no_word_line (codes "SHOW ") v quiet.0 a u tt (sym e))
shown_same (showings.Once a) (showings.Once b) u v none quiet e = same_show a b u v e
shown_same (showings.Once a) (showings.Twice b c) u v none quiet e = absurd (none c v tt (same_show a b u (show_row (codes "AGAIN ") c ++ v) (e ∙ twice_rows b c v)))
shown_same (showings.Twice a d) showings.None u v none quiet e = absurd (no_word_line (codes "SHOW ") v quiet.0 a (show_row (codes "AGAIN ") d ++ u) tt (sym e ∙ twice_rows a d u))
shown_same (showings.Twice a d) (showings.Once b) u v none quiet e = absurd (no_word_line (codes "AGAIN ") v quiet.1 d u tt (sym (same_show a b (show_row (codes "AGAIN ") d ++ u) v (sym (twice_rows a d u) ∙ e))))
shown_same (showings.Twice a d) (showings.Twice b c) u v none quiet e = same_again d c u v (same_show a b (show_row (codes "AGAIN ") d ++ u) (show_row (codes "AGAIN ") c ++ v) (sym (twice_rows a d u) ∙ e ∙ twice_rows b c v))

-- ---- entries

-- after the last of these entries no showing of it begins here
abbrev pub LastIsShown : List Entry → List ℕ → Type 0
LastIsShown [] text = Unit {0}
LastIsShown (entry ∷ []) text = (is_output entry.request entry.answer ≡ false) ⊎ NoMoreShown entry.shown text
LastIsShown (entry ∷ next ∷ entries) text = LastIsShown (next ∷ entries) text

pub last_shown_here : (entries : List Entry) (rest more later x : List ℕ) → rest ≡ more ++ (10 ∷ later) → EndShowings entries rest → LastIsShown entries (more ++ (10 ∷ x))
unfolding showings_at
last_shown_here [] rest more later x split e = tt
last_shown_here (entry ∷ []) rest more later x split e = by_output (is_output entry.request entry.answer) refl e
  where
    by_output : (t : Bool) → is_output entry.request entry.answer ≡ t → cond t (shown_at (shown_lines entry.shown ++ rest)) (showings.None, shown_lines entry.shown ++ rest) ≡ (entry.shown, rest)
        → (is_output entry.request entry.answer ≡ false) ⊎ NoMoreShown entry.shown (more ++ (10 ∷ x))
    by_output true is shown = inr (no_more entry.shown rest more later x split shown)
    by_output false is shown = inl is
last_shown_here (entry ∷ next ∷ entries) rest more later x split e = last_shown_here (next ∷ entries) rest more later x split e

pub last_shown_quiet : (entries : List Entry) (text : List ℕ) → NoShowing text → LastIsShown entries text
last_shown_quiet [] text quiet = tt
last_shown_quiet (entry ∷ []) text quiet = inr (quiet_shown entry.shown text quiet)
last_shown_quiet (entry ∷ next ∷ entries) text quiet = last_shown_quiet (next ∷ entries) text quiet

later_shown : (entry : Entry) (entries : List Entry) (text : List ℕ) → LastIsShown (entry ∷ entries) text → LastIsShown entries text
later_shown entry [] text shown = tt
later_shown entry (next ∷ entries) text shown = shown

not_both : (b : Bool) → b ≡ true → b ≡ false → ⊥
not_both b is isnt = clash (sym is ∙ isnt)
  where
    clash : true ≡ false → ⊥
    clash e = absurd cc

-- what follows the showings of an entry
after_showings : (k : ℕ) (e f : Entry) (es : List Entry) (u b : List ℕ) → k + suc (length es) ≤ 4294967295 → FitsEntry e → FitsEntry f → e.request ≡ f.request → e.answer ≡ f.answer
    → LastIsShown (e ∷ es) u → NoShowing b → shown_lines e.shown ++ (entries_text (k + 1) es ++ u) ≡ shown_lines f.shown ++ b → entries_text (k + 1) es ++ u ≡ b
after_showings k e f [] u b few fe ff ask answer (inr none) quiet same = shown_same e.shown f.shown u b none quiet same
after_showings k e f [] u b few fe ff ask answer (inl silent) quiet same = by_fits fe.3 ff.3
  where
    also : is_output f.request f.answer ≡ false
    also = ap (λ (r : Request). is_output r f.answer) (sym ask) ∙ ap (is_output e.request) (sym answer) ∙ silent

    by_fits : ((is_output e.request e.answer ≡ true) ⊎ (e.shown ≡ showings.None)) → ((is_output f.request f.answer ≡ true) ⊎ (f.shown ≡ showings.None)) → u ≡ b
    by_fits (inl output) right = absurd (not_both (is_output e.request e.answer) output silent)
    by_fits (inr none) (inl output) = absurd (not_both (is_output f.request f.answer) output also)
    by_fits (inr none) (inr nor) = ap (λ (s : Showings). shown_lines s ++ u) (sym none) ∙ same ∙ ap (λ (s : Showings). shown_lines s ++ b) nor
after_showings k e f (next ∷ es) u b few fe ff ask answer shown quiet same =
    shown_same e.shown f.shown (entries_text (k + 1) (next ∷ es) ++ u) b (quiet_shown e.shown (entries_text (k + 1) (next ∷ es) ++ u) (entries_begin_quiet (k + 1) next es u (omega (arith, few)))) quiet same

entry_parts : (k : ℕ) (entry : Entry) (entries : List Entry) (u : List ℕ) → entries_text k (entry ∷ entries) ++ u ≡ entry_line k entry ++ (shown_lines entry.shown ++ (entries_text (k + 1) entries ++ u))
entry_parts k entry entries u =
    append_assoc (entry_line k entry) (shown_lines entry.shown ++ entries_text (k + 1) entries) u
    ∙ ap (λ (t : List ℕ). entry_line k entry ++ t) (append_assoc (shown_lines entry.shown) (entries_text (k + 1) entries) u)

-- two texts that begin with entries, and then have none: the second's end is quiet
pub entries_same : (k n m : ℕ) (es fs : List Entry) (u v : List ℕ) → n ≡ k + length es → m ≡ k + length fs → n ≤ 4294967295 → m ≤ 4294967295 → Each FitsEntry es → Each FitsEntry fs
    → NoEntry n u → NoEntry m v → LastIsShown es u → NoShowing v → entries_text k es ++ u ≡ entries_text k fs ++ v → (n ≡ m) × (u ≡ v)
entries_same k n m [] [] u v nn mm few also fe ff nu nv shown quiet e = (omega (arith, nn, mm), e)
entries_same k n m [] (f ∷ fs) u v nn mm few also fe ff nu nv shown quiet e =
    let here : n ≡ k = omega (arith, nn) in
    absurd (nu f (shown_lines f.shown ++ (entries_text (k + 1) fs ++ v)) (omega (arith, here, mm, also)) ff.0 (e ∙ entry_parts k f fs v ∙ ap (λ (i : ℕ). entry_line i f ++ (shown_lines f.shown ++ (entries_text (k + 1) fs ++ v))) (sym here)))
entries_same k n m (x ∷ es) [] u v nn mm few also fe ff nu nv shown quiet e =
    let here : m ≡ k = omega (arith, mm) in
    absurd (nv x (shown_lines x.shown ++ (entries_text (k + 1) es ++ u)) (omega (arith, here, nn, few)) fe.0 (sym e ∙ entry_parts k x es u ∙ ap (λ (i : ℕ). entry_line i x ++ (shown_lines x.shown ++ (entries_text (k + 1) es ++ u))) (sym here)))
entries_same k n m (x ∷ es) (f ∷ fs) u v nn mm few also fe ff nu nv shown quiet e =
    let a = entries_text (k + 1) es ++ u in
    let b = entries_text (k + 1) fs ++ v in
    let below : k < 4294967295 = omega (arith, nn, few) in
    let joined : entry_line k x ++ (shown_lines x.shown ++ a) ≡ entry_line k f ++ (shown_lines f.shown ++ b) = sym (entry_parts k x es u) ∙ e ∙ entry_parts k f fs v in
    let same = pair_is (bare x) (bare f) (shown_lines x.shown ++ a) (shown_lines f.shown ++ b)
    (sym (asked_again k x (shown_lines x.shown ++ a) below fe.0) ∙ ap (asked_at k) joined ∙ asked_again k f (shown_lines f.shown ++ b) below ff.0) in
    let left : a ≡ b = after_showings k x f es u b (omega (arith, nn, few)) fe.0 ff.0 (ap (λ (y : Entry). y.request) same.0) (ap (λ (y : Entry). y.answer) same.0) shown (begin_quiet fs mm) same.1 in
    entries_same (k + 1) n m es fs u v (omega (arith, nn)) (omega (arith, mm)) few also fe.1 ff.1 nu nv (later_shown x es u shown) quiet left
  where
    begin_quiet : (gs : List Entry) → (m ≡ k + suc (length gs)) → NoShowing (entries_text (k + 1) gs ++ v)
    begin_quiet [] is = quiet
    begin_quiet (g ∷ gs) is = entries_begin_quiet (k + 1) g gs v (omega (arith, is, also))
