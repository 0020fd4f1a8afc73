-- Sections of a text: line after line.
use Rattle.std.proofs.Common.{◌≡◌, ℕ, suc, ◌+◌, List, [], ◌∷◌, ◌++◌, length, sym, ◌∙◌, ap, arith, append_assoc}
use Rattle.std.specs.List.{flat_map}
use Rattle.std.proofs.lemmas.List.{append-nil}
use Rattle.std.proofs.lemmas.Grind.{flat_map-append}
use Rattle.trace_reader.specs.declared.trace.Entry.{Entry}
use Rattle.trace_reader.specs.Lines.{showings_at}
use Rattle.trace_reader.specs.Ranges.{Each, EndShowings}
use Rattle.trace_reader.specs.Text.{entry_line, shown_lines, entries_text}

-- one line more
pub more_after : {A : Type 0} (line : A → List ℕ) (text : List ℕ) (xs : List A) (x : A) (rest next : List ℕ) → text ≡ flat_map line xs ++ rest → rest ≡ line x ++ next → text ≡ flat_map line (xs ++ x ∷ []) ++ next
more_after line text xs x rest next whole here =
    let more : flat_map line (xs ++ x ∷ []) ≡ flat_map line xs ++ line x = flat_map-append line xs (x ∷ []) ∙ ap (λ (ys : List ℕ). flat_map line xs ++ ys) (append-nil (line x)) in
    whole ∙ ap (λ (r : List ℕ). flat_map line xs ++ r) here ∙ sym (append_assoc (flat_map line xs) (line x) next) ∙ ap (λ (t : List ℕ). t ++ next) (sym more)

-- each of a list and one more
pub each_more : {A : Type 0} (Fits : A → Type 0) (xs : List A) (x : A) → Each Fits xs → Fits x → Each Fits (xs ++ x ∷ [])
each_more Fits [] x fit last = (last, tt)
each_more Fits (y ∷ xs) x fit last = (fit.0, each_more Fits xs x fit.1 last)

-- the showings of the last entry
pub end_showings : (entries : List Entry) (entry : Entry) (text : List ℕ) → showings_at entry.request entry.answer (shown_lines entry.shown ++ text) ≡ (entry.shown, text) → EndShowings (entries ++ entry ∷ []) text
end_showings [] entry text shown = shown
end_showings (first ∷ []) entry text shown = shown
end_showings (first ∷ second ∷ entries) entry text shown = end_showings (second ∷ entries) entry text shown

-- an entry more
pub entries_more : (k : ℕ) (es : List Entry) (e : Entry) → entries_text k (es ++ e ∷ []) ≡ entries_text k es ++ (entry_line (k + length es) e ++ shown_lines e.shown)
entries_more k [] e =
    let here : k ≡ k + 0 = omega arith in
    ap (λ (ys : List ℕ). entry_line k e ++ ys) (append-nil (shown_lines e.shown)) ∙ ap (λ (n : ℕ). entry_line n e ++ shown_lines e.shown) here
entries_more k (x ∷ es) e =
    let place : k + 1 + length es ≡ k + suc (length es) = omega arith in
    let last = entry_line (k + suc (length es)) e ++ shown_lines e.shown in
    let later : entries_text (k + 1) (es ++ e ∷ []) ≡ entries_text (k + 1) es ++ last =
    entries_more (k + 1) es e ∙ ap (λ (n : ℕ). entries_text (k + 1) es ++ (entry_line n e ++ shown_lines e.shown)) place in
    ap (λ (ys : List ℕ). entry_line k x ++ (shown_lines x.shown ++ ys)) later
    ∙ ap (λ (ys : List ℕ). entry_line k x ++ ys) (sym (append_assoc (shown_lines x.shown) (entries_text (k + 1) es) last))
    ∙ sym (append_assoc (entry_line k x) (shown_lines x.shown ++ entries_text (k + 1) es) last)
