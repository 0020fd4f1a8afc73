use Rattle.std.proofs.Common.{◌≡◌, ◌++◌, ◌+◌, ℕ, List, [], ◌∷◌, length, length-append, Some, None, sym, ap, ◌∙◌, arith}
use Rattle.std.proofs.Common.{append_assoc}
use Rattle.trace_reader.specs.Lines.{entry_at}
use Rattle.trace_reader.specs.Text.{entry_line, shown_lines, entries_text}
use Rattle.trace_reader.specs.Ranges.{FitsEntry}
use Rattle.trace_reader.proofs.Sections.{entries_more, each_more, end_showings}
use Rattle.trace_reader.proofs.GoesOn.{entry_less, no_entry_left}
use Rattle.trace_reader.proofs.reading.entries_from.Goals as goal

pub entries-preserved : goal.entries-preserved
entries-preserved c =
    let items = c.in_ok-push.ensures.items in
    let es = c.entries.entries.items in
    let e = c.in-Some.entry in
    let next = c.in-Some.next.now in
    let k : c.len.result ≡ length es = omega (arith, c.len.ensures, c.entries.entries.ok) in
    let found : entry_at (length es) c.entries.rest.now ≡ Some (e, next) = ap (λ (n : ℕ). entry_at n c.entries.rest.now) (sym k) ∙ sym c.in-Some.ensures.exact in
    let here : c.entries.rest.now ≡ entry_line (length es) e ++ (shown_lines e.shown ++ next) =
    c.in-Some.ensures.written ∙ ap (λ (n : ℕ). entry_line n e ++ (shown_lines e.shown ++ next)) k in
    let from_first : 0 + length es ≡ length es = omega arith in
    let last = entry_line (length es) e ++ shown_lines e.shown in
    record {
      whole = rw items (
          c.entries.invariant.whole
          ∙ ap (λ (t : List ℕ). entries_text 0 es ++ t) (here ∙ sym (append_assoc (entry_line (length es) e) (shown_lines e.shown) next))
          ∙ sym (append_assoc (entries_text 0 es) last next)
          ∙ ap (λ (t : List ℕ). t ++ next) (sym (entries_more 0 es e ∙ ap (λ (n : ℕ). entries_text 0 es ++ (entry_line n e ++ shown_lines e.shown)) from_first)));
      fits = rw items (each_more FitsEntry es e c.entries.invariant.fits c.in-Some.ensures.fits);
      few = rw items (let n : length (es ++ e ∷ []) ≡ length es + 1 = length-append es (e ∷ []) in omega (arith, n, k, c.in-Some.ensures.numbered));
      shown = rw items (end_showings es e next c.in-Some.ensures.shown);
      left = λ all end few fit closes whole.
          rw items (entry_less all es c.entries.rest.now end next e few closes found (c.entries.invariant.left all end few fit closes whole));
    }

pub returns-clause-over : goal.returns-clause-over
returns-clause-over c =
    let es = c.entries.entries.items in
    let k : c.len.result ≡ length es = omega (arith, c.len.ensures, c.entries.entries.ok) in
    let read = rw c.in_default.is at c.entry_at.ensures in
    ap (λ (n : ℕ). entry_at n c.entries.rest.now) (sym k) ∙ sym read.exact

pub returns-clause-exact : goal.returns-clause-exact
returns-clause-exact c = λ entries rest few fit closes whole.
    let es = c.entries.entries.items in
    let k : c.len.result ≡ length es = omega (arith, c.len.ensures, c.entries.entries.ok) in
    let read = rw c.in_default.is at c.entry_at.ensures in
    let over : entry_at (length es) c.entries.rest.now ≡ None = ap (λ (n : ℕ). entry_at n c.entries.rest.now) (sym k) ∙ sym read.exact in
    no_entry_left entries es c.entries.rest.now rest few closes over (c.entries.invariant.left entries rest few fit closes whole)
