-- Reading one line more.
use Rattle.std.proofs.Common.{◌≡◌, ℕ, ◌+◌, ◌≤◌, Bool, true, false, cond, ltb, List, [], ◌∷◌, length, Option, Some, None, Result, Ok, Err, refl, sym, subst, ◌∙◌, ap, arith}
use Rattle.std.specs.Option.{IfSome}
use Rattle.std.specs.Str.Lines.{lines}
use Rattle.std.proofs.lemmas.List.{length_push}
use Rattle.std.proofs.lemmas.Bool.Decides.{nat_tests}
use Rattle.ft_connection.specs.declared.conn_error.ConnError.{ConnError}
use Rattle.ft_connection.specs.declared.event.NumberedEvent.{NumberedEvent}
use Rattle.ft_connection.specs.declared.line.Line.{Line}
use Rattle.ft_connection.specs.declared.line.Line.TheVariants.{Job, Happens, End}
use Rattle.ft_connection.specs.declared.reading.Stage.{Stage}
use Rattle.ft_connection.specs.declared.reading.Stage.TheVariants.{Jobs, Events, Ended}
use Rattle.ft_connection.specs.Words.{◌>>=◌, is_skipped}
use Rattle.ft_connection.specs.LineForm.{line_spelled}
use Rattle.ft_connection.specs.FileReading.{Read, with_job, with_event, with_end, with_line, with_text, is_ended, bad_event, read_lines}

-- there are no more jobs than lines before this one, and no more lines than may stand
pub record IsCounted (r : Read) (number : ℕ) : Type 0 where
  pub jobs : length r.jobs + 1 ≤ number
  pub lines : number ≤ 20001

-- the line may stand, and adds one job at most
abbrev pub AddsOne : Read → ℕ → Read → Type 0
AddsOne r number next = (number ≤ 20000) × (length next.jobs ≤ length r.jobs + 1)

job_adds : (r : Read) (number job : ℕ) (stage : Stage) → number ≤ 20000 → IfSome (with_job r job stage) (AddsOne r number)
job_adds r number job Jobs low = (low, omega (arith, length_push r.jobs job))
job_adds r number job Events low = tt
job_adds r number job Ended low = tt

event_adds : (r : Read) (number : ℕ) (event : NumberedEvent) (stage : Stage) → number ≤ 20000 → IfSome (with_event r event stage) (AddsOne r number)
event_adds r number event Jobs low = (low, omega arith)
event_adds r number event Events low = (low, omega arith)
event_adds r number event Ended low = tt

end_adds : (r : Read) (number : ℕ) (stage : Stage) → number ≤ 20000 → IfSome (with_end r stage) (AddsOne r number)
end_adds r number Jobs low = (low, omega arith)
end_adds r number Events low = (low, omega arith)
end_adds r number Ended low = tt

line_adds : (r : Read) (number : ℕ) (line : Option Line) → number ≤ 20000 → IfSome (line >>= λ l. with_line r number l) (AddsOne r number)
line_adds r number None low = tt
line_adds r number (Some (Job job)) low = job_adds r number job r.stage low
line_adds r number (Some (Happens event)) low = event_adds r number (record { line = number; event = event }) r.stage low
line_adds r number (Some End) low = end_adds r number r.stage low

text_adds : (r : Read) (number : ℕ) (skipped : Bool) (line : Option Line) → number ≤ 20000
    → IfSome (cond skipped (Some r) (line >>= λ l. with_line r number l)) (AddsOne r number)
text_adds r number true line low = (low, omega arith)
text_adds r number false line low = line_adds r number line low

any_adds : (r : Read) (number : ℕ) (past : Bool) (skipped : Bool) (line : Option Line) → ltb 20000 number ≡ past
    → IfSome (cond past None (cond skipped (Some r) (line >>= λ l. with_line r number l))) (AddsOne r number)
any_adds r number true skipped line is = tt
any_adds r number false skipped line is =
    let low : number ≤ 20000 = grind (arith, nat_tests) in text_adds r number skipped line low

pub adds_one : (r : Read) (number : ℕ) (text : List ℕ) → IfSome (with_text r number text) (AddsOne r number)
unfolding with_text
adds_one r number text = any_adds r number (ltb 20000 number) (is_skipped text) (line_spelled text) refl

pub keeps_count : (r next : Read) (number : ℕ) (text : List ℕ) → with_text r number text ≡ Some next → IsCounted r number → IsCounted next (number + 1)
keeps_count r next number text is before =
    let adds : AddsOne r number next = subst (λ (o : Option Read). IfSome o (AddsOne r number)) is (adds_one r number text) in
    let most = adds.0 in
    let one = adds.1 in
    let jobs = before.jobs in
    record { jobs = omega arith; lines = omega arith }

pub no_lines : (rest : List ℕ) → length rest ≡ 0 → lines rest ≡ []
no_lines [] none = refl
no_lines (b ∷ bs) none = absurd (omega arith)

-- what is left of a file is read as the file
module _ (r : Read) (number : ℕ) (texts : List (List ℕ)) (total : Result Read ConnError) (so_far : read_lines r number texts ≡ total) where
  pub goes_on : (line : List ℕ) (more : List (List ℕ)) (next : Read) → texts ≡ line ∷ more → with_text r number line ≡ Some next
      → read_lines next (number + 1) more ≡ total
  goes_on line more next cut good =
      let step : read_lines r number (line ∷ more) ≡ read_lines next (number + 1) more = rw (good, read_lines) refl in
      sym step ∙ ap (λ (ts : List (List ℕ)). read_lines r number ts) (sym cut) ∙ so_far

  pub stops : (line : List ℕ) (more : List (List ℕ)) → texts ≡ line ∷ more → with_text r number line ≡ None → total ≡ Err (bad_event number)
  stops line more cut bad =
      let step : read_lines r number (line ∷ more) ≡ Err (bad_event number) = rw (bad, read_lines) refl in
      sym so_far ∙ ap (λ (ts : List (List ℕ)). read_lines r number ts) cut ∙ step

  pub ends : texts ≡ [] → is_ended r.stage ≡ true → total ≡ Ok r
  ends none ended =
      let step : read_lines r number [] ≡ Ok r = rw ended refl in
      sym so_far ∙ ap (λ (ts : List (List ℕ)). read_lines r number ts) none ∙ step

  pub lacks_end : texts ≡ [] → is_ended r.stage ≡ false → total ≡ Err (bad_event number)
  lacks_end none open_ =
      let step : read_lines r number [] ≡ Err (bad_event number) = rw open_ refl in
      sym so_far ∙ ap (λ (ts : List (List ℕ)). read_lines r number ts) none ∙ step
