-- A file that is written is read again.
use Rattle.std.proofs.Common.{◌≡◌, ℕ, zero, suc, ◌+◌, ◌-◌, ◌<◌, ◌≤◌, ◌^◌, false, eqb, ltb, List, [], ◌∷◌, ◌++◌, codes, length, get_or, Some, Ok, refl, sym, subst, ◌∙◌, ap, arith}
use Rattle.std.specs.List.{All, AllByRecursion, flat_map}
use Rattle.std.specs.Option.{option_map}
use Rattle.std.specs.Fmt.{decimal}
use Rattle.std.specs.Str.Lines.{lines, lines_of_parts, strip_carriage_return}
use Rattle.std.proofs.lemmas.List.{append-nil, append_assoc}
use Rattle.std.proofs.lemmas.List.Elements.{All-nil, All-cons, recursion_from_All}
use Rattle.std.proofs.lemmas.List.Splits.{slice_split_at}
use Rattle.std.proofs.lemmas.Bool.Decides.{nat_tests}
use Rattle.ft_connection.specs.declared.frame.Path.{Path}
use Rattle.ft_connection.specs.declared.frame.Path.TheVariants.{One, Two}
use Rattle.ft_connection.specs.declared.event.Event.{Event}
use Rattle.ft_connection.specs.declared.event.Event.TheVariants.{Send, Deliver, Ack, Down, Up}
use Rattle.ft_connection.specs.declared.event.NumberedEvent.{NumberedEvent}
use Rattle.ft_connection.specs.declared.line.Line.{Line}
use Rattle.ft_connection.specs.declared.line.Line.TheVariants.{Job, Happens, End}
use Rattle.ft_connection.specs.declared.reading.Stage.{Stage}
use Rattle.ft_connection.specs.declared.reading.Stage.TheVariants.{Jobs, Events, Ended}
use Rattle.ft_connection.specs.Words.{is_skipped, number_spelled, job_spelled}
use Rattle.ft_connection.specs.LineForm.{event_spelled, form_spelled, line_spelled}
use Rattle.ft_connection.specs.FileReading.{Read, with_line, with_text, read_lines, file_read}
use Rattle.ft_connection.specs.EventText.{path_text}
use Rattle.ft_connection.specs.FileText.{before, line, job_text, event_words, file_text, numbered, said, IsShort}
use Rattle.ft_connection.proofs.LineLaws.{before_split}
use Rattle.ft_connection.proofs.WordLaws.{Lacks, Lacks-append, Begins, begins, begins_last, one_word, two_words, three_words}
use Rattle.ft_connection.proofs.SpellLaws.{IsNumber, is_number, is_job}

lacks_all : (d : ℕ) (xs : List ℕ) → Lacks d xs → All (λ x. eqb x d ≡ false) xs
lacks_all d [] lacks = All-nil (λ x. eqb x d ≡ false)
lacks_all d (x ∷ xs) lacks = All-cons (λ y. eqb y d ≡ false) x xs lacks.0 (lacks_all d xs lacks.1)

none_at : (xs : List ℕ) (i : ℕ) → Lacks 13 xs → eqb (get_or xs i 0) 13 ≡ false
none_at [] i lacks = refl
none_at (x ∷ xs) zero lacks = lacks.0
none_at (x ∷ xs) (suc i) lacks = none_at xs i lacks.1

-- a line before its line feed
line_cut : (w rest : List ℕ) → Lacks 10 w → Lacks 13 w → lines (w ++ 10 ∷ rest) ≡ w ∷ lines rest
line_cut w rest no_feed no_return =
    let cut = slice_split_at (λ b. eqb b 10) w 10 rest (lacks_all 10 w no_feed) refl in
    let keeps : strip_carriage_return w ≡ w = rw (none_at w (length w - 1) no_return) refl in
    ap lines_of_parts cut ∙ before_split w rest ∙ ap (λ (v : List ℕ). v ∷ lines rest) keeps

-- a text that reads as this line
record IsLine (text : List ℕ) (l : Line) : Type 0 where
  pub kept : is_skipped text ≡ false
  pub spells : line_spelled text ≡ Some l
  pub no_feed : Lacks 10 text
  pub no_return : Lacks 13 text

not_skipped : (text w rest : List ℕ) → Begins text w rest → eqb (length w) 0 ≡ false → eqb (get_or w 0 0) 35 ≡ false → is_skipped text ≡ false
not_skipped text w rest begin some letter = rw (begin.first, some, letter) refl

-- a line of two words, by its parts
two_line : (a : ℕ) (xs : List ℕ) (b : ℕ) (ys : List ℕ) (l : Line) → eqb a 35 ≡ false
    → Lacks 32 (a ∷ xs) → Lacks 10 (a ∷ xs) → Lacks 13 (a ∷ xs) → Lacks 32 (b ∷ ys) → Lacks 10 (b ∷ ys) → Lacks 13 (b ∷ ys)
    → form_spelled (a ∷ xs) (b ∷ ys) [] ≡ Some l → IsLine ((a ∷ xs) ++ 32 ∷ b ∷ ys) l
two_line a xs b ys l letter word_a feed_a return_a word_b feed_b return_b spells =
    let full : eqb (suc (length xs)) 0 ≡ false = grind (arith, nat_tests) in
    record {
      kept = not_skipped ((a ∷ xs) ++ 32 ∷ b ∷ ys) (a ∷ xs) (32 ∷ b ∷ ys) (begins a xs (b ∷ ys) word_a) full letter;
      spells = two_words a xs b ys word_a word_b ∙ spells;
      no_feed = Lacks-append 10 (a ∷ xs) (32 ∷ b ∷ ys) feed_a (refl, feed_b);
      no_return = Lacks-append 13 (a ∷ xs) (32 ∷ b ∷ ys) return_a (refl, return_b);
    }

three_line : (a : ℕ) (xs : List ℕ) (b : ℕ) (ys : List ℕ) (c : ℕ) (zs : List ℕ) (l : Line) → eqb a 35 ≡ false
    → Lacks 32 (a ∷ xs) → Lacks 10 (a ∷ xs) → Lacks 13 (a ∷ xs) → Lacks 32 (b ∷ ys) → Lacks 10 (b ∷ ys) → Lacks 13 (b ∷ ys)
    → Lacks 32 (c ∷ zs) → Lacks 10 (c ∷ zs) → Lacks 13 (c ∷ zs)
    → form_spelled (a ∷ xs) (b ∷ ys) (c ∷ zs) ≡ Some l → IsLine ((a ∷ xs) ++ 32 ∷ ((b ∷ ys) ++ 32 ∷ c ∷ zs)) l
three_line a xs b ys c zs l letter word_a feed_a return_a word_b feed_b return_b word_c feed_c return_c spells =
    let full : eqb (suc (length xs)) 0 ≡ false = grind (arith, nat_tests) in
    let tail = (b ∷ ys) ++ 32 ∷ c ∷ zs in
    record {
      kept = not_skipped ((a ∷ xs) ++ 32 ∷ tail) (a ∷ xs) (32 ∷ tail) (begins a xs tail word_a) full letter;
      spells = three_words a xs b ys c zs word_a word_b word_c ∙ spells;
      no_feed = Lacks-append 10 (a ∷ xs) (32 ∷ tail) feed_a (refl, Lacks-append 10 (b ∷ ys) (32 ∷ c ∷ zs) feed_b (refl, feed_c));
      no_return = Lacks-append 13 (a ∷ xs) (32 ∷ tail) return_a (refl, Lacks-append 13 (b ∷ ys) (32 ∷ c ∷ zs) return_b (refl, return_c));
    }

path_line : (a : ℕ) (xs : List ℕ) (path : Path) (l : Line) → eqb a 35 ≡ false → Lacks 32 (a ∷ xs) → Lacks 10 (a ∷ xs) → Lacks 13 (a ∷ xs)
    → form_spelled (a ∷ xs) (path_text path) [] ≡ Some l → IsLine (before (a ∷ xs) (path_text path)) l
path_line a xs One l letter word feed return_ spells =
    two_line a xs 49 [] l letter word feed return_ (refl, tt) (refl, tt) (refl, tt) spells
path_line a xs Two l letter word feed return_ spells =
    two_line a xs 50 [] l letter word feed return_ (refl, tt) (refl, tt) (refl, tt) spells

counted_line : (a : ℕ) (xs : List ℕ) (path : Path) (which : ℕ) (l : Line) → IsNumber which → eqb a 35 ≡ false
    → Lacks 32 (a ∷ xs) → Lacks 10 (a ∷ xs) → Lacks 13 (a ∷ xs)
    → form_spelled (a ∷ xs) (path_text path) (decimal which) ≡ Some l → IsLine (before (a ∷ xs) (before (path_text path) (decimal which))) l
counted_line a xs One which l number letter word feed return_ spells =
    subst (λ (digits : List ℕ). IsLine (before (a ∷ xs) (before (path_text One) digits)) l) (sym number.digits)
    (three_line a xs 49 [] number.first number.rest l letter word feed return_ (refl, tt) (refl, tt) (refl, tt)
    number.no_blank number.no_feed number.no_return
    (subst (λ (digits : List ℕ). form_spelled (a ∷ xs) (path_text One) digits ≡ Some l) number.digits spells))
counted_line a xs Two which l number letter word feed return_ spells =
    subst (λ (digits : List ℕ). IsLine (before (a ∷ xs) (before (path_text Two) digits)) l) (sym number.digits)
    (three_line a xs 50 [] number.first number.rest l letter word feed return_ (refl, tt) (refl, tt) (refl, tt)
    number.no_blank number.no_feed number.no_return
    (subst (λ (digits : List ℕ). form_spelled (a ∷ xs) (path_text Two) digits ≡ Some l) number.digits spells))

send_form : (path : Path) → form_spelled (codes "SEND") (path_text path) [] ≡ Some (Happens (Send path))
unfolding form_spelled event_spelled
send_form One = refl
send_form Two = refl

down_form : (path : Path) → form_spelled (codes "DOWN") (path_text path) [] ≡ Some (Happens (Down path))
unfolding form_spelled event_spelled
down_form One = refl
down_form Two = refl

up_form : (path : Path) → form_spelled (codes "UP") (path_text path) [] ≡ Some (Happens (Up path))
unfolding form_spelled event_spelled
up_form One = refl
up_form Two = refl

deliver_form : (path : Path) (which : ℕ) (c : ℕ) (cs : List ℕ) → number_spelled (c ∷ cs) ≡ Some which
    → form_spelled (codes "DELIVER") (path_text path) (c ∷ cs) ≡ Some (Happens (Deliver path which))
unfolding form_spelled event_spelled
deliver_form One which c cs spells = let full : eqb (suc (length cs)) 0 ≡ false = grind (arith, nat_tests) in let read = rw full at spells in rw full (rw read refl)
deliver_form Two which c cs spells = let full : eqb (suc (length cs)) 0 ≡ false = grind (arith, nat_tests) in let read = rw full at spells in rw full (rw read refl)

ack_form : (path : Path) (which : ℕ) (c : ℕ) (cs : List ℕ) → number_spelled (c ∷ cs) ≡ Some which
    → form_spelled (codes "ACK") (path_text path) (c ∷ cs) ≡ Some (Happens (Ack path which))
unfolding form_spelled event_spelled
ack_form One which c cs spells = let full : eqb (suc (length cs)) 0 ≡ false = grind (arith, nat_tests) in let read = rw full at spells in rw full (rw read refl)
ack_form Two which c cs spells = let full : eqb (suc (length cs)) 0 ≡ false = grind (arith, nat_tests) in let read = rw full at spells in rw full (rw read refl)

job_form : (x : ℕ) (c : ℕ) (cs : List ℕ) → job_spelled (c ∷ cs) ≡ Some x → form_spelled (codes "JOB") (c ∷ cs) [] ≡ Some (Job x)
unfolding form_spelled
job_form x c cs spells = ap (option_map (λ job. Job job)) spells

end_form : form_spelled (codes "END") [] [] ≡ Some End
unfolding form_spelled
end_form = refl

event_line : (event : Event) → IsShort event → IsLine (event_words event) (Happens event)
event_line (Send path) short =
    path_line 83 (69 ∷ 78 ∷ 68 ∷ []) path (Happens (Send path)) refl (refl, (refl, (refl, (refl, tt)))) (refl, (refl, (refl, (refl, tt))))
    (refl, (refl, (refl, (refl, tt)))) (send_form path)
event_line (Down path) short =
    path_line 68 (79 ∷ 87 ∷ 78 ∷ []) path (Happens (Down path)) refl (refl, (refl, (refl, (refl, tt)))) (refl, (refl, (refl, (refl, tt))))
    (refl, (refl, (refl, (refl, tt)))) (down_form path)
event_line (Up path) short =
    path_line 85 (80 ∷ []) path (Happens (Up path)) refl (refl, (refl, tt)) (refl, (refl, tt)) (refl, (refl, tt)) (up_form path)
event_line (Deliver path which) short =
    let number = is_number which short in
    let spells = subst (λ (digits : List ℕ). form_spelled (codes "DELIVER") (path_text path) digits ≡ Some (Happens (Deliver path which)))
    (sym number.digits) (deliver_form path which number.first number.rest number.spells) in
    counted_line 68 (69 ∷ 76 ∷ 73 ∷ 86 ∷ 69 ∷ 82 ∷ []) path which (Happens (Deliver path which)) number refl
    (refl, (refl, (refl, (refl, (refl, (refl, (refl, tt))))))) (refl, (refl, (refl, (refl, (refl, (refl, (refl, tt)))))))
    (refl, (refl, (refl, (refl, (refl, (refl, (refl, tt))))))) spells
event_line (Ack path which) short =
    let number = is_number which short in
    let spells = subst (λ (digits : List ℕ). form_spelled (codes "ACK") (path_text path) digits ≡ Some (Happens (Ack path which)))
    (sym number.digits) (ack_form path which number.first number.rest number.spells) in
    counted_line 65 (67 ∷ 75 ∷ []) path which (Happens (Ack path which)) number refl
    (refl, (refl, (refl, tt))) (refl, (refl, (refl, tt))) (refl, (refl, (refl, tt))) spells

job_line : (x : ℕ) → x < 2 ^ 32 → IsLine (job_text x) (Job x)
job_line x low =
    let job = is_job x low in
    subst (λ (digits : List ℕ). IsLine (before (codes "JOB") digits) (Job x)) (sym job.digits)
    (two_line 74 (79 ∷ 66 ∷ []) job.first job.rest (Job x) refl (refl, (refl, (refl, tt))) (refl, (refl, (refl, tt))) (refl, (refl, (refl, tt)))
    job.no_blank job.no_feed job.no_return (job_form x job.first job.rest job.spells))

end_line : IsLine (codes "END") End
end_line = record {
  kept = not_skipped (codes "END") (codes "END") [] (begins_last 69 (78 ∷ 68 ∷ []) (refl, (refl, (refl, tt)))) refl refl;
  spells = one_word 69 (78 ∷ 68 ∷ []) (refl, (refl, (refl, tt))) ∙ end_form;
  no_feed = (refl, (refl, (refl, tt)));
  no_return = (refl, (refl, (refl, tt)));
}

-- the first line of what is left
reads_line : (r next : Read) (number : ℕ) (text rest : List ℕ) (l : Line) → IsLine text l → number ≤ 20000 → with_line r number l ≡ Some next
    → read_lines r number (lines (line text ++ rest)) ≡ read_lines next (number + 1) (lines rest)
unfolding with_text
reads_line r next number text rest l is low stands =
    let first : ltb 20000 number ≡ false = grind (arith, nat_tests) in
    let added : with_text r number text ≡ Some next = rw (first, is.kept, is.spells) stands in
    let whole : lines (line text ++ rest) ≡ text ∷ lines rest = rw (append_assoc text (10 ∷ []) rest) (line_cut text rest is.no_feed is.no_return) in
    let step : read_lines r number (text ∷ lines rest) ≡ read_lines next (number + 1) (lines rest) = rw (added, read_lines) refl in
    ap (λ (ts : List (List ℕ)). read_lines r number ts) whole ∙ step

abbrev reading : List ℕ → List NumberedEvent → Stage → Read
reading jobs events stage = record { jobs = jobs; events = events; stage = stage }

-- the lines of jobs
jobs_read : (front jobs : List ℕ) (number : ℕ) (rest : List ℕ) → AllByRecursion (λ x. x < 2 ^ 32) jobs → number + length jobs ≤ 20001
    → read_lines (reading front [] Jobs) number (lines (flat_map (λ x. line (job_text x)) jobs ++ rest))
    ≡ read_lines (reading (front ++ jobs) [] Jobs) (number + length jobs) (lines rest)
jobs_read front [] number rest fit few =
    let same : number + 0 ≡ number = omega arith in
    sym (ap (λ (f : List ℕ). read_lines (reading f [] Jobs) number (lines rest)) (append-nil front))
    ∙ sym (ap (λ (n : ℕ). read_lines (reading (front ++ []) [] Jobs) n (lines rest)) same)
jobs_read front (x ∷ jobs) number rest fit few =
    let here = reads_line (reading front [] Jobs) (reading (front ++ x ∷ []) [] Jobs) number (job_text x)
    (flat_map (λ y. line (job_text y)) jobs ++ rest) (Job x) (job_line x fit.0) (omega arith) refl in
    let later = jobs_read (front ++ x ∷ []) jobs (number + 1) rest fit.1 (omega arith) in
    let count : (number + 1) + length jobs ≡ number + suc (length jobs) = omega arith in
    let list : (front ++ x ∷ []) ++ jobs ≡ front ++ x ∷ jobs = append_assoc front (x ∷ []) jobs in
    ap (λ (bytes : List ℕ). read_lines (reading front [] Jobs) number (lines bytes))
    (append_assoc (line (job_text x)) (flat_map (λ y. line (job_text y)) jobs) rest)
    ∙ here
    ∙ later
    ∙ ap (λ (n : ℕ). read_lines (reading ((front ++ x ∷ []) ++ jobs) [] Jobs) n (lines rest)) count
    ∙ ap (λ (f : List ℕ). read_lines (reading f [] Jobs) (number + suc (length jobs)) (lines rest)) list

-- jobs and events may still come, or events alone
abbrev IsOpen : Stage → Type 0
IsOpen Jobs = Unit {0}
IsOpen Events = Unit {0}
IsOpen Ended = ⊥

with_end_open : (jobs : List ℕ) (events : List NumberedEvent) (stage : Stage) (number : ℕ) → IsOpen stage
    → with_line (reading jobs events stage) number End ≡ Some (reading jobs events Ended)
with_end_open jobs events Jobs number open_ = refl
with_end_open jobs events Events number open_ = refl
with_end_open jobs events Ended number open_ = absurd open_

with_event_open : (jobs : List ℕ) (events : List NumberedEvent) (stage : Stage) (number : ℕ) (event : Event) → IsOpen stage
    → with_line (reading jobs events stage) number (Happens event) ≡ Some (reading jobs (events ++ record { line = number; event = event } ∷ []) Events)
with_event_open jobs events Jobs number event open_ = refl
with_event_open jobs events Events number event open_ = refl
with_event_open jobs events Ended number event open_ = absurd open_

-- the lines of events, and END
events_read : (jobs : List ℕ) (front : List NumberedEvent) (stage : Stage) (events : List Event) (number : ℕ) → IsOpen stage
    → AllByRecursion IsShort events → number + length events ≤ 20000
    → read_lines (reading jobs front stage) number (lines (flat_map (λ event. line (event_words event)) events ++ line (codes "END")))
    ≡ Ok (reading jobs (front ++ numbered number events) Ended)
events_read jobs front stage [] number open_ fit few =
    rw (append-nil front)
    (reads_line (reading jobs front stage) (reading jobs front Ended) number (codes "END") [] End end_line (omega arith)
    (with_end_open jobs front stage number open_))
events_read jobs front stage (event ∷ events) number open_ fit few =
    let numbered_event : NumberedEvent = record { line = number; event = event } in
    let rest = flat_map (λ e. line (event_words e)) events ++ line (codes "END") in
    let here = reads_line (reading jobs front stage) (reading jobs (front ++ numbered_event ∷ []) Events) number (event_words event) rest
    (Happens event) (event_line event fit.0) (omega arith) (with_event_open jobs front stage number event open_) in
    let later = events_read jobs (front ++ numbered_event ∷ []) Events events (number + 1) tt fit.1 (omega arith) in
    let list : (front ++ numbered_event ∷ []) ++ numbered (number + 1) events ≡ front ++ numbered_event ∷ numbered (number + 1) events =
    append_assoc front (numbered_event ∷ []) (numbered (number + 1) events) in
    rw (append_assoc (line (event_words event)) (flat_map (λ e. line (event_words e)) events) (line (codes "END"))) (here ∙ rw list at later)

-- a file that is written is read again
pub file_again : (jobs : List ℕ) (events : List Event) → All (λ x. x < 2 ^ 32) jobs → All IsShort events → length jobs + length events < 20000
    → file_read (file_text jobs events) ≡ Ok (said jobs events)
file_again jobs events jobs_fit events_fit few =
    let count : 1 + length jobs ≡ length jobs + 1 = omega arith in
    let first = jobs_read [] jobs 1 (flat_map (λ event. line (event_words event)) events ++ line (codes "END"))
    (recursion_from_All (λ x. x < 2 ^ 32) jobs jobs_fit) (omega arith) in
    let then_ = events_read jobs [] Jobs events (length jobs + 1) tt (recursion_from_All IsShort events events_fit) (omega arith) in
    rw count at first ∙ then_
