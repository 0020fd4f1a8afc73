-- What an answer's text tells.
use Rattle.std.proofs.Common.{◌≡◌, ◌∙◌, ℕ, ◌+◌, ◌^◌, ◌<◌, List, ◌∷◌, ◌++◌, length, refl, ap, sym, subst, arith, inl}
use Rattle.std.specs.Prelude.{true, get_or, codes}
use Rattle.std.specs.Fmt.{decimal}
use Rattle.std.proofs.lemmas.List.{append_assoc, append_cancel_left}
use Rattle.std.proofs.lemmas.List.FromFn.{length-map-range_with_len}
use Rattle.std.proofs.lemmas.Fmt.{decimal_injective}
use Rattle.std.proofs.lemmas.Bool.Decides.{nat_tests}
use Rattle.s7_events.specs.declared.entry.Side.{Side}
use Rattle.s7_events.specs.declared.entry.Side.TheVariants.{A, B}
use Rattle.s7_events.specs.declared.entry.Loss.{Loss}
use Rattle.s7_events.specs.declared.entry.Loss.TheVariants.{Failed, Suspect}
use Rattle.s7_events.specs.declared.entry.StopCode.{StopCode}
use Rattle.s7_events.specs.declared.entry.StopCode.TheVariants as stops
use Rattle.s7_events.specs.declared.entry.Answer.{Answer}
use Rattle.s7_events.specs.declared.entry.Answer.TheVariants as answers
use Rattle.s7_events.specs.declared.entry.Request.{Request}
use Rattle.s7_events.specs.Priorities.{is_alarm}
use Rattle.plant_script.specs.Form.{IsJobForm}
use Rattle.plant_script.specs.Plan.{IsPlan}
use Rattle.alarm_queue.specs.declared.alarm.DueAlarm.{DueAlarm}
use Rattle.plant_io.specs.Inputs.{image_byte, input_image}
use Rattle.plant_io.proofs.Bytes.{read_is, read_four}
use Rattle.pair_core.specs.Setup.{Setup}
use Rattle.pair_core.specs.Ledger.{Ledger}
use Rattle.pair_core.specs.Lawful.{MayAnswer}
use Rattle.trace_text.specs.Image.{hex, image}
use Rattle.trace_text.specs.EntryText.{side_word, stop_word, lost_text, answer_text}
use Rattle.pair_core.proofs.Answers.{answer_any, plain_any, image_at}
use Rattle.pair_core.proofs.Waiting.{IsFit, AreFit, IsFine, GoesFirst, goes_first}
use Rattle.pair_core.proofs.JobForms.{next_form, job_next}
use Rattle.trace_laws.proofs.Splits.{Free, IsMark, line_feed, free_by, free_word, free_append, split_at}
use Rattle.trace_laws.proofs.Numbers.{decimal_free, hex_one, hex_free}
use Rattle.trace_laws.proofs.Images.{image_one, image_free}
use Rattle.trace_laws.proofs.JobTexts.{job_one, job_free, job_head}

-- An answer at moment k whose text tells it: an image has 64 bytes, a value 4, a moment is k, and a job is in its ranges.
abbrev pub IsTold : ℕ → Answer → Type 0
IsTold k (answers.Image bytes) = length bytes ≡ 64
IsTold k (answers.Value value) = value < 256 ^ 4
IsTold k (answers.Now moment) = moment ≡ k
IsTold k answers.Done = Unit {0}
IsTold k answers.Go = Unit {0}
IsTold k answers.Hold = Unit {0}
IsTold k (answers.Alarm ob info) = (ob < 2 ^ 64) × (info < 256 ^ 4)
IsTold k (answers.Job job) = IsJobForm job
IsTold k (answers.Lost side why) = Unit {0}
IsTold k (answers.Back side) = Unit {0}
IsTold k answers.NoModule = Unit {0}
IsTold k (answers.CpuStop code) = Unit {0}

-- the form of an answer, by the first letter of its text and the third
abbrev form : List ℕ → ℕ
form t = get_or t 0 0 + get_or t 2 0

-- the letters that tell a lost side and why
abbrev lost_letters : List ℕ → ℕ
lost_letters t = get_or t 5 0 + get_or t 7 0

lost_one : (side : Side) (why : Loss) (side' : Side) (why' : Loss) → lost_text side why ≡ lost_text side' why' → answers.Lost side why ≡ answers.Lost side' why'
lost_one A Failed A Failed e = refl
lost_one A Suspect A Suspect e = refl
lost_one B Failed B Failed e = refl
lost_one B Suspect B Suspect e = refl
lost_one A Failed A Suspect e = absurd (omega (arith, ap lost_letters e))
lost_one A Failed B Failed e = absurd (omega (arith, ap lost_letters e))
lost_one A Failed B Suspect e = absurd (omega (arith, ap lost_letters e))
lost_one A Suspect A Failed e = absurd (omega (arith, ap lost_letters e))
lost_one A Suspect B Failed e = absurd (omega (arith, ap lost_letters e))
lost_one A Suspect B Suspect e = absurd (omega (arith, ap lost_letters e))
lost_one B Failed A Failed e = absurd (omega (arith, ap lost_letters e))
lost_one B Failed A Suspect e = absurd (omega (arith, ap lost_letters e))
lost_one B Failed B Suspect e = absurd (omega (arith, ap lost_letters e))
lost_one B Suspect A Failed e = absurd (omega (arith, ap lost_letters e))
lost_one B Suspect A Suspect e = absurd (omega (arith, ap lost_letters e))
lost_one B Suspect B Failed e = absurd (omega (arith, ap lost_letters e))

lost_form : (side : Side) (why : Loss) → form (lost_text side why) ≡ 159
lost_form side Failed = refl
lost_form side Suspect = refl

side_one : (s t : Side) → side_word s ≡ side_word t → s ≡ t
side_one A A e = refl
side_one B B e = refl
side_one A B e = absurd (omega (arith, ap (λ (t : List ℕ). get_or t 0 0) e))
side_one B A e = absurd (omega (arith, ap (λ (t : List ℕ). get_or t 0 0) e))

side_free : (s : Side) → Free 10 (side_word s)
side_free A = free_by 10 (codes "A") refl
side_free B = free_by 10 (codes "B") refl

lost_free : (side : Side) (why : Loss) → Free 10 (lost_text side why)
lost_free A Failed = free_by 10 (codes "LOST A FAILED") refl
lost_free A Suspect = free_by 10 (codes "LOST A SUSPECT") refl
lost_free B Failed = free_by 10 (codes "LOST B FAILED") refl
lost_free B Suspect = free_by 10 (codes "LOST B SUSPECT") refl

-- the letters that tell a stop code
abbrev stop_letters : List ℕ → ℕ
stop_letters t = get_or t 0 0 + get_or t 6 0

pub stop_one : (c d : StopCode) → stop_word c ≡ stop_word d → c ≡ d
stop_one stops.Cycle stops.Cycle e = refl
stop_one stops.Sfc46 stops.Sfc46 e = refl
stop_one stops.NoOb121 stops.NoOb121 e = refl
stop_one stops.NoOb122 stops.NoOb122 e = refl
stop_one stops.NoOb85 stops.NoOb85 e = refl
stop_one stops.Depth stops.Depth e = refl
stop_one stops.Local stops.Local e = refl
stop_one stops.InError stops.InError e = refl
stop_one stops.Cycle d e = absurd (omega (arith, ap stop_letters e))
stop_one stops.Sfc46 d e = absurd (omega (arith, ap stop_letters e))
stop_one stops.NoOb121 d e = absurd (omega (arith, ap stop_letters e))
stop_one stops.NoOb122 d e = absurd (omega (arith, ap stop_letters e))
stop_one stops.NoOb85 d e = absurd (omega (arith, ap stop_letters e))
stop_one stops.Depth d e = absurd (omega (arith, ap stop_letters e))
stop_one stops.Local d e = absurd (omega (arith, ap stop_letters e))
stop_one stops.InError d e = absurd (omega (arith, ap stop_letters e))

pub stop_free : (c : ℕ) (code : StopCode) → IsMark c → Free c (stop_word code)
stop_free c stops.Cycle mark = free_word c (codes "CYCLE") mark refl refl
stop_free c stops.Sfc46 mark = free_word c (codes "SFC46") mark refl refl
stop_free c stops.NoOb121 mark = free_word c (codes "NOOB121") mark refl refl
stop_free c stops.NoOb122 mark = free_word c (codes "NOOB122") mark refl refl
stop_free c stops.NoOb85 mark = free_word c (codes "NOOB85") mark refl refl
stop_free c stops.Depth mark = free_word c (codes "DEPTH") mark refl refl
stop_free c stops.Local mark = free_word c (codes "LOCAL") mark refl refl
stop_free c stops.InError mark = free_word c (codes "INERROR") mark refl refl

-- behind a word
tail_one : (word u v : List ℕ) → word ++ u ≡ word ++ v → u ≡ v
tail_one word u v e = append_cancel_left word u v e

alarm_one : (ob info ob' info' : ℕ) → ob < 2 ^ 64 → ob' < 2 ^ 64 → info < 256 ^ 4 → info' < 256 ^ 4
    → answer_text (answers.Alarm ob info) ≡ answer_text (answers.Alarm ob' info') → answers.Alarm ob info ≡ answers.Alarm ob' info'
alarm_one ob info ob' info' low low' fits fits' e =
    let text : (o i : ℕ) → answer_text (answers.Alarm o i) ≡ codes "ALARM " ++ (decimal o ++ 32 ∷ hex 4 i) =
    λ o i. ap (λ (t : List ℕ). t ++ hex 4 i) (append_assoc (codes "ALARM ") (decimal o) (codes " ")) ∙ append_assoc (codes "ALARM ") (decimal o ++ codes " ") (hex 4 i) ∙ ap (λ (t : List ℕ). codes "ALARM " ++ t) (append_assoc (decimal o) (codes " ") (hex 4 i)) in
    let behind = tail_one (codes "ALARM ") (decimal ob ++ 32 ∷ hex 4 info) (decimal ob' ++ 32 ∷ hex 4 info') (sym (text ob info) ∙ e ∙ text ob' info') in
    let parts = split_at 32 (decimal ob) (decimal ob') (hex 4 info) (hex 4 info') (decimal_free 32 ob (inl (omega arith))) (decimal_free 32 ob' (inl (omega arith))) behind in
    let obs = decimal_injective ob ob' low low' parts.0 in
    let infos = hex_one 4 info info' fits fits' parts.1 in
    cc

pub answer_one : (k : ℕ) (a b : Answer) → IsTold k a → IsTold k b → answer_text a ≡ answer_text b → a ≡ b
answer_one k (answers.Image x) (answers.Image y) ta tb e = ap answers.Image (image_one x y ta tb (tail_one (codes "IMG ") (image x) (image y) e))
answer_one k (answers.Value x) (answers.Value y) ta tb e = ap answers.Value (hex_one 4 x y ta tb (tail_one (codes "VAL ") (hex 4 x) (hex 4 y) e))
answer_one k (answers.Now x) (answers.Now y) ta tb e = ap answers.Now (ta ∙ sym tb)
answer_one k answers.Done answers.Done ta tb e = refl
answer_one k answers.Go answers.Go ta tb e = refl
answer_one k answers.Hold answers.Hold ta tb e = refl
answer_one k (answers.Alarm ob info) (answers.Alarm ob' info') ta tb e = alarm_one ob info ob' info' ta.0 tb.0 ta.1 tb.1 e
answer_one k (answers.Job job) (answers.Job job') ta tb e = ap answers.Job (job_one job job' ta tb e)
answer_one k (answers.Lost s w) (answers.Lost s' w') ta tb e = lost_one s w s' w' e
answer_one k (answers.Back s) (answers.Back s') ta tb e = ap answers.Back (side_one s s' (tail_one (codes "BACK ") (side_word s) (side_word s') e))
answer_one k answers.NoModule answers.NoModule ta tb e = refl
answer_one k (answers.CpuStop c) (answers.CpuStop c') ta tb e = ap answers.CpuStop (stop_one c c' (tail_one (codes "CPUSTOP ") (stop_word c) (stop_word c') e))
answer_one k (answers.Job job) (answers.Lost s w) ta tb e = absurd (omega (arith, ap form e, job_head job, lost_form s w))
answer_one k (answers.Lost s w) (answers.Job job) ta tb e = absurd (omega (arith, ap form e, job_head job, lost_form s w))
answer_one k (answers.Job job) b ta tb e = absurd (omega (arith, ap form e, job_head job))
answer_one k a (answers.Job job) ta tb e = absurd (omega (arith, ap form e, job_head job))
answer_one k (answers.Lost s w) b ta tb e = absurd (omega (arith, ap form e, lost_form s w))
answer_one k a (answers.Lost s w) ta tb e = absurd (omega (arith, ap form e, lost_form s w))
answer_one k (answers.Image x) b ta tb e = absurd (omega (arith, ap form e))
answer_one k (answers.Value x) b ta tb e = absurd (omega (arith, ap form e))
answer_one k (answers.Now x) b ta tb e = absurd (omega (arith, ap form e))
answer_one k answers.Done b ta tb e = absurd (omega (arith, ap form e))
answer_one k answers.Go b ta tb e = absurd (omega (arith, ap form e))
answer_one k answers.Hold b ta tb e = absurd (omega (arith, ap form e))
answer_one k (answers.Alarm ob info) b ta tb e = absurd (omega (arith, ap form e))
answer_one k (answers.Back s) b ta tb e = absurd (omega (arith, ap form e))
answer_one k answers.NoModule b ta tb e = absurd (omega (arith, ap form e))
answer_one k (answers.CpuStop c) b ta tb e = absurd (omega (arith, ap form e))

-- an answer is written in one line
pub answer_free : (k : ℕ) (a : Answer) → IsTold k a → Free 10 (answer_text a)
answer_free k (answers.Image x) t = free_append 10 (codes "IMG ") (image x) (free_by 10 (codes "IMG ") refl) (image_free 10 x line_feed)
answer_free k (answers.Value x) t = free_append 10 (codes "VAL ") (hex 4 x) (free_by 10 (codes "VAL ") refl) (hex_free 10 4 x line_feed)
answer_free k (answers.Now x) t = free_append 10 (codes "NOW ") (decimal x) (free_by 10 (codes "NOW ") refl) (decimal_free 10 x (inl (omega arith)))
answer_free k answers.Done t = free_by 10 (codes "DONE") refl
answer_free k answers.Go t = free_by 10 (codes "GO") refl
answer_free k answers.Hold t = free_by 10 (codes "HOLD") refl
answer_free k (answers.Alarm ob info) t =
    free_append 10 (codes "ALARM " ++ decimal ob ++ codes " ") (hex 4 info)
    (free_append 10 (codes "ALARM " ++ decimal ob) (codes " ")
    (free_append 10 (codes "ALARM ") (decimal ob) (free_by 10 (codes "ALARM ") refl) (decimal_free 10 ob (inl (omega arith)))) (free_by 10 (codes " ") refl))
    (hex_free 10 4 info line_feed)
answer_free k (answers.Job job) t = job_free job
answer_free k (answers.Lost s w) t = lost_free s w
answer_free k (answers.Back s) t = free_append 10 (codes "BACK ") (side_word s) (free_by 10 (codes "BACK ") refl) (side_free s)
answer_free k answers.NoModule t = free_by 10 (codes "NOMODULE") refl
answer_free k (answers.CpuStop c) t = free_append 10 (codes "CPUSTOP ") (stop_word c) (free_by 10 (codes "CPUSTOP ") refl) (stop_free 10 c line_feed)

-- lawful answers are told --

image_told : (p : Setup) (g : Ledger) → length (image_at p g) ≡ 64
unfolding input_image
image_told p g = length-map-range_with_len (image_byte p.plan g.standing.running.a g.standing.running.b g.inputs g.moment) 0 64

small_block : (ob : ℕ) → is_alarm ob ≡ true → ob < 2 ^ 64
small_block ob h = grind (arith, nat_tests)

fit_told : (k : ℕ) (x : DueAlarm) → IsFit x → IsTold k (answers.Alarm x.ob x.info)
fit_told k x fit = (small_block x.ob fit.block, fit.small)

first_told : (k priority : ℕ) (xs : List DueAlarm) (alarm : ℕ × ℕ) → AreFit xs → GoesFirst priority xs alarm → IsTold k (answers.Alarm alarm.0 alarm.1)
first_told k priority xs alarm fit first =
    let each = subst AreFit first.is fit in
    subst (λ (a : ℕ × ℕ). IsTold k (answers.Alarm a.0 a.1)) first.same (fit_told k first.first (each.each 0 first.first (omega arith)))

-- a lawful answer is told, where the script has no fault, the alarms that wait are such that may be answers, and the inputs are of bytes
pub lawful_told : (p : Setup) (g : Ledger) (request : Request) (a : Answer) → IsPlan p.plan → IsFine g → MayAnswer p g request a → IsTold g.moment a
lawful_told p g request a fine sound may =
    answer_any (IsTold g.moment) p g request a may (λ t. tt) tt
    (λ x first. first_told g.moment request.prio g.waiting x sound.waiting (goes_first request.prio g.waiting x first))
    (λ j none next. next_form p.plan g.jobs g.moment j fine (job_next p g request.ask j next))
    (λ x none is.
    plain_any (IsTold g.moment) p g request.ask x is tt (image_told p g) tt refl tt
    (λ addr width value read. read_four width value (read_is p.plan g.standing.running.a g.standing.running.b g.inputs g.moment addr width value fine sound.inputs read))
    )
