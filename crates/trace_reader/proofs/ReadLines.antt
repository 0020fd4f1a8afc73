-- The words and the lines that were written are read back.
use Rattle.std.proofs.Common.{◌≡◌, ℕ, ◌<◌, ◌≤◌, true, List, ◌∷◌, ◌++◌, Option, Some, None, refl, ap, ◌∙◌, arith, append_assoc}
use Rattle.std.specs.Prelude.{codes}
use Rattle.std.specs.Fmt.{decimal}
use Rattle.trace_reader.specs.declared.trace.Side.{Side}
use Rattle.trace_reader.specs.declared.trace.Side.TheVariants as sides
use Rattle.trace_reader.specs.declared.trace.Loss.{Loss}
use Rattle.trace_reader.specs.declared.trace.Loss.TheVariants.{Failed, Suspect}
use Rattle.trace_reader.specs.declared.trace.StopCode.{StopCode}
use Rattle.trace_reader.specs.declared.trace.StopCode.TheVariants as stops
use Rattle.trace_reader.specs.declared.trace.Width.{Width}
use Rattle.trace_reader.specs.declared.trace.Width.TheVariants.{Byte, Word, Double}
use Rattle.trace_reader.specs.declared.trace.JobArea.{JobArea}
use Rattle.trace_reader.specs.declared.trace.JobArea.TheVariants.{Memory, DataBlock as InBlock}
use Rattle.trace_reader.specs.declared.trace.Place.{Place}
use Rattle.trace_reader.specs.declared.trace.Request.{Request}
use Rattle.trace_reader.specs.declared.trace.Request.TheVariants as asks
use Rattle.trace_reader.specs.declared.trace.Answer.{Answer}
use Rattle.trace_reader.specs.declared.trace.Answer.TheVariants as answers
use Rattle.trace_reader.specs.Fields.{hex_double, number_at}
use Rattle.trace_reader.specs.Text.{side_text, stop_text, lost_text, back_text, width_digit, width_letter, value_text, area_text, place_text, reply_text, request_text, answer_text}
use Rattle.trace_reader.specs.Words.{side_at, missing_ob_at, stop_at, loss_at, lost_at, width_digit_at, width_letter_at, value_at, area_at, place_at}
use Rattle.trace_reader.specs.Requests.{plain_request_at, access_at, reply_at, request_at, plain_answer_at, value_answer_at, job_at, alarm_at, back_at, state_answer_at, answer_at}
use Rattle.trace_reader.specs.Ranges.{FitsWidth, FitsArea, FitsPlace, FitsReply, FitsRequest, FitsAnswer}
use Rattle.trace_reader.proofs.ReadBack.{breaks_off, number_at_again, byte_at_again, word_value_at_again, double_at_again, image_at_again}

pub side_again : (s : Side) (rest : List ℕ) → side_at (side_text s ++ rest) ≡ Some (s, rest)
unfolding side_at
side_again sides.A rest = refl
side_again sides.B rest = refl

pub stop_again : (s : StopCode) (rest : List ℕ) → stop_at (stop_text s ++ rest) ≡ Some (s, rest)
unfolding stop_at missing_ob_at
stop_again stops.Cycle rest = refl
stop_again stops.Sfc46 rest = refl
stop_again stops.NoOb121 rest = refl
stop_again stops.NoOb122 rest = refl
stop_again stops.NoOb85 rest = refl
stop_again stops.Depth rest = refl
stop_again stops.Local rest = refl
stop_again stops.InError rest = refl

pub lost_again : (s : Side) (why : Loss) (rest : List ℕ) → lost_at (lost_text s why ++ rest) ≡ Some ((s, why), rest)
unfolding lost_at side_at loss_at
lost_again sides.A Failed rest = refl
lost_again sides.A Suspect rest = refl
lost_again sides.B Failed rest = refl
lost_again sides.B Suspect rest = refl

pub back_again : (s : Side) (rest : List ℕ) → back_at (back_text s ++ rest) ≡ Some (s, rest)
unfolding back_at side_at
back_again sides.A rest = refl
back_again sides.B rest = refl

digit_again : (width : Width) (rest : List ℕ) → width_digit_at (width_digit width ++ rest) ≡ Some (width, rest)
unfolding width_digit_at
digit_again Byte rest = refl
digit_again Word rest = refl
digit_again Double rest = refl

letter_again : (width : Width) (rest : List ℕ) → width_letter_at (width_letter width ++ rest) ≡ Some (width, rest)
unfolding width_letter_at
letter_again Byte rest = refl
letter_again Word rest = refl
letter_again Double rest = refl

value_again : (width : Width) (value : ℕ) (rest : List ℕ) → FitsWidth width value → value_at width (value_text width value ++ rest) ≡ Some (value, rest)
unfolding value_at
value_again Byte value rest fits = byte_at_again value rest fits
value_again Word value rest fits = word_value_at_again value rest fits
value_again Double value rest fits = double_at_again value rest fits

-- a number before a text that breaks off
abbrev pub number_before : ℕ → ℕ → List ℕ → List ℕ → Type 0
number_before most n more rest = number_at most ((decimal n ++ more) ++ rest) ≡ Some (n, more ++ rest)

pub number_then : (most n : ℕ) (more rest : List ℕ) → n ≤ most → n < 4294967296 → breaks_off (more ++ rest) ≡ true → number_before most n more rest
number_then most n more rest within fits e = ap (number_at most) (append_assoc (decimal n) more rest) ∙ number_at_again most n (more ++ rest) within fits e

area_again : (area : JobArea) (width : Width) (rest : List ℕ) → FitsArea area → area_at (area_text area width ++ rest) ≡ Some ((area, width), rest)
unfolding area_at
area_again Memory width rest fits = rw (letter_again width rest) refl
area_again (InBlock number) width rest fits =
    let n : number_before 65535 number (codes " " ++ width_letter width) rest = number_then 65535 number (codes " " ++ width_letter width) rest (omega (arith, fits)) (omega (arith, fits)) refl in
    rw (n, letter_again width rest) refl

pub place_again : (place : Place) (rest : List ℕ) → FitsPlace place → breaks_off rest ≡ true → place_at (place_text place ++ rest) ≡ Some (place, rest)
unfolding place_at
place_again place rest fits e =
    let area : area_at ((area_text place.area place.width ++ (codes " " ++ decimal place.at)) ++ rest) ≡ Some ((place.area, place.width), 32 ∷ (decimal place.at ++ rest)) =
    ap area_at (append_assoc (area_text place.area place.width) (codes " " ++ decimal place.at) rest) ∙ area_again place.area place.width (32 ∷ (decimal place.at ++ rest)) fits.0 in
    let n : number_at 65535 (decimal place.at ++ rest) ≡ Some (place.at, rest) = number_at_again 65535 place.at rest (omega (arith, fits.1)) (omega (arith, fits.1)) e in
    rw (area, n) refl

reply_again : (value : Option ℕ) (rest : List ℕ) → FitsReply value → reply_at (reply_text value ++ rest) ≡ Some (asks.Reply value, rest)
unfolding reply_at
reply_again (Some value) rest fits = rw (double_at_again value rest fits) refl
reply_again None rest fits = refl

pub request_again : (request : Request) (rest : List ℕ) → FitsRequest request → breaks_off rest ≡ true → request_at (request_text request ++ rest) ≡ Some (request, rest)
unfolding request_at plain_request_at access_at
request_again (asks.Outputs bytes) rest fits e = rw (image_at_again 64 bytes rest (omega arith) fits e) refl
request_again asks.Inputs rest fits e = refl
request_again asks.Cycle rest fits e = refl
request_again (asks.ReadPeripheral at width) rest fits e =
    let n : number_before 65535 at (codes " " ++ width_digit width) rest = number_then 65535 at (codes " " ++ width_digit width) rest (omega (arith, fits)) (omega (arith, fits)) refl in
    rw (n, digit_again width rest) refl
request_again (asks.WritePeripheral at width value) rest fits e =
    let tail = codes " " ++ value_text width value in
    let n : number_before 65535 at (codes " " ++ (width_digit width ++ tail)) rest = number_then 65535 at (codes " " ++ (width_digit width ++ tail)) rest (omega (arith, fits.0)) (omega (arith, fits.0)) refl in
    let d : width_digit_at ((width_digit width ++ tail) ++ rest) ≡ Some (width, tail ++ rest) = ap width_digit_at (append_assoc (width_digit width) tail rest) ∙ digit_again width (tail ++ rest) in
    rw (n, d, value_again width value rest fits.1) refl
request_again asks.Now rest fits e = refl
request_again asks.Tick rest fits e = refl
request_again asks.Retrigger rest fits e = refl
request_again (asks.Reply (Some value)) rest fits e = rw (reply_again (Some value) rest fits) refl
request_again (asks.Reply None) rest fits e = rw (reply_again None rest fits) refl
request_again (asks.Stop code) rest fits e = rw (stop_again code rest) refl

lost_answer : (s : Side) (why : Loss) (rest : List ℕ) → answer_at (lost_text s why ++ rest) ≡ Some (answers.Lost s why, rest)
unfolding answer_at plain_answer_at value_answer_at job_at alarm_at state_answer_at lost_at side_at loss_at
lost_answer sides.A Failed rest = refl
lost_answer sides.A Suspect rest = refl
lost_answer sides.B Failed rest = refl
lost_answer sides.B Suspect rest = refl

back_answer : (s : Side) (rest : List ℕ) → answer_at (back_text s ++ rest) ≡ Some (answers.Back s, rest)
unfolding answer_at plain_answer_at value_answer_at job_at alarm_at state_answer_at lost_at back_at side_at
back_answer sides.A rest = refl
back_answer sides.B rest = refl

pub answer_again : (answer : Answer) (rest : List ℕ) → FitsAnswer answer → breaks_off rest ≡ true → answer_at (answer_text answer ++ rest) ≡ Some (answer, rest)
unfolding answer_at plain_answer_at value_answer_at job_at alarm_at state_answer_at lost_at back_at
answer_again (answers.Image bytes) rest fits e = rw (image_at_again 64 bytes rest (omega arith) fits e) refl
answer_again (answers.Value value) rest fits e = rw (double_at_again value rest fits) refl
answer_again (answers.Now moment) rest fits e = rw (number_at_again 4294967295 moment rest (omega (arith, fits)) fits e) refl
answer_again answers.Done rest fits e = refl
answer_again answers.Go rest fits e = refl
answer_again answers.Hold rest fits e = refl
answer_again answers.NoModule rest fits e = refl
answer_again (answers.Alarm ob info) rest fits e =
    let n : number_before 255 ob (codes " " ++ hex_double info) rest = number_then 255 ob (codes " " ++ hex_double info) rest (omega (arith, fits.0)) (omega (arith, fits.0)) refl in
    rw (n, double_at_again info rest fits.1) refl
answer_again (answers.ReadJob place) rest fits e = rw (place_again place rest fits e) refl
answer_again (answers.WriteJob place value) rest fits e =
    let more = codes " " ++ value_text place.width value in
    let p : place_at ((place_text place ++ more) ++ rest) ≡ Some (place, more ++ rest) = ap place_at (append_assoc (place_text place) more rest) ∙ place_again place (more ++ rest) fits.0 refl in
    rw (p, value_again place.width value rest fits.1) refl
answer_again (answers.Lost side why) rest fits e = lost_answer side why rest
answer_again (answers.Back side) rest fits e = back_answer side rest
answer_again (answers.CpuStop code) rest fits e = rw (stop_again code rest) refl
