-- The tail and the last line that were written are read back.
use Rattle.std.proofs.Common.{◌≡◌, ℕ, ◌<◌, ◌≤◌, true, eqb, eq-eqb, List, [], ◌∷◌, ◌++◌, Some, refl, ap, ◌∙◌, arith, append_assoc}
use Rattle.std.specs.Prelude.{codes}
use Rattle.std.specs.Fmt.{decimal}
use Rattle.trace_reader.specs.declared.trace.Mode.{Mode}
use Rattle.trace_reader.specs.declared.trace.Mode.TheVariants.{Solo, Pair}
use Rattle.trace_reader.specs.declared.trace.Side.{Side}
use Rattle.trace_reader.specs.declared.trace.Side.TheVariants as sides
use Rattle.trace_reader.specs.declared.trace.Loss.{Loss}
use Rattle.trace_reader.specs.declared.trace.Loss.TheVariants.{Failed, Suspect}
use Rattle.trace_reader.specs.declared.trace.StopCode.{StopCode}
use Rattle.trace_reader.specs.declared.trace.Event.{Event}
use Rattle.trace_reader.specs.declared.trace.Event.TheVariants as events
use Rattle.trace_reader.specs.declared.trace.Note.{Note}
use Rattle.trace_reader.specs.declared.trace.Counter.{Counter}
use Rattle.trace_reader.specs.declared.trace.Areas.{Areas}
use Rattle.trace_reader.specs.declared.trace.Ending.TheVariants as endings
use Rattle.trace_reader.specs.Blocks.{DataBlock}
use Rattle.trace_reader.specs.Images.{image, image_at}
use Rattle.trace_reader.specs.Text.{title_line, stop_text, lost_text, back_text, event_text, note_line, count_line, area_lines, block_line, counter_line, last_line}
use Rattle.trace_reader.specs.Words.{side_at, stop_at, loss_at, lost_at}
use Rattle.trace_reader.specs.Requests.{back_at, numbered_event_at, event_at}
use Rattle.trace_reader.specs.Lines.{title_at, count_at, note_at, image_line_at, areas_at, block_at, counter_at, entries_at, last_at, cut_at}
use Rattle.trace_reader.specs.Ranges.{IsImage, FitsEvent, FitsNote, FitsAreas, FitsBlock, FitsCounter}
use Rattle.trace_reader.proofs.ReadBack.{breaks_off, number_at_again, image_at_again}
use Rattle.trace_reader.proofs.ReadLines.{number_before, number_then, stop_again}

pub title_again : (mode : Mode) (rest : List ℕ) → title_at (title_line mode ++ rest) ≡ Some (mode, rest)
unfolding title_at
title_again Solo rest = refl
title_again Pair rest = refl

pub count_again : (count : ℕ) (rest : List ℕ) → count < 4294967296 → count_at (count_line count ++ rest) ≡ Some (count, rest)
unfolding count_at
count_again count rest few =
    let n : number_before 4294967295 count (codes "\n") rest = number_then 4294967295 count (codes "\n") rest (omega (arith, few)) few refl in
    rw n refl

lost_event : (s : Side) (why : Loss) (rest : List ℕ) → event_at (lost_text s why ++ rest) ≡ Some (events.Lost s why, rest)
unfolding event_at lost_at side_at loss_at
lost_event sides.A Failed rest = refl
lost_event sides.A Suspect rest = refl
lost_event sides.B Failed rest = refl
lost_event sides.B Suspect rest = refl

back_event : (s : Side) (rest : List ℕ) → event_at (back_text s ++ rest) ≡ Some (events.Back s, rest)
unfolding event_at lost_at back_at side_at
back_event sides.A rest = refl
back_event sides.B rest = refl

event_again : (event : Event) (rest : List ℕ) → FitsEvent event → breaks_off rest ≡ true → event_at (event_text event ++ rest) ≡ Some (event, rest)
unfolding event_at numbered_event_at lost_at back_at
event_again events.Start rest fits e = refl
event_again (events.Lost side why) rest fits e = lost_event side why rest
event_again (events.Back side) rest fits e = back_event side rest
event_again (events.Error number) rest fits e = rw (number_at_again 255 number rest (omega (arith, fits)) (omega (arith, fits)) e) refl
event_again events.Cycle rest fits e = refl
event_again (events.MissingOb number) rest fits e = rw (number_at_again 255 number rest (omega (arith, fits)) (omega (arith, fits)) e) refl
event_again (events.Discrepancy address) rest fits e = rw (number_at_again 65535 address rest (omega (arith, fits)) (omega (arith, fits)) e) refl
event_again (events.Stop code) rest fits e = rw (stop_again code rest) refl

pub note_again : (note : Note) (rest : List ℕ) → FitsNote note → note_at (note_line note ++ rest) ≡ Some (note, rest)
unfolding note_at
note_again note rest fits =
    let ending = event_text note.event ++ codes "\n" in
    let n : number_before 4294967295 note.moment (codes " " ++ ending) rest = number_then 4294967295 note.moment (codes " " ++ ending) rest (omega (arith, fits.0)) fits.0 refl in
    let v : event_at (ending ++ rest) ≡ Some (note.event, 10 ∷ rest) = ap event_at (append_assoc (event_text note.event) (codes "\n") rest) ∙ event_again note.event (10 ∷ rest) fits.1 refl in
    rw (n, v) refl

-- an image and the end of its line
image_then : (count : ℕ) (bytes more rest : List ℕ) → count ≤ 65536 → IsImage count bytes → image_at count ((image bytes ++ 10 ∷ more) ++ rest) ≡ Some (bytes, 10 ∷ (more ++ rest))
image_then count bytes more rest few fits = ap (image_at count) (append_assoc (image bytes) (10 ∷ more) rest) ∙ image_at_again count bytes (10 ∷ (more ++ rest)) few fits refl

pub areas_again : (areas : Areas) (rest : List ℕ) → FitsAreas areas → areas_at (area_lines areas ++ rest) ≡ Some (areas, rest)
unfolding areas_at image_line_at
areas_again areas rest fits =
    let memory = codes "M " ++ (image areas.memory ++ codes "\n") in
    let outputs = codes "Q " ++ (image areas.outputs ++ (10 ∷ memory)) in
    let i = image_then 64 areas.inputs outputs rest (omega arith) fits.0 in
    let q = image_then 64 areas.outputs memory rest (omega arith) fits.1 in
    let m = image_then 1024 areas.memory [] rest (omega arith) fits.2 in
    rw (i, q, m) refl

pub block_again : (block : DataBlock) (rest : List ℕ) → FitsBlock block → block_at (block_line block ++ rest) ≡ Some (block, rest)
unfolding block_at
block_again block rest fits =
    let cells = image block.bytes ++ codes "\n" in
    let n : number_before 255 block.number (codes " " ++ cells) rest = number_then 255 block.number (codes " " ++ cells) rest (omega (arith, fits.0)) (omega (arith, fits.0)) refl in
    let i = image_then 65536 block.bytes [] rest (omega arith) fits.1 in
    rw (n, i) refl

pub counter_again : (counter : Counter) (rest : List ℕ) → FitsCounter counter → counter_at (counter_line counter ++ rest) ≡ Some (counter, rest)
unfolding counter_at
counter_again counter rest fits =
    let value = decimal counter.value ++ codes "\n" in
    let n : number_before 255 counter.number (codes " " ++ value) rest = number_then 255 counter.number (codes " " ++ value) rest (omega (arith, fits.0)) (omega (arith, fits.0)) refl in
    let v : number_before 65535 counter.value (codes "\n") rest = number_then 65535 counter.value (codes "\n") rest (omega (arith, fits.1)) (omega (arith, fits.1)) refl in
    rw (n, v) refl

-- the number of the entries in the last line
count_then : (count : ℕ) (more rest : List ℕ) → count < 4294967296 → breaks_off (more ++ rest) ≡ true → entries_at count ((decimal count ++ more) ++ rest) ≡ Some (more ++ rest)
unfolding entries_at
count_then count more rest few e =
    let n : number_before 4294967295 count more rest = number_then 4294967295 count more rest (omega (arith, few)) few e in
    let same : eqb count count ≡ true = eq-eqb count count refl in
    rw (n, same) refl

pub end_again : (count : ℕ) (rest : List ℕ) → count < 4294967296 → last_at count (last_line endings.End count ++ rest) ≡ Some (endings.End, rest)
unfolding last_at
end_again count rest few = rw (count_then count (codes "\n") rest few refl) refl

pub stopped_again : (code : StopCode) (count : ℕ) (rest : List ℕ) → count < 4294967296 → last_at count (last_line (endings.Stop code) count ++ rest) ≡ Some (endings.Stop code, rest)
unfolding last_at
stopped_again code count rest few =
    let n = count_then count (codes " " ++ (stop_text code ++ codes "\n")) rest few refl in
    let s : stop_at ((stop_text code ++ codes "\n") ++ rest) ≡ Some (code, 10 ∷ rest) = ap stop_at (append_assoc (stop_text code) (codes "\n") rest) ∙ stop_again code (10 ∷ rest) in
    rw (n, s) refl

pub none_again : (count : ℕ) (rest : List ℕ) → count < 4294967296 → cut_at count (last_line endings.NoneLeft count ++ rest) ≡ Some (endings.NoneLeft, rest)
unfolding cut_at
none_again count rest few = rw (count_then count (codes "\n") rest few refl) refl

pub spent_again : (count : ℕ) (rest : List ℕ) → count < 4294967296 → cut_at count (last_line endings.Spent count ++ rest) ≡ Some (endings.Spent, rest)
unfolding cut_at
spent_again count rest few = rw (count_then count (codes "\n") rest few refl) refl
