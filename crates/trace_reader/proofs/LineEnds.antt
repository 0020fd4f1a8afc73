-- Lines: each written line has one line feed, its last byte.
use Rattle.std.proofs.Common.{◌≡◌, ℕ, ◌+◌, ◌/◌, ◌%◌, ◌<◌, ◌≤◌, Bool, true, false, ◌&&◌, cond, eqb, nat_lt, List, [], ◌∷◌, ◌++◌, length, Option, Some, None, refl, sym, ap, ◌∙◌, arith}
use Rattle.std.specs.Prelude.{codes, not}
use Rattle.std.specs.Char.{is_ascii_digit}
use Rattle.std.specs.Str.{all_ascii_digits}
use Rattle.std.specs.Fmt.{decimal}
use Rattle.std.proofs.lemmas.Bool.{and_parts, eqb-true}
use Rattle.std.proofs.lemmas.Fmt.{digits_decimal}
use Rattle.trace_reader.specs.declared.trace.Mode.{Mode}
use Rattle.trace_reader.specs.declared.trace.Mode.TheVariants.{Solo, Pair}
use Rattle.trace_reader.specs.declared.trace.Side.{Side}
use Rattle.trace_reader.specs.declared.trace.Side.TheVariants as sides
use Rattle.trace_reader.specs.declared.trace.Loss.{Loss}
use Rattle.trace_reader.specs.declared.trace.Loss.TheVariants.{Failed, Suspect}
use Rattle.trace_reader.specs.declared.trace.StopCode.{StopCode}
use Rattle.trace_reader.specs.declared.trace.StopCode.TheVariants as stops
use Rattle.trace_reader.specs.declared.trace.Width.{Width}
use Rattle.trace_reader.specs.declared.trace.Width.TheVariants.{Byte, Word, Double}
use Rattle.trace_reader.specs.declared.trace.JobArea.{JobArea}
use Rattle.trace_reader.specs.declared.trace.JobArea.TheVariants.{Memory, DataBlock as InBlock}
use Rattle.trace_reader.specs.declared.trace.Place.{Place}
use Rattle.trace_reader.specs.declared.trace.Request.{Request}
use Rattle.trace_reader.specs.declared.trace.Request.TheVariants as asks
use Rattle.trace_reader.specs.declared.trace.Answer.{Answer}
use Rattle.trace_reader.specs.declared.trace.Answer.TheVariants as answers
use Rattle.trace_reader.specs.declared.trace.Entry.{Entry}
use Rattle.trace_reader.specs.declared.trace.Event.{Event}
use Rattle.trace_reader.specs.declared.trace.Event.TheVariants as events
use Rattle.trace_reader.specs.declared.trace.Note.{Note}
use Rattle.trace_reader.specs.declared.trace.Counter.{Counter}
use Rattle.trace_reader.specs.declared.trace.Ending.{Ending}
use Rattle.trace_reader.specs.declared.trace.Ending.TheVariants as endings
use Rattle.trace_reader.specs.Blocks.{DataBlock}
use Rattle.trace_reader.specs.Fields.{hex_digit, hex_byte, hex_word, hex_double}
use Rattle.trace_reader.specs.Images.{cell, cell_text, cells_text, is_dark, image}
use Rattle.trace_reader.specs.Text.{side_text, stop_text, lost_text, back_text, width_digit, width_letter, value_text, area_text, place_text, reply_text, request_text, answer_text, entry_line, event_text, note_line, block_line, counter_line, count_line, last_line, title_line}
use Rattle.trace_reader.specs.Ranges.{FitsArea, FitsPlace, FitsRequest, FitsAnswer, FitsEntry, FitsEvent, FitsNote, FitsBlock, FitsCounter, IsImage}
use Rattle.trace_reader.proofs.Numbers.{own}

-- no byte is a line feed
abbrev pub unbroken : List ℕ → Bool
unbroken [] = true
unbroken (b ∷ bs) = not (eqb b 10) && unbroken bs

abbrev none_more : List ℕ → Bool
none_more [] = true
none_more (b ∷ bs) = false

-- the last byte alone is a line feed
abbrev pub is_line : List ℕ → Bool
is_line [] = false
is_line (b ∷ bs) = cond (eqb b 10) (none_more bs) (is_line bs)

not_line_feed : (t : Bool) → not t ≡ true → t ≡ false
not_line_feed true e = absurd cc
not_line_feed false e = refl

both : (a b : Bool) → a ≡ true → b ≡ true → (a && b) ≡ true
both a b p q = rw (p, q) refl

pub unbroken_join : (xs ys : List ℕ) → unbroken xs ≡ true → unbroken ys ≡ true → unbroken (xs ++ ys) ≡ true
unbroken_join [] ys a b = b
unbroken_join (x ∷ xs) ys a b =
    let parts = and_parts (not (eqb x 10)) (unbroken xs) a in
    both (not (eqb x 10)) (unbroken (xs ++ ys)) parts.0 (unbroken_join xs ys parts.1 b)

pub line_join : (xs ys : List ℕ) → unbroken xs ≡ true → is_line ys ≡ true → is_line (xs ++ ys) ≡ true
line_join [] ys a b = b
line_join (x ∷ xs) ys a b =
    let parts = and_parts (not (eqb x 10)) (unbroken xs) a in
    let here : eqb x 10 ≡ false = not_line_feed (eqb x 10) parts.0 in
    rw here (line_join xs ys parts.1 b)

-- ---- two texts whose first line is the same

-- a line that begins a text begins each text that has the same first line
pub same_line : (line y more x later : List ℕ) → is_line line ≡ true → line ++ y ≡ more ++ (10 ∷ x) → (z : List ℕ) × (more ++ (10 ∷ later) ≡ line ++ z)
same_line [] y more x later is e = absurd cc
same_line (b ∷ bs) y more x later is e = by_end (λ ms rest whole. same_line bs y ms x later rest whole) (eqb b 10) refl is more e
  where
    head_is : (c d : ℕ) (us vs : List ℕ) → c ∷ us ≡ d ∷ vs → (c ≡ d) × (us ≡ vs)
    head_is c d us vs same = (cc, cc)

    ended : (tail : List ℕ) → none_more tail ≡ true → tail ≡ []
    ended [] none = refl
    ended (t ∷ ts) none = absurd cc

    by_end : ((ms : List ℕ) → is_line bs ≡ true → bs ++ y ≡ ms ++ (10 ∷ x) → (z : List ℕ) × (ms ++ (10 ∷ later) ≡ bs ++ z))
        → (t : Bool) → eqb b 10 ≡ t → cond t (none_more bs) (is_line bs) ≡ true → (ms : List ℕ) → b ∷ (bs ++ y) ≡ ms ++ (10 ∷ x) → (z : List ℕ) × (ms ++ (10 ∷ later) ≡ b ∷ (bs ++ z))
    by_end deeper true feed none [] whole =
        let last = ended bs none in
        (later, ap (λ (c : ℕ). c ∷ later) (sym (eqb-true b 10 feed)) ∙ ap (λ (t : List ℕ). b ∷ (t ++ later)) (sym last))
    by_end deeper true feed none (m ∷ ms) whole =
        let last = ended bs none in
        let same = head_is b m (bs ++ y) (ms ++ (10 ∷ x)) whole in
        (ms ++ (10 ∷ later), ap (λ (c : ℕ). c ∷ (ms ++ (10 ∷ later))) (sym same.0) ∙ ap (λ (t : List ℕ). b ∷ (t ++ (ms ++ (10 ∷ later)))) (sym last))
    by_end deeper false other inner [] whole =
        let same = head_is b 10 (bs ++ y) x whole in
        let feed : eqb b 10 ≡ true = rw same.0 refl in
        absurd cc
    by_end deeper false other inner (m ∷ ms) whole =
        let same = head_is b m (bs ++ y) (ms ++ (10 ∷ x)) whole in
        let more = deeper ms inner same.1 in
        (more.0, ap (λ (c : ℕ). c ∷ (ms ++ (10 ∷ later))) (sym same.0) ∙ ap (λ (t : List ℕ). b ∷ t) more.1)

-- ---- words

digit_unbroken : (c : ℕ) → is_ascii_digit c ≡ true → not (eqb c 10) ≡ true
digit_unbroken c digit = by_test (eqb c 10) refl
  where
    by_test : (t : Bool) → eqb c 10 ≡ t → not t ≡ true
    by_test true is = absurd (clash (sym digit ∙ ap is_ascii_digit (eqb-true c 10 is)))
      where
        clash : true ≡ false → ⊥
        clash e = absurd cc
    by_test false is = refl

digits_unbroken : (ds : List ℕ) → all_ascii_digits ds ≡ true → unbroken ds ≡ true
digits_unbroken [] digits = refl
digits_unbroken (c ∷ ds) digits =
    let parts = and_parts (is_ascii_digit c) (all_ascii_digits ds) digits in
    both (not (eqb c 10)) (unbroken ds) (digit_unbroken c parts.0) (digits_unbroken ds parts.1)

pub decimal_unbroken : (n : ℕ) → n < 4294967296 → unbroken (decimal n) ≡ true
decimal_unbroken n few = digits_unbroken (decimal n) (digits_decimal own n (omega (arith, few)))

other_byte : (c : ℕ) → 10 < c → eqb c 10 ≡ false
other_byte c above = grind (arith, above)

hex_unbroken : (d : ℕ) → eqb (hex_digit d) 10 ≡ false
hex_unbroken d = other_byte (hex_digit d) (above (nat_lt d 10))
  where
    above : (t : Bool) → 10 < cond t (48 + d) (55 + d)
    above true = omega arith
    above false = omega arith

pub byte_unbroken : (b : ℕ) → unbroken (hex_byte b) ≡ true
byte_unbroken b = rw (hex_unbroken (b / 16), hex_unbroken (b % 16)) refl

word_unbroken : (w : ℕ) → unbroken (hex_word w) ≡ true
word_unbroken w = unbroken_join (hex_byte (w / 256)) (hex_byte (w % 256)) (byte_unbroken (w / 256)) (byte_unbroken (w % 256))

double_unbroken : (d : ℕ) → unbroken (hex_double d) ≡ true
double_unbroken d = unbroken_join (hex_word (d / 65536)) (hex_word (d % 65536)) (word_unbroken (d / 65536)) (word_unbroken (d % 65536))

cell_unbroken : (at byte : ℕ) → at < 4294967296 → unbroken (cell at byte) ≡ true
cell_unbroken at byte few = unbroken_join (decimal at) (58 ∷ hex_byte byte) (decimal_unbroken at few) (byte_unbroken byte)

cell_text_unbroken : (first : Bool) (at byte : ℕ) → at < 4294967296 → unbroken (cell_text first at byte) ≡ true
cell_text_unbroken first at byte few = by_byte (eqb byte 0) first
  where
    by_byte : (t f : Bool) → unbroken (cond t [] (cond f (cell at byte) (44 ∷ cell at byte))) ≡ true
    by_byte true f = refl
    by_byte false true = cell_unbroken at byte few
    by_byte false false = cell_unbroken at byte few

cells_unbroken : (first : Bool) (at : ℕ) (bytes : List ℕ) → at + length bytes < 4294967296 → unbroken (cells_text first at bytes) ≡ true
cells_unbroken first at [] few = refl
cells_unbroken first at (byte ∷ bytes) few =
    unbroken_join (cell_text first at byte) (cells_text (first && eqb byte 0) (at + 1) bytes) (cell_text_unbroken first at byte (omega (arith, few))) (cells_unbroken (first && eqb byte 0) (at + 1) bytes (omega (arith, few)))

pub image_unbroken : (count : ℕ) (bytes : List ℕ) → count ≤ 65536 → IsImage count bytes → unbroken (image bytes) ≡ true
image_unbroken count bytes few fits = by_dark (is_dark bytes)
  where
    by_dark : (t : Bool) → unbroken (cond t (codes "-") (cells_text true 0 bytes)) ≡ true
    by_dark true = refl
    by_dark false = cells_unbroken true 0 bytes (omega (arith, few, fits.0))

pub side_unbroken : (side : Side) → unbroken (side_text side) ≡ true
side_unbroken sides.A = refl
side_unbroken sides.B = refl

stop_unbroken : (code : StopCode) → unbroken (stop_text code) ≡ true
stop_unbroken stops.Cycle = refl
stop_unbroken stops.Sfc46 = refl
stop_unbroken stops.NoOb121 = refl
stop_unbroken stops.NoOb122 = refl
stop_unbroken stops.NoOb85 = refl
stop_unbroken stops.Depth = refl
stop_unbroken stops.Local = refl
stop_unbroken stops.InError = refl

lost_unbroken : (side : Side) (why : Loss) → unbroken (lost_text side why) ≡ true
lost_unbroken sides.A Failed = refl
lost_unbroken sides.A Suspect = refl
lost_unbroken sides.B Failed = refl
lost_unbroken sides.B Suspect = refl

back_unbroken : (side : Side) → unbroken (back_text side) ≡ true
back_unbroken sides.A = refl
back_unbroken sides.B = refl

digit_word_unbroken : (width : Width) → unbroken (width_digit width) ≡ true
digit_word_unbroken Byte = refl
digit_word_unbroken Word = refl
digit_word_unbroken Double = refl

letter_unbroken : (width : Width) → unbroken (width_letter width) ≡ true
letter_unbroken Byte = refl
letter_unbroken Word = refl
letter_unbroken Double = refl

value_unbroken : (width : Width) (value : ℕ) → unbroken (value_text width value) ≡ true
value_unbroken Byte value = byte_unbroken value
value_unbroken Word value = word_unbroken value
value_unbroken Double value = double_unbroken value

area_unbroken : (area : JobArea) (width : Width) → FitsArea area → unbroken (area_text area width) ≡ true
area_unbroken Memory width fits = letter_unbroken width
area_unbroken (InBlock number) width fits =
    unbroken_join (decimal number) (codes " " ++ width_letter width) (decimal_unbroken number (omega (arith, fits))) (letter_unbroken width)

place_unbroken : (place : Place) → FitsPlace place → unbroken (place_text place) ≡ true
place_unbroken place fits =
    unbroken_join (area_text place.area place.width) (codes " " ++ decimal place.at) (area_unbroken place.area place.width fits.0) (decimal_unbroken place.at (omega (arith, fits.1)))

reply_unbroken : (reply : Option ℕ) → unbroken (reply_text reply) ≡ true
reply_unbroken (Some value) = double_unbroken value
reply_unbroken None = refl

request_unbroken : (request : Request) → FitsRequest request → unbroken (request_text request) ≡ true
request_unbroken (asks.Outputs bytes) fits = image_unbroken 64 bytes (omega arith) fits
request_unbroken asks.Inputs fits = refl
request_unbroken asks.Cycle fits = refl
request_unbroken (asks.ReadPeripheral at width) fits =
    unbroken_join (decimal at) (codes " " ++ width_digit width) (decimal_unbroken at (omega (arith, fits))) (digit_word_unbroken width)
request_unbroken (asks.WritePeripheral at width value) fits =
    unbroken_join (decimal at) (codes " " ++ (width_digit width ++ (codes " " ++ value_text width value))) (decimal_unbroken at (omega (arith, fits.0)))
    (unbroken_join (width_digit width) (codes " " ++ value_text width value) (digit_word_unbroken width) (value_unbroken width value))
request_unbroken asks.Now fits = refl
request_unbroken asks.Tick fits = refl
request_unbroken asks.Retrigger fits = refl
request_unbroken (asks.Reply reply) fits = reply_unbroken reply
request_unbroken (asks.Stop code) fits = stop_unbroken code

answer_unbroken : (answer : Answer) → FitsAnswer answer → unbroken (answer_text answer) ≡ true
answer_unbroken (answers.Image bytes) fits = image_unbroken 64 bytes (omega arith) fits
answer_unbroken (answers.Value value) fits = double_unbroken value
answer_unbroken (answers.Now moment) fits = decimal_unbroken moment fits
answer_unbroken answers.Done fits = refl
answer_unbroken answers.Go fits = refl
answer_unbroken answers.Hold fits = refl
answer_unbroken answers.NoModule fits = refl
answer_unbroken (answers.Alarm ob info) fits =
    unbroken_join (decimal ob) (codes " " ++ hex_double info) (decimal_unbroken ob (omega (arith, fits.0))) (double_unbroken info)
answer_unbroken (answers.ReadJob place) fits = place_unbroken place fits
answer_unbroken (answers.WriteJob place value) fits =
    unbroken_join (place_text place) (codes " " ++ value_text place.width value) (place_unbroken place fits.0) (value_unbroken place.width value)
answer_unbroken (answers.Lost side why) fits = lost_unbroken side why
answer_unbroken (answers.Back side) fits = back_unbroken side
answer_unbroken (answers.CpuStop code) fits = stop_unbroken code

event_unbroken : (event : Event) → FitsEvent event → unbroken (event_text event) ≡ true
event_unbroken events.Start fits = refl
event_unbroken (events.Lost side why) fits = lost_unbroken side why
event_unbroken (events.Back side) fits = back_unbroken side
event_unbroken (events.Error number) fits = decimal_unbroken number (omega (arith, fits))
event_unbroken events.Cycle fits = refl
event_unbroken (events.MissingOb number) fits = decimal_unbroken number (omega (arith, fits))
event_unbroken (events.Discrepancy address) fits = decimal_unbroken address (omega (arith, fits))
event_unbroken (events.Stop code) fits = stop_unbroken code

-- ---- lines

pub title_is_line : (mode : Mode) → is_line (title_line mode) ≡ true
title_is_line Solo = refl
title_is_line Pair = refl

pub entry_is_line : (k : ℕ) (entry : Entry) → k < 4294967296 → FitsEntry entry → is_line (entry_line k entry) ≡ true
entry_is_line k entry few fits =
    let ending = answer_text entry.answer ++ codes "\n" in
    let asked = request_text entry.request ++ (codes " = " ++ ending) in
    line_join (decimal k) (codes " " ++ (decimal entry.priority ++ (codes " " ++ asked))) (decimal_unbroken k few)
    (line_join (decimal entry.priority) (codes " " ++ asked) (decimal_unbroken entry.priority (omega (arith, fits.0)))
    (line_join (request_text entry.request) (codes " = " ++ ending) (request_unbroken entry.request fits.1)
    (line_join (answer_text entry.answer) (codes "\n") (answer_unbroken entry.answer fits.2) refl)))

pub count_is_line : (count : ℕ) → count < 4294967296 → is_line (count_line count) ≡ true
count_is_line count few = line_join (decimal count) (codes "\n") (decimal_unbroken count few) refl

pub note_is_line : (note : Note) → FitsNote note → is_line (note_line note) ≡ true
note_is_line note fits =
    line_join (decimal note.moment) (codes " " ++ (event_text note.event ++ codes "\n")) (decimal_unbroken note.moment fits.0)
    (line_join (event_text note.event) (codes "\n") (event_unbroken note.event fits.1) refl)

-- an image and the end of its line
pub image_is_line : (count : ℕ) (bytes : List ℕ) → count ≤ 65536 → IsImage count bytes → is_line (image bytes ++ codes "\n") ≡ true
image_is_line count bytes few fits = line_join (image bytes) (codes "\n") (image_unbroken count bytes few fits) refl

pub block_is_line : (block : DataBlock) → FitsBlock block → is_line (block_line block) ≡ true
block_is_line block fits =
    line_join (decimal block.number) (codes " " ++ (image block.bytes ++ codes "\n")) (decimal_unbroken block.number (omega (arith, fits.0))) (image_is_line 65536 block.bytes (omega arith) fits.1)

pub counter_is_line : (counter : Counter) → FitsCounter counter → is_line (counter_line counter) ≡ true
counter_is_line counter fits =
    line_join (decimal counter.number) (codes " " ++ (decimal counter.value ++ codes "\n")) (decimal_unbroken counter.number (omega (arith, fits.0)))
    (line_join (decimal counter.value) (codes "\n") (decimal_unbroken counter.value (omega (arith, fits.1))) refl)

pub last_is_line : (ending : Ending) (count : ℕ) → count < 4294967296 → is_line (last_line ending count) ≡ true
last_is_line endings.End count few = line_join (decimal count) (codes "\n") (decimal_unbroken count few) refl
last_is_line (endings.Stop code) count few =
    line_join (decimal count) (codes " " ++ (stop_text code ++ codes "\n")) (decimal_unbroken count few) (line_join (stop_text code) (codes "\n") (stop_unbroken code) refl)
last_is_line endings.NoneLeft count few = line_join (decimal count) (codes "\n") (decimal_unbroken count few) refl
last_is_line endings.Spent count few = line_join (decimal count) (codes "\n") (decimal_unbroken count few) refl
