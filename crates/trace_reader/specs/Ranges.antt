-- The traces: their numbers lie within their ranges, showings stand after outputs alone, and the end fits the tail.
use Rattle.std.specs.Prelude.{◌≡◌, ℕ, ◌<◌, ◌⊎◌, ⊤, Bool, true, false, is_some, List, [], ◌∷◌, ◌++◌, length, Option, Some, None, codes}
use Rattle.trace_reader.specs.declared.trace.Width.{Width}
use Rattle.trace_reader.specs.declared.trace.Width.TheVariants.{Byte, Word, Double}
use Rattle.trace_reader.specs.declared.trace.JobArea.{JobArea}
use Rattle.trace_reader.specs.declared.trace.JobArea.TheVariants.{Memory, DataBlock as InBlock}
use Rattle.trace_reader.specs.declared.trace.Place.{Place}
use Rattle.trace_reader.specs.declared.trace.Request.{Request}
use Rattle.trace_reader.specs.declared.trace.Request.TheVariants as asks
use Rattle.trace_reader.specs.declared.trace.Answer.{Answer}
use Rattle.trace_reader.specs.declared.trace.Answer.TheVariants as answers
use Rattle.trace_reader.specs.declared.trace.Showings.TheVariants as showings
use Rattle.trace_reader.specs.declared.trace.Entry.{Entry}
use Rattle.trace_reader.specs.declared.trace.Event.{Event}
use Rattle.trace_reader.specs.declared.trace.Event.TheVariants as events
use Rattle.trace_reader.specs.declared.trace.Note.{Note}
use Rattle.trace_reader.specs.declared.trace.Counter.{Counter}
use Rattle.trace_reader.specs.declared.trace.Ending.{Ending}
use Rattle.trace_reader.specs.declared.trace.Ending.TheVariants as endings
use Rattle.trace_reader.specs.declared.trace.Areas.{Areas}
use Rattle.trace_reader.specs.Blocks.{DataBlock}
use Rattle.trace_reader.specs.Parts.{TailParts, TraceParts}
use Rattle.trace_reader.specs.Fields.{after, number_at}
use Rattle.trace_reader.specs.Lines.{is_output, showings_at}
use Rattle.trace_reader.specs.Text.{shown_lines}

abbrev pub AreBytes : List ℕ → Type 0
AreBytes [] = ⊤
AreBytes (byte ∷ bytes) = (byte < 256) × AreBytes bytes

-- an image of this number of bytes
abbrev pub IsImage : ℕ → List ℕ → Type 0
IsImage count bytes = (length bytes ≡ count) × AreBytes bytes

abbrev pub FitsWidth : Width → ℕ → Type 0
FitsWidth Byte value = value < 256
FitsWidth Word value = value < 65536
FitsWidth Double value = value < 4294967296

abbrev pub FitsArea : JobArea → Type 0
FitsArea Memory = ⊤
FitsArea (InBlock number) = number < 65536

abbrev pub FitsPlace : Place → Type 0
FitsPlace place = FitsArea place.area × (place.at < 65536)

abbrev pub FitsReply : Option ℕ → Type 0
FitsReply (Some value) = value < 4294967296
FitsReply None = ⊤

abbrev pub FitsRequest : Request → Type 0
FitsRequest (asks.Outputs bytes) = IsImage 64 bytes
FitsRequest (asks.ReadPeripheral at width) = at < 65536
FitsRequest (asks.WritePeripheral at width value) = (at < 65536) × FitsWidth width value
FitsRequest (asks.Reply value) = FitsReply value
FitsRequest _ = ⊤

abbrev pub FitsAnswer : Answer → Type 0
FitsAnswer (answers.Image bytes) = IsImage 64 bytes
FitsAnswer (answers.Value value) = value < 4294967296
FitsAnswer (answers.Now moment) = moment < 4294967296
FitsAnswer (answers.Alarm ob info) = (ob < 256) × (info < 4294967296)
FitsAnswer (answers.ReadJob place) = FitsPlace place
FitsAnswer (answers.WriteJob place value) = FitsPlace place × FitsWidth place.width value
FitsAnswer _ = ⊤

-- an output alone is shown
abbrev pub FitsShowings : Entry → Type 0
FitsShowings entry = (is_output entry.request entry.answer ≡ true) ⊎ (entry.shown ≡ showings.None)

abbrev pub FitsEntry : Entry → Type 0
FitsEntry entry = (entry.priority < 256) × FitsRequest entry.request × FitsAnswer entry.answer × FitsShowings entry

-- no showing of the last entry is left in this text
abbrev pub EndShowings : List Entry → List ℕ → Type 0
EndShowings [] text = ⊤
EndShowings (entry ∷ []) text = showings_at entry.request entry.answer (shown_lines entry.shown ++ text) ≡ (entry.shown, text)
EndShowings (entry ∷ next ∷ entries) text = EndShowings (next ∷ entries) text

-- each of a list
abbrev pub Each : {A : Type 0} → (A → Type 0) → List A → Type 0
Each Fits [] = ⊤
Each Fits (x ∷ xs) = Fits x × Each Fits xs

abbrev pub FitsEvent : Event → Type 0
FitsEvent (events.Error number) = number < 256
FitsEvent (events.MissingOb number) = number < 256
FitsEvent (events.Discrepancy address) = address < 65536
FitsEvent _ = ⊤

abbrev pub FitsNote : Note → Type 0
FitsNote note = (note.moment < 4294967296) × FitsEvent note.event

abbrev pub FitsAreas : Areas → Type 0
FitsAreas areas = IsImage 64 areas.inputs × IsImage 64 areas.outputs × IsImage 1024 areas.memory

abbrev pub FitsBlock : DataBlock → Type 0
FitsBlock block = (block.number < 256) × IsImage 65536 block.bytes

abbrev pub FitsCounter : Counter → Type 0
FitsCounter counter = (counter.number < 256) × (counter.value < 65536)

abbrev pub FitsTail : Option TailParts → Type 0
FitsTail None = ⊤
FitsTail (Some tail) =
    (length tail.notes < 4294967296) × Each FitsNote tail.notes × FitsAreas tail.areas
    × Each FitsBlock tail.blocks × Each FitsCounter tail.counters

-- END and STOP end a trace that has a tail, NONE and SPENT one that has none
abbrev pub EndsAs : Bool → Ending → Type 0
EndsAs true endings.End = ⊤
EndsAs true (endings.Stop code) = ⊤
EndsAs false endings.NoneLeft = ⊤
EndsAs false endings.Spent = ⊤
EndsAs _ _ = ⊥

abbrev pub FitsEnding : Option TailParts → Ending → Type 0
FitsEnding tail ending = EndsAs (is_some tail) ending

abbrev pub IsTrace : TraceParts → Type 0
IsTrace trace =
    (length trace.entries < 4294967296) × Each FitsEntry trace.entries × FitsTail trace.tail × FitsEnding trace.tail trace.ending

-- no entry and no showing begins here
abbrev pub ClosesEntries : List ℕ → Type 0
ClosesEntries rest = (number_at 4294967294 rest ≡ None) × (after (codes "SHOW ") rest ≡ None) × (after (codes "AGAIN ") rest ≡ None)

-- no tail, no data block and no counter begins here
abbrev pub ClosesTail : List ℕ → Type 0
ClosesTail rest = (after (codes "DIAG ") rest ≡ None) × (after (codes "DB ") rest ≡ None) × (after (codes "C ") rest ≡ None)
