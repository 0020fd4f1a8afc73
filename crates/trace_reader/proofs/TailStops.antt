-- Where the tail stops to fit, and where it is over.
use Rattle.std.proofs.Common.{◌≡◌, ℕ, ◌<◌, List, [], ◌∷◌, ◌++◌, length, Option, Some, None, refl, sym, ap, ◌∙◌, arith, append_assoc}
use Rattle.std.specs.Prelude.{is_some}
use Rattle.std.specs.List.{flat_map}
use Rattle.std.proofs.lemmas.List.{append-nil}
use Rattle.trace_reader.specs.declared.trace.Note.{Note}
use Rattle.trace_reader.specs.declared.trace.Counter.{Counter}
use Rattle.trace_reader.specs.declared.trace.Areas.{Areas}
use Rattle.trace_reader.specs.declared.reading.Stop.{Stop}
use Rattle.trace_reader.specs.declared.reading.Stop.TheVariants as stops
use Rattle.trace_reader.specs.Parts.{TailParts}
use Rattle.trace_reader.specs.Lines.{note_at, areas_at, count_at, block_at, counter_at}
use Rattle.trace_reader.specs.Text.{note_line, area_lines, block_line, counter_line, count_line, notes_and_after, tail_lines}
use Rattle.trace_reader.specs.Ranges.{Each, FitsNote, FitsAreas, FitsBlock, FitsCounter, FitsTail, ClosesTail}
use Rattle.trace_reader.specs.Refusal.{StopsAt, WithinNotes, BeginsNotes, WithinAreas, BeginsAreas, WithinTail, BeginsTail, NotesStop, AreasStop, TailStop, TailIsOver}
use Rattle.trace_reader.proofs.ReadTail.{count_again, note_again, areas_again, block_again, counter_again}
use Rattle.trace_reader.proofs.LineEnds.{count_is_line, block_is_line, counter_is_line}
use Rattle.trace_reader.proofs.GoesOn.{pair_is, no_block, no_counter}
use Rattle.trace_reader.proofs.Wholes.{no_count}
use Rattle.trace_reader.proofs.SectionStops.{ReadsAgain, AreLines, NoLine, no_line_here, no_line_read, many_same, lines_same, stops_later, blank_areas, blank_fits}

-- a tail of these notes and areas alone
abbrev short_tail : List Note → Areas → TailParts
short_tail notes areas = record { notes = notes; areas = areas; blocks = []; counters = [] }

notes_alone : (notes : List Note) (areas : Areas) → notes_and_after (short_tail notes areas) ≡ flat_map note_line notes ++ area_lines areas
notes_alone notes areas = ap (λ (t : List ℕ). flat_map note_line notes ++ t) (append-nil (area_lines areas))

short_fits : (notes : List Note) (areas : Areas) → length notes < 4294967296 → Each FitsNote notes → FitsAreas areas → FitsTail (Some (short_tail notes areas))
short_fits notes areas few fn fa = (few, fn, fa, tt, tt)

abbrev after_notes : TailParts → List ℕ
after_notes tail = area_lines tail.areas ++ (flat_map block_line tail.blocks ++ flat_map counter_line tail.counters)

-- the diagnostic entries stop the tail
pub notes_stop_tail : (count : ℕ) (text : List ℕ) (left : ℕ) → count < 4294967296 → StopsAt (WithinNotes count) (BeginsNotes count) text left → StopsAt (WithinTail count) (BeginsTail count) text left
notes_stop_tail count text left few stop = (stop.0, stop.1, stop.2, stop.3, within stop.4, (λ more later split begins. stop.5 more later split (section (stop.0 ++ (more ++ (10 ∷ []))) begins)))
  where
    within : WithinNotes count stop.0 → WithinTail count stop.0
    within w = (
      short_tail w.0 blank_areas,
      w.1 ++ area_lines blank_areas,
      w.2,
      short_fits w.0 blank_areas (let n = w.2 in omega (arith, n, few)) w.3 blank_fits,
      notes_alone w.0 blank_areas ∙ ap (λ (t : List ℕ). t ++ area_lines blank_areas) w.4 ∙ append_assoc stop.0 w.1 (area_lines blank_areas),
    )

    section : (front : List ℕ) → BeginsTail count front → BeginsNotes count front
    section front b = (b.0.notes, after_notes b.0 ++ b.1, b.2, b.3, b.4.1, sym (append_assoc (flat_map note_line b.0.notes) (after_notes b.0) b.1) ∙ b.5)

-- the areas stop the tail
pub areas_stop_tail : (count : ℕ) (notes : List Note) (whole text : List ℕ) (left : ℕ) → count < 4294967296 → length notes ≡ count → Each FitsNote notes → whole ≡ flat_map note_line notes ++ text
    → StopsAt WithinAreas BeginsAreas text left → StopsAt (WithinTail count) (BeginsTail count) whole left
areas_stop_tail count notes whole text left few n fit e stop =
    stops_later (WithinTail count) (BeginsTail count) WithinAreas BeginsAreas (flat_map note_line notes) whole text left e stop within section
  where
    within : (t : List ℕ) → WithinAreas t → WithinTail count (flat_map note_line notes ++ t)
    within t w = (
      short_tail notes w.0,
      w.1,
      n,
      short_fits notes w.0 (omega (arith, n, few)) fit w.2,
      notes_alone notes w.0 ∙ ap (λ (s : List ℕ). flat_map note_line notes ++ s) w.3 ∙ sym (append_assoc (flat_map note_line notes) t w.1),
    )

    section : (t : List ℕ) → BeginsTail count (flat_map note_line notes ++ t) → BeginsAreas t
    section t b =
        let later = flat_map block_line b.0.blocks ++ flat_map counter_line b.0.counters in
        let e : flat_map note_line b.0.notes ++ (after_notes b.0 ++ b.1) ≡ flat_map note_line notes ++ (t ++ b.2) =
        sym (append_assoc (flat_map note_line b.0.notes) (after_notes b.0) b.1) ∙ b.5 ∙ append_assoc (flat_map note_line notes) t b.2 in
        let same = many_same note_line FitsNote note_at b.0.notes notes (after_notes b.0 ++ b.1) (t ++ b.2) note_again b.4.1 fit (b.3 ∙ sym n) e in
        (b.0.areas, later ++ b.1, b.2, b.4.2, sym (append_assoc (area_lines b.0.areas) later b.1) ∙ same)

-- ---- the end of the tail

abbrev pub few_notes : ℕ → Type 0
few_notes count = count < 4294967296

counts_again : ReadsAgain count_line few_notes count_at
counts_again count rest few = count_again count rest few

counts_are_lines : AreLines count_line few_notes
counts_are_lines count few = count_is_line count few

-- no line that a tail may go on with begins here
abbrev pub TailEnds : Option TailParts → List ℕ → Type 0
TailEnds None text = NoLine count_line few_notes text
TailEnds (Some tail) text = NoLine block_line FitsBlock (flat_map counter_line tail.counters ++ text) × NoLine counter_line FitsCounter text

no_block_before : (counters : List Counter) (text : List ℕ) → NoLine block_line FitsBlock text → NoLine block_line FitsBlock (flat_map counter_line counters ++ text)
no_block_before [] text none = none
no_block_before (counter ∷ counters) text none = no_line_read block_line FitsBlock block_at (flat_map counter_line (counter ∷ counters) ++ text) block_again (sym (no_block (flat_map counter_line (counter ∷ counters) ++ text) refl))

no_block_here : (counters : List Counter) (rest more later x : List ℕ) → rest ≡ more ++ (10 ∷ later) → block_at (flat_map counter_line counters ++ rest) ≡ None → NoLine block_line FitsBlock (flat_map counter_line counters ++ (more ++ (10 ∷ x)))
no_block_here [] rest more later x split over = no_line_here block_line FitsBlock block_at rest more later x block_is_line block_again (sym over) split
no_block_here (counter ∷ counters) rest more later x split over =
    no_line_read block_line FitsBlock block_at (flat_map counter_line (counter ∷ counters) ++ (more ++ (10 ∷ x))) block_again (sym (no_block (flat_map counter_line (counter ∷ counters) ++ (more ++ (10 ∷ x))) refl))

pub tail_ends_here : (tail : Option TailParts) (rest more later x : List ℕ) → rest ≡ more ++ (10 ∷ later) → TailIsOver tail rest → TailEnds tail (more ++ (10 ∷ x))
tail_ends_here None rest more later x split over = no_line_here count_line few_notes count_at rest more later x counts_are_lines counts_again (sym over) split
tail_ends_here (Some tail) rest more later x split over = (
  no_block_here tail.counters rest more later x split over.0,
  no_line_here counter_line FitsCounter counter_at rest more later x counter_is_line counter_again (sym over.1) split,
)

pub tail_ends_closed : (tail : Option TailParts) (text : List ℕ) → ClosesTail text → TailEnds tail text
tail_ends_closed None text closes = no_line_read count_line few_notes count_at text counts_again (sym (no_count text closes.0))
tail_ends_closed (Some tail) text closes = (
  no_block_before tail.counters text (no_line_read block_line FitsBlock block_at text block_again (sym (no_block text closes.1))),
  no_line_read counter_line FitsCounter counter_at text counter_again (sym (no_counter text closes.2)),
)

-- the tail's number of entries, and all that follows it
pub tail_rest : (tail : TailParts) (rest : List ℕ)
    → tail_lines (Some tail) ++ rest ≡ count_line (length tail.notes) ++ (flat_map note_line tail.notes ++ (area_lines tail.areas ++ (flat_map block_line tail.blocks ++ (flat_map counter_line tail.counters ++ rest))))
tail_rest tail rest =
    regroup (count_line (length tail.notes)) (flat_map note_line tail.notes) (area_lines tail.areas) (flat_map block_line tail.blocks) (flat_map counter_line tail.counters) rest
  where
    regroup : (a b c d e x : List ℕ) → (a ++ (b ++ (c ++ (d ++ e)))) ++ x ≡ a ++ (b ++ (c ++ (d ++ (e ++ x))))
    regroup a b c d e x = simp append_assoc

-- two texts that begin with a tail or without one, and then have no line of one
pub tails_same : (s t : Option TailParts) (u v : List ℕ) → FitsTail s → FitsTail t → TailEnds s u → TailEnds t v → tail_lines s ++ u ≡ tail_lines t ++ v → (is_some s ≡ is_some t) × (u ≡ v)
tails_same None None u v fs ft us vt e = (refl, e)
tails_same None (Some t) u v fs ft us vt e = absurd (us (length t.notes) (notes_and_after t ++ v) ft.0 (e ∙ append_assoc (count_line (length t.notes)) (notes_and_after t) v))
tails_same (Some s) None u v fs ft us vt e = absurd (vt (length s.notes) (notes_and_after s ++ u) fs.0 (sym e ∙ append_assoc (count_line (length s.notes)) (notes_and_after s) u))
tails_same (Some s) (Some t) u v fs ft us vt e =
    let sc = flat_map counter_line s.counters ++ u in
    let tc = flat_map counter_line t.counters ++ v in
    let sb = flat_map block_line s.blocks ++ sc in
    let tb = flat_map block_line t.blocks ++ tc in
    let sa = area_lines s.areas ++ sb in
    let ta = area_lines t.areas ++ tb in
    let sn = flat_map note_line s.notes ++ sa in
    let tn = flat_map note_line t.notes ++ ta in
    let count = pair_is (length s.notes) (length t.notes) sn tn
    (sym (count_again (length s.notes) sn fs.0) ∙ ap count_at (sym (tail_rest s u) ∙ e ∙ tail_rest t v) ∙ count_again (length t.notes) tn ft.0) in
    let notes : sa ≡ ta = many_same note_line FitsNote note_at s.notes t.notes sa ta note_again fs.1 ft.1 count.0 count.1 in
    let areas = pair_is s.areas t.areas sb tb (sym (areas_again s.areas sb fs.2) ∙ ap areas_at notes ∙ areas_again t.areas tb ft.2) in
    let blocks : sc ≡ tc = lines_same block_line FitsBlock block_at s.blocks t.blocks sc tc block_again fs.3 ft.3 us.0 vt.0 areas.1 in
    (refl, lines_same counter_line FitsCounter counter_at s.counters t.counters u v counter_again fs.4 ft.4 us.1 vt.1 blocks)

-- the same of each way in which the notes and the areas stop
pub notes_stops : (count : ℕ) (text later : List ℕ) (stop : Stop) → count < 4294967296 → text ≡ count_line count ++ later → NotesStop count later stop → TailStop text stop
notes_stops count text later (stops.Left left) few whole stop = (count, later, few, whole, notes_stop_tail count later left few stop)
notes_stops count text later stops.NoMemory few whole stop = tt

pub areas_stops : (count : ℕ) (notes : List Note) (text later rest : List ℕ) (stop : Stop) → count < 4294967296 → length notes ≡ count → Each FitsNote notes → text ≡ count_line count ++ later → later ≡ flat_map note_line notes ++ rest
    → AreasStop rest stop → TailStop text stop
areas_stops count notes text later rest (stops.Left left) few n fit whole front stop = (count, later, few, whole, areas_stop_tail count notes later rest left few n fit front stop)
areas_stops count notes text later rest stops.NoMemory few n fit whole front stop = tt
