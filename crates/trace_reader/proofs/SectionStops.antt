-- Where a section stops to fit: no line that goes on begins there.
use Rattle.std.proofs.Common.{◌≡◌, ℕ, zero, suc, ◌-◌, ◌<◌, ◌≤◌, true, List, [], ◌∷◌, ◌++◌, length, Option, Some, None, refl, sym, subst, ap, ◌∙◌, arith, append_assoc, length-append}
use Rattle.std.specs.Prelude.{codes}
use Rattle.std.specs.List.{flat_map}
use Rattle.std.proofs.lemmas.List.{append-nil}
use Rattle.std.proofs.lemmas.Grind.{flat_map-append}
use Rattle.trace_reader.specs.declared.trace.Note.{Note}
use Rattle.trace_reader.specs.declared.trace.Event.TheVariants as events
use Rattle.trace_reader.specs.declared.trace.Areas.{Areas}
use Rattle.trace_reader.specs.Images.{image}
use Rattle.trace_reader.specs.Lines.{note_at, image_line_at}
use Rattle.trace_reader.specs.Text.{note_line, area_lines}
use Rattle.trace_reader.specs.Ranges.{Each, AreBytes, IsImage, FitsNote, FitsAreas}
use Rattle.trace_reader.specs.Refusal.{NoLineFits, StopsAt, WithinNotes, BeginsNotes, WithinAreas, BeginsAreas}
use Rattle.trace_reader.proofs.Fronts.{after_again}
use Rattle.trace_reader.proofs.ReadBack.{image_at_again}
use Rattle.trace_reader.proofs.ReadTail.{note_again}
use Rattle.trace_reader.proofs.LineEnds.{unbroken, is_line, line_join, same_line, note_is_line, image_is_line}
use Rattle.trace_reader.proofs.GoesOn.{no_reading, pair_is}

-- ---- lines of one form

-- each line of this form is read as what it says
abbrev pub ReadsAgain : {A : Type 0} → (A → List ℕ) → (A → Type 0) → (List ℕ → Option (A × List ℕ)) → Type 0
ReadsAgain {A} line Fits read_at = (y : A) (after : List ℕ) → Fits y → read_at (line y ++ after) ≡ Some (y, after)

abbrev pub AreLines : {A : Type 0} → (A → List ℕ) → (A → Type 0) → Type 0
AreLines {A} line Fits = (y : A) → Fits y → is_line (line y) ≡ true

-- no line of this form begins here
abbrev pub NoLine : {A : Type 0} → (A → List ℕ) → (A → Type 0) → List ℕ → Type 0
NoLine {A} line Fits text = (y : A) (after : List ℕ) → Fits y → text ≡ line y ++ after → ⊥

-- where none is read, none begins in any text that has the same first line
pub no_line_here : {A : Type 0} (line : A → List ℕ) (Fits : A → Type 0) (read_at : List ℕ → Option (A × List ℕ)) (rest more later x : List ℕ)
    → AreLines line Fits → ReadsAgain line Fits read_at → None ≡ read_at rest → rest ≡ more ++ (10 ∷ later) → NoLine line Fits (more ++ (10 ∷ x))
no_line_here line Fits read_at rest more later x lines again over split y z fits here =
    let same = same_line (line y) z more x later (lines y fits) (sym here) in
    no_reading y same.0 (read_at rest) over (ap read_at (split ∙ same.1) ∙ again y same.0 fits)

pub no_line_read : {A : Type 0} (line : A → List ℕ) (Fits : A → Type 0) (read_at : List ℕ → Option (A × List ℕ)) (text : List ℕ)
    → ReadsAgain line Fits read_at → None ≡ read_at text → NoLine line Fits text
no_line_read line Fits read_at text again over y z fits here = no_reading y z (read_at text) over (ap read_at here ∙ again y z fits)

-- two texts that begin with lines of one form, and then have none
pub lines_same : {A : Type 0} (line : A → List ℕ) (Fits : A → Type 0) (read_at : List ℕ → Option (A × List ℕ)) (xs ys : List A) (u v : List ℕ)
    → ReadsAgain line Fits read_at → Each Fits xs → Each Fits ys → NoLine line Fits u → NoLine line Fits v → flat_map line xs ++ u ≡ flat_map line ys ++ v → u ≡ v
lines_same line Fits read_at [] [] u v again fx fy nu nv e = e
lines_same line Fits read_at [] (y ∷ ys) u v again fx fy nu nv e = absurd (nu y (flat_map line ys ++ v) fy.0 (e ∙ append_assoc (line y) (flat_map line ys) v))
lines_same line Fits read_at (x ∷ xs) [] u v again fx fy nu nv e = absurd (nv x (flat_map line xs ++ u) fx.0 (sym e ∙ append_assoc (line x) (flat_map line xs) u))
lines_same line Fits read_at (x ∷ xs) (y ∷ ys) u v again fx fy nu nv e =
    let joined : line x ++ (flat_map line xs ++ u) ≡ line y ++ (flat_map line ys ++ v) = sym (append_assoc (line x) (flat_map line xs) u) ∙ e ∙ append_assoc (line y) (flat_map line ys) v in
    let same = pair_is x y (flat_map line xs ++ u) (flat_map line ys ++ v) (sym (again x (flat_map line xs ++ u) fx.0) ∙ ap read_at joined ∙ again y (flat_map line ys ++ v) fy.0) in
    lines_same line Fits read_at xs ys u v again fx.1 fy.1 nu nv same.1

-- the same of equally many lines
pub many_same : {A : Type 0} (line : A → List ℕ) (Fits : A → Type 0) (read_at : List ℕ → Option (A × List ℕ)) (xs ys : List A) (u v : List ℕ)
    → ReadsAgain line Fits read_at → Each Fits xs → Each Fits ys → length xs ≡ length ys → flat_map line xs ++ u ≡ flat_map line ys ++ v → u ≡ v
many_same line Fits read_at [] [] u v again fx fy n e = e
many_same line Fits read_at [] (y ∷ ys) u v again fx fy n e = absurd (omega (arith, n))
many_same line Fits read_at (x ∷ xs) [] u v again fx fy n e = absurd (omega (arith, n))
many_same line Fits read_at (x ∷ xs) (y ∷ ys) u v again fx fy n e =
    let joined : line x ++ (flat_map line xs ++ u) ≡ line y ++ (flat_map line ys ++ v) = sym (append_assoc (line x) (flat_map line xs) u) ∙ e ∙ append_assoc (line y) (flat_map line ys) v in
    let same = pair_is x y (flat_map line xs ++ u) (flat_map line ys ++ v) (sym (again x (flat_map line xs ++ u) fx.0) ∙ ap read_at joined ∙ again y (flat_map line ys ++ v) fy.0) in
    many_same line Fits read_at xs ys u v again fx.1 fy.1 (omega (arith, n)) same.1

-- of more lines one goes on
pub one_more_line : {A : Type 0} (line : A → List ℕ) (Fits : A → Type 0) (read_at : List ℕ → Option (A × List ℕ)) (xs ys : List A) (u v : List ℕ)
    → ReadsAgain line Fits read_at → Each Fits xs → Each Fits ys → length xs < length ys → flat_map line xs ++ u ≡ flat_map line ys ++ v → NoLine line Fits u → ⊥
one_more_line line Fits read_at [] [] u v again fx fy less e none = absurd (omega (arith, less))
one_more_line line Fits read_at [] (y ∷ ys) u v again fx fy less e none = none y (flat_map line ys ++ v) fy.0 (e ∙ append_assoc (line y) (flat_map line ys) v)
one_more_line line Fits read_at (x ∷ xs) [] u v again fx fy less e none = absurd (omega (arith, less))
one_more_line line Fits read_at (x ∷ xs) (y ∷ ys) u v again fx fy less e none =
    let joined : line x ++ (flat_map line xs ++ u) ≡ line y ++ (flat_map line ys ++ v) = sym (append_assoc (line x) (flat_map line xs) u) ∙ e ∙ append_assoc (line y) (flat_map line ys) v in
    let same = pair_is x y (flat_map line xs ++ u) (flat_map line ys ++ v) (sym (again x (flat_map line xs ++ u) fx.0) ∙ ap read_at joined ∙ again y (flat_map line ys ++ v) fy.0) in
    one_more_line line Fits read_at xs ys u v again fx.1 fy.1 (omega (arith, less)) same.1 none

-- ---- a place in a text

-- a front, one line more and what follows
pub with_line : (front more x : List ℕ) → (front ++ (more ++ (10 ∷ []))) ++ x ≡ front ++ (more ++ (10 ∷ x))
with_line front more x = append_assoc front (more ++ (10 ∷ [])) x ∙ ap (λ (t : List ℕ). front ++ t) (append_assoc more (10 ∷ []) x)

-- a section stops at its first line
pub stops_at_once : (Within Begins : List ℕ → Type 0) (text : List ℕ) → Within [] → NoLineFits Begins [] text → StopsAt Within Begins text (length text)
stops_at_once Within Begins text within none = ([], text, refl, refl, within, none)

-- a section stops where one stops that begins later in it
pub stops_later : (Within Begins Inner Starts : List ℕ → Type 0) (front whole text : List ℕ) (left : ℕ) → whole ≡ front ++ text → StopsAt Inner Starts text left
    → ((t : List ℕ) → Inner t → Within (front ++ t)) → ((t : List ℕ) → Begins (front ++ t) → Starts t) → StopsAt Within Begins whole left
stops_later Within Begins Inner Starts front whole text left e stop up down = (
  front ++ stop.0,
  stop.1,
  e ∙ ap (λ (t : List ℕ). front ++ t) stop.2 ∙ sym (append_assoc front stop.0 stop.1),
  stop.3,
  up stop.0 stop.4,
  (λ more later split begins. stop.5 more later split (down (stop.0 ++ (more ++ (10 ∷ []))) (subst Begins (append_assoc front stop.0 (more ++ (10 ∷ []))) begins))),
)

-- ---- diagnostic entries

blank_note : Note
blank_note = record { moment = 0; event = events.Start }

filler : ℕ → List Note
filler zero = []
filler (suc n) = blank_note ∷ filler n

filler_length : (n : ℕ) → length (filler n) ≡ n
unfolding filler
filler_length zero = refl
filler_length (suc n) = ap suc (filler_length n)

filler_fits : (n : ℕ) → Each FitsNote (filler n)
unfolding filler blank_note
filler_fits zero = tt
filler_fits (suc n) = ((omega arith, tt), filler_fits n)

each_join : {A : Type 0} (Fits : A → Type 0) (xs ys : List A) → Each Fits xs → Each Fits ys → Each Fits (xs ++ ys)
each_join Fits [] ys fx fy = fy
each_join Fits (x ∷ xs) ys fx fy = (fx.0, each_join Fits xs ys fx.1 fy)

within_notes : (count : ℕ) (notes : List Note) → length notes < count → Each FitsNote notes → WithinNotes count (flat_map note_line notes)
within_notes count notes less fit =
    let more = filler (count - length notes) in
    let n : length (notes ++ more) ≡ count = (let a = length-append notes more in let b = filler_length (count - length notes) in omega (arith, a, b, less)) in
    (notes ++ more, flat_map note_line more, n, each_join FitsNote notes more fit (filler_fits (count - length notes)), flat_map-append note_line notes more)

pub notes_stop : (text rest : List ℕ) (notes : List Note) (count : ℕ) → text ≡ flat_map note_line notes ++ rest → length notes < count → Each FitsNote notes → None ≡ note_at rest
    → StopsAt (WithinNotes count) (BeginsNotes count) text (length rest)
notes_stop text rest notes count whole less fit over = (
  flat_map note_line notes,
  rest,
  whole,
  refl,
  within_notes count notes less fit,
  (λ more later split begins.
      one_more_line note_line FitsNote note_at notes begins.0 (more ++ (10 ∷ begins.2)) begins.1 note_again fit begins.4 (let n = begins.3 in omega (arith, n, less))
      (sym (with_line (flat_map note_line notes) more begins.2) ∙ sym begins.5) (no_line_here note_line FitsNote note_at rest more later begins.2 note_is_line note_again over split)),
)

-- ---- areas

-- the line of an image
abbrev pub row : List ℕ → List ℕ → List ℕ
row name bytes = name ++ (image bytes ++ codes "\n")

row_before : (name bytes after : List ℕ) → row name bytes ++ after ≡ name ++ (image bytes ++ (10 ∷ after))
row_before name bytes after = append_assoc name (image bytes ++ codes "\n") after ∙ ap (λ (t : List ℕ). name ++ t) (append_assoc (image bytes) (codes "\n") after)

row_again : (name : List ℕ) (count : ℕ) → count ≤ 65536 → ReadsAgain (row name) (IsImage count) (image_line_at name count)
unfolding image_line_at
row_again name count few bytes after fits =
    let begun = after_again name (image bytes ++ (10 ∷ after)) in
    let read = image_at_again count bytes (10 ∷ after) few fits refl in
    rw (row_before name bytes after, begun, read) refl

row_is_line : (name : List ℕ) (count : ℕ) → count ≤ 65536 → unbroken name ≡ true → AreLines (row name) (IsImage count)
row_is_line name count few one bytes fits = line_join name (image bytes ++ codes "\n") one (image_is_line count bytes few fits)

memory_row : Areas → List ℕ → List ℕ
memory_row areas after = row (codes "M ") areas.memory ++ after

output_rows : Areas → List ℕ → List ℕ
output_rows areas after = row (codes "Q ") areas.outputs ++ memory_row areas after

rows_joined : (areas : Areas) (after : List ℕ) → area_lines areas ++ after ≡ row (codes "I ") areas.inputs ++ output_rows areas after
unfolding memory_row output_rows
rows_joined areas after =
    let i = image areas.inputs in
    let q = image areas.outputs in
    let m = image areas.memory in
    let memory = codes "M " ++ (m ++ (10 ∷ after)) in
    regroup (codes "I ") i (codes "\nQ ") q (codes "\nM ") m (codes "\n") after
    ∙ sym (row_before (codes "I ") areas.inputs (codes "Q " ++ (q ++ (10 ∷ memory))))
    ∙ ap (λ (t : List ℕ). row (codes "I ") areas.inputs ++ t) (sym (row_before (codes "Q ") areas.outputs memory))
    ∙ ap (λ (t : List ℕ). row (codes "I ") areas.inputs ++ (row (codes "Q ") areas.outputs ++ t)) (sym (row_before (codes "M ") areas.memory after))
  where
    regroup : (a i b q c m d x : List ℕ) → (a ++ (i ++ (b ++ (q ++ (c ++ (m ++ d)))))) ++ x ≡ a ++ (i ++ (b ++ (q ++ (c ++ (m ++ (d ++ x))))))
    regroup a i b q c m d x = simp append_assoc

zeros : ℕ → List ℕ
zeros zero = []
zeros (suc n) = 0 ∷ zeros n

zeros_length : (n : ℕ) → length (zeros n) ≡ n
unfolding zeros
zeros_length zero = refl
zeros_length (suc n) = ap suc (zeros_length n)

zeros_fit : (n : ℕ) → AreBytes (zeros n)
unfolding zeros
zeros_fit zero = tt
zeros_fit (suc n) = (omega arith, zeros_fit n)

pub blank_areas : Areas
blank_areas = record { inputs = zeros 64; outputs = zeros 64; memory = zeros 1024 }

blank_image : (n : ℕ) → IsImage n (zeros n)
blank_image n = (zeros_length n, zeros_fit n)

pub blank_fits : FitsAreas blank_areas
unfolding blank_areas
blank_fits = (blank_image 64, blank_image 64, blank_image 1024)

with_inputs : List ℕ → Areas
with_inputs inputs = record { inputs = inputs; outputs = zeros 64; memory = zeros 1024 }

with_outputs : List ℕ → List ℕ → Areas
with_outputs inputs outputs = record { inputs = inputs; outputs = outputs; memory = zeros 1024 }

no_row : (name : List ℕ) (count : ℕ) (rest more later x after : List ℕ) (bytes : List ℕ) → count ≤ 65536 → unbroken name ≡ true → None ≡ image_line_at name count rest → rest ≡ more ++ (10 ∷ later)
    → IsImage count bytes → more ++ (10 ∷ x) ≡ row name bytes ++ after → ⊥
no_row name count rest more later x after bytes few one over split fits here =
    no_line_here (row name) (IsImage count) (image_line_at name count) rest more later x (row_is_line name count few one) (row_again name count few) over split bytes after fits here

same_row : (name : List ℕ) (count : ℕ) (a b u v : List ℕ) → count ≤ 65536 → IsImage count a → IsImage count b → row name a ++ u ≡ row name b ++ v → u ≡ v
same_row name count a b u v few fa fb e =
    (pair_is a b u v (sym (row_again name count few a u fa) ∙ ap (image_line_at name count) e ∙ row_again name count few b v fb)).1

pub inputs_stop : (text : List ℕ) → None ≡ image_line_at (codes "I ") 64 text → StopsAt WithinAreas BeginsAreas text (length text)
inputs_stop text over =
    stops_at_once WithinAreas BeginsAreas text (blank_areas, area_lines blank_areas, blank_fits, refl) (λ more later split begins.
    no_row (codes "I ") 64 text more later begins.2 (output_rows begins.0 begins.1) begins.0.inputs (omega arith) refl over split begins.3.0
    (sym (with_line [] more begins.2) ∙ sym begins.4 ∙ rows_joined begins.0 begins.1))

row_left : (name bytes after text : List ℕ) → text ≡ name ++ (image bytes ++ (10 ∷ after)) → text ≡ row name bytes ++ after
row_left name bytes after text e = e ∙ sym (row_before name bytes after)

pub outputs_stop : (text rest inputs : List ℕ) → text ≡ codes "I " ++ (image inputs ++ (10 ∷ rest)) → IsImage 64 inputs → None ≡ image_line_at (codes "Q ") 64 rest
    → StopsAt WithinAreas BeginsAreas text (length rest)
unfolding output_rows with_inputs
outputs_stop text rest inputs whole fits over = (
  row (codes "I ") inputs,
  rest,
  row_left (codes "I ") inputs rest text whole,
  refl,
  (with_inputs inputs, output_rows (with_inputs inputs) [], (fits, blank_image 64, blank_image 1024), sym (append-nil (area_lines (with_inputs inputs))) ∙ rows_joined (with_inputs inputs) []),
  (λ more later split begins.
      let joined : row (codes "I ") begins.0.inputs ++ output_rows begins.0 begins.1 ≡ row (codes "I ") inputs ++ (more ++ (10 ∷ begins.2)) =
      sym (rows_joined begins.0 begins.1) ∙ begins.4 ∙ with_line (row (codes "I ") inputs) more begins.2 in
      no_row (codes "Q ") 64 rest more later begins.2 (memory_row begins.0 begins.1) begins.0.outputs (omega arith) refl over split begins.3.1
      (sym (same_row (codes "I ") 64 begins.0.inputs inputs (output_rows begins.0 begins.1) (more ++ (10 ∷ begins.2)) (omega arith) begins.3.0 fits joined))),
)

pub memory_stop : (text middle rest inputs outputs : List ℕ) → text ≡ codes "I " ++ (image inputs ++ (10 ∷ middle)) → middle ≡ codes "Q " ++ (image outputs ++ (10 ∷ rest))
    → IsImage 64 inputs → IsImage 64 outputs → None ≡ image_line_at (codes "M ") 1024 rest → StopsAt WithinAreas BeginsAreas text (length rest)
unfolding output_rows memory_row with_outputs
memory_stop text middle rest inputs outputs first second fi fq over = (
  row (codes "I ") inputs ++ row (codes "Q ") outputs,
  rest,
  row_left (codes "I ") inputs middle text first ∙ ap (λ (t : List ℕ). row (codes "I ") inputs ++ t) (row_left (codes "Q ") outputs rest middle second) ∙ sym (append_assoc (row (codes "I ") inputs) (row (codes "Q ") outputs) rest),
  refl,
  (
    with_outputs inputs outputs,
    memory_row (with_outputs inputs outputs) [],
    (fi, fq, blank_image 1024),
    sym (append-nil (area_lines (with_outputs inputs outputs))) ∙ rows_joined (with_outputs inputs outputs) []
        ∙ sym (append_assoc (row (codes "I ") inputs) (row (codes "Q ") outputs) (memory_row (with_outputs inputs outputs) [])),
  ),
  (λ more later split begins.
      let joined : row (codes "I ") begins.0.inputs ++ output_rows begins.0 begins.1 ≡ row (codes "I ") inputs ++ (row (codes "Q ") outputs ++ (more ++ (10 ∷ begins.2))) =
      sym (rows_joined begins.0 begins.1) ∙ begins.4 ∙ with_line (row (codes "I ") inputs ++ row (codes "Q ") outputs) more begins.2 ∙ append_assoc (row (codes "I ") inputs) (row (codes "Q ") outputs) (more ++ (10 ∷ begins.2)) in
      let lower = same_row (codes "I ") 64 begins.0.inputs inputs (output_rows begins.0 begins.1) (row (codes "Q ") outputs ++ (more ++ (10 ∷ begins.2))) (omega arith) begins.3.0 fi joined in
      no_row (codes "M ") 1024 rest more later begins.2 begins.1 begins.0.memory (omega arith) refl over split begins.3.2
      (sym (same_row (codes "Q ") 64 begins.0.outputs outputs (memory_row begins.0 begins.1) (more ++ (10 ∷ begins.2)) (omega arith) begins.3.1 fq lower))),
)
