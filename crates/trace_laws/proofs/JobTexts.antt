-- What a job's text tells.
use Rattle.std.proofs.Common.{◌≡◌, ◌∙◌, ℕ, ◌+◌, ◌*◌, ◌^◌, ◌<◌, ◌≤◌, Bool, true, false, List, [], ◌∷◌, ◌++◌, refl, ap, sym, subst, arith, inl, inr}
use Rattle.std.specs.Prelude.{◌⊎◌, ◌==◌, ◌||◌, if◌then◌else◌, get_or, codes}
use Rattle.std.specs.Fmt.{decimal}
use Rattle.std.proofs.lemmas.Bool.Decides.{nat_tests}
use Rattle.std.proofs.lemmas.List.{append_assoc, append_cancel_left}
use Rattle.std.proofs.lemmas.Fmt.{decimal_injective}
use Rattle.s7_events.specs.declared.entry.Job as jobs
use Rattle.s7_events.specs.declared.entry.JobArea.{JobArea}
use Rattle.s7_events.specs.declared.entry.JobArea.TheVariants.{M, Db}
use Rattle.plant_script.specs.Form.{IsWidth, IsArea, IsJobForm}
use Rattle.trace_text.specs.Image.{hex}
use Rattle.trace_text.specs.EntryText.{width_letter, place_text, job_text}
use Rattle.trace_laws.proofs.Splits.{Free, line_feed, free_by, free_append, split_at}
use Rattle.trace_laws.proofs.Numbers.{decimal_free, hex_one, hex_free}

-- widths ------------------------------------------------------------------------------

abbrev letter : ℕ → ℕ
letter width = if width == 1 then 66 else if width == 2 then 87 else 68

letter_by : (a b : Bool) → (if a then codes "B" else if b then codes "W" else codes "D") ≡ (if a then 66 else if b then 87 else 68) ∷ []
letter_by true b = refl
letter_by false true = refl
letter_by false false = refl

letter_is : (width : ℕ) → width_letter width ≡ letter width ∷ []
letter_is width = letter_by (width == 1) (width == 2)

letter_one : (v w : ℕ) → (v == 1 || v == 2 || v == 4) ≡ true → (w == 1 || w == 2 || w == 4) ≡ true
    → letter v ≡ letter w → v ≡ w
letter_one v w h g e = grind (arith, nat_tests)

letter_free_by : (a b : Bool) → Free 10 ((if a then 66 else if b then 87 else 68) ∷ [])
letter_free_by true b = free_by 10 (66 ∷ []) refl
letter_free_by false true = free_by 10 (87 ∷ []) refl
letter_free_by false false = free_by 10 (68 ∷ []) refl

width_is : (w : ℕ) → (w == 1 || w == 2 || w == 4) ≡ true → (w ≡ 1) ⊎ ((w ≡ 2) ⊎ (w ≡ 4))
width_is w h = grind (arith, nat_tests)

-- two digits a byte
value_fits : (w v : ℕ) → IsWidth w → v < 16 ^ (2 * w) → v < 256 ^ w
value_fits w v h less =
    elim (width_is w h) [
      | inl one ↦ subst (λ n. v < 256 ^ n) (sym one) (subst (λ n. v < 16 ^ (2 * n)) one less)
      | inr more ↦ elim more [
        | inl two ↦ subst (λ n. v < 256 ^ n) (sym two) (subst (λ n. v < 16 ^ (2 * n)) two less)
        | inr four ↦ subst (λ n. v < 256 ^ n) (sym four) (subst (λ n. v < 16 ^ (2 * n)) four less)
      ]
    ]

-- places ------------------------------------------------------------------------------

shape_m : (width at : ℕ) (rest : List ℕ) → place_text M width at ++ rest ≡ 77 ∷ letter width ∷ 32 ∷ (decimal at ++ rest)
shape_m width at rest = ap (λ (l : List ℕ). (codes "M" ++ l ++ codes " " ++ decimal at) ++ rest) (letter_is width)

shape_db_by : (d a rest : List ℕ) (l : ℕ) → (codes "DB " ++ d ++ codes " " ++ (l ∷ []) ++ codes " " ++ a) ++ rest ≡ 68 ∷ 66 ∷ 32 ∷ (d ++ 32 ∷ l ∷ 32 ∷ (a ++ rest))
shape_db_by d a rest l = simp append_assoc

shape_db : (number width at : ℕ) (rest : List ℕ) → place_text (Db number) width at ++ rest ≡ 68 ∷ 66 ∷ 32 ∷ (decimal number ++ 32 ∷ letter width ∷ 32 ∷ (decimal at ++ rest))
shape_db number width at rest =
    ap (λ (l : List ℕ). (codes "DB " ++ decimal number ++ codes " " ++ l ++ codes " " ++ decimal at) ++ rest) (letter_is width)
    ∙ shape_db_by (decimal number) (decimal at) rest (letter width)

-- the same place, and the same text behind it
record SamePlace (a a' : JobArea) (w w' t t' : ℕ) (r r' : List ℕ) : Type 0 where
  area : a ≡ a'
  width : w ≡ w'
  at : t ≡ t'
  rest : r ≡ r'

number_one : (n m : ℕ) (rest rest' : List ℕ) → n ≤ 65535 → m ≤ 65535 → decimal n ++ 32 ∷ rest ≡ decimal m ++ 32 ∷ rest' → (n ≡ m) × (rest ≡ rest')
number_one n m rest rest' low low' e =
    let parts = split_at 32 (decimal n) (decimal m) rest rest' (decimal_free 32 n (inl (omega arith))) (decimal_free 32 m (inl (omega arith))) e in
    (decimal_injective n m (omega arith) (omega arith) parts.0, parts.1)

place_one : (a a' : JobArea) (w w' t t' : ℕ) (rest rest' : List ℕ) → IsArea a → IsArea a' → IsWidth w → IsWidth w' → t ≤ 65535 → t' ≤ 65535
    → place_text a w t ++ 32 ∷ rest ≡ place_text a' w' t' ++ 32 ∷ rest' → SamePlace a a' w w' t t' rest rest'
place_one M M w w' t t' rest rest' ha ha' hw hw' ht ht' e =
    let shaped : 77 ∷ letter w ∷ 32 ∷ (decimal t ++ 32 ∷ rest) ≡ 77 ∷ letter w' ∷ 32 ∷ (decimal t' ++ 32 ∷ rest') = sym (shape_m w t (32 ∷ rest)) ∙ e ∙ shape_m w' t' (32 ∷ rest') in
    let letters : letter w ≡ letter w' = cc in
    let behind : decimal t ++ 32 ∷ rest ≡ decimal t' ++ 32 ∷ rest' = cc in
    let numbers = number_one t t' rest rest' ht ht' behind in
    record { area = refl; width = letter_one w w' hw hw' letters; at = numbers.0; rest = numbers.1 }
place_one (Db n) (Db n') w w' t t' rest rest' ha ha' hw hw' ht ht' e =
    let shaped : 68 ∷ 66 ∷ 32 ∷ (decimal n ++ 32 ∷ letter w ∷ 32 ∷ (decimal t ++ 32 ∷ rest)) ≡ 68 ∷ 66 ∷ 32 ∷ (decimal n' ++ 32 ∷ letter w' ∷ 32 ∷ (decimal t' ++ 32 ∷ rest')) =
    sym (shape_db n w t (32 ∷ rest)) ∙ e ∙ shape_db n' w' t' (32 ∷ rest') in
    let inside : decimal n ++ 32 ∷ letter w ∷ 32 ∷ (decimal t ++ 32 ∷ rest) ≡ decimal n' ++ 32 ∷ letter w' ∷ 32 ∷ (decimal t' ++ 32 ∷ rest') = cc in
    let first = number_one n n' (letter w ∷ 32 ∷ (decimal t ++ 32 ∷ rest)) (letter w' ∷ 32 ∷ (decimal t' ++ 32 ∷ rest')) ha ha' inside in
    let after : letter w ∷ 32 ∷ (decimal t ++ 32 ∷ rest) ≡ letter w' ∷ 32 ∷ (decimal t' ++ 32 ∷ rest') = first.1 in
    let letters : letter w ≡ letter w' = cc in
    let behind : decimal t ++ 32 ∷ rest ≡ decimal t' ++ 32 ∷ rest' = cc in
    let numbers = number_one t t' rest rest' ht ht' behind in
    record { area = ap Db first.0; width = letter_one w w' hw hw' letters; at = numbers.0; rest = numbers.1 }
place_one M (Db n') w w' t t' rest rest' ha ha' hw hw' ht ht' e = absurd (omega (arith, ap (λ (l : List ℕ). get_or l 0 0) e))
place_one (Db n) M w w' t t' rest rest' ha ha' hw hw' ht ht' e = absurd (omega (arith, ap (λ (l : List ℕ). get_or l 0 0) e))

place_free : (a : JobArea) (w t : ℕ) → Free 10 (place_text a w t)
place_free M w t =
    free_append 10 (codes "M" ++ width_letter w ++ codes " ") (decimal t)
    (free_append 10 (codes "M" ++ width_letter w) (codes " ")
    (free_append 10 (codes "M") (width_letter w) (free_by 10 (codes "M") refl) (subst (Free 10) (sym (letter_is w)) (letter_free_by (w == 1) (w == 2)))) (free_by 10 (codes " ") refl))
    (decimal_free 10 t (inl (omega arith)))
place_free (Db n) w t =
    free_append 10 (codes "DB " ++ decimal n ++ codes " " ++ width_letter w ++ codes " ") (decimal t)
    (free_append 10 (codes "DB " ++ decimal n ++ codes " " ++ width_letter w) (codes " ")
    (free_append 10 (codes "DB " ++ decimal n ++ codes " ") (width_letter w)
    (free_append 10 (codes "DB " ++ decimal n) (codes " ") (free_append 10 (codes "DB ") (decimal n) (free_by 10 (codes "DB ") refl) (decimal_free 10 n (inl (omega arith)))) (free_by 10 (codes " ") refl))
    (subst (Free 10) (sym (letter_is w)) (letter_free_by (w == 1) (w == 2)))) (free_by 10 (codes " ") refl))
    (decimal_free 10 t (inl (omega arith)))

-- jobs --------------------------------------------------------------------------------

abbrev place_of : jobs.Job → List ℕ
place_of job = place_text job.area job.width job.at_byte

text_writes : (job : jobs.Job) → job.write ≡ true → job_text job ≡ codes "JOB WRITE " ++ (place_of job ++ 32 ∷ hex job.width job.value)
text_writes job is =
    rw is
    (ap (λ (t : List ℕ). t ++ hex job.width job.value) (append_assoc (codes "JOB WRITE ") (place_of job) (codes " "))
    ∙ append_assoc (codes "JOB WRITE ") (place_of job ++ codes " ") (hex job.width job.value)
    ∙ ap (λ (t : List ℕ). codes "JOB WRITE " ++ t) (append_assoc (place_of job) (codes " ") (hex job.width job.value)))

text_reads : (job : jobs.Job) → job.write ≡ false → job_text job ≡ codes "JOB READ " ++ place_of job
text_reads job is = rw is refl

same_job : (x y : jobs.Job) → x.write ≡ y.write → x.area ≡ y.area → x.at_byte ≡ y.at_byte → x.width ≡ y.width → x.value ≡ y.value → x ≡ y
same_job x y write area at width value =
    let one = λ (b : Bool). let j : jobs.Job = record { write = b; area = x.area; at_byte = x.at_byte; width = x.width; value = x.value } in j in
    let two = λ (a : JobArea). let j : jobs.Job = record { write = y.write; area = a; at_byte = x.at_byte; width = x.width; value = x.value } in j in
    let three = λ (n : ℕ). let j : jobs.Job = record { write = y.write; area = y.area; at_byte = n; width = x.width; value = x.value } in j in
    let four = λ (n : ℕ). let j : jobs.Job = record { write = y.write; area = y.area; at_byte = y.at_byte; width = n; value = x.value } in j in
    let five = λ (n : ℕ). let j : jobs.Job = record { write = y.write; area = y.area; at_byte = y.at_byte; width = y.width; value = n } in j in
    ap one write ∙ ap two area ∙ ap three at ∙ ap four width ∙ ap five value

writes_one : (x y : jobs.Job) → IsJobForm x → IsJobForm y → x.write ≡ true → y.write ≡ true → job_text x ≡ job_text y → x ≡ y
writes_one x y hx hy wx wy e =
    let behind = append_cancel_left (codes "JOB WRITE ") (place_of x ++ 32 ∷ hex x.width x.value) (place_of y ++ 32 ∷ hex y.width y.value) (sym (text_writes x wx) ∙ e ∙ text_writes y wy) in
    let place = place_one x.area y.area x.width y.width x.at_byte y.at_byte (hex x.width x.value) (hex y.width y.value) hx.area hy.area hx.width hy.width hx.at_byte hy.at_byte behind in
    let fits = value_fits x.width x.value hx.width hx.value in
    let fits' = subst (λ w. y.value < 256 ^ w) (sym place.width) (value_fits y.width y.value hy.width hy.value) in
    let digits : hex x.width x.value ≡ hex x.width y.value = place.rest ∙ ap (λ w. hex w y.value) (sym place.width) in
    same_job x y (wx ∙ sym wy) place.area place.at place.width (hex_one x.width x.value y.value fits fits' digits)

reads_one : (x y : jobs.Job) → IsJobForm x → IsJobForm y → x.write ≡ false → y.write ≡ false → job_text x ≡ job_text y → x ≡ y
reads_one x y hx hy wx wy e =
    let behind = append_cancel_left (codes "JOB READ ") (place_of x) (place_of y) (sym (text_reads x wx) ∙ e ∙ text_reads y wy) in
    let place = place_one x.area y.area x.width y.width x.at_byte y.at_byte [] [] hx.area hy.area hx.width hy.width hx.at_byte hy.at_byte (ap (λ (t : List ℕ). t ++ 32 ∷ []) behind) in
    same_job x y (wx ∙ sym wy) place.area place.at place.width (hx.read wx ∙ sym (hy.read wy))

one_by : (x y : jobs.Job) (a b : Bool) → x.write ≡ a → y.write ≡ b → IsJobForm x → IsJobForm y → job_text x ≡ job_text y → x ≡ y
one_by x y true true wx wy hx hy e = writes_one x y hx hy wx wy e
one_by x y false false wx wy hx hy e = reads_one x y hx hy wx wy e
one_by x y true false wx wy hx hy e = absurd (omega (arith, ap (λ (t : List ℕ). get_or t 4 0) (sym (text_writes x wx) ∙ e ∙ text_reads y wy)))
one_by x y false true wx wy hx hy e = absurd (omega (arith, ap (λ (t : List ℕ). get_or t 4 0) (sym (text_reads x wx) ∙ e ∙ text_writes y wy)))

-- a job in its ranges is determined by its text
pub job_one : (x y : jobs.Job) → IsJobForm x → IsJobForm y → job_text x ≡ job_text y → x ≡ y
job_one x y hx hy e = one_by x y x.write y.write refl refl hx hy e

free_job_by : (job : jobs.Job) (b : Bool) → job.write ≡ b → Free 10 (job_text job)
free_job_by job true is =
    subst (Free 10) (sym (text_writes job is))
    (free_append 10 (codes "JOB WRITE ") (place_of job ++ 32 ∷ hex job.width job.value) (free_by 10 (codes "JOB WRITE ") refl)
    (free_append 10 (place_of job) (32 ∷ hex job.width job.value) (place_free job.area job.width job.at_byte)
    (free_append 10 (32 ∷ []) (hex job.width job.value) (free_by 10 (32 ∷ []) refl) (hex_free 10 job.width job.value line_feed))))
free_job_by job false is =
    subst (Free 10) (sym (text_reads job is))
    (free_append 10 (codes "JOB READ ") (place_of job) (free_by 10 (codes "JOB READ ") refl) (place_free job.area job.width job.at_byte))

pub job_free : (job : jobs.Job) → Free 10 (job_text job)
job_free job = free_job_by job job.write refl

job_head_by : (job : jobs.Job) (b : Bool) → job.write ≡ b → get_or (job_text job) 0 0 + get_or (job_text job) 2 0 ≡ 140
job_head_by job true is = ap (λ (t : List ℕ). get_or t 0 0 + get_or t 2 0) (text_writes job is)
job_head_by job false is = ap (λ (t : List ℕ). get_or t 0 0 + get_or t 2 0) (text_reads job is)

-- how it begins
pub job_head : (job : jobs.Job) → get_or (job_text job) 0 0 + get_or (job_text job) 2 0 ≡ 140
job_head job = job_head_by job job.write refl
