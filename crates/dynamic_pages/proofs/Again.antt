-- What was written is read again.
use Rattle.std.proofs.Common.{◌≡◌, ℕ, ◌^◌, ◌<◌, ◌≤◌, ◌+◌, Bool, true, false, List, [], ◌∷◌, get_or, refl, sym, ap, ◌∙◌, eqb, arith, lit<, cond, Option, Some, None, slice_get, length, zero, suc}
use Rattle.std.specs.Option.{option_map}
use Rattle.std.proofs.lemmas.Option.{none-some}
use Rattle.std.specs.Int.{w16, w32, w64, from_be_bytes}
use Rattle.std.proofs.lemmas.Nat.{from_be_bytes-to_be_bytes_2, from_be_bytes-to_be_bytes_4, from_be_bytes-to_be_bytes_8}
use Rattle.s7_events.specs.declared.diagnostics.DiagCode.{DiagCode}
use Rattle.s7_events.specs.declared.diagnostics.DiagCode.TheVariants.{Start, LostFailed, LostSuspect, Back, Error, Cycle, Ob85, Discrep, Stop}
use Rattle.diag_buffer.specs.declared.note.Note.{Note}
use Rattle.dynamic_pages.specs.Notes as notes
use Rattle.dynamic_pages.specs.declared.registers.CycleRegisters.{CycleRegisters}
use Rattle.dynamic_pages.specs.Registers as registers

-- the bytes at a place
abbrev pub two : List ℕ → ℕ → List ℕ
two b n = get_or b n 0 ∷ get_or b (n + 1) 0 ∷ []

abbrev pub four : List ℕ → ℕ → List ℕ
four b n = get_or b n 0 ∷ get_or b (n + 1) 0 ∷ get_or b (n + 2) 0 ∷ get_or b (n + 3) 0 ∷ []

abbrev pub eight : List ℕ → ℕ → List ℕ
eight b n =
    get_or b n 0 ∷ get_or b (n + 1) 0 ∷ get_or b (n + 2) 0 ∷ get_or b (n + 3) 0 ∷ get_or b (n + 4) 0 ∷ get_or b (n + 5) 0 ∷ get_or b (n + 6) 0
    ∷ get_or b (n + 7) 0 ∷ []

-- diagnostic entries

small : (code : DiagCode) → notes.code_number code < 2 ^ 16
small Start = lit< tt
small (LostFailed side) = lit< tt
small (LostSuspect side) = lit< tt
small (Back side) = lit< tt
small (Error error) = lit< tt
small Cycle = lit< tt
small (Ob85 ob) = lit< tt
small (Discrep addr) = lit< tt
small (Stop code) = lit< tt

limited : (code : DiagCode) → notes.detail_limit code ≤ 2 ^ 16
limited Start = omega arith
limited (LostFailed side) = omega arith
limited (LostSuspect side) = omega arith
limited (Back side) = omega arith
limited (Error error) = omega arith
limited Cycle = omega arith
limited (Ob85 ob) = omega arith
limited (Discrep addr) = omega arith
limited (Stop code) = omega arith

moment_written : (note : Note) → notes.IsStored note → from_be_bytes w64 (eight (notes.bytes_of note) 0) ≡ note.moment
unfolding notes.bytes_of
moment_written note fits = from_be_bytes-to_be_bytes_8 note.moment fits.moment

code_written : (note : Note) → from_be_bytes w16 (two (notes.bytes_of note) 8) ≡ notes.code_number note.code
unfolding notes.bytes_of
code_written note = from_be_bytes-to_be_bytes_2 (notes.code_number note.code) (small note.code)

detail_written : (note : Note) → notes.IsStored note → from_be_bytes w32 (four (notes.bytes_of note) 10) ≡ notes.detail_number note.code
unfolding notes.bytes_of
detail_written note fits = from_be_bytes-to_be_bytes_4 (notes.detail_number note.code) (omega (arith, fits.detail, limited note.code))

pub moment_read : (b : List ℕ) (note : Note) (m : ℕ) → m ≡ from_be_bytes w64 (eight b 0) → b ≡ notes.bytes_of note → notes.IsStored note → m ≡ note.moment
moment_read b note m is e fits = is ∙ ap (λ (z : List ℕ). from_be_bytes w64 (eight z 0)) e ∙ moment_written note fits

pub code_read : (b : List ℕ) (note : Note) (n : ℕ) → n ≡ from_be_bytes w16 (two b 8) → b ≡ notes.bytes_of note → n ≡ notes.code_number note.code
code_read b note n is e = is ∙ ap (λ (z : List ℕ). from_be_bytes w16 (two z 8)) e ∙ code_written note

pub detail_read : (b : List ℕ) (note : Note) (n : ℕ) → n ≡ from_be_bytes w32 (four b 10) → b ≡ notes.bytes_of note → notes.IsStored note → n ≡ notes.detail_number note.code
detail_read b note n is e fits = is ∙ ap (λ (z : List ℕ). from_be_bytes w32 (four z 10)) e ∙ detail_written note fits

-- registers

over_written : (b : Bool) → eqb (cond b 1 0) 1 ≡ b
over_written true = refl
over_written false = refl

same : {a a' b b' c c' d d' f f' : ℕ} {e e' : Bool} → a ≡ a' → b ≡ b' → c ≡ c' → d ≡ d' → e ≡ e' → f ≡ f'
    → ◌≡◌ {A = CycleRegisters}
    (record { at = a; since = b; began_at = c; last_length = d; first_over = e; notes = f })
    (record { at = a'; since = b'; began_at = c'; last_length = d'; first_over = e'; notes = f' })
same ea eb ec ed ee ef = cc

abbrev pub read : List ℕ → CycleRegisters
read b = record {
  at = from_be_bytes w64 (eight b 0);
  since = from_be_bytes w32 (four b 8);
  began_at = from_be_bytes w64 (eight b 12);
  last_length = from_be_bytes w16 (two b 20);
  first_over = eqb (get_or b 22 0) 1;
  notes = get_or b 23 0;
}

written : (r : CycleRegisters) → registers.IsStored r → read (registers.bytes_of r) ≡ r
unfolding registers.fields_of
written r fits =
    same (from_be_bytes-to_be_bytes_8 r.at fits.at) (from_be_bytes-to_be_bytes_4 r.since fits.since)
    (from_be_bytes-to_be_bytes_8 r.began_at fits.began_at) (from_be_bytes-to_be_bytes_2 r.last_length fits.last_length)
    (over_written r.first_over) refl

pub registers_read : (b : List ℕ) (made r : CycleRegisters) → made ≡ read b → registers.IsStored r → b ≡ registers.bytes_of r → made ≡ r
registers_read b made r is fits e = is ∙ ap read e ∙ written r fits

-- units

some_same : {U : Type 0} (x y : U) → Some x ≡ Some y → x ≡ y
some_same x y e = cc

pub told : {U : Type 0} (f : Note → U) (g : Option Note) (u : U) → option_map f g ≡ Some u → (n : Note) × (g ≡ Some n) × (f n ≡ u)
told f None u e = absurd (none-some u e)
told f (Some n) u e = (n, refl, some_same (f n) u e)

pub untold : {U : Type 0} (f : Note → U) (g : Option Note) → option_map f g ≡ None → g ≡ None
untold f None e = refl
untold f (Some n) e = absurd (none-some (f n) (sym e))

pub same_note : (n : Note) (m : ℕ) (code : DiagCode) → m ≡ n.moment → code ≡ n.code → ◌≡◌ {A = Note} (record { moment = m; code = code }) n
same_note n m code em ec =
    let made : ℕ → DiagCode → Note = λ k c. record { moment = k; code = c } in
    ap (λ (k : ℕ). made k code) em ∙ ap (λ (c : DiagCode). made n.moment c) ec

pub past_end : (all : List Note) (i : ℕ) → slice_get all i ≡ None → length all ≤ i
past_end [] i e = omega arith
past_end (n ∷ all) zero e = absurd (none-some n (sym e))
past_end (n ∷ all) (suc i) e = omega (arith, past_end all i e)
