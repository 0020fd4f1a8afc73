-- What was written is read, and the rest is kept.
use Rattle.std.proofs.Common.{◌≡◌, ◌≢◌, ◌⊎◌, inl, inr, ℕ, zero, suc, ◌+◌, ◌-◌, ◌*◌, ◌^◌, ◌/◌, ◌<◌, ◌≤◌, Bool, true, false, List, [], ◌∷◌, ◌++◌, length, take, drop, Option, Some, None, refl, sym, ap, ◌∙◌, subst, arith, zero-add}
use Rattle.std.specs.Prelude.{slice_range, slice_get, slice_set, slice_index, slice_index_or, IsTrue, bit_or, bit_and, ◌==◌}
use Rattle.std.specs.Int.{bytes_high_first, bit_at, w8}
use Rattle.std.proofs.Math.Pow.{pow-lt}
use Rattle.std.proofs.lemmas.Nat.Bits.{bit_at_or, bit_at_and, bit_at_not, bit_at-pow_same, bit_at-pow_other}
use Rattle.std.proofs.lemmas.Bool.{cases_lt, cases_eq}
use Rattle.std.proofs.lemmas.List.{get_or-set_same, get_or-set_other, get_or_past, length-take-le, take_at, drop_at, append_assoc, length-set, get_or-append_right}
use Rattle.std.proofs.lemmas.Nat.{from_be_bytes-to_be_bytes_2, from_be_bytes-to_be_bytes_4}
use Rattle.cpu_image.specs.declared.area.ByteArea.{ByteArea}
use Rattle.cpu_image.specs.declared.area.ByteArea.TheVariants.{I, Q, M, Db}
use Rattle.cpu_image.specs.Values.{IsWidth, value_of, bit_in, with_bit, overwritten}
use Rattle.cpu_image.specs.Image.{Image, bytes_of, bytes_in, area_bytes, with_bytes}
use Rattle.cpu_image.specs.Pages.{pages_of, page_of, first_page, offset, written, bit_written}
use Rattle.cpu_image.proofs.Pages.{length_overwritten, pages_there, pages_set, pages_take_set}
use Rattle.cpu_image.specs.Laws.{WrittenIsRead, WrittenBitIsRead, OthersAreKept, WritesMark, PagesStay, HasByteOn, AreIn}

-- areas --

block_kept : (blocks : List (Option (List ℕ))) (n m : ℕ) (bytes : List ℕ) → Db n ≢ Db m → slice_index_or (slice_set blocks m (Some bytes)) n None ≡ slice_index_or blocks n None
block_kept blocks n m bytes ne = get_or-set_other blocks m n (Some bytes) None (λ e. ne (ap Db e))

-- another area has the bytes that it had
kept_elsewhere : (image : Image) (area other : ByteArea) (bytes : List ℕ) → other ≢ area → bytes_of (with_bytes image area bytes) other ≡ bytes_of image other
kept_elsewhere image area other bytes ne = grind (arith, block_kept image.data_blocks)

-- a data block that has bytes is one of the list
block_is : (blocks : List (Option (List ℕ))) (n : ℕ) → 0 < length (bytes_in (slice_index_or blocks n None)) → n < length blocks
block_is blocks n some = elim (cases_lt n (length blocks)) [
  | inl lt ↦ lt
  | inr past ↦ (let e = ap (λ o. length (bytes_in o)) (get_or_past blocks n None past) in absurd (omega arith))
]

block_here : (blocks : List (Option (List ℕ))) (n : ℕ) (bytes : List ℕ) → 0 < length (bytes_in (slice_index_or blocks n None)) → bytes_in (slice_index_or (slice_set blocks n (Some bytes)) n None) ≡ bytes
block_here blocks n bytes some = ap bytes_in (get_or-set_same blocks n (Some bytes) None (block_is blocks n some))

-- the area has the bytes that were put into it
kept_here : (image : Image) (area : ByteArea) (bytes : List ℕ) → 0 < length (area_bytes image area) → area_bytes (with_bytes image area bytes) area ≡ bytes
kept_here image I bytes some = refl
kept_here image Q bytes some = refl
kept_here image M bytes some = refl
kept_here image (Db n) bytes some = block_here image.data_blocks n bytes some

-- values --

value_back : (width value : ℕ) → IsWidth width → value < 2 ^ (8 * width) → value_of (bytes_high_first width value) ≡ value
value_back width value (inl e) fits = subst (λ w. value < 2 ^ (8 * w) → value_of (bytes_high_first w value) ≡ value) (sym e) (λ h. omega arith) fits
value_back width value (inr (inl e)) fits = subst (λ w. value < 2 ^ (8 * w) → value_of (bytes_high_first w value) ≡ value) (sym e) (λ h. (let b = from_be_bytes-to_be_bytes_2 value h in omega arith)) fits
value_back width value (inr (inr e)) fits = subst (λ w. value < 2 ^ (8 * w) → value_of (bytes_high_first w value) ≡ value) (sym e) (λ h. (let b = from_be_bytes-to_be_bytes_4 value h in omega arith)) fits

length-value : (width value : ℕ) → length (bytes_high_first width value) ≡ width
length-value zero value = refl
length-value (suc width) value = ap suc (length-value width value)

piece_here : (bytes piece : List ℕ) (at n : ℕ) → length piece ≡ n → at + n ≤ length bytes → slice_range (overwritten bytes at piece) at (at + n) ≡ piece
piece_here bytes piece at n e h =
    let rest : List ℕ = drop (at + length piece) bytes in
    let begin = drop_at (take at bytes) (piece ++ rest) at (length-take-le at bytes (omega arith)) in
    let long : at + n - at ≡ n = omega arith in
    ap (λ k. take k (drop at (overwritten bytes at piece))) long
    ∙ ap (λ l. take n (drop at l)) (append_assoc (take at bytes) piece rest)
    ∙ ap (λ l. take n l) begin
    ∙ take_at piece rest n e

pub written_is_read : WrittenIsRead
written_is_read image area at width value w fits there =
    let piece = bytes_high_first width value in
    let some : 0 < length (area_bytes image area) = elim w [ inl e ↦ omega arith | inr f ↦ elim f [ inl e ↦ omega arith | inr e ↦ omega arith ] ] in
    ap (λ l. value_of (slice_range l at (at + width))) (kept_here image area (overwritten (area_bytes image area) at piece) some)
    ∙ ap value_of (piece_here (area_bytes image area) piece at width (length-value width value) there)
    ∙ value_back width value w fits

-- bits --

low : (byte bit : ℕ) → bit_at byte bit ≤ 1
low byte bit = omega arith

small : (bit : ℕ) → bit < 8 → 2 ^ bit < 2 ^ 8
small bit lt = pow-lt lt

one_bit : (byte bit : ℕ) (value : Bool) → bit < 8 → bit_in (with_bit byte bit value) bit ≡ value
one_bit byte bit true lt =
    let or = bit_at_or byte (2 ^ bit) bit in
    let one = bit_at-pow_same bit in
    let old = low byte bit in
    let is : bit_at (bit_or byte (2 ^ bit)) bit ≡ 1 = omega arith in
    ap (λ n. n == 1) is
one_bit byte bit false lt =
    let and = bit_at_and byte (255 - 2 ^ bit) bit in
    let one = bit_at-pow_same bit in
    let not = bit_at_not w8 (2 ^ bit) bit (small bit lt) lt in
    let is : bit_at (bit_and byte (255 - 2 ^ bit)) bit ≡ 0 = omega arith in
    ap (λ n. n == 1) is

other_bit : (byte bit other : ℕ) (value : Bool) → bit < 8 → other < 8 → other ≢ bit → bit_in (with_bit byte bit value) other ≡ bit_in byte other
other_bit byte bit other true lt lt2 ne =
    let or = bit_at_or byte (2 ^ bit) other in
    let none = bit_at-pow_other bit other ne in
    let is : bit_at (bit_or byte (2 ^ bit)) other ≡ bit_at byte other = omega arith in
    ap (λ n. n == 1) is
other_bit byte bit other false lt lt2 ne =
    let and = bit_at_and byte (255 - 2 ^ bit) other in
    let none = bit_at-pow_other bit other ne in
    let not = bit_at_not w8 (2 ^ bit) other (small bit lt) lt2 in
    let old = low byte other in
    let is : bit_at (bit_and byte (255 - 2 ^ bit)) other ≡ bit_at byte other = omega arith in
    ap (λ n. n == 1) is

byte_here : (bytes : List ℕ) (at byte : ℕ) → at < length bytes → slice_index (overwritten bytes at (byte ∷ [])) at ≡ byte
byte_here bytes at byte lt =
    let rest : List ℕ = drop (at + 1) bytes in
    let place : at - at ≡ 0 = omega arith in
    ap (λ l. slice_index l at) (append_assoc (take at bytes) (byte ∷ []) rest)
    ∙ get_or-append_right (take at bytes) (byte ∷ rest) at at 0 (length-take-le at bytes (omega arith)) (omega arith)
    ∙ ap (λ k. slice_index (byte ∷ rest) k) place

pub written_bit_is_read : WrittenBitIsRead
written_bit_is_read image area at bit value lt there =
    let old = slice_index (area_bytes image area) at in
    let byte = with_bit old bit value in
    let is : slice_index (area_bytes (bit_written area at bit value image) area) at ≡ byte =
    ap (λ l. slice_index l at) (kept_here image area (overwritten (area_bytes image area) at (byte ∷ [])) (omega arith))
    ∙ byte_here (area_bytes image area) at byte (omega arith) in
    record {
      read = ap (λ b. bit_in b bit) is ∙ one_bit old bit value lt;
      others = λ other lt2 ne. ap (λ b. bit_in b other) is ∙ other_bit old bit other value lt lt2 ne;
    }

-- bytes before and after a piece --

after_piece : (bytes piece : List ℕ) (place : ℕ) → length piece ≤ length bytes → length piece ≤ place → slice_get (piece ++ drop (length piece) bytes) place ≡ slice_get bytes place
after_piece bytes [] place h l = refl
after_piece [] (p ∷ ps) place h l = absurd (omega arith)
after_piece (b ∷ bs) (p ∷ ps) zero h l = absurd (omega arith)
after_piece (b ∷ bs) (p ∷ ps) (suc place) h l = after_piece bs ps place (omega arith) (omega arith)

outside : (bytes piece : List ℕ) (at place : ℕ) → at + length piece ≤ length bytes → (place < at) ⊎ (at + length piece ≤ place) → slice_get (overwritten bytes at piece) place ≡ slice_get bytes place
outside bytes piece zero place h (inl lt) = absurd (omega arith)
outside bytes piece zero place h (inr le) =
    ap (λ k. slice_get (piece ++ drop k bytes) place) (zero-add (length piece)) ∙ after_piece bytes piece place (omega arith) (omega arith)
outside [] piece (suc at) place h apart = absurd (omega arith)
outside (b ∷ bs) piece (suc at) zero h apart = refl
outside (b ∷ bs) piece (suc at) (suc place) h apart =
    let next : suc at + length piece ≡ suc (at + length piece) = omega arith in
    let apart' : (place < at) ⊎ (at + length piece ≤ place) = elim apart [ inl lt ↦ inl (omega arith) | inr le ↦ inr (omega arith) ] in
    ap (λ k. slice_get (take at bs ++ piece ++ drop k (b ∷ bs)) place) next ∙ outside bs piece at place (omega arith) apart'

pub others_are_kept : OthersAreKept
others_are_kept image area other at place piece some there (inl ne) =
    ap (λ o. slice_get (bytes_in o) place) (kept_elsewhere image area other (overwritten (area_bytes image area) at piece) ne)
others_are_kept image area other at place piece some there (inr same) =
    let new = written area at piece image in
    ap (λ a. slice_get (area_bytes new a) place) same.0
    ∙ ap (λ l. slice_get l place) (kept_here image area (overwritten (area_bytes image area) at piece) (omega arith))
    ∙ outside (area_bytes image area) piece at place there same.1
    ∙ ap (λ a. slice_get (area_bytes image a) place) (sym same.0)

-- marks --

mark_other : (marks : List Bool) (f page : ℕ) → IsTrue (slice_index_or marks page false) → page < length marks → IsTrue (slice_index_or (slice_set marks f true) page false)
mark_other marks f page is lt = elim (cases_eq page f) [
  | inl e ↦ ap (λ k. slice_index_or (slice_set marks f true) k false) e ∙ get_or-set_same marks f true false (omega arith)
  | inr ne ↦ get_or-set_other marks f page true false ne ∙ is
]

mark_here : (marks : List Bool) (f page : ℕ) → page ≡ f → page < length marks → IsTrue (slice_index_or (slice_set marks f true) page false)
mark_here marks f page e lt = ap (λ k. slice_index_or (slice_set marks f true) k false) e ∙ get_or-set_same marks f true false (omega arith)

marked_from : (marks : List Bool) (f page : ℕ) → IsTrue (slice_index_or (slice_set marks f true) page false) → IsTrue (slice_index_or marks page false) ⊎ (page ≡ f)
marked_from marks f page is = elim (cases_eq page f) [
  | inl e ↦ inr e
  | inr ne ↦ inl (sym (get_or-set_other marks f page true false ne) ∙ is)
]

-- the page of a byte of a few is that of the first or that of the last
on_first_or_last : (image : Image) (area : ByteArea) (at width page : ℕ) → 0 < width → width ≤ 4 → HasByteOn image area at width page → (page ≡ page_of image area at) ⊎ (page ≡ page_of image area (at + width - 1))
on_first_or_last image area at width page some few on = elim (cases_eq page (page_of image area at)) [
  | inl e ↦ inl e
  | inr ne ↦ (let from = on.1 in let below = on.2 in let e = on.3 in inr (omega arith))
]

pub writes_mark : WritesMark
writes_mark image area at page piece some few lt =
    let first = page_of image area at in
    let last = page_of image area (at + length piece - 1) in
    let marks = slice_set image.marks first true in
    let there : page < length marks = subst (λ n. page < n) (sym (length-set image.marks first true)) lt in (
      λ is. elim (marked_from marks last page is) [
        | inl m ↦ elim (marked_from image.marks first page m) [
          | inl old ↦ inl old
          | inr e ↦ inr (at, omega arith, omega arith, e)
        ]
        | inr e ↦ inr (at + length piece - 1, omega arith, omega arith, e)
      ],
      λ h. elim h [
        | inl old ↦ mark_other marks last page (mark_other image.marks first page old lt) there
        | inr on ↦ elim (on_first_or_last image area at (length piece) page some few on) [
          | inl e ↦ mark_other marks last page (mark_here image.marks first page e lt) there
          | inr e ↦ mark_here marks last page e there
        ]
      ],
    )

-- pages --

block_pages : (blocks : List (Option (List ℕ))) (n at : ℕ) (piece : List ℕ) → 0 < length piece → at + length piece ≤ length (bytes_in (slice_index_or blocks n None))
    → pages_of (Some (overwritten (bytes_in (slice_index_or blocks n None)) at piece)) ≡ pages_of (slice_index_or blocks n None)
block_pages blocks n at piece some there =
    ap (λ k. (k + 255) / 256) (length_overwritten (bytes_in (slice_index_or blocks n None)) at piece there) ∙ pages_there (slice_index_or blocks n None) (omega arith)

first_page_stays : (image : Image) (n at : ℕ) (piece : List ℕ) (other : ByteArea) → n < length image.data_blocks → 0 < length piece → AreIn image (Db n) at (length piece) → first_page (written (Db n) at piece image) other ≡ first_page image other
first_page_stays image n at piece I lt some there = refl
first_page_stays image n at piece Q lt some there = refl
first_page_stays image n at piece M lt some there = refl
first_page_stays image n at piece (Db m) lt some there =
    ap (λ k. 41 + k) (pages_take_set image.data_blocks n m _ lt (block_pages image.data_blocks n at piece some there))

pub pages_stay : PagesStay
pages_stay image I other at place piece some there = refl
pages_stay image Q other at place piece some there = refl
pages_stay image M other at place piece some there = refl
pages_stay image (Db n) other at place piece some there =
    ap (λ k. k + (offset other + place) / 256) (first_page_stays image n at piece other (block_is image.data_blocks n (omega arith)) some there)
