-- The pages of areas, and of data blocks of which one was written.
use Rattle.std.proofs.Common.{◌≡◌, ℕ, zero, suc, ◌+◌, ◌-◌, ◌/◌, ◌<◌, ◌≤◌, Bool, List, [], ◌∷◌, length, take, drop, ◌++◌, Option, Some, None, length-take, refl, sym, ap, ◌∙◌, arith, inl, inr}
use Rattle.std.specs.Prelude.{slice_index, slice_index_or, slice_set}
use Rattle.std.proofs.lemmas.List.{length-take-le, length-drop, length-append, take-set-le, get_or-take, get_or_past, get_or-set_same, get_or-set_other, length-set}
use Rattle.std.proofs.Math.Seq.{take-set-lt}
use Rattle.std.proofs.lemmas.Bool.{cases_lt, cases_eq}
use Rattle.std.proofs.lemmas.List.Sums.{sum_by-set, sum_by_more, sum_by_more_le}
use Rattle.cpu_image.specs.declared.area.ByteArea.{ByteArea}
use Rattle.cpu_image.specs.declared.area.ByteArea.TheVariants.{I, Q, M, Db}
use Rattle.cpu_image.specs.Values.{overwritten}
use Rattle.cpu_image.specs.Image.{Image, bytes_in, area_bytes, with_bytes}
use Rattle.cpu_image.specs.Pages.{pages_of, data_pages, page_of, HasSizes, with_mark, written}

pub length_overwritten : (bytes : List ℕ) (from : ℕ) (piece : List ℕ) → from + length piece ≤ length bytes → length (overwritten bytes from piece) ≡ length bytes
length_overwritten bytes from piece h =
    let front = length-take-le from bytes (omega arith) in
    let back = length-drop (from + length piece) bytes in
    let first = length-append (take from bytes) piece in
    let all = length-append (take from bytes ++ piece) (drop (from + length piece) bytes) in
    omega arith

block_has : (o : Option (List ℕ)) (at : ℕ) → at < length (bytes_in o) → (at + 256) / 256 ≤ pages_of o
block_has None at h = absurd (omega arith)
block_has (Some bytes) at h = omega arith

pub pages_there : (o : Option (List ℕ)) → 0 < length (bytes_in o) → (length (bytes_in o) + 255) / 256 ≡ pages_of o
pages_there None h = absurd (omega arith)
pages_there (Some bytes) h = refl

block_there : (blocks : List (Option (List ℕ))) (n at : ℕ) → length blocks ≡ 256 → at < length (bytes_in (slice_index_or blocks n None)) → data_pages (take n blocks) + (at + 256) / 256 ≤ data_pages blocks
block_there blocks n at long h = elim (cases_lt n (length blocks)) [
  | inl lt ↦
      let b = block_has (slice_index_or blocks n None) at h in
      let s = sum_by_more_le pages_of blocks n None lt in
      omega arith
  | inr ge ↦
      let e = ap (λ o. length (bytes_in o)) (get_or_past blocks n None ge) in
      absurd (omega arith)
]

-- each byte of an area lies on a page that there is
pub page_is_there : (image : Image) (area : ByteArea) (at : ℕ) → HasSizes image → at < length (area_bytes image area) → page_of image area at < length image.marks
page_is_there image I at s h = let e = s.inputs in let m = s.marks in omega arith
page_is_there image Q at s h = let e = s.outputs in let m = s.marks in omega arith
page_is_there image M at s h = let e = s.bit_memory in let m = s.marks in omega arith
page_is_there image (Db n) at s h = let e = block_there image.data_blocks n at s.data_blocks h in let m = s.marks in omega arith

-- a data block that keeps its length keeps the pages of all
pub pages_set : (blocks : List (Option (List ℕ))) (m : ℕ) (y : Option (List ℕ)) → m < length blocks → pages_of y ≡ pages_of (slice_index_or blocks m None) → data_pages (slice_set blocks m y) ≡ data_pages blocks
pages_set blocks m y lt e = let s = sum_by-set pages_of blocks m y None lt in omega arith

pub pages_take_set : (blocks : List (Option (List ℕ))) (m n : ℕ) (y : Option (List ℕ)) → m < length blocks → pages_of y ≡ pages_of (slice_index_or blocks m None) → data_pages (take n (slice_set blocks m y)) ≡ data_pages (take n blocks)
pages_take_set blocks m n y lt e = elim (cases_lt m n) [
  | inl below ↦
      let count = length-take n blocks in
      ap data_pages (take-set-lt n blocks m y below)
      ∙ pages_set (take n blocks) m y (omega arith) (e ∙ ap pages_of (sym (get_or-take n blocks m None below)))
  | inr past ↦ ap data_pages (take-set-le n blocks m y past)
]

-- what is always true of the pages of an image, in which a data block was written that keeps its length
pub pages_kept : (blocks : List (Option (List ℕ))) (count : ℕ) (first : ℕ → ℕ) (m : ℕ) (old new : List ℕ) → m < length blocks → Some old ≡ slice_index_or blocks m None → length new ≡ length old
    → (length blocks ≡ 256) × (count ≡ 42 + data_pages blocks) × (count ≤ 298) × ((n : ℕ) → n < 256 → first n ≡ 41 + data_pages (take n blocks))
    → (length (slice_set blocks m (Some new)) ≡ 256) × (count ≡ 42 + data_pages (slice_set blocks m (Some new))) × (count ≤ 298) × ((n : ℕ) → n < 256 → first n ≡ 41 + data_pages (take n (slice_set blocks m (Some new))))
pages_kept blocks count first m old new lt is same h =
    let e : pages_of (Some new) ≡ pages_of (slice_index_or blocks m None) = ap (λ n. (n + 255) / 256) same ∙ ap pages_of is in
    let long = length-set blocks m (Some new) in
    let all = pages_set blocks m (Some new) lt e in
    let size = h.0 in
    let count = h.1 in
    (omega arith, omega arith, h.2, λ n below. h.3 n below ∙ ap (λ k. 41 + k) (sym (pages_take_set blocks m n (Some new) lt e)))

-- the page of the next data block is kept, and the page after it is known
pub pages_go_on : (blocks : List (Option (List ℕ))) (firsts : List ℕ) (number page count : ℕ) → number < length blocks → number < length firsts → count ≡ pages_of (slice_index_or blocks number None)
    → (page ≡ 41 + data_pages (take number blocks)) × ((n : ℕ) → n < number → slice_index firsts n ≡ 41 + data_pages (take n blocks))
    → (page + count ≡ 41 + data_pages (take (number + 1) blocks)) × ((n : ℕ) → n < number + 1 → slice_index (slice_set firsts number page) n ≡ 41 + data_pages (take n blocks))
pages_go_on blocks firsts number page count lt lt2 is h =
    let more = sum_by_more pages_of blocks number None lt in
    let so_far = h.0 in (
      omega arith,
      λ n below. elim (cases_eq n number) [
        | inl e ↦ ap (λ k. slice_index (slice_set firsts number page) k) e ∙ get_or-set_same firsts number page 0 lt2 ∙ h.0 ∙ ap (λ k. 41 + data_pages (take k blocks)) (sym e)
        | inr ne ↦ get_or-set_other firsts number n page 0 ne ∙ h.1 n (omega arith)
      ],
    )

-- the sum so far and the next data block are within the whole
pub pages_within : (blocks : List (Option (List ℕ))) (number : ℕ) → number < length blocks → data_pages (take number blocks) + pages_of (slice_index_or blocks number None) ≤ data_pages blocks
pages_within blocks number lt = sum_by_more_le pages_of blocks number None lt

-- one byte that is written anew
pub one_byte : (bytes : List ℕ) (at byte : ℕ) → at < length bytes → overwritten bytes at (byte ∷ []) ≡ slice_set bytes at byte
one_byte [] at byte lt = absurd (omega arith)
one_byte (b ∷ bs) zero byte lt = refl
one_byte (b ∷ bs) (suc at) byte lt =
    let next : suc at + 1 ≡ suc (at + 1) = omega arith in
    ap (λ k. take (suc at) (b ∷ bs) ++ byte ∷ [] ++ drop k (b ∷ bs)) next ∙ ap (λ l. b ∷ l) (one_byte bs at byte (omega arith))

-- a mark that is set twice
mark_again : (marks : List Bool) (page : ℕ) → with_mark (with_mark marks page) page ≡ with_mark marks page
mark_again [] page = refl
mark_again (mark ∷ marks) zero = refl
mark_again (mark ∷ marks) (suc page) = ap (λ l. mark ∷ l) (mark_again marks page)

pub byte_written : (image : Image) (area : ByteArea) (at byte : ℕ) → record (with_bytes image area (overwritten (area_bytes image area) at (byte ∷ []))) { marks = with_mark image.marks (page_of image area at) } ≡ written area at (byte ∷ []) image
byte_written image area at byte =
    let made : List Bool → Image = λ marks. record (with_bytes image area (overwritten (area_bytes image area) at (byte ∷ []))) { marks = marks } in
    let same : at + 1 - 1 ≡ at = omega arith in
    sym (ap made (ap (λ k. with_mark (with_mark image.marks (page_of image area at)) (page_of image area k)) same ∙ mark_again image.marks (page_of image area at)))
