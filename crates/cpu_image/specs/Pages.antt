-- The pages of 256 bytes on which the areas lie, and what a write does.
use Rattle.std.specs.Prelude.{◌≡◌, ℕ, ◌+◌, ◌-◌, ◌/◌, ◌≤◌, nat_lt, if◌then◌else◌, Bool, true, false, List, [], ◌∷◌, Option, Some, None, length, take, sum_by, slice_index, slice_index_or, slice_set}
use Rattle.std.specs.Int.{bytes_high_first}
use Rattle.cpu_image.specs.declared.area.ByteArea.{ByteArea}
use Rattle.cpu_image.specs.declared.area.ByteArea.TheVariants.{I, Q, M, Db}
use Rattle.cpu_image.specs.Values.{with_bit, overwritten}
use Rattle.cpu_image.specs.Image.{Image, with_bytes, area_bytes}

-- where areas lie --

-- a data block takes whole pages
abbrev pub pages_of : Option (List ℕ) → ℕ
pages_of None = 0
pages_of (Some bytes) = (length bytes + 255) / 256

-- the pages of data blocks
abbrev pub data_pages : List (Option (List ℕ)) → ℕ
data_pages blocks = sum_by pages_of blocks

-- all pages: 41, those of the data blocks, and that of the registers
abbrev pub page_count : Image → ℕ
page_count image = 42 + data_pages image.data_blocks

-- Inputs and outputs lie on page 0, bit memory on the pages 1 to 4, timers on 5 to 28, counters on 29 to 32, the
-- diagnostic entries on 33 to 40; then the data blocks follow by number, and the registers have the last page.
abbrev pub first_page : Image → ByteArea → ℕ
first_page image I = 0
first_page image Q = 0
first_page image M = 1
first_page image (Db number) = 41 + data_pages (take number image.data_blocks)

-- the place in its first page at which an area begins: that of the outputs follows the 64 bytes of the inputs
abbrev pub offset : ByteArea → ℕ
offset Q = 64
offset _ = 0

-- the page of a byte of an area
abbrev pub page_of : Image → ByteArea → ℕ → ℕ
page_of image area at = first_page image area + (offset area + at) / 256

-- the areas have their sizes, there is a place for each number of a data block, and a mark for each page
pub record HasSizes (image : Image) : Type 0 where
  pub inputs : length image.inputs ≡ 64
  pub outputs : length image.outputs ≡ 64
  pub bit_memory : length image.bit_memory ≡ 1024
  pub data_blocks : length image.data_blocks ≡ 256
  pub marks : length image.marks ≡ page_count image
  pub few_pages : length image.marks ≤ 298

-- marks --

abbrev pub is_marked : Image → ℕ → Bool
is_marked image page = slice_index_or image.marks page false

abbrev pub with_mark : List Bool → ℕ → List Bool
with_mark marks page = slice_set marks page true

-- writes --

-- another input image is put in place, and its page is marked
abbrev pub with_inputs : Image → List ℕ → Image
with_inputs image bytes = record image { inputs = bytes; marks = with_mark image.marks 0 }

-- A piece of an area's bytes is written anew, and the pages of its first and its last byte are marked. A piece of a few bytes lies
-- on no others.
abbrev pub written : ByteArea → ℕ → List ℕ → Image → Image
written area at piece image =
    record (with_bytes image area (overwritten (area_bytes image area) at piece)) {
      marks = with_mark (with_mark image.marks (page_of image area at)) (page_of image area (at + length piece - 1));
    }

-- a value is written, the highest byte first
abbrev pub value_written : ByteArea → ℕ → ℕ → ℕ → Image → Image
value_written area at width value image = written area at (bytes_high_first width value) image

-- of a value at an address, the highest byte first, those bytes are written into the output image that lie in its 64
abbrev pub outputs_written : ℕ → ℕ → ℕ → Image → Image
outputs_written at width value image =
    if nat_lt at 64 then written Q at (take (64 - at) (bytes_high_first width value)) image else image

-- a bit is written
abbrev pub bit_written : ByteArea → ℕ → ℕ → Bool → Image → Image
bit_written area at bit value image =
    written area at (with_bit (slice_index (area_bytes image area) at) bit value ∷ []) image
