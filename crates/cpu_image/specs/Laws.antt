-- What reads and writes have to do with one another.
use Rattle.std.specs.Prelude.{◌≡◌, ◌≢◌, ◌⊎◌, ◌↔◌, ℕ, ◌+◌, ◌*◌, ◌^◌, ◌<◌, ◌≤◌, Bool, List, length, slice_get, IsTrue}
use Rattle.std.specs.Option.{option_map}
use Rattle.s7_base.specs.Blocks.{Data, Program, data_of}
use Rattle.cpu_image.specs.declared.area.ByteArea.{ByteArea}
use Rattle.cpu_image.specs.declared.area.ByteArea.TheVariants.{Db}
use Rattle.cpu_image.specs.Values.{IsWidth}
use Rattle.cpu_image.specs.Image.{Image, bytes_of, area_bytes, value_at, bit_at}
use Rattle.cpu_image.specs.Layout.{laid}
use Rattle.cpu_image.specs.Pages.{page_of, is_marked, written, value_written, bit_written}

-- At the start the data block of each number is the program's, with its first bytes.
abbrev pub BlocksBegin : Type 0
BlocksBegin =
    (program : Program) (number : ℕ) → number < 256
    → bytes_of (laid program) (Db number) ≡ option_map (λ (block : Data). block.bytes) (data_of program number)

-- the bytes from one place up to another lie in an area
abbrev pub AreIn : Image → ByteArea → ℕ → ℕ → Type 0
AreIn image area at width = at + width ≤ length (area_bytes image area)

-- A value that was written is read at its place.
abbrev pub WrittenIsRead : Type 0
WrittenIsRead =
    (image : Image) (area : ByteArea) (at width value : ℕ) → IsWidth width → value < 2 ^ (8 * width) → AreIn image area at width
    → value_at (value_written area at width value image) area at width ≡ value

-- A bit that was written is read at its place, and the other bits of its byte are as they were.
pub record BitIsWritten (image : Image) (area : ByteArea) (at bit : ℕ) (value : Bool) : Type 0 where
  pub read : bit_at (bit_written area at bit value image) area at bit ≡ value
  pub others : (other : ℕ) → other < 8 → other ≢ bit → bit_at (bit_written area at bit value image) area at other ≡ bit_at image area at other

abbrev pub WrittenBitIsRead : Type 0
WrittenBitIsRead =
    (image : Image) (area : ByteArea) (at bit : ℕ) (value : Bool) → bit < 8 → AreIn image area at 1 → BitIsWritten image area at bit value

-- a byte of another area, or of this one before or after some bytes
abbrev pub IsApart : ByteArea → ℕ → ℕ → ByteArea → ℕ → Type 0
IsApart area at width other place = (other ≢ area) ⊎ ((other ≡ area) × ((place < at) ⊎ (at + width ≤ place)))

-- All bytes but those of a piece that was written are as they were.
abbrev pub OthersAreKept : Type 0
OthersAreKept =
    (image : Image) (area other : ByteArea) (at place : ℕ) (piece : List ℕ) → 0 < length piece → AreIn image area at (length piece)
    → IsApart area at (length piece) other place
    → slice_get (area_bytes (written area at piece image) other) place ≡ slice_get (area_bytes image other) place

-- a byte from one place up to another lies on the page
abbrev pub HasByteOn : Image → ByteArea → ℕ → ℕ → ℕ → Type 0
HasByteOn image area at width page = (place : ℕ) × (at ≤ place) × (place < at + width) × (page ≡ page_of image area place)

-- After a few bytes were written those pages are marked that were, and those on which one of these bytes lies.
abbrev pub WritesMark : Type 0
WritesMark =
    (image : Image) (area : ByteArea) (at page : ℕ) (piece : List ℕ) → 0 < length piece → length piece ≤ 4 → page < length image.marks
    → IsTrue (is_marked (written area at piece image) page)
    ↔ (IsTrue (is_marked image page) ⊎ HasByteOn image area at (length piece) page)

-- A write moves no area to another page.
abbrev pub PagesStay : Type 0
PagesStay =
    (image : Image) (area other : ByteArea) (at place : ℕ) (piece : List ℕ) → 0 < length piece → AreIn image area at (length piece)
    → page_of (written area at piece image) other place ≡ page_of image other place
