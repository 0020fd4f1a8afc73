-- What contracts see of an image: the bytes of each area, and the marks of its pages.
use Rattle.std.specs.Prelude.{◌≡◌, ℕ, ◌+◌, ◌<◌, Bool, List, [], Option, Some, None, IsSomeAnd, length, slice_index, slice_index_or, slice_range, slice_set}
use Rattle.cpu_image.specs.declared.area.ByteArea.{ByteArea}
use Rattle.cpu_image.specs.declared.area.ByteArea.TheVariants.{I, Q, M, Db}
use Rattle.cpu_image.specs.Values.{value_of, bit_in}

-- the bytes of the areas; those of the data blocks by their numbers, None where no data block has the number; and for each page
-- whether it is marked
pub record Image : Type 0 where
  pub inputs : List ℕ
  pub outputs : List ℕ
  pub bit_memory : List ℕ
  pub data_blocks : List (Option (List ℕ))
  pub marks : List Bool

-- the bytes of an area, if it is there: a data block may be missing
abbrev pub bytes_of : Image → ByteArea → Option (List ℕ)
bytes_of image I = Some image.inputs
bytes_of image Q = Some image.outputs
bytes_of image M = Some image.bit_memory
bytes_of image (Db number) = slice_index_or image.data_blocks number None

-- the image with other bytes in an area
abbrev pub with_bytes : Image → ByteArea → List ℕ → Image
with_bytes image I bytes = record image { inputs = bytes }
with_bytes image Q bytes = record image { outputs = bytes }
with_bytes image M bytes = record image { bit_memory = bytes }
with_bytes image (Db number) bytes = record image { data_blocks = slice_set image.data_blocks number (Some bytes) }

-- the area is a data block that isn't there
abbrev pub IsMissing : Image → ByteArea → Type 0
IsMissing image area = bytes_of image area ≡ None

-- the area is there, and ends before this place
abbrev pub EndsBefore : Image → ByteArea → ℕ → Type 0
EndsBefore image area place = IsSomeAnd (bytes_of image area) (λ bytes. length bytes < place)

abbrev pub bytes_in : Option (List ℕ) → List ℕ
bytes_in None = []
bytes_in (Some bytes) = bytes

-- the bytes of an area; none where it is missing
abbrev pub area_bytes : Image → ByteArea → List ℕ
area_bytes image area = bytes_in (bytes_of image area)

-- the value of some bytes of an area
abbrev pub value_at : Image → ByteArea → ℕ → ℕ → ℕ
value_at image area at width = value_of (slice_range (area_bytes image area) at (at + width))

-- a bit of a byte of an area
abbrev pub bit_at : Image → ByteArea → ℕ → ℕ → Bool
bit_at image area at bit = bit_in (slice_index (area_bytes image area) at) bit
