-- The places of areas: those that are always there, and those that were found.
use Rattle.std.proofs.Common.{ℕ, ◌<◌, ◌≤◌, List, length, IsSomeAnd, Option, Some, None, ap, arith}
use Rattle.cpu_image.specs.declared.area.ByteArea.{ByteArea}
use Rattle.cpu_image.specs.declared.area.ByteArea.TheVariants.{I, Q, M, Db}
use Rattle.cpu_image.specs.Image.{Image, bytes_in, bytes_of, area_bytes, IsMissing, EndsBefore}
use Rattle.cpu_image.specs.Pages.{HasSizes}
use Rattle.statement_effects.specs.Areas.{size_of}

-- bytes that an area has in any case are there
pub always_there : (image : Image) (area : ByteArea) (end : ℕ) → HasSizes image → end ≤ size_of area → end ≤ length (area_bytes image area)
always_there image I end sizes h = let e = sizes.inputs in omega arith
always_there image Q end sizes h = let e = sizes.outputs in omega arith
always_there image M end sizes h = let e = sizes.bit_memory in omega arith
always_there image (Db number) end sizes h = omega arith

-- an area that has bytes isn't missing
pub not_missing : (image : Image) (area : ByteArea) (end : ℕ) → 0 < end → end ≤ length (area_bytes image area) → IsMissing image area → ⊥
not_missing image area end some there missing = let e = ap (λ o. length (bytes_in o)) missing in omega arith

ends : (o : Option (List ℕ)) (end : ℕ) → end ≤ length (bytes_in o) → IsSomeAnd o (λ bytes. length bytes < end) → ⊥
ends None end there before = before
ends (Some bytes) end there before = omega arith

-- nor does it end before them
pub not_past : (image : Image) (area : ByteArea) (end : ℕ) → end ≤ length (area_bytes image area) → EndsBefore image area end → ⊥
not_past image area end there before = ends (bytes_of image area) end there before
