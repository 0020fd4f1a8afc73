-- Writing keeps the number of bytes.
use Rattle.std.proofs.Common.{◌≡◌, ◌==◌, ◌+◌, ◌-◌, ◌*◌, ◌/◌, ◌%◌, ℕ, zero, suc, List, [], ◌∷◌, refl, arith, ◌∙◌, Bool, true, false, length, replicate, length-set, set, slice_index, if◌then◌else◌}
use Rattle.std.proofs.lemmas.List.{length-replicate}
use Rattle.stl_decl.specs.declared.layout.FirstValue.{FirstValue}
use Rattle.stl_decl.specs.Layout.{Section, size_of}
use Rattle.stl_decl.specs.Bytes.{with_bit, put_bit, put_bytes, put, fill_elements, written, first_bytes}

length-put_bytes : (at n value : ℕ) (bytes : List ℕ) → length (put_bytes at n value bytes) ≡ length bytes
length-put_bytes at zero value bytes = refl
length-put_bytes at (suc n) value bytes = length-put_bytes at n (value / 256) (set bytes (at + n) (value % 256)) ∙ length-set bytes (at + n) (value % 256)

length-put : (bit bits value : ℕ) (bytes : List ℕ) → length (put bit bits value bytes) ≡ length bytes
unfolding put
length-put bit bits value bytes = by (bits == 1)
  where
    by : (b : Bool) → length (if b then put_bit bit value bytes else put_bytes (bit / 8) (bits / 8) value bytes) ≡ length bytes
    by true = length-set bytes (bit / 8) (with_bit (slice_index bytes (bit / 8)) (bit % 8) value)
    by false = length-put_bytes (bit / 8) (bits / 8) value bytes

length-fill_elements : (n bit bits value : ℕ) (bytes : List ℕ) → length (fill_elements n bit bits value bytes) ≡ length bytes
unfolding fill_elements
length-fill_elements zero bit bits value bytes = refl
length-fill_elements (suc n) bit bits value bytes = length-fill_elements n (bit + bits) bits value (put bit bits value bytes) ∙ length-put bit bits value bytes

length-written : (vs : List FirstValue) (bytes : List ℕ) → length (written vs bytes) ≡ length bytes
unfolding written
length-written [] bytes = refl
length-written (v ∷ vs) bytes = length-written vs (fill_elements v.count v.first_bit v.bits v.value bytes) ∙ length-fill_elements v.count v.first_bit v.bits v.value bytes

-- a section has as many first bytes as its size
pub length-first_bytes : (s : Section) → length (first_bytes s) ≡ size_of s
length-first_bytes s = length-written s.values (replicate (size_of s) 0) ∙ length-replicate (size_of s) 0

-- the size of a section is even
pub size_even : (s : Section) → size_of s % 2 ≡ 0
size_even s = even ((s.end + 16 - 1) / 16)
  where
    even : (n : ℕ) → n * 16 / 8 % 2 ≡ 0
    even n = omega arith
