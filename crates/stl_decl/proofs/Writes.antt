-- One more write of a loop.
use Rattle.std.proofs.Common.{◌≡◌, ◌≤◌, ◌<◌, ℕ, suc, List, [], ◌-◌, ◌+◌, ◌/◌, ◌%◌, subst, arith, sym, length, drop, get_or, add-one}
use Rattle.std.specs.Prelude.{slice_set}
use Rattle.std.proofs.Math.Seq.{drop-cons}
use Rattle.std.proofs.Math.ListN.{drop_of_length-le}
use Rattle.stl_decl.specs.declared.layout.FirstValue.{FirstValue}
use Rattle.stl_decl.specs.Bytes.{put, put_bytes, fill_elements, written}
use Rattle.stl_decl.proofs.Repeat.{one_left, none_left}

pub put_more : (at n k value : ℕ) (bytes all : List ℕ) → k < n → put_bytes at (n - k) value bytes ≡ all → put_bytes at (n - (k + 1)) (value / 256) (slice_set bytes (at + (n - 1 - k)) (value % 256)) ≡ all
put_more at n k value bytes all h here =
    let e : n - 1 - k ≡ n - (k + 1) = omega arith in
    let f : put_bytes at (suc (n - (k + 1))) value bytes ≡ all = subst (λ m. put_bytes at m value bytes ≡ all) (one_left n k h) here in
    subst (λ m. put_bytes at (n - (k + 1)) (value / 256) (slice_set bytes (at + m) (value % 256)) ≡ all) (sym e) f

module _ (n k bit bits value : ℕ) (bytes all : List ℕ) (here : fill_elements (n - k) bit bits value bytes ≡ all) where
  pub fill_more : k < n → fill_elements (n - (k + 1)) (bit + bits) bits value (put bit bits value bytes) ≡ all
  unfolding fill_elements
  fill_more h = subst (λ m. fill_elements m bit bits value bytes ≡ all) (one_left n k h) here

  pub fill_done : n ≤ k → bytes ≡ all
  unfolding fill_elements
  fill_done h = subst (λ m. fill_elements m bit bits value bytes ≡ all) (none_left n k h) here

module _ (values : List FirstValue) (i : ℕ) (bytes all : List ℕ) (here : written (drop i values) bytes ≡ all) where
  pub written_more : i < length values → (d : FirstValue) → written (drop (i + 1) values) (fill_elements (get_or values i d).count (get_or values i d).first_bit (get_or values i d).bits (get_or values i d).value bytes) ≡ all
  unfolding written
  written_more h d = rw add-one (subst (λ vs. written vs bytes ≡ all) (drop-cons values i d h) here)

  pub written_done : length values ≤ i → bytes ≡ all
  unfolding written
  written_done h = let none : drop i values ≡ [] = drop_of_length-le values h in subst (λ vs. written vs bytes ≡ all) none here
