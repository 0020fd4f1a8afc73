-- What was written into local bytes is read there.
use Rattle.std.proofs.Common.{◌≡◌, ℕ, ◌+◌, ◌-◌, ◌*◌, ◌^◌, ◌<◌, ◌≤◌, List, ◌++◌, length, take, drop, inl, inr, sym, ap, ◌∙◌, subst, arith}
use Rattle.std.specs.Prelude.{slice_range}
use Rattle.std.specs.Int.{bytes_high_first}
use Rattle.std.proofs.lemmas.List.{length-take-le, take_at, drop_at, append_assoc}
use Rattle.std.proofs.lemmas.Nat.{from_be_bytes-to_be_bytes_2, from_be_bytes-to_be_bytes_4}
use Rattle.level_stack.specs.Values.{IsWidth, value_of, overwritten}
use Rattle.level_stack.specs.Levels.{FrameState, LevelState, with_last, top_locals, locals_in, frames_of, running_frames, running_locals, written}
use Rattle.level_stack.proofs.Last.{split_last, last_of-append, with_last-append}
use Rattle.level_stack.proofs.Frames.{length-bytes_high_first}
use Rattle.level_stack.proofs.Running.{block_runs, block_begun}

piece_read : (bytes : List ℕ) (at : ℕ) (piece : List ℕ) (n : ℕ) → length piece ≡ n → at + n ≤ length bytes → slice_range (overwritten bytes at piece) at (at + n) ≡ piece
piece_read bytes at piece n e h =
    let front = length-take-le at bytes (omega arith) in
    let tail : List ℕ = drop (at + length piece) bytes in
    let width : at + n - at ≡ n = omega arith in
    ap (λ l. take (at + n - at) (drop at l)) (append_assoc (take at bytes) piece tail)
    ∙ ap (λ l. take (at + n - at) l) (drop_at (take at bytes) (piece ++ tail) at front)
    ∙ ap (λ i. take i (piece ++ tail)) width
    ∙ take_at piece tail n e

byte_value : (value : ℕ) → value < 2 ^ (8 * 1) → value_of (bytes_high_first 1 value) ≡ value
byte_value value h = omega arith

word_value : (value : ℕ) → value < 2 ^ (8 * 2) → value_of (bytes_high_first 2 value) ≡ value
word_value value h = let e = from_be_bytes-to_be_bytes_2 value h in omega arith

double_value : (value : ℕ) → value < 2 ^ (8 * 4) → value_of (bytes_high_first 4 value) ≡ value
double_value value h = let e = from_be_bytes-to_be_bytes_4 value h in omega arith

value_bytes : (width value : ℕ) → IsWidth width → value < 2 ^ (8 * width) → value_of (bytes_high_first width value) ≡ value
value_bytes width value (inl e) h =
    let P : ℕ → Type 0 = λ w. value < 2 ^ (8 * w) → value_of (bytes_high_first w value) ≡ value in
    subst P (sym e) (byte_value value) h
value_bytes width value (inr (inl e)) h =
    let P : ℕ → Type 0 = λ w. value < 2 ^ (8 * w) → value_of (bytes_high_first w value) ≡ value in
    subst P (sym e) (word_value value) h
value_bytes width value (inr (inr e)) h =
    let P : ℕ → Type 0 = λ w. value < 2 ^ (8 * w) → value_of (bytes_high_first w value) ≡ value in
    subst P (sym e) (double_value value) h

-- the local bytes of the block that runs, after a write
locals_written : (frames : List FrameState) (at : ℕ) (piece : List ℕ) → 0 < length frames → top_locals (with_last (λ frame. record frame { locals = overwritten frame.locals at piece }) frames) ≡ overwritten (top_locals frames) at piece
locals_written frames at piece n =
    let change : FrameState → FrameState = λ frame. record frame { locals = overwritten frame.locals at piece } in
    let r = split_last frames n in
    ap (λ l. top_locals (with_last change l)) r.2
    ∙ ap top_locals (with_last-append change r.0 r.1)
    ∙ ap locals_in (last_of-append r.0 (change r.1))
    ∙ ap (λ o. overwritten (locals_in o) at piece) (sym (last_of-append r.0 r.1))
    ∙ ap (λ l. overwritten (top_locals l) at piece) (sym r.2)

running_written : (levels : List LevelState) (at width value : ℕ) → 0 < length levels → 0 < length (running_frames levels) → running_locals (with_last (written at width value) levels) ≡ overwritten (running_locals levels) at (bytes_high_first width value)
running_written levels at width value n m =
    let change : LevelState → LevelState = written at width value in
    let piece : List ℕ = bytes_high_first width value in
    let r = split_last levels n in
    let top : running_frames levels ≡ r.1.frames = ap running_frames r.2 ∙ ap frames_of (last_of-append r.0 r.1) in
    let begun : 0 < length r.1.frames = let same = ap length top in omega arith in
    ap (λ l. running_locals (with_last change l)) r.2
    ∙ ap running_locals (with_last-append change r.0 r.1)
    ∙ ap (λ o. top_locals (frames_of o)) (last_of-append r.0 (change r.1))
    ∙ locals_written r.1.frames at piece begun
    ∙ ap (λ l. overwritten (top_locals l) at piece) (sym top)

pub written_reads : (levels : List LevelState) (at width value : ℕ) → IsWidth width → value < 2 ^ (8 * width) → at + width ≤ length (running_locals levels) → value_of (slice_range (running_locals (with_last (written at width value) levels)) at (at + width)) ≡ value
written_reads levels at width value w f h =
    let n = block_runs levels at width w h in
    let m = block_begun (running_frames levels) at width w h in
    ap (λ l. value_of (slice_range l at (at + width))) (running_written levels at width value n m)
    ∙ ap value_of (piece_read (running_locals levels) at (bytes_high_first width value) width (length-bytes_high_first width value) h)
    ∙ value_bytes width value w f
