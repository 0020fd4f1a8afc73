-- The local bytes of the blocks of a level.
use Rattle.std.proofs.Common.{◌≡◌, ℕ, zero, suc, ◌+◌, ◌-◌, ◌<◌, ◌≤◌, List, [], ◌∷◌, ◌++◌, length, take, drop, replicate, refl, sym, ap, ◌∙◌, get_or, arith, length-append, length-drop}
use Rattle.std.proofs.lemmas.List.{length-take-le, take-append-le, drop-append-le, take_all, take-append-drop, take-take, drop-take, drop-drop, length-replicate}
use Rattle.std.proofs.lemmas.List.Sums.{sum_by-cons, sum_by_push}
use Rattle.std.specs.Prelude.{sum_by}
use Rattle.std.specs.List.{refill}
use Rattle.std.specs.Int.{bytes_high_first}
use Rattle.s7_base.specs.declared.blocks.BlockRef.{BlockRef}
use Rattle.level_stack.specs.declared.level.Frame.{Frame}
use Rattle.level_stack.specs.Levels.{FrameState, local_count, without_last, with_last, top_locals, locals_in}
use Rattle.level_stack.specs.Values.{overwritten}
use Rattle.level_stack.specs.Inside.{frames_in}
use Rattle.level_stack.proofs.Last.{last_of-append, without_last-append, with_last-append, get_last, split_last, refill-same}

-- how many local bytes the blocks want
abbrev pub wants : List Frame → ℕ
wants frames = sum_by (λ frame. frame.temp) frames

pub length-frames_in : (fs : List Frame) (bytes : List ℕ) → length (frames_in fs bytes) ≡ length fs
length-frames_in [] bytes = refl
length-frames_in (f ∷ fs) bytes = ap suc (length-frames_in fs (drop f.temp bytes))

pub local_count-frames_in : (fs : List Frame) (bytes : List ℕ) → wants fs ≡ length bytes → local_count (frames_in fs bytes) ≡ length bytes
local_count-frames_in [] bytes e = e
local_count-frames_in (f ∷ fs) bytes e =
    let all = sum_by-cons (λ (frame : Frame). frame.temp) f fs in
    let here = length-take-le f.temp bytes (omega arith) in
    let there = length-drop f.temp bytes in
    let rest = local_count-frames_in fs (drop f.temp bytes) (omega arith) in
    let first : FrameState = record { block = f.block; locals = take f.temp bytes } in
    let sum = sum_by-cons (λ (frame : FrameState). length frame.locals) first (frames_in fs (drop f.temp bytes)) in
    omega arith

pub frames_in-append : (fs : List Frame) (f : Frame) (bytes more : List ℕ) → wants fs ≡ length bytes → frames_in (fs ++ f ∷ []) (bytes ++ more) ≡ frames_in fs bytes ++ record { block = f.block; locals = take f.temp more } ∷ []
frames_in-append [] f [] more e = refl
frames_in-append [] f (b ∷ bytes) more e =
    let no : ⊥ = omega arith in
    absurd no
frames_in-append (g ∷ fs) f bytes more e =
    let all = sum_by-cons (λ (frame : Frame). frame.temp) g fs in
    let le : g.temp ≤ length bytes = omega arith in
    let there = length-drop g.temp bytes in
    let rest : wants fs ≡ length (drop g.temp bytes) = omega arith in
    let first : List ℕ → FrameState = λ locals. record { block = g.block; locals = locals } in
    ap (λ l. first l ∷ frames_in (fs ++ f ∷ []) (drop g.temp (bytes ++ more))) (take-append-le g.temp bytes more le)
    ∙ ap (λ l. first (take g.temp bytes) ∷ frames_in (fs ++ f ∷ []) l) (drop-append-le g.temp bytes more le)
    ∙ ap (λ l. first (take g.temp bytes) ∷ l) (frames_in-append fs f (drop g.temp bytes) more rest)

-- a block that begins
pub entering : (fs : List Frame) (bytes : List ℕ) (block : BlockRef) (temp : ℕ) → wants fs ≡ length bytes → frames_in (fs ++ record { block = block; temp = temp } ∷ []) (bytes ++ replicate temp 0) ≡ frames_in fs bytes ++ record { block = block; locals = replicate temp 0 } ∷ []
entering fs bytes block temp e =
    let f : Frame = record { block = block; temp = temp } in
    let last : List ℕ → FrameState = λ locals. record { block = block; locals = locals } in
    frames_in-append fs f bytes (replicate temp 0) e
    ∙ ap (λ l. frames_in fs bytes ++ last l ∷ []) (take_all temp (replicate temp 0) (let n = length-replicate {A = ℕ} temp 0 in omega arith))

-- the last block has the last bytes
pub top : (fs : List Frame) (f : Frame) (bytes : List ℕ) → wants (fs ++ f ∷ []) ≡ length bytes → frames_in (fs ++ f ∷ []) bytes ≡ frames_in fs (take (length bytes - f.temp) bytes) ++ record { block = f.block; locals = drop (length bytes - f.temp) bytes } ∷ []
top fs f bytes e =
    let k : ℕ = length bytes - f.temp in
    let all = sum_by_push (λ (frame : Frame). frame.temp) fs f in
    let front = length-take-le k bytes (omega arith) in
    let back = length-drop k bytes in
    let last : List ℕ → FrameState = λ locals. record { block = f.block; locals = locals } in
    ap (λ l. frames_in (fs ++ f ∷ []) l) (sym (take-append-drop k bytes))
    ∙ frames_in-append fs f (take k bytes) (drop k bytes) (omega arith)
    ∙ ap (λ l. frames_in fs (take k bytes) ++ last l ∷ []) (take_all f.temp (drop k bytes) (omega arith))

-- the local bytes of the last block
pub top_locals-frames_in : (fs : List Frame) (f : Frame) (bytes : List ℕ) → wants (fs ++ f ∷ []) ≡ length bytes → top_locals (frames_in (fs ++ f ∷ []) bytes) ≡ drop (length bytes - f.temp) bytes
top_locals-frames_in fs f bytes e =
    let k : ℕ = length bytes - f.temp in
    let last : FrameState = record { block = f.block; locals = drop k bytes } in
    ap top_locals (top fs f bytes e) ∙ ap locals_in (last_of-append (frames_in fs (take k bytes)) last)

-- the last block ends
pub leaving : (fs : List Frame) (f : Frame) (bytes : List ℕ) → wants (fs ++ f ∷ []) ≡ length bytes → frames_in fs (take (length bytes - f.temp) bytes) ≡ without_last (frames_in (fs ++ f ∷ []) bytes)
leaving fs f bytes e =
    let k : ℕ = length bytes - f.temp in
    let last : FrameState = record { block = f.block; locals = drop k bytes } in
    sym (without_last-append (frames_in fs (take k bytes)) last) ∙ ap without_last (sym (top fs f bytes e))

-- the last block's bytes are written
pub writing : (change : FrameState → FrameState) (fs : List Frame) (f : Frame) (bytes after : List ℕ) → wants (fs ++ f ∷ []) ≡ length bytes → length after ≡ length bytes → take (length bytes - f.temp) after ≡ take (length bytes - f.temp) bytes → change (record { block = f.block; locals = drop (length bytes - f.temp) bytes }) ≡ record { block = f.block; locals = drop (length bytes - f.temp) after } → frames_in (fs ++ f ∷ []) after ≡ with_last change (frames_in (fs ++ f ∷ []) bytes)
writing change fs f bytes after e n front back =
    let k : ℕ = length bytes - f.temp in
    let old : FrameState = record { block = f.block; locals = drop k bytes } in
    let new : FrameState = record { block = f.block; locals = drop k after } in
    let same : length after - f.temp ≡ k = omega arith in
    let made : ℕ → List FrameState = λ i. frames_in fs (take i after) ++ record { block = f.block; locals = drop i after } ∷ [] in
    top fs f after (e ∙ sym n)
    ∙ ap made same
    ∙ ap (λ l. frames_in fs l ++ new ∷ []) front
    ∙ ap (λ w. frames_in fs (take k bytes) ++ w ∷ []) (sym back)
    ∙ sym (with_last-append change (frames_in fs (take k bytes)) old)
    ∙ ap (λ l. with_last change l) (sym (top fs f bytes e))

-- the last block of a list of blocks that have these bytes
record Top (fs : List Frame) (bytes : List ℕ) : Type 0 where
  before : List Frame
  frame : Frame
  split : fs ≡ before ++ frame ∷ []
  wanted : wants (before ++ frame ∷ []) ≡ length bytes
  locals : top_locals (frames_in fs bytes) ≡ drop (length bytes - frame.temp) bytes
  count : length (top_locals (frames_in fs bytes)) ≡ frame.temp
  within : frame.temp ≤ length bytes

top_at : (fs : List Frame) (bytes : List ℕ) → 0 < length fs → wants fs ≡ length bytes → Top fs bytes
top_at fs bytes n e =
    let r = split_last fs n in
    let wanted : wants (r.0 ++ r.1 ∷ []) ≡ length bytes = ap wants (sym r.2) ∙ e in
    let locals : top_locals (frames_in fs bytes) ≡ drop (length bytes - r.1.temp) bytes =
    ap (λ l. top_locals (frames_in l bytes)) r.2 ∙ top_locals-frames_in r.0 r.1 bytes wanted in
    let sum = sum_by_push (λ (frame : Frame). frame.temp) r.0 r.1 in
    let within : r.1.temp ≤ length bytes = omega arith in
    let rest = length-drop (length bytes - r.1.temp) bytes in
    let same = ap length locals in
    record {
      before = r.0;
      frame = r.1;
      split = r.2;
      wanted = wanted;
      locals = locals;
      count = omega arith;
      within = within;
    }

-- the local bytes of the last block are the last of all
pub top_end : (fs : List Frame) (bytes : List ℕ) (d : Frame) → 0 < length fs → wants fs ≡ length bytes → drop (length bytes - (get_or fs (length fs - 1) d).temp) bytes ≡ top_locals (frames_in fs bytes)
top_end fs bytes d n e =
    let t = top_at fs bytes n e in
    let last : get_or fs (length fs - 1) d ≡ t.frame =
    ap (λ l. get_or l (length l - 1) d) t.split ∙ get_last t.before t.frame d in
    ap (λ f. drop (length bytes - f.temp) bytes) last ∙ sym t.locals

pub top_within : (fs : List Frame) (bytes : List ℕ) → 0 < length fs → wants fs ≡ length bytes → length (top_locals (frames_in fs bytes)) ≤ length bytes
top_within fs bytes n e = let t = top_at fs bytes n e in let c = t.count in let w = t.within in omega arith

-- bytes that were written --

length-overwritten : (bytes : List ℕ) (from : ℕ) (piece : List ℕ) → from + length piece ≤ length bytes → length (overwritten bytes from piece) ≡ length bytes
length-overwritten bytes from piece h =
    let front = length-take-le from bytes (omega arith) in
    let back = length-drop (from + length piece) bytes in
    let first = length-append (take from bytes) piece in
    let all = length-append (take from bytes ++ piece) (drop (from + length piece) bytes) in
    omega arith

take-overwritten : (k at : ℕ) (bytes piece : List ℕ) → k + at ≤ length bytes → take k (overwritten bytes (k + at) piece) ≡ take k bytes
take-overwritten k at bytes piece h =
    let front = length-take-le (k + at) bytes h in
    let first = length-append (take (k + at) bytes) piece in
    take-append-le k (take (k + at) bytes ++ piece) (drop (k + at + length piece) bytes) (omega arith)
    ∙ take-append-le k (take (k + at) bytes) piece (omega arith)
    ∙ take-take k (k + at) bytes (omega arith)

drop-overwritten : (k at : ℕ) (bytes piece : List ℕ) → k + at ≤ length bytes → drop k (overwritten bytes (k + at) piece) ≡ overwritten (drop k bytes) at piece
drop-overwritten k at bytes piece h =
    let front = length-take-le (k + at) bytes h in
    let first = length-append (take (k + at) bytes) piece in
    let tail : List ℕ = drop (k + at + length piece) bytes in
    let place : k + at + length piece ≡ k + (at + length piece) = omega arith in
    drop-append-le k (take (k + at) bytes ++ piece) tail (omega arith)
    ∙ ap (λ l. l ++ tail) (drop-append-le k (take (k + at) bytes) piece (omega arith))
    ∙ ap (λ l. l ++ piece ++ tail) (drop-take k at bytes)
    ∙ ap (λ i. take at (drop k bytes) ++ piece ++ drop i bytes) place
    ∙ ap (λ l. take at (drop k bytes) ++ piece ++ l) (sym (drop-drop (at + length piece) k bytes))

-- a piece of the last block's bytes is written
pub written_top : (fs : List Frame) (bytes : List ℕ) (at : ℕ) (piece : List ℕ) → 0 < length fs → wants fs ≡ length bytes → at + length piece ≤ length (top_locals (frames_in fs bytes)) → frames_in fs (refill (length bytes) bytes (overwritten bytes (length bytes - length (top_locals (frames_in fs bytes)) + at) piece)) ≡ with_last (λ frame. record frame { locals = overwritten frame.locals at piece }) (frames_in fs bytes)
written_top fs bytes at piece n e h =
    let t = top_at fs bytes n e in
    let count = t.count in
    let within = t.within in
    let k : ℕ = length bytes - t.frame.temp in
    let after : List ℕ = overwritten bytes (k + at) piece in
    let change : FrameState → FrameState = λ frame. record frame { locals = overwritten frame.locals at piece } in
    let place : length bytes - length (top_locals (frames_in fs bytes)) + at ≡ k + at = omega arith in
    let fits : k + at + length piece ≤ length bytes = omega arith in
    let before : k + at ≤ length bytes = omega arith in
    let n2 = length-overwritten bytes (k + at) piece fits in
    let last : List ℕ → FrameState = λ l. record { block = t.frame.block; locals = l } in
    ap (λ i. frames_in fs (refill (length bytes) bytes (overwritten bytes i piece))) place
    ∙ ap (λ l. frames_in fs l) (refill-same bytes after n2)
    ∙ ap (λ l. frames_in l after) t.split
    ∙ writing change t.before t.frame bytes after t.wanted n2 (take-overwritten k at bytes piece before) (ap last (sym (drop-overwritten k at bytes piece before)))
    ∙ ap (λ l. with_last change (frames_in l bytes)) (sym t.split)

pub length-bytes_high_first : (k n : ℕ) → length (bytes_high_first k n) ≡ k
length-bytes_high_first zero n = refl
length-bytes_high_first (suc k) n = ap suc (length-bytes_high_first k n)
