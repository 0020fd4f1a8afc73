use Rattle.std.proofs.Common.{ℕ, List, ◌*◌, take, drop, ap, ◌∙◌, arith, length-drop}
use Rattle.load_image.proofs.Whole.{no_header, no_directory, candidates}
use Rattle.load_image.proofs.reading.candidate.Goals as goal

pub returns-then-bytes-lt16 : goal.returns-then-bytes-lt16
returns-then-bytes-lt16 c = λ p image. absurd (no_header p c.args.bytes.now c.if-bytes-lt16.true image)

pub returns-then-after-count : goal.returns-then-after-count
returns-then-after-count c = λ p image.
    absurd (no_directory p c.args.bytes.now c.u16_at-count.result c.u16_at-count.ensures (omega (arith, c.if-after-count.true, c.split_at.ensures.back_len, length-drop 16 c.args.bytes.now)) image)

pub returns : goal.returns
returns c =
    candidates c.blocks_of.result c.args.bytes.now c.u16_at-count.result c.split_at-2.result.0.now c.split_at-2.result.1.now c.u16_at-count.ensures
    (c.split_at-2.ensures.front ∙ ap (λ (x : List ℕ). take (16 * c.u16_at-count.result) x) c.split_at.ensures.back)
    (c.split_at-2.ensures.back ∙ ap (λ (x : List ℕ). drop (16 * c.u16_at-count.result) x) c.split_at.ensures.back)
    c.blocks_of.ensures
