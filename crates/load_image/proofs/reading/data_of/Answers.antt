use Rattle.std.proofs.Common.{ℕ, take, drop, ap, ◌∙◌, arith}
use Rattle.load_image.specs.Reading.{data_in}
use Rattle.load_image.proofs.Steps.{data_go_on, data_done}
use Rattle.load_image.proofs.reading.data_of.Goals as goal

pub loop-preserved : goal.loop-preserved
loop-preserved c = (
  data_go_on c.loop.data_blocks.items c.push_data.new.data_blocks.items c.args.count c.loop.counter c.loop.rest.now c.loop.left.now c.split.result.0.now c.split.result.1.now c.split_at.result.1.now (data_in c.args.count c.args.directory.now c.args.bodies.now)
      c.loop-test.true
      (c.split.ensures.first ∙ ap (λ (n : ℕ). take n c.loop.left.now) c.body_length.ensures)
      (c.split.ensures.rest ∙ ap (λ (n : ℕ). drop n c.loop.left.now) c.body_length.ensures)
      c.in_ok-push_data.ensures c.split_at.ensures.back c.loop.invariant.0,
  omega (arith, c.loop.invariant.1, c.loop-test.true, c.split_at.ensures.back_len),
)

pub returns : goal.returns
returns c = data_done c.loop.data_blocks.items c.args.count c.loop.counter c.loop.rest.now c.loop.left.now (data_in c.args.count c.args.directory.now c.args.bodies.now) c.loop-test.false c.loop.invariant.0
