use Rattle.std.proofs.lemmas.Result.{IfOk-weaker}
use Rattle.block_loader.specs.Sound.{IsSoundFront, IsSoundBlock}
use Rattle.block_loader.proofs.Numbers.{front_sound}
use Rattle.block_loader.proofs.blocks.block_from.Goals as goal

pub returns-clause-sound : goal.returns-clause-sound
returns-clause-sound c =
    let front : IsSoundFront c.in_ok-front.front = front_sound _ c.args.text.now _ (c.in_ok-front.front, c.in_ok-front.rest.now) c.in_ok-front.ensures in
    IfOk-weaker c.block_by.result (λ x. IsSoundFront c.in_ok-front.front → IsSoundBlock x.0) (λ x. IsSoundBlock x.0) (λ x h. h front) c.block_by.ensures.sound
