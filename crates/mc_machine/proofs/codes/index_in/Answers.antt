-- The block is found at its index, and behind the list there is none.
use Rattle.std.proofs.Common.{◌≡◌, true}
use Rattle.mc_machine.proofs.Stored.{named, item_at, named_at, named_behind}
use Rattle.mc_machine.proofs.codes.index_in.Goals as goal

pub returns-then-is_named : goal.returns-then-is_named
returns-then-is_named c =
    let block = c.args.block in
    let code = c.index-codes-index.result in
    let is : named code block.kind block.number ≡ true = cc in
    named_at c.args.codes.now c.loop-index.index code block.kind block.number (item_at c.args.codes.now c.loop-index.index code c.loop-index-test.true c.index-codes-index.is) is c.loop-index.invariant

pub returns : goal.returns
returns c = named_behind c.args.codes.now c.loop-index.index c.args.block.kind c.args.block.number c.loop-index-test.false c.loop-index.invariant
