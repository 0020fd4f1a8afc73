use Rattle.std.proofs.Common.{◌≤◌, ◌<◌, ◌+◌, length, rules}
use Rattle.std.proofs.lemmas.Result.{err_from_is_err_and}
use Rattle.std.proofs.lemmas.List.Elements.{All-push}
use Rattle.stl_decl.specs.Steps.{end_fault}
use Rattle.stl_decl.specs.Faults.{told}
use Rattle.block_loader.specs.Blocks.{blocks_turn, blocks_of, block_from, items_of}
use Rattle.block_loader.specs.Sound.{IsSoundBlock}
use Rattle.stl_decl.proofs.Repeat.{ends, goes_on, fails, runs_out}
use Rattle.block_loader.proofs.Repeat.{fails_with}
use Rattle.block_loader.proofs.Reading.{blocks_ends, blocks_goes, blocks_fails}
use Rattle.block_loader.proofs.blocks.blocks_of.Goals as goal

pub loop-turn-init : goal.loop-turn-init
unfolding blocks_of
loop-turn-init c = record {
  here = search rules;
  at = search rules;
  sound = search rules;
}

pub returns-then-at-as_slice-clause-exact : goal.returns-then-at-as_slice-clause-exact
returns-then-at-as_slice-clause-exact c =
    let h : length c.args.tokens.now ≤ c.loop-turn.at = rw c.as_slice-in-loop-turn.ensures at c.if-at-as_slice.true in
    let e = blocks_ends c.args.text.now c.args.tokens.now (c.loop-turn.blocks.items, c.loop-turn.at) h in
    ends (told (end_fault c.args.text.now)) (blocks_turn c.args.text.now c.args.tokens.now) (c.loop-turn.blocks.items, c.loop-turn.at) (blocks_of c.args.text.now c.args.tokens.now) (length c.args.tokens.now + 1) c.loop-turn._turn c.loop-turn.invariant.here (let l = c.loop-turn-test.true in rw c.as_slice.ensures at l) _ e

pub returns-in_err-block-clause-exact : goal.returns-in_err-block-clause-exact
returns-in_err-block-clause-exact c =
    let p = err_from_is_err_and c.from_residual.result c.from_residual.ensures.1 in
    let h : c.loop-turn.at < length c.args.tokens.now = rw c.as_slice-in-loop-turn.ensures at c.if-at-as_slice.false in
    rw (p.1, p.2) (fails_with items_of (blocks_of c.args.text.now c.args.tokens.now) (block_from c.args.text.now c.args.tokens.now c.loop-turn.at) c.in_err-block.field-0.0 c.in_err-block.ensures.exact
    (λ f is. fails (told (end_fault c.args.text.now)) (blocks_turn c.args.text.now c.args.tokens.now) (c.loop-turn.blocks.items, c.loop-turn.at) (blocks_of c.args.text.now c.args.tokens.now) (length c.args.tokens.now + 1) c.loop-turn._turn c.loop-turn.invariant.here (rw c.as_slice.ensures at c.loop-turn-test.true) f
    (blocks_fails c.args.text.now c.args.tokens.now (c.loop-turn.blocks.items, c.loop-turn.at) h f is)))

pub loop-turn-preserved : goal.loop-turn-preserved
loop-turn-preserved c =
    let h : c.loop-turn.at < length c.args.tokens.now = rw c.as_slice-in-loop-turn.ensures at c.if-at-as_slice.false in
    let e = blocks_goes c.args.text.now c.args.tokens.now (c.loop-turn.blocks.items, c.loop-turn.at) h (c.in_ok-block.block, c.in_ok-block.next) c.in_ok-block.ensures.exact in
    record {
      here = rw c.in_ok-push.ensures.items (goes_on (told (end_fault c.args.text.now)) (blocks_turn c.args.text.now c.args.tokens.now) (c.loop-turn.blocks.items, c.loop-turn.at) (blocks_of c.args.text.now c.args.tokens.now) (length c.args.tokens.now + 1) c.loop-turn._turn c.loop-turn.invariant.here (rw c.as_slice.ensures at c.loop-turn-test.true) _ e);
      at = c.in_ok-block.ensures.within;
      sound = rw c.in_ok-push.ensures.items (All-push IsSoundBlock c.loop-turn.blocks.items c.in_ok-block.block c.loop-turn.invariant.sound c.in_ok-block.ensures.sound);
    }

pub returns-clause-exact : goal.returns-clause-exact
returns-clause-exact c = rw (c.told.ensures, c.end_fault.ensures) (runs_out (told (end_fault c.args.text.now)) (blocks_turn c.args.text.now c.args.tokens.now) (c.loop-turn.blocks.items, c.loop-turn.at) (blocks_of c.args.text.now c.args.tokens.now) (length c.args.tokens.now + 1) c.loop-turn._turn c.loop-turn.invariant.here (rw c.as_slice.ensures at c.loop-turn-test.false))
