use Rattle.std.proofs.Common.{◌^◌}
use Rattle.load_image.specs.Image.{code_body, code_entry, IsStoredCode}
use Rattle.load_image.proofs.Steps.{put_next, put_room}
use Rattle.load_image.proofs.writing.put_codes.Goals as goal

pub put_code-requires : goal.put_code-requires
put_code-requires c =
    put_room code_body c.args.first (2 ^ 32) c.args.bodies.now.items c.loop-code.bodies.items c.args.codes.now c.loop-code.code-index c.code-item.result c.loop-code-test.true c.code-item.is c.loop-code.invariant.bodies c.requires

pub loop-code-preserved : goal.loop-code-preserved
loop-code-preserved c =
    put_next code_body code_entry IsStoredCode c.args.first c.args.directory.now.items c.args.bodies.now.items c.loop-code.directory.items c.loop-code.bodies.items c.put_code.new.directory.items c.put_code.new.bodies.items c.args.codes.now c.loop-code.code-index c.code-item.result
    c.loop-code-test.true c.code-item.is c.in_ok-put_code.ensures.entry c.in_ok-put_code.ensures.body c.in_ok-put_code.ensures.fits c.loop-code.invariant
