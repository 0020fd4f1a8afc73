use Rattle.std.proofs.Common.{arith, rules, Fits, w64}
use Rattle.stl_decl.proofs.Writes.{fill_more, fill_done}
use Rattle.stl_decl.proofs.bytes.fill_elements.Goals as goal

pub loop-element-preserved : goal.loop-element-preserved
loop-element-preserved c = record {
  here = rw c.put.ensures (fill_more c.args.value.count c.loop-element._element c.loop-element.bit c.args.value.bits c.args.value.value c.loop-element.bytes _ c.loop-element.invariant.here (omega arith));
  bit = let f : Fits w64 c.args.value.bits = search rules in omega (arith, f, c.loop-element.invariant.bit);
}

pub returns : goal.returns
returns c = fill_done c.args.value.count c.loop-element._element c.loop-element.bit c.args.value.bits c.args.value.value c.loop-element.bytes _ c.loop-element.invariant.here (omega arith)
