use Rattle.std.proofs.Common.{◌≡◌, ◌≤◌, ◌-◌, ◌+◌, ◌*◌, ◌^◌}
use Rattle.stl_decl.specs.Bytes.{fill_elements}
use Rattle.stl_decl.proofs.bytes.fill_elements.Given as goal

abbrev pub invariant-loop-element : goal.invariant-loop-element
invariant-loop-element l = record {
  here : fill_elements (l.value.count - l._element) l.bit l.value.bits l.value.value l.bytes ≡ fill_elements l.value.count l.value.first_bit l.value.bits l.value.value l.initial.bytes;
  bit : l.bit ≤ (l._element + 1) * 2 ^ 64;
}
