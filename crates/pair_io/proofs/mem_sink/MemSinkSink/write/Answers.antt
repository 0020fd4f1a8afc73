use Rattle.std.proofs.Common.{rules, arith, refl, inl, inr}
use Rattle.pair_io.proofs.mem_sink.MemSinkSink.write.Goals as goal
use Rattle.pair_io.proofs.mem_sink.MemSinkSink.write.Goals.{then-is_chosen, else-is_chosen, then-is_chosen-2-via-then-is_chosen-2, then-is_chosen-2-via-else-is_chosen-2+then-taken-piece}

pub returns-then-is_chosen-2-clause-refused : goal.returns-then-is_chosen-2-clause-refused
returns-then-is_chosen-2-clause-refused c = (
  λ _. elim c.then-is_chosen-2.branch [
    | then-is_chosen-2-via-then-is_chosen-2 w ↦ inl (search rules)
    | then-is_chosen-2-via-else-is_chosen-2+then-taken-piece w ↦ elim c.if-is_chosen.branch [
      | then-is_chosen v ↦ inl (search rules)
      | else-is_chosen v ↦ inr (omega arith)
    ]
  ],
  λ _. refl,
)
