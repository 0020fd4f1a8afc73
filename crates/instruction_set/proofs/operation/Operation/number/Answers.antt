use Rattle.instruction_set.proofs.Numbers.{check_stands, open_stands, write_stands, rlo_stands, edge_stands, master_control_stands, number_stands, from_bcd_stands, to_bcd_stands, start_timer_stands, block_stands, no_operation_stands, compare_stands, word_logic_stands}
use Rattle.instruction_set.proofs.operation.Operation.number.Goals as goal

pub returns-in-Check : goal.returns-in-Check
returns-in-Check c = rw c.in-Check.is (check_stands c.in-Check.how)

pub returns-in-Open : goal.returns-in-Open
returns-in-Open c = rw c.in-Open.is (open_stands c.in-Open.how)

pub returns-in-Write : goal.returns-in-Write
returns-in-Write c = rw c.in-Write.is (write_stands c.in-Write.op)

pub returns-in-Rlo : goal.returns-in-Rlo
returns-in-Rlo c = rw c.in-Rlo.is (rlo_stands c.in-Rlo.op)

pub returns-in-Edge : goal.returns-in-Edge
returns-in-Edge c = rw c.in-Edge.is (edge_stands c.in-Edge.edge)

pub returns-in-MasterControl : goal.returns-in-MasterControl
returns-in-MasterControl c = rw c.in-MasterControl.is (master_control_stands c.in-MasterControl.op)

pub returns-in-Number : goal.returns-in-Number
returns-in-Number c = rw c.in-Number.is (number_stands c.in-Number.op)

pub returns-in-FromBcd : goal.returns-in-FromBcd
returns-in-FromBcd c = rw c.in-FromBcd.is (from_bcd_stands c.in-FromBcd.size)

pub returns-in-ToBcd : goal.returns-in-ToBcd
returns-in-ToBcd c = rw c.in-ToBcd.is (to_bcd_stands c.in-ToBcd.size)

pub returns-in-StartTimer : goal.returns-in-StartTimer
returns-in-StartTimer c = rw c.in-StartTimer.is (start_timer_stands c.in-StartTimer.kind)

pub returns-in-Block : goal.returns-in-Block
returns-in-Block c = rw c.in-Block.is (block_stands c.in-Block.op)

pub returns-in-NoOperation : goal.returns-in-NoOperation
returns-in-NoOperation c = rw c.in-NoOperation.is (no_operation_stands c.in-NoOperation.op)

pub returns-in-Compare : goal.returns-in-Compare
returns-in-Compare c = rw c.in-Compare.is (compare_stands c.in-Compare.relation c.in-Compare.size)

pub returns-in-WordLogic : goal.returns-in-WordLogic
returns-in-WordLogic c = rw c.in-WordLogic.is (word_logic_stands c.in-WordLogic.op c.in-WordLogic.size)
