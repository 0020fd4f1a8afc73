-- The text of each fault.
use Rattle.pair_top.proofs.fault_text.push_fault.Goals as goal

pub returns-in-SourceFault-clause-text : goal.returns-in-SourceFault-clause-text
returns-in-SourceFault-clause-text c = rw c.in-SourceFault.is c.push_numbered.ensures.text

pub returns-in-ScriptFault-clause-text : goal.returns-in-ScriptFault-clause-text
returns-in-ScriptFault-clause-text c = rw c.in-ScriptFault.is c.push_numbered-in-ScriptFault.ensures.text

pub returns-in-SinkFault-clause-text : goal.returns-in-SinkFault-clause-text
returns-in-SinkFault-clause-text c = rw c.in-SinkFault.is c.push_text-in-SinkFault.ensures.text
