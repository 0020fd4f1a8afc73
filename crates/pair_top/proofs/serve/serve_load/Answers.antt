-- A file that was refused.
use Rattle.std.proofs.Common.{refl}
use Rattle.pair_top.specs.Serving.{account_of}
use Rattle.pair_top.proofs.OneFile.{load_refused, load_steady, load_is_file, load_is_due}
use Rattle.pair_top.proofs.serve.serve_load.Goals as goal

pub returns-in-Err-clause-served : goal.returns-in-Err-clause-served
returns-in-Err-clause-served g c =
    let account = account_of c.refused.result.entries.entries c.refused.result.shown.list c.refused.result.ended in
    rw (c.refused.ensures.fault, c.source_fault.ensures)
    (load_refused _ _ account c.in-Err.error c.in-Err.ensures.refused
    (record { unplayed = record { entries = c.refused.ensures.entries; shown = c.refused.ensures.shown; ended = c.refused.ensures.ended }; bytes = refl; faults = refl }))

pub returns-in-Err-clause-steady : goal.returns-in-Err-clause-steady
returns-in-Err-clause-steady g c = rw (c.refused.ensures.fault, c.source_fault.ensures) (load_steady _ c.in-Err.error (c.in-Err.ensures.steady c.args.source.now))

pub returns-in-Err-clause-words : goal.returns-in-Err-clause-words
returns-in-Err-clause-words g c = λ h. load_is_file c.in-Err.error (let same = c.source_fault.ensures in let told = c.refused.ensures.fault in cc)

pub returns-in-Err-clause-due : goal.returns-in-Err-clause-due
returns-in-Err-clause-due g c = rw (c.refused.ensures.fault, c.source_fault.ensures) (load_is_due _ _ c.in-Err.error c.in-Err.ensures.refused)
