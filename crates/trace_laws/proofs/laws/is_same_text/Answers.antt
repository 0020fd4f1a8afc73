-- Equal texts are those of one run.
use Rattle.std.proofs.Common.{rules, ◌∙◌, sym}
use Rattle.trace_laws.proofs.Whole.{text_determines}
use Rattle.trace_laws.proofs.laws.is_same_text.Goals as goal

pub returns-clause-equal : goal.returns-clause-equal
returns-clause-equal c = search rules

pub returns-clause-same : goal.returns-clause-same
returns-clause-same c = λ same program one two first second is_first is_second.
    text_determines program one two first second (is_first ∙ ((returns-clause-equal c).0 same ∙ sym is_second))
