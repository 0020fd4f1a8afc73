use Rattle.std.proofs.Common.{ℕ, List, drop, ap, ◌∙◌}
use Rattle.load_image.specs.Reading.{first_statement}
use Rattle.load_image.proofs.Fields.{statement_there}
use Rattle.load_image.proofs.reading.statement_at.Goals as goal

pub returns-clause-there : goal.returns-clause-there
returns-clause-there c = λ s fits e.
    c.first_statement_of.ensures ∙ ap (λ (x : List ℕ). first_statement x) c.split_at.ensures.back ∙ statement_there s (drop c.args.at_byte c.args.bytes.now) fits e
