use Rattle.std.proofs.Common.{rules}
use Rattle.std.proofs.lemmas.Bool.Decides.{Decides-eqb}
use Rattle.std.proofs.lemmas.Slice.Eq.{strip_prefix_is}
use Rattle.trace_reader.proofs.Fronts.{after_is}
use Rattle.trace_reader.proofs.fields.after.Goals as goal

pub returns-clause-exact : goal.returns-clause-exact
returns-clause-exact c =
    after_is c.args.word.now c.args.text.now c.strip_prefix.result (strip_prefix_is Decides-eqb c.args.text.now c.args.word.now c.strip_prefix.result c.strip_prefix.ensures.cases)

pub returns-clause-written : goal.returns-clause-written
returns-clause-written c =
    let m = strip_prefix_is Decides-eqb c.args.text.now c.args.word.now c.strip_prefix.result c.strip_prefix.ensures.cases in
    search (rules, m)
