use Rattle.stl_lex.proofs.Covering.{spans}
use Rattle.stl_lex.proofs.Firsts.{judges}
use Rattle.stl_lex.proofs.lexer.tokens.Goals as goal

pub returns-clause-spans : goal.returns-clause-spans
returns-clause-spans c = spans c.args.text.now c.read.result c.read.ensures.exact

pub returns-clause-first : goal.returns-clause-first
returns-clause-first c = judges c.args.text.now c.read.result c.read.ensures.exact
