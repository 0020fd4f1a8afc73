use Rattle.std.proofs.Common.{◌+◌, sym}
use Rattle.std.proofs.lemmas.List.{take_rest}
use Rattle.ft_connection.proofs.LineLaws.{first_line, last_line}
use Rattle.ft_connection.proofs.words.split_line.Goals as goal

pub returns-in-Some-clause-exact : goal.returns-in-Some-clause-exact
returns-in-Some-clause-exact c =
    rw (c.without_carriage_return.ensures, take_rest c.args.text.now (c.in-Some.at + 1)) (first_line c.args.text.now c.in-Some.at (sym c.in-Some.ensures))

pub returns-in-None-clause-exact : goal.returns-in-None-clause-exact
returns-in-None-clause-exact c = last_line c.args.text.now c.requires (sym c.in-None.ensures)
