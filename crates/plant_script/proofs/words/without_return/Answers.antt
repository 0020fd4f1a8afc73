use Rattle.std.proofs.Common.{◌≡◌, length, sym, arith}
use Rattle.std.proofs.lemmas.Bool.Decides.{nat_tests}
use Rattle.plant_script.proofs.Texts.{return_stands, return_lacks, no_return}
use Rattle.plant_script.proofs.words.without_return.Goals as goal

pub returns-then-is_empty : goal.returns-then-is_empty
returns-then-is_empty c = let none : length c.args.line.now ≡ 0 = grind (arith, nat_tests) in sym (no_return c.args.line.now none)

pub returns-then-line-ne13 : goal.returns-then-line-ne13
returns-then-line-ne13 c = sym (return_lacks c.args.line.now c.if-line-ne13.true)

pub returns : goal.returns
returns c = sym (return_stands c.args.line.now c.if-line-ne13.false)
