use Rattle.plant_script.proofs.Sound.{timed_digits}
use Rattle.plant_script.proofs.first_pass.add_line.Goals as goal

pub returns-else-is_err-2-clause-digits : goal.returns-else-is_err-2-clause-digits
returns-else-is_err-2-clause-digits c = timed_digits c.args.line c.in-At.what c.args.time.now c.in-At.is c.requires.timed
