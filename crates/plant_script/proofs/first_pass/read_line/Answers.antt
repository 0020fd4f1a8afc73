use Rattle.std.proofs.Common.{sym}
use Rattle.plant_script.specs.Numbers.{value_of}
use Rattle.plant_script.specs.Gives.{reading_of}
use Rattle.plant_script.proofs.Sound.{sound_by}
use Rattle.plant_script.proofs.first_pass.read_line.Goals as goal

pub returns-clause-sound : goal.returns-clause-sound
returns-clause-sound c =
    sound_by (λ next. reading_of c.add_line.new.reading (value_of next.now)) c.add_line.result (reading_of c.args.reading.now (value_of c.args.floor.now)) c.args.number c.in-Some.line c.time_word-time.result.now
    c.add_line.ensures.exact c.in-Some.ensures.form (sym c.in_default-line_fault.ensures.exact)
