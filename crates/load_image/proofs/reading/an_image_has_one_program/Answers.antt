use Rattle.load_image.proofs.Whole.{same_program}
use Rattle.load_image.proofs.reading.an_image_has_one_program.Goals as goal

pub returns : goal.returns
returns c = same_program
