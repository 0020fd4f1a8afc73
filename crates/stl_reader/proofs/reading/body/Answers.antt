use Rattle.stl_reader.specs.Contents.{contents_of}
use Rattle.stl_reader.proofs.Sound.{parts_sound}
use Rattle.stl_reader.proofs.reading.body.Goals as goal

pub returns-clause-sound : goal.returns-clause-sound
returns-clause-sound c =
    rw c.new.ensures (parts_sound c.args.text.now c.args.kind c.args.temps.now _ (contents_of c.in_ok-lists.lists, c.in_ok-lists.rest.now) c.in_ok-lists.ensures.exact)
