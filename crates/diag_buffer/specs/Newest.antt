-- What is kept of the diagnostic entries.
use Rattle.std.specs.Prelude.{◌-◌, List, length, drop}
use Rattle.diag_buffer.specs.declared.note.Note.{Note}

-- the newest 120 of a list of entries, which has the oldest first
abbrev pub newest : List Note → List Note
newest notes = drop (length notes - 120) notes
