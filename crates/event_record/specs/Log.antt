-- What contracts see of a record.
use Rattle.std.specs.Prelude.{ℕ, List}
use Rattle.s7_events.specs.declared.entry.Entry.{Entry}

-- the entries of a record, and the number of entries for which there is room
pub record Log : Type 0 where
  pub entries : List Entry
  pub room : ℕ
