-- What contracts see of a subsystem: its machine, which runs while a life is open, and its lives.
use Rattle.std.specs.Prelude.{◌≡◌, ◌+◌, List, [], ◌∷◌, ◌++◌, Option}
use Rattle.mc_machine.specs.Stands.{Running, IsIdle, IsRunning}
use Rattle.subsystem.specs.declared.parts.Life.{Life}
use Rattle.subsystem.specs.declared.parts.How.TheVariants.{Loaded}

-- a subsystem: its machine, and its lives in their order
pub record Part : Type 0 where
  pub machine : Option Running
  pub lives : List Life

-- as it was made: no life, and an idle machine
pub record IsNew (part : Part) : Type 0 where
  pub machine : IsIdle part.machine
  pub lives : part.lives ≡ []

-- a life is open: the machine runs
abbrev pub IsOpen : Part → Type 0
IsOpen part = IsRunning part.machine

-- a life that began with the first entry, before any
abbrev pub first_life : Life
first_life = record { how = Loaded; first = 0; next = 0 }

-- the last life took one more entry
pub record TookOne (old new : List Life) : Type 0 where
  pub front : List Life
  pub life : Life
  pub before : old ≡ front ++ life ∷ []
  pub now : new ≡ front ++ record life { next = life.next + 1 } ∷ []
