-- What the receiver does.
use Rattle.std.specs.Prelude.{ℕ, ◌+◌, ◌==◌, nat_lt, if◌then◌else◌}
use Rattle.ft_connection.specs.declared.frame.Taken.{Taken}
use Rattle.ft_connection.specs.declared.frame.Taken.TheVariants.{New, Old, Ahead}

-- what a receiver that has handed over this number of jobs makes of the frame of that number
abbrev pub taken : ℕ → ℕ → Taken
taken handed number = if number == handed then New else if nat_lt number handed then Old else Ahead

-- how many jobs it has handed over then
abbrev pub after : ℕ → ℕ → ℕ
after handed number = if number == handed then handed + 1 else handed
