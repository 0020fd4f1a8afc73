-- How many records there are of one program and one script.
use Rattle.std.specs.Prelude.{◌≡◌, ◌⊎◌, Bool, List}
use mathlib.Core.List.{IsPrefix}
use Rattle.s7_events.specs.declared.entry.Entry.{Entry}
use Rattle.s7_base.specs.Blocks.{Program}
use Rattle.mc_machine.specs.Meaning.{asked}
use Rattle.plant_script.specs.Plan.{Plan}
use Rattle.pair_core.specs.Lawful.{Lawful}
use Rattle.pair_core.specs.Played.{requests_of, answers_of}

-- Of two records whose requests are those of the standard CPU, given their answers, and whose answers are lawful, one begins
-- the other. The program, the script and whether side A is alone are those of both.
abbrev pub OneBegins : Program → Plan → Bool → List Entry → List Entry → Type 0
OneBegins program plan solo xs ys =
    requests_of xs ≡ asked program (answers_of xs) → Lawful program plan solo xs
    → requests_of ys ≡ asked program (answers_of ys) → Lawful program plan solo ys
    → IsPrefix xs ys ⊎ IsPrefix ys xs
