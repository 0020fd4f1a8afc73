-- One rung, worked out by hand: `A I 0.0; = Q 0.0;`, whose input is set before the second cycle.
use Rattle.std.specs.Prelude.{ℕ, List, [], ◌∷◌, replicate, Option, Some}
use Rattle.s7_base.specs.declared.blocks.CodeKind.TheVariants.{Ob}
use Rattle.s7_base.specs.declared.statement.Statement.{Statement}
use Rattle.s7_events.specs.declared.entry.Ask.TheVariants as asks
use Rattle.s7_events.specs.declared.entry.Request.{Request}
use Rattle.s7_events.specs.declared.entry.Answer.{Answer}
use Rattle.s7_events.specs.declared.entry.Answer.TheVariants as answers
use Rattle.s7_base.specs.Blocks.{Program}
use Rattle.mc_machine.specs.Meaning.{request_of}

-- operation 0 is A and 14 is =, area 1 is I and 2 is Q
abbrev pub rung_statements : List Statement
rung_statements =
    record { op = 0; area = 1; bit = 0; db = 0; value = 0 }
    ∷ record { op = 14; area = 2; bit = 0; db = 0; value = 0 }
    ∷ []

abbrev pub rung : Program
rung = record { codes = record { kind = Ob; number = 1; temp = 0; statements = rung_statements } ∷ []; data_blocks = [] }

abbrev pub dark : List ℕ
dark = replicate 64 0

abbrev pub lit : List ℕ
lit = 1 ∷ replicate 63 0

abbrev pub rung_answers : List Answer
rung_answers = answers.Done ∷ answers.Image dark ∷ answers.Go ∷ answers.Done ∷ answers.Image lit ∷ answers.Go ∷ answers.Done ∷ []

abbrev pub rung_requests : List (Option Request)
rung_requests =
    Some (request_of (asks.Outputs dark) 1)
    ∷ Some (request_of asks.Inputs 1)
    ∷ Some (request_of asks.Cycle 1)
    ∷ Some (request_of (asks.Outputs dark) 1)
    ∷ Some (request_of asks.Inputs 1)
    ∷ Some (request_of asks.Cycle 1)
    ∷ Some (request_of (asks.Outputs lit) 1)
    ∷ []
