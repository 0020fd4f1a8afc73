use Rattle.ft_connection.specs.FileReading.{Gives}
use Rattle.ft_connection.specs.FileView.{read_of}
use Rattle.ft_connection.specs.Outcome.{outcome}
use Rattle.ft_connection.proofs.OutcomeLaws.{gives_outcome, is_played, acked_within}
use Rattle.ft_connection.proofs.player.play.Goals as goal

given : (c : goal.After-drop-events) → Gives (λ played. played) c.play_events.result (outcome c.args.bytes.now)
given c =
    gives_outcome c.args.bytes.now (read_of c.in_ok-read_file.field-0) c.play_events.result c.in_ok-read_file.ensures.exact
    (rw (c.into_parts-jobs.ensures.jobs, c.deref.ensures.value, c.into_parts-jobs.ensures.events) at c.play_events.ensures)

pub returns-clause-exact : goal.returns-clause-exact
returns-clause-exact c = given c

pub returns-clause-played : goal.returns-clause-played
returns-clause-played c = is_played c.args.bytes.now c.play_events.result (given c)

pub returns-clause-acked : goal.returns-clause-acked
returns-clause-acked c = acked_within c.args.bytes.now c.play_events.result (given c)
