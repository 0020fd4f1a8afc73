-- What playing a file gives, in the terms of the world.
use Rattle.std.proofs.Common.{◌≡◌, ℕ, ◌≤◌, List, length, take, Option, Some, None, Result, Ok, Err, refl, sym, subst, ap, arith, length-take}
use Rattle.std.specs.Result.{IfOk}
use Rattle.ft_connection.specs.declared.conn_error.ConnError.{ConnError}
use Rattle.ft_connection.specs.declared.event.Event.{Event}
use Rattle.ft_connection.specs.declared.player.Played.{Played}
use Rattle.ft_connection.specs.World.{first, run, jobs_handed}
use Rattle.ft_connection.specs.Sound.{IsSound}
use Rattle.ft_connection.specs.FileReading.{Read, file_read, Gives}
use Rattle.ft_connection.specs.Playing.{begun, all_played}
use Rattle.ft_connection.specs.Outcome.{events_of, first_unnamed, last_world, shown, judged, outcome_of, outcome, playing_shown, IsPlayed}
use Rattle.ft_connection.proofs.SoundLaws.{first_sound, run_sound, run_takes, run_jobs}
use Rattle.ft_connection.proofs.PlayingLaws.{judged_by, all_judged}

-- what is handed over is the first jobs
first_takes : (jobs : List ℕ) (events : List Event) → jobs_handed (first jobs) events ≡ take (run (first jobs) events).handed jobs
first_takes jobs events = run_takes jobs (first jobs) events refl (first_sound jobs)

judged_shown : (read : Read) (o : Option ℕ) → playing_shown (judged_by (begun read.jobs) read.events o) ≡ judged read o
judged_shown read (Some line) = refl
judged_shown read None = rw (first_takes read.jobs (events_of read.events)) refl

-- playing shows what the definition says
pub plays_shown : (read : Read) → playing_shown (all_played (begun read.jobs) read.events) ≡ outcome_of (Ok read)
plays_shown read =
    rw (all_judged (begun read.jobs) read.events) (judged_shown read (first_unnamed (first read.jobs) read.events))

-- what was given for what was read is the outcome
pub gives_outcome : (bytes : List ℕ) (read : Read) (r : Result Played ConnError) → file_read bytes ≡ Ok read
    → Gives (λ played. played) r (playing_shown (all_played (begun read.jobs) read.events)) → Gives (λ played. played) r (outcome bytes)
gives_outcome bytes read r is given = rw is (subst (λ (o : Result Played ConnError). Gives (λ played. played) r o) (plays_shown read) given)

ok_played : (bytes : List ℕ) (read : Read) (played : Played) (o : Option ℕ) → file_read bytes ≡ Ok read
    → first_unnamed (first read.jobs) read.events ≡ o → judged read o ≡ Ok played → IsPlayed bytes played
ok_played bytes read played (Some line) is unnamed shows = absurd cc
ok_played bytes read played None is named shows =
    let same : shown read ≡ played = cc in
    record {
      says = read;
      read = is;
      named = named;
      handed = ap (λ (p : Played). p.handed) (sym same);
      acked = ap (λ (p : Played). p.acked) (sym same);
      text = ap (λ (p : Played). p.text) (sym same);
    }

read_played : (bytes : List ℕ) (played : Played) (o : Result Read ConnError) → file_read bytes ≡ o → outcome_of o ≡ Ok played → IsPlayed bytes played
read_played bytes played (Ok read) is shows = ok_played bytes read played (first_unnamed (first read.jobs) read.events) is refl shows
read_played bytes played (Err fault) is shows = absurd cc

-- what was played
pub is_played : (bytes : List ℕ) (r : Result Played ConnError) → Gives (λ played. played) r (outcome bytes) → IfOk r (IsPlayed bytes)
is_played bytes (Ok played) given = read_played bytes played (file_read bytes) refl given
is_played bytes (Err fault) given = tt

acked_low : (bytes : List ℕ) (played : Played) → IsPlayed bytes played → played.acked ≤ length played.handed
acked_low bytes played is =
    let says = is.says in
    let sound : IsSound (last_world says) = run_sound (first says.jobs) (events_of says.events) (first_sound says.jobs) in
    let jobs : (last_world says).sender.jobs ≡ says.jobs = run_jobs (first says.jobs) (events_of says.events) in
    let acked = sound.acked in
    let handed = rw jobs at sound.handed in
    rw (is.acked, is.handed, length-take (last_world says).handed says.jobs) (omega arith)

-- no more is acknowledged than handed over
pub acked_within : (bytes : List ℕ) (r : Result Played ConnError) → Gives (λ played. played) r (outcome bytes)
    → IfOk r (λ played. played.acked ≤ length played.handed)
acked_within bytes (Ok played) given = acked_low bytes played (is_played bytes (Ok played) given)
acked_within bytes (Err fault) given = tt
