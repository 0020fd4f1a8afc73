-- What a call that plays answers, from what its play answers.
use Rattle.std.proofs.Common.{◌≡◌, Bool, Option, Some, None, refl, subst, inl}
use Rattle.pair_io.specs.Causes.{Rose}
use Rattle.pair_io.specs.declared.files.FilesError.TheVariants as unread
use Rattle.pair_top.specs.declared.errors.FileError.TheVariants as errors
use Rattle.pair_top.specs.declared.errors.PlayError.{PlayError}
use Rattle.pair_top.specs.declared.errors.PlayError.TheVariants as refusals
use Rattle.pair_top.specs.Errors.{play_fault}
use Rattle.s7_events.specs.declared.entry.Side.{Side}
use Rattle.s7_base.specs.Blocks.{Program}
use Rattle.pair_top.specs.declared.faults.Fault.{Fault}
use Rattle.pair_top.specs.declared.faults.Fault.TheVariants.{Usage, SourceFault, ScriptFault, SinkFault, NoMemory}
use Rattle.subsystem.specs.Part.{Part}
use Rattle.stl_lex.specs.declared.fault.LoadFault.{LoadFault}
use Rattle.plant_script.specs.declared.script_error.ScriptFault as scripts
use Rattle.pair_top.proofs.Refusals.{file_told}
use Rattle.pair_top.proofs.Due.{accepted_is_due}
use Rattle.plant_script.specs.Plan.{Plan}
use Rattle.trace_text.specs.Tail.{Tail}
use Rattle.trace_text.specs.CpuTail.{tail_of}
use Rattle.pair_core.specs.Endings.{HasTail}
use Rattle.pair_core.specs.Setup.{Setup}
use Rattle.pair_core.specs.World.{World, first_world, play}
use Rattle.pair_top.specs.Outside.{File, Written}
use Rattle.pair_top.specs.Orders.{Manner, is_alone, visits_for}
use Rattle.pair_top.specs.Playing.{of_side}
use Rattle.pair_top.specs.Serving.{Account, AreNew, AreUnused, AreAccepted, IsQuiet, IsCause, PlayCounts, AreSteady, IsDone, IsFinished, IsPlay, setup_of, ComesToTail, IsTailOf, IsWriting, play_text, IsOutcome, PlayServed, GivesWhatIsDue}

module _ (manner : Manner) (source script : File) (sink : Written) (account : Account) (a b : Part) (program : Program) (plan : Plan)
    (accepted : AreAccepted source.content script.content program plan) where
  pub served : (fault : Option Fault) → IsOutcome manner program plan sink account a b fault → PlayServed manner source script sink account a b fault
  served None o = (program, plan, accepted, o)
  served (Some SinkFault) o = (program, plan, accepted, o)
  served (Some NoMemory) o = (record { error = refusals.Source errors.NoMemory; told_as = refl; cause = tt }, o.0, o.1)
  served (Some fault) o = absurd o

  -- and it was done to its end, but for want of memory, where the sink took all
  done : (fault : Option Fault) → IsOutcome manner program plan sink account a b fault → (Rose sink.before sink.now → ⊥) → IsDone fault
  done None o takes = tt
  done (Some SinkFault) o takes = takes o.3.1.0
  done (Some NoMemory) o takes = tt
  done (Some fault) o takes = absurd o

  -- so it gives what is due
  pub outcome_is_due : (fault : Option Fault) → IsOutcome manner program plan sink account a b fault → GivesWhatIsDue source script sink fault
  outcome_is_due fault o = accepted_is_due source script sink program plan fault accepted (done fault o)

-- what is as it was made took no entry
pub unused : (a b : Part) → AreNew a b → AreUnused a b
unused a b new = record { first = inl new.first; second = inl new.second }

-- a refusal of the files with which nothing was played and nothing written, and both subsystems are as they were made
pub refused : (manner : Manner) (source script : File) (sink : Written) (account : Account) (a b : Part) (error : PlayError)
    → IsCause source script error → IsQuiet sink account → AreNew a b → PlayServed manner source script sink account a b (Some (play_fault error))
refused manner source script sink account a b (refusals.Source (errors.Unread unread.NoMemory)) r quiet new = (record { error = refusals.Source (errors.Unread unread.NoMemory); told_as = refl; cause = r }, quiet, unused a b new)
refused manner source script sink account a b (refusals.Source errors.NoMemory) r quiet new = (record { error = refusals.Source errors.NoMemory; told_as = refl; cause = r }, quiet, unused a b new)
refused manner source script sink account a b (refusals.Script (errors.Unread unread.NoMemory)) r quiet new = (record { error = refusals.Script (errors.Unread unread.NoMemory); told_as = refl; cause = r }, quiet, unused a b new)
refused manner source script sink account a b (refusals.Script errors.NoMemory) r quiet new = (record { error = refusals.Script errors.NoMemory; told_as = refl; cause = r }, quiet, unused a b new)
refused manner source script sink account a b error r quiet new = (record { error = error; told_as = refl; cause = r }, quiet, new)

-- it is none of the arguments
pub refused_is_none : (error : PlayError) → play_fault error ≡ Usage → ⊥
refused_is_none (refusals.Source error) h = file_told LoadFault 0 (λ fault. SourceFault fault) (λ fault is. cc) error h
refused_is_none (refusals.Script error) h = file_told scripts.ScriptFault 1 (λ fault. ScriptFault fault) (λ fault is. cc) error h

-- it counted faults of the files only where one failed
pub refused_steady : (source script : File) (error : PlayError) → PlayCounts error source → PlayCounts error script → AreSteady (Some (play_fault error)) source script
refused_steady source script (refusals.Source (errors.Unread unread.Failed)) first second = tt
refused_steady source script (refusals.Script (errors.Unread unread.Failed)) first second = tt
refused_steady source script error first second = (first, second)

-- a play whose text was written, or a front of it
pub outcome : (manner : Manner) (program : Program) (plan : Plan) (sink : Written) (account : Account) (a b : Part) (tail : Tail) (fault : Option Fault)
    → IsPlay manner program plan account a b → IsTailOf program account tail → IsWriting (play_text manner account tail) sink fault
    → IsOutcome manner program plan sink account a b fault
outcome manner program plan sink account a b tail None played shows wrote = (played, tail, shows, wrote)
outcome manner program plan sink account a b tail (Some SinkFault) played shows wrote = (played, tail, shows, wrote)
outcome manner program plan sink account a b tail (Some fault) played shows wrote = absurd wrote

-- what was finished in the world of the ordered visits is a play
pub is_play : (manner : Manner) (program : Program) (plan : Plan) (solo : Bool) (p : Setup) (w : World) (account : Account) (a b : Part)
    → solo ≡ is_alone manner → p ≡ setup_of program plan solo → w ≡ first_world solo
    → IsFinished p (play p w (visits_for manner p.plan)) account a b → IsPlay manner program plan account a b
is_play manner program plan solo p w account a b alone is world finished =
    let there = subst (λ (q : Setup). IsFinished q (play q w (visits_for manner q.plan)) account a b) is finished in
    let first = subst (λ (v : World). IsFinished (setup_of program plan solo) (play (setup_of program plan solo) v (visits_for manner plan)) account a b) world there in
    subst (λ (s : Bool). IsFinished (setup_of program plan s) (play (setup_of program plan s) (first_world s) (visits_for manner plan)) account a b) alone first

-- the tail of the side that was brought to its next request
pub is_tail : (program : Program) (plan : Plan) (solo : Bool) (p : Setup) (account : Account) (last side : Side) (a b : Part) → p ≡ setup_of program plan solo → last ≡ side
    → (HasTail account.ended → ComesToTail p.program account.entries (of_side last a b)) → IsTailOf program account (tail_of (of_side side a b).machine)
is_tail program plan solo p account last side a b is same shows tail =
    let there = subst (λ (q : Setup). ComesToTail q.program account.entries (of_side last a b)) is (shows tail) in
    (subst (λ (s : Side). ComesToTail program account.entries (of_side s a b)) same there).0
