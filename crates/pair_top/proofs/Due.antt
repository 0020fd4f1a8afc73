-- What a call that plays owes, from what it answers.
use Rattle.std.proofs.Common.{◌≡◌, Option, Some, Result, Ok, Err, sym, ap, subst, ◌∙◌, arith}
use Rattle.pair_io.specs.Causes.{Rose}
use Rattle.s7_base.specs.Blocks.{Program}
use Rattle.stl_lex.specs.declared.fault.LoadFault.{LoadFault}
use Rattle.block_loader.specs.Load.{meaning_of}
use Rattle.pair_top.specs.declared.faults.Fault.{Fault}
use Rattle.pair_top.specs.declared.faults.Fault.TheVariants.{TooLong, SourceFault, ScriptFault}
use Rattle.pair_top.specs.declared.errors.PlayError.{PlayError}
use Rattle.pair_top.specs.declared.errors.PlayError.TheVariants as refusals
use Rattle.pair_top.specs.Errors.{play_fault}
use Rattle.pair_top.proofs.Contents.{same_bytes, long_unread, one_meaning, one_fault}
use Rattle.pair_top.proofs.Refusals.{long_told, fault_told, later_told, none_told}
use Rattle.plant_script.specs.Plan.{Plan}
use Rattle.plant_script.specs.declared.script_error.ScriptFault as scripts
use Rattle.plant_script.specs.SecondPass.{script_of}
use Rattle.pair_top.specs.Outside.{File, Written}
use Rattle.pair_top.specs.Reading.{IsLoaded, IsPlanned, IsFaulty, IsNoScript, HasFailed}
use Rattle.pair_top.specs.Serving.{AreAccepted, IsCause, IsDue, IsDone, TellsTooMuch, TellsSource, TellsNoSource, TellsScript, TellsNoScript, GivesWhatIsDue}

accepts_no_long : (file : File) (program : Program) → TellsTooMuch file → IsLoaded file.content program → ⊥
accepts_no_long file program much accepted = long_unread file accepted.bytes much accepted.read

accepts_a_source : (file : File) (due : LoadFault) (program : Program) → TellsNoSource file due → IsLoaded file.content program → ⊥
accepts_a_source file due program bad accepted =
    let same = same_bytes file.content accepted.bytes bad.bytes bad.tells.told accepted.read in
    one_meaning (meaning_of bad.bytes) program due (subst (λ l. meaning_of l ≡ Ok program) same accepted.meaning) bad.cause

-- the fault that is told is the one that is due
source_fault : (file : File) (due fault : LoadFault) → TellsNoSource file due → IsFaulty file.content fault → fault ≡ due
source_fault file due fault bad none =
    let same = same_bytes file.content none.bytes bad.bytes bad.tells.told none.read in
    one_fault (meaning_of bad.bytes) due fault bad.cause (subst (λ l. meaning_of l ≡ Err fault) same none.meaning)

plans_no_long : (file : File) (plan : Plan) → TellsTooMuch file → IsPlanned file.content plan → ⊥
plans_no_long file plan much planned = long_unread file planned.bytes much planned.read

plans_a_script : (file : File) (due : scripts.ScriptFault) (plan : Plan) → TellsNoScript file due → IsPlanned file.content plan → ⊥
plans_a_script file due plan bad planned =
    let same = same_bytes file.content planned.bytes bad.bytes bad.tells.told planned.read in
    one_meaning (script_of bad.bytes) plan due (subst (λ l. script_of l ≡ Ok plan) same planned.script) bad.cause

-- the fault that is told is the one that is due
script_fault : (file : File) (due fault : scripts.ScriptFault) → TellsNoScript file due → IsNoScript file.content fault → fault ≡ due
script_fault file due fault bad none =
    let same = same_bytes file.content none.bytes bad.bytes bad.tells.told none.read in
    one_fault (script_of bad.bytes) due fault bad.cause (subst (λ l. script_of l ≡ Err fault) same none.cause)

-- a source is not refused as none
source_stands : (file : File) (fault : LoadFault) → TellsSource file → IsFaulty file.content fault → ⊥
source_stands file fault tells bad =
    let same = same_bytes file.content bad.bytes tells.bytes tells.tells.told bad.read in
    one_meaning (meaning_of tells.bytes) tells.program fault tells.meaning (subst (λ l. meaning_of l ≡ Err fault) same bad.meaning)

script_stands : (file : File) (fault : scripts.ScriptFault) → TellsScript file → IsNoScript file.content fault → ⊥
script_stands file fault tells bad =
    let same = same_bytes file.content bad.bytes tells.bytes tells.tells.told bad.read in
    one_meaning (script_of tells.bytes) tells.plan fault tells.script (subst (λ l. script_of l ≡ Err fault) same bad.cause)

module _ (source script : File) where
  long_source_told : TellsTooMuch source → (error : PlayError) → IsCause source script error → IsDue 0 (TooLong 0) (Some (play_fault error))
  long_source_told much (refusals.Source error) r =
      long_told LoadFault 0 (λ fault. SourceFault fault) IsFaulty source much (λ fault bad. long_unread source bad.bytes much bad.read) error r
  long_source_told much (refusals.Script error) r = absurd (accepts_no_long source r.0 much r.1)

  no_source_told : (due : LoadFault) → TellsNoSource source due → (error : PlayError) → IsCause source script error → IsDue 0 (SourceFault due) (Some (play_fault error))
  no_source_told due bad (refusals.Source error) r =
      fault_told LoadFault 0 (λ fault. SourceFault fault) IsFaulty source due bad.bytes bad.tells (λ fault none. ap (λ f. SourceFault f) (source_fault source due fault bad none)) error r
  no_source_told due bad (refusals.Script error) r = absurd (accepts_a_source source due r.0 bad r.1)

  long_script_told : TellsSource source → TellsTooMuch script → (error : PlayError) → IsCause source script error → IsDue 1 (TooLong 1) (Some (play_fault error))
  long_script_told is much (refusals.Source error) r =
      later_told LoadFault 0 (λ fault. SourceFault fault) IsFaulty source 1 (TooLong 1) (omega arith) is.bytes is.tells (λ fault bad. source_stands source fault is bad) error r
  long_script_told is much (refusals.Script error) r =
      long_told scripts.ScriptFault 1 (λ fault. ScriptFault fault) IsNoScript script much (λ fault bad. long_unread script bad.bytes much bad.read) error r.2

  no_script_told : (due : scripts.ScriptFault) → TellsSource source → TellsNoScript script due → (error : PlayError) → IsCause source script error
      → IsDue 1 (ScriptFault due) (Some (play_fault error))
  no_script_told due is bad (refusals.Source error) r =
      later_told LoadFault 0 (λ fault. SourceFault fault) IsFaulty source 1 (ScriptFault due) (omega arith) is.bytes is.tells (λ fault no. source_stands source fault is no) error r
  no_script_told due is bad (refusals.Script error) r =
      fault_told scripts.ScriptFault 1 (λ fault. ScriptFault fault) IsNoScript script due bad.bytes bad.tells (λ fault none. ap (λ f. ScriptFault f) (script_fault script due fault bad none)) error r.2

  complete_told : TellsSource source → TellsScript script → (HasFailed source → ⊥) → (HasFailed script → ⊥) → (error : PlayError) → IsCause source script error
      → IsDone (Some (play_fault error))
  complete_told is plan source_reads script_reads (refusals.Source error) r =
      none_told LoadFault 0 (λ fault. SourceFault fault) IsFaulty source is.bytes is.tells (λ fault bad. source_stands source fault is bad) source_reads error r
  complete_told is plan source_reads script_reads (refusals.Script error) r =
      none_told scripts.ScriptFault 1 (λ fault. ScriptFault fault) IsNoScript script plan.bytes plan.tells (λ fault bad. script_stands script fault plan bad) script_reads error r.2

  -- a refusal of the files is the one that is due
  pub refusal_is_due : (sink : Written) (error : PlayError) → IsCause source script error → GivesWhatIsDue source script sink (Some (play_fault error))
  refusal_is_due sink error r = record {
    long_source = λ much. long_source_told much error r;
    no_source = λ due bad. no_source_told due bad error r;
    long_script = λ is much. long_script_told is much error r;
    no_script = λ due is bad. no_script_told due is bad error r;
    complete = λ is plan source_reads script_reads takes. complete_told is plan source_reads script_reads error r;
  }

  -- where both files were accepted no refusal of them is due
  pub accepted_is_due : (sink : Written) (program : Program) (plan : Plan) (fault : Option Fault) → AreAccepted source.content script.content program plan
      → ((Rose sink.before sink.now → ⊥) → IsDone fault) → GivesWhatIsDue source script sink fault
  accepted_is_due sink program plan fault accepted done = record {
    long_source = λ much. absurd (accepts_no_long source program much accepted.accepted);
    no_source = λ due bad. absurd (accepts_a_source source due program bad accepted.accepted);
    long_script = λ is much. absurd (plans_no_long script plan much accepted.planned);
    no_script = λ due is bad. absurd (plans_a_script script due plan bad accepted.planned);
    complete = λ is told source_reads script_reads takes. done takes;
  }
