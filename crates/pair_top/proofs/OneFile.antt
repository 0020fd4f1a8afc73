-- A command of one file whose file was refused.
use Rattle.std.proofs.Common.{◌≡◌, ◌∙◌, Some, Err, refl, ap, subst}
use Rattle.pair_io.specs.declared.files.FilesError.TheVariants as unread
use Rattle.stl_lex.specs.declared.fault.LoadFault.{LoadFault}
use Rattle.block_loader.specs.Load.{meaning_of}
use Rattle.plant_script.specs.declared.script_error.ScriptFault as scripts
use Rattle.ft_connection.specs.declared.conn_error.ConnError.TheVariants as connections
use Rattle.ft_connection.specs.Outcome.{outcome}
use Rattle.pair_top.specs.declared.faults.Fault.TheVariants.{Usage, SourceFault, ScriptFault}
use Rattle.pair_top.specs.declared.errors.FileError.{FileError}
use Rattle.pair_top.specs.declared.errors.FileError.TheVariants as errors
use Rattle.pair_top.specs.Errors as told
use Rattle.pair_top.specs.Outside.{File, Written}
use Rattle.pair_top.specs.Reading.{IsFaulty, IsRefused, CountsOnly}
use Rattle.pair_top.specs.Serving.{Account, IsQuiet}
use Rattle.pair_top.specs.Loading.{LoadServed, IsSteadyUnless, TellsFault, LoadsWhatIsDue}
use Rattle.pair_top.specs.Connecting.{HasBadEvents, ConnectServed, TellsBadEvents, ConnectsWhatIsDue}
use Rattle.pair_top.proofs.Contents.{same_bytes, long_unread, one_meaning, one_fault}
use Rattle.pair_top.proofs.Refusals.{long_told, fault_told, none_told, file_told, steady_told}

-- the blocks of a source -----------------------------------------------------

pub load_refused : (source : File) (sink : Written) (account : Account) (error : FileError LoadFault) → IsRefused IsFaulty source error → IsQuiet sink account
    → LoadServed source sink account (Some (told.source_fault error))
load_refused source sink account (errors.Unread unread.Failed) r quiet = (record { error = errors.Unread unread.Failed; told_as = refl; cause = r }, quiet)
load_refused source sink account error r quiet = (record { error = error; told_as = refl; cause = r }, quiet)

pub load_steady : (source : File) (error : FileError LoadFault) → CountsOnly error source → IsSteadyUnless (Some (told.source_fault error)) source
load_steady source error r = steady_told LoadFault 0 (λ fault. SourceFault fault) source (λ fault h. h) error r

pub load_is_file : (error : FileError LoadFault) → told.source_fault error ≡ Usage → ⊥
load_is_file error h = file_told LoadFault 0 (λ fault. SourceFault fault) (λ fault is. cc) error h

first_source_fault : (source : File) (due fault : LoadFault) → TellsFault source due → IsFaulty source.content fault → fault ≡ due
first_source_fault source due fault tells bad =
    let same = same_bytes source.content bad.bytes tells.bytes tells.tells.told bad.read in
    one_fault (meaning_of tells.bytes) due fault tells.meaning (subst (λ l. meaning_of l ≡ Err fault) same bad.meaning)

pub load_is_due : (source : File) (sink : Written) (error : FileError LoadFault) → IsRefused IsFaulty source error → LoadsWhatIsDue source sink (Some (told.source_fault error))
load_is_due source sink error r = record {
  long_source = λ much. long_told LoadFault 0 (λ fault. SourceFault fault) IsFaulty source much (λ fault bad. long_unread source bad.bytes much bad.read) error r;
  first_fault = λ due tells.
      fault_told LoadFault 0 (λ fault. SourceFault fault) IsFaulty source due tells.bytes tells.tells (λ fault bad. ap (λ f. SourceFault f) (first_source_fault source due fault tells bad)) error r;
  complete = λ tells reads takes.
      none_told LoadFault 0 (λ fault. SourceFault fault) IsFaulty source tells.bytes tells.tells
      (λ fault bad. (
      let same = same_bytes source.content bad.bytes tells.bytes tells.tells.told bad.read in
      one_meaning (meaning_of tells.bytes) tells.program fault tells.meaning (subst (λ l. meaning_of l ≡ Err fault) same bad.meaning)
      ))
      reads error r;
}

-- the events of a connection ---------------------------------------------------

pub connect_refused : (events : File) (sink : Written) (account : Account) (error : FileError scripts.ScriptFault) → IsRefused HasBadEvents events error → IsQuiet sink account
    → ConnectServed events sink account (Some (told.script_fault error))
connect_refused events sink account (errors.Unread unread.Failed) r quiet = (record { error = errors.Unread unread.Failed; told_as = refl; cause = r }, quiet)
connect_refused events sink account error r quiet = (record { error = error; told_as = refl; cause = r }, quiet)

pub connect_steady : (events : File) (error : FileError scripts.ScriptFault) → CountsOnly error events → IsSteadyUnless (Some (told.script_fault error)) events
connect_steady events error r = steady_told scripts.ScriptFault 1 (λ fault. ScriptFault fault) events (λ fault h. h) error r

pub connect_is_file : (error : FileError scripts.ScriptFault) → told.script_fault error ≡ Usage → ⊥
connect_is_file error h = file_told scripts.ScriptFault 1 (λ fault. ScriptFault fault) (λ fault is. cc) error h

same_fault : (due fault : scripts.ScriptFault) → connections.Fault fault.kind fault.line ≡ connections.Fault due.kind due.line → fault ≡ due
same_fault due fault h =
    let kind : fault.kind ≡ due.kind = cc in
    let line : fault.line ≡ due.line = cc in
    ap (λ k. record fault { kind = k }) kind ∙ ap (λ l. record due { line = l }) line

first_event_fault : (events : File) (due fault : scripts.ScriptFault) → TellsBadEvents events due → HasBadEvents events.content fault → fault ≡ due
first_event_fault events due fault tells bad =
    let same = same_bytes events.content bad.bytes tells.bytes tells.tells.told bad.read in
    same_fault due fault
    (one_fault (outcome tells.bytes) (connections.Fault due.kind due.line) (connections.Fault fault.kind fault.line) tells.gives
    (subst (λ l. outcome l ≡ Err (connections.Fault fault.kind fault.line)) same bad.gives))

pub connect_is_due : (events : File) (sink : Written) (error : FileError scripts.ScriptFault) → IsRefused HasBadEvents events error
    → ConnectsWhatIsDue events sink (Some (told.script_fault error))
connect_is_due events sink error r = record {
  long_events = λ much. long_told scripts.ScriptFault 1 (λ fault. ScriptFault fault) HasBadEvents events much (λ fault bad. long_unread events bad.bytes much bad.read) error r;
  first_fault = λ due tells.
      fault_told scripts.ScriptFault 1 (λ fault. ScriptFault fault) HasBadEvents events due tells.bytes tells.tells
      (λ fault bad. ap (λ f. ScriptFault f) (first_event_fault events due fault tells bad)) error r;
  complete = λ tells reads takes.
      none_told scripts.ScriptFault 1 (λ fault. ScriptFault fault) HasBadEvents events tells.bytes tells.tells
      (λ fault bad. (
      let same = same_bytes events.content bad.bytes tells.bytes tells.tells.told bad.read in
      one_meaning (outcome tells.bytes) tells.played (connections.Fault fault.kind fault.line) tells.gives
      (subst (λ l. outcome l ≡ Err (connections.Fault fault.kind fault.line)) same bad.gives)
      ))
      reads error r;
}
