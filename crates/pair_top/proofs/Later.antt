-- A refusal of a file that was read after another.
use Rattle.std.proofs.Common.{◌≡◌, ◌∙◌, ℕ, List, Option, subst, sym}
use Rattle.pair_io.specs.Causes.{Rose}
use Rattle.pair_io.specs.declared.files.FilesError.TheVariants as unread
use Rattle.s7_base.specs.Blocks.{Program}
use Rattle.plant_script.specs.declared.script_error.ScriptFault as scripts
use Rattle.pair_top.specs.declared.errors.FileError.{FileError}
use Rattle.pair_top.specs.declared.errors.FileError.TheVariants as errors
use Rattle.pair_top.specs.declared.errors.PlayError.TheVariants as refusals
use Rattle.pair_top.specs.Outside.{File}
use Rattle.pair_top.specs.Reading.{IsLoaded, IsTooLong, IsNoScript, HasFailed, IsRefused, CountsOnly}
use Rattle.pair_top.specs.Serving.{IsCause}

-- a file, and the same as a second read found it: the first read, of another file, left its content and its promise
module _ (file later : File) (content : later.content ≡ file.content) (before : later.before ≡ file.before) (now : later.now ≡ file.now)
    (promise : file.never_fails → later.never_fails) where
  has_failed : HasFailed later → HasFailed file
  has_failed failed =
      let there = subst (λ n. Rose n later.now) before failed.0 in
      (subst (λ n. Rose file.before n) now there, λ promised. failed.1 (promise promised))

  refused_later : {E : Type 0} (IsFault : Option (List ℕ) → E → Type 0) (error : FileError E) → IsRefused IsFault later error → IsRefused IsFault file error
  refused_later IsFault (errors.Unread unread.Failed) r = has_failed r
  refused_later IsFault (errors.Unread unread.TooLong) r = subst (λ o. IsTooLong o) content r
  refused_later IsFault (errors.Unread unread.NoMemory) r = tt
  refused_later IsFault (errors.Content fault) r = subst (λ o. IsFault o fault) content r
  refused_later IsFault errors.NoMemory r = tt

  -- a script that was refused at the second read was refused after its source was accepted
  pub script_refused : (source : File) (program : Program) → IsLoaded source.content program
      → (error : FileError scripts.ScriptFault) → IsRefused IsNoScript later error → IsCause source file (refusals.Script error)
  script_refused source program accepted error r = (program, accepted, refused_later IsNoScript error r)

  -- what the second read counted was counted in all
  pub counts_later : {E : Type 0} (error : FileError E) → CountsOnly error later → CountsOnly error file
  counts_later (errors.Unread unread.Failed) r = tt
  counts_later error r = sym now ∙ r ∙ before
