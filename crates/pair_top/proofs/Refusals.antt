-- What a refusal of one file owes.
use Rattle.std.proofs.Common.{◌≡◌, ◌≤◌, ℕ, List, Option, Some, refl, arith}
use Rattle.pair_io.specs.declared.files.FilesError.TheVariants as unread
use Rattle.pair_top.specs.declared.faults.Fault.{Fault}
use Rattle.pair_top.specs.declared.faults.Fault.TheVariants.{Usage, TooLong}
use Rattle.pair_top.specs.declared.errors.FileError.{FileError}
use Rattle.pair_top.specs.declared.errors.FileError.TheVariants as errors
use Rattle.pair_top.specs.Errors.{told_of}
use Rattle.pair_top.specs.Outside.{File}
use Rattle.pair_top.specs.Reading.{HasFailed, IsRefused, CountsOnly, IsSteady}
use Rattle.pair_top.specs.Serving.{IsDue, IsDone, Tells, TellsTooMuch}
use Rattle.pair_top.specs.Loading.{IsSteadyUnless}
use Rattle.pair_top.proofs.Contents.{not_long}

module _ (E : Type 0) (which : ℕ) (content : E → Fault) (IsFault : Option (List ℕ) → E → Type 0) (file : File) where
  -- where the file is too long
  pub long_told : TellsTooMuch file → ((fault : E) → IsFault file.content fault → ⊥) → (error : FileError E) → IsRefused IsFault file error
      → IsDue which (TooLong which) (Some (told_of which content error))
  long_told much none (errors.Unread unread.Failed) r = omega arith
  long_told much none (errors.Unread unread.TooLong) r = refl
  long_told much none (errors.Unread unread.NoMemory) r = tt
  long_told much none (errors.Content fault) r = absurd (none fault r)
  long_told much none errors.NoMemory r = tt

  -- where its content has the fault that is due
  pub fault_told : (due : E) (bytes : List ℕ) → Tells file bytes → ((fault : E) → IsFault file.content fault → IsDue which (content due) (Some (content fault)))
      → (error : FileError E) → IsRefused IsFault file error → IsDue which (content due) (Some (told_of which content error))
  fault_told due bytes tells same (errors.Unread unread.Failed) r = omega arith
  fault_told due bytes tells same (errors.Unread unread.TooLong) r = absurd (not_long file bytes tells r)
  fault_told due bytes tells same (errors.Unread unread.NoMemory) r = tt
  fault_told due bytes tells same (errors.Content fault) r = same fault r
  fault_told due bytes tells same errors.NoMemory r = tt

  -- where its content has none, and a later file has the fault that is due
  pub later_told : (number : ℕ) (due : Fault) → which ≤ number → (bytes : List ℕ) → Tells file bytes → ((fault : E) → IsFault file.content fault → ⊥)
      → (error : FileError E) → IsRefused IsFault file error → IsDue number due (Some (told_of which content error))
  later_told number due less bytes tells none (errors.Unread unread.Failed) r = less
  later_told number due less bytes tells none (errors.Unread unread.TooLong) r = absurd (not_long file bytes tells r)
  later_told number due less bytes tells none (errors.Unread unread.NoMemory) r = tt
  later_told number due less bytes tells none (errors.Content fault) r = absurd (none fault r)
  later_told number due less bytes tells none errors.NoMemory r = tt

  -- where nothing is due
  pub none_told : (bytes : List ℕ) → Tells file bytes → ((fault : E) → IsFault file.content fault → ⊥) → (HasFailed file → ⊥)
      → (error : FileError E) → IsRefused IsFault file error → IsDone (Some (told_of which content error))
  none_told bytes tells none reads (errors.Unread unread.Failed) r = reads r
  none_told bytes tells none reads (errors.Unread unread.TooLong) r = not_long file bytes tells r
  none_told bytes tells none reads (errors.Unread unread.NoMemory) r = tt
  none_told bytes tells none reads (errors.Content fault) r = absurd (none fault r)
  none_told bytes tells none reads errors.NoMemory r = tt

module _ (E : Type 0) (which : ℕ) (content : E → Fault) where
  -- it is no refusal of the arguments
  pub file_told : ((fault : E) → content fault ≡ Usage → ⊥) → (error : FileError E) → told_of which content error ≡ Usage → ⊥
  file_told none (errors.Unread unread.Failed) h = cc
  file_told none (errors.Content fault) h = none fault h
  file_told none error h = cc

  -- the file counted a fault only where it failed
  pub steady_told : (file : File) → ((fault : E) → IsSteady file → IsSteadyUnless (Some (content fault)) file) → (error : FileError E) → CountsOnly error file
      → IsSteadyUnless (Some (told_of which content error)) file
  steady_told file other (errors.Unread unread.Failed) r = tt
  steady_told file other (errors.Content fault) r = other fault r
  steady_told file other error r = r
