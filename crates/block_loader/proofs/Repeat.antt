-- The exit of a loop of reading by an error, as it is told.
use Rattle.std.proofs.Common.{◌≡◌}
use Rattle.std.specs.Prelude.{Result, Err}
use Rattle.stl_lex.specs.declared.fault.LoadFault.{LoadFault}
use Rattle.block_loader.specs.Told.{Fails, Gives}
use Rattle.block_loader.specs.declared.error.LoadError.{LoadError}
use Rattle.block_loader.specs.declared.error.LoadError.TheVariants as errors

-- the exit by an error of reading
pub fails_with : {X Y A : Type 0} (view : X → Y) (all : Result Y LoadFault) (r : Result A LoadFault) (e : LoadError) → Fails e r → ((f : LoadFault) → r ≡ Err f → all ≡ Err f) → Gives view (Err e) all
fails_with view all r (errors.Fault f) is k = k f is
fails_with view all r errors.NoMemory is k = tt
