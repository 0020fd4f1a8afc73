use Rattle.std.proofs.Common.{sym, subst}
use Rattle.std.proofs.lemmas.Bool.{false≢true}
use Rattle.s7_base.specs.Limits.{IsWellFormed}
use Rattle.block_loader.specs.Load.{program_of}
use Rattle.block_loader.proofs.Formed.{formed}
use Rattle.block_loader.proofs.loading.load.Goals as goal

-- the program of a source without a fault is well formed
pub unreachable-requires : goal.unreachable-requires
unreachable-requires c =
    let well_formed : IsWellFormed (program_of c.in_ok-sources.sources.items) = formed c.in_ok-sources.sources.items c.in_ok-sources.ensures.sound c.in_ok-sources.ensures.faultless in
    let given : IsWellFormed c.in_ok-parts.parts = rw (c.in_ok-parts.ensures.exact, c.as_slice.ensures.value) well_formed in
    let there = c.of.ensures.well_formed.1 (subst IsWellFormed (sym c.parts.view_is) given) in
    false≢true (rw c.in_default.is at there)
