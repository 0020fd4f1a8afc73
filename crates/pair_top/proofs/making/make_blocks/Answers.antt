-- The made source has no fault.
use Rattle.std.proofs.Common.{◌≡◌, Err, subst, ◌∙◌}
use Rattle.block_loader.specs.declared.error.LoadError.{LoadError}
use Rattle.block_loader.specs.Load.{Loads}
use Rattle.load_maker.specs.Source.{source_text}
use Rattle.pair_top.proofs.Made.{no_source_fault}
use Rattle.pair_top.proofs.making.make_blocks.Goals as goal

pub unreachable-requires : goal.unreachable-requires
unreachable-requires c =
    let bytes = c.deref.result.now in
    let text : bytes ≡ source_text c.args.moments = c.deref.ensures.value ∙ c.in-Ok.ensures.text in
    let arm = c.in-Err-Fault in
    no_source_fault c.args.moments c.requires bytes arm.field-0-0 text (subst (λ (e : LoadError). Loads bytes (Err e)) arm.field-0-is arm.ensures.exact)
