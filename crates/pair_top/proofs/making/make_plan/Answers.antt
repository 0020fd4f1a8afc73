-- The made script has no fault.
use Rattle.std.proofs.Common.{◌≡◌, subst, ◌∙◌}
use Rattle.plant_script.specs.declared.script_error.ScriptError.{ScriptError}
use Rattle.plant_script.specs.Gives.{Fails}
use Rattle.plant_script.specs.SecondPass.{script_of}
use Rattle.load_maker.specs.Script.{script_text}
use Rattle.pair_top.proofs.Made.{no_script_fault}
use Rattle.pair_top.proofs.making.make_plan.Goals as goal

pub unreachable-requires : goal.unreachable-requires
unreachable-requires c =
    let bytes = c.deref.result.now in
    let text : bytes ≡ script_text c.args.moments = c.deref.ensures.value ∙ c.in-Ok.ensures.text in
    let arm = c.in-Err-Fault in
    no_script_fault c.args.moments c.requires bytes arm.field-0-0 text (subst (λ (e : ScriptError). Fails e (script_of bytes)) arm.field-0-is arm.ensures.exact)
