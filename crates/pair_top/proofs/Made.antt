-- What was made of a number, and what it means: both texts are accepted.
use Rattle.std.proofs.Common.{◌≡◌, ℕ, List, Result, Ok, Err, sym, ◌∙◌, ap}
use Rattle.s7_base.specs.Blocks.{Program}
use Rattle.stl_lex.specs.declared.fault.LoadFault.{LoadFault}
use Rattle.block_loader.specs.Load.{meaning_of}
use Rattle.plant_script.specs.Plan.{Plan}
use Rattle.plant_script.specs.declared.script_error.ScriptFault.{ScriptFault}
use Rattle.plant_script.specs.SecondPass.{script_of}
use Rattle.load_maker.specs.Source.{source_text}
use Rattle.load_maker.specs.Script.{script_text}
use Rattle.workload_laws.proofs.Accepted.{script_is_accepted}
use Rattle.workload_laws.proofs.Sources.{source_is_accepted}
use Rattle.pair_top.specs.Orders.{AreMoments}
use Rattle.pair_top.specs.Making.{IsMadeProgram, IsMadePlan}

no_fault : {A F : Type 0} → (r : Result A F) (x : A) (f : F) → r ≡ Ok x → r ≡ Err f → ⊥
no_fault r x f good bad = cc

module _ (moments : ℕ) (in_range : AreMoments moments) (bytes : List ℕ) where
  pub no_source_fault : (fault : LoadFault) → bytes ≡ source_text moments → meaning_of bytes ≡ Err fault → ⊥
  no_source_fault fault is bad = no_fault (meaning_of bytes) _ fault (ap meaning_of is ∙ source_is_accepted moments in_range.0 in_range.1) bad

  pub no_script_fault : (fault : ScriptFault) → bytes ≡ script_text moments → script_of bytes ≡ Err fault → ⊥
  no_script_fault fault is bad =
      let accepted = script_is_accepted moments in_range.0 in_range.1 in
      no_fault (script_of bytes) accepted.plan fault (ap script_of is ∙ accepted.read) bad

module _ (moments : ℕ) (bytes : List ℕ) where
  pub made_program : (program : Program) → bytes ≡ source_text moments → meaning_of bytes ≡ Ok program → IsMadeProgram moments program
  made_program program is means = ap meaning_of (sym is) ∙ means

  pub made_plan : (plan : Plan) → bytes ≡ script_text moments → script_of bytes ≡ Ok plan → IsMadePlan moments plan
  made_plan plan is means = ap script_of (sym is) ∙ means
