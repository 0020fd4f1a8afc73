use Rattle.std.proofs.Common.{ℕ, ◌≤◌, List, length, Vec, Global, subst, sym, ◌++◌, ◌∙◌, ap}
use Rattle.load_maker.specs.Script.{module_lines, all_moment_lines, end_lines, script_lines}
use Rattle.load_maker.proofs.Lengths.{script_size}
use Rattle.load_maker.proofs.Texts.{both_added, added_to_none}
use Rattle.load_maker.proofs.script.make_script.Goals as goal

pub returns-clause-text : goal.returns-clause-text
returns-clause-text c =
    let moments = all_moment_lines c.args.n in
    let last = end_lines c.args.n in
    let rest = both_added _ _ _ moments last c.in_ok-push_moments.ensures c.in_ok-push_end.ensures in
    let added = both_added _ _ _ module_lines (moments ++ last) c.in_ok-push_modules.ensures rest in
    ap (λ (v : Vec ℕ Global). v.items) c.into_bytes.ensures.value ∙ added_to_none _ _ (script_lines c.args.n) c.new-text.ensures.bytes added

pub returns-clause-few : goal.returns-clause-few
returns-clause-few c = subst (λ (bytes : List ℕ). length bytes ≤ 1048576) (sym (returns-clause-text c)) (script_size c.args.n c.requires.high)
