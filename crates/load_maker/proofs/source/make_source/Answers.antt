use Rattle.std.proofs.Common.{ℕ, ◌≤◌, List, length, Vec, Global, subst, sym, ◌∙◌, ap}
use Rattle.load_maker.specs.Source.{organization_block_lines, all_function_lines, source_lines}
use Rattle.load_maker.proofs.Lengths.{source_size}
use Rattle.load_maker.proofs.Texts.{both_added, added_to_none}
use Rattle.load_maker.proofs.source.make_source.Goals as goal

pub returns-clause-text : goal.returns-clause-text
returns-clause-text c =
    let added = both_added _ _ _ organization_block_lines (all_function_lines c.args.n) c.in_ok-push_organization_blocks.ensures c.in_ok-push_functions.ensures in
    ap (λ (v : Vec ℕ Global). v.items) c.into_bytes.ensures.value ∙ added_to_none _ _ (source_lines c.args.n) c.new-text.ensures.bytes added

pub returns-clause-few : goal.returns-clause-few
returns-clause-few c = subst (λ (bytes : List ℕ). length bytes ≤ 1048576) (sym (returns-clause-text c)) (source_size c.args.n c.requires.high)
