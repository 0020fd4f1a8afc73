-- The first piece of a pattern.
use Rattle.std.proofs.Common.{◌≡◌, ◌∙◌, ap, Some, None, rules}
use Rattle.plant_script.specs.Fields.{split_at}
use Rattle.pair_top.proofs.Patterns.{pieces_by, pieces_split, split_shorter}
use Rattle.pair_top.proofs.pattern.first_piece.Goals as goal

pub returns-in-None-clause-pieces : goal.returns-in-None-clause-pieces
returns-in-None-clause-pieces c =
    let none : split_at 44 c.args.text.now ≡ None = search rules in
    pieces_split c.args.text.now ∙ ap (λ o. pieces_by o c.args.text.now) none

pub returns-in-Some-clause-pieces : goal.returns-in-Some-clause-pieces
returns-in-Some-clause-pieces c =
    let found : split_at 44 c.args.text.now ≡ Some (c.in-Some.piece.now, c.in-Some.rest.now) = search rules in
    pieces_split c.args.text.now ∙ ap (λ o. pieces_by o c.args.text.now) found

pub returns-in-Some-clause-shorter : goal.returns-in-Some-clause-shorter
returns-in-Some-clause-shorter c =
    let found : split_at 44 c.args.text.now ≡ Some (c.in-Some.piece.now, c.in-Some.rest.now) = search rules in
    split_shorter 44 c.args.text.now c.in-Some.piece.now c.in-Some.rest.now found
