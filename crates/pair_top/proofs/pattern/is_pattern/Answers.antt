-- Counting the visits that a pattern orders, piece by piece.
use Rattle.std.proofs.Common.{◌≡◌, [], None, sym, ◌∙◌, ap}
use Rattle.std.specs.Option.{option_map}
use Rattle.pair_top.specs.Pattern.{pieces, parts_of, part_of}
use Rattle.pair_top.specs.PatternView.{part_view, pieces_left}
use Rattle.pair_top.proofs.Patterns.{are_few, few_is, bad_part, too_many, counted, all_counted}
use Rattle.pair_top.proofs.pattern.is_pattern.Goals as goal

pub returns-in_default-part_from : goal.returns-in_default-part_from
returns-in_default-part_from c =
    let ps = pieces_left c.first_piece.result.1 in
    let piece = c.first_piece.result.0.now in
    let none : part_of piece ≡ None = sym c.part_from.ensures.part ∙ ap (λ o. option_map part_view o) c.in_default-part_from.is in
    let here : are_few c.loop-left.visits (parts_of (pieces c.in-Some.text.now)) ≡ are_few 0 (parts_of (pieces c.args.word.now)) =
    rw c.in-Some.is at c.loop-left.invariant.same in
    sym (few_is c.args.word.now ∙ sym here ∙ ap (λ l. are_few c.loop-left.visits (parts_of l)) c.first_piece.ensures.pieces
    ∙ bad_part c.loop-left.visits piece ps none)

pub returns-then-visits-gt-MOST_VISITS : goal.returns-then-visits-gt-MOST_VISITS
returns-then-visits-gt-MOST_VISITS c =
    let part = c.in-Some-part_from.part in
    let ps = pieces_left c.first_piece.result.1 in
    let is = sym c.part_from.ensures.part ∙ ap (λ o. option_map part_view o) c.in-Some-part_from.is in
    let here : are_few c.loop-left.visits (parts_of (pieces c.in-Some.text.now)) ≡ are_few 0 (parts_of (pieces c.args.word.now)) =
    rw c.in-Some.is at c.loop-left.invariant.same in
    let letters = c.in-Some-part_from.ensures.letters in
    sym (few_is c.args.word.now
    ∙ sym (counted c.args.word.now c.in-Some.text.now c.first_piece.result.0.now ps c.loop-left.visits part.times part.letters.now c.first_piece.ensures.pieces is letters here)
    ∙ too_many _ (parts_of ps) c.if-visits-gt-MOST_VISITS.true)

pub loop-left-preserved : goal.loop-left-preserved
loop-left-preserved c =
    let part = c.in-Some-part_from.part in
    let ps = pieces_left c.first_piece.result.1 in
    let is = sym c.part_from.ensures.part ∙ ap (λ o. option_map part_view o) c.in-Some-part_from.is in
    let here : are_few c.loop-left.visits (parts_of (pieces c.in-Some.text.now)) ≡ are_few 0 (parts_of (pieces c.args.word.now)) =
    rw c.in-Some.is at c.loop-left.invariant.same in
    let letters = c.in-Some-part_from.ensures.letters in
    record {
      same = counted c.args.word.now c.in-Some.text.now c.first_piece.result.0.now ps c.loop-left.visits part.times part.letters.now c.first_piece.ensures.pieces is letters here;
      within = c.if-visits-gt-MOST_VISITS.false;
    }

pub returns : goal.returns
returns c =
    let here : are_few c.loop-left.visits (parts_of []) ≡ are_few 0 (parts_of (pieces c.args.word.now)) =
    rw c.in_default.is at c.loop-left.invariant.same in
    sym (all_counted c.args.word.now c.loop-left.visits c.loop-left.invariant.within here)
