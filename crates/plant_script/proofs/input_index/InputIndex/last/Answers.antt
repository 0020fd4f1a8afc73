use Rattle.std.proofs.Common.{◌≡◌, ◌≤◌, ◌<◌, List, length, get_or, sym, ap, ◌∙◌, arith}
use Rattle.plant_script.specs.declared.input_index.Setting.{Setting}
use Rattle.plant_script.specs.InputIndex.{slot_of}
use Rattle.plant_script.proofs.IndexLaws.{none_past, slot_is, found}
use Rattle.plant_script.proofs.input_index.InputIndex.last.Goals as goal

pub returns-then-place-slots : goal.returns-then-place-slots
returns-then-place-slots c = λ events is rising.
    let slots : c.as_slice-slots.result.now ≡ c.args.self.now = c.as_slice-slots.ensures.value ∙ c.self.view_is in
    let size : length c.as_slice-slots.result.now ≡ length c.args.self.now = ap (λ (ss : List (List Setting)). length ss) slots in
    let past : length c.args.self.now ≤ slot_of c.args.at_byte c.args.side = omega (arith, size) in
    none_past c.args.self.now events c.args.at_byte c.args.side c.args.k is past

pub returns : goal.returns
returns c = λ events is rising.
    let slots : c.as_slice-slots.result.now ≡ c.args.self.now = c.as_slice-slots.ensures.value ∙ c.self.view_is in
    let size : length c.as_slice-slots.result.now ≡ length c.args.self.now = ap (λ (ss : List (List Setting)). length ss) slots in
    let inside : slot_of c.args.at_byte c.args.side < length c.args.self.now = omega (arith, size) in
    let read : c.index-slots-place.result ≡ get_or c.args.self.now (slot_of c.args.at_byte c.args.side) c.index-slots-place.result =
    c.index-slots-place.is ∙ ap (λ (ss : List (List Setting)). get_or ss c.slot_of-place.result c.index-slots-place.result) slots
    ∙ ap (λ n. get_or c.args.self.now n c.index-slots-place.result) c.slot_of-place.ensures in
    found c.args.self.now events c.args.at_byte c.args.side c.args.k c.index-slots-place.result c.last.result
    (slot_is c.args.self.now events c.args.at_byte c.args.side c.index-slots-place.result is inside read) rising c.last.ensures
