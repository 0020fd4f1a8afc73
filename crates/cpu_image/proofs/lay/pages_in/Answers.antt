use Rattle.std.proofs.Common.{◌<◌, length, None, ap, ◌∙◌, arith}
use Rattle.std.proofs.lemmas.List.{get_or_default, length-set}
use Rattle.cpu_image.specs.Pages.{pages_of}
use Rattle.cpu_image.proofs.Pages.{pages_go_on}
use Rattle.cpu_image.proofs.lay.pages_in.Goals as goal

pub loop-number-preserved : goal.loop-number-preserved
loop-number-preserved c =
    let blocks = c.args.areas.now in
    let firsts = c.loop-number.first_pages in
    let number = c.loop-number.number in
    let page = c.loop-number.page in
    let so_far = c.loop-number.invariant in
    let long = so_far.2 in
    let below = c.loop-number-test.true in
    let count = c.requires.count in
    let here : number < length blocks = omega arith in
    let first : number < length firsts = omega arith in
    let is = c.page_count-page.ensures ∙ ap pages_of (c.index-areas-number.is ∙ get_or_default blocks number c.index-areas-number.result None here) in
    let on = pages_go_on blocks firsts number page c.page_count-page.result here first is (so_far.0, so_far.1) in
    (on.0, on.1, length-set firsts number page ∙ long)
