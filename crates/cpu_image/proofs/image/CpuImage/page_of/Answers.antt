use Rattle.std.proofs.Common.{arith}
use Rattle.cpu_image.proofs.Pages.{page_is_there}
use Rattle.cpu_image.proofs.image.CpuImage.page_of.Goals as goal

pub overflow_add-result-2 : goal.overflow_add-result-2
overflow_add-result-2 c =
    let there = page_is_there c.args.self.now c.args.area c.args.at c.show_sizes.ensures c.requires.there in
    let few = c.show_sizes.ensures.few_pages in
    let first = c.first_page.ensures in
    let begin = c.begin_of.ensures in
    omega arith

pub returns-clause-there : goal.returns-clause-there
returns-clause-there c =
    let there = page_is_there c.args.self.now c.args.area c.args.at c.show_sizes.ensures c.requires.there in
    let first = c.first_page.ensures in
    let begin = c.begin_of.ensures in
    omega arith
