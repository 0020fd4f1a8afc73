use Rattle.std.proofs.Common.{◌≡◌, ◌+◌, ℕ, Bool, List, Option, length, take, replicate, false, ap, ◌∙◌, arith}
use Rattle.std.proofs.lemmas.List.{length-replicate}
use Rattle.s7_base.specs.Limits.{all_pages}
use Rattle.cpu_image.specs.Image.{Image}
use Rattle.cpu_image.specs.Pages.{data_pages}
use Rattle.cpu_image.specs.Layout.{first_bytes_below}
use Rattle.cpu_image.proofs.Loaded.{pages_loaded, length_below}
use Rattle.cpu_image.proofs.image.CpuImage.lay.Goals as goal

pub pages_in-registers_page-requires-clause-count :
    goal.pages_in-registers_page-requires-clause-count
pages_in-registers_page-requires-clause-count c =
    ap length (c.deref.ensures.value ∙ c.in_ok-data_blocks.ensures) ∙ length_below c.data_blocks.result.now 256

pub invariant_of-result : goal.invariant_of-result
invariant_of-result c =
    let blocks = c.in_ok-data_blocks.data_blocks.items in
    let count : length blocks ≡ 256 = ap length c.in_ok-data_blocks.ensures ∙ length_below c.data_blocks.result.now 256 in
    let same = ap data_pages c.deref.ensures.value in
    let last = c.pages_in-registers_page.ensures.last in
    let marks = ap length c.in_ok-marks.ensures ∙ length-replicate (c.pages_in-registers_page.result.1 + 1) false in
    let loaded = ap data_pages (c.in_ok-data_blocks.ensures ∙ ap (λ l. first_bytes_below l 256) c.data_blocks.ensures.list) ∙ pages_loaded c.args.blocks.now c.data_blocks.ensures.well_formed in
    let few = c.data_blocks.ensures.well_formed.data_blocks.few_pages in
    (count, omega arith, omega arith, λ n below. c.pages_in-registers_page.ensures.first n below ∙ ap (λ l. 41 + data_pages (take n l)) c.deref.ensures.value)

pub returns : goal.returns
returns c =
    let program = c.args.blocks.now in
    let made : List (Option (List ℕ)) → List Bool → Image = λ blocks marks. record {
      inputs = replicate 64 0;
      outputs = replicate 64 0;
      bit_memory = replicate 1024 0;
      data_blocks = blocks;
      marks = marks;
    } in
    let same = ap data_pages c.deref.ensures.value in
    let last = c.pages_in-registers_page.ensures.last in
    let is = c.in_ok-data_blocks.ensures ∙ ap (λ l. first_bytes_below l 256) c.data_blocks.ensures.list in
    let loaded = ap data_pages is ∙ pages_loaded program c.data_blocks.ensures.well_formed in
    let count : c.pages_in-registers_page.result.1 + 1 ≡ 42 + all_pages program.data_blocks = omega arith in
    ap (λ blocks. made blocks c.in_ok-marks.marks.items) is
    ∙ ap (made (first_bytes_below program.data_blocks 256)) (c.in_ok-marks.ensures ∙ ap (λ n. replicate n false) count)
