use Rattle.std.proofs.Common.{rules, ◌+◌, ◌<◌, ◌≤◌, length, None, slice_index, ap, ◌∙◌, sym, arith}
use Rattle.std.specs.Prelude.{slice_index_or}
use Rattle.std.proofs.lemmas.List.{get_or_default}
use Rattle.cpu_image.specs.declared.area.ByteArea.{ByteArea}
use Rattle.cpu_image.specs.declared.area.ByteArea.TheVariants.{Db}
use Rattle.cpu_image.specs.Image.{Image, bytes_in, area_bytes}
use Rattle.cpu_image.proofs.Pages.{length_overwritten, pages_kept}
use Rattle.cpu_image.proofs.image.CpuImage.put_bytes.Goals as goal

pub invariant_of-self-in-Db : goal.invariant_of-self-in-Db
invariant_of-self-in-Db c =
    let blocks = c.self.inside.data_blocks.items in
    let number : c.from.result < length blocks = search rules in
    let is = sym c.in-Some.is ∙ c.index_mut.ensures.value ∙ get_or_default blocks c.from.result c.index_mut.result.now None number in
    let area = ap (λ (a : ByteArea). length (area_bytes c.args.self.now a)) c.in-Db.is in
    let view = ap (λ (v : Image). length (area_bytes v (Db c.in-Db.number))) c.self.view_is in
    let index = ap (λ k. length (bytes_in (slice_index_or blocks k None))) c.from.ensures in
    let found = ap (λ o. length (bytes_in o)) is in
    let within = c.requires.there in
    let there : c.args.at + length c.args.piece.now ≤ length c.in-Some.data = omega arith in
    let same = ap length c.put.ensures ∙ length_overwritten c.in-Some.data c.args.at c.args.piece.now there in
    pages_kept blocks (length c.self.inside.marks.items) (λ n. slice_index c.self.inside.first_pages n) c.from.result c.in-Some.data c.put.new.self number is same c.self.invariant
