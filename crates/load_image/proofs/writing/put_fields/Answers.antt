use Rattle.std.proofs.Common.{List, ℕ, [], ◌∷◌, ◌++◌, ap, ◌∙◌}
use Rattle.std.specs.Int.{w16, w32, to_be_bytes}
use Rattle.load_image.specs.Image.{statement_bytes}
use Rattle.load_image.proofs.Steps.{five_put}
use Rattle.load_image.proofs.writing.put_fields.Goals as goal

pub returns : goal.returns
unfolding statement_bytes
returns c =
    five_put c.args.out.now.items c.extend_from_slice.new.self.items c.extend_from_slice-2.new.self.items c.extend_from_slice-3.new.self.items c.extend_from_slice-4.new.self.items c.extend_from_slice-5.new.self.items
    (to_be_bytes w16 c.args.op) (c.args.area ∷ c.args.bit ∷ []) (to_be_bytes w16 c.args.db) (0 ∷ 0 ∷ []) (to_be_bytes w32 c.args.value)
    (c.in_ok-extend_from_slice.ensures.items ∙ ap (λ (x : List ℕ). c.args.out.now.items ++ x) c.to_be_bytes.ensures)
    c.in_ok-extend_from_slice-2.ensures.items
    (c.in_ok-extend_from_slice-3.ensures.items ∙ ap (λ (x : List ℕ). c.extend_from_slice-2.new.self.items ++ x) c.to_be_bytes-2.ensures)
    c.in_ok-extend_from_slice-4.ensures.items
    (c.in_ok-extend_from_slice-5.ensures.items ∙ ap (λ (x : List ℕ). c.extend_from_slice-4.new.self.items ++ x) c.to_be_bytes-3.ensures)
