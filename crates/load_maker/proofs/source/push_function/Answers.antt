use Rattle.std.proofs.Common.{rules, ◌≡◌, ℕ, List, ◌++◌, codes, decimal, string_bytes, ◌∙◌, ap, sym}
use Rattle.load_maker.specs.Lines.{text_of}
use Rattle.load_maker.specs.Source.{function_lines}
use Rattle.load_maker.proofs.Texts.{ended_by}
use Rattle.load_maker.proofs.source.push_function.Goals as goal

-- the four lines in one piece
in_one : (i : ℕ) → text_of (function_lines i) ≡ codes "FUNCTION FC " ++ (decimal i ++ (codes " : VOID\nBEGIN\nL " ++ (decimal i ++ codes ";\nEND_FUNCTION\n")))
in_one i =
    let number = decimal i in
    let rest = codes "BEGIN\nL " ++ (((number ++ codes ";") ++ codes "\n") ++ codes "END_FUNCTION\n") in
    ap (λ (t : List ℕ). codes "FUNCTION FC " ++ t)
    (ended_by number (codes " : VOID") rest
    ∙ ap (λ (t : List ℕ). number ++ (codes " : VOID\nBEGIN\nL " ++ t)) (ended_by number (codes ";") (codes "END_FUNCTION\n")))

pub returns : goal.returns
returns c =
    let written : string_bytes c.write-done.new.self ≡ string_bytes c.args.text.now ++ (codes "FUNCTION FC " ++ (decimal c.args.i ++ (codes " : VOID\nBEGIN\nL " ++ (decimal c.args.i ++ codes ";\nEND_FUNCTION\n")))) = search rules in
    written ∙ ap (λ (t : List ℕ). string_bytes c.args.text.now ++ t) (sym (in_one c.args.i))
