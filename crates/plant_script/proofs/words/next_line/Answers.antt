use Rattle.std.proofs.Common.{◌≡◌, ◌<◌, ◌∷◌, [], List, ℕ, length, Some, sym, ◌∙◌, ap, arith}
use Rattle.std.proofs.lemmas.Bool.Decides.{nat_tests}
use Rattle.plant_script.specs.Words.{uncons, lines_of}
use Rattle.plant_script.proofs.Texts.{line_split, line_whole, no_lines, no_text, split_shorter}
use Rattle.plant_script.proofs.words.next_line.Goals as goal

pub returns-then-is_empty-clause-exact : goal.returns-then-is_empty-clause-exact
returns-then-is_empty-clause-exact c =
    let none : length c.args.text.now ≡ 0 = grind (arith, nat_tests) in
    ap uncons (sym (no_text c.args.text.now none))

pub returns-in-Some-clause-exact : goal.returns-in-Some-clause-exact
returns-in-Some-clause-exact c =
    rw c.without_return.ensures (ap uncons (sym (line_split c.args.text.now c.in-Some.line.now c.in-Some.after.now (sym c.in-Some.ensures))))

pub returns-in-Some-clause-shorter : goal.returns-in-Some-clause-shorter
returns-in-Some-clause-shorter c = split_shorter 10 c.args.text.now c.in-Some.line.now c.in-Some.after.now (sym c.in-Some.ensures)

pub returns-in-None-clause-exact : goal.returns-in-None-clause-exact
returns-in-None-clause-exact c =
    let some : 0 < length c.args.text.now = grind (arith, nat_tests) in
    ap uncons (sym (line_whole c.args.text.now some (sym c.in-None.ensures) ∙ ap (λ (ls : List (List ℕ)). c.args.text.now ∷ ls) (sym no_lines)))
