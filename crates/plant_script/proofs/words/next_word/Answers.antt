use Rattle.std.proofs.Common.{◌≡◌, ◌<◌, length, sym, ap, arith}
use Rattle.std.proofs.lemmas.Bool.Decides.{nat_tests}
use Rattle.plant_script.specs.Words.{uncons}
use Rattle.plant_script.proofs.Texts.{word_split, word_whole, word_none}
use Rattle.plant_script.proofs.words.next_word.Goals as goal

pub returns-then-is_empty : goal.returns-then-is_empty
returns-then-is_empty c =
    let none : length c.without_blanks-text.result.now ≡ 0 = grind (arith, nat_tests) in
    ap uncons (sym (word_none c.args.line.now c.without_blanks-text.result.now c.without_blanks-text.ensures none))

pub returns-in-Some : goal.returns-in-Some
returns-in-Some c =
    ap uncons (sym (word_split c.args.line.now c.without_blanks-text.result.now c.in-Some.word.now c.in-Some.after.now c.without_blanks-text.ensures (sym c.in-Some.ensures)))

pub returns-in-None : goal.returns-in-None
returns-in-None c =
    let some : 0 < length c.without_blanks-text.result.now = grind (arith, nat_tests) in
    ap uncons (sym (word_whole c.args.line.now c.without_blanks-text.result.now c.without_blanks-text.ensures some (sym c.in-None.ensures)))
