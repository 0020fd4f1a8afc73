use Rattle.std.proofs.Common.{◌≡◌, ◌+◌, ◌∷◌, drop, get_or, min, arith, ◌∙◌, ap, sym, add-one, drop-cons}
use Rattle.stl_lex.specs.Numerals.{and_byte, value_from}
use Rattle.stl_lex.proofs.Ceiling.{cut_value}
use Rattle.stl_lex.specs.declared.numerals.TheConstants.{CEILING}
use Rattle.stl_lex.proofs.numerals.value_of.Goals as goal

pub loop-byte-preserved : goal.loop-byte-preserved
loop-byte-preserved c =
    let h = c.loop-byte-test.true in
    let i = c.loop-byte.byte-index in
    let digits = c.args.digits.now in
    let here : drop i digits ≡ get_or digits i 0 ∷ drop (i + 1) digits = rw add-one (drop-cons digits i 0 h) in
    record {
      same = cut_value c.args.base (and_byte c.args.base c.loop-byte.value (get_or digits i 0)) c.and_byte-value.result CEILING (drop (i + 1) digits) c.requires c.and_byte-value.ensures
          ∙ sym (ap (λ ds. min (value_from c.args.base c.loop-byte.value ds) CEILING) here)
          ∙ c.loop-byte.invariant.same;
      within = omega arith;
    }
