use Rattle.std.proofs.Common.{◌≡◌, ◌+◌, [], ◌∷◌, drop, get_or, min, arith, ◌∙◌, ap, sym, add-one, drop-cons}
use Rattle.stl_lex.specs.declared.durations.TimeUnit.{TimeUnit}
use Rattle.stl_lex.specs.Durations.{time_from}
use Rattle.stl_lex.proofs.Ceiling.{more_time}
use Rattle.stl_lex.specs.declared.numerals.TheConstants.{CEILING}
use Rattle.stl_lex.proofs.durations.milliseconds.Goals as goal

abbrev no_unit : TimeUnit
no_unit = record { letters = []; milliseconds = 0 }

pub loop-unit-preserved : goal.loop-unit-preserved
loop-unit-preserved c =
    let i = c.loop-unit.unit-index in
    let units = c.args.units.now in
    let unit : TimeUnit = get_or units i no_unit in
    let h = c.loop-unit-test.true in
    let here : drop i units ≡ unit ∷ drop (i + 1) units = rw add-one (drop-cons units i no_unit h) in
    let before = sym (ap (λ us. min (time_from c.loop-unit.time us c.loop-unit.rest.now) CEILING) here) ∙ c.loop-unit.invariant.same in
    record {
      same = more_time c.min-time.result c.loop-unit.time c.part_value.result c.part_length.result CEILING _ unit (drop (i + 1) units) c.loop-unit.rest.now c.after-rest.result.now c.part_value.ensures c.min-time.ensures c.part_length.ensures.exact c.after-rest.ensures.exact before;
      within = omega arith;
    }
