use Rattle.std.proofs.Common.{◌≡◌, ◌+◌, ◌≤◌, [], length, None, refl, sym, ◌∙◌, ap, subst, arith}
use Rattle.plant_script.specs.Words.{lines_of}
use Rattle.plant_script.specs.Numbers.{value_of}
use Rattle.plant_script.specs.FirstPass.{nothing_read, first_pass, plan_by}
use Rattle.plant_script.specs.Gives.{reading_of}
use Rattle.plant_script.specs.Sound.{IsSound}
use Rattle.plant_script.proofs.Sound.{sound_first}
use Rattle.plant_script.proofs.Passes.{lines_end, line_fails, line_goes, fails_with}
use Rattle.plant_script.proofs.first_pass.first_pass.Goals as goal

pub lines-init : goal.lines-init
unfolding value_of
lines-init c =
    let e : reading_of (record { modules = c.new.result; events = c.new-2.result; end = None }) (value_of []) ≡ nothing_read = rw (c.new.ensures.items, c.new-2.ensures.items) refl in
    record {
      same = ap (λ r. first_pass r 1 (lines_of c.args.text.now)) e;
      digits = refl;
      count = omega arith;
      sound = subst (λ r. IsSound r 1) (sym e) sound_first;
    }

pub returns-in-Err-clause-exact : goal.returns-in-Err-clause-exact
returns-in-Err-clause-exact c =
    fails_with (first_pass nothing_read 1 (lines_of c.args.text.now)) _ c.in-Err.error c.in-Err.ensures.exact
    (λ fault is. sym c.lines.invariant.same
    ∙ line_fails (reading_of c.lines.reading (value_of c.lines.floor.now)) c.lines.number (lines_of c.lines.rest.now) c.in-Some.line.now (lines_of c.in-Some.after.now) fault c.in-Some.ensures.exact is)

pub lines-preserved : goal.lines-preserved
lines-preserved c = record {
  same = sym (line_goes (reading_of c.lines.reading (value_of c.lines.floor.now)) c.lines.number (lines_of c.lines.rest.now) c.in-Some.line.now (lines_of c.in-Some.after.now) _ c.in-Some.ensures.exact c.in-Ok.ensures.exact)
      ∙ c.lines.invariant.same;
  digits = c.in-Ok.ensures.digits;
  count = omega (arith, c.in-Some.ensures.shorter, c.lines.invariant.count);
  sound = c.in-Ok.ensures.sound c.lines.invariant.sound;
}

pub returns-in-Some-end-clause-exact : goal.returns-in-Some-end-clause-exact
returns-in-Some-end-clause-exact c =
    let r = reading_of c.lines.reading (value_of c.lines.floor.now) in
    sym c.lines.invariant.same ∙ lines_end r c.lines.number (lines_of c.lines.rest.now) c.in_default.ensures.exact
    ∙ ap (λ end. plan_by end r c.lines.number) c.in-Some-end.is

pub returns-in-None-clause-exact : goal.returns-in-None-clause-exact
returns-in-None-clause-exact c =
    let r = reading_of c.lines.reading (value_of c.lines.floor.now) in
    rw c.fault_at.ensures (sym c.lines.invariant.same ∙ lines_end r c.lines.number (lines_of c.lines.rest.now) c.in_default.ensures.exact
    ∙ ap (λ end. plan_by end r c.lines.number) c.in-None.is)
