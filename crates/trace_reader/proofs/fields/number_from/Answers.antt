use Rattle.std.proofs.Common.{◌≡◌, None, true, sym, subst, ◌∙◌, arith}
use Rattle.std.specs.Str.{IsUtf8}
use Rattle.trace_reader.specs.Fields.{StartsAsNumber}
use Rattle.trace_reader.proofs.Numbers.{decimal_starts, decimal_is_utf8, number_found, number_only, number_is}
use Rattle.trace_reader.proofs.fields.number_from.Goals as goal

pub returns-then-not-starts_as_number-clause-only : goal.returns-then-not-starts_as_number-clause-only
returns-then-not-starts_as_number-clause-only c = λ n fits is.
    let starts : c.starts_as_number.result ≡ true =
    c.starts_as_number.ensures.1 (subst StartsAsNumber (sym is) (decimal_starts n (omega arith))) in
    cc

pub returns-in_default-clause-only : goal.returns-in_default-clause-only
returns-in_default-clause-only c = λ n fits is.
    absurd (c.in_default.ensures.cases.0 (subst IsUtf8 (sym is) (decimal_is_utf8 n (omega arith))))

pub returns-clause-found : goal.returns-clause-found
returns-clause-found c =
    let starts : StartsAsNumber c.args.digits.now = c.starts_as_number.ensures.0 c.if-not-starts_as_number.false in
    let parsed = rw c.in-Ok.ensures.cases.0 at c.parse.ensures.value.0 in
    rw c.ok.ensures.value (number_found c.args.digits.now c.parse.result starts parsed)

pub returns-clause-only : goal.returns-clause-only
returns-clause-only c = λ n fits is.
    c.ok.ensures.value ∙ number_only c.in-Ok.text.now c.parse.result c.parse.ensures.value.0 n fits (c.in-Ok.ensures.cases.0 ∙ is)

pub returns-then-not-starts_as_number-clause-exact : goal.returns-then-not-starts_as_number-clause-exact
returns-then-not-starts_as_number-clause-exact c = number_is _ None tt (returns-then-not-starts_as_number-clause-only c)

pub returns-in_default-clause-exact : goal.returns-in_default-clause-exact
returns-in_default-clause-exact c = number_is _ None tt (returns-in_default-clause-only c)

pub returns-clause-exact : goal.returns-clause-exact
returns-clause-exact c = number_is _ _ (returns-clause-found c) (returns-clause-only c)
