use Rattle.std.proofs.Common.{length, ap, ◌∙◌}
use Rattle.std.specs.Option.{unwrap_or}
use Rattle.stl_lex.specs.Bytes.{is_of}
use Rattle.stl_lex.proofs.Fronts.{front_is}
use Rattle.stl_lex.proofs.bytes.front_length.Goals as goal

pub returns-clause-exact : goal.returns-clause-exact
returns-clause-exact c =
    c.unwrap_or.ensures ∙ ap (λ o. unwrap_or o (length c.args.bytes.now)) c.front_end.ensures.exact ∙ front_is (is_of c.args.class) c.args.bytes.now
