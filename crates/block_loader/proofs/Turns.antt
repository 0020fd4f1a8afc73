-- What one turn of a loop of reading comes to.
use Rattle.std.proofs.Common.{◌≡◌, ℕ, List, ap}
use Rattle.std.specs.Prelude.{Ok, Err, Option}
use Rattle.stl_lex.specs.declared.token.Token.{Token}
use Rattle.stl_decl.specs.declared.fault.Fault.{Fault}
use Rattle.stl_decl.specs.Steps.{◌>>=◌}
use Rattle.block_loader.specs.Heads.{head_at, heads_by, heads_turn}

module _ (text : List ℕ) (tokens : List Token) where
  pub heads_turns : (o : Option (List Token)) → head_at text tokens ≡ Ok o → heads_turn text tokens ≡ Ok (heads_by o tokens)
  unfolding heads_turn
  heads_turns o is = ap (λ r. r >>= λ o. Ok (heads_by o tokens)) is

  pub heads_fails : (f : Fault) → head_at text tokens ≡ Err f → heads_turn text tokens ≡ Err f
  unfolding heads_turn
  heads_fails f is = ap (λ r. r >>= λ o. Ok (heads_by o tokens)) is
