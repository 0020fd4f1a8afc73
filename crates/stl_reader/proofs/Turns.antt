-- What one turn of a body comes to.
use Rattle.std.proofs.Common.{◌≡◌, ℕ, List, refl}
use Rattle.std.specs.Prelude.{Some, None, Ok, Err}
use Rattle.s7_base.specs.declared.blocks.CodeKind.{CodeKind}
use Rattle.stl_lex.specs.declared.token.Token.{Token}
use Rattle.stl_decl.specs.declared.fault.Fault.{Fault}
use Rattle.stl_decl.specs.Repeat.{Ended, Goes}
use Rattle.stl_decl.specs.Layout.{Section}
use Rattle.stl_reader.specs.declared.items.Item.{Item}
use Rattle.stl_reader.specs.Items.{part_at}
use Rattle.stl_reader.specs.Contents.{Contents}
use Rattle.stl_reader.specs.Reading.{adds, body_turn}

module _ (text : List ℕ) (kind : CodeKind) (temps : Section) (s : Contents × List Token) where
  pub turn_ends : (rest : List Token) → part_at text kind temps s.1 ≡ Ok (None, rest) → body_turn text kind temps s ≡ Ok (Ended (s.0, rest))
  unfolding body_turn
  turn_ends rest is = rw is refl

  pub turn_goes : (item : Item) (rest : List Token) → part_at text kind temps s.1 ≡ Ok (Some item, rest) → body_turn text kind temps s ≡ Ok (Goes (adds s.0 item, rest))
  unfolding body_turn
  turn_goes item rest is = rw is refl

  pub turn_fails : (f : Fault) → part_at text kind temps s.1 ≡ Err f → body_turn text kind temps s ≡ Err f
  unfolding body_turn
  turn_fails f is = rw is refl
