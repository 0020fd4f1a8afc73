-- What one turn of the reading of a source comes to.
use Rattle.std.proofs.Common.{◌≡◌, ◌≤◌, ◌<◌, ℕ, List, [], ◌∷◌, ◌++◌, refl, length, Bool, true, false, arith}
use Rattle.std.specs.Prelude.{Ok, Err, nat_le}
use Rattle.std.proofs.lemmas.Bool.{le-leb, leb-true}
use Rattle.stl_lex.specs.declared.fault.LoadFault.{LoadFault}
use Rattle.stl_lex.specs.declared.token.Token.{Token}
use Rattle.stl_decl.specs.Repeat.{Ended, Goes}
use Rattle.block_loader.specs.Blocks.{blocks_turn, block_from}
use Rattle.block_loader.specs.declared.blocks.SourceBlock.{SourceBlock}

not_le : (a b : ℕ) → b < a → nat_le a b ≡ false
not_le a b h = by (nat_le a b) refl
  where
    by : (t : Bool) → nat_le a b ≡ t → t ≡ false
    by false e = refl
    by true e = absurd (omega (arith, leb-true a b e))

module _ (text : List ℕ) (tokens : List Token) (s : List SourceBlock × ℕ) where
  pub blocks_ends : length tokens ≤ s.1 → blocks_turn text tokens s ≡ Ok (Ended s.0)
  unfolding blocks_turn
  blocks_ends h = let e : nat_le (length tokens) s.1 ≡ true = le-leb _ _ h in rw e refl

  pub blocks_goes : s.1 < length tokens → (b : SourceBlock × ℕ) → block_from text tokens s.1 ≡ Ok b → blocks_turn text tokens s ≡ Ok (Goes (s.0 ++ b.0 ∷ [], b.1))
  unfolding blocks_turn
  blocks_goes h b is = let e : nat_le (length tokens) s.1 ≡ false = not_le _ _ h in rw (e, is) refl

  pub blocks_fails : s.1 < length tokens → (f : LoadFault) → block_from text tokens s.1 ≡ Err f → blocks_turn text tokens s ≡ Err f
  unfolding blocks_turn
  blocks_fails h f is = let e : nat_le (length tokens) s.1 ≡ false = not_le _ _ h in rw (e, is) refl
