-- Each block that is read ends behind the token that it begins with: with any more turns the source is read the same.
use Rattle.std.proofs.Common.{◌≡◌, ◌≤◌, ◌<◌, ℕ, zero, suc, List, [], ◌∷◌, ◌++◌, ◌+◌, ◌-◌, length, drop, arith, refl, Bool, true, false}
use Rattle.std.specs.Prelude.{Result, Ok, Err, if◌then◌else◌, nat_le}
use Rattle.std.proofs.lemmas.List.{length-drop}
use Rattle.std.proofs.lemmas.Bool.{leb-false}
use Rattle.stl_lex.specs.declared.fault.LoadFault.{LoadFault}
use Rattle.stl_lex.specs.declared.token.Token.{Token}
use Rattle.stl_decl.specs.declared.fault.Fault.{Fault}
use Rattle.stl_decl.specs.Faults.{told, told_of}
use Rattle.stl_decl.specs.Steps.{◌>>=◌, end_fault}
use Rattle.stl_decl.specs.Repeat.{Turn, Ended, Goes, repeated, IsSameAbove}
use Rattle.stl_decl.proofs.Fewer.{Leaves, second}
use Rattle.stl_reader.specs.Contents.{Contents}
use Rattle.stl_reader.specs.Reading.{body_of}
use Rattle.stl_reader.proofs.Consumes.{ends_behind}
use Rattle.block_loader.specs.Fronts.{front_at}
use Rattle.block_loader.specs.Blocks.{block_by, block_from, blocks_turn, blocks_in}
use Rattle.block_loader.specs.declared.blocks.Front.{Front}
use Rattle.block_loader.specs.declared.blocks.Front.TheVariants as fronted
use Rattle.block_loader.specs.declared.blocks.SourceBlock.{SourceBlock}
use Rattle.block_loader.proofs.Fronts.{front_leaves}

-- a turn that goes on leaves less than n
abbrev Sinks : {S A : Type 0} → (S → ℕ) → ℕ → Result (Turn S A) LoadFault → Type 0
Sinks measure n (Ok (Goes next)) = measure next < n
Sinks measure n (Ok (Ended a)) = Unit {0}
Sinks measure n (Err f) = Unit {0}

record Lowers {S A : Type 0} (measure : S → ℕ) (n : ℕ) (turn : Result (Turn S A) LoadFault) : Type 0 where
  pub sinks : Sinks measure n turn

module _ {S A : Type 0} (late : LoadFault) (turn : S → Result (Turn S A) LoadFault) (measure : S → ℕ) (lowers : (s : S) → Lowers measure (measure s) (turn s)) where
  same_turns : (n m : ℕ) (s : S) → measure s < n → measure s < m → repeated late turn n s ≡ repeated late turn m s
  unfolding repeated
  same_turns zero m s h k = absurd (omega arith)
  same_turns (suc n) zero s h k = absurd (omega arith)
  same_turns (suc n) (suc m) s h k = by (λ next h k. same_turns n m next h k) (turn s) (lowers s)
    where
      by : ((next : S) → measure next < n → measure next < m → repeated late turn n next ≡ repeated late turn m next) → (r : Result (Turn S A) LoadFault) → Lowers measure (measure s) r → (r >>= λ t. elim t [ Ended a ↦ Ok a | Goes next ↦ repeated late turn n next ]) ≡ (r >>= λ t. elim t [ Ended a ↦ Ok a | Goes next ↦ repeated late turn m next ])
      by again (Ok (Ended a)) l = refl
      by again (Ok (Goes next)) l = let less = l.sinks in again next (omega arith) (omega arith)
      by again (Err f) l = refl

-- a block that is read ends at this token or behind it
abbrev EndsFrom : ℕ → Result (SourceBlock × ℕ) LoadFault → Type 0
EndsFrom n (Ok b) = n ≤ b.1
EndsFrom n (Err f) = Unit {0}

record Ends (n : ℕ) (block : Result (SourceBlock × ℕ) LoadFault) : Type 0 where
  pub later : EndsFrom n block

ends_later : (n k : ℕ) (r : Result (SourceBlock × ℕ) LoadFault) → Ends n r → k ≤ n → Ends k r
ends_later n k (Ok b) h le = let later = h.later in record { later = omega arith }
ends_later n k (Err f) h le = record { later = tt }

-- a body, and the block that is made of it
behind_body : (n : ℕ) (r : Result (Contents × ℕ) LoadFault) (f : Contents × ℕ → Result (SourceBlock × ℕ) LoadFault) → ((x : Contents × ℕ) → r ≡ Ok x → n < x.1) → ((x : Contents × ℕ) → n < x.1 → Ends n (f x)) → Ends n (r >>= f)
behind_body n (Ok x) f h g = g x (h x refl)
behind_body n (Err e) f h g = record { later = tt }

module _ (text : List ℕ) (tokens : List Token) where
  statements_end : (front : Front) (from : ℕ) → Ends from (block_by front text tokens from)
  unfolding block_by
  statements_end (fronted.Data block) from = record { later = omega arith }
  statements_end (fronted.Code front) from =
      behind_body from (body_of text tokens from front.kind front.temps) _ (ends_behind text tokens from front.kind front.temps) (λ x less. record { later = omega arith })

  block_ends : (from : ℕ) → from < length tokens → Ends (suc from) (block_from text tokens from)
  unfolding block_from
  block_ends from h = by (front_at (length tokens + 1) text (drop from tokens)) (front_leaves text (length tokens + 1) (drop from tokens))
    where
      by : (r : Result (Front × List Token) Fault) → Leaves second (length (drop from tokens)) r → Ends (suc from) (told_of r >>= λ front. block_by front.0 text tokens (length tokens - length front.1))
      by (Ok x) l =
          let less : length x.1 < length (drop from tokens) = l.fewer in
          let dropped : length (drop from tokens) ≡ length tokens - from = length-drop from tokens in
          ends_later (length tokens - length x.1) (suc from) (block_by x.0 text tokens (length tokens - length x.1)) (statements_end x.0 (length tokens - length x.1)) (omega arith)
      by (Err f) l = record { later = tt }

  -- how many tokens stand behind the blocks so far
  abbrev ahead : List SourceBlock × ℕ → ℕ
  ahead s = length tokens - s.1

  blocks_lower : (s : List SourceBlock × ℕ) → Lowers ahead (ahead s) (blocks_turn text tokens s)
  unfolding blocks_turn
  blocks_lower s = by (nat_le (length tokens) s.1) refl
    where
      on : (r : Result (SourceBlock × ℕ) LoadFault) → s.1 < length tokens → Ends (suc s.1) r → Lowers ahead (ahead s) (r >>= λ b. let t : Result (Turn (List SourceBlock × ℕ) (List SourceBlock)) LoadFault = Ok (Goes (s.0 ++ b.0 ∷ [], b.1)) in t)
      on (Ok b) h l = let later = l.later in record { sinks = omega arith }
      on (Err f) h l = record { sinks = tt }

      by : (b : Bool) → nat_le (length tokens) s.1 ≡ b → Lowers ahead (ahead s) (let t : Result (Turn (List SourceBlock × ℕ) (List SourceBlock)) LoadFault = if b then Ok (Ended s.0) else (block_from text tokens s.1 >>= λ b. Ok (Goes (s.0 ++ b.0 ∷ [], b.1))) in t)
      by true e = record { sinks = tt }
      by false e = let h = leb-false (length tokens) s.1 e in on (block_from text tokens s.1) (omega arith) (block_ends s.1 (omega arith))

  pub same_blocks : IsSameAbove (length tokens) (λ turns. blocks_in turns text tokens)
  same_blocks n m h k = same_turns (told (end_fault text)) (blocks_turn text tokens) ahead blocks_lower n m ([], 0) (omega arith) (omega arith)
