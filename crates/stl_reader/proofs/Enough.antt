-- With any more turns the reading is the same.
use Rattle.std.proofs.Common.{◌≡◌, ◌≤◌, ◌<◌, ℕ, zero, suc, List, [], ◌∷◌, length, refl, ap, sym, arith}
use Rattle.std.specs.Prelude.{Result, Ok, Err, Option, Some, None}
use Rattle.s7_base.specs.declared.blocks.CodeKind.{CodeKind}
use Rattle.stl_lex.specs.declared.token.Token.{Token}
use Rattle.stl_decl.specs.declared.fault.Fault.{Fault}
use Rattle.stl_decl.specs.Steps.{◌>>=◌, end_fault}
use Rattle.stl_decl.specs.Repeat.{Turn, Ended, Goes, repeated}
use Rattle.stl_decl.specs.Layout.{Section}
use Rattle.stl_reader.specs.declared.items.Item.{Item}
use Rattle.stl_reader.specs.Items.{part_at}
use Rattle.stl_reader.specs.Contents.{Contents}
use Rattle.stl_reader.specs.Reading.{empty, adds, turned, body_turn, parts_in, parts_at}
use Rattle.stl_reader.proofs.Leaves.{Leaves}
use Rattle.stl_reader.proofs.Consumes.{part_leaves}

-- each turn that goes on lessens a measure, and a turn at measure 0 fails as the turns do that run out
module _ {S A : Type 0} (late : Fault) (turn : S → Result (Turn S A) Fault) (measure : S → ℕ) (lessens : (s next : S) → turn s ≡ Ok (Goes next) → measure next < measure s) (late_at_end : (s : S) → measure s ≡ 0 → turn s ≡ Err late) where
  abbrev behind : ℕ → Result (Turn S A) Fault → Result A Fault
  behind n r = r >>= λ t. elim t [ Ended a ↦ Ok a | Goes next ↦ repeated late turn n next ]

  alike : (n m : ℕ) (r : Result (Turn S A) Fault) → ((next : S) → r ≡ Ok (Goes next) → repeated late turn n next ≡ repeated late turn m next) → behind n r ≡ behind m r
  alike n m (Ok (Ended a)) h = refl
  alike n m (Ok (Goes next)) h = h next refl
  alike n m (Err f) h = refl

  pub enough : (n m : ℕ) (s : S) → measure s ≤ n → measure s ≤ m → repeated late turn n s ≡ repeated late turn m s
  unfolding repeated
  enough zero zero s h k = refl
  enough zero (suc m) s h k = sym (ap (behind m) (late_at_end s (omega arith)))
  enough (suc n) zero s h k = ap (behind n) (late_at_end s (omega arith))
  enough (suc n) (suc m) s h k =
      alike n m (turn s) (λ next is. let less : measure next < measure s = lessens s next is in enough n m next (omega arith) (omega arith))

module _ (text : List ℕ) (kind : CodeKind) (temps : Section) where
  turn_lessens : (s next : Contents × List Token) → body_turn text kind temps s ≡ Ok (Goes next) → length next.1 < length s.1
  unfolding body_turn
  turn_lessens s next e = by (part_at text kind temps s.1) (part_leaves text kind temps s.1) e
    where
      by : (r : Result (Option Item × List Token) Fault) → Leaves (λ p. p.1) (length s.1) r → (r >>= λ p. Ok (turned p.0 s.0 p.1)) ≡ Ok (Goes next) → length next.1 < length s.1
      by (Err f) h e = absurd cc
      by (Ok (None, rest)) h e = absurd cc
      by (Ok (Some item, rest)) h e =
          let same : (adds s.0 item, rest) ≡ next = cc in
          let fewer : length rest < length s.1 = h.fewer in
          let rests : length rest ≡ length next.1 = ap (λ x. length x.1) same in
          omega arith

  turn_at_end : (b : Contents) (tokens : List Token) → length tokens ≡ 0 → body_turn text kind temps (b, tokens) ≡ Err (end_fault text)
  unfolding body_turn part_at
  turn_at_end b [] e = refl
  turn_at_end b (t ∷ ts) e = absurd (omega arith)

pub more_turns : (turns : ℕ) (text : List ℕ) (kind : CodeKind) (temps : Section) (tokens : List Token) → length tokens ≤ turns → parts_in turns text kind temps tokens ≡ parts_at text kind temps tokens
more_turns turns text kind temps tokens h =
    enough (end_fault text) (body_turn text kind temps) (λ s. length s.1) (turn_lessens text kind temps) (λ s e. turn_at_end text kind temps s.0 s.1 e) turns (length tokens) (empty, tokens) h (omega arith)
