-- The heads of a block and its front take tokens: with any more turns they are read the same.
use Rattle.std.proofs.Common.{◌≡◌, ◌≤◌, ◌<◌, ℕ, suc, List, [], ◌∷◌, length, arith, refl, subst, Bool, true, false}
use Rattle.std.specs.Prelude.{Result, Ok, Err, Option, Some, None, if◌then◌else◌, codes}
use Rattle.s7_base.specs.declared.blocks.CodeKind.{CodeKind}
use Rattle.s7_base.specs.declared.blocks.CodeKind.TheVariants.{Ob, Fb, Fc}
use Rattle.stl_lex.specs.declared.token.Token.{Token}
use Rattle.stl_decl.specs.declared.fault.Fault.{Fault}
use Rattle.stl_decl.specs.declared.fault.FaultKind.TheVariants.{RealType, OutOfScope}
use Rattle.stl_decl.specs.Steps.{◌>>=◌, end_fault, fault_at, unfit, is_word_kind, is_word}
use Rattle.stl_decl.specs.Repeat.{IsSameAbove}
use Rattle.stl_decl.proofs.Fewer.{Leaves, itself, second, third, given, refused, either, after, beside, wider, word_leaves, sign_leaves, number_leaves}
use Rattle.stl_decl.proofs.Enough.{Lowers, repeated_leaves, same_turns}
use Rattle.stl_decl.proofs.Loops.{same_after, same_before, temporaries_leave, structure_leaves, assignments_leave, same_temporaries, same_structure, same_assignments}
use Rattle.block_loader.specs.declared.heads.BlockKind.{BlockKind}
use Rattle.block_loader.specs.declared.heads.BlockKind.TheVariants.{Code, Data}
use Rattle.block_loader.specs.declared.heads.Heading.{Heading}
use Rattle.block_loader.specs.Heads.{kind_of, kind_by, kind_at, kind_word, numbered, type_at, void_at, result_at, heading_at, is_owner_kind, owner_at, is_owner, is_plain_head, entry_at, version_at, head_at, heads_by, heads_turn, heads_at}
use Rattle.block_loader.specs.Fronts.{code_front_at, data_at, front_by, front_at}

-- a head that stands there leaves fewer tokens than n
abbrev Before : ℕ → Result (Option (List Token)) Fault → Type 0
Before n (Ok (Some rest)) = length rest < n
Before n (Ok None) = Unit {0}
Before n (Err f) = Unit {0}

record Takes (n : ℕ) (head : Result (Option (List Token)) Fault) : Type 0 where
  pub before : Before n head

takes_either : (n : ℕ) (b : Bool) (r s : Result (Option (List Token)) Fault) → Takes n r → Takes n s → Takes n (if b then r else s)
takes_either n true r s h g = h
takes_either n false r s h g = g

takes_some : (n k : ℕ) (r : Result (List Token) Fault) → Leaves itself n r → n ≤ k → Takes k (r >>= λ rest. Ok (Some rest))
takes_some n k (Ok rest) h le = let less = h.fewer in record { before = omega arith }
takes_some n k (Err f) h le = record { before = tt }

-- two readings that go on alike behind readings that are the same
same_both : {A B : Type 0} {from : A → List Token} {n : ℕ} {r s : Result A Fault} {f g : A → Result B Fault} → r ≡ s → Leaves from n r → ((x : A) → length (from x) < n → f x ≡ g x) → (r >>= f) ≡ (s >>= g)
same_both {r = r} {f = f} {g = g} e h k = subst (λ t. (r >>= f) ≡ (t >>= g)) e (same_after h k)

module _ (text : List ℕ) where
  -- the first line of a block
  kind_by_leaves : (found : Option BlockKind) (t : Token) (ts : List Token) → Leaves third (length (t ∷ ts)) (kind_by found text t ts)
  kind_by_leaves (Some kind) t ts = given third _ (kind, t, ts) (omega arith)
  kind_by_leaves None t ts = refused third _ (unfit text t)

  kind_leaves : (tokens : List Token) → Leaves third (length tokens) (kind_at text tokens)
  kind_leaves [] = refused third _ (end_fault text)
  kind_leaves (t ∷ ts) = kind_by_leaves (kind_of text t) t ts

  type_leaves : (tokens : List Token) → Leaves second (length tokens) (type_at text tokens)
  type_leaves [] = refused second _ (end_fault text)
  type_leaves (t ∷ ts) =
      either second _ (is_word text t (codes "VOID")) _ _ (given second _ (t, ts) (omega arith))
      (either second _ (is_word text t (codes "REAL")) _ _ (refused second _ (fault_at RealType t))
      (either second _ (is_word_kind t.kind) _ _ (refused second _ (fault_at OutOfScope t)) (refused second _ (unfit text t))))

  void_leaves : (tokens : List Token) → Leaves itself (length tokens) (void_at text tokens)
  void_leaves tokens =
      after (sign_leaves text (codes ":") tokens) (λ colon one.
      after (type_leaves colon.1) (λ void two. given itself _ void.1 (omega arith)))

  result_leaves : (kind : BlockKind) (tokens : List Token) → Leaves itself (suc (length tokens)) (result_at text kind tokens)
  unfolding result_at
  result_leaves (Code Fc) tokens = wider (void_leaves tokens) (omega arith)
  result_leaves (Code Ob) tokens = given itself _ tokens (omega arith)
  result_leaves (Code Fb) tokens = given itself _ tokens (omega arith)
  result_leaves Data tokens = given itself _ tokens (omega arith)

  heading_leaves : (tokens : List Token) → Leaves second (length tokens) (heading_at text tokens)
  unfolding heading_at
  heading_leaves tokens =
      after (kind_leaves tokens) (λ kind one.
      after (word_leaves text (kind_word kind.0) kind.2) (λ word two.
      after (number_leaves text word.1) (λ number three.
      beside (numbered kind.0 number.0 number.1) (λ within.
      after (result_leaves kind.0 number.2) (λ rest four. given second _ _ (omega arith))))))

  -- heads
  owner_leaves : (tokens : List Token) → Leaves second (length tokens) (owner_at text tokens)
  owner_leaves [] = refused second _ (end_fault text)
  owner_leaves (t ∷ ts) = either second _ (is_owner_kind t.kind) _ _ (given second _ (t, ts) (omega arith)) (refused second _ (unfit text t))

  entry_leaves : (tokens : List Token) → Leaves itself (length tokens) (entry_at text tokens)
  unfolding entry_at
  entry_leaves tokens =
      after (sign_leaves text (codes ":") tokens) (λ colon one.
      after (owner_leaves colon.1) (λ owner two. given itself _ owner.1 (omega arith)))

  version_leaves : (tokens : List Token) → Leaves itself (length tokens) (version_at text tokens)
  unfolding version_at
  version_leaves tokens =
      after (sign_leaves text (codes ":") tokens) (λ colon one.
      after (number_leaves text colon.1) (λ major two.
      after (sign_leaves text (codes ".") major.2) (λ dot three.
      after (number_leaves text dot.1) (λ minor four. given itself _ minor.2 (omega arith)))))

  head_takes : (tokens : List Token) → Takes (length tokens) (head_at text tokens)
  unfolding head_at
  head_takes [] = record { before = tt }
  head_takes (t ∷ ts) =
      takes_either _ (is_plain_head text t) _ _ (record { before = omega arith })
      (takes_either _ (is_owner text t) _ _ (takes_some (length ts) _ (entry_at text ts) (entry_leaves ts) (omega arith))
      (takes_either _ (is_word text t (codes "VERSION")) _ _ (takes_some (length ts) _ (version_at text ts) (version_leaves ts) (omega arith)) (record { before = tt })))

  heads_lowers : (tokens : List Token) → Lowers length itself (length tokens) (heads_turn text tokens)
  unfolding heads_turn
  heads_lowers tokens = by (head_at text tokens) (head_takes tokens)
    where
      by : (r : Result (Option (List Token)) Fault) → Takes (length tokens) r → Lowers length itself (length tokens) (r >>= λ o. Ok (heads_by o tokens))
      by (Ok (Some rest)) h = record { sinks = h.before }
      by (Ok None) h = record { sinks = omega arith }
      by (Err f) h = record { sinks = tt }

  heads_leave : (turns : ℕ) (tokens : List Token) → Leaves itself (suc (length tokens)) (heads_at turns text tokens)
  unfolding heads_at
  heads_leave turns tokens = repeated_leaves (end_fault text) length itself (heads_turn text) heads_lowers turns _ tokens (omega arith)

  pub same_heads : (tokens : List Token) → IsSameAbove (length tokens) (λ turns. heads_at turns text tokens)
  unfolding heads_at
  same_heads tokens n m h k =
      same_turns (end_fault text) length itself (heads_turn text) heads_lowers (heads_turn text) (length tokens) (λ s b. refl) n m tokens (omega arith) h k

  -- a block up to its statements
  code_front_leaves : (turns : ℕ) (heading : Heading) (kind : CodeKind) (tokens : List Token) → Leaves second (length tokens) (code_front_at turns text heading kind tokens)
  unfolding code_front_at
  code_front_leaves turns heading kind tokens =
      after (heads_leave turns tokens) (λ rest one.
      after (temporaries_leave text turns rest) (λ temps two.
      after (word_leaves text (codes "BEGIN") temps.1) (λ begin three. given second _ _ (omega arith))))

  data_leaves : (turns : ℕ) (heading : Heading) (tokens : List Token) → Leaves second (length tokens) (data_at turns text heading tokens)
  unfolding data_at
  data_leaves turns heading tokens =
      after (heads_leave turns tokens) (λ rest one.
      after (structure_leaves text turns rest) (λ section two.
      after (word_leaves text (codes "BEGIN") section.1) (λ begin three.
      after (assignments_leave text turns section.0 begin.1) (λ assigned four. given second _ _ (omega arith)))))

  front_by_leaves : (kind : BlockKind) (turns : ℕ) (heading : Heading) (tokens : List Token) → Leaves second (length tokens) (front_by kind turns text heading tokens)
  front_by_leaves (Code kind) turns heading tokens = after (code_front_leaves turns heading kind tokens) (λ x less. given second _ _ less)
  front_by_leaves Data turns heading tokens = after (data_leaves turns heading tokens) (λ x less. given second _ _ less)

  pub front_leaves : (turns : ℕ) (tokens : List Token) → Leaves second (length tokens) (front_at turns text tokens)
  unfolding front_at
  front_leaves turns tokens = after (heading_leaves tokens) (λ heading less. wider (front_by_leaves heading.0.kind turns heading.0 heading.1) (omega arith))

  same_code_front : (heading : Heading) (kind : CodeKind) (tokens : List Token) → IsSameAbove (length tokens) (λ turns. code_front_at turns text heading kind tokens)
  unfolding code_front_at
  same_code_front heading kind tokens n m h k =
      same_both (same_heads tokens n m h k) (heads_leave n tokens) (λ rest one. same_before _ (same_temporaries text rest n m (omega arith) (omega arith)))

  same_data : (heading : Heading) (tokens : List Token) → IsSameAbove (length tokens) (λ turns. data_at turns text heading tokens)
  unfolding data_at
  same_data heading tokens n m h k =
      same_both (same_heads tokens n m h k) (heads_leave n tokens) (λ rest one.
      same_both (same_structure text rest n m (omega arith) (omega arith)) (structure_leaves text n rest) (λ section two.
      same_after (word_leaves text (codes "BEGIN") section.1) (λ begin three.
      same_before _ (same_assignments text section.0 begin.1 n m (omega arith) (omega arith)))))

  same_front_by : (kind : BlockKind) (heading : Heading) (tokens : List Token) → IsSameAbove (length tokens) (λ turns. front_by kind turns text heading tokens)
  same_front_by (Code kind) heading tokens n m h k = same_before _ (same_code_front heading kind tokens n m h k)
  same_front_by Data heading tokens n m h k = same_before _ (same_data heading tokens n m h k)

  pub same_front : (tokens : List Token) → IsSameAbove (length tokens) (λ turns. front_at turns text tokens)
  unfolding front_at
  same_front tokens n m h k = same_after (heading_leaves tokens) (λ heading less. same_front_by heading.0.kind heading.0 heading.1 n m (omega arith) (omega arith))
