-- One more block of the whole source.
use Rattle.std.proofs.Common.{◌≡◌, ◌≤◌, ◌<◌, ◌==◌, ℕ, suc, List, [], ◌∷◌, ◌++◌, ◌+◌, refl, subst, ap, arith, sym, ◌∙◌, Bool, true, false, cond, ◌||◌, length, take, drop, get_or, map}
use Rattle.std.proofs.Math.Seq.{drop-cons}
use Rattle.std.proofs.lemmas.List.{take_more, map_push, take_all}
use Rattle.std.proofs.lemmas.List.Folds.{list_any-append}
use Rattle.std.proofs.Math.ListN.{drop_of_length-le}
use Rattle.std.specs.Prelude.{Option, None}
use Rattle.std.specs.List.{list_any}
use Rattle.std.specs.Str.{bytes_eq}
use Rattle.stl_decl.specs.declared.fault.FaultKind.TheVariants.{DoubleBlock, TooManyBlocks, TooLarge}
use Rattle.stl_decl.specs.declared.fault.Fault.{Fault}
use Rattle.block_loader.specs.declared.faults.Totals.{Totals}
use Rattle.block_loader.specs.declared.blocks.SourceBlock.{SourceBlock}
use Rattle.block_loader.specs.Faults.{least_of, blocks_faults, head_faults, at_head, is_too_large, inner_faults, name_of, counted, missing, no_totals, first_fault}
use Rattle.block_loader.proofs.Names.{least_append}

-- the three faults at a head, one after the other
pub heads_found : (taken : Bool) (b : ℕ) (t : Totals) (block : SourceBlock) (o o1 o2 o3 : Option Fault) (large : Bool) → o1 ≡ least_of o (at_head taken DoubleBlock block) → o2 ≡ least_of o1 (at_head (b == 257) TooManyBlocks block) → large ≡ is_too_large t block → o3 ≡ least_of o2 (at_head large TooLarge block) → o3 ≡ least_of o (head_faults taken b t block)
heads_found taken b t block o o1 o2 o3 large e f l g =
    g ∙ ap (λ (w : Bool). least_of o2 (at_head w TooLarge block)) l
    ∙ ap (λ (p : Option Fault). least_of p (at_head (is_too_large t block) TooLarge block)) (f ∙ ap (λ (p : Option Fault). least_of p (at_head (b == 257) TooManyBlocks block)) e ∙ sym (least_append o (at_head taken DoubleBlock block) (at_head (b == 257) TooManyBlocks block)))
    ∙ sym (least_append o (at_head taken DoubleBlock block ++ at_head (b == 257) TooManyBlocks block) (at_head (is_too_large t block) TooLarge block))

either : (t u : Bool) → cond t true u ≡ (u || (t || false))
either true true = refl
either true false = refl
either false true = refl
either false false = refl

-- a set of the names with one name more
pub more_names : (has next : List ℕ → Bool) (front : List (List ℕ)) (name : List ℕ) → ((k : List ℕ) → has k ≡ list_any (λ n. bytes_eq n k) front) → ((k : List ℕ) → next k ≡ cond (bytes_eq name k) true (has k)) → (k : List ℕ) → next k ≡ list_any (λ n. bytes_eq n k) (front ++ name ∷ [])
more_names has next front name here more k =
    more k ∙ ap (λ t. cond (bytes_eq name k) true t) (here k) ∙ either (bytes_eq name k) (list_any (λ n. bytes_eq n k) front)
    ∙ sym (list_any-append (λ n. bytes_eq n k) front (name ∷ []))

module _ (blocks : List SourceBlock) (i : ℕ) (block : SourceBlock) (front : List (List ℕ)) (t : Totals) where
  abbrev is_taken : Bool
  is_taken = list_any (λ n. bytes_eq n (name_of block)) front

  pub next_block : (o o' o'' all : Option Fault) → i < length blocks → block ≡ get_or blocks i block → o' ≡ least_of o (head_faults is_taken (i + 1) (counted t block) block) → o'' ≡ least_of o' (inner_faults block) → least_of o (blocks_faults (i + 1) front t (drop i blocks)) ≡ all → least_of o'' (blocks_faults (i + 1 + 1) (front ++ name_of block ∷ []) (counted t block) (drop (i + 1) blocks)) ≡ all
  unfolding blocks_faults
  next_block o o' o'' all h is f g here =
      let d : List Fault = head_faults is_taken (i + 1) (counted t block) block in
      let inner : List Fault = inner_faults block in
      let rest : List Fault = blocks_faults (i + 1 + 1) (front ++ name_of block ∷ []) (counted t block) (drop (suc i) blocks) in
      let split : drop i blocks ≡ block ∷ drop (suc i) blocks = drop-cons blocks i block h ∙ ap (λ b. b ∷ drop (suc i) blocks) (sym is) in
      let more : least_of o ((d ++ inner) ++ rest) ≡ all = subst (λ ys. least_of o (blocks_faults (i + 1) front t ys) ≡ all) split here in
      let two : least_of o'' rest ≡ least_of o ((d ++ inner) ++ rest) =
      ap (λ (p : Option Fault). least_of p rest) (g ∙ ap (λ (p : Option Fault). least_of p inner) f ∙ sym (least_append o d inner)) ∙ sym (least_append o (d ++ inner) rest) in
      subst (λ n. least_of o'' (blocks_faults (i + 1 + 1) (front ++ name_of block ∷ []) (counted t block) (drop n blocks)) ≡ all) (sym (add_one i)) (two ∙ more)
    where
      add_one : (n : ℕ) → n + 1 ≡ suc n
      add_one n = omega arith

  pub next_names : i < length blocks → block ≡ get_or blocks i block → front ≡ map name_of (take i blocks) → front ++ name_of block ∷ [] ≡ map name_of (take (i + 1) blocks)
  next_names h is here =
      let e : take (i + 1) blocks ≡ take i blocks ++ block ∷ [] = take_more blocks i block h ∙ ap (λ b. take i blocks ++ b ∷ []) (sym is) in
      rw (e, map_push name_of (take i blocks) block, here) refl

-- no block is left
pub no_block : (blocks : List SourceBlock) (i : ℕ) (front : List (List ℕ)) (t : Totals) (o o' : Option Fault) → length blocks ≤ i → front ≡ map name_of (take i blocks) → least_of o (blocks_faults (i + 1) front t (drop i blocks)) ≡ least_of None (blocks_faults 1 [] no_totals blocks) → o' ≡ least_of o (missing (list_any (λ n. bytes_eq n (0 ∷ 1 ∷ [])) front)) → o' ≡ first_fault blocks
unfolding blocks_faults least_of
no_block blocks i front t o o' h e here f =
    let none : drop i blocks ≡ [] = drop_of_length-le blocks h in
    let whole : take i blocks ≡ blocks = take_all i blocks h in
    let found : o ≡ least_of None (blocks_faults 1 [] no_totals blocks) = subst (λ ys. least_of o (blocks_faults (i + 1) front t ys) ≡ least_of None (blocks_faults 1 [] no_totals blocks)) none here in
    let all_names : front ≡ map name_of blocks = e ∙ ap (λ bs. map name_of bs) whole in
    f ∙ ap (λ ns. least_of o (missing (list_any (λ n. bytes_eq n (0 ∷ 1 ∷ [])) ns))) all_names
    ∙ ap (λ p. least_of p (missing (list_any (λ n. bytes_eq n (0 ∷ 1 ∷ [])) (map name_of blocks)))) found
    ∙ sym (least_append None (blocks_faults 1 [] no_totals blocks) (missing (list_any (λ n. bytes_eq n (0 ∷ 1 ∷ [])) (map name_of blocks))))
