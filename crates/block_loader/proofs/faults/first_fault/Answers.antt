use Rattle.std.proofs.Common.{◌≡◌, ◌∙◌, ◌+◌, ◌++◌, ◌∷◌, [], ℕ, List, Bool, true, false, cond, not, refl, subst, arith, ap, take, map}
use Rattle.std.specs.List.{list_any}
use Rattle.std.specs.Str.{bytes_eq}
use Rattle.indexmap.specs.IndexSet.{contains}
use Rattle.block_loader.specs.Faults.{name_of, head_faults, inner_faults, counted, least_of, missing}
use Rattle.block_loader.specs.declared.faults.Totals.{Totals}
use Rattle.block_loader.proofs.Sources.{more_names, next_block, next_names, no_block}
use Rattle.block_loader.proofs.faults.first_fault.Goals as goal

twice : (t : Bool) → not (not t) ≡ t
twice true = refl
twice false = refl

pub loop-block-preserved : goal.loop-block-preserved
loop-block-preserved c =
    let b = c.block-item.result in
    let i = c.loop-block.block-index in
    let front : List (List ℕ) = map name_of (take i c.args.blocks.now) in
    let next : front ++ name_of b ∷ [] ≡ map name_of (take (i + 1) c.args.blocks.now) = next_names c.args.blocks.now i b front c.loop-block.totals (omega arith) c.block-item.is refl in
    let number : c.loop-block.number + 1 ≡ i + 1 = ap (λ n. n + 1) c.loop-block.invariant.count in
    let is_taken : Bool = list_any (λ n. bytes_eq n (name_of b)) front in
    let taken : not c.in_ok-taken.field-0 ≡ is_taken =
    ap not c.in_ok-taken.ensures.added ∙ twice (contains bytes_eq c.loop-block.names c.name.result) ∙ ap (λ n. contains bytes_eq c.loop-block.names n) c.name.ensures ∙ c.loop-block.invariant.names (name_of b) in
    let head : c.take_head-least.result ≡ least_of c.loop-block.least (head_faults is_taken (i + 1) (counted c.loop-block.totals b) b) =
    c.take_head-least.ensures
    ∙ ap (λ (t : Bool). least_of c.loop-block.least (head_faults t (c.loop-block.number + 1) c.counted-totals.result b)) taken
    ∙ ap (λ (n : ℕ). least_of c.loop-block.least (head_faults is_taken n c.counted-totals.result b)) number
    ∙ ap (λ (t : Totals). least_of c.loop-block.least (head_faults is_taken (i + 1) t b)) c.counted-totals.ensures.exact in
    let inner : c.in_ok-least.least ≡ least_of c.take_head-least.result (inner_faults b) = c.in_ok-least.ensures in
    let found = next_block c.args.blocks.now i b front c.loop-block.totals c.loop-block.least c.take_head-least.result c.in_ok-least.least _ (omega arith) c.block-item.is head inner c.loop-block.invariant.found in
    let more = more_names (contains bytes_eq c.loop-block.names) (contains bytes_eq c.insert.new.self) front (name_of b) c.loop-block.invariant.names (subst (λ name. (k : List ℕ) → contains bytes_eq c.insert.new.self k ≡ cond (bytes_eq name k) true (contains bytes_eq c.loop-block.names k)) c.name.ensures c.in_ok-taken.ensures.updates.0) in
    record {
      names = subst (λ ns. (k : List ℕ) → contains bytes_eq c.insert.new.self k ≡ list_any (λ n. bytes_eq n k) ns) next more;
      count = number;
      found = rw (← next, c.counted-totals.ensures.exact) found;
      statements = c.counted-totals.ensures.statements;
      bytes = c.counted-totals.ensures.bytes;
      pages = c.counted-totals.ensures.pages;
    }

pub returns : goal.returns
returns c =
    no_block c.args.blocks.now c.loop-block.block-index (map name_of (take c.loop-block.block-index c.args.blocks.now)) c.loop-block.totals c.loop-block.least c.take_missing.result (omega arith) refl c.loop-block.invariant.found
    (c.take_missing.ensures ∙ ap (λ t. least_of c.loop-block.least (missing t)) (c.contains.ensures ∙ c.loop-block.invariant.names (0 ∷ 1 ∷ [])))
