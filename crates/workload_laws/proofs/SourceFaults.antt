-- The blocks of a made source have no fault.
use Rattle.std.proofs.Common.{◌≡◌, ◌≤◌, ◌+◌, ◌*◌, ℕ, List, [], ◌∷◌, ◌++◌, length, None, refl, ap, sym, subst, ◌∙◌, Bool, true, false, ◌&&◌, ◌||◌, ◌==◌, arith}
use Rattle.std.specs.Prelude.{min, map}
use Rattle.std.specs.List.{list_any}
use Rattle.std.specs.Str.{bytes_eq}
use Rattle.std.proofs.lemmas.Bool.{le-ltb, ne_eqb}
use Rattle.std.proofs.lemmas.List.Folds.{list_any-append}
use Rattle.s7_base.specs.declared.blocks.CodeKind.{CodeKind}
use Rattle.s7_base.specs.declared.blocks.CodeKind.TheVariants.{Ob, Fc}
use Rattle.stl_decl.specs.declared.fault.Fault.{Fault}
use Rattle.stl_decl.specs.declared.fault.FaultKind.TheVariants.{DoubleBlock, TooManyBlocks, TooLarge}
use Rattle.stl_reader.specs.Contents.{Contents}
use Rattle.block_loader.specs.declared.faults.Totals.{Totals}
use Rattle.block_loader.specs.declared.blocks.SourceBlock.{SourceBlock}
use Rattle.block_loader.specs.declared.blocks.SourceBlock.TheVariants.{Code}
use Rattle.block_loader.specs.Faults.{least_of, double_labels, kind_byte, name_of, counted, is_too_large, at_head, inner_faults, blocks_faults, no_totals, source_faults, first_fault}

-- a code block without temporary names
abbrev pub code_block : CodeKind → ℕ → ℕ → ℕ → Contents → SourceBlock
code_block kind number line column body = Code (record { kind = kind; number = number; line = line; column = column; temp = 0; body = body })

-- the block of this kind and number has few statements, and neither labels nor jumps
pub record IsPlain (kind : CodeKind) (number : ℕ) (x : SourceBlock) : Type 0 where
  pub line : ℕ
  pub column : ℕ
  pub body : Contents
  pub is : x ≡ code_block kind number line column body
  pub labels : body.labels ≡ []
  pub jumps : body.jumps ≡ []
  pub few : length body.statements ≤ 10

abbrev pub ArePlain : ℕ → List SourceBlock → Type 0
ArePlain i [] = Unit {0}
ArePlain i (x ∷ xs) = IsPlain Fc i x × ArePlain (i + 1) xs

no_head_fault : (a b c : Bool) (x : SourceBlock) (inner others : List Fault) → a ≡ false → b ≡ false → c ≡ false → inner ≡ []
    → (((at_head a DoubleBlock x ++ at_head b TooManyBlocks x) ++ at_head c TooLarge x) ++ inner) ++ others ≡ others
no_head_fault a b c x inner others ha hb hc hi = rw (ha, hb, hc, hi) refl

no_inner : (kind : CodeKind) (number line column : ℕ) (body : Contents) → body.labels ≡ [] → body.jumps ≡ [] → inner_faults (code_block kind number line column body) ≡ []
unfolding double_labels
no_inner kind number line column body labels jumps = rw (labels, jumps) refl

small_code : (t : Totals) (kind : CodeKind) (number line column : ℕ) (body : Contents) → length body.statements ≤ 10 → t.statements ≤ 10000
    → is_too_large (counted t (code_block kind number line column body)) (code_block kind number line column body) ≡ false
small_code t kind number line column body few low =
    let own : length body.statements ≤ 4000 = omega arith in
    let all : min (t.statements + length body.statements) 1000000 ≤ 12000 = omega arith in
    rw (le-ltb 4000 (length body.statements) own, le-ltb 12000 (min (t.statements + length body.statements) 1000000) all) refl

-- a block without fault, and those behind it
block_good : (b : ℕ) (front : List (List ℕ)) (t : Totals) (kind : CodeKind) (number : ℕ) (x : SourceBlock) (xs : List SourceBlock) → IsPlain kind number x
    → list_any (λ n. bytes_eq n (kind_byte kind ∷ number ∷ [])) front ≡ false → b ≤ 256 → t.statements ≤ 10000
    → blocks_faults b front t (x ∷ xs) ≡ blocks_faults (b + 1) (front ++ (kind_byte kind ∷ number ∷ []) ∷ []) (counted t x) xs
unfolding blocks_faults
block_good b front t kind number x xs plain fresh place low =
    let y = code_block kind number plain.line plain.column plain.body in
    subst (λ (z : SourceBlock). blocks_faults b front t (z ∷ xs) ≡ blocks_faults (b + 1) (front ++ (kind_byte kind ∷ number ∷ []) ∷ []) (counted t z) xs) (sym plain.is)
    (no_head_fault (list_any (λ n. bytes_eq n (kind_byte kind ∷ number ∷ [])) front) (b == 257) (is_too_large (counted t y) y) y (inner_faults y) (blocks_faults (b + 1) (front ++ (kind_byte kind ∷ number ∷ []) ∷ []) (counted t y) xs)
    fresh (ne_eqb b 257 (λ e. omega (arith, e, place))) (small_code t kind number plain.line plain.column plain.body plain.few low)
    (no_inner kind number plain.line plain.column plain.body plain.labels plain.jumps))

counted_more : (t : Totals) (kind : CodeKind) (number : ℕ) (x : SourceBlock) → IsPlain kind number x → (counted t x).statements ≤ t.statements + 10
counted_more t kind number x plain =
    let few = plain.few in
    subst (λ (z : SourceBlock). (counted t z).statements ≤ t.statements + 10) (sym plain.is) (omega (arith, few))

other_number : (kind i j : ℕ) → (i ≡ j → ⊥) → bytes_eq (kind ∷ i ∷ []) (kind ∷ j ∷ []) ≡ false
other_number kind i j differ = rw (ne_eqb i j differ) (and_false (kind == kind))
  where
    and_false : (b : Bool) → (b && false) ≡ false
    and_false true = refl
    and_false false = refl

no_functions : (xs : List SourceBlock) (i b : ℕ) (front : List (List ℕ)) (t : Totals) → ArePlain i xs → ((j : ℕ) → i ≤ j → list_any (λ n. bytes_eq n (2 ∷ j ∷ [])) front ≡ false)
    → b + length xs ≤ 257 → t.statements + 10 * length xs ≤ 10000 → blocks_faults b front t xs ≡ []
unfolding blocks_faults
no_functions [] i b front t plain fresh few low = refl
no_functions (x ∷ xs) i b front t plain fresh few low =
    let more = counted_more t Fc i x plain.0 in
    block_good b front t Fc i x xs plain.0 (fresh i (omega arith)) (omega arith) (omega arith)
    ∙ no_functions xs (i + 1) (b + 1) (front ++ (2 ∷ i ∷ []) ∷ []) (counted t x) plain.1
    (λ j above. list_any-append (λ n. bytes_eq n (2 ∷ j ∷ [])) front ((2 ∷ i ∷ []) ∷ [])
    ∙ both_false (list_any (λ n. bytes_eq n (2 ∷ j ∷ [])) front) (bytes_eq (2 ∷ i ∷ []) (2 ∷ j ∷ [])) (fresh j (omega arith)) (other_number 2 i j (λ e. omega (arith, e, above))))
    (omega arith) (omega (arith, more))
  where
    both_false : (a b : Bool) → a ≡ false → b ≡ false → (a || (b || false)) ≡ false
    both_false a b ha hb = rw (ha, hb) refl

-- OB1, OB40 and functions 1 to some number
pub blocks_good : (x y : SourceBlock) (xs : List SourceBlock) → IsPlain Ob 1 x → IsPlain Ob 40 y → ArePlain 1 xs → length xs ≤ 200 → first_fault (x ∷ y ∷ xs) ≡ None
unfolding least_of
blocks_good x y xs one forty plain few =
    let a = counted_more no_totals Ob 1 x one in
    let b = counted_more (counted no_totals x) Ob 40 y forty in
    let none : blocks_faults 1 [] no_totals (x ∷ y ∷ xs) ≡ [] =
    block_good 1 [] no_totals Ob 1 x (y ∷ xs) one refl (omega arith) (omega arith)
    ∙ block_good 2 ((0 ∷ 1 ∷ []) ∷ []) (counted no_totals x) Ob 40 y xs forty refl (omega arith) (omega (arith, a))
    ∙ no_functions xs 1 3 ((0 ∷ 1 ∷ []) ∷ (0 ∷ 40 ∷ []) ∷ []) (counted (counted no_totals x) y) plain (λ j above. refl) (omega arith) (omega (arith, a, b)) in
    let there : list_any (λ n. bytes_eq n (0 ∷ 1 ∷ [])) (map name_of (x ∷ y ∷ xs)) ≡ true =
    subst (λ (z : SourceBlock). list_any (λ n. bytes_eq n (0 ∷ 1 ∷ [])) (map name_of (z ∷ y ∷ xs)) ≡ true) (sym one.is) refl in
    let faults : source_faults (x ∷ y ∷ xs) ≡ [] = rw (none, there) refl in
    ap (λ (fs : List Fault). least_of None fs) faults
