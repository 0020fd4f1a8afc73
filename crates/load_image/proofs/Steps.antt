-- The steps of the loops.
use Rattle.std.proofs.Common.{◌≡◌, ℕ, suc, ◌+◌, ◌-◌, ◌<◌, ◌≤◌, List, [], ◌∷◌, ◌++◌, length, get_or, take, drop, All, sym, ap, subst, ◌∙◌, append_assoc, add-zero, arith, length-append}
use Rattle.std.specs.List.{flat_map}
use Rattle.std.proofs.lemmas.List.{append-nil, take-append-drop, take_more, take_all, drop_more, flat_map_more}
use Rattle.std.proofs.lemmas.List.Elements.{All-push, All-more}
use Rattle.std.proofs.lemmas.List.Concat.{flat_map-append}
use Rattle.s7_base.specs.declared.statement.Statement.{Statement}
use Rattle.s7_base.specs.Blocks.{Code, Data}
use Rattle.load_image.specs.Image.{statement_bytes, entries, IsStoredStatement}
use Rattle.load_image.specs.Reading.{first_statement, statements_in, body_length, code_here, data_here, codes_in, data_in}

-- writing: the entries and bodies of the first blocks are added

entries_more : {X : Type 0} (body : X → List ℕ) (entry_at : ℕ → X → List ℕ) (offset : ℕ) (xs : List X) (y : X) → entries body entry_at offset (xs ++ y ∷ []) ≡ entries body entry_at offset xs ++ entry_at (offset + length (flat_map body xs)) y
entries_more body entry_at offset [] y = append-nil (entry_at offset y) ∙ ap (λ (n : ℕ). entry_at n y) (sym (add-zero offset))
entries_more body entry_at offset (x ∷ xs) y =
    let next = offset + length (body x) in
    let place : next + length (flat_map body xs) ≡ offset + length (body x ++ flat_map body xs) = omega (arith, length-append (body x) (flat_map body xs)) in
    ap (λ (z : List ℕ). entry_at offset x ++ z) (entries_more body entry_at next xs y)
    ∙ sym (append_assoc (entry_at offset x) (entries body entry_at next xs) (entry_at (next + length (flat_map body xs)) y))
    ∙ ap (λ (n : ℕ). (entry_at offset x ++ entries body entry_at next xs) ++ entry_at n y) place

pub record IsPut {X : Type 0} (body : X → List ℕ) (entry_at : ℕ → X → List ℕ) (Fits : X → Type 0) (first : ℕ) (d0 b0 d b : List ℕ) (done : List X) : Type 0 where
  pub directory : d ≡ d0 ++ entries body entry_at (first + length b0) done
  pub bodies : b ≡ b0 ++ flat_map body done
  pub fits : All Fits done

put_more : {X : Type 0} (body : X → List ℕ) (entry_at : ℕ → X → List ℕ) (Fits : X → Type 0) (first : ℕ) (d0 b0 d b d1 b1 : List ℕ) (done : List X) (x : X) → d1 ≡ d ++ entry_at (first + length b) x → b1 ≡ b ++ body x → Fits x → IsPut body entry_at Fits first d0 b0 d b done → IsPut body entry_at Fits first d0 b0 d1 b1 (done ++ x ∷ [])
put_more body entry_at Fits first d0 b0 d b d1 b1 done x dir bod fit put =
    let from = first + length b0 in
    let place : first + length b ≡ from + length (flat_map body done) = omega (arith, ap (λ (z : List ℕ). length z) put.bodies, length-append b0 (flat_map body done)) in
    record {
      directory =
          dir
          ∙ ap (λ (z : List ℕ). z ++ entry_at (first + length b) x) put.directory
          ∙ append_assoc d0 (entries body entry_at from done) (entry_at (first + length b) x)
          ∙ ap (λ (n : ℕ). d0 ++ (entries body entry_at from done ++ entry_at n x)) place
          ∙ ap (λ (z : List ℕ). d0 ++ z) (sym (entries_more body entry_at from done x));
      bodies = bod ∙ ap (λ (z : List ℕ). z ++ body x) put.bodies ∙ flat_map_more body b0 done x;
      fits = All-push Fits done x put.fits fit;
    }

pub put_next : {X : Type 0} (body : X → List ℕ) (entry_at : ℕ → X → List ℕ) (Fits : X → Type 0) (first : ℕ) (d0 b0 d b d1 b1 : List ℕ) (xs : List X) (i : ℕ) (x : X) → i < length xs → x ≡ get_or xs i x → d1 ≡ d ++ entry_at (first + length b) x → b1 ≡ b ++ body x → Fits x → IsPut body entry_at Fits first d0 b0 d b (take i xs) → IsPut body entry_at Fits first d0 b0 d1 b1 (take (i + 1) xs)
put_next {X} body entry_at Fits first d0 b0 d b d1 b1 xs i x lt is dir bod fit put =
    let more : take i xs ++ x ∷ [] ≡ take (i + 1) xs = ap (λ (y : X). take i xs ++ y ∷ []) is ∙ sym (take_more xs i x lt) in
    subst (λ (done : List X). IsPut body entry_at Fits first d0 b0 d1 b1 done) more (put_more body entry_at Fits first d0 b0 d b d1 b1 (take i xs) x dir bod fit put)

pub put_all : {X : Type 0} (body : X → List ℕ) (entry_at : ℕ → X → List ℕ) (Fits : X → Type 0) (first : ℕ) (d0 b0 d b : List ℕ) (xs : List X) (i : ℕ) → length xs ≤ i → IsPut body entry_at Fits first d0 b0 d b (take i xs) → IsPut body entry_at Fits first d0 b0 d b xs
put_all {X} body entry_at Fits first d0 b0 d b xs i le put = subst (λ (done : List X). IsPut body entry_at Fits first d0 b0 d b done) (take_all i xs le) put

-- the next body ends before the last one does
pub put_room : {X : Type 0} (body : X → List ℕ) (first limit : ℕ) (b0 b : List ℕ) (xs : List X) (i : ℕ) (x : X) → i < length xs → x ≡ get_or xs i x → b ≡ b0 ++ flat_map body (take i xs) → first + length b0 + length (flat_map body xs) < limit → first + length b + length (body x) < limit
put_room {X} body first limit b0 b xs i x lt is put below =
    let rest : drop i xs ≡ x ∷ drop (i + 1) xs = drop_more xs i x lt ∙ ap (λ (y : X). y ∷ drop (i + 1) xs) (sym is) in
    let parts : flat_map body xs ≡ flat_map body (take i xs) ++ (body x ++ flat_map body (drop (i + 1) xs)) =
    ap (λ (ys : List X). flat_map body ys) (sym (take-append-drop i xs)) ∙ flat_map-append body (take i xs) (drop i xs) ∙ ap (λ (ys : List X). flat_map body (take i xs) ++ flat_map body ys) rest in
    omega (arith, below, ap (λ (z : List ℕ). length z) parts, ap (λ (z : List ℕ). length z) put, length-append b0 (flat_map body (take i xs)), length-append (flat_map body (take i xs)) (body x ++ flat_map body (drop (i + 1) xs)), length-append (body x) (flat_map body (drop (i + 1) xs)))

-- reading: what is read before and what is still to read are the whole

pub statements_go_on : (front front1 : List Statement) (count i : ℕ) (rest after : List ℕ) (s : Statement) (total : List Statement) → i < count → front1 ≡ front ++ s ∷ [] → s ≡ first_statement rest → after ≡ drop 12 rest → front ++ statements_in (count - i) rest ≡ total → front1 ++ statements_in (count - (i + 1)) after ≡ total
statements_go_on front front1 count i rest after s total lt pushed is left so_far =
    let k : count - i ≡ suc (count - (i + 1)) = omega arith in
    let one : front ++ statements_in (count - i) rest ≡ front ++ (first_statement rest ∷ statements_in (count - (i + 1)) (drop 12 rest)) = ap (λ (n : ℕ). front ++ statements_in n rest) k in
    ap (λ (z : List ℕ). front1 ++ statements_in (count - (i + 1)) z) left
    ∙ ap (λ (z : List Statement). z ++ statements_in (count - (i + 1)) (drop 12 rest)) pushed
    ∙ append_assoc front (s ∷ []) (statements_in (count - (i + 1)) (drop 12 rest))
    ∙ ap (λ (x : Statement). front ++ (x ∷ statements_in (count - (i + 1)) (drop 12 rest))) is
    ∙ sym one ∙ so_far

pub statements_done : (front : List Statement) (count i : ℕ) (rest : List ℕ) (total : List Statement) → count ≤ i → front ++ statements_in (count - i) rest ≡ total → front ≡ total
statements_done front count i rest total le so_far =
    let k : count - i ≡ 0 = omega arith in
    sym (append-nil front) ∙ ap (λ (n : ℕ). front ++ statements_in n rest) (sym k) ∙ so_far

pub codes_go_on : (front front1 : List Code) (count i : ℕ) (rest left body beyond after : List ℕ) (total : List Code) → i < count → body ≡ take (body_length rest) left → beyond ≡ drop (body_length rest) left → front1 ≡ front ++ code_here rest body → after ≡ drop 16 rest → front ++ codes_in (count - i) rest left ≡ total → front1 ++ codes_in (count - (i + 1)) after beyond ≡ total
codes_go_on front front1 count i rest left body beyond after total lt b d pushed is so_far =
    let k : count - i ≡ suc (count - (i + 1)) = omega arith in
    let n = count - (i + 1) in
    let here = code_here rest (take (body_length rest) left) in
    let more = codes_in n (drop 16 rest) (drop (body_length rest) left) in
    let one : front ++ codes_in (count - i) rest left ≡ front ++ (here ++ more) = ap (λ (m : ℕ). front ++ codes_in m rest left) k in
    ap (λ (z : List ℕ). front1 ++ codes_in n z beyond) is
    ∙ ap (λ (z : List Code). z ++ codes_in n (drop 16 rest) beyond) pushed
    ∙ ap (λ (x : List ℕ). (front ++ code_here rest x) ++ codes_in n (drop 16 rest) beyond) b
    ∙ ap (λ (x : List ℕ). (front ++ here) ++ codes_in n (drop 16 rest) x) d
    ∙ append_assoc front here more ∙ sym one ∙ so_far

pub codes_done : (front : List Code) (count i : ℕ) (rest left : List ℕ) (total : List Code) → count ≤ i → front ++ codes_in (count - i) rest left ≡ total → front ≡ total
codes_done front count i rest left total le so_far =
    let k : count - i ≡ 0 = omega arith in
    sym (append-nil front) ∙ ap (λ (n : ℕ). front ++ codes_in n rest left) (sym k) ∙ so_far

pub data_go_on : (front front1 : List Data) (count i : ℕ) (rest left body beyond after : List ℕ) (total : List Data) → i < count → body ≡ take (body_length rest) left → beyond ≡ drop (body_length rest) left → front1 ≡ front ++ data_here rest body → after ≡ drop 16 rest → front ++ data_in (count - i) rest left ≡ total → front1 ++ data_in (count - (i + 1)) after beyond ≡ total
data_go_on front front1 count i rest left body beyond after total lt b d pushed is so_far =
    let k : count - i ≡ suc (count - (i + 1)) = omega arith in
    let n = count - (i + 1) in
    let here = data_here rest (take (body_length rest) left) in
    let more = data_in n (drop 16 rest) (drop (body_length rest) left) in
    let one : front ++ data_in (count - i) rest left ≡ front ++ (here ++ more) = ap (λ (m : ℕ). front ++ data_in m rest left) k in
    ap (λ (z : List ℕ). front1 ++ data_in n z beyond) is
    ∙ ap (λ (z : List Data). z ++ data_in n (drop 16 rest) beyond) pushed
    ∙ ap (λ (x : List ℕ). (front ++ data_here rest x) ++ data_in n (drop 16 rest) beyond) b
    ∙ ap (λ (x : List ℕ). (front ++ here) ++ data_in n (drop 16 rest) x) d
    ∙ append_assoc front here more ∙ sym one ∙ so_far

pub data_done : (front : List Data) (count i : ℕ) (rest left : List ℕ) (total : List Data) → count ≤ i → front ++ data_in (count - i) rest left ≡ total → front ≡ total
data_done front count i rest left total le so_far =
    let k : count - i ≡ 0 = omega arith in
    sym (append-nil front) ∙ ap (λ (n : ℕ). front ++ data_in n rest left) (sym k) ∙ so_far

-- statements written one after another

pub statements_next : (out0 out out1 : List ℕ) (ss : List Statement) (i : ℕ) (d : Statement) → i < length ss → out1 ≡ out ++ statement_bytes (get_or ss i d) → IsStoredStatement (get_or ss i d)
    → (out ≡ out0 ++ flat_map statement_bytes (take i ss)) × All IsStoredStatement (take i ss)
    → (out1 ≡ out0 ++ flat_map statement_bytes (take (i + 1) ss)) × All IsStoredStatement (take (i + 1) ss)
statements_next out0 out out1 ss i d lt put fits so_far = (
  put
      ∙ ap (λ (z : List ℕ). z ++ statement_bytes (get_or ss i d)) so_far.0
      ∙ flat_map_more statement_bytes out0 (take i ss) (get_or ss i d)
      ∙ ap (λ (z : List Statement). out0 ++ flat_map statement_bytes z) (sym (take_more ss i d lt)),
  All-more IsStoredStatement ss i d lt so_far.1 fits,
)

pub five_put : (o0 o1 o2 o3 o4 o5 a b c d e : List ℕ) → o1 ≡ o0 ++ a → o2 ≡ o1 ++ b → o3 ≡ o2 ++ c → o4 ≡ o3 ++ d → o5 ≡ o4 ++ e → o5 ≡ o0 ++ (a ++ b ++ c ++ d ++ e)
five_put o0 o1 o2 o3 o4 o5 a b c d e p q r s t =
    let regrouped : ((((o0 ++ a) ++ b) ++ c) ++ d) ++ e ≡ o0 ++ (a ++ b ++ c ++ d ++ e) = simp append_assoc in
    t ∙ ap (λ (x : List ℕ). x ++ e) (s ∙ ap (λ (x : List ℕ). x ++ d) (r ∙ ap (λ (x : List ℕ). x ++ c) (q ∙ ap (λ (x : List ℕ). x ++ b) p))) ∙ regrouped
