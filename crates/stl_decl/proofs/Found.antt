-- The names of a layout, found in the list through their places in the map.
use Rattle.std.proofs.Common.{◌≡◌, ◌<◌, ◌∙◌, ℕ, suc, List, [], ◌∷◌, ◌++◌, refl, ap, sym, subst, Bool, true, false, cond, map, length, get_or, arith}
use Rattle.std.specs.Prelude.{Option, Some, None, Vec}
use Rattle.std.specs.declared.cmp.Ordering.{Ordering}
use Rattle.std.specs.declared.cmp.Ordering.TheVariants.{Less, Equal, Greater}
use Rattle.std.specs.declared.alloc.Global.{Global}
use Rattle.std.specs.Option.{option_map, unwrap_or}
use Rattle.std.specs.Ordering.{nat_cmp, is_eq, match_ordering}
use Rattle.std.specs.Cmp.Lexicographic.{slice_cmp}
use Rattle.std.specs.BTreeMap.{insert_entry, is_at}
use Rattle.std.specs.Map.{lookup}
use Rattle.std.specs.List.{find}
use Rattle.std.specs.Str.{bytes_eq}
use Rattle.std.proofs.lemmas.List.{map-append, length-map}
use Rattle.std.proofs.lemmas.Map.Text.{is_eq-slice_cmp}
use Rattle.std.proofs.lemmas.Slice.Eq.{bytes_eq-Decides}
use Rattle.stl_decl.specs.Layout.{Name, named, place_of, variable_among}
use Rattle.stl_decl.specs.declared.names.DeclaredName.{DeclaredName}

-- a place in the list, and what the name there stands for
abbrev IsAt : List DeclaredName → Option Name → ℕ → DeclaredName → Type 0
IsAt es p i d = (i < length es) × (option_map (λ n. n.variable) p ≡ Some (get_or es i d).variable)

by_place : (b : Bool) (e : DeclaredName) (es : List DeclaredName) (o : Option ℕ) (p : Option Name) (i : ℕ) (d : DeclaredName) → ((j : ℕ) → o ≡ Some j → IsAt es p j d) → cond b (Some 0) (option_map suc o) ≡ Some i → IsAt (e ∷ es) (cond b (Some (named e)) p) i d
by_place true e es o p i d rest h =
    let same : 0 ≡ i = ap (λ x. unwrap_or x 0) h in
    subst (λ k. IsAt (e ∷ es) (Some (named e)) k d) same (omega arith, refl)
by_place false e es None p i d rest h = absurd cc
by_place false e es (Some j) p i d rest h =
    let same : suc j ≡ i = ap (λ x. unwrap_or x 0) h in
    let here : IsAt es p j d = rest j refl in
    subst (λ k. IsAt (e ∷ es) p k d) same (omega (arith, here.0), here.1)

-- at its place stands what the name is
pub found : (es : List DeclaredName) (word : List ℕ) (i : ℕ) (d : DeclaredName) → place_of (map named es) word ≡ Some i → (i < length es) × (variable_among (map named es) word ≡ Some (get_or es i d).variable)
unfolding place_of
found [] word i d h = absurd cc
found (e ∷ es) word i d h =
    by_place (bytes_eq word e.name.items) e es (place_of (map named es) word) (find (λ n. bytes_eq word n.name) (map named es)) i d (λ j. found es word j d) h

-- a place in the list is below its length
pub found_within : (es : List DeclaredName) (word : List ℕ) (i : ℕ) → place_of (map named es) word ≡ Some i → i < length es
unfolding place_of
found_within [] word i h = absurd cc
found_within (e ∷ es) word i h = (found (e ∷ es) word i e h).0

by_none : (b : Bool) (n : Name) (o : Option ℕ) (p : Option Name) → (o ≡ None → option_map (λ m. m.variable) p ≡ None) → cond b (Some 0) (option_map suc o) ≡ None → option_map (λ m. m.variable) (cond b (Some n) p) ≡ None
by_none true n o p rest h = absurd cc
by_none false n None p rest h = rest refl
by_none false n (Some i) p rest h = absurd cc

-- a name without a place stands for nothing
pub not_found : (ns : List Name) (word : List ℕ) → place_of ns word ≡ None → variable_among ns word ≡ None
unfolding place_of
not_found [] word h = refl
not_found (n ∷ ns) word h = by_none (bytes_eq word n.name) n (place_of ns word) (find (λ m. bytes_eq word m.name) ns) (not_found ns word) h

by_fresh : (b : Bool) (n : Name) (o : Option ℕ) (p : Option Name) → (option_map (λ m. m.variable) p ≡ None → o ≡ None) → option_map (λ m. m.variable) (cond b (Some n) p) ≡ None → cond b (Some 0) (option_map suc o) ≡ None
by_fresh true n o p rest h = absurd cc
by_fresh false n o p rest h = ap (option_map suc) (rest h)

-- a name that stands for nothing has no place
pub no_place : (ns : List Name) (word : List ℕ) → variable_among ns word ≡ None → place_of ns word ≡ None
unfolding place_of
no_place [] word h = refl
no_place (n ∷ ns) word h = by_fresh (bytes_eq word n.name) n (place_of ns word) (find (λ m. bytes_eq word m.name) ns) (no_place ns word) h

-- names are equal from either side
turned : (a b : List ℕ) → bytes_eq a b ≡ bytes_eq b a
turned a b = by (bytes_eq a b) (bytes_eq b a) refl refl
  where
    by : (t u : Bool) → bytes_eq a b ≡ t → bytes_eq b a ≡ u → t ≡ u
    by true true e f = refl
    by false false e f = refl
    by true false e f = let s : bytes_eq b a ≡ true = (bytes_eq-Decides b a).1 (sym ((bytes_eq-Decides a b).0 e)) in cc
    by false true e f = let s : bytes_eq a b ≡ true = (bytes_eq-Decides a b).1 (sym ((bytes_eq-Decides b a).0 f)) in cc

-- the place of a word, where it is not among the names, is behind them if it is the name that is added
abbrev behind_all : Option ℕ → Bool → ℕ → Option ℕ
behind_all (Some i) b k = Some i
behind_all None b k = cond b (Some k) None

by_last : (b t : Bool) (o all : Option ℕ) (k : ℕ) → all ≡ behind_all o t k → cond b (Some 0) (option_map suc all) ≡ behind_all (cond b (Some 0) (option_map suc o)) t (suc k)
by_last true t o all k h = refl
by_last false t (Some i) all k h = ap (option_map suc) h
by_last false true None all k h = ap (option_map suc) h
by_last false false None all k h = ap (option_map suc) h

last_place : (ns : List Name) (n : Name) (word : List ℕ) → place_of (ns ++ n ∷ []) word ≡ behind_all (place_of ns word) (bytes_eq word n.name) (length ns)
unfolding place_of
last_place [] n word = refl
last_place (m ∷ ns) n word = by_last (bytes_eq word m.name) (bytes_eq word n.name) (place_of ns word) (place_of (ns ++ n ∷ []) word) (length ns) (last_place ns n word)

by_added : (b : Bool) (o : Option ℕ) (k : ℕ) → (b ≡ true → o ≡ None) → behind_all o b k ≡ cond b (Some k) o
by_added true None k h = refl
by_added true (Some i) k h = let z = h refl in absurd cc
by_added false None k h = refl
by_added false (Some i) k h = refl

-- one name more, which isn't there yet
pub place_added : (ns : List Name) (n : Name) (word : List ℕ) → place_of ns n.name ≡ None → place_of (ns ++ n ∷ []) word ≡ cond (bytes_eq word n.name) (Some (length ns)) (place_of ns word)
place_added ns n word fresh =
    last_place ns n word ∙ by_added (bytes_eq word n.name) (place_of ns word) (length ns) (λ is. subst (λ w. place_of ns w ≡ None) (sym ((bytes_eq-Decides word n.name).0 is)) fresh)

abbrev Key : Type 0
Key = Vec ℕ Global

abbrev entries_at : List ℕ → List (Key × ℕ) → Option ℕ
entries_at word es = lookup (is_at (λ (k : Key). slice_cmp nat_cmp word k.items)) es

abbrev order : Key → Key → Ordering
order a b = slice_cmp nat_cmp a.items b.items

-- what a word finds, by how the new key compares with the first one
by_order : (o : Ordering) (b t : Bool) (v x : ℕ) (old new : Option ℕ) → (b ≡ true → is_eq o ≡ t) → (is_eq o ≡ true → b ≡ t) → new ≡ cond b (Some v) old → match_ordering o (cond b (Some v) (cond t (Some x) old)) (cond t (Some v) old) (cond t (Some x) new) ≡ cond b (Some v) (cond t (Some x) old)
by_order Less b t v x old new h g e = refl
by_order Equal true t v x old new h g e = let z : true ≡ t = g refl in rw (← z) refl
by_order Equal false t v x old new h g e = let z : false ≡ t = g refl in rw (← z) refl
by_order Greater true t v x old new h g e = let z : false ≡ t = h refl in rw (← z) e
by_order Greater false t v x old new h g e = ap (cond t (Some x)) e

spread : (o : Ordering) (word : List ℕ) (a b c : List (Key × ℕ)) → entries_at word (match_ordering o a b c) ≡ match_ordering o (entries_at word a) (entries_at word b) (entries_at word c)
spread Less word a b c = refl
spread Equal word a b c = refl
spread Greater word a b c = refl

tested : (word : List ℕ) (k : Key) → is_at (λ (j : Key). slice_cmp nat_cmp word j.items) k ≡ bytes_eq word k.items
tested word k = is_eq-slice_cmp word k.items

-- what a word finds after an insertion
pub inserted : (es : List (Key × ℕ)) (k : Key) (v : ℕ) (word : List ℕ) → entries_at word (insert_entry order es k v) ≡ cond (bytes_eq word k.items) (Some v) (entries_at word es)
inserted [] k v word = ap (λ t. cond t (Some v) None) (tested word k)
inserted (e ∷ es) k v word =
    let b : Bool = bytes_eq word k.items in
    let t : Bool = bytes_eq word e.0.items in
    let o : Ordering = order k e.0 in
    let same : is_eq o ≡ bytes_eq k.items e.0.items = is_eq-slice_cmp k.items e.0.items in
    let equal : (is_eq o ≡ true → b ≡ t) = λ h. ap (bytes_eq word) ((bytes_eq-Decides k.items e.0.items).0 (sym same ∙ h)) in
    let first : (b ≡ true → is_eq o ≡ t) = λ h. same ∙ ap (λ w. bytes_eq w e.0.items) (sym ((bytes_eq-Decides word k.items).0 h)) in
    let step = by_order o b t v e.1 (entries_at word es) (entries_at word (insert_entry order es k v)) first equal (inserted es k v word) in
    spread o word ((k, v) ∷ e ∷ es) ((e.0, v) ∷ es) (e ∷ insert_entry order es k v)
    ∙ (rw (tested word k, tested word e.0) step)

-- no entries and no names
pub nothing_found : (es : List (Key × ℕ)) (ds : List DeclaredName) → es ≡ [] → ds ≡ [] → (word : List ℕ) → entries_at word es ≡ place_of (map named ds) word
unfolding place_of
nothing_found es ds e f word = rw (e, f) refl

module _ (ds all : List DeclaredName) (d : DeclaredName) (old new : List (Key × ℕ)) (k : Key) (v : ℕ) where
  -- a name more in the list, and its place in the map
  pub still_found : k.items ≡ d.name.items → v ≡ length ds → ((word : List ℕ) → entries_at word old ≡ place_of (map named ds) word) → variable_among (map named ds) d.name.items ≡ None → new ≡ insert_entry order old k v → all ≡ ds ++ d ∷ [] → (word : List ℕ) → entries_at word new ≡ place_of (map named all) word
  still_found same place here fresh entries list word =
      let ns : List Name = map named ds in
      let there : place_of (ns ++ named d ∷ []) word ≡ cond (bytes_eq word d.name.items) (Some (length ns)) (place_of ns word) = place_added ns (named d) word (no_place ns d.name.items fresh) in
      let more : map named all ≡ ns ++ named d ∷ [] = ap (map named) list ∙ map-append named ds (d ∷ []) in
      let count : length ns ≡ length ds = length-map ds named in
      ap (entries_at word) entries ∙ inserted old k v word
      ∙ ap (λ w. cond (bytes_eq word w) (Some v) (entries_at word old)) same
      ∙ ap (λ n. cond (bytes_eq word d.name.items) (Some n) (entries_at word old)) (place ∙ sym count)
      ∙ ap (cond (bytes_eq word d.name.items) (Some (length ns))) (here word)
      ∙ sym there ∙ ap (λ ms. place_of ms word) (sym more)
