-- A statement lies at its place.
use Rattle.std.proofs.Common.{◌≡◌, ℕ, ◌+◌, ◌*◌, ◌<◌, List, ◌∷◌, ◌++◌, length, get_or, take, drop, refl, sym, ap, subst, ◌∙◌, append_assoc, arith, length-append}
use Rattle.std.specs.List.{flat_map}
use Rattle.std.proofs.lemmas.List.{take-append-drop, take_at, drop_at, drop_more, drop-drop, length-take-le}
use Rattle.std.proofs.lemmas.List.Concat.{flat_map-append}
use Rattle.s7_base.specs.declared.statement.Statement.{Statement}
use Rattle.s7_base.specs.Blocks.{Code, Program}
use Rattle.load_image.specs.Image.{statement_bytes, code_body, code_entries, data_entries, code_bodies, data_bodies, header, block_count, first_body, bodies, directory, image_of}
use Rattle.load_image.specs.Places.{statement_place}
use Rattle.load_image.proofs.Fields.{statement_length, statements_length, header_length}
use Rattle.load_image.proofs.Blocks.{code_entries_length, data_entries_length}

piece : {X : Type 0} (f : X → List ℕ) (xs : List X) (i n : ℕ) (x : X) (rest : List ℕ) → i < length xs → get_or xs i x ≡ x → length (flat_map f (take i xs)) ≡ n → drop n (flat_map f xs ++ rest) ≡ f x ++ (flat_map f (drop (i + 1) xs) ++ rest)
piece {X} f xs i n x rest lt is long =
    let front = flat_map f (take i xs) in
    let back = flat_map f (drop (i + 1) xs) in
    let tail : drop i xs ≡ x ∷ drop (i + 1) xs = drop_more xs i x lt ∙ ap (λ (y : X). y ∷ drop (i + 1) xs) is in
    let parts : flat_map f xs ++ rest ≡ front ++ (f x ++ (back ++ rest)) =
    ap (λ (ys : List X). flat_map f ys ++ rest) (sym (take-append-drop i xs))
    ∙ ap (λ (z : List ℕ). z ++ rest) (flat_map-append f (take i xs) (drop i xs))
    ∙ append_assoc front (flat_map f (drop i xs)) rest
    ∙ ap (λ (ys : List X). front ++ (flat_map f ys ++ rest)) tail
    ∙ ap (λ (z : List ℕ). front ++ z) (append_assoc (f x) back rest) in
    ap (λ (z : List ℕ). drop n z) parts ∙ drop_at front (f x ++ (back ++ rest)) n long

bodies_place : (p : Program) → drop (first_body p) (image_of p) ≡ bodies p
bodies_place p =
    let n = block_count p in
    let whole = first_body p + length (bodies p) in
    let later = first_body p + length (code_bodies p.codes) in
    let long : length (header n whole ++ directory p) ≡ first_body p = omega (arith, length-append (header n whole) (directory p), header_length n whole, length-append (code_entries (first_body p) p.codes) (data_entries later p.data_blocks), code_entries_length (first_body p) p.codes, data_entries_length later p.data_blocks) in
    drop_at (header n whole ++ directory p) (bodies p) (first_body p) long

pub lies_there : (p : Program) (bytes : List ℕ) (index number : ℕ) (code : Code) (s : Statement) → image_of p ≡ bytes → index < length p.codes → get_or p.codes index code ≡ code → number < length code.statements → get_or code.statements number s ≡ s → take 12 (drop (statement_place p index number) bytes) ≡ statement_bytes s
lies_there p bytes index number code s image in_codes is_code in_block is_statement =
    let before = length (code_bodies (take index p.codes)) in
    let more = flat_map code_body (drop (index + 1) p.codes) ++ data_bodies p.data_blocks in
    let rest = flat_map statement_bytes (drop (number + 1) code.statements) ++ more in
    let short : length (take number code.statements) ≡ number = length-take-le number code.statements (omega (arith, in_block)) in
    let long : length (flat_map statement_bytes (take number code.statements)) ≡ 12 * number = statements_length (take number code.statements) ∙ ap (λ (n : ℕ). 12 * n) short in
    let body : drop before (bodies p) ≡ code_body code ++ more = piece code_body p.codes index before code (data_bodies p.data_blocks) in_codes is_code refl in
    let found : drop (12 * number) (code_body code ++ more) ≡ statement_bytes s ++ rest = piece statement_bytes code.statements number (12 * number) s more in_block is_statement long in
    let there : drop (statement_place p index number) (image_of p) ≡ statement_bytes s ++ rest =
    sym (drop-drop (12 * number) (first_body p + before) (image_of p))
    ∙ ap (λ (z : List ℕ). drop (12 * number) z) (sym (drop-drop before (first_body p) (image_of p)) ∙ ap (λ (z : List ℕ). drop before z) (bodies_place p) ∙ body)
    ∙ found in
    subst (λ (b : List ℕ). take 12 (drop (statement_place p index number) b) ≡ statement_bytes s) image
    (ap (λ (z : List ℕ). take 12 z) there ∙ take_at (statement_bytes s) rest 12 (statement_length s))
