-- Reading a pattern, as the loops do.
use Rattle.std.proofs.Common.{◌≡◌, ◌≤◌, ◌<◌, ◌+◌, ◌-◌, ◌*◌, ◌∷◌, ◌++◌, [], List, ℕ, suc, Bool, true, false, Option, Some, None, refl, sym, ◌∙◌, ap, arith, length, length-append, cond, eqb, drop, get_or, drop-cons}
use Rattle.std.specs.Prelude.{is_some, unwrap_or, nat_le, ◌&&◌}
use Rattle.std.specs.Borrow.{Bor}
use Rattle.std.specs.Option.{option_map}
use Rattle.std.specs.List.{flat_map}
use Rattle.std.specs.Str.{all_ascii_digits}
use Rattle.std.specs.Char.{is_ascii_digit}
use Rattle.std.proofs.lemmas.Bool.Decides.{nat_tests}
use Rattle.s7_events.specs.declared.entry.Side.{Side}
use Rattle.s7_events.specs.Optional.{◌>>=◌}
use Rattle.plant_script.specs.Fields.{split_at}
use Rattle.pair_top.specs.Fields.{value_from}
use Rattle.pair_top.proofs.Pieces.{split_takes}
use Rattle.pair_top.specs.Pattern.{most_letters, most_times, most_visits, side_of, sides_from, sides_of, times_by, Repeated, visits_of_part, part_of, onto_first, pieces, parts_of, visits_in, visits_by, visits_of}

-- letters

some_again : {A B : Type 0} (o : Option A) (f : A → B) → is_some (o >>= λ x. Some (f x)) ≡ is_some o
some_again None f = refl
some_again (Some x) f = refl

pub letter_found : (b : ℕ) (bs : List ℕ) (side : Side) → side_of b ≡ Some side → is_some (sides_from (b ∷ bs)) ≡ is_some (sides_from bs)
letter_found b bs side e = rw e (some_again (sides_from bs) (λ sides. side ∷ sides))

pub letter_missing : (b : ℕ) (bs : List ℕ) → side_of b ≡ None → is_some (sides_from (b ∷ bs)) ≡ false
letter_missing b bs e = rw e refl

pub known : (o : Option (List Side)) → is_some o ≡ true → o ≡ Some (unwrap_or o [])
known None e = absurd cc
known (Some sides) e = refl

-- numbers

pub value_grows : (n : ℕ) (ds : List ℕ) → n ≤ value_from n ds
value_grows n [] = omega arith
value_grows n (d ∷ ds) = let more = value_grows (10 * n + (d - 48)) ds in omega arith

pub times_too_big : (digits : Bool) (v : ℕ) → most_times < v → times_by digits v ≡ None
times_too_big digits v big = grind (arith, nat_tests)

pub no_digit : (d : ℕ) (ds : List ℕ) (v : ℕ) → is_ascii_digit d ≡ false → times_by (all_ascii_digits (d ∷ ds)) v ≡ None
no_digit d ds v e = rw e refl

pub one_digit : (d : ℕ) (ds : List ℕ) (v : ℕ) → is_ascii_digit d ≡ true → times_by (all_ascii_digits (d ∷ ds)) v ≡ times_by (all_ascii_digits ds) v
one_digit d ds v e = rw e refl

-- pieces

-- the pieces by the first comma
abbrev pub pieces_by : Option (List ℕ × List ℕ) → List ℕ → List (List ℕ)
pieces_by None text = text ∷ []
pieces_by (Some split) text = split.0 ∷ pieces split.1

onto_pieces : (b : ℕ) (bs : List ℕ) (o : Option (List ℕ × List ℕ)) → onto_first b (pieces_by o bs) ≡ pieces_by (option_map (λ p. (b ∷ p.0, p.1)) o) (b ∷ bs)
onto_pieces b bs None = refl
onto_pieces b bs (Some p) = refl

one_more_byte : (b : ℕ) (bs : List ℕ) (t : Bool) → pieces bs ≡ pieces_by (split_at 44 bs) bs
    → cond t ([] ∷ pieces bs) (onto_first b (pieces bs)) ≡ pieces_by (cond t (Some ([], bs)) (option_map (λ p. (b ∷ p.0, p.1)) (split_at 44 bs))) (b ∷ bs)
one_more_byte b bs true below = refl
one_more_byte b bs false below = ap (λ ps. onto_first b ps) below ∙ onto_pieces b bs (split_at 44 bs)

pub pieces_split : (text : List ℕ) → pieces text ≡ pieces_by (split_at 44 text) text
pieces_split [] = refl
pieces_split (b ∷ bs) = one_more_byte b bs (eqb b 44) (pieces_split bs)

-- counting

-- with so many visits before them the parts are not too many
abbrev pub are_few : ℕ → Option (List Repeated) → Bool
are_few before None = false
are_few before (Some parts) = nat_le (before + visits_in parts) most_visits

chosen : (sides : List Side) (t u : Bool) → t ≡ u → is_some (cond t (Some sides) None) ≡ u
chosen sides true u e = e
chosen sides false u e = e

few_by : (o : Option (List Repeated)) → is_some (visits_by o) ≡ are_few 0 o
few_by None = refl
few_by (Some parts) = chosen (flat_map visits_of_part parts) (nat_le (visits_in parts) most_visits) (nat_le (0 + visits_in parts) most_visits) (grind (arith, nat_tests))

pub few_is : (word : List ℕ) → is_some (visits_of word) ≡ are_few 0 (parts_of (pieces word))
unfolding visits_of
few_is word = few_by (parts_of (pieces word))

pub too_many : (before : ℕ) (o : Option (List Repeated)) → most_visits < before → are_few before o ≡ false
too_many before None big = refl
too_many before (Some parts) big = grind (arith, nat_tests)

pub bad_part : (before : ℕ) (piece : List ℕ) (ps : List (List ℕ)) → part_of piece ≡ None → are_few before (parts_of (piece ∷ ps)) ≡ false
bad_part before piece ps e = rw e refl

part_counts : (before : ℕ) (part : Repeated) (o : Option (List Repeated)) → are_few before (o >>= λ parts. Some (part ∷ parts)) ≡ are_few (before + part.times * length part.sides) o
part_counts before part None = refl
part_counts before part (Some parts) = grind (arith, nat_tests)

pub good_part : (before : ℕ) (piece : List ℕ) (part : Repeated) (ps : List (List ℕ)) → part_of piece ≡ Some part
    → are_few before (parts_of (piece ∷ ps)) ≡ are_few (before + part.times * length part.sides) (parts_of ps)
good_part before piece part ps e = rw e (part_counts before part (parts_of ps))

length_step : (b : ℕ) (bs : List ℕ) (sides : List Side) → ((others : List Side) → sides_from bs ≡ Some others → length others ≡ length bs)
    → (s : Option Side) (o : Option (List Side)) → sides_from bs ≡ o → (s >>= λ side. o >>= λ others. Some (side ∷ others)) ≡ Some sides → length sides ≡ suc (length bs)
length_step b bs sides below None o is e = absurd cc
length_step b bs sides below (Some side) None is e = absurd cc
length_step b bs sides below (Some side) (Some others) is e =
    let same : side ∷ others ≡ sides = cc in
    ap length (sym same) ∙ ap suc (below others is)

length_from : (letters : List ℕ) (sides : List Side) → sides_from letters ≡ Some sides → length sides ≡ length letters
length_from [] sides e = let same : [] ≡ sides = cc in ap length (sym same)
length_from (b ∷ bs) sides e = length_step b bs sides (length_from bs) (side_of b) (sides_from bs) refl e

chosen_sides : (t : Bool) (o : Option (List Side)) (sides : List Side) → cond t o None ≡ Some sides → o ≡ Some sides
chosen_sides true o sides e = e
chosen_sides false o sides e = absurd cc

-- a part has as many sides as letters
pub sides_count : (letters : List ℕ) → is_some (sides_of letters) ≡ true → length (unwrap_or (sides_of letters) []) ≡ length letters
sides_count letters some =
    let sides = unwrap_or (sides_of letters) [] in
    length_from letters sides (chosen_sides (nat_le 1 (length letters) && nat_le (length letters) most_letters) (sides_from letters) sides (known (sides_of letters) some))

-- what is left of a word gets shorter
abbrev pub bytes_left : Option (Bor (List ℕ)) → ℕ
bytes_left None = 0
bytes_left (Some rest) = length rest.now + 1

-- what stands behind a byte is shorter
pub split_shorter : (d : ℕ) (text w rest : List ℕ) → split_at d text ≡ Some (w, rest) → length rest < length text
split_shorter d text w rest e =
    let whole : length text ≡ length (w ++ d ∷ rest) = ap length (split_takes d text w rest e) in
    grind (arith, whole, length-append w (d ∷ rest))

-- the digits read so far are too many
pub too_many_times : (digits : List ℕ) (i n : ℕ) (total : Option ℕ) → i < length digits → most_times < 10 * n + (get_or digits i 0 - 48)
    → times_by (all_ascii_digits (drop i digits)) (value_from n (drop i digits)) ≡ total → total ≡ None
too_many_times digits i n total within big so_far =
    let here : drop i digits ≡ get_or digits i 0 ∷ drop (suc i) digits = drop-cons digits i 0 within in
    let v = value_from (10 * n + (get_or digits i 0 - 48)) (drop (suc i) digits) in
    let grows : 10 * n + (get_or digits i 0 - 48) ≤ v = value_grows (10 * n + (get_or digits i 0 - 48)) (drop (suc i) digits) in
    let bigger : most_times < v = omega arith in
    sym so_far ∙ ap (λ ds. times_by (all_ascii_digits ds) (value_from n ds)) here
    ∙ times_too_big (all_ascii_digits (get_or digits i 0 ∷ drop (suc i) digits)) v bigger

-- one more part was read of what is left of a word
pub counted : (word text piece : List ℕ) (ps : List (List ℕ)) (before times : ℕ) (letters : List ℕ) → pieces text ≡ piece ∷ ps
    → part_of piece ≡ Some (record { times = times; sides = unwrap_or (sides_of letters) [] }) → is_some (sides_of letters) ≡ true
    → are_few before (parts_of (pieces text)) ≡ are_few 0 (parts_of (pieces word))
    → are_few (before + times * length letters) (parts_of ps) ≡ are_few 0 (parts_of (pieces word))
counted word text piece ps before times letters first is some so_far =
    let part : Repeated = record { times = times; sides = unwrap_or (sides_of letters) [] } in
    ap (λ n. are_few (before + times * n) (parts_of ps)) (sym (sides_count letters some))
    ∙ sym (good_part before piece part ps is) ∙ ap (λ l. are_few before (parts_of l)) (sym first) ∙ so_far

-- nothing is left of a word whose visits are few
pub all_counted : (word : List ℕ) (before : ℕ) → before ≤ most_visits → are_few before (parts_of []) ≡ are_few 0 (parts_of (pieces word)) → is_some (visits_of word) ≡ true
all_counted word before few so_far =
    let enough : nat_le (before + 0) most_visits ≡ true = grind (arith, nat_tests) in
    few_is word ∙ sym so_far ∙ enough
