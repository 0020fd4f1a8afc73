-- An expression's statements leave its value.
use Rattle.std.proofs.Common.{◌≡◌, ◌+◌, ◌≤◌, ◌<◌, length, ◌∷◌, refl, ap, ◌∙◌, arith}
use Rattle.std.specs.Prelude.{Bool, true, false, not, ◌&&◌, ◌||◌, if◌then◌else◌, Ok}
use Rattle.std.proofs.lemmas.Bool.{lt-ltb}
use Rattle.status_word.specs.declared.status.StatusWord.{StatusWord}
use Rattle.instruction_set.specs.declared.operation.Check.{Check}
use Rattle.instruction_set.specs.declared.operation.Check.TheVariants.{And, AndNot, Or, OrNot, Xor, XorNot}
use Rattle.status_word.specs.BitRows.{checked, bracket_row, or_row}
use Rattle.bit_unit.specs.State.{BitState}
use Rattle.bit_unit.specs.Steps.{Step, saved, closed_row, group_opened, group_closed}
use Rattle.bit_unit.specs.Expressions.{Expression, Bit, First, Then, OrAnd, Reading, value_of, operand_value, combined, reading, value, and_then, operand_run, or_run, run, operand_depth, depth, operand_sta, last_sta, status_after, fresh, LeavesItsValue, IsTheCheckOf}

-- a group that closes is the check of the RLO in it
closes : (how : Check) (v left sta : Bool) (s : StatusWord) → closed_row (saved how s) (record s { rlo = v; or = left; sta = sta; first_check = true }) ≡ record (checked how v s) { sta = true }
closes And v left sta s = refl
closes AndNot v left sta s = refl
closes Or v left sta s = refl
closes OrNot v left sta s = refl
closes Xor v left sta s = refl
closes XorNot v left sta s = refl

-- with room for it a group opens
opens : (how : Check) (b : BitState) (s : StatusWord) → length b.groups < 7 → group_opened how b s ≡ Ok (record b { groups = saved how s ∷ b.groups }, bracket_row s)
opens how b s h = rw (lt-ltb (length b.groups) 7 h) refl

group_runs : (e : Expression) → LeavesItsValue e → (how : Check) → IsTheCheckOf how e
group_runs e law how b s h =
    let room : length b.groups < 7 = omega arith
    in ap (λ (step : Step). and_then (and_then step (run e)) (λ after. group_closed after.0 after.1)) (opens how b s room)
    ∙ ap (λ (step : Step). and_then step (λ after. group_closed after.0 after.1)) (law (record b { groups = saved how s ∷ b.groups }) (record s { sta = true }) (omega arith))
    ∙ ap (λ (status : StatusWord). Ok (b, status)) (closes how (value e) (reading e).left (last_sta e) s)

-- a check of a bit leaves it as STA
bit_runs : (how : Check) (bit : Bool) (s : StatusWord) → checked how bit s ≡ record (checked how bit s) { sta = bit }
bit_runs And bit s = refl
bit_runs AndNot bit s = refl
bit_runs Or bit s = refl
bit_runs OrNot bit s = refl
bit_runs Xor bit s = refl
bit_runs XorNot bit s = refl

-- a check of an operand is the check of its value; after a group STA is 1
operand_runs : (operand : Expression) → LeavesItsValue operand → (how : Check) (b : BitState) (s : StatusWord) → operand_depth operand (depth operand) + length b.groups ≤ 7 → operand_run how operand (run operand) (b, s) ≡ Ok (b, record (checked how (value operand) s) { sta = operand_sta operand })
unfolding reading
operand_runs (Bit bit) law how b s h = ap (λ (status : StatusWord). Ok (b, status)) (bit_runs how bit s)
operand_runs (First check operand) law how b s h = group_runs (First check operand) law how b s (omega arith)
operand_runs (Then before check operand) law how b s h = group_runs (Then before check operand) law how b s (omega arith)
operand_runs (OrAnd before inverted operand) law how b s h = group_runs (OrAnd before inverted operand) law how b s (omega arith)

-- the status word that an expression leaves where it reads so
reads : Reading → Bool → StatusWord → StatusWord
reads r sta s = record s { rlo = value_of r; or = r.left; sta = sta; first_check = true }

or_false : (x : Bool) → x || false ≡ x
or_false true = refl
or_false false = refl

-- a first check of x
first_check : (how : Check) (x sta : Bool) (s : StatusWord) → record (checked how x (fresh s)) { sta = sta } ≡ reads (record { left = false; right = operand_value how x }) sta s
unfolding reads
first_check And true sta s = refl
first_check And false sta s = refl
first_check AndNot true sta s = refl
first_check AndNot false sta s = refl
first_check Or x sta s = refl
first_check OrNot x sta s = refl
first_check Xor x sta s = refl
first_check XorNot x sta s = refl

-- A binds more tightly than what an O alone has put to the left
product : (left right x : Bool) → ((left || right) && x) || left ≡ left || (right && x)
product true right true = refl
product true right false = refl
product false right x = or_false (right && x)

-- a further check of x
next_check : (how : Check) (left right x before sta : Bool) (s : StatusWord) → record (checked how x (reads (record { left = left; right = right }) before s)) { sta = sta } ≡ reads (combined how (record { left = left; right = right }) x) sta s
unfolding reads
next_check And left right x before sta s = rw (product left right x) refl
next_check AndNot left right x before sta s = rw (product left right (not x)) refl
next_check Or left right x before sta s = refl
next_check OrNot left right x before sta s = refl
next_check Xor left right x before sta s = refl
next_check XorNot left right x before sta s = refl

-- the order of two that are joined by O says nothing
swapped : (a b : Bool) → a || b ≡ b || a
swapped true true = refl
swapped true false = refl
swapped false true = refl
swapped false false = refl

-- O alone, and A or AN with x
or_check : (left right x before inverted sta : Bool) (s : StatusWord) → record (checked (if inverted then AndNot else And) x (or_row (reads (record { left = left; right = right }) before s))) { sta = sta } ≡ reads (record { left = left || right; right = if inverted then not x else x }) sta s
unfolding reads
or_check left right x before true sta s = rw (swapped (not x) (left || right)) refl
or_check left right x before false sta s = rw (swapped x (left || right)) refl

pub leaves_its_value : (e : Expression) → LeavesItsValue e
unfolding run reading depth reads
leaves_its_value (Bit bit) b s h = ap (λ (status : StatusWord). Ok (b, status)) (first_check And bit bit s)
leaves_its_value (First how operand) b s h =
    operand_runs operand (leaves_its_value operand) how b (fresh s) h
    ∙ ap (λ (status : StatusWord). Ok (b, status)) (first_check how (value operand) (operand_sta operand) s)
leaves_its_value (Then before how operand) b s h =
    ap (λ (step : Step). and_then step (operand_run how operand (run operand))) (leaves_its_value before b s (omega arith))
    ∙ operand_runs operand (leaves_its_value operand) how b (status_after before s) (omega arith)
    ∙ ap (λ (status : StatusWord). Ok (b, status)) (next_check how (reading before).left (reading before).right (value operand) (last_sta before) (operand_sta operand) s)
leaves_its_value (OrAnd before inverted operand) b s h =
    ap (λ (step : Step). and_then step (λ after. operand_run (if inverted then AndNot else And) operand (run operand) (or_run after))) (leaves_its_value before b s (omega arith))
    ∙ operand_runs operand (leaves_its_value operand) (if inverted then AndNot else And) b (or_row (status_after before s)) (omega arith)
    ∙ ap (λ (status : StatusWord). Ok (b, status)) (or_check (reading before).left (reading before).right (value operand) (last_sta before) inverted (operand_sta operand) s)

pub group_is_its_check : (e : Expression) (how : Check) → IsTheCheckOf how e
group_is_its_check e how = group_runs e (leaves_its_value e) how
