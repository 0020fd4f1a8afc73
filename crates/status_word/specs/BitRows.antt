-- The rows of the bit statements: each gives OR, STA, RLO and /FC, as the table's columns do.
use Rattle.std.specs.Prelude.{Bool, true, false, not, ◌&&◌, ◌||◌, if◌then◌else◌}
use Rattle.status_word.specs.declared.status.StatusWord.{StatusWord}
use Rattle.instruction_set.specs.declared.operation.Check.{Check}
use Rattle.instruction_set.specs.declared.operation.Check.TheVariants.{And, AndNot, Or, OrNot, Xor, XorNot}
use Rattle.status_word.specs.Status.{row}

-- the result of an A with the value v: a first check begins anew, and OR is added to either
abbrev pub and_result : Bool → StatusWord → Bool
and_result v s = if s.first_check then (s.rlo && v) || s.or else v || s.or

-- the result of an O: a first check takes v as it is
abbrev pub or_result : Bool → StatusWord → Bool
or_result v s = if s.first_check then s.rlo || v else v

-- whether just one of two bits is 1
abbrev pub differ : Bool → Bool → Bool
differ true b = not b
differ false b = b

-- the result of an X: a first check takes v as it is
abbrev pub xor_result : Bool → StatusWord → Bool
xor_result v s = if s.first_check then differ s.rlo v else v

-- A, AN, O, ON, X, XN with the bit x, which AN, ON and XN invert
abbrev pub checked : Check → Bool → StatusWord → StatusWord
checked And x s = row s.or x (and_result x s) true s
checked AndNot x s = row s.or x (and_result (not x) s) true s
checked Or x s = row false x (or_result x s) true s
checked OrNot x s = row false x (or_result (not x) s) true s
checked Xor x s = row false x (xor_result x s) true s
checked XorNot x s = row false x (xor_result (not x) s) true s

-- O alone
abbrev pub or_row : StatusWord → StatusWord
or_row s = row s.rlo true s.rlo false s

-- A( and the like, MCR( and )MCR
abbrev pub bracket_row : StatusWord → StatusWord
bracket_row s = row false true s.rlo false s

-- =, S and R on a bit
abbrev pub write_row : StatusWord → StatusWord
write_row s = row false s.rlo s.rlo false s

-- NOT
abbrev pub not_row : StatusWord → StatusWord
not_row s = row s.or true (not s.rlo) s.first_check s

-- SET
abbrev pub set_row : StatusWord → StatusWord
set_row s = row false true true false s

-- CLR
abbrev pub clear_row : StatusWord → StatusWord
clear_row s = row false false false false s

-- SAVE
abbrev pub save_row : StatusWord → StatusWord
save_row s = record s { br = s.rlo }

-- FP where rising, else FN, with the edge bit
abbrev pub edged : Bool → Bool → StatusWord → StatusWord
edged rising old s = row false s.rlo (if rising then s.rlo && not old else old && not s.rlo) true s

-- the edge bit that FP and FN store
abbrev pub edge_bit : StatusWord → Bool
edge_bit s = s.rlo

-- starts, S, R and FR of timers and counters, CU and CD
abbrev pub timer_row : StatusWord → StatusWord
timer_row s = row false s.sta s.rlo false s
