-- Jumps, calls and the status operands.
use Rattle.std.specs.Prelude.{Bool, true, false, not, ◌&&◌, ◌||◌, if◌then◌else◌, List, [], ◌∷◌}
use Rattle.status_word.specs.declared.status.StatusWord.{StatusWord}
use Rattle.instruction_set.specs.declared.operation.Jump.{Jump}
use Rattle.instruction_set.specs.declared.operation.Jump.TheVariants.{Ju, Jc, Jcn, Jcb, Jnb, Jbi, Jnbi, Jo, Jos, Jz, Jn, Jp, Jm, Jpz, Jmz, Juo}
use Rattle.status_word.specs.Status.{row}

-- CC1 CC0 is 00
abbrev pub is_zero : StatusWord → Bool
is_zero s = not s.cc1 && not s.cc0

-- CC1 CC0 is 10
abbrev pub is_positive : StatusWord → Bool
is_positive s = s.cc1 && not s.cc0

-- CC1 CC0 is 01
abbrev pub is_negative : StatusWord → Bool
is_negative s = not s.cc1 && s.cc0

-- CC1 CC0 is 11
abbrev pub is_unordered : StatusWord → Bool
is_unordered s = s.cc1 && s.cc0

-- the row of a jump by RLO or BR: BR takes the RLO first where to_br, and the RLO is 1 then where rlo_one
abbrev pub after_jump_row : Bool → Bool → StatusWord → StatusWord
after_jump_row to_br rlo_one s =
    row false true (if rlo_one then true else s.rlo) false (record s { br = if to_br then s.rlo else s.br })

-- a call, the end of a block
abbrev pub block_row : StatusWord → StatusWord
block_row s = row false true s.rlo false (record s { os = false })

-- whether the jump is taken
abbrev pub taken : Jump → StatusWord → Bool
taken Ju s = true
taken Jc s = s.rlo
taken Jcn s = not s.rlo
taken Jcb s = s.rlo
taken Jnb s = not s.rlo
taken Jbi s = s.br
taken Jnbi s = not s.br
taken Jo s = s.ov
taken Jos s = s.os
taken Jz s = is_zero s
taken Jn s = is_negative s || is_positive s
taken Jp s = is_positive s
taken Jm s = is_negative s
taken Jpz s = is_zero s || is_positive s
taken Jmz s = is_zero s || is_negative s
taken Juo s = is_unordered s

-- the status word after the jump, whether it is taken or not
abbrev pub jumped : Jump → StatusWord → StatusWord
jumped Ju s = s
jumped Jc s = after_jump_row false true s
jumped Jcn s = after_jump_row false true s
jumped Jcb s = after_jump_row true true s
jumped Jnb s = after_jump_row true true s
jumped Jbi s = after_jump_row false false s
jumped Jnbi s = after_jump_row false false s
jumped Jo s = s
jumped Jos s = record s { os = false }
jumped Jz s = s
jumped Jn s = s
jumped Jp s = s
jumped Jm s = s
jumped Jpz s = s
jumped Jmz s = s
jumped Juo s = s

-- the status operands by number: BR, OV, OS, UO, ==0, <>0, >0, <0, >=0, <=0
abbrev pub operands : StatusWord → List Bool
operands s =
    s.br
    ∷ s.ov
    ∷ s.os
    ∷ is_unordered s
    ∷ is_zero s
    ∷ (is_negative s || is_positive s)
    ∷ is_positive s
    ∷ is_negative s
    ∷ (is_zero s || is_positive s)
    ∷ (is_zero s || is_negative s)
    ∷ []
