-- The status word as a number, and a row of the tables.
use Rattle.std.specs.Prelude.{ℕ, ◌+◌, ◌*◌, Bool, false, ◌==◌, List, [], ◌∷◌}
use Rattle.std.specs.Int.{bit_at, from_bool}
use Rattle.status_word.specs.declared.status.StatusWord.{StatusWord}

-- all bits 0
abbrev pub cleared_status : StatusWord
cleared_status = record {
  first_check = false;
  rlo = false;
  sta = false;
  or = false;
  os = false;
  ov = false;
  cc0 = false;
  cc1 = false;
  br = false;
}

-- the bit at that place of a word is 1
abbrev pub is_set : ℕ → ℕ → Bool
is_set word place = bit_at word place == 1

-- the status word of the low nine bits of a word, counted from /FC as bit 0
abbrev pub status_of : ℕ → StatusWord
status_of word = record {
  first_check = is_set word 0;
  rlo = is_set word 1;
  sta = is_set word 2;
  or = is_set word 3;
  os = is_set word 4;
  ov = is_set word 5;
  cc0 = is_set word 6;
  cc1 = is_set word 7;
  br = is_set word 8;
}

-- the number with these bits, the lowest first
abbrev pub number_of : List Bool → ℕ
number_of [] = 0
number_of (bit ∷ bits) = from_bool bit + 2 * number_of bits

-- the word of a status word, /FC as bit 0
abbrev pub bits_of : StatusWord → ℕ
bits_of s =
    number_of (s.first_check ∷ s.rlo ∷ s.sta ∷ s.or ∷ s.os ∷ s.ov ∷ s.cc0 ∷ s.cc1 ∷ s.br ∷ [])

-- a row: OR, STA, RLO and /FC are these, in the order of the table, and the other bits are unchanged
abbrev pub row : Bool → Bool → Bool → Bool → StatusWord → StatusWord
row or_after sta_after rlo_after first_check_after s = record s {
  or = or_after;
  sta = sta_after;
  rlo = rlo_after;
  first_check = first_check_after;
}
