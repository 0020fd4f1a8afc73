-- Where a byte of a text stands: lines and columns count from 1.
use Rattle.std.specs.Prelude.{ℕ, List, [], ◌∷◌, ◌+◌, ◌==◌, true, if◌then◌else◌}
use Rattle.stl_lex.specs.declared.place.Place.{Place}

-- the place of the first byte
abbrev pub start : Place
start = record { at = 0; line = 1; column = 1; opens_line = true }

-- the place behind a byte
abbrev pub next : Place → ℕ → Place
next p b =
    if b == 10 then record { at = p.at + 1; line = p.line + 1; column = 1; opens_line = true }
    else record { at = p.at + 1; line = p.line; column = p.column + 1; opens_line = p.opens_line }

-- the place behind all of these
abbrev pub over : Place → List ℕ → Place
over p [] = p
over p (b ∷ bs) = over (next p b) bs
