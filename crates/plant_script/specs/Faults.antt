-- The faults of a script, by number. The meaning of each is in the table of docs/plant.md.
use Rattle.std.specs.Prelude.{ℕ}

-- the line has no form, or stands in no place of the order
abbrev pub bad_line : ℕ
bad_line = 1

-- the moment or the end is no number, or outside its range
abbrev pub bad_time : ℕ
bad_time = 2

-- the moment is below that of the line before
abbrev pub time_back : ℕ
time_back = 3

-- the module shares a byte with an earlier one
abbrev pub overlap : ℕ
overlap = 4

-- the input byte is in no module of inputs
abbrev pub no_module : ℕ
no_module = 5

-- there is no END line
abbrev pub no_end : ℕ
no_end = 6

-- there are too many lines
abbrev pub too_long : ℕ
too_long = 7

-- the FAIL and RETURN lines of a side do not alternate
abbrev pub fail_return_order : ℕ
fail_return_order = 8

-- the line is not supported yet
abbrev pub not_built : ℕ
not_built = 99
