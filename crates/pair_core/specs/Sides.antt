-- The two sides, and who runs.
use Rattle.std.specs.Prelude.{Bool, true, false, not}
use Rattle.s7_events.specs.declared.entry.Side.{Side}
use Rattle.s7_events.specs.declared.entry.Side.TheVariants.{A, B}
use Rattle.s7_events.specs.declared.entry.Answer.{Answer}
use Rattle.s7_events.specs.declared.entry.Answer.TheVariants.{Lost, Back}
use Rattle.pair_core.specs.declared.sides.Sides.{Sides}
use Rattle.pair_core.specs.declared.standing.Standing.{Standing}

abbrev pub same_side : Side → Side → Bool
same_side A A = true
same_side A B = false
same_side B A = false
same_side B B = true

abbrev pub other_side : Side → Side
other_side A = B
other_side B = A

-- that of a side
abbrev pub of_side : {T : Type 0} → Sides T → Side → T
of_side both A = both.a
of_side both B = both.b

-- a value in place of that of a side
abbrev pub with_side : {T : Type 0} → Sides T → Side → T → Sides T
with_side both A x = record both { a = x }
with_side both B x = record both { b = x }

abbrev pub runs : Standing → Side → Bool
runs st s = of_side st.running s

-- alone, side A runs; a pair begins with both; A is master
abbrev pub first_standing : Bool → Standing
first_standing solo = record { running = record { a = true; b = not solo }; master = A }

-- a lost side is out, and the other one is master; a side that is back runs as reserve
abbrev pub after_answer : Standing → Answer → Standing
after_answer st (Lost s why) = record { running = with_side st.running s false; master = other_side s }
after_answer st (Back s) = record { running = with_side st.running s true; master = st.master }
after_answer st answer = st
