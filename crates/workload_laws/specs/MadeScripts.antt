-- What the lines of a made script are read as, word by word.
use Rattle.std.specs.Prelude.{◌≡◌, ℕ, ◌≤◌, ◌<◌, ◌*◌, ◌-◌, ◌/◌, ◌%◌, ◌==◌, List, [], ◌∷◌, ◌++◌, map, true, false, Some, None, codes, if◌then◌else◌}
use Rattle.std.specs.List.{flat_map, range_with_len}
use Rattle.std.specs.Fmt.{decimal}
use Rattle.plant_script.specs.Words.{lines_of, words_of}
use Rattle.plant_script.specs.Numbers.{is_number, value_of, hex_of}
use Rattle.plant_script.specs.Plan.{Plan, IsPlan}
use Rattle.s7_events.specs.declared.entry.Side.TheVariants.{B}
use Rattle.plant_script.specs.declared.plan.Module.{Module}
use Rattle.plant_script.specs.declared.plan.ModuleKind.TheVariants.{Switched}
use Rattle.plant_script.specs.declared.plan.Event.{Event}
use Rattle.plant_script.specs.declared.plan.What.{What}
use Rattle.plant_script.specs.declared.plan.What.TheVariants.{Input, Alarm, Fail}
use Rattle.plant_script.specs.Lines.{module_of}
use Rattle.plant_script.specs.SecondPass.{IsScript}
use Rattle.load_maker.specs.Lines.{hex_byte}
use Rattle.load_maker.specs.Script.{script_lines, script_text}

-- a made script has the lines that it was made of
abbrev pub HasItsLines : ℕ → Type 0
HasItsLines n = n ≤ 100000 → lines_of (script_text n) ≡ script_lines n

-- the lines of a moment, and the last one
abbrev pub input_line : ℕ → List ℕ
input_line m = codes "AT " ++ (decimal m ++ (codes " INPUT 0 " ++ hex_byte (m / 100 % 256)))

abbrev pub alarm_line : ℕ → List ℕ
alarm_line m = codes "AT " ++ (decimal m ++ (codes " ALARM 40 000000" ++ hex_byte (m / 1000)))

abbrev pub loss_line : ℕ → List ℕ
loss_line m = codes "AT " ++ (decimal m ++ codes " FAIL B")

abbrev pub end_line : ℕ → List ℕ
end_line n = codes "END " ++ decimal n

-- their words
pub record AreItsWords (m : ℕ) : Type 0 where
  pub input : words_of (input_line m) ≡ codes "AT" ∷ decimal m ∷ codes "INPUT" ∷ codes "0" ∷ hex_byte (m / 100 % 256) ∷ []
  pub alarm : words_of (alarm_line m) ≡ codes "AT" ∷ decimal m ∷ codes "ALARM" ∷ codes "40" ∷ (codes "000000" ++ hex_byte (m / 1000)) ∷ []
  pub loss : words_of (loss_line m) ≡ codes "AT" ∷ decimal m ∷ codes "FAIL" ∷ codes "B" ∷ []
  pub end : words_of (end_line m) ≡ codes "END" ∷ decimal m ∷ []

abbrev pub HasItsWords : ℕ → Type 0
HasItsWords m = m ≤ 100000 → AreItsWords m

-- the numbers in them
pub record HasItsNumbers (n : ℕ) : Type 0 where
  pub decimal_number : n ≤ 200000 → is_number (decimal n) ≡ true
  pub decimal_value : n ≤ 200000 → value_of (decimal n) ≡ n
  pub byte : n < 256 → hex_of 2 (hex_byte n) ≡ Some n
  pub word : n < 256 → hex_of 8 (codes "000000" ++ hex_byte n) ≡ Some n

-- ---- the whole

-- both modules are of one byte, on the first two lines
abbrev pub made_modules : List Module
made_modules = module_of 1 true 0 1 Switched ∷ module_of 2 false 0 1 Switched ∷ []

-- an event without its line: when it is, and what happens
abbrev pub happening : Event → ℕ × What
happening event = (event.moment, event.what)

-- what happens at moment m of n: an input, which counts the hundreds of moments; an alarm at each full thousand; and half way the loss of B
abbrev pub happenings : ℕ → ℕ → List (ℕ × What)
happenings n m =
    (m, Input 0 None (m / 100 % 256))
    ∷ ((if m % 1000 == 0 then (m, Alarm 40 (m / 1000)) ∷ [] else []) ++ (if m == 100 * (n / 200) then (m, Fail B false) ∷ [] else []))

-- the same at each full hundred above 0 and below n
abbrev pub all_happenings : ℕ → List (ℕ × What)
all_happenings n = flat_map (λ k. happenings n (100 * k)) (range_with_len 1 ((n - 1) / 100))

-- the script is read without fault, as the plan that was meant: its modules, what happens, and its end
pub record IsAccepted (n : ℕ) : Type 0 where
  pub plan : Plan
  pub read : IsScript (script_text n) plan
  pub form : IsPlan plan
  pub modules : plan.modules ≡ made_modules
  pub events : map happening plan.events ≡ all_happenings n
  pub end : plan.end ≡ n

abbrev pub MadeScriptsAreAccepted : Type 0
MadeScriptsAreAccepted = (n : ℕ) → 1000 ≤ n → n ≤ 100000 → IsAccepted n
