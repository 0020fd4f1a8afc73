-- The lines of a made script are read without fault, and so is the whole.
use Rattle.std.proofs.Common.{◌≡◌, ℕ, zero, suc, ◌+◌, ◌-◌, ◌*◌, ◌/◌, ◌%◌, ◌≤◌, ◌<◌, Bool, true, false, cond, List, [], ◌∷◌, ◌++◌, min, Option, Some, None, refl, sym, ◌∙◌, ap, append_assoc, append-nil, arith, codes}
use Rattle.std.specs.Prelude.{◌==◌, nat_lt, Ok, if◌then◌else◌, map}
use Rattle.std.specs.List.{flat_map, range_with_len}
use Rattle.std.specs.Fmt.{decimal, digit_glyph}
use Rattle.std.proofs.lemmas.Bool.{le-ltb, lt-leb, ne_eqb, eqb-true}
use Rattle.std.proofs.lemmas.List.{map-append}
use Rattle.s7_events.specs.declared.entry.Side.TheVariants.{B}
use Rattle.plant_script.specs.declared.plan.Module.{Module}
use Rattle.plant_script.specs.declared.plan.ModuleKind.TheVariants.{Switched}
use Rattle.plant_script.specs.declared.plan.Event.{Event}
use Rattle.plant_script.specs.declared.plan.What.{What}
use Rattle.plant_script.specs.declared.plan.What.TheVariants.{Input, Alarm, Fail}
use Rattle.plant_script.specs.declared.lines.Line.{Line}
use Rattle.plant_script.specs.declared.lines.Line.TheVariants.{Module as IsModuleLine, At, End}
use Rattle.plant_script.specs.declared.second_pass.Failures.{Failures}
use Rattle.plant_script.specs.declared.script_error.ScriptFault.{ScriptFault}
use Rattle.plant_script.specs.Faults.{bad_line, bad_time, time_back, overlap, no_module, too_long}
use Rattle.plant_script.specs.Words.{lines_of, words_of, time_word}
use Rattle.plant_script.specs.Numbers.{value_of, is_number, number_within, hex_of}
use Rattle.plant_script.specs.Form.{IsWritten}
use Rattle.plant_script.specs.Lines.{line_of, module_of}
use Rattle.plant_script.specs.Plan.{Plan, no_failures, breaks_order, after_what, is_comeback}
use Rattle.plant_script.specs.FirstPass.{Reading, nothing_read, has_wrong_side, is_bad_line, is_bad_time, goes_back, overlaps, lacks_module, has_no_module, is_too_long, line_fault, fault_at, event_of, with_line, read_line, first_pass}
use Rattle.plant_script.specs.SecondPass.{event_fault, events_fault, unbuilt_line, script_of}
use Rattle.plant_script.specs.Sound.{IsSound, AreParts}
use Rattle.plant_script.proofs.Sound.{sound_first, sound_step}
use Rattle.plant_script.proofs.Whole.{plan_is}
use Rattle.load_maker.specs.Lines.{hex_byte}
use Rattle.load_maker.specs.Script.{module_lines, input_lines, alarm_lines, loss_lines, hundred_lines, all_moment_lines, end_lines, script_lines, script_text}
use Rattle.workload_laws.specs.MadeScripts.{input_line, alarm_line, loss_line, end_line, MadeScriptsAreAccepted, made_modules, happening, happenings}
use Rattle.workload_laws.proofs.Lines.{script_is_lines}
use Rattle.workload_laws.proofs.Words.{decimal_number, decimal_value, decimal_within, glyphs, byte_read, word_read, end_words, lines_have_words}
use Rattle.workload_laws.proofs.Forms.{lines_have_forms}

-- ---- lines that are read one behind the other

-- from a reading and the number of a line these lines lead to another
abbrev Goes : Reading → ℕ → List (List ℕ) → Reading → ℕ → Type 0
Goes r i lines next j = (rest : List (List ℕ)) → first_pass r i (lines ++ rest) ≡ first_pass next j rest

goes_none : (r : Reading) (i : ℕ) → Goes r i [] r i
goes_none r i rest = refl

goes_one : (r : Reading) (i : ℕ) (line : List ℕ) (next : Reading) → read_line r i line ≡ Ok next → Goes r i (line ∷ []) next (i + 1)
unfolding first_pass
goes_one r i line next e rest = rw e refl

goes_both : (r : Reading) (i : ℕ) (xs : List (List ℕ)) (s : Reading) (j : ℕ) (ys : List (List ℕ)) (t : Reading) (k : ℕ) → Goes r i xs s j → Goes s j ys t k → Goes r i (xs ++ ys) t k
goes_both r i xs s j ys t k g h rest = ap (λ ls. first_pass r i ls) (append_assoc xs ys rest) ∙ g (ys ++ rest) ∙ h rest

-- a line by its words and its form, without fault
read_by : (r : Reading) (number : ℕ) (text : List ℕ) (words : List (List ℕ)) (line : Line) → words_of text ≡ words → line_of number words ≡ Some line → line_fault r number line (time_word words) ≡ None
    → read_line r number text ≡ Ok (with_line r number line (time_word words))
unfolding read_line
read_by r number text words line split form good = rw (split, form, good) refl

no_fault : (a b c d e f : Bool) → a ≡ false → b ≡ false → c ≡ false → d ≡ false → e ≡ false → f ≡ false
    → ◌≡◌ {A = Option ℕ} (cond a (Some bad_line) (cond b (Some bad_time) (cond c (Some time_back) (cond d (Some overlap) (cond e (Some no_module) (cond f (Some too_long) None)))))) None
no_fault a b c d e f ha hb hc hd he hf = rw (ha, hb, hc, hd, he, hf) refl

-- ---- the modules

abbrev input_module : Module
input_module = module_of 1 true 0 1 Switched

abbrev output_module : Module
output_module = module_of 2 false 0 1 Switched

abbrev one_read : Reading
one_read = record { modules = input_module ∷ []; events = []; floor = 0; end = None }

abbrev modules_read : Reading
modules_read = record { modules = made_modules; events = []; floor = 0; end = None }

input_module_words : words_of (codes "MODULE IN 0 1 SWITCHED") ≡ codes "MODULE" ∷ codes "IN" ∷ codes "0" ∷ codes "1" ∷ codes "SWITCHED" ∷ []
unfolding words_of
input_module_words = refl

output_module_words : words_of (codes "MODULE OUT 0 1 SWITCHED") ≡ codes "MODULE" ∷ codes "OUT" ∷ codes "0" ∷ codes "1" ∷ codes "SWITCHED" ∷ []
unfolding words_of
output_module_words = refl

input_module_good : line_fault nothing_read 1 (IsModuleLine input_module) (codes "IN") ≡ None
unfolding line_fault
input_module_good = refl

output_module_good : line_fault one_read 2 (IsModuleLine output_module) (codes "OUT") ≡ None
unfolding line_fault
output_module_good = refl

modules_go : Goes nothing_read 1 module_lines modules_read 3
modules_go =
    let first : Goes nothing_read 1 (codes "MODULE IN 0 1 SWITCHED" ∷ []) one_read 2 = goes_one nothing_read 1 (codes "MODULE IN 0 1 SWITCHED") one_read
    (read_by nothing_read 1 (codes "MODULE IN 0 1 SWITCHED") (codes "MODULE" ∷ codes "IN" ∷ codes "0" ∷ codes "1" ∷ codes "SWITCHED" ∷ []) (IsModuleLine input_module) input_module_words (lines_have_forms 1).inputs input_module_good) in
    let second : Goes one_read 2 (codes "MODULE OUT 0 1 SWITCHED" ∷ []) modules_read 3 = goes_one one_read 2 (codes "MODULE OUT 0 1 SWITCHED") modules_read
    (read_by one_read 2 (codes "MODULE OUT 0 1 SWITCHED") (codes "MODULE" ∷ codes "OUT" ∷ codes "0" ∷ codes "1" ∷ codes "SWITCHED" ∷ []) (IsModuleLine output_module) output_module_words (lines_have_forms 2).outputs output_module_good) in
    goes_both nothing_read 1 (codes "MODULE IN 0 1 SWITCHED" ∷ []) one_read 2 (codes "MODULE OUT 0 1 SWITCHED" ∷ []) modules_read 3 first second

modules_sound : IsSound modules_read 3
modules_sound =
    let first : IsSound one_read 2 = sound_step nothing_read 1 (IsModuleLine input_module) (codes "IN") (record { some = omega arith; few = omega arith; within = omega arith }) input_module_good sound_first in
    sound_step one_read 2 (IsModuleLine output_module) (codes "OUT") (record { some = omega arith; few = omega arith; within = omega arith }) output_module_good first

-- ---- a line of a moment

-- side B failed at this moment, or has not failed; side A never does
abbrev lost : Option ℕ → Failures
lost failed = record { a = None; b = failed }

-- what was read before a line: both modules, and events that the second pass finds no fault in
record IsAt (n : ℕ) (failed : Option ℕ) (r : Reading) (number : ℕ) : Type 0 where
  modules : r.modules ≡ made_modules
  open_end : r.end ≡ None
  sound : IsSound r number
  order : (rest : List Event) → events_fault n no_failures (r.events ++ rest) ≡ events_fault n (lost failed) rest
  built : (rest : List Event) → unbuilt_line (r.events ++ rest) ≡ unbuilt_line rest

-- what happens is in its ranges, and in order
record IsFine (failed after : Option ℕ) (m : ℕ) (what : What) : Type 0 where
  written : IsWritten what
  sided : has_wrong_side made_modules what ≡ false
  held : lacks_module made_modules what ≡ false
  no_comeback : is_comeback what ≡ false
  order : breaks_order (lost failed) m what ≡ false
  leaves : after_what (lost failed) m what ≡ lost after

event_good : (end : ℕ) (f : Failures) (e : Event) → e.moment < end → breaks_order f e.moment e.what ≡ false → event_fault end f e ≡ None
event_good end f e before order = rw (lt-leb end e.moment before, order) refl

event_passes : (end : ℕ) (f g : Failures) (e : Event) (rest : List Event) → e.moment < end → breaks_order f e.moment e.what ≡ false → after_what f e.moment e.what ≡ g
    → events_fault end f (e ∷ rest) ≡ events_fault end g rest
event_passes end f g e rest before order leaves =
    ap (λ (o : Option ℕ). elim o as (λ _. Option ScriptFault) [ Some kind ↦ Some (fault_at kind e.line) | None ↦ events_fault end (after_what f e.moment e.what) rest ]) (event_good end f e before order)
    ∙ ap (λ (h : Failures). events_fault end h rest) leaves

event_built : (e : Event) (rest : List Event) → is_comeback e.what ≡ false → unbuilt_line (e ∷ rest) ≡ unbuilt_line rest
unfolding unbuilt_line
event_built e rest stays = rw stays refl

module _ (n m number : ℕ) (failed after : Option ℕ) (r : Reading) (what : What) (on : IsAt n failed r number) (fine : IsFine failed after m what)
    (floor : r.floor ≤ m) (before : m < n) (within : n ≤ 100000) (few : number ≤ 20000) where
  at_value : value_of (decimal m) ≡ m
  at_value = decimal_value m (omega arith)

  at_number : is_number (decimal m) ≡ true
  at_number = decimal_number m (omega arith)

  at_place : is_bad_line r (At what) ≡ false
  at_place = rw (on.open_end, on.modules, fine.sided) refl

  at_time : is_bad_time (At what) (decimal m) ≡ false
  at_time = rw at_number refl

  at_back : goes_back r.floor (At what) (decimal m) ≡ false
  at_back = rw (at_number, at_value, le-ltb m r.floor floor) refl

  at_held : has_no_module r.modules (At what) ≡ false
  at_held = rw (on.modules, fine.held) refl

  at_long : is_too_long r.events number (At what) ≡ false
  at_long = rw (ne_eqb number 20001 (λ e. omega (arith, e, few)), fine.no_comeback) refl

  at_good : line_fault r number (At what) (decimal m) ≡ None
  unfolding line_fault
  at_good =
      no_fault (is_bad_line r (At what)) (is_bad_time (At what) (decimal m)) (goes_back r.floor (At what) (decimal m)) (overlaps r.modules (At what)) (has_no_module r.modules (At what)) (is_too_long r.events number (At what))
      at_place at_time at_back refl at_held at_long

  at_moment : min (value_of (decimal m)) 200000 ≡ m
  at_moment = omega (arith, at_value)

  abbrev at_next : Reading
  at_next = with_line r number (At what) (decimal m)

  abbrev at_event : Event
  at_event = event_of number what (decimal m)

  at_order : (rest : List Event) → events_fault n no_failures (at_next.events ++ rest) ≡ events_fault n (lost after) rest
  at_order rest =
      ap (λ es. events_fault n no_failures es) (append_assoc r.events (at_event ∷ []) rest) ∙ on.order (at_event ∷ rest)
      ∙ event_passes n (lost failed) (lost after) at_event rest (omega (arith, at_moment, before))
      (ap (λ k. breaks_order (lost failed) k what) at_moment ∙ fine.order)
      (ap (λ k. after_what (lost failed) k what) at_moment ∙ fine.leaves)

  at_built : (rest : List Event) → unbuilt_line (at_next.events ++ rest) ≡ unbuilt_line rest
  at_built rest =
      ap (λ es. unbuilt_line es) (append_assoc r.events (at_event ∷ []) rest) ∙ on.built (at_event ∷ rest) ∙ event_built at_event rest fine.no_comeback

  at_step : IsAt n after at_next (number + 1)
  at_step = record {
    modules = on.modules;
    open_end = on.open_end;
    sound = sound_step r number (At what) (decimal m) fine.written at_good on.sound;
    order = at_order;
    built = at_built;
  }

  at_goes : (text : List ℕ) (words : List (List ℕ)) → words_of text ≡ codes "AT" ∷ decimal m ∷ words → line_of number (codes "AT" ∷ decimal m ∷ words) ≡ Some (At what) → Goes r number (text ∷ []) at_next (number + 1)
  at_goes text words split form = goes_one r number text at_next (read_by r number text (codes "AT" ∷ decimal m ∷ words) (At what) split form at_good)

-- ---- what happens at a moment

fine_input : (failed : Option ℕ) (m v : ℕ) → v < 256 → IsFine failed failed m (Input 0 None v)
fine_input failed m v small = record { written = small; sided = refl; held = refl; no_comeback = refl; order = refl; leaves = refl }

fine_alarm : (failed : Option ℕ) (m v : ℕ) → v < 256 → IsFine failed failed m (Alarm 40 v)
fine_alarm failed m v small = record { written = (refl, omega arith); sided = refl; held = refl; no_comeback = refl; order = refl; leaves = refl }

fine_loss : (m : ℕ) → IsFine None (Some m) m (Fail B false)
fine_loss m = record { written = tt; sided = refl; held = refl; no_comeback = refl; order = refl; leaves = refl }

input_form : (number v : ℕ) (time : List ℕ) → v < 256 → line_of number (codes "AT" ∷ time ∷ codes "INPUT" ∷ codes "0" ∷ hex_byte v ∷ []) ≡ Some (At (Input 0 None v))
input_form number v time small =
    ap (λ (w : List ℕ). line_of number (codes "AT" ∷ time ∷ codes "INPUT" ∷ codes "0" ∷ w ∷ [])) (glyphs v small)
    ∙ (lines_have_forms number).input time (digit_glyph true (v / 16)) (digit_glyph true (v % 16)) v (ap (λ (w : List ℕ). hex_of 2 w) (sym (glyphs v small)) ∙ byte_read v small)

alarm_form : (number v : ℕ) (time : List ℕ) → v < 256 → line_of number (codes "AT" ∷ time ∷ codes "ALARM" ∷ codes "40" ∷ (codes "000000" ++ hex_byte v) ∷ []) ≡ Some (At (Alarm 40 v))
alarm_form number v time small = (lines_have_forms number).alarm time (codes "000000" ++ hex_byte v) v (word_read v small)

-- where some lines of moment m lead from a reading before line i: at most this many lines further, with what they say
record Reached (n m : ℕ) (r : Reading) (i : ℕ) (lines : List (List ℕ)) (many : ℕ) (after : Option ℕ) (said : List (ℕ × What)) : Type 0 where
  next : Reading
  line : ℕ
  goes : Goes r i lines next line
  on : IsAt n after next line
  floor : next.floor ≤ m
  few : line ≤ i + many
  adds : map happening next.events ≡ map happening r.events ++ said

stay : (n m : ℕ) (r : Reading) (i many : ℕ) (failed : Option ℕ) → IsAt n failed r i → r.floor ≤ m → Reached n m r i [] many failed []
stay n m r i many failed on floor = record { next = r; line = i; goes = goes_none r i; on = on; floor = floor; few = omega arith; adds = sym (append-nil (map happening r.events)) }

module _ (n m i : ℕ) (r : Reading) (failed : Option ℕ) (on : IsAt n failed r i) (floor : r.floor ≤ m) (before : m < n) (within : n ≤ 100000) (few : i ≤ 20000) where
  one_line : (after : Option ℕ) (what : What) (text : List ℕ) (words : List (List ℕ)) → IsFine failed after m what → words_of text ≡ codes "AT" ∷ decimal m ∷ words → line_of i (codes "AT" ∷ decimal m ∷ words) ≡ Some (At what)
      → Reached n m r i (text ∷ []) 1 after ((m, what) ∷ [])
  one_line after what text words fine split form = record {
    next = with_line r i (At what) (decimal m);
    line = i + 1;
    goes = at_goes n m i failed after r what on fine floor before within few text words split form;
    on = at_step n m i failed after r what on fine floor before within few;
    floor = omega (arith, at_value n m i failed after r what on fine floor before within few);
    few = omega arith;
    adds = map-append happening r.events (event_of i what (decimal m) ∷ [])
        ∙ ap (λ (k : ℕ). map happening r.events ++ (k, what) ∷ []) (at_moment n m i failed after r what on fine floor before within few);
  }

  input_reached : Reached n m r i (input_lines m) 1 failed ((m, Input 0 None (m / 100 % 256)) ∷ [])
  input_reached =
      let v = m / 100 % 256 in
      one_line failed (Input 0 None v) (input_line m) (codes "INPUT" ∷ codes "0" ∷ hex_byte v ∷ []) (fine_input failed m v (omega arith)) (lines_have_words m (omega arith)).input (input_form i v (decimal m) (omega arith))

  alarm_reached : Reached n m r i (alarm_lines m) 1 failed (if m % 1000 == 0 then (m, Alarm 40 (m / 1000)) ∷ [] else [])
  alarm_reached = by (m % 1000 == 0)
    where
      by : (t : Bool) → Reached n m r i (if t then alarm_line m ∷ [] else []) 1 failed (if t then (m, Alarm 40 (m / 1000)) ∷ [] else [])
      by true =
          let v = m / 1000 in
          one_line failed (Alarm 40 v) (alarm_line m) (codes "ALARM" ∷ codes "40" ∷ (codes "000000" ++ hex_byte v) ∷ []) (fine_alarm failed m v (omega arith)) (lines_have_words m (omega arith)).alarm (alarm_form i v (decimal m) (omega arith))
      by false = stay n m r i 1 failed on floor

loss_reached : (n m i : ℕ) (r : Reading) → IsAt n None r i → r.floor ≤ m → m < n → n ≤ 100000 → i ≤ 20000 → Reached n m r i (loss_line m ∷ []) 1 (Some m) ((m, Fail B false) ∷ [])
loss_reached n m i r on floor before within few =
    one_line n m i r None on floor before within few (Some m) (Fail B false) (loss_line m) (codes "FAIL" ∷ codes "B" ∷ []) (fine_loss m) (lines_have_words m (omega arith)).loss ((lines_have_forms i).loss (decimal m))

-- ---- all moments

three_said : (a b c d x y z : List (ℕ × What)) → b ≡ a ++ x → c ≡ b ++ y → d ≡ c ++ z → d ≡ a ++ (x ++ (y ++ z))
three_said a b c d x y z first second third =
    third ∙ ap (λ (l : List (ℕ × What)). l ++ z) (second ∙ ap (λ (l : List (ℕ × What)). l ++ y) first) ∙ append_assoc (a ++ x) y z ∙ append_assoc a x (y ++ z)

-- before the k-th full hundred
record IsBefore (n k : ℕ) (r : Reading) (number : ℕ) : Type 0 where
  failed : Option ℕ
  on : IsAt n failed r number
  floor : r.floor ≤ 100 * k
  few : number ≤ 3 * k
  none : k ≤ n / 200 → failed ≡ None

-- where lines lead to the k-th full hundred, with what they say
record Comes (n k : ℕ) (r : Reading) (i : ℕ) (lines : List (List ℕ)) (said : List (ℕ × What)) : Type 0 where
  next : Reading
  line : ℕ
  goes : Goes r i lines next line
  on : IsBefore n k next line
  adds : map happening next.events ≡ map happening r.events ++ said

module _ (n k i : ℕ) (r : Reading) (on : IsBefore n k r i) (some : 1 ≤ k) (before : 100 * k < n) (within : n ≤ 100000) where
  module _ (s : Reading) (j : ℕ) (at : IsAt n on.failed s j) (floor : s.floor ≤ 100 * k) (few : j ≤ i + 2) where
    loss_by : (t : Bool) → (100 * k == 100 * (n / 200)) ≡ t → Comes n (k + 1) s j (if t then loss_line (100 * k) ∷ [] else []) (if t then (100 * k, Fail B false) ∷ [] else [])
    loss_by true is =
        let here : 100 * k ≡ 100 * (n / 200) = eqb-true (100 * k) (100 * (n / 200)) is in
        let none : on.failed ≡ None = on.none (omega (arith, here)) in
        let at_none : IsAt n None s j = rw none at at in
        let reached = loss_reached n (100 * k) j s at_none floor before within (omega (arith, few, on.few)) in
        record {
          next = reached.next;
          line = reached.line;
          goes = reached.goes;
          on = record {
            failed = Some (100 * k);
            on = reached.on;
            floor = omega (arith, reached.floor);
            few = omega (arith, reached.few, few, on.few);
            none = λ later. absurd (omega (arith, here, later));
          };
          adds = reached.adds;
        }
    loss_by false is = record {
      next = s;
      line = j;
      goes = goes_none s j;
      on = record {
        failed = on.failed;
        on = at;
        floor = omega (arith, floor);
        few = omega (arith, few, on.few);
        none = λ later. on.none (omega (arith, later));
      };
      adds = sym (append-nil (map happening s.events));
    }

  hundred_comes : Comes n (k + 1) r i (hundred_lines n k) (happenings n (100 * k))
  hundred_comes =
      let m = 100 * k in
      let first = input_reached n m i r on.failed on.on on.floor before within (omega (arith, on.few)) in
      let second = alarm_reached n m first.line first.next on.failed first.on first.floor before within (omega (arith, first.few, on.few)) in
      let third = loss_by second.next second.line second.on second.floor (omega (arith, first.few, second.few)) (m == 100 * (n / 200)) refl in
      record {
        next = third.next;
        line = third.line;
        goes = goes_both r i (input_lines m) first.next first.line (alarm_lines m ++ loss_lines n m) third.next third.line first.goes
            (goes_both first.next first.line (alarm_lines m) second.next second.line (loss_lines n m) third.next third.line second.goes third.goes);
        on = third.on;
        adds = three_said (map happening r.events) (map happening first.next.events) (map happening second.next.events) (map happening third.next.events) ((m, Input 0 None (m / 100 % 256)) ∷ [])
            (if m % 1000 == 0 then (m, Alarm 40 (m / 1000)) ∷ [] else []) (if m == 100 * (n / 200) then (m, Fail B false) ∷ [] else []) first.adds second.adds third.adds;
      }

all_come : (n : ℕ) → n ≤ 100000 → (count k i : ℕ) (r : Reading) → 1 ≤ k → k + count ≤ (n - 1) / 100 + 1 → IsBefore n k r i → Comes n (k + count) r i (flat_map (hundred_lines n) (range_with_len k count)) (flat_map (λ j. happenings n (100 * j)) (range_with_len k count))
all_come n within zero k i r some fits on =
    let none : k + 0 ≡ k = omega arith in
    record { next = r; line = i; goes = goes_none r i; on = rw none on; adds = sym (append-nil (map happening r.events)) }
all_come n within (suc count) k i r some fits on =
    let first = hundred_comes n k i r on some (omega (arith, fits)) within in
    let others = all_come n within count (k + 1) first.line first.next (omega arith) (omega (arith, fits)) first.on in
    let same : k + suc count ≡ k + 1 + count = omega arith in
    record {
      next = others.next;
      line = others.line;
      goes = goes_both r i (hundred_lines n k) first.next first.line (flat_map (hundred_lines n) (range_with_len (k + 1) count)) others.next others.line first.goes others.goes;
      on = rw same others.on;
      adds = others.adds ∙ ap (λ (l : List (ℕ × What)). l ++ flat_map (λ j. happenings n (100 * j)) (range_with_len (k + 1) count)) first.adds
          ∙ append_assoc (map happening r.events) (happenings n (100 * k)) (flat_map (λ j. happenings n (100 * j)) (range_with_len (k + 1) count));
    }

modules_before : (n : ℕ) → IsBefore n 1 modules_read 3
modules_before n = record {
  failed = None;
  on = record { modules = refl; open_end = refl; sound = modules_sound; order = λ rest. refl; built = λ rest. refl };
  floor = omega arith;
  few = omega arith;
  none = λ early. refl;
}

-- ---- the end

module _ (n i k : ℕ) (r : Reading) (on : IsBefore n k r i) (low : 1 ≤ n) (within : n ≤ 100000) (few : k ≤ 1001) where
  end_within : number_within 200000 (decimal n) ≡ Some n
  end_within = decimal_within n 200000 (omega arith) (omega arith)

  end_place : is_bad_line r End ≡ false
  end_place = rw on.on.open_end refl

  end_time : is_bad_time End (decimal n) ≡ false
  end_time = ap (λ (o : Option ℕ). elim o as (λ _. Bool) [ None ↦ true | Some end ↦ nat_lt end 1 ]) end_within ∙ le-ltb n 1 low

  end_long : is_too_long r.events i End ≡ false
  end_long = let short = on.few in rw (ne_eqb i 20001 (λ e. omega (arith, e, short, few))) refl

  end_good : line_fault r i End (decimal n) ≡ None
  unfolding line_fault
  end_good = no_fault (is_bad_line r End) (is_bad_time End (decimal n)) false false false (is_too_long r.events i End) end_place end_time refl refl refl end_long

  abbrev end_plan : Plan
  end_plan = record { modules = r.modules; events = r.events; end = n }

  end_read : first_pass r i (end_lines n) ≡ Ok end_plan
  unfolding first_pass
  end_read =
      let read = read_by r i (end_line n) (codes "END" ∷ decimal n ∷ []) End (end_words n within) ((lines_have_forms i).end (decimal n)) end_good in
      rw (read, end_within) refl

  end_order : events_fault n no_failures r.events ≡ None
  end_order = ap (λ es. events_fault n no_failures es) (sym (append-nil r.events)) ∙ on.on.order []

  nothing_unbuilt : unbuilt_line [] ≡ None
  unfolding unbuilt_line
  nothing_unbuilt = refl

  end_built : unbuilt_line r.events ≡ None
  end_built = ap (λ es. unbuilt_line es) (sym (append-nil r.events)) ∙ on.on.built [] ∙ nothing_unbuilt

  end_parts : AreParts end_plan
  end_parts = record { modules = on.on.sound.modules; events = on.on.sound.events; end = (low, omega arith) }

whole : (bytes : List ℕ) (lines : List (List ℕ)) (plan : Plan) → lines_of bytes ≡ lines → first_pass nothing_read 1 lines ≡ Ok plan → events_fault plan.end no_failures plan.events ≡ None → unbuilt_line plan.events ≡ None
    → script_of bytes ≡ Ok plan
unfolding script_of
whole bytes lines plan cut first order built = rw (cut, first, order, built) refl

pub script_is_accepted : MadeScriptsAreAccepted
script_is_accepted n low within =
    let all = all_come n within ((n - 1) / 100) 1 3 modules_read (omega arith) (omega arith) (modules_before n) in
    let plan = end_plan n all.line (1 + (n - 1) / 100) all.next all.on (omega arith) within (omega arith) in
    let end = end_read n all.line (1 + (n - 1) / 100) all.next all.on (omega arith) within (omega arith) in
    let read : first_pass nothing_read 1 (script_lines n) ≡ Ok plan = modules_go (all_moment_lines n ++ end_lines n) ∙ all.goes (end_lines n) ∙ end in
    let order = end_order n all.line (1 + (n - 1) / 100) all.next all.on (omega arith) within (omega arith) in
    let built = end_built n all.line (1 + (n - 1) / 100) all.next all.on (omega arith) within (omega arith) in
    record {
      plan = plan;
      read = whole (script_text n) (script_lines n) plan (script_is_lines n within) read order built;
      form = plan_is plan (end_parts n all.line (1 + (n - 1) / 100) all.next all.on (omega arith) within (omega arith)) order built;
      modules = all.on.on.modules;
      events = all.adds;
      end = refl;
    }
