-- The rule of timers: output and rest are functions of the state and the moment, and no timer counts down.
use Rattle.std.specs.Prelude.{ℕ, ◌-◌, ◌/◌, Bool, true, false, ◌&&◌, ◌||◌, not, nat_lt, if◌then◌else◌}
use Rattle.s5_time.specs.Duration.{Duration, millis_of, unit_millis}
use Rattle.instruction_set.specs.declared.operation.TimerKind.{TimerKind}
use Rattle.instruction_set.specs.declared.operation.TimerKind.TheVariants.{Sp, Se, Sd, Ss, Sf}
use Rattle.timers.specs.Kind.{has_edge, ends_run, is_stored}
use Rattle.timers.specs.State.{TimerState}

-- the milliseconds since the start, 0 where `now` is below it
abbrev pub elapsed : TimerState → ℕ → ℕ
elapsed t now = now - t.start

-- it runs and its preset has not passed
abbrev pub going : TimerState → ℕ → Bool
going t now = t.running && nat_lt (elapsed t now) (millis_of t.preset)

-- it runs and its preset has passed
abbrev pub up : TimerState → ℕ → Bool
up t now = t.running && not (going t now)

-- the output of a timer as one of a kind
abbrev pub output_as : TimerKind → TimerState → ℕ → Bool
output_as Sp t now = going t now
output_as Se t now = going t now
output_as Sd t now = up t now
output_as Ss t now = up t now
output_as Sf t now = t.input || going t now

-- the output
abbrev pub output : TimerState → ℕ → Bool
output t now = output_as t.kind t now

-- the rest, in the preset's base: what is left of the preset while it is going, else nothing
abbrev pub rest : TimerState → ℕ → Duration
rest t now = record {
  base = t.preset.base;
  units = if going t now then t.preset.units - elapsed t now / unit_millis t.preset.base else 0;
}

-- a start of this kind with this RLO begins a new run: it has the kind's edge, and is no SS on an SS timer that
-- is up
abbrev pub starts : TimerState → TimerKind → Bool → ℕ → Bool
starts t kind rlo now = has_edge kind t.mem rlo && not (is_stored kind && is_stored t.kind && up t now)

-- the timer with a run that begins
abbrev pub begun : TimerState → Duration → ℕ → TimerState
begun t preset now = record t { running = true; start = now; preset = preset }

-- the timer after a start: a new run at a starting edge, the end of a run, and then kind and RLO are kept
abbrev pub started : TimerState → TimerKind → Bool → Duration → ℕ → TimerState
started t kind rlo preset now =
    let run : TimerState = if starts t kind rlo now then begun t preset now else t in
    let held : TimerState = if ends_run kind rlo then record run { running = false } else run in
    record held { kind = kind; input = rlo; mem = rlo }

-- the timer after R: at RLO 1 it neither runs nor has an input
abbrev pub reset : TimerState → Bool → TimerState
reset t rlo = if rlo then record t { running = false; input = false } else t

-- the timer after FR: as the RLO rises, the next start may have an edge again
abbrev pub enabled : TimerState → Bool → TimerState
enabled t rlo =
    let freed : TimerState = if rlo && not t.fr_mem then record t { mem = false } else t in
    record freed { fr_mem = rlo }
