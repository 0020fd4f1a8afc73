-- The rule of counters: each instruction acts where its RLO rises.
use Rattle.std.specs.Prelude.{ℕ, ◌+◌, ◌-◌, Bool, false, ◌&&◌, not, nat_lt, if◌then◌else◌}
use Rattle.counters.specs.State.{CounterState}

-- the RLO was 0 and is 1
abbrev pub rises : Bool → Bool → Bool
rises mem rlo = not mem && rlo

-- the counter after CU: one more as the RLO rises, up to 999
abbrev pub counted_up : CounterState → Bool → CounterState
counted_up c rlo =
    let counted : CounterState = if rises c.cu_mem rlo && nat_lt c.value 999 then record c { value = c.value + 1 } else c in
    record counted { cu_mem = rlo }

-- the counter after CD: one less as the RLO rises, down to 0
abbrev pub counted_down : CounterState → Bool → CounterState
counted_down c rlo =
    let counted : CounterState = if rises c.cd_mem rlo && nat_lt 0 c.value then record c { value = c.value - 1 } else c in
    record counted { cd_mem = rlo }

-- whether S sets the counter at this RLO
abbrev pub sets : CounterState → Bool → Bool
sets c rlo = rises c.s_mem rlo

-- the counter after S: the value as the RLO rises
abbrev pub set_to : CounterState → Bool → ℕ → CounterState
set_to c rlo value =
    let set : CounterState = if sets c rlo then record c { value = value } else c in
    record set { s_mem = rlo }

-- the counter after R: 0 at RLO 1
abbrev pub reset : CounterState → Bool → CounterState
reset c rlo = if rlo then record c { value = 0 } else c

-- the counter after FR: as the RLO rises, the next CU, CD and S may act again
abbrev pub enabled : CounterState → Bool → CounterState
enabled c rlo =
    let freed : CounterState = if rises c.fr_mem rlo then record c { cu_mem = false; cd_mem = false; s_mem = false } else c in
    record freed { fr_mem = rlo }
