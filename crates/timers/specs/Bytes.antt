-- The 24 bytes of a timer. Numbers have the high byte first.
use Rattle.std.specs.Prelude.{◌≡◌, ℕ, ◌≤◌, List, [], ◌∷◌, ◌++◌, Bool, ◌==◌, if◌then◌else◌, zero, suc, slice_index, take, drop}
use Rattle.std.specs.Int.{w16, w64, to_be_bytes, from_be_bytes}
use Rattle.instruction_set.specs.declared.operation.TimerKind.{TimerKind}
use Rattle.instruction_set.specs.declared.operation.TimerKind.TheVariants.{Sp, Se, Sd, Ss, Sf}
use Rattle.timers.specs.State.{TimerState}

-- the number of a kind
abbrev pub number_of : TimerKind → ℕ
number_of Sp = 0
number_of Se = 1
number_of Sd = 2
number_of Ss = 3
number_of Sf = 4

-- the kind of a number up to 4
abbrev pub kind_of : ℕ → TimerKind
kind_of zero = Sp
kind_of (suc zero) = Se
kind_of (suc (suc zero)) = Sd
kind_of (suc (suc (suc zero))) = Ss
kind_of (suc (suc (suc (suc _)))) = Sf

-- the byte of a truth value
abbrev pub flag : Bool → ℕ
flag b = if b then 1 else 0

-- the eight bytes at the end
abbrev pub padding : List ℕ
padding = 0 ∷ 0 ∷ 0 ∷ 0 ∷ 0 ∷ 0 ∷ 0 ∷ 0 ∷ []

-- kind, running, start (8), base and units (2) of the preset, mem, input, fr_mem, eight bytes 0
abbrev pub bytes_of : TimerState → List ℕ
bytes_of t =
    number_of t.kind ∷ flag t.running ∷ to_be_bytes w64 t.start
    ++ t.preset.base ∷ to_be_bytes w16 t.preset.units
    ++ flag t.mem ∷ flag t.input ∷ flag t.fr_mem ∷ padding

-- the timer of 24 bytes
abbrev pub timer_of : List ℕ → TimerState
timer_of bytes = record {
  kind = kind_of (slice_index bytes 0);
  running = slice_index bytes 1 == 1;
  start = from_be_bytes w64 (take 8 (drop 2 bytes));
  preset = record { base = slice_index bytes 10; units = from_be_bytes w16 (take 2 (drop 11 bytes)) };
  mem = slice_index bytes 13 == 1;
  input = slice_index bytes 14 == 1;
  fr_mem = slice_index bytes 15 == 1;
}

-- the bytes are those of a timer
pub record IsTimer (bytes : List ℕ) : Type 0 where
  pub kind : slice_index bytes 0 ≤ 4
  pub running : slice_index bytes 1 ≤ 1
  pub base : slice_index bytes 10 ≤ 3
  pub units : from_be_bytes w16 (take 2 (drop 11 bytes)) ≤ 999
  pub mem : slice_index bytes 13 ≤ 1
  pub input : slice_index bytes 14 ≤ 1
  pub fr_mem : slice_index bytes 15 ≤ 1
  pub rest : drop 16 bytes ≡ padding
