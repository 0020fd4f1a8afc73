-- No statement begins or ends a block.
use Rattle.std.proofs.Common.{◌≡◌, ℕ, Bool, true, false, Option, Some, None, Result, Ok, Err, refl, ◌∙◌}
use Rattle.std.specs.Prelude.{◌+◌, ◌%◌, ◌&&◌, not, nat_le, length, is_some}
use Rattle.std.proofs.lemmas.Bool.{cond_both}
use Rattle.instruction_set.specs.declared.operation.BitWrite.TheVariants as writes
use Rattle.s5_time.specs.Bcd.{is_bcd}
use Rattle.counters.specs.Rule.{sets}
use Rattle.timers.specs.Rule.{starts}
use Rattle.level_stack.specs.Levels.{running_locals, block_counts}
use Rattle.level_stack.proofs.Counts.{written_counts}
use Rattle.statement_effects.specs.State.{Memory}
use Rattle.statement_effects.specs.declared.areas.DataRegisters.{DataRegisters}
use Rattle.statement_effects.specs.declared.areas.Registers.{Registers}
use Rattle.cpu_image.specs.Values.{with_bit}
use Rattle.cpu_image.specs.declared.area.ByteArea.TheVariants.{Db}
use Rattle.statement_effects.specs.declared.instruction.DataBlockName.{DataBlockName}
use Rattle.statement_effects.specs.declared.instruction.DataBlockName.TheVariants.{Opened, Instance, Numbered}
use Rattle.statement_effects.specs.declared.instruction.BitOperand.{BitOperand}
use Rattle.statement_effects.specs.declared.instruction.BitOperand.TheVariants as bit_operands
use Rattle.statement_effects.specs.declared.instruction.ValueOperand.{ValueOperand}
use Rattle.statement_effects.specs.declared.instruction.ValueOperand.TheVariants as value_operands
use Rattle.statement_effects.specs.declared.instruction.BitInstruction.{BitInstruction}
use Rattle.statement_effects.specs.declared.instruction.BitInstruction.TheVariants as bits
use Rattle.statement_effects.specs.declared.instruction.MoveInstruction.{MoveInstruction}
use Rattle.statement_effects.specs.declared.instruction.MoveInstruction.TheVariants as moves
use Rattle.statement_effects.specs.declared.instruction.DirectInstruction.{DirectInstruction}
use Rattle.statement_effects.specs.declared.instruction.DirectInstruction.TheVariants as direct
use Rattle.statement_effects.specs.declared.instruction.CounterOperation.{CounterOperation}
use Rattle.statement_effects.specs.declared.instruction.CounterOperation.TheVariants as counting
use Rattle.statement_effects.specs.declared.instruction.TimedOperation.{TimedOperation}
use Rattle.statement_effects.specs.declared.instruction.TimedOperation.TheVariants as timed
use Rattle.statement_effects.specs.declared.instruction.DataInstruction.{DataInstruction}
use Rattle.statement_effects.specs.declared.instruction.DataInstruction.TheVariants as data_blocks
use Rattle.statement_effects.specs.declared.instruction.Instruction.{Instruction}
use Rattle.statement_effects.specs.declared.instruction.Instruction.TheVariants as groups
use Rattle.statement_effects.specs.Areas.{data_length, with_bit_at, with_value_at, bytes_in, low_part, local_value, is_off}
use Rattle.statement_effects.specs.Resolving.{data_number, with_named, in_bytes, in_block, in_data, placed, resolve_bit, resolve_value, at_bit, at_value}
use Rattle.statement_effects.specs.BitEffect.{with_bit_where, effect_bit, effect_group}
use Rattle.statement_effects.specs.MoveEffect.{effect_move, effect_direct, transferred}
use Rattle.statement_effects.specs.NumberEffect.{effect_number}
use Rattle.statement_effects.specs.DataEffect.{opened, effect_data}
use Rattle.statement_effects.specs.TimerEffect.{timer_at, effect_timed}
use Rattle.statement_effects.specs.CounterEffect.{counter_at, effect_counter}
use Rattle.statement_effects.specs.Effect.{onward, onward_with, effect}

-- as many blocks have begun as before
abbrev Begun : Memory → Memory → Type 0
Begun m m' = block_counts m'.levels ≡ block_counts m.levels

-- a statement that fails changes nothing
abbrev BegunIf : Memory → Result Memory ℕ → Type 0
BegunIf m (Ok after) = Begun m after
BegunIf m (Err error) = Unit {0}

onward_begun : (m : Memory) (r : Result Memory ℕ) → BegunIf m r → Begun m (onward m r).0
onward_begun m (Ok after) h = h
onward_begun m (Err error) h = refl

registers_begun : (m : Memory) (r : Result Registers ℕ) → Begun m (onward_with m r).0
registers_begun m (Ok registers) = refl
registers_begun m (Err error) = refl

-- bits and values

bit_begun : (m : Memory) (place : BitOperand) (value : Bool) → Begun m (with_bit_at m place value)
bit_begun m (bit_operands.Area place) value = refl
bit_begun m (bit_operands.Data place) value = refl
bit_begun m (bit_operands.Local place) value = written_counts m.levels place.at_byte 1 (with_bit (local_value m place.at_byte 1) place.bit value)

where_begun : (b : Bool) (m : Memory) (place : BitOperand) (value : Bool) → Begun m (with_bit_where b m place value)
where_begun true m place value = bit_begun m place value
where_begun false m place value = refl

bits_begun : (i : BitInstruction) (place : BitOperand) (m : Memory) → Begun m (effect_bit i place m)
bits_begun (bits.Check how) place m = refl
bits_begun (bits.Write writes.Assign) place m = bit_begun m place _
bits_begun (bits.Write writes.Set) place m = where_begun (m.registers.status.rlo && not (is_off m)) m place true
bits_begun (bits.Write writes.Reset) place m = where_begun (m.registers.status.rlo && not (is_off m)) m place false
bits_begun (bits.Edge edge) place m = bit_begun m place _

value_begun : (m : Memory) (place : ValueOperand) (value : ℕ) → Begun m (with_value_at m place value)
value_begun m (value_operands.Area place) value = refl
value_begun m (value_operands.Data place) value = refl
value_begun m (value_operands.Local place) value = written_counts m.levels place.at_byte (bytes_in place.width) (low_part place.width value)

moves_begun : (i : MoveInstruction) (place : ValueOperand) (m : Memory) → Begun m (effect_move i place m)
moves_begun moves.Load place m = refl
moves_begun moves.Store place m = value_begun m place (transferred m)

direct_begun : (i : DirectInstruction) (m : Memory) → Begun m (effect_direct i m)
direct_begun (direct.LoadConstant value) m = refl
direct_begun direct.LoadStatus m = refl
direct_begun direct.StoreStatus m = refl

-- operands that are found

-- a data block is found, and then opened where it was named, or it is an error
bytes_found : (P : Result (Memory × ℕ) ℕ → Type 0) (end : ℕ) (length : Option ℕ) (found : Memory × ℕ) → P (Ok found) → ((error : ℕ) → P (Err error)) → P (in_bytes end length found)
bytes_found P end None found ok err = err 8
bytes_found P end (Some length) found ok err = cond_both (nat_le end length) _ _ P (λ e. ok) (λ e. err 2)

block_found : (P : Result (Memory × ℕ) ℕ → Type 0) (end : ℕ) (number : Option ℕ) (m after : Memory) → ((n : ℕ) → P (Ok (after, n))) → ((error : ℕ) → P (Err error)) → P (in_block end number m after)
block_found P end None m after ok err = err 8
block_found P end (Some number) m after ok err = bytes_found P end (data_length m number) (after, number) (ok number) err

data_found : (P : Result (Memory × ℕ) ℕ → Type 0) (name : DataBlockName) (end : ℕ) (m : Memory) → ((n : ℕ) → P (Ok (with_named name m, n))) → ((error : ℕ) → P (Err error)) → P (in_data name end m)
data_found P name end m ok err = block_found P end (data_number name m.registers.«data») m (with_named name m) ok err

named_begun : (name : DataBlockName) (m : Memory) → Begun m (with_named name m)
named_begun Opened m = refl
named_begun Instance m = refl
named_begun (Numbered number) m = refl

found_bit : (i : BitInstruction) (operand : BitOperand) (m : Memory) → BegunIf m (at_bit (effect_bit i) (resolve_bit operand m))
found_bit i (bit_operands.Area place) m = bits_begun i (bit_operands.Area place) m
found_bit i (bit_operands.Local place) m =
    cond_both (nat_le (place.at_byte + 1) (length (running_locals m.levels))) _ _ (λ r. BegunIf m (at_bit (effect_bit i) r))
    (λ e. bits_begun i (bit_operands.Local place) m) (λ e. tt)
found_bit i (bit_operands.Data place) m =
    data_found (λ r. BegunIf m (at_bit (effect_bit i) (placed (λ number. bit_operands.Area (record { area = Db number; at_byte = place.at_byte; bit = place.bit })) r)))
    place.block (place.at_byte + 1) m
    (λ n. bits_begun i (bit_operands.Area (record { area = Db n; at_byte = place.at_byte; bit = place.bit })) (with_named place.block m) ∙ named_begun place.block m)
    (λ error. tt)

found_value : (i : MoveInstruction) (operand : ValueOperand) (m : Memory) → BegunIf m (at_value (effect_move i) (resolve_value operand m))
found_value i (value_operands.Area place) m = moves_begun i (value_operands.Area place) m
found_value i (value_operands.Local place) m =
    cond_both (nat_le (place.at_byte + bytes_in place.width) (length (running_locals m.levels))) _ _ (λ r. BegunIf m (at_value (effect_move i) r))
    (λ e. moves_begun i (value_operands.Local place) m) (λ e. tt)
found_value i (value_operands.Data place) m =
    data_found (λ r. BegunIf m (at_value (effect_move i) (placed (λ number. value_operands.Area (record { area = Db number; at_byte = place.at_byte; width = place.width })) r)))
    place.block (place.at_byte + bytes_in place.width) m
    (λ n. moves_begun i (value_operands.Area (record { area = Db n; at_byte = place.at_byte; width = place.width })) (with_named place.block m) ∙ named_begun place.block m)
    (λ error. tt)

-- data blocks

opened_begun : (number : ℕ) (registers : DataRegisters) (m : Memory) → BegunIf m (opened number registers m)
opened_begun number registers m = cond_both (is_some (data_length m number)) _ _ (BegunIf m) (λ e. refl) (λ e. tt)

data_begun : (i : DataInstruction) (m : Memory) → BegunIf m (effect_data i m)
data_begun (data_blocks.Open number) m = opened_begun number (record m.registers.«data» { block = Some number }) m
data_begun (data_blocks.OpenInstance number) m = opened_begun number (record m.registers.«data» { instance = Some number }) m
data_begun data_blocks.Exchange m = refl
data_begun (data_blocks.Load what) m = refl

-- timers and counters

counter_begun : (op : CounterOperation) (n : ℕ) (m : Memory) → BegunIf m (effect_counter op n m)
counter_begun counting.Up n m = refl
counter_begun counting.Down n m = refl
counter_begun counting.Set n m =
    cond_both (sets (counter_at m n) m.registers.status.rlo && not (is_bcd (m.registers.accus.accu1 % 65536))) _ _ (BegunIf m) (λ e. tt) (λ e. refl)
counter_begun counting.Reset n m = refl
counter_begun counting.Enable n m = refl
counter_begun (counting.Check how) n m = refl
counter_begun counting.Load n m = refl
counter_begun counting.LoadCoded n m = refl

pub timed_begun : (op : TimedOperation) (n moment : ℕ) (m : Memory) → BegunIf m (effect_timed op n moment m)
timed_begun (timed.Start kind) n moment m =
    cond_both (starts (timer_at m n) kind m.registers.status.rlo moment && not (is_bcd (m.registers.accus.accu1 % 65536))) _ _ (BegunIf m) (λ e. tt) (λ e. refl)
timed_begun (timed.Check how) n moment m = refl
timed_begun timed.Load n moment m = refl
timed_begun timed.LoadCoded n moment m = refl

pub effect_begun : (i : Instruction) (m : Memory) → Begun m (effect i m).0
effect_begun (groups.Bit i operand) m = onward_begun m (at_bit (effect_bit i) (resolve_bit operand m)) (found_bit i operand m)
effect_begun (groups.Status i) m = refl
effect_begun (groups.Group i) m = registers_begun m (effect_group i m.registers)
effect_begun (groups.Move i operand) m = onward_begun m (at_value (effect_move i) (resolve_value operand m)) (found_value i operand m)
effect_begun (groups.Direct i) m = direct_begun i m
effect_begun (groups.Accu i) m = refl
effect_begun (groups.Number i) m = registers_begun m (effect_number i m.registers)
effect_begun (groups.Word i) m = refl
effect_begun (groups.Jump i) m = refl
effect_begun (groups.Timer op n) m = refl
effect_begun (groups.Timed op n) m = refl
effect_begun (groups.Counter op n) m = onward_begun m (effect_counter op n m) (counter_begun op n m)
effect_begun (groups.Data i) m = onward_begun m (effect_data i m) (data_begun i m)
effect_begun (groups.ReadPeripheral access) m = refl
effect_begun (groups.WritePeripheral access) m = refl
effect_begun (groups.Call callee) m = refl
effect_begun (groups.CallInstance callee number) m = refl
effect_begun (groups.CallWhenSet callee) m = refl
effect_begun groups.End m = refl
effect_begun groups.EndWhenSet m = refl
effect_begun groups.Retrigger m = refl
effect_begun groups.Stop m = refl
effect_begun groups.Nothing m = refl
