-- Each operand that is allowed is decoded, and is of a form that its kind allows.
use Rattle.std.proofs.Common.{◌≡◌, ℕ, ◌+◌, ◌<◌, ◌≤◌, Bool, true, false, ◌&&◌, ◌||◌, Option, Some, None, refl, ap, subst, inl, inr, arith}
use Rattle.std.specs.Prelude.{◌⊎◌, ◌==◌, is_some, nat_lt, nat_le}
use Rattle.std.specs.Option.{option_map, option_or}
use Rattle.std.proofs.lemmas.Bool.{and_parts, or_cases, eqb-true, ne_eqb, cases_eq, leb-true, ltb-true, lt-ltb, le-leb}
use Rattle.s7_base.specs.declared.statement.Statement.{Statement}
use Rattle.s7_base.specs.declared.blocks.BlockRef.{BlockRef}
use Rattle.s7_base.specs.declared.blocks.CodeKind.TheVariants.{Fb, Fc}
use Rattle.instruction_set.specs.declared.operation.Operation.{Operation}
use Rattle.instruction_set.specs.declared.operands.OperandKind.{OperandKind}
use Rattle.instruction_set.specs.declared.operands.OperandKind.TheVariants as kinds
use Rattle.instruction_set.specs.declared.operands.OperandArea.{OperandArea}
use Rattle.instruction_set.specs.declared.operands.OperandArea.TheVariants as areas
use Rattle.instruction_set.specs.Areas.{area_number}
use Rattle.s7_base.specs.Operands.{is_in, is_data_number, ends_by, is_within, is_of_cpu, is_of_data, is_memory, is_bit, unit_bytes, is_value, is_peripheral, is_number, is_up_to, is_exactly, is_timer_or_counter, is_constant, is_about_data, allows}
use Rattle.s7_events.specs.Optional.{◌>>=◌}
use Rattle.cpu_image.specs.declared.area.ByteArea.TheVariants.{I, Q, M}
use Rattle.statement_effects.specs.declared.instruction.Width.{Width}
use Rattle.statement_effects.specs.declared.instruction.Width.TheVariants as widths
use Rattle.statement_effects.specs.declared.instruction.Access.{Access}
use Rattle.statement_effects.specs.declared.instruction.DataBlockName.{DataBlockName}
use Rattle.statement_effects.specs.declared.instruction.DataBlockName.TheVariants.{Opened, Instance, Numbered}
use Rattle.statement_effects.specs.declared.instruction.DataNumber.{DataNumber}
use Rattle.statement_effects.specs.declared.instruction.DataNumber.TheVariants as numbers
use Rattle.statement_effects.specs.declared.instruction.BitOperand.{BitOperand}
use Rattle.statement_effects.specs.declared.instruction.BitOperand.TheVariants as bits
use Rattle.statement_effects.specs.declared.instruction.ValueOperand.{ValueOperand}
use Rattle.statement_effects.specs.declared.instruction.ValueOperand.TheVariants as values
use Rattle.statement_effects.specs.declared.instruction.Operand.{Operand}
use Rattle.statement_effects.specs.declared.instruction.Operand.TheVariants as operands
use Rattle.statement_effects.specs.declared.instruction.StatusInstruction.TheVariants as status
use Rattle.statement_effects.specs.declared.instruction.Instruction.{Instruction}
use Rattle.statement_effects.specs.declared.instruction.Instruction.TheVariants as groups
use Rattle.statement_effects.specs.Decoding.{width_of, operand_of, operand_for}
use Rattle.statement_effects.specs.Reading.{bit_of, move_of, timer_of, timed_of, counter_of, status_check_of, with_word, with_double_word, with_target, with_block, with_block_and_data, with_data_block, with_instance_block, with_data_number, with_input_access, with_output_access, means}

-- the operand names this area, and so many bytes of it
record IsIn (number size bytes : ℕ) (s : Statement) : Type 0 where
  area : s.area ≡ number
  fits : nat_le (s.value + bytes) size ≡ true

within : (area : OperandArea) (size bytes : ℕ) (s : Statement) → is_within area size bytes s ≡ true → IsIn (area_number area) size bytes s
within area size bytes s h =
    let parts = and_parts (is_in area s) (ends_by size bytes s) h in
    record { area = eqb-true s.area (area_number area) parts.0; fits = parts.1 }

-- the operand names a byte of the local data
record IsLocal (s : Statement) : Type 0 where
  area : s.area ≡ 4
  fits : nat_le s.value 255 ≡ true

-- the operand names a byte of a data block: of the one that is opened as DB, or that of a number, or of the one that is opened as DI
record IsOfBlock (s : Statement) : Type 0 where
  block : ((s.area ≡ 5) × ((s.db ≡ 0) ⊎ ((s.db == 0 ≡ false) × (nat_le s.db 255 ≡ true)))) ⊎ (s.area ≡ 6)
  fits : nat_le s.value 65535 ≡ true

-- bytes of memory lie in the inputs, the outputs, the bit memory, the local data or a data block
abbrev InMemory : ℕ → Statement → Type 0
InMemory bytes s = IsIn 1 64 bytes s ⊎ (IsIn 2 64 bytes s ⊎ (IsIn 3 1024 bytes s ⊎ (IsLocal s ⊎ IsOfBlock s)))

in_locals : (locals bytes : ℕ) (s : Statement) → locals ≤ 256 → 0 < bytes → is_within areas.Local locals bytes s ≡ true → IsLocal s
in_locals locals bytes s small some h =
    let l = within areas.Local locals bytes s h in
    let le : s.value + bytes ≤ locals = leb-true (s.value + bytes) locals l.fits in
    record { area = l.area; fits = le-leb s.value 255 (omega arith) }

starts_by : (bytes : ℕ) (s : Statement) → 0 < bytes → ends_by 65536 bytes s ≡ true → nat_le s.value 65535 ≡ true
starts_by bytes s some h = let le : s.value + bytes ≤ 65536 = leb-true (s.value + bytes) 65536 h in le-leb s.value 65535 (omega arith)

in_numbered : (s : Statement) → (s.db == 0 || is_data_number s.db) ≡ true → (s.db ≡ 0) ⊎ ((s.db == 0 ≡ false) × (nat_le s.db 255 ≡ true))
in_numbered s h =
    elim (or_cases (s.db == 0) (is_data_number s.db) h) [
      | inl z ↦ inl (eqb-true s.db 0 z)
      | inr n ↦
          let parts = and_parts (nat_le 1 s.db) (nat_le s.db 255) n in
          let le : 1 ≤ s.db = leb-true 1 s.db parts.0 in
          inr (ne_eqb s.db 0 (λ e. omega arith), parts.1)
    ]

in_data : (bytes : ℕ) (s : Statement) → 0 < bytes → is_of_data bytes s ≡ true → IsOfBlock s
in_data bytes s some h =
    elim (or_cases (is_within areas.Data 65536 bytes s && (s.db == 0 || is_data_number s.db)) (is_within areas.Instance 65536 bytes s && s.db == 0) h) [
      | inl d ↦
          let parts = and_parts (is_within areas.Data 65536 bytes s) (s.db == 0 || is_data_number s.db) d in
          let here = within areas.Data 65536 bytes s parts.0 in
          record { block = inl (here.area, in_numbered s parts.1); fits = starts_by bytes s some here.fits }
      | inr n ↦
          let here = within areas.Instance 65536 bytes s (and_parts (is_within areas.Instance 65536 bytes s) (s.db == 0) n).0 in
          record { block = inr here.area; fits = starts_by bytes s some here.fits }
    ]

in_cpu : (locals bytes : ℕ) (s : Statement) → locals ≤ 256 → 0 < bytes → is_of_cpu locals bytes s ≡ true → InMemory bytes s
in_cpu locals bytes s small some h =
    let i = is_within areas.Inputs 64 bytes s in
    let q = is_within areas.Outputs 64 bytes s in
    let m = is_within areas.Memory 1024 bytes s in
    let l = is_within areas.Local locals bytes s in
    elim (or_cases ((i || q) || m) l h) [
      | inl iqm ↦ elim (or_cases (i || q) m iqm) [
        | inl iq ↦ elim (or_cases i q iq) [ inl x ↦ inl (within areas.Inputs 64 bytes s x) | inr x ↦ inr (inl (within areas.Outputs 64 bytes s x)) ]
        | inr x ↦ inr (inr (inl (within areas.Memory 1024 bytes s x)))
      ]
      | inr x ↦ inr (inr (inr (inl (in_locals locals bytes s small some x))))
    ]

in_memory : (locals bytes : ℕ) (s : Statement) → locals ≤ 256 → 0 < bytes → is_memory locals bytes s ≡ true → InMemory bytes s
in_memory locals bytes s small some h =
    elim (or_cases (is_of_cpu locals bytes s && s.db == 0) (is_of_data bytes s) h) [
      | inl x ↦ in_cpu locals bytes s small some (and_parts (is_of_cpu locals bytes s) (s.db == 0) x).0
      | inr x ↦ inr (inr (inr (inr (in_data bytes s some x))))
    ]

below : (v size : ℕ) → nat_le (v + 1) size ≡ true → nat_lt v size ≡ true
below v size h = let le : v + 1 ≤ size = leb-true (v + 1) size h in lt-ltb v size (omega arith)

-- numbers --

-- the operand is a number of this area
record IsNumber (number most : ℕ) (s : Statement) : Type 0 where
  area : s.area ≡ number
  fits : nat_le s.value most ≡ true

numbered : (area : OperandArea) (most : ℕ) (s : Statement) → is_up_to area most s ≡ true → IsNumber (area_number area) most s
numbered area most s h =
    let parts = and_parts (is_number area s) (nat_le s.value most) h in
    let here = and_parts (is_in area s && s.bit == 0) (s.db == 0) parts.0 in
    record { area = eqb-true s.area (area_number area) (and_parts (is_in area s) (s.bit == 0) here.0).0; fits = parts.1 }

-- a bit of memory, where it is allowed
bit_parts : (locals : ℕ) (s : Statement) → locals ≤ 256 → is_bit locals s ≡ true → (nat_le s.bit 7 ≡ true) × InMemory 1 s
bit_parts locals s small h =
    let parts = and_parts (nat_le s.bit 7) (is_memory locals 1 s) h in
    (parts.0, in_memory locals 1 s small (omega arith) parts.1)

-- a timer or a counter
either : (s : Statement) → is_timer_or_counter s ≡ true → IsNumber 9 255 s ⊎ IsNumber 10 255 s
either s h =
    elim (or_cases (is_up_to areas.Timer 255 s) (is_up_to areas.Counter 255 s) h) [
      | inl t ↦ inl (numbered areas.Timer 255 s t)
      | inr c ↦ inr (numbered areas.Counter 255 s c)
    ]

-- a stored unit of some bytes is a byte, a word or a double word
units : (u : ℕ) → nat_lt 0 (unit_bytes u) ≡ true → (u ≡ 8) ⊎ ((u ≡ 9) ⊎ (u ≡ 10))
units u h =
    elim (cases_eq u 8) [
      | inl e ↦ inl e
      | inr no8 ↦ elim (cases_eq u 9) [
        | inl e ↦ inr (inl e)
        | inr no9 ↦ elim (cases_eq u 10) [
          | inl e ↦ inr (inr e)
          | inr no10 ↦ absurd (let no = rw (ne_eqb u 8 no8, ne_eqb u 9 no9, ne_eqb u 10 no10) at h in cc)
        ]
      ]
    ]

named : (area : OperandArea) (s : Statement) → is_number area s ≡ true → s.area ≡ area_number area
named area s h = eqb-true s.area (area_number area) (and_parts (is_in area s) (s.bit == 0) (and_parts (is_in area s && s.bit == 0) (s.db == 0) h).0).0

exactly_in : (area : OperandArea) (number : ℕ) (s : Statement) → is_exactly area number s ≡ true → is_in area s ≡ true
exactly_in area number s h = (and_parts (is_in area s) (s.bit == 0) (and_parts (is_in area s && s.bit == 0) (s.db == 0) (and_parts (is_number area s) (s.value == number) h).0).0).0

exactly_named : (area : OperandArea) (number : ℕ) (s : Statement) → is_exactly area number s ≡ true → s.area ≡ area_number area
exactly_named area number s h = eqb-true s.area (area_number area) (exactly_in area number s h)

-- the operand names a value of the peripherals
record IsAccess (number : ℕ) (s : Statement) : Type 0 where
  area : s.area ≡ number
  fits : nat_le s.value 65535 ≡ true
  unit : nat_lt 0 (unit_bytes s.bit) ≡ true

accessed : (area : OperandArea) (s : Statement) → is_peripheral area s ≡ true → IsAccess (area_number area) s
accessed area s h =
    let parts = and_parts (nat_lt 0 (unit_bytes s.bit)) (is_within area 1024 (unit_bytes s.bit) s)
    (and_parts (nat_lt 0 (unit_bytes s.bit) && is_within area 1024 (unit_bytes s.bit) s) (s.db == 0) h).0 in
    let here = within area 1024 (unit_bytes s.bit) s parts.1 in
    let le : s.value + unit_bytes s.bit ≤ 1024 = leb-true (s.value + unit_bytes s.bit) 1024 here.fits in
    record { area = here.area; fits = le-leb s.value 65535 (omega arith); unit = parts.0 }

-- what an operation means --

-- the operation means an instruction with this operand
abbrev pub takes : Operation → Operand → Bool
takes op operand = is_some (means op operand)

abbrev no_bit : BitOperand
no_bit = bits.Area (record { area = I; at_byte = 0; bit = 0 })

abbrev no_value : ValueOperand
no_value = values.Area (record { area = I; at_byte = 0; width = widths.Byte })

abbrev no_access : Access
no_access = record { addr = 0; width = widths.Byte }

-- with each form of operand that a kind allows
abbrev pub takes_all : OperandKind → Operation → Bool
takes_all kinds.Nothing op = takes op operands.Nothing
takes_all kinds.CheckedBit op =
    takes op (operands.Bit no_bit) && (takes op (operands.Timer 0) && (takes op (operands.Counter 0) && takes op (operands.Status 0)))
takes_all kinds.WrittenBit op = takes op (operands.Bit no_bit)
takes_all kinds.SetBit op = takes op (operands.Bit no_bit) && takes op (operands.Counter 0)
takes_all kinds.ResetBit op = takes op (operands.Bit no_bit) && (takes op (operands.Timer 0) && takes op (operands.Counter 0))
takes_all kinds.Loaded op =
    takes op (operands.Value no_value)
    && (takes op (operands.PeripheralIn no_access)
    && (takes op (operands.Word 0)
    && (takes op (operands.DoubleWord 0)
    && (takes op (operands.Timer 0) && (takes op (operands.Counter 0) && (takes op operands.StatusWord && takes op (operands.DataNumber numbers.Length)))))))
takes_all kinds.Stored op = takes op (operands.Value no_value) && (takes op (operands.PeripheralOut no_access) && takes op operands.StatusWord)
takes_all kinds.Coded op = takes op (operands.Timer 0) && takes op (operands.Counter 0)
takes_all kinds.Addend op = takes op (operands.Word 0) && takes op (operands.DoubleWord 0)
takes_all (kinds.UpTo most) op = nat_le most 65535 && takes op (operands.Word 0)
takes_all (kinds.Exactly number) op = nat_le number 65535 && takes op (operands.Word 0)
takes_all (kinds.AtMost most) op = nat_le most 65535 && (takes op operands.Nothing && takes op (operands.Word 0))
takes_all kinds.Mask op = takes op operands.Nothing && takes op (operands.DoubleWord 0)
takes_all kinds.Target op = takes op (operands.Target 0)
takes_all kinds.Timer op = takes op (operands.Timer 0)
takes_all kinds.Counter op = takes op (operands.Counter 0)
takes_all kinds.Function op = takes op (operands.Block (record { kind = Fc; number = 0 }))
takes_all kinds.FunctionBlock op = takes op (operands.Block (record { kind = Fb; number = 0 }))
takes_all (kinds.SystemFunction number) op = takes op operands.SystemFunction
takes_all kinds.DataBlock op = takes op (operands.DataBlock 0)
takes_all kinds.InstanceBlock op = takes op (operands.InstanceBlock 0)
takes_all kinds.FunctionBlockWithData op = takes op (operands.BlockWithData (record { kind = Fb; number = 0 }) 0)

-- only the form of the operand decides --

some_map : {A B : Type 0} (f g : A → B) (o : Option A) → is_some (option_map f o) ≡ true → is_some (option_map g o) ≡ true
some_map f g None h = h
some_map f g (Some x) h = refl

some_or : {A B C : Type 0} (f g : A → C) (f' g' : B → C) (o : Option A) (p : Option B) → is_some (option_or (option_map f o) (option_map f' p)) ≡ true
    → is_some (option_or (option_map g o) (option_map g' p)) ≡ true
some_or f g f' g' None None h = h
some_or f g f' g' None (Some y) h = refl
some_or f g f' g' (Some x) p h = refl

bit_any : (op : Operation) (place : BitOperand) → takes op (operands.Bit no_bit) ≡ true → takes op (operands.Bit place) ≡ true
bit_any op place h = some_map (λ i. groups.Bit i no_bit) (λ i. groups.Bit i place) (bit_of op) h

value_any : (op : Operation) (place : ValueOperand) → takes op (operands.Value no_value) ≡ true → takes op (operands.Value place) ≡ true
value_any op place h = some_map (λ i. groups.Move i no_value) (λ i. groups.Move i place) (move_of op) h

input_any : (op : Operation) (access : Access) → takes op (operands.PeripheralIn no_access) ≡ true → takes op (operands.PeripheralIn access) ≡ true
input_any op access h = some_map (λ (f : Access → Instruction). f no_access) (λ (f : Access → Instruction). f access) (with_input_access op) h

output_any : (op : Operation) (access : Access) → takes op (operands.PeripheralOut no_access) ≡ true → takes op (operands.PeripheralOut access) ≡ true
output_any op access h = some_map (λ (f : Access → Instruction). f no_access) (λ (f : Access → Instruction). f access) (with_output_access op) h

timer_any : (op : Operation) (n : ℕ) → takes op (operands.Timer 0) ≡ true → takes op (operands.Timer n) ≡ true
timer_any op n h =
    some_or (λ i. groups.Timer i 0) (λ i. groups.Timer i n) (λ i. groups.Timed i 0) (λ i. groups.Timed i n) (timer_of op) (timed_of op) h

counter_any : (op : Operation) (n : ℕ) → takes op (operands.Counter 0) ≡ true → takes op (operands.Counter n) ≡ true
counter_any op n h = some_map (λ i. groups.Counter i 0) (λ i. groups.Counter i n) (counter_of op) h

status_any : (op : Operation) (n : ℕ) → takes op (operands.Status 0) ≡ true → takes op (operands.Status n) ≡ true
status_any op n h =
    some_map (λ how. groups.Status (status.Check how 0)) (λ how. groups.Status (status.Check how n)) (status_check_of op) h

-- with a number that an instruction is made of
number_any : (o : Option (ℕ → Instruction)) (n : ℕ) → is_some (option_map (λ instruction. instruction 0) o) ≡ true → is_some (option_map (λ instruction. instruction n) o) ≡ true
number_any o n h = some_map (λ (f : ℕ → Instruction). f 0) (λ (f : ℕ → Instruction). f n) o h

word_any : (op : Operation) (n : ℕ) → takes op (operands.Word 0) ≡ true → takes op (operands.Word n) ≡ true
word_any op n h = number_any (with_word op) n h

double_any : (op : Operation) (n : ℕ) → takes op (operands.DoubleWord 0) ≡ true → takes op (operands.DoubleWord n) ≡ true
double_any op n h = number_any (with_double_word op) n h

target_any : (op : Operation) (n : ℕ) → takes op (operands.Target 0) ≡ true → takes op (operands.Target n) ≡ true
target_any op n h = number_any (with_target op) n h

block_any : (op : Operation) (callee other : BlockRef) → takes op (operands.Block callee) ≡ true → takes op (operands.Block other) ≡ true
block_any op callee other h = some_map (λ (f : BlockRef → Instruction). f callee) (λ (f : BlockRef → Instruction). f other) (with_block op) h

data_block_any : (op : Operation) (n : ℕ) → takes op (operands.DataBlock 0) ≡ true → takes op (operands.DataBlock n) ≡ true
data_block_any op n h = number_any (with_data_block op) n h

instance_block_any : (op : Operation) (n : ℕ) → takes op (operands.InstanceBlock 0) ≡ true → takes op (operands.InstanceBlock n) ≡ true
instance_block_any op n h = number_any (with_instance_block op) n h

with_data_any : (op : Operation) (callee other : BlockRef) (n m : ℕ) → takes op (operands.BlockWithData callee n) ≡ true → takes op (operands.BlockWithData other m) ≡ true
with_data_any op callee other n m h =
    some_map (λ (f : BlockRef → ℕ → Instruction). f callee n) (λ (f : BlockRef → ℕ → Instruction). f other m) (with_block_and_data op) h

data_number_any : (op : Operation) (what other : DataNumber) → takes op (operands.DataNumber what) ≡ true → takes op (operands.DataNumber other) ≡ true
data_number_any op what other h = some_map (λ (f : DataNumber → Instruction). f what) (λ (f : DataNumber → Instruction). f other) (with_data_number op) h

-- what is read --

-- the operation with the stored operand means an instruction
abbrev pub Reads : Operation → Statement → Type 0
Reads op s = is_some (operand_of s >>= means op) ≡ true

data_bit : (op : Operation) (s : Statement) → takes op (operands.Bit no_bit) ≡ true → nat_le s.bit 7 ≡ true → IsOfBlock s → Reads op s
data_bit op s h bit d =
    let bit_of_block = λ (block : DataBlockName). bit_any op (bits.Data (record { block = block; at_byte = s.value; bit = s.bit })) h in
    elim d.block [
      | inl db ↦ elim db.1 [
        | inl z ↦ rw (db.0, z, d.fits, bit) (bit_of_block Opened)
        | inr n ↦ rw (db.0, n.0, n.1, d.fits, bit) (bit_of_block (Numbered s.db))
      ]
      | inr di ↦ rw (di, d.fits, bit) (bit_of_block Instance)
    ]

data_value : (op : Operation) (s : Statement) (width : Width) → takes op (operands.Value no_value) ≡ true → nat_le s.bit 7 ≡ false → width_of s.bit ≡ Some width → IsOfBlock s → Reads op s
data_value op s width h unit w d =
    let value_of_block = λ (block : DataBlockName). value_any op (values.Data (record { block = block; at_byte = s.value; width = width })) h in
    elim d.block [
      | inl db ↦ elim db.1 [
        | inl z ↦ rw (db.0, z, d.fits, unit, w) (value_of_block Opened)
        | inr n ↦ rw (db.0, n.0, n.1, d.fits, unit, w) (value_of_block (Numbered s.db))
      ]
      | inr di ↦ rw (di, d.fits, unit, w) (value_of_block Instance)
    ]

read_bit : (op : Operation) (s : Statement) → takes op (operands.Bit no_bit) ≡ true → nat_le s.bit 7 ≡ true → InMemory 1 s → Reads op s
read_bit op s h bit (inl i) = rw (i.area, below s.value 64 i.fits, bit) (bit_any op (bits.Area (record { area = I; at_byte = s.value; bit = s.bit })) h)
read_bit op s h bit (inr (inl q)) = rw (q.area, below s.value 64 q.fits, bit) (bit_any op (bits.Area (record { area = Q; at_byte = s.value; bit = s.bit })) h)
read_bit op s h bit (inr (inr (inl m))) = rw (m.area, below s.value 1024 m.fits, bit) (bit_any op (bits.Area (record { area = M; at_byte = s.value; bit = s.bit })) h)
read_bit op s h bit (inr (inr (inr (inr d)))) = data_bit op s h bit d
read_bit op s h bit (inr (inr (inr (inl l)))) = rw (l.area, l.fits, bit) (bit_any op (bits.Local (record { at_byte = s.value; bit = s.bit })) h)

bit : (op : Operation) (locals : ℕ) (s : Statement) → takes op (operands.Bit no_bit) ≡ true → locals ≤ 256 → is_bit locals s ≡ true → Reads op s
bit op locals s h small allowed = let parts = bit_parts locals s small allowed in read_bit op s h parts.0 parts.1

read_byte : (op : Operation) (s : Statement) → takes op (operands.Value no_value) ≡ true → s.bit ≡ 8 → InMemory 1 s → Reads op s
read_byte op s h unit (inl i) = rw (i.area, unit, i.fits) (value_any op (values.Area (record { area = I; at_byte = s.value; width = widths.Byte })) h)
read_byte op s h unit (inr (inl q)) = rw (q.area, unit, q.fits) (value_any op (values.Area (record { area = Q; at_byte = s.value; width = widths.Byte })) h)
read_byte op s h unit (inr (inr (inl m))) = rw (m.area, unit, m.fits) (value_any op (values.Area (record { area = M; at_byte = s.value; width = widths.Byte })) h)
read_byte op s h unit (inr (inr (inr (inr d)))) = data_value op s widths.Byte h (ap (λ u. nat_le u 7) unit) (ap width_of unit) d
read_byte op s h unit (inr (inr (inr (inl l)))) = rw (l.area, l.fits, unit) (value_any op (values.Local (record { at_byte = s.value; width = widths.Byte })) h)

read_word : (op : Operation) (s : Statement) → takes op (operands.Value no_value) ≡ true → s.bit ≡ 9 → InMemory 2 s → Reads op s
read_word op s h unit (inl i) = rw (i.area, unit, i.fits) (value_any op (values.Area (record { area = I; at_byte = s.value; width = widths.Word })) h)
read_word op s h unit (inr (inl q)) = rw (q.area, unit, q.fits) (value_any op (values.Area (record { area = Q; at_byte = s.value; width = widths.Word })) h)
read_word op s h unit (inr (inr (inl m))) = rw (m.area, unit, m.fits) (value_any op (values.Area (record { area = M; at_byte = s.value; width = widths.Word })) h)
read_word op s h unit (inr (inr (inr (inr d)))) = data_value op s widths.Word h (ap (λ u. nat_le u 7) unit) (ap width_of unit) d
read_word op s h unit (inr (inr (inr (inl l)))) = rw (l.area, l.fits, unit) (value_any op (values.Local (record { at_byte = s.value; width = widths.Word })) h)

read_double : (op : Operation) (s : Statement) → takes op (operands.Value no_value) ≡ true → s.bit ≡ 10 → InMemory 4 s → Reads op s
read_double op s h unit (inl i) = rw (i.area, unit, i.fits) (value_any op (values.Area (record { area = I; at_byte = s.value; width = widths.Double })) h)
read_double op s h unit (inr (inl q)) = rw (q.area, unit, q.fits) (value_any op (values.Area (record { area = Q; at_byte = s.value; width = widths.Double })) h)
read_double op s h unit (inr (inr (inl m))) = rw (m.area, unit, m.fits) (value_any op (values.Area (record { area = M; at_byte = s.value; width = widths.Double })) h)
read_double op s h unit (inr (inr (inr (inr d)))) = data_value op s widths.Double h (ap (λ u. nat_le u 7) unit) (ap width_of unit) d
read_double op s h unit (inr (inr (inr (inl l)))) = rw (l.area, l.fits, unit) (value_any op (values.Local (record { at_byte = s.value; width = widths.Double })) h)

value : (op : Operation) (locals : ℕ) (s : Statement) → takes op (operands.Value no_value) ≡ true → locals ≤ 256 → is_value locals s ≡ true → Reads op s
value op locals s h small allowed =
    let parts = and_parts (nat_lt 0 (unit_bytes s.bit)) (is_memory locals (unit_bytes s.bit) s) allowed in
    let some : 0 < unit_bytes s.bit = ltb-true 0 (unit_bytes s.bit) parts.0 in
    let here : InMemory (unit_bytes s.bit) s = in_memory locals (unit_bytes s.bit) s small some parts.1 in
    elim (units s.bit parts.0) [
      | inl e ↦ read_byte op s h e (subst (λ u. InMemory (unit_bytes u) s) e here)
      | inr r ↦ elim r [
        | inl e ↦ read_word op s h e (subst (λ u. InMemory (unit_bytes u) s) e here)
        | inr e ↦ read_double op s h e (subst (λ u. InMemory (unit_bytes u) s) e here)
      ]
    ]

input : (op : Operation) (s : Statement) → takes op (operands.PeripheralIn no_access) ≡ true → IsAccess 7 s → Reads op s
input op s h a =
    let read = λ (width : Width). input_any op (record { addr = s.value; width = width }) h in
    elim (units s.bit a.unit) [
      | inl e ↦ rw (a.area, a.fits, e) (read widths.Byte)
      | inr r ↦ elim r [ inl e ↦ rw (a.area, a.fits, e) (read widths.Word) | inr e ↦ rw (a.area, a.fits, e) (read widths.Double) ]
    ]

output : (op : Operation) (s : Statement) → takes op (operands.PeripheralOut no_access) ≡ true → IsAccess 8 s → Reads op s
output op s h a =
    let write = λ (width : Width). output_any op (record { addr = s.value; width = width }) h in
    elim (units s.bit a.unit) [
      | inl e ↦ rw (a.area, a.fits, e) (write widths.Byte)
      | inr r ↦ elim r [ inl e ↦ rw (a.area, a.fits, e) (write widths.Word) | inr e ↦ rw (a.area, a.fits, e) (write widths.Double) ]
    ]

data_number : (op : Operation) (s : Statement) → takes op (operands.DataNumber numbers.Length) ≡ true → is_about_data s ≡ true → Reads op s
data_number op s t h =
    let a = is_exactly areas.DataLength 0 s in
    let b = is_exactly areas.DataNumber 0 s in
    let c = is_exactly areas.InstanceLength 0 s in
    let d = is_exactly areas.InstanceNumber 0 s in
    elim (or_cases ((a || b) || c) d h) [
      | inl x ↦ elim (or_cases (a || b) c x) [
        | inl y ↦ elim (or_cases a b y) [
          | inl z ↦ rw (exactly_named areas.DataLength 0 s z) t
          | inr z ↦ rw (exactly_named areas.DataNumber 0 s z) (data_number_any op numbers.Length numbers.Number t)
        ]
        | inr y ↦ rw (exactly_named areas.InstanceLength 0 s y) (data_number_any op numbers.Length numbers.InstanceLength t)
      ]
      | inr x ↦ rw (exactly_named areas.InstanceNumber 0 s x) (data_number_any op numbers.Length numbers.InstanceNumber t)
    ]

timer : (op : Operation) (s : Statement) → takes op (operands.Timer 0) ≡ true → IsNumber 9 255 s → Reads op s
timer op s h t = rw (t.area, t.fits) (timer_any op s.value h)

counter : (op : Operation) (s : Statement) → takes op (operands.Counter 0) ≡ true → IsNumber 10 255 s → Reads op s
counter op s h c = rw (c.area, c.fits) (counter_any op s.value h)

word : (op : Operation) (s : Statement) → takes op (operands.Word 0) ≡ true → IsNumber 11 65535 s → Reads op s
word op s h w = rw (w.area, w.fits) (word_any op s.value h)

double : (op : Operation) (s : Statement) → takes op (operands.DoubleWord 0) ≡ true → s.area ≡ 12 → Reads op s
double op s h a = rw a (double_any op s.value h)

target : (op : Operation) (s : Statement) → takes op (operands.Target 0) ≡ true → s.area ≡ 13 → Reads op s
target op s h a = rw a (target_any op s.value h)

function : (op : Operation) (s : Statement) → takes op (operands.Block (record { kind = Fc; number = 0 })) ≡ true → IsNumber 16 255 s → Reads op s
function op s h n = rw (n.area, n.fits) (block_any op (record { kind = Fc; number = 0 }) (record { kind = Fc; number = s.value }) h)

function_block : (op : Operation) (s : Statement) → takes op (operands.Block (record { kind = Fb; number = 0 })) ≡ true → IsNumber 17 255 s → Reads op s
function_block op s h n = rw (n.area, n.fits) (block_any op (record { kind = Fb; number = 0 }) (record { kind = Fb; number = s.value }) h)

status_bit : (op : Operation) (s : Statement) → takes op (operands.Status 0) ≡ true → IsNumber 14 9 s → Reads op s
status_bit op s h n = rw (n.area, n.fits) (status_any op s.value h)

status_word : (op : Operation) (s : Statement) → takes op operands.StatusWord ≡ true → s.area ≡ 15 → Reads op s
status_word op s h a = rw a h

system_function : (op : Operation) (s : Statement) → takes op operands.SystemFunction ≡ true → s.area ≡ 18 → Reads op s
system_function op s h a = rw a h

alone : (op : Operation) (s : Statement) → takes op operands.Nothing ≡ true → s.area ≡ 0 → Reads op s
alone op s h a = rw a h

-- a constant of 16 bits, at most this
word_up_to : (op : Operation) (most : ℕ) (s : Statement) → takes op (operands.Word 0) ≡ true → most ≤ 65535 → is_up_to areas.Word most s ≡ true → Reads op s
word_up_to op most s h small allowed =
    let n = numbered areas.Word most s allowed in
    let le : s.value ≤ most = leb-true s.value most n.fits in
    word op s h (record { area = n.area; fits = le-leb s.value 65535 (omega arith) })

timer_or_counter : (op : Operation) (s : Statement) → takes op (operands.Timer 0) ≡ true → takes op (operands.Counter 0) ≡ true → is_timer_or_counter s ≡ true → Reads op s
timer_or_counter op s ht hc allowed = elim (either s allowed) [ inl t ↦ timer op s ht t | inr c ↦ counter op s hc c ]

constant : (op : Operation) (s : Statement) → takes op (operands.Word 0) ≡ true → takes op (operands.DoubleWord 0) ≡ true → is_constant s ≡ true → Reads op s
constant op s hw hd allowed =
    elim (or_cases (is_up_to areas.Word 65535 s) (is_number areas.DoubleWord s) allowed) [
      | inl x ↦ word op s hw (numbered areas.Word 65535 s x)
      | inr x ↦ double op s hd (named areas.DoubleWord s x)
    ]

loaded : (op : Operation) (locals : ℕ) (s : Statement) → takes_all kinds.Loaded op ≡ true → locals ≤ 256 → allows kinds.Loaded locals s ≡ true → Reads op s
loaded op locals s t small h =
    let t0 = and_parts (takes op (operands.Value no_value)) _ t in
    let tp = and_parts (takes op (operands.PeripheralIn no_access)) _ t0.1 in
    let t1 = and_parts (takes op (operands.Word 0)) _ tp.1 in
    let t2 = and_parts (takes op (operands.DoubleWord 0)) _ t1.1 in
    let t3 = and_parts (takes op (operands.Timer 0)) _ t2.1 in
    let t4 = and_parts (takes op (operands.Counter 0)) _ t3.1 in
    let t5 = and_parts (takes op operands.StatusWord) (takes op (operands.DataNumber numbers.Length)) t4.1 in
    let a = is_value locals s in
    let b = is_peripheral areas.PeripheralIn s in
    let c = is_constant s in
    let d = is_timer_or_counter s in
    let e = is_exactly areas.StatusWord 0 s in
    elim (or_cases ((((a || b) || c) || d) || e) (is_about_data s) h) [
      | inl v ↦ elim (or_cases (((a || b) || c) || d) e v) [
        | inl w ↦ elim (or_cases ((a || b) || c) d w) [
          | inl x ↦ elim (or_cases (a || b) c x) [
            | inl y ↦ elim (or_cases a b y) [
              | inl z ↦ value op locals s t0.0 small z
              | inr z ↦ input op s tp.0 (accessed areas.PeripheralIn s z)
            ]
            | inr y ↦ constant op s t1.0 t2.0 y
          ]
          | inr x ↦ timer_or_counter op s t3.0 t4.0 x
        ]
        | inr w ↦ status_word op s t5.0 (exactly_named areas.StatusWord 0 s w)
      ]
      | inr v ↦ data_number op s t5.1 v
    ]

stored : (op : Operation) (locals : ℕ) (s : Statement) → takes_all kinds.Stored op ≡ true → locals ≤ 256 → allows kinds.Stored locals s ≡ true → Reads op s
stored op locals s t small h =
    let parts = and_parts (takes op (operands.Value no_value)) _ t in
    let rest = and_parts (takes op (operands.PeripheralOut no_access)) (takes op operands.StatusWord) parts.1 in
    elim (or_cases (is_value locals s || is_peripheral areas.PeripheralOut s) (is_exactly areas.StatusWord 0 s) h) [
      | inl x ↦ elim (or_cases (is_value locals s) (is_peripheral areas.PeripheralOut s) x) [
        | inl y ↦ value op locals s parts.0 small y
        | inr y ↦ output op s rest.0 (accessed areas.PeripheralOut s y)
      ]
      | inr x ↦ status_word op s rest.1 (exactly_named areas.StatusWord 0 s x)
    ]

checked : (op : Operation) (locals : ℕ) (s : Statement) → takes_all kinds.CheckedBit op ≡ true → locals ≤ 256 → allows kinds.CheckedBit locals s ≡ true → Reads op s
checked op locals s t small h =
    let t0 = and_parts (takes op (operands.Bit no_bit)) _ t in
    let t1 = and_parts (takes op (operands.Timer 0)) _ t0.1 in
    let t2 = and_parts (takes op (operands.Counter 0)) (takes op (operands.Status 0)) t1.1 in
    elim (or_cases (is_bit locals s || is_timer_or_counter s) (is_up_to areas.Status 9 s) h) [
      | inl x ↦ elim (or_cases (is_bit locals s) (is_timer_or_counter s) x) [
        | inl b ↦ bit op locals s t0.0 small b
        | inr y ↦ timer_or_counter op s t1.0 t2.0 y
      ]
      | inr z ↦ status_bit op s t2.1 (numbered areas.Status 9 s z)
    ]

-- the operation with the stored operand of its kind means an instruction
abbrev pub ReadsAs : OperandKind → Operation → Statement → Type 0
ReadsAs kind op s = is_some (operand_for kind s >>= means op) ≡ true

-- the number of a data block that is opened
opening : (area : OperandArea) (s : Statement) → (is_number area s && is_data_number s.value) ≡ true → IsNumber (area_number area) 255 s
opening area s h =
    let parts = and_parts (is_number area s) (is_data_number s.value) h in
    record { area = named area s parts.0; fits = (and_parts (nat_le 1 s.value) (nat_le s.value 255) parts.1).1 }

with_data : (op : Operation) (s : Statement) → takes_all kinds.FunctionBlockWithData op ≡ true → allows kinds.FunctionBlockWithData 0 s ≡ true
    → ReadsAs kinds.FunctionBlockWithData op s
with_data op s t h =
    let p2 = and_parts ((is_in areas.FunctionBlock s && s.bit == 0) && nat_le s.value 255) (is_data_number s.db) h in
    let p1 = and_parts (is_in areas.FunctionBlock s && s.bit == 0) (nat_le s.value 255) p2.0 in
    let area = eqb-true s.area 17 (and_parts (is_in areas.FunctionBlock s) (s.bit == 0) p1.0).0 in
    let number = (and_parts (nat_le 1 s.db) (nat_le s.db 255) p2.1).1 in
    rw (area, p1.1, number) (with_data_any op (record { kind = Fb; number = 0 }) (record { kind = Fb; number = s.value }) 0 s.db t)

-- an operation that takes each form of a kind means an instruction with each operand of the kind
pub reads : (kind : OperandKind) (op : Operation) (locals : ℕ) (s : Statement) → takes_all kind op ≡ true → locals ≤ 256 → allows kind locals s ≡ true → ReadsAs kind op s
reads kinds.Nothing op locals s t small h = alone op s t (exactly_named areas.Nothing 0 s h)
reads kinds.CheckedBit op locals s t small h = checked op locals s t small h
reads kinds.WrittenBit op locals s t small h = bit op locals s t small h
reads kinds.SetBit op locals s t small h =
    let parts = and_parts (takes op (operands.Bit no_bit)) (takes op (operands.Counter 0)) t in
    elim (or_cases (is_bit locals s) (is_up_to areas.Counter 255 s) h) [
      | inl b ↦ bit op locals s parts.0 small b
      | inr c ↦ counter op s parts.1 (numbered areas.Counter 255 s c)
    ]
reads kinds.ResetBit op locals s t small h =
    let t0 = and_parts (takes op (operands.Bit no_bit)) _ t in
    let t1 = and_parts (takes op (operands.Timer 0)) (takes op (operands.Counter 0)) t0.1 in
    elim (or_cases (is_bit locals s) (is_timer_or_counter s) h) [
      | inl b ↦ bit op locals s t0.0 small b
      | inr y ↦ timer_or_counter op s t1.0 t1.1 y
    ]
reads kinds.Loaded op locals s t small h = loaded op locals s t small h
reads kinds.Stored op locals s t small h = stored op locals s t small h
reads kinds.Coded op locals s t small h =
    let parts = and_parts (takes op (operands.Timer 0)) (takes op (operands.Counter 0)) t in timer_or_counter op s parts.0 parts.1 h
reads kinds.Addend op locals s t small h =
    let parts = and_parts (takes op (operands.Word 0)) (takes op (operands.DoubleWord 0)) t in constant op s parts.0 parts.1 h
reads (kinds.UpTo most) op locals s t small h =
    let parts = and_parts (nat_le most 65535) (takes op (operands.Word 0)) t in word_up_to op most s parts.1 (leb-true most 65535 parts.0) h
reads (kinds.Exactly number) op locals s t small h =
    let parts = and_parts (nat_le number 65535) (takes op (operands.Word 0)) t in
    let e : s.value ≡ number = eqb-true s.value number (and_parts (is_number areas.Word s) (s.value == number) h).1 in
    let le : number ≤ 65535 = leb-true number 65535 parts.0 in
    word op s parts.1 (record { area = exactly_named areas.Word number s h; fits = le-leb s.value 65535 (omega arith) })
reads (kinds.AtMost most) op locals s t small h =
    let t0 = and_parts (nat_le most 65535) _ t in
    let t1 = and_parts (takes op operands.Nothing) (takes op (operands.Word 0)) t0.1 in
    elim (or_cases (is_exactly areas.Nothing 0 s) (is_up_to areas.Word most s) h) [
      | inl x ↦ alone op s t1.0 (exactly_named areas.Nothing 0 s x)
      | inr x ↦ word_up_to op most s t1.1 (leb-true most 65535 t0.0) x
    ]
reads kinds.Mask op locals s t small h =
    let parts = and_parts (takes op operands.Nothing) (takes op (operands.DoubleWord 0)) t in
    elim (or_cases (is_exactly areas.Nothing 0 s) (is_number areas.DoubleWord s) h) [
      | inl x ↦ alone op s parts.0 (exactly_named areas.Nothing 0 s x)
      | inr x ↦ double op s parts.1 (named areas.DoubleWord s x)
    ]
reads kinds.Target op locals s t small h = target op s t (named areas.Target s h)
reads kinds.Timer op locals s t small h = timer op s t (numbered areas.Timer 255 s h)
reads kinds.Counter op locals s t small h = counter op s t (numbered areas.Counter 255 s h)
reads kinds.DataBlock op locals s t small h = let n = opening areas.Data s h in rw (n.area, n.fits) (data_block_any op s.value t)
reads kinds.InstanceBlock op locals s t small h = let n = opening areas.Instance s h in rw (n.area, n.fits) (instance_block_any op s.value t)
reads kinds.Function op locals s t small h = function op s t (numbered areas.Function 255 s h)
reads kinds.FunctionBlock op locals s t small h = function_block op s t (numbered areas.FunctionBlock 255 s h)
reads kinds.FunctionBlockWithData op locals s t small h = with_data op s t h
reads (kinds.SystemFunction number) op locals s t small h = system_function op s t (exactly_named areas.SystemFunction number s h)
