-- Each operation stands in the row of its number.
use Rattle.std.proofs.Common.{◌≡◌, ◌+◌, ◌*◌, refl, IsSomeAnd}
use denote.Enum.Declared.{tag_of}
use Rattle.instruction_set.specs.declared.operation.Operation.TheVariants as operations
use Rattle.instruction_set.specs.Rows.{row_of}
use Rattle.instruction_set.specs.declared.operation.Check.{Check}
use Rattle.instruction_set.specs.declared.operation.Check.TheVariants as checks
use Rattle.instruction_set.specs.contracts.operation.Check as check_type
use Rattle.instruction_set.specs.declared.operation.BitWrite.{BitWrite}
use Rattle.instruction_set.specs.declared.operation.BitWrite.TheVariants as bit_writes
use Rattle.instruction_set.specs.contracts.operation.BitWrite as bit_write_type
use Rattle.instruction_set.specs.declared.operation.RloOperation.{RloOperation}
use Rattle.instruction_set.specs.declared.operation.RloOperation.TheVariants as rlo_operations
use Rattle.instruction_set.specs.contracts.operation.RloOperation as rlo_operation_type
use Rattle.instruction_set.specs.declared.operation.Edge.{Edge}
use Rattle.instruction_set.specs.declared.operation.Edge.TheVariants as edges
use Rattle.instruction_set.specs.contracts.operation.Edge as edge_type
use Rattle.instruction_set.specs.declared.operation.MasterControl.{MasterControl}
use Rattle.instruction_set.specs.declared.operation.MasterControl.TheVariants as master_controls
use Rattle.instruction_set.specs.contracts.operation.MasterControl as master_control_type
use Rattle.instruction_set.specs.declared.operation.Num.{Num}
use Rattle.instruction_set.specs.declared.operation.Num.TheVariants as nums
use Rattle.instruction_set.specs.contracts.operation.Num as num_type
use Rattle.instruction_set.specs.declared.operation.WordSize.{WordSize}
use Rattle.instruction_set.specs.declared.operation.WordSize.TheVariants as word_sizes
use Rattle.instruction_set.specs.contracts.operation.WordSize as word_size_type
use Rattle.instruction_set.specs.declared.operation.TimerKind.{TimerKind}
use Rattle.instruction_set.specs.declared.operation.TimerKind.TheVariants as timer_kinds
use Rattle.instruction_set.specs.contracts.operation.TimerKind as timer_kind_type
use Rattle.instruction_set.specs.declared.operation.BlockOperation.{BlockOperation}
use Rattle.instruction_set.specs.declared.operation.BlockOperation.TheVariants as block_operations
use Rattle.instruction_set.specs.contracts.operation.BlockOperation as block_operation_type
use Rattle.instruction_set.specs.declared.operation.NoOperation.{NoOperation}
use Rattle.instruction_set.specs.declared.operation.NoOperation.TheVariants as no_operations
use Rattle.instruction_set.specs.contracts.operation.NoOperation as no_operation_type
use Rattle.instruction_set.specs.declared.operation.Cmp.{Cmp}
use Rattle.instruction_set.specs.declared.operation.Cmp.TheVariants as cmps
use Rattle.instruction_set.specs.contracts.operation.Cmp as cmp_type
use Rattle.instruction_set.specs.declared.operation.Word.{Word}
use Rattle.instruction_set.specs.declared.operation.Word.TheVariants as words
use Rattle.instruction_set.specs.contracts.operation.Word as word_type

pub check_stands : (op : Check) → IsSomeAnd (row_of (tag_of check_type.the_type op)) (λ row. row.operation ≡ operations.Check op)
unfolding row_of
check_stands checks.And = refl
check_stands checks.AndNot = refl
check_stands checks.Or = refl
check_stands checks.OrNot = refl
check_stands checks.Xor = refl
check_stands checks.XorNot = refl

pub open_stands : (op : Check) → IsSomeAnd (row_of (7 + tag_of check_type.the_type op)) (λ row. row.operation ≡ operations.Open op)
unfolding row_of
open_stands checks.And = refl
open_stands checks.AndNot = refl
open_stands checks.Or = refl
open_stands checks.OrNot = refl
open_stands checks.Xor = refl
open_stands checks.XorNot = refl

pub write_stands : (op : BitWrite) → IsSomeAnd (row_of (14 + tag_of bit_write_type.the_type op)) (λ row. row.operation ≡ operations.Write op)
unfolding row_of
write_stands bit_writes.Assign = refl
write_stands bit_writes.Set = refl
write_stands bit_writes.Reset = refl

pub rlo_stands : (op : RloOperation) → IsSomeAnd (row_of (17 + tag_of rlo_operation_type.the_type op)) (λ row. row.operation ≡ operations.Rlo op)
unfolding row_of
rlo_stands rlo_operations.NegateRlo = refl
rlo_stands rlo_operations.SetRlo = refl
rlo_stands rlo_operations.ClearRlo = refl
rlo_stands rlo_operations.SaveRlo = refl

pub edge_stands : (op : Edge) → IsSomeAnd (row_of (21 + tag_of edge_type.the_type op)) (λ row. row.operation ≡ operations.Edge op)
unfolding row_of
edge_stands edges.Rising = refl
edge_stands edges.Falling = refl

pub master_control_stands : (op : MasterControl) → IsSomeAnd (row_of (23 + tag_of master_control_type.the_type op)) (λ row. row.operation ≡ operations.MasterControl op)
unfolding row_of
master_control_stands master_controls.Activate = refl
master_control_stands master_controls.Deactivate = refl
master_control_stands master_controls.OpenZone = refl
master_control_stands master_controls.CloseZone = refl

pub number_stands : (op : Num) → IsSomeAnd (row_of (40 + tag_of num_type.the_type op)) (λ row. row.operation ≡ operations.Number op)
unfolding row_of
number_stands nums.AddI = refl
number_stands nums.SubI = refl
number_stands nums.MulI = refl
number_stands nums.DivI = refl
number_stands nums.AddD = refl
number_stands nums.SubD = refl
number_stands nums.MulD = refl
number_stands nums.DivD = refl
number_stands nums.ModD = refl
number_stands nums.NegI = refl
number_stands nums.NegD = refl

pub from_bcd_stands : (op : WordSize) → IsSomeAnd (row_of (53 + 2 * tag_of word_size_type.the_type op)) (λ row. row.operation ≡ operations.FromBcd op)
unfolding row_of
from_bcd_stands word_sizes.Word = refl
from_bcd_stands word_sizes.DoubleWord = refl

pub to_bcd_stands : (op : WordSize) → IsSomeAnd (row_of (54 + 2 * tag_of word_size_type.the_type op)) (λ row. row.operation ≡ operations.ToBcd op)
unfolding row_of
to_bcd_stands word_sizes.Word = refl
to_bcd_stands word_sizes.DoubleWord = refl

pub start_timer_stands : (op : TimerKind) → IsSomeAnd (row_of (102 + tag_of timer_kind_type.the_type op)) (λ row. row.operation ≡ operations.StartTimer op)
unfolding row_of
start_timer_stands timer_kinds.Sp = refl
start_timer_stands timer_kinds.Se = refl
start_timer_stands timer_kinds.Sd = refl
start_timer_stands timer_kinds.Ss = refl
start_timer_stands timer_kinds.Sf = refl

pub block_stands : (op : BlockOperation) → IsSomeAnd (row_of (111 + tag_of block_operation_type.the_type op)) (λ row. row.operation ≡ operations.Block op)
unfolding row_of
block_stands block_operations.OpenData = refl
block_stands block_operations.OpenInstance = refl
block_stands block_operations.ExchangeData = refl
block_stands block_operations.CallFunction = refl
block_stands block_operations.CallFunctionBlock = refl
block_stands block_operations.CallRetrigger = refl
block_stands block_operations.CallStop = refl
block_stands block_operations.UnconditionalCallFunction = refl
block_stands block_operations.UnconditionalCallFunctionBlock = refl
block_stands block_operations.ConditionalCallFunction = refl
block_stands block_operations.ConditionalCallFunctionBlock = refl
block_stands block_operations.End = refl
block_stands block_operations.ConditionalEnd = refl
block_stands block_operations.UnconditionalEnd = refl

pub no_operation_stands : (op : NoOperation) → IsSomeAnd (row_of (125 + tag_of no_operation_type.the_type op)) (λ row. row.operation ≡ operations.NoOperation op)
unfolding row_of
no_operation_stands no_operations.Nop0 = refl
no_operation_stands no_operations.Nop1 = refl
no_operation_stands no_operations.Display = refl

pub compare_stands : (op : Cmp) (size : WordSize) → IsSomeAnd (row_of (58 + tag_of cmp_type.the_type op + 6 * tag_of word_size_type.the_type size)) (λ row. row.operation ≡ operations.Compare op size)
unfolding row_of
compare_stands cmps.Eq word_sizes.Word = refl
compare_stands cmps.Eq word_sizes.DoubleWord = refl
compare_stands cmps.Ne word_sizes.Word = refl
compare_stands cmps.Ne word_sizes.DoubleWord = refl
compare_stands cmps.Gt word_sizes.Word = refl
compare_stands cmps.Gt word_sizes.DoubleWord = refl
compare_stands cmps.Lt word_sizes.Word = refl
compare_stands cmps.Lt word_sizes.DoubleWord = refl
compare_stands cmps.Ge word_sizes.Word = refl
compare_stands cmps.Ge word_sizes.DoubleWord = refl
compare_stands cmps.Le word_sizes.Word = refl
compare_stands cmps.Le word_sizes.DoubleWord = refl

pub word_logic_stands : (op : Word) (size : WordSize) → IsSomeAnd (row_of (70 + tag_of word_type.the_type op + 3 * tag_of word_size_type.the_type size)) (λ row. row.operation ≡ operations.WordLogic op size)
unfolding row_of
word_logic_stands words.And word_sizes.Word = refl
word_logic_stands words.And word_sizes.DoubleWord = refl
word_logic_stands words.Or word_sizes.Word = refl
word_logic_stands words.Or word_sizes.DoubleWord = refl
word_logic_stands words.Xor word_sizes.Word = refl
word_logic_stands words.Xor word_sizes.DoubleWord = refl
