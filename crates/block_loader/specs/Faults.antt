-- All faults of a source whose blocks have been read, and the first of them.
use Rattle.std.specs.Prelude.{ℕ, List, [], ◌∷◌, ◌++◌, map, length, drop, take, min, ◌==◌, ◌&&◌, ◌||◌, ◌+◌, ◌-◌, ◌/◌, nat_lt, nat_le, not, Bool, Option, Some, None, Result, Ok, Err, slice_get, if◌then◌else◌}
use Rattle.std.specs.List.{flat_map, find, list_any, list_all}
use Rattle.std.specs.Option.{option_map}
use Rattle.std.specs.Str.{bytes_eq}
use Rattle.s7_base.specs.declared.blocks.CodeKind.TheVariants.{Ob, Fb, Fc}
use Rattle.s7_base.specs.declared.blocks.CodeKind.{CodeKind}
use Rattle.s7_base.specs.Statements.{is_ju, is_jl}
use Rattle.stl_lex.specs.declared.fault.LoadFault.{LoadFault}
use Rattle.stl_decl.specs.declared.fault.Fault.{Fault}
use Rattle.stl_decl.specs.declared.fault.FaultKind.{FaultKind}
use Rattle.stl_decl.specs.declared.fault.FaultKind.TheVariants.{DoubleBlock, DoubleLabel, NoLabel, JumpTooFar, NoOb1, TooManyBlocks, TooLarge}
use Rattle.stl_decl.specs.Faults.{kind_number, told}
use Rattle.stl_decl.specs.Layout.{size_of}
use Rattle.stl_reader.specs.declared.items.BodyStatement.{BodyStatement}
use Rattle.stl_reader.specs.declared.contents.Label.{Label}
use Rattle.stl_reader.specs.declared.contents.Jump.{Jump}
use Rattle.block_loader.specs.declared.faults.Totals.{Totals}
use Rattle.block_loader.specs.declared.blocks.SourceCode.{SourceCode}
use Rattle.block_loader.specs.declared.blocks.SourceData.{SourceData}
use Rattle.block_loader.specs.declared.blocks.SourceBlock.{SourceBlock}
use Rattle.block_loader.specs.declared.blocks.SourceBlock.TheVariants.{Code, Data}

-- the earlier line, then the earlier column, then the lower kind
abbrev pub is_before : Fault → Fault → Bool
is_before f g =
    nat_lt f.line g.line
    || (f.line == g.line
    && (nat_lt f.column g.column || (f.column == g.column && nat_lt (kind_number f.kind) (kind_number g.kind))))

-- the lesser of what was found and this
abbrev pub lesser : Option Fault → Fault → Option Fault
lesser None f = Some f
lesser (Some g) f = if is_before f g then Some f else Some g

-- the least of what was found and these
unfoldable pub least_of : Option Fault → List Fault → Option Fault
least_of found [] = found
least_of found (f ∷ fs) = least_of (lesser found f) fs

-- the statement that a name stands before, by the first label of that name
abbrev pub target : List Label → List ℕ → Option ℕ
target labels name = option_map (λ l. l.statement) (find (λ l. bytes_eq l.name name) labels)

-- what a name stands for once this label is there too
abbrev pub with_label : Option ℕ → List ℕ → Label → Option ℕ
with_label (Some n) name l = Some n
with_label None name l = if bytes_eq l.name name then Some l.statement else None

abbrev pub double_label : Option ℕ → Label → List Fault
double_label None l = []
double_label (Some n) l = record { kind = DoubleLabel; line = l.line; column = l.column } ∷ []

-- each label whose name an earlier one has
unfoldable pub double_labels : List Label → List Label → List Fault
double_labels front [] = []
double_labels front (l ∷ ls) = double_label (target front l.name) l ++ double_labels (front ++ l ∷ []) ls

-- more than 2,000 statements lie between these
abbrev pub is_far : ℕ → ℕ → Bool
is_far m n = nat_lt (m + 2000) n || nat_lt (n + 2000) m

-- between a JL and its target stand 1 to 255 JU and nothing else; `after` follows the JL
abbrev pub has_list : ℕ → ℕ → List BodyStatement → Bool
has_list at goal after =
    nat_le (at + 2) goal && nat_le goal (at + 256) && nat_le goal (at + 1 + length after)
    && list_all (λ s. is_ju s.statement) (take (goal - (at + 1)) after)

-- a fault at a statement
abbrev pub fault_at : FaultKind → BodyStatement → Fault
fault_at kind s = record { kind = kind; line = s.line; column = s.column }

-- the label of a jump is there, behind a list where it is a JL, and near enough
abbrev pub landing_fault : Jump → ℕ → BodyStatement → List BodyStatement → List Fault
landing_fault j goal s after =
    if is_jl s.statement && not (has_list j.statement goal after) then fault_at NoLabel s ∷ []
    else (if is_far goal j.statement then fault_at JumpTooFar s ∷ [] else [])

abbrev pub label_fault : Jump → Option ℕ → BodyStatement → List BodyStatement → List Fault
label_fault j None s after = fault_at NoLabel s ∷ []
label_fault j (Some goal) s after = landing_fault j goal s after

abbrev pub fault_of_jump : Jump → Option ℕ → Option BodyStatement → List BodyStatement → List Fault
fault_of_jump j goal None after = []
fault_of_jump j goal (Some s) after = label_fault j goal s after

unfoldable pub jump_fault : List BodyStatement → Option ℕ → Jump → List Fault
jump_fault statements goal j = fault_of_jump j goal (slice_get statements j.statement) (drop (j.statement + 1) statements)

-- each jump whose label isn't in its block, isn't behind its list or is too far away
abbrev pub jump_faults : List BodyStatement → List Label → List Jump → List Fault
jump_faults statements labels jumps = flat_map (λ j. jump_fault statements (target labels j.name) j) jumps

-- the faults inside a code block
abbrev pub code_faults : SourceCode → List Fault
code_faults code = double_labels [] code.body.labels ++ jump_faults code.body.statements code.body.labels code.body.jumps

abbrev pub inner_faults : SourceBlock → List Fault
inner_faults (Code code) = code_faults code
inner_faults (Data block) = []

abbrev pub kind_byte : CodeKind → ℕ
kind_byte Ob = 0
kind_byte Fb = 1
kind_byte Fc = 2

-- kind and number
abbrev pub name_of : SourceBlock → List ℕ
name_of (Code code) = kind_byte code.kind ∷ code.number ∷ []
name_of (Data block) = 3 ∷ block.number ∷ []

abbrev pub line_of : SourceBlock → ℕ
line_of (Code code) = code.line
line_of (Data block) = block.line

abbrev pub column_of : SourceBlock → ℕ
column_of (Code code) = code.column
column_of (Data block) = block.column

abbrev pub data_size : SourceData → ℕ
data_size block = min (size_of block.layout) 4294967295

-- totals are told apart up to a million, which is above each limit
abbrev pub total : ℕ → ℕ → ℕ
total n more = min (n + more) 1000000

-- the totals with one block more
abbrev pub counted : Totals → SourceBlock → Totals
counted t (Code code) = record t { statements = total t.statements (length code.body.statements) }
counted t (Data block) = record t { bytes = total t.bytes (data_size block); pages = total t.pages ((data_size block + 255) / 256) }

-- a limit is passed with this block: its own or that of the whole
abbrev pub is_too_large : Totals → SourceBlock → Bool
is_too_large t (Code code) =
    nat_lt 4000 (length code.body.statements) || nat_lt 12000 t.statements || nat_lt 256 code.temp
is_too_large t (Data block) = nat_lt 8192 (data_size block) || nat_lt 32768 t.bytes || nat_lt 256 t.pages

-- a fault at the head of a block, where it is there
abbrev pub at_head : Bool → FaultKind → SourceBlock → List Fault
at_head there kind block = if there then record { kind = kind; line = line_of block; column = column_of block } ∷ [] else []

-- the faults at the head of a block: `taken` tells that an earlier block has its name, and t are the totals with it
abbrev pub head_faults : Bool → ℕ → Totals → SourceBlock → List Fault
head_faults taken b t block =
    (at_head taken DoubleBlock block ++ at_head (b == 257) TooManyBlocks block) ++ at_head (is_too_large t block) TooLarge block

-- the faults of these blocks, the first of which has the number b, behind blocks of these names and totals
unfoldable pub blocks_faults : ℕ → List (List ℕ) → Totals → List SourceBlock → List Fault
blocks_faults b front t [] = []
blocks_faults b front t (block ∷ blocks) =
    (head_faults (list_any (λ n. bytes_eq n (name_of block)) front) b (counted t block) block ++ inner_faults block)
    ++ blocks_faults (b + 1) (front ++ name_of block ∷ []) (counted t block) blocks

-- OB1 isn't there; this stands before all
abbrev pub missing : Bool → List Fault
missing there = if there then [] else record { kind = NoOb1; line = 0; column = 0 } ∷ []

abbrev pub no_totals : Totals
no_totals = record { statements = 0; bytes = 0; pages = 0 }

-- all faults of the whole source
abbrev pub source_faults : List SourceBlock → List Fault
source_faults blocks = blocks_faults 1 [] no_totals blocks ++ missing (list_any (λ n. bytes_eq n (0 ∷ 1 ∷ [])) (map name_of blocks))

-- the first of them
abbrev pub first_fault : List SourceBlock → Option Fault
first_fault blocks = least_of None (source_faults blocks)

abbrev pub refused : Option Fault → List SourceBlock → Result (List SourceBlock) LoadFault
refused None blocks = Ok blocks
refused (Some f) blocks = Err (told f)

-- the blocks, or the first fault of the whole
abbrev pub judged : List SourceBlock → Result (List SourceBlock) LoadFault
judged blocks = refused (first_fault blocks) blocks
