use Rattle.std.proofs.Common.{◌≡◌, ◌≤◌, ◌-◌, length}
use Rattle.stl_decl.specs.Steps.{end_fault}
use Rattle.stl_decl.specs.Repeat.{repeated}
use Rattle.stl_reader.specs.Contents.{contents_of}
use Rattle.stl_reader.specs.Reading.{body_turn, parts_at}
use Rattle.stl_reader.proofs.reading.parts_at.Given as goal

abbrev pub invariant-loop-turn : goal.invariant-loop-turn
invariant-loop-turn l =
    (repeated (end_fault l.text) (body_turn l.text l.kind l.temps) (length l.tokens - l._turn) (contents_of l.lists, l.rest) ≡ parts_at l.text l.kind l.temps l.tokens)
    × (length l.lists.statements.items ≤ l._turn)
