use Rattle.std.proofs.Common.{◌≡◌, ◌++◌, length, ℕ, List, None}
use Rattle.std.specs.Prelude.{codes}
use Rattle.std.specs.List.{flat_map}
use Rattle.trace_reader.specs.Blocks.{DataBlock}
use Rattle.trace_reader.specs.Fields.{after}
use Rattle.trace_reader.specs.Text.{block_line}
use Rattle.trace_reader.specs.Ranges.{Each, FitsBlock}
use Rattle.trace_reader.proofs.GoesOn.{Left}
use Rattle.trace_reader.proofs.blocks.blocks_from.Given as goal

abbrev pub invariant-blocks-2 : goal.invariant-blocks-2
invariant-blocks-2 l = record {
  whole : l.text ≡ flat_map block_line l.blocks.items ++ l.rest;
  fits : Each FitsBlock l.blocks.items;
  left : (all : List DataBlock) (end : List ℕ) → Each FitsBlock all → after (codes "DB ") end ≡ None → l.text ≡ flat_map block_line all ++ end → Left block_line FitsBlock all l.blocks.items l.rest end;
}

abbrev pub decreases-blocks-2 : goal.decreases-blocks-2
decreases-blocks-2 l = length l.rest
