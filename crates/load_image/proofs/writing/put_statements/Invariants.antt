use Rattle.std.proofs.Common.{◌≡◌, ◌++◌, take, All}
use Rattle.std.specs.List.{flat_map}
use Rattle.load_image.specs.Image.{statement_bytes, IsStoredStatement}
use Rattle.load_image.proofs.writing.put_statements.Given as goal

abbrev pub invariant-loop-s : goal.invariant-loop-s
invariant-loop-s l =
    (l.out.items ≡ l.fn.out.items ++ flat_map statement_bytes (take l.s-index l.statements))
    × All IsStoredStatement (take l.s-index l.statements)
