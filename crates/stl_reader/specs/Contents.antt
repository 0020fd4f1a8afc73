-- What a body is seen as.
use Rattle.std.specs.Prelude.{List}
use Rattle.stl_reader.specs.declared.items.BodyStatement.{BodyStatement}
use Rattle.stl_reader.specs.declared.contents.Label.{Label}
use Rattle.stl_reader.specs.declared.contents.Jump.{Jump}
use Rattle.stl_reader.specs.declared.contents.Lists.{Lists}

-- a body: its statements, each with its line and column, its labels and its jumps
pub record Contents : Type 0 where
  pub statements : List BodyStatement
  pub labels : List Label
  pub jumps : List Jump

abbrev pub contents_of : Lists → Contents
contents_of l = record { statements = l.statements.items; labels = l.labels.items; jumps = l.jumps.items }
