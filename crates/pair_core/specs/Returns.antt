-- The return of a side. No side comes back yet, so none is ever under way.
use Rattle.std.specs.Prelude.{ℕ, Bool, List, Option}
use Rattle.s7_events.specs.declared.entry.Side.{Side}

-- what was put into the link: a page of the dynamic image, by its number, or a chunk of the program; with the place of the side that
-- put it, counted after the Hold with which it was put
pub record Stamp : Type 0 where
  pub page : Option ℕ
  pub place : ℕ

-- the side that comes back, what was put for it, how much of that it took, whether it has adopted the state, and what lies in the link
pub record Return : Type 0 where
  pub side : Side
  pub puts : List Stamp
  pub taken : ℕ
  pub adopted : Bool
  pub link : Option Stamp
