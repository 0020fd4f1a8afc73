-- How a level keeps the local bytes of its blocks: one after the other.
use Rattle.std.specs.Prelude.{ℕ, List, [], ◌∷◌, take, drop}
use Rattle.level_stack.specs.declared.level.Frame.{Frame}
use Rattle.level_stack.specs.Levels.{FrameState}

-- each block has the next of these bytes, as many as it wants
abbrev pub frames_in : List Frame → List ℕ → List FrameState
frames_in [] bytes = []
frames_in (frame ∷ rest) bytes =
    record { block = frame.block; locals = take frame.temp bytes } ∷ frames_in rest (drop frame.temp bytes)
