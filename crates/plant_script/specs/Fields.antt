-- The parts of a text.
use Rattle.std.specs.Prelude.{ℕ, List, [], ◌∷◌, ◌==◌, Option, Some, None, if◌then◌else◌}
use Rattle.std.specs.Option.{option_map}

-- the bytes before the first `end`, and those behind it
abbrev pub split_at : ℕ → List ℕ → Option (List ℕ × List ℕ)
split_at end [] = None
split_at end (b ∷ bs) = if b == end then Some ([], bs) else option_map (λ p. (b ∷ p.0, p.1)) (split_at end bs)
