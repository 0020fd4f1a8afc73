-- A script's text as lines, and a line as words.
use Rattle.std.specs.Prelude.{ℕ, List, [], ◌∷◌, ◌==◌, ◌&&◌, Bool, true, false, Option, Some, None, if◌then◌else◌}
use Rattle.std.specs.Str.{bytes_eq}

-- the first of a list, and the others
abbrev pub uncons : {A : Type 0} → List A → Option (A × List A)
uncons [] = None
uncons (x ∷ xs) = Some (x, xs)

abbrev pub is_empty : {A : Type 0} → List A → Bool
is_empty [] = true
is_empty (x ∷ xs) = false

-- one byte more in front of the first of the pieces
abbrev pub onto : ℕ → List (List ℕ) → List (List ℕ)
onto b [] = (b ∷ []) ∷ []
onto b (p ∷ ps) = (b ∷ p) ∷ ps

-- the first byte is this one
abbrev pub begins_with : ℕ → List ℕ → Bool
begins_with c [] = false
begins_with c (b ∷ bs) = b == c

-- The lines, without their ends. A line ends by a line feed, or by a carriage return directly before one; what stands
-- behind the last line feed is a line too, unless it is empty.
unfoldable pub lines_of : List ℕ → List (List ℕ)
lines_of [] = []
lines_of (b ∷ bs) =
    if b == 10 then [] ∷ lines_of bs
    else if b == 13 && begins_with 10 bs then lines_of bs
    else onto b (lines_of bs)

-- a word that goes on so far is whole: a blank follows, or the line ends
abbrev pub ends_word : List ℕ → Bool
ends_word [] = true
ends_word (b ∷ bs) = b == 32

-- the words of a line: the pieces between blanks
unfoldable pub words_of : List ℕ → List (List ℕ)
words_of [] = []
words_of (b ∷ bs) =
    if b == 32 then words_of bs
    else if ends_word bs then (b ∷ []) ∷ words_of bs
    else onto b (words_of bs)

-- the second word, which is that of the moment or of the end; no bytes where there is none
abbrev pub time_word : List (List ℕ) → List ℕ
time_word [] = []
time_word (w ∷ []) = []
time_word (w ∷ time ∷ ws) = time

-- the same without a carriage return at its end
abbrev pub without_return : List ℕ → List ℕ
without_return [] = []
without_return (b ∷ []) = if b == 13 then [] else b ∷ []
without_return (b ∷ c ∷ bs) = b ∷ without_return (c ∷ bs)

-- the same without the blanks at its front
abbrev pub without_blanks : List ℕ → List ℕ
without_blanks [] = []
without_blanks (b ∷ bs) = if b == 32 then without_blanks bs else b ∷ bs
