-- What contracts see of a pool: a map from the pages that are held to their bytes and marks.
use Rattle.std.specs.Prelude.{◌≡◌, ◌≢◌, ℕ, ◌+◌, ◌-◌, Bool, false, List, [], ◌++◌, length, take, drop, replicate, Option, Some, None, is_some, IsSome, count_by, slice_index_or}
use Rattle.page_pool.specs.declared.pool.Contents.{Contents}

-- what the pages have that are held, by their numbers, None standing for a page that is free; and how many pages
-- there are in all
pub record Region : Type 0 where
  pub held : List (Option Contents)
  pub size : ℕ

-- what a page has, if it is held
abbrev pub contents_of : Region → ℕ → Option Contents
contents_of region page = slice_index_or region.held page None

-- the page is held, so it is one of this pool's
abbrev pub Holds : Region → ℕ → Type 0
Holds region page = IsSome (contents_of region page)

-- the bytes that stand in a place of the map
abbrev pub bytes_in : Option Contents → List ℕ
bytes_in None = []
bytes_in (Some contents) = contents.bytes

-- the mark that stands in a place of the map
abbrev pub mark_in : Option Contents → Bool
mark_in None = false
mark_in (Some contents) = contents.dirty

-- the bytes of a page that is held
abbrev pub bytes_of : Region → ℕ → List ℕ
bytes_of region page = bytes_in (contents_of region page)

-- whether the mark of a page that is held is set
abbrev pub is_dirty : Region → ℕ → Bool
is_dirty region page = mark_in (contents_of region page)

-- a page as it is taken: its bytes are 0 and it has no mark
abbrev pub zeros : Contents
zeros = record { bytes = replicate 256 0; dirty = false }

-- bytes with a piece of them written anew, from a place on
abbrev pub overwritten : List ℕ → ℕ → List ℕ → List ℕ
overwritten bytes from piece = take from bytes ++ piece ++ drop (from + length piece) bytes

-- how many pages are not held
abbrev pub free_count : Region → ℕ
free_count region = region.size - count_by is_some region.held

-- the page has this now, and every other page has what it had
pub record ChangesOnly (old new : Region) (page : ℕ) (slot : Option Contents) : Type 0 where
  pub changed : contents_of new page ≡ slot
  pub others : (other : ℕ) → other ≢ page → contents_of new other ≡ contents_of old other
  pub size : new.size ≡ old.size
