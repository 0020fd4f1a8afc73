use Rattle.std.proofs.Common.{◌≡◌, ℕ, ◌+◌, ◌<◌, length, take, slice_index}
use Rattle.cpu_image.specs.Pages.{data_pages}
use Rattle.cpu_image.proofs.lay.pages_in.Given as goal

-- each data block so far begins after those before it, and the next one after them all
abbrev pub invariant-loop-number : goal.invariant-loop-number
invariant-loop-number l =
    (l.page ≡ 41 + data_pages (take l.number l.areas))
    × ((n : ℕ) → n < l.number → slice_index l.first_pages n ≡ 41 + data_pages (take n l.areas))
    × (length l.first_pages ≡ 256)
