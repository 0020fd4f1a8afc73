-- What files in memory hold, and how often a read of a name has failed.
use Rattle.std.specs.Prelude.{ℕ, ◌+◌, ◌-◌, ◌^◌, ◌≡◌, ◌==◌, ◌⊎◌, min, IsTrue, IsNone, IsSome, List, [], Option}
use Rattle.std.specs.List.{list_any}
use Rattle.pair_io.specs.Names.{place_of, content_under, count_under}
use Rattle.pair_io.specs.declared.mem_files.MemFiles.{MemFiles}

abbrev pub content_of : MemFiles → List ℕ → Option (List ℕ)
content_of files name = content_under files.names.items files.contents.items name

abbrev pub fault_count : MemFiles → List ℕ → ℕ
fault_count files name = count_under files.names.items files.faults.items files.other_faults name

-- where a name is held
abbrev pub place_in : MemFiles → List ℕ → Option ℕ
place_in files name = place_of files.names.items name

-- how many reads were made
abbrev pub read_count : MemFiles → ℕ
read_count files = files.reads

-- the numbers of the reads that are to fail
abbrev pub failing_reads : MemFiles → List ℕ
failing_reads files = files.failing.items

-- the next read of the name fails: the name is not held, or the read is one of those that are to fail
abbrev pub IsRefused : MemFiles → List ℕ → Type 0
IsRefused files name = IsNone (place_in files name) ⊎ IsTrue (list_any (λ n. n == read_count files) (failing_reads files))

-- no read is to fail, and the name is held
abbrev pub NeverFails : MemFiles → List ℕ → Type 0
NeverFails files name = (failing_reads files ≡ []) × IsSome (place_in files name)

-- one more read was made, and the names and the reads that are to fail are as before
pub record IsAfterRead (old new : MemFiles) : Type 0 where
  pub reads : read_count new ≡ min (read_count old + 1) (2 ^ 64 - 1)
  pub failing : failing_reads new ≡ failing_reads old
  pub places : (name : List ℕ) → place_in new name ≡ place_in old name
