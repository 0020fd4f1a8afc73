-- What a job from outside does: it reads or writes some bytes of the bit memory or of a data block.
use Rattle.std.specs.Prelude.{ℕ, ◌+◌, ◌≤◌, nat_le, List, length, if◌then◌else◌, Option, Some, None}
use Rattle.std.specs.Option.{option_map}
use Rattle.s7_events.specs.declared.entry.Job.{Job}
use Rattle.s7_events.specs.declared.entry.JobArea.{JobArea}
use Rattle.s7_events.specs.declared.entry.JobArea.TheVariants as job_areas
use Rattle.cpu_image.specs.declared.area.ByteArea.{ByteArea}
use Rattle.cpu_image.specs.declared.area.ByteArea.TheVariants as areas
use Rattle.cpu_image.specs.Image as image
use Rattle.cpu_image.specs.Pages as pages
use Rattle.statement_effects.specs.State.{Memory}

-- the area of a job
abbrev pub job_area : JobArea → ByteArea
job_area job_areas.M = areas.M
job_area (job_areas.Db number) = areas.Db number

-- the area is a data block of a number above 255, which none has
abbrev pub IsNoBlock : JobArea → Type 0
IsNoBlock job_areas.M = ⊥
IsNoBlock (job_areas.Db number) = 256 ≤ number

-- how many bytes the area of a job has, if it is there
abbrev pub job_length : Memory → Job → Option ℕ
job_length memory job = option_map (λ (bytes : List ℕ). length bytes) (image.bytes_of memory.image (job_area job.area))

-- the memory after its bytes were written
abbrev pub job_written : Memory → Job → Memory
job_written memory job =
    record memory { image = pages.value_written (job_area job.area) job.at_byte job.width job.value memory.image }

-- the value that its bytes have
abbrev pub job_value : Memory → Job → ℕ
job_value memory job = image.value_at memory.image (job_area job.area) job.at_byte job.width

-- a write job writes its value, and answers it; a read job answers the value that is there
abbrev pub job_made : Memory → Job → Memory × Option ℕ
job_made memory job = if job.write then (job_written memory job, Some job.value) else (memory, Some (job_value memory job))

-- the same where the area is there and has all its bytes; else nothing changes, and no value is answered
abbrev pub job_in : Memory → Job → Option ℕ → Memory × Option ℕ
job_in memory job None = (memory, None)
job_in memory job (Some length) = if nat_le (job.at_byte + job.width) length then job_made memory job else (memory, None)

-- what a job does, and what it answers
abbrev pub job_done : Memory → Job → Memory × Option ℕ
job_done memory job = job_in memory job (job_length memory job)

-- the bytes of a job are there
abbrev pub IsThere : Memory → Job → Type 0
IsThere memory job = job.at_byte + job.width ≤ length (image.area_bytes memory.image (job_area job.area))
