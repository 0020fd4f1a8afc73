-- What a job does where its bytes are there, and where they are not.
use Rattle.std.proofs.Common.{◌≡◌, ℕ, ◌+◌, ◌*◌, ◌^◌, ◌<◌, ◌≤◌, List, length, IsTrue, Option, Some, None, sym, ap, arith}
use Rattle.std.specs.Option.{option_map}
use Rattle.std.proofs.lemmas.List.{get_or_past}
use Rattle.s7_events.specs.declared.entry.Job.{Job}
use Rattle.s7_events.specs.declared.entry.JobArea.{JobArea}
use Rattle.s7_events.specs.declared.entry.JobArea.TheVariants as job_areas
use Rattle.s7_events.specs.Fitting.{is_job}
use Rattle.cpu_image.specs.Values.{IsWidth}
use Rattle.cpu_image.specs.Image.{Image, bytes_in, bytes_of}
use Rattle.cpu_image.specs.Pages.{HasSizes}
use Rattle.statement_effects.specs.State.{Memory}
use Rattle.statement_effects.specs.JobEffect.{job_area, IsNoBlock, job_length, job_in, job_done, IsThere}

-- a job has 1, 2 or 4 bytes
pub job_width : (job : Job) → IsTrue (is_job job) → IsWidth job.width
job_width job is = grind arith

-- its value lies in them
pub job_fits : (job : Job) → IsTrue (is_job job) → job.value < 2 ^ (8 * job.width)
job_fits job is = grind arith

-- one of a data block whose number is above 255 finds none
no_bytes : (image : Image) (area : JobArea) → HasSizes image → IsNoBlock area → bytes_of image (job_area area) ≡ None
no_bytes image job_areas.M sizes above = absurd above
no_bytes image (job_areas.Db number) sizes above = let few = sizes.data_blocks in get_or_past image.data_blocks number None (omega arith)

pub job_without_block : (memory : Memory) (job : Job) → HasSizes memory.image → IsNoBlock job.area → job_done memory job ≡ (memory, None)
job_without_block memory job sizes above =
    ap (λ (o : Option (List ℕ)). job_in memory job (option_map (λ (bytes : List ℕ). length bytes) o)) (no_bytes memory.image job.area sizes above)

there_in : (o : Option (List ℕ)) (n : ℕ) → option_map (λ (bytes : List ℕ). length bytes) o ≡ Some n → length (bytes_in o) ≡ n
there_in None n e = absurd cc
there_in (Some bytes) n e = cc

-- the bytes are there where the area is long enough
pub job_there : (memory : Memory) (job : Job) (n : ℕ) → Some n ≡ job_length memory job → job.at_byte + job.width ≤ n → IsThere memory job
job_there memory job n e enough =
    let same = there_in (bytes_of memory.image (job_area job.area)) n (sym e) in omega arith
