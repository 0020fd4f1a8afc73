-- The ranges of what lines say.
use Rattle.std.specs.Prelude.{◌≡◌, ℕ, ◌≤◌, ◌<◌, ◌+◌, ◌*◌, ◌^◌, false, IsTrue, ◌||◌, ◌==◌}
use Rattle.s7_events.specs.declared.entry.Job.{Job}
use Rattle.s7_events.specs.declared.entry.JobArea.{JobArea}
use Rattle.s7_events.specs.declared.entry.JobArea.TheVariants.{M, Db}
use Rattle.plant_script.specs.declared.plan.Module.{Module}
use Rattle.plant_script.specs.declared.plan.What.{What}
use Rattle.plant_script.specs.declared.plan.What.TheVariants.{Input, Alarm, Job as IsJob, Fail, Return, Suspect}
use Rattle.plant_script.specs.declared.lines.Line.{Line}
use Rattle.plant_script.specs.declared.lines.Line.TheVariants.{Skipped, Module as IsModuleLine, At, End}
use Rattle.plant_script.specs.Lines.{is_alarm_ob}

-- a module of 1 to 64 bytes, all below byte 1,024
pub record IsModule (m : Module) : Type 0 where
  pub some : 1 ≤ m.len
  pub few : m.len ≤ 64
  pub within : m.at_byte + m.len ≤ 1024

-- a width of bytes
abbrev pub IsWidth : ℕ → Type 0
IsWidth width = IsTrue (width == 1 || width == 2 || width == 4)

-- a number of 16 bits where it is that of a data block
abbrev pub IsArea : JobArea → Type 0
IsArea M = Unit {0}
IsArea (Db block) = block ≤ 65535

-- a target, as a job that reads it
pub record IsTarget (job : Job) : Type 0 where
  pub read : job.write ≡ false
  pub zero_value : job.value ≡ 0
  pub width : IsWidth job.width
  pub area : IsArea job.area
  pub at_byte : job.at_byte ≤ 65535

-- a job whose value has two digits for each byte of its target; one that reads has none
pub record IsJobForm (job : Job) : Type 0 where
  pub width : IsWidth job.width
  pub area : IsArea job.area
  pub at_byte : job.at_byte ≤ 65535
  pub value : job.value < 16 ^ (2 * job.width)
  pub read : job.write ≡ false → job.value ≡ 0

-- what is said is in its ranges
abbrev pub IsWritten : What → Type 0
IsWritten (Input at_byte side value) = value < 256
IsWritten (Alarm ob info) = IsTrue (is_alarm_ob ob) × (info < 2 ^ 32)
IsWritten (IsJob job) = IsJobForm job
IsWritten (Fail side late) = Unit {0}
IsWritten (Return side fresh) = fresh ≡ false
IsWritten (Suspect side pass) = Unit {0}

-- the same of a line
abbrev pub IsLine : Line → Type 0
IsLine Skipped = Unit {0}
IsLine (IsModuleLine m) = IsModule m
IsLine (At what) = IsWritten what
IsLine End = Unit {0}
