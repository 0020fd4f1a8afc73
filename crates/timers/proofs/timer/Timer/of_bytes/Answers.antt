-- The timer is that of the bytes, so that written again it gives them.
use Rattle.std.proofs.Common.{ℕ, get_or, eqb, rules}
use Rattle.timers.specs.State.{TimerState}
use Rattle.timers.proofs.BytesLaws.{bytes_of-read}
use Rattle.timers.proofs.timer.Timer.of_bytes.Goals as goal

pub returns-clause-bytes : goal.returns-clause-bytes
returns-clause-bytes c =
    let byte : ℕ → ℕ = λ i. get_or c.args.bytes.now i 0 in
    let timer : TimerState = record {
      kind = c.numbered.result;
      running = eqb (byte 1) 1;
      start = c.from_be_bytes.result;
      preset = record { base = byte 10; units = c.from_be_bytes-units.result };
      mem = eqb (byte 13) 1;
      input = eqb (byte 14) 1;
      fr_mem = eqb (byte 15) 1;
    } in
    bytes_of-read c.args.bytes.now timer (search rules) (search rules) (search rules) c.requires
