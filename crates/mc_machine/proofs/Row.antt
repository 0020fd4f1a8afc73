-- The definitions, computed.
use Rattle.std.proofs.Common.{◌≡◌, refl}
use Rattle.instruction_set.specs.Rows.{row_of}
use Rattle.mc_machine.specs.Meaning.{asked, body, body_within}
use Rattle.mc_machine.specs.Rung.{rung, rung_answers, rung_requests}

pub rung_asks : asked rung rung_answers ≡ rung_requests
unfolding body body_within row_of
rung_asks = refl
