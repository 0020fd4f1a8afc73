use Rattle.std.proofs.Common.{◌≡◌, take}
use Rattle.mc_machine.specs.EngineView.{decoded_codes}
use Rattle.mc_machine.proofs.codes.decoded_codes.Given as goal

abbrev pub invariant-loop-code : goal.invariant-loop-code
invariant-loop-code l = l.decoded.items ≡ decoded_codes (take l.code-index l.codes)
