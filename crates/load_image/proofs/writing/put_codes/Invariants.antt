use Rattle.std.proofs.Common.{take}
use Rattle.load_image.specs.Image.{code_body, code_entry, IsStoredCode}
use Rattle.load_image.proofs.Steps.{IsPut}
use Rattle.load_image.proofs.writing.put_codes.Given as goal

abbrev pub invariant-loop-code : goal.invariant-loop-code
invariant-loop-code l =
    IsPut code_body code_entry IsStoredCode l.first l.fn.directory.items l.fn.bodies.items l.directory.items l.bodies.items
    (take l.code-index l.codes)
