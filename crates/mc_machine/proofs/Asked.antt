-- What is asked after one answer more.
use Rattle.std.proofs.Common.{◌≡◌, List, [], ◌∷◌, ◌++◌, sym, ap, ◌∙◌, append_assoc, append-nil}
use Rattle.s7_events.specs.declared.entry.Answer.{Answer}
use Rattle.s7_base.specs.Blocks.{Program}
use Rattle.mc_machine.specs.Meaning.{std, next_of, asked_after}

pub asked_push : (program : Program) (before more : List Answer) (x : Answer) → asked_after program before (more ++ x ∷ []) ≡ asked_after program before more ++ next_of (std program (before ++ more)) ∷ []
asked_push program before [] x = ap (λ l. next_of (std program l) ∷ []) (sym (append-nil before))
asked_push program before (y ∷ more) x =
    ap (λ l. next_of (std program before) ∷ l)
    (asked_push program (before ++ y ∷ []) more x
    ∙ ap (λ l. asked_after program (before ++ y ∷ []) more ++ next_of (std program l) ∷ []) (append_assoc before (y ∷ []) more))
