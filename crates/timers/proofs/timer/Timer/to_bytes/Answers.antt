-- The bytes are those of the timer, so that read again they are the timer.
use Rattle.std.proofs.Common.{ℕ, List, [], ◌∷◌, get_or, rules}
use Rattle.timers.proofs.BytesLaws.{timer_of-written}
use Rattle.timers.proofs.timer.Timer.to_bytes.Goals as goal

pub returns-clause-value : goal.returns-clause-value
returns-clause-value c =
    let start : ℕ → ℕ = λ i. get_or c.to_be_bytes-2.result i 0 in
    let units : ℕ → ℕ = λ i. get_or c.to_be_bytes.result i 0 in
    let bytes : List ℕ =
    c.number-kind.result ∷ c.from-running.result ∷ start 0 ∷ start 1 ∷ start 2 ∷ start 3 ∷ start 4 ∷ start 5 ∷ start 6
    ∷ start 7 ∷ c.preset.inside.base ∷ units 0 ∷ units 1 ∷ c.from-mem.result ∷ c.from-input.result
    ∷ c.from-fr_mem.result ∷ 0 ∷ 0 ∷ 0 ∷ 0 ∷ 0 ∷ 0 ∷ 0 ∷ 0 ∷ [] in
    timer_of-written bytes c.args.self.now (search rules) (search rules) (search rules)
