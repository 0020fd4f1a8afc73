-- A block begins exactly where there is depth and local data for it.
use Rattle.std.proofs.Common.{◌≡◌, ℕ, ◌+◌, ◌<◌, ◌≤◌, length, Result, Ok, Err, inl, inr, refl, sym, ap, arith}
use Rattle.std.specs.Prelude.{◌↔◌}
use Rattle.std.proofs.lemmas.Bool.{cases_lt, eq-eqb, ne_eqb, lt-ltb, le-ltb}
use Rattle.s7_base.specs.declared.blocks.BlockRef.{BlockRef}
use Rattle.level_stack.specs.declared.level.LevelFault.{LevelFault}
use Rattle.level_stack.specs.declared.level.LevelFault.TheVariants.{DepthReached, LocalFull}
use Rattle.level_stack.specs.Levels.{running_frames, local_count}
use Rattle.statement_effects.specs.State.{Memory}
use Rattle.statement_effects.specs.Levels.{with_block, entered}

-- how many blocks have begun on the level that runs, and how many local bytes they have
abbrev depth : Memory → ℕ
depth m = length (running_frames m.levels)

abbrev locals : Memory → ℕ
locals m = local_count (running_frames m.levels)

module _ {A : Type 0} where
  pub begins_below : (m : Memory) (bytes : ℕ) (a : A) → ((Ok a ≡ Err DepthReached) ↔ (depth m ≡ 24)) → depth m ≤ 24 → depth m < 24
  begins_below m bytes a deep few = elim (cases_lt (depth m) 24) [
    | inl lt ↦ lt
    | inr ge ↦ let no : Ok a ≡ Err DepthReached = deep.1 (omega arith) in absurd cc
  ]

  pub begins : (m m' : Memory) (block : BlockRef) (bytes : ℕ) (a : A) → ((Ok a ≡ Err DepthReached) ↔ (depth m ≡ 24)) → ((Ok a ≡ Err LocalFull) ↔ ((depth m < 24) × (256 < locals m + bytes))) → depth m ≤ 24 → m' ≡ with_block m block bytes → entered m block bytes ≡ Ok m'
  begins m m' block bytes a deep full few e =
      let below = begins_below m bytes a deep few in
      elim (cases_lt 256 (locals m + bytes)) [
        | inl gt ↦ let no : Ok a ≡ Err LocalFull = full.1 (below, gt) in absurd cc
        | inr le ↦ rw (ne_eqb (depth m) 24 (λ same. omega arith), le-ltb 256 (locals m + bytes) le) (ap Ok (sym e))
      ]

  pub refuses : (m : Memory) (block : BlockRef) (bytes : ℕ) (r : Result A LevelFault) (fault : LevelFault) → r ≡ Err fault → ((r ≡ Err DepthReached) ↔ (depth m ≡ 24)) → ((r ≡ Err LocalFull) ↔ ((depth m < 24) × (256 < locals m + bytes))) → entered m block bytes ≡ Err fault
  refuses m block bytes r DepthReached e deep full = rw (eq-eqb (depth m) 24 (deep.0 e)) refl
  refuses m block bytes r LocalFull e deep full =
      let h = full.0 e in
      let below = h.0 in
      rw (ne_eqb (depth m) 24 (λ same. omega arith), lt-ltb 256 (locals m + bytes) h.1) refl
