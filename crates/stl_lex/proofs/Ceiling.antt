-- Values are told apart only up to a ceiling.
use Rattle.std.proofs.Common.{◌≡◌, ◌≤◌, ◌<◌, ◌+◌, ◌*◌, ◌==◌, cond, ℕ, zero, suc, List, [], ◌∷◌, Bool, true, false, min, drop, refl, ap, arith, ◌∙◌}
use Rattle.std.specs.Prelude.{nat_le}
use Rattle.std.proofs.lemmas.Bool.Decides.{nat_tests}
use Rattle.std.proofs.Math.Nat.{mul-le-mul_left}
use Rattle.stl_lex.specs.declared.fault.TokenFault.TheVariants.{OutOfRange}
use Rattle.stl_lex.specs.declared.piece.TokenKind.{TokenKind}
use Rattle.stl_lex.specs.declared.piece.Form.TheVariants.{Lexeme, Bad}
use Rattle.stl_lex.specs.Literals.{ranged}
use Rattle.stl_lex.specs.Numerals.{digit, and_byte, value_from}
use Rattle.stl_lex.specs.declared.durations.TimeUnit.{TimeUnit}
use Rattle.stl_lex.specs.Durations.{part_length, part_value, time_from}

more : (base v w ceiling d : ℕ) → 0 < base → min v ceiling ≡ min w ceiling → min (v * base + d) ceiling ≡ min (w * base + d) ceiling
more base v w ceiling d some same =
    let one : 1 ≤ base = omega arith in
    let grows : v * 1 ≤ v * base = mul-le-mul_left v one in
    let other : w * 1 ≤ w * base = mul-le-mul_left w one in
    grind (arith, one, grows, other)

same_byte : (base v w ceiling b : ℕ) → 0 < base → min v ceiling ≡ min w ceiling → min (and_byte base v b) ceiling ≡ min (and_byte base w b) ceiling
same_byte base v w ceiling b some same = by (b == 95)
  where
    by : (t : Bool) → min (cond t v (v * base + digit b)) ceiling ≡ min (cond t w (w * base + digit b)) ceiling
    by true = same
    by false = more base v w ceiling (digit b) some same

same_value : (base v w ceiling : ℕ) (ds : List ℕ) → 0 < base → min v ceiling ≡ min w ceiling → min (value_from base v ds) ceiling ≡ min (value_from base w ds) ceiling
same_value base v w ceiling [] some same = same
same_value base v w ceiling (b ∷ bs) some same =
    same_value base (and_byte base v b) (and_byte base w b) ceiling bs some (same_byte base v w ceiling b some same)

-- a value that is cut at the ceiling goes on as the value itself
pub cut_value : (base v w ceiling : ℕ) (ds : List ℕ) → 0 < base → w ≡ min v ceiling → min (value_from base w ds) ceiling ≡ min (value_from base v ds) ceiling
cut_value base v w ceiling ds some e = same_value base w v ceiling ds some (omega arith)

-- a product of a value that is cut
pub cut_product : (v w ceiling m : ℕ) → w ≡ min v ceiling → min (w * m) ceiling ≡ min (v * m) ceiling
cut_product v w ceiling zero e = let same : w * 0 ≡ v * 0 = omega arith in rw same refl
cut_product v w ceiling (suc m) e =
    let same : min w ceiling ≡ min v ceiling = omega arith in
    let positive : 0 < suc m = omega arith in
    let h : min (w * suc m + 0) ceiling ≡ min (v * suc m + 0) ceiling = more (suc m) w v ceiling 0 positive same in
    omega arith

same_time : (s t ceiling : ℕ) (units : List TimeUnit) (bytes : List ℕ) → min s ceiling ≡ min t ceiling → min (time_from s units bytes) ceiling ≡ min (time_from t units bytes) ceiling
same_time s t ceiling [] bytes same = same
same_time s t ceiling (u ∷ us) bytes same =
    same_time (s + part_value u bytes) (t + part_value u bytes) ceiling us (drop (part_length u bytes) bytes) (omega arith)

-- a time that is cut at the ceiling goes on as the time itself
pub cut_time : (s t ceiling : ℕ) (units : List TimeUnit) (bytes : List ℕ) → s ≡ min t ceiling → min (time_from s units bytes) ceiling ≡ min (time_from t units bytes) ceiling
cut_time s t ceiling units bytes e = same_time s t ceiling units bytes (omega arith)

-- one more part of a duration
pub more_time : (s t v n ceiling all : ℕ) (u : TimeUnit) (units : List TimeUnit) (bytes rest : List ℕ) → v ≡ min (part_value u bytes) ceiling → s ≡ min (t + v) ceiling → n ≡ part_length u bytes → rest ≡ drop n bytes → min (time_from t (u ∷ units) bytes) ceiling ≡ all → min (time_from s units rest) ceiling ≡ all
more_time s t v n ceiling all u units bytes rest value sum count behind here =
    rw (behind, count) (cut_time s (t + part_value u bytes) ceiling units (drop (part_length u bytes) bytes) (omega arith) ∙ here)

-- a value that is cut at the ceiling is within a range below it where the value itself is
pub cut_range : (kind : TokenKind) (most v w ceiling : ℕ) → w ≡ min v ceiling → most < ceiling → ranged kind most w ≡ ranged kind most v
cut_range kind most v w ceiling e below =
    let same : nat_le w most ≡ nat_le v most = grind (arith, nat_tests) in
    ap (λ t. cond t (Lexeme kind) (Bad OutOfRange)) same
