-- The bytes of a timer, read again, are the timer; and bytes of a timer, written again, are those bytes.
use Rattle.std.proofs.Common.{◌≡◌, ℕ, ◌+◌, ◌^◌, ◌<◌, ◌≤◌, List, Bool, true, false, length, get_or, refl, sym, ap, ◌∙◌, eqb, arith, zero, suc, [], ◌∷◌, ◌++◌, take, drop, length-take, length-drop, drop-cons, lit<}
use Rattle.std.proofs.lemmas.List.{take-append-drop, drop-drop, get_or-drop}
use Rattle.std.specs.Int.{w16, w64, to_be_bytes, from_be_bytes}
use Rattle.std.proofs.lemmas.Nat.{from_be_bytes-to_be_bytes_2, from_be_bytes-to_be_bytes_8, be_bytes_2, be_bytes_8}
use Rattle.instruction_set.specs.declared.operation.TimerKind.{TimerKind}
use Rattle.instruction_set.specs.declared.operation.TimerKind.TheVariants.{Sp, Se, Sd, Ss, Sf}
use Rattle.timers.specs.State.{TimerState}
use Rattle.timers.specs.Bytes.{number_of, kind_of, flag, bytes_of, timer_of, IsTimer}

-- a kind by its number
pub kind_of-number_of : (k : TimerKind) → kind_of (number_of k) ≡ k
kind_of-number_of Sp = refl
kind_of-number_of Se = refl
kind_of-number_of Sd = refl
kind_of-number_of Ss = refl
kind_of-number_of Sf = refl

-- a truth value by its byte
pub eqb-flag : (b : Bool) → eqb (flag b) 1 ≡ b
eqb-flag true = refl
eqb-flag false = refl

-- timers with equal fields are equal
same_timer : {k k' : TimerKind} {r r' m m' i i' f f' : Bool} {s s' b b' u u' : ℕ}
    → k ≡ k' → r ≡ r' → s ≡ s' → b ≡ b' → u ≡ u' → m ≡ m' → i ≡ i' → f ≡ f'
    → ◌≡◌ {A = TimerState}
    (record { kind = k; running = r; start = s; preset = record { base = b; units = u }; mem = m; input = i; fr_mem = f })
    (record { kind = k'; running = r'; start = s'; preset = record { base = b'; units = u' }; mem = m'; input = i'; fr_mem = f' })
same_timer ek er es eb eu em ei ef = cc

-- the bytes of a timer, read again, are the timer
pub timer_of-bytes_of : (t : TimerState) → t.start < 2 ^ 64 → t.preset.units < 2 ^ 16 → timer_of (bytes_of t) ≡ t
timer_of-bytes_of t s u =
    same_timer (kind_of-number_of t.kind) (eqb-flag t.running) (from_be_bytes-to_be_bytes_8 t.start s) refl
    (from_be_bytes-to_be_bytes_2 t.preset.units u) (eqb-flag t.mem) (eqb-flag t.input) (eqb-flag t.fr_mem)

-- bytes that are those of a timer, read again, are the timer
pub timer_of-written : (bytes : List ℕ) (t : TimerState) → bytes ≡ bytes_of t → t.start < 2 ^ 64 → t.preset.units < 2 ^ 16 → timer_of bytes ≡ t
timer_of-written bytes t e s u = ap timer_of e ∙ timer_of-bytes_of t s u

-- a number up to 4 by its kind
pub number_of-kind_of : (n : ℕ) → n ≤ 4 → number_of (kind_of n) ≡ n
number_of-kind_of zero h = refl
number_of-kind_of (suc zero) h = refl
number_of-kind_of (suc (suc zero)) h = refl
number_of-kind_of (suc (suc (suc zero))) h = refl
number_of-kind_of (suc (suc (suc (suc n)))) h = omega arith

-- a number up to 1 by its truth value
pub flag-eqb : (n : ℕ) → n ≤ 1 → flag (eqb n 1) ≡ n
flag-eqb zero h = refl
flag-eqb (suc zero) h = refl
flag-eqb (suc (suc n)) h = absurd (omega arith)

-- the elements of a front of bytes are bytes
take_below : (n : ℕ) (bs : List ℕ) (i : ℕ) → ((j : ℕ) → get_or bs j 0 < 256) → get_or (take n bs) i 0 < 256
take_below zero bs i b = lit< tt
take_below (suc n) [] i b = lit< tt
take_below (suc n) (x ∷ bs) zero b = b 0
take_below (suc n) (x ∷ bs) (suc i) b = take_below n bs i (λ j. b (suc j))

-- the elements of a piece of bytes are bytes
piece_below : (n m : ℕ) (bs : List ℕ) (i : ℕ) → ((j : ℕ) → get_or bs j 0 < 256) → get_or (take n (drop m bs)) i 0 < 256
piece_below n m bs i b = take_below n (drop m bs) i (λ j. rw get_or-drop (b (m + j)))

-- 24 bytes by their fields
by_fields : (bs : List ℕ) → length bs ≡ 24 →
    get_or bs 0 0 ∷ get_or bs 1 0 ∷ (take 8 (drop 2 bs) ++ (get_or bs 10 0 ∷ (take 2 (drop 11 bs)
    ++ (get_or bs 13 0 ∷ get_or bs 14 0 ∷ get_or bs 15 0 ∷ drop 16 bs)))) ≡ bs
by_fields bs n =
    let b0 = drop-cons bs 0 0 (omega arith) in
    let b1 = drop-cons bs 1 0 (omega arith) in
    let start : take 8 (drop 2 bs) ++ drop 10 bs ≡ drop 2 bs =
    ap (λ l. take 8 (drop 2 bs) ++ l) (sym (drop-drop 8 2 bs)) ∙ take-append-drop 8 (drop 2 bs) in
    let b10 = drop-cons bs 10 0 (omega arith) in
    let units : take 2 (drop 11 bs) ++ drop 13 bs ≡ drop 11 bs =
    ap (λ l. take 2 (drop 11 bs) ++ l) (sym (drop-drop 2 11 bs)) ∙ take-append-drop 2 (drop 11 bs) in
    let b13 = drop-cons bs 13 0 (omega arith) in
    let b14 = drop-cons bs 14 0 (omega arith) in
    let b15 = drop-cons bs 15 0 (omega arith) in
    cc

-- equal fields give equal bytes
same_bytes : {k k' r r' b b' m m' i i' f f' : ℕ} {s s' u u' z z' : List ℕ}
    → k ≡ k' → r ≡ r' → s ≡ s' → u ≡ u' → m ≡ m' → i ≡ i' → f ≡ f' → z ≡ z' → b ≡ b'
    → k ∷ r ∷ (s ++ (b ∷ (u ++ (m ∷ i ∷ f ∷ z)))) ≡ k' ∷ r' ∷ (s' ++ (b' ∷ (u' ++ (m' ∷ i' ∷ f' ∷ z'))))
same_bytes ek er es eu em ei ef ez eb = cc

-- the bytes of a timer, read and written again, are those bytes
pub bytes_of-timer_of : (bs : List ℕ) → length bs ≡ 24 → ((j : ℕ) → get_or bs j 0 < 256) → IsTimer bs → bytes_of (timer_of bs) ≡ bs
bytes_of-timer_of bs n b t =
    let start : to_be_bytes w64 (from_be_bytes w64 (take 8 (drop 2 bs))) ≡ take 8 (drop 2 bs) =
    be_bytes_8 (take 8 (drop 2 bs)) _ (simp (length-take, length-drop) (omega arith)) (λ i. piece_below 8 2 bs i b) refl in
    let units : to_be_bytes w16 (from_be_bytes w16 (take 2 (drop 11 bs))) ≡ take 2 (drop 11 bs) =
    be_bytes_2 (take 2 (drop 11 bs)) _ (simp (length-take, length-drop) (omega arith)) (λ i. piece_below 2 11 bs i b) refl in
    same_bytes (number_of-kind_of _ t.kind) (flag-eqb _ t.running) start units (flag-eqb _ t.mem) (flag-eqb _ t.input)
    (flag-eqb _ t.fr_mem) (sym t.rest) refl
    ∙ by_fields bs n

-- a timer that was read of its bytes, written again, gives those bytes
pub bytes_of-read : (bs : List ℕ) (t : TimerState) → t ≡ timer_of bs → length bs ≡ 24 → ((j : ℕ) → get_or bs j 0 < 256) → IsTimer bs → bytes_of t ≡ bs
bytes_of-read bs t e n b h = ap bytes_of e ∙ bytes_of-timer_of bs n b h
