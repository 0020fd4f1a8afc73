-- What each reading of a record says once one more entry stands.
use Rattle.std.proofs.Common.{◌≡◌, ℕ, suc, ◌+◌, List, [], ◌∷◌, ◌++◌, length, refl, sym, ap, ◌∙◌, arith, Option, Some, None, append_assoc, add-zero}
use Rattle.std.specs.Prelude.{if◌then◌else◌}
use Rattle.std.proofs.lemmas.List.{append-nil, map-append}
use Rattle.s7_events.specs.declared.entry.Side.{Side}
use Rattle.s7_events.specs.declared.entry.Side.TheVariants.{A, B}
use Rattle.s7_events.specs.declared.entry.Entry.{Entry}
use Rattle.pair_core.specs.declared.sides.Sides.{Sides}
use Rattle.pair_core.specs.Setup.{Setup}
use Rattle.pair_core.specs.Ledger.{Ledger, first_ledger, after, ledger_from, ledger, standing}
use Rattle.pair_core.specs.Sides.{same_side, after_answer, of_side, with_side}
use Rattle.pair_core.specs.Stops.{stop_from, stop_of}
use Rattle.pair_core.specs.Lawful.{MayStand, LawfulFrom}
use Rattle.pair_core.specs.Showings.{is_output, showings_of, shown_from}
use Rattle.pair_core.specs.Played.{requests_of, answers_of}
use Rattle.pair_core.specs.World.{shown_past_from, shown_past}
use Rattle.pair_core.specs.Good.{marked_from}

pub shift : (k n : ℕ) → k + suc n ≡ k + 1 + n
shift k n = omega arith

pub ledger_snoc : (p : Setup) (g : Ledger) (es : List Entry) (e : Entry) → ledger_from p g (es ++ e ∷ []) ≡ after p (ledger_from p g es) e
ledger_snoc p g [] e = refl
ledger_snoc p g (x ∷ xs) e = ledger_snoc p (after p g x) xs e

-- the ledger after one more entry
pub ledger_added : (p : Setup) (es : List Entry) (e : Entry) → ledger p (es ++ e ∷ []) ≡ after p (ledger p es) e
ledger_added p es e = ledger_snoc p (first_ledger p) es e

pub standing_snoc : (p : Setup) (es : List Entry) (e : Entry) → standing p (es ++ e ∷ []) ≡ after_answer (standing p es) e.answer
standing_snoc p es e = ap (λ (g : Ledger). g.standing) (ledger_added p es e)

pub moment_from : (p : Setup) (g : Ledger) (es : List Entry) → (ledger_from p g es).moment ≡ g.moment + length es
moment_from p g [] = omega arith
moment_from p g (x ∷ xs) = rw (shift g.moment (length xs)) (moment_from p (after p g x) xs)

-- the moment is the number of the entries
pub moment_is : (p : Setup) (es : List Entry) → (ledger p es).moment ≡ length es
moment_is p es = omega (arith, moment_from p (first_ledger p) es)

stop_from_is : (p : Setup) (g : Ledger) (es : List Entry) → (ledger_from p g es).stop ≡ stop_from g.stop es
stop_from_is p g [] = refl
stop_from_is p g (x ∷ xs) = stop_from_is p (after p g x) xs

-- the last entry decides whether the CPU has stopped
pub stop_is : (p : Setup) (es : List Entry) → (ledger p es).stop ≡ stop_of es
stop_is p es = stop_from_is p (first_ledger p) es

pub shown_past_snoc : (past : ℕ) (xs : List (ℕ × Side)) (x : ℕ × Side) (s : Side)
    → shown_past_from past (xs ++ x ∷ []) s ≡ (if same_side x.1 s then x.0 + 1 else shown_past_from past xs s)
shown_past_snoc past [] x s = refl
shown_past_snoc past (y ∷ ys) x s = shown_past_snoc (if same_side y.1 s then y.0 + 1 else past) ys x s

-- one past the last entry that each side showed, once a side showed entry k
pub past_put : (past : Sides ℕ) (xs : List (ℕ × Side)) (k : ℕ) (s t : Side) → ((v : Side) → of_side past v ≡ shown_past xs v)
    → of_side (with_side past s (k + 1)) t ≡ shown_past (xs ++ (k, s) ∷ []) t
past_put past xs k A A h = sym (shown_past_snoc 0 xs (k, A) A)
past_put past xs k A B h = h B ∙ sym (shown_past_snoc 0 xs (k, A) B)
past_put past xs k B A h = h A ∙ sym (shown_past_snoc 0 xs (k, B) A)
past_put past xs k B B h = sym (shown_past_snoc 0 xs (k, B) B)

pub shown_snoc : (p : Setup) (g : Ledger) (es : List Entry) (e : Entry)
    → shown_from p g (es ++ e ∷ []) ≡ shown_from p g es ++ showings_of p.plan (after_answer (ledger_from p g es).standing e.answer) (g.moment + length es) e
shown_snoc p g [] e = rw (append-nil, add-zero)
shown_snoc p g (x ∷ xs) e =
    rw (shown_snoc p (after p g x) xs e, shift g.moment (length xs))
    (sym (append_assoc (showings_of p.plan (after_answer g.standing x.answer) g.moment x) (shown_from p (after p g x) xs) (showings_of p.plan (after_answer (ledger_from p (after p g x) xs).standing e.answer) (g.moment + 1 + length xs) e)))

pub marked_snoc : (past k : ℕ) (es : List Entry) (e : Entry)
    → marked_from past k (es ++ e ∷ []) ≡ (if is_output e then k + length es + 1 else marked_from past k es)
marked_snoc past k [] e = simp add-zero
marked_snoc past k (x ∷ xs) e = rw (marked_snoc (if is_output x then k + 1 else past) (k + 1) xs e, shift k (length xs))

pub lawful_snoc : (p : Setup) (g : Ledger) (es : List Entry) (e : Entry) → LawfulFrom p g es → MayStand p (ledger_from p g es) e → LawfulFrom p g (es ++ e ∷ [])
lawful_snoc p g [] e h m = (m, tt)
lawful_snoc p g (x ∷ xs) e h m = (h.0, lawful_snoc p (after p g x) xs e h.1 m)

pub answers_snoc : (es : List Entry) (e : Entry) → answers_of (es ++ e ∷ []) ≡ answers_of es ++ e.answer ∷ []
answers_snoc es e = map-append (λ (x : Entry). x.answer) es (e ∷ [])

pub requests_snoc : (es : List Entry) (e : Entry) → requests_of (es ++ e ∷ []) ≡ requests_of es ++ Some e.request ∷ []
requests_snoc es e = map-append (λ (x : Entry). Some x.request) es (e ∷ [])
