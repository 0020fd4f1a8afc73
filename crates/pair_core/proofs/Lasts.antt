-- What the last entry of a record says.
use Rattle.std.proofs.Common.{◌≡◌, ◌+◌, ◌-◌, Bool, false, List, [], ◌∷◌, ◌++◌, length, refl, ap, sym, arith, length-append, slice_get, Option, Some, None, inl, inr}
use Rattle.std.specs.Prelude.{◌⊎◌}
use Rattle.std.proofs.lemmas.Option.{slice_get_read}
use Rattle.std.proofs.Math.Seq.{get_or-append_seam}
use Rattle.s7_events.specs.declared.entry.Entry.{Entry}
use Rattle.s7_events.specs.declared.entry.StopCode.{StopCode}
use Rattle.pair_core.specs.Stops.{stop_by, stop_from, stop_of}
use Rattle.pair_core.specs.Showings.{is_output}
use Rattle.pair_core.specs.Endings.{is_pending_from, ends_by_output}

-- a list is empty, or has a last entry
pub last_of : {X : Type 0} (xs : List X) → (xs ≡ []) ⊎ ((front : List X) × (last : X) × (xs ≡ front ++ last ∷ []))
last_of [] = inl refl
last_of (x ∷ xs) = elim (last_of xs) [ inl e ↦ inr ([], x, ap (λ t. x ∷ t) e) | inr r ↦ inr (x ∷ r.0, r.1, ap (λ t. x ∷ t) r.2) ]

pub last_snoc : (es : List Entry) (e : Entry) → slice_get (es ++ e ∷ []) (length (es ++ e ∷ []) - 1) ≡ Some e
last_snoc es e =
    let len : length (es ++ e ∷ []) ≡ length es + 1 = length-append es (e ∷ []) in
    slice_get_read (es ++ e ∷ []) (length es + 1) (length (es ++ e ∷ []) - 1) e (sym len) (omega arith)
    (let at : length (es ++ e ∷ []) - 1 ≡ length es = omega arith in rw at (sym (get_or-append_seam es e [] e)))

pub stop_snoc : (before : Option StopCode) (es : List Entry) (e : Entry) → stop_from before (es ++ e ∷ []) ≡ stop_by e.request.ask e.answer
stop_snoc before [] e = refl
stop_snoc before (x ∷ xs) e = stop_snoc (stop_by x.request.ask x.answer) xs e

pub output_snoc : (before : Bool) (es : List Entry) (e : Entry) → is_pending_from before (es ++ e ∷ []) ≡ is_output e
output_snoc before [] e = refl
output_snoc before (x ∷ xs) e = output_snoc (is_output x) xs e

abbrev stop_at : Option Entry → Option StopCode
stop_at None = None
stop_at (Some e) = stop_by e.request.ask e.answer

abbrev output_at : Option Entry → Bool
output_at None = false
output_at (Some e) = is_output e

-- the last entry decides whether the CPU stops
pub stop_last : (es : List Entry) (o : Option Entry) → slice_get es (length es - 1) ≡ o → stop_of es ≡ stop_at o
stop_last es o is = elim (last_of es) [
  | inl e ↦ rw (← is, e)
  | inr r ↦ rw (← is, r.2, last_snoc r.0 r.1) (stop_snoc None r.0 r.1)
]

-- the last entry decides whether the record ends by an output
pub output_last : (es : List Entry) (o : Option Entry) → slice_get es (length es - 1) ≡ o → ends_by_output es ≡ output_at o
output_last es o is = elim (last_of es) [
  | inl e ↦ rw (← is, e)
  | inr r ↦ rw (← is, r.2, last_snoc r.0 r.1) (output_snoc false r.0 r.1)
]
