-- A text that is written in pieces, one after another.
use Rattle.std.proofs.Common.{◌≡◌, List, [], ◌++◌, ℕ, Result, Ok, Err, IsErr, refl, sym, ◌∙◌, ap, subst, append_assoc}
use Rattle.std.proofs.lemmas.List.{append-nil}
use Rattle.pair_io.specs.Writes.{SinkState, Writes}
use Rattle.pair_io.proofs.Writing.{writes_nothing, writes_both, writes_front}
use Rattle.trace_printer.specs.declared.writing.SinkFault.{SinkFault}

-- what an `Ok` holds says nothing of the text
of_ok : {T U : Type 0} (a b : SinkState) (x : T) (y : U) (text : List ℕ)
    → Writes {T = T} {E = SinkFault} a b text (Ok x) → Writes {T = U} {E = SinkFault} a b text (Ok y)
of_ok a b x y text wrote = record { ok = wrote.ok; err = tt; cause = wrote.cause; kept = λ more promised. (refl, (wrote.kept more promised).1) }

-- nor does what an `Err` holds
of_err : {T U : Type 0} (a b : SinkState) (e f : SinkFault) (text : List ℕ)
    → Writes {T = T} {E = SinkFault} a b text (Err e) → Writes {T = U} {E = SinkFault} a b text (Err f)
of_err a b e f text wrote = record { ok = tt; err = wrote.err; cause = wrote.cause; kept = λ more promised. absurd (let refused = (wrote.kept more promised).0 in cc) }

-- a piece was written, and then the rest of the text, or a front of it
pub goes_on : {T U : Type 0} {a b c : SinkState} {x : T} {r : Result U SinkFault} {line piece rest : List ℕ} → line ≡ piece
    → Writes {T = T} {E = SinkFault} a b line (Ok x) → Writes b c rest r → Writes a c (piece ++ rest) r
goes_on {T} {U} {a} {b} {c} {x} {r} {line} {piece} {rest} is wrote then =
    writes_both a b c x r piece rest (subst (λ (l : List ℕ). Writes {T = T} {E = SinkFault} a b l (Ok x)) is wrote) then

-- the sink failed in a piece
pub halts : {T U : Type 0} {a b : SinkState} {e : SinkFault} {r : Result U SinkFault} {line piece : List ℕ} (rest : List ℕ) → IsErr r → line ≡ piece
    → Writes {T = T} {E = SinkFault} a b line (Err e) → Writes a b (piece ++ rest) r
halts {r = Ok x} rest failed is wrote = absurd (cc)
halts {T = T} {a = a} {b = b} {e = e} {r = Err f} {piece = piece} rest failed is wrote =
    writes_front {T = T} a b f piece rest (of_err a b e f piece (subst (λ (l : List ℕ). Writes {T = T} {E = SinkFault} a b l (Err e)) is wrote))

-- the last piece was written, or a front of it
pub closes : {T : Type 0} {a b : SinkState} {r : Result T SinkFault} {line piece : List ℕ} → line ≡ piece
    → Writes a b line r → Writes a b piece r
closes {T} {a} {b} {r} is wrote = subst (λ (l : List ℕ). Writes a b l r) is wrote

-- of the whole text a front was written, and the rest is left
pub record IsLeft (a b : SinkState) (whole rest : List ℕ) : Type 0 where
  pub front : List ℕ
  pub splits : front ++ rest ≡ whole
  pub wrote : Writes {T = Unit {0}} {E = SinkFault} a b front (Ok tt)

pub all_left : (a : SinkState) (whole : List ℕ) → IsLeft a a whole whole
all_left a whole = record { front = []; splits = refl; wrote = writes_nothing a tt }

-- the next piece was written
pub less_left : {T : Type 0} (a b c : SinkState) (x : T) (whole rest piece next : List ℕ) → rest ≡ piece ++ next
    → IsLeft a b whole rest → Writes {T = T} {E = SinkFault} b c piece (Ok x) → IsLeft a c whole next
less_left a b c x whole rest piece next is left wrote = record {
  front = left.front ++ piece;
  splits = append_assoc left.front piece next ∙ ap (λ (l : List ℕ). left.front ++ l) (sym is) ∙ left.splits;
  wrote = writes_both a b c tt (Ok tt) left.front piece left.wrote (of_ok b c x tt piece wrote);
}

-- the sink failed in the next piece
pub stops : {T U : Type 0} (a b c : SinkState) (e : SinkFault) (r : Result U SinkFault) (whole rest piece next : List ℕ) → IsErr r → rest ≡ piece ++ next
    → IsLeft a b whole rest → Writes {T = T} {E = SinkFault} b c piece (Err e) → Writes a c whole r
stops a b c e (Ok x) whole rest piece next failed is left wrote = absurd (cc)
stops {T} {U} a b c e (Err f) whole rest piece next failed is left wrote =
    let whole_is : left.front ++ (piece ++ next) ≡ whole = ap (λ (l : List ℕ). left.front ++ l) (sym is) ∙ left.splits in
    subst (λ (l : List ℕ). Writes {T = U} {E = SinkFault} a c l (Err f)) (append_assoc left.front piece next ∙ whole_is)
    (writes_front {T = U} a c f (left.front ++ piece) next (writes_both a b c tt (Err f) left.front piece left.wrote (of_err b c e f piece wrote)))

-- nothing is left
pub nothing_left : {T : Type 0} (a b : SinkState) (x : T) (whole rest : List ℕ) → rest ≡ []
    → IsLeft a b whole rest → Writes {T = T} {E = SinkFault} a b whole (Ok x)
nothing_left a b x whole rest none left =
    let whole_is : left.front ≡ whole = sym (append-nil left.front) ∙ ap (λ (l : List ℕ). left.front ++ l) (sym none) ∙ left.splits in
    of_ok a b tt x whole (subst (λ (l : List ℕ). Writes {T = Unit {0}} {E = SinkFault} a b l (Ok tt)) whole_is left.wrote)
