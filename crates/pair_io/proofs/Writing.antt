-- Texts that are written one after another.
use Rattle.std.proofs.Common.{ℕ, ◌+◌, List, [], ◌++◌, length, Option, Some, None, Result, Ok, Err, refl, sym, ◌∙◌, ap, subst, zero-add, add_assoc, length-append}
use Rattle.std.proofs.lemmas.List.{append-nil}
use Rattle.std.specs.Io.KnownBytes.{Appends}
use Rattle.pair_io.specs.Writes.{SinkState, Writes}
use Rattle.pair_io.specs.Causes.{Counts}
use Rattle.pair_io.proofs.Fronts.{appends_both, appends_front_both, appends_front_longer}

appends_nothing : (a : Option (List ℕ)) → Appends a a []
appends_nothing None = tt
appends_nothing (Some bytes) = sym (append-nil bytes)

-- a promise for two texts is one for the first, and then for the second
promise_both : (P : ℕ → Type 0) (xs ys : List ℕ) (more : ℕ) → P (length (xs ++ ys) + more) → P (length xs + (length ys + more))
promise_both P xs ys more =
    subst P (ap (λ (n : ℕ). n + more) (length-append xs ys) ∙ add_assoc (length xs) (length ys) more)

-- nothing was written
pub writes_nothing : {T E : Type 0} (a : SinkState) (x : T) → Writes {T = T} {E = E} a a [] (Ok x)
writes_nothing a x = record {
  ok = appends_nothing a.written;
  err = tt;
  cause = refl;
  kept = λ more promised. (refl, subst a.takes (zero-add more) promised);
}

-- one text, and then another, or a front of it
pub writes_both : {T U E : Type 0} (a b c : SinkState) (x : T) (r : Result U E) (xs ys : List ℕ)
    → Writes {T = T} {E = E} a b xs (Ok x) → Writes b c ys r → Writes a c (xs ++ ys) r
writes_both a b c x (Ok y) xs ys first then = record {
  ok = appends_both a.written b.written c.written xs ys first.ok then.ok;
  err = tt;
  cause = then.cause ∙ first.cause;
  kept = λ more promised. then.kept more (first.kept (length ys + more) (promise_both a.takes xs ys more promised)).1;
}
writes_both {T} {U} {E} a b c x (Err e) xs ys first then = let r : Result U E = Err e in record {
  ok = tt;
  err = appends_front_both a.written b.written c.written xs ys first.ok then.err;
  cause = subst (λ (n : ℕ). Counts n c.faults r) first.cause then.cause;
  kept = λ more promised. then.kept more (first.kept (length ys + more) (promise_both a.takes xs ys more promised)).1;
}

-- a front of a text is a front of a longer one
pub writes_front : {T U E : Type 0} (a c : SinkState) (e : E) (xs rest : List ℕ)
    → Writes {T = T} {E = E} a c xs (Err e) → Writes {T = U} {E = E} a c (xs ++ rest) (Err e)
writes_front a c e xs rest front = record {
  ok = tt;
  err = appends_front_longer a.written c.written xs rest front.err;
  cause = front.cause;
  kept = λ more promised. let refused = (front.kept (length rest + more) (promise_both a.takes xs rest more promised)).0 in absurd (cc);
}
