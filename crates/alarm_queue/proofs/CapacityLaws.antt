-- There is capacity for what is added.
use Rattle.std.proofs.Common.{◌≡◌, ◌∙◌, ℕ, suc, ◌+◌, ◌<◌, ◌≤◌, Bool, true, false, List, [], ◌∷◌, length, refl, ap, sym, subst, arith}
use Rattle.std.specs.Prelude.{if◌then◌else◌, ◌==◌, ◌&&◌, ◌||◌, ◌-◌}
use Rattle.std.proofs.lemmas.List.{length-map}
use Rattle.std.proofs.lemmas.Bool.Decides.{nat_tests}
use Rattle.alarm_queue.specs.declared.alarm.DueAlarm.{DueAlarm}
use Rattle.alarm_queue.specs.Order.{is_before, line_of, insert, is_same, waits, waits_once, tail}
use Rattle.alarm_queue.specs.Capacity.{Slot, module_slot, slots, is_of_slot, has_slot, HaveSlots, AreOnce, count_others, HasCapacity}

same_numbers : (lx ly ox oy : ℕ) → (lx == ly && ox == oy) ≡ (ly == lx && oy == ox)
same_numbers lx ly ox oy = grind (arith, nat_tests)

pub same_back : (x y : DueAlarm) → is_same x y ≡ is_same y x
same_back x y = same_numbers (line_of x.source) (line_of y.source) x.ob y.ob

same_ob_numbers : (lx ly ox oy : ℕ) → (lx == ly && ox == oy) ≡ true → ox ≡ oy
same_ob_numbers lx ly ox oy h = grind (arith, nat_tests)

pub same_ob : (x y : DueAlarm) → is_same x y ≡ true → x.ob ≡ y.ob
same_ob x y h = same_ob_numbers (line_of x.source) (line_of y.source) x.ob y.ob h

slot_numbers : (lx lz ls ox oz os : ℕ) → (lx == ls && ox == os) ≡ true → (lz == ls && oz == os) ≡ true → (lx == lz && ox == oz) ≡ true
slot_numbers lx lz ls ox oz os h i = grind (arith, nat_tests)

same_slot : (x z : DueAlarm) (s : Slot) → is_of_slot x s ≡ true → is_of_slot z s ≡ true → is_same x z ≡ true
same_slot x z s h i = slot_numbers (line_of x.source) (line_of z.source) s.line x.ob z.ob s.ob h i

-- of the parts of an `or` --

or_left : (a b : Bool) → (a || b) ≡ false → a ≡ false
or_left true b h = h
or_left false b h = refl

or_right : (a b : Bool) → (a || b) ≡ false → b ≡ false
or_right true b h = cc
or_right false b h = h

or_neither : (a b : Bool) → a ≡ false → b ≡ false → (a || b) ≡ false
or_neither true b h i = cc
or_neither false b h i = i

or_swap : (a b c : Bool) → (a || (b || c)) ≡ (b || (a || c))
or_swap true true c = refl
or_swap true false c = refl
or_swap false true c = refl
or_swap false false c = refl

-- what insertion does --

waits_by : (z x y : DueAlarm) (ys : List DueAlarm) (b : Bool) → waits z (insert x ys) ≡ (is_same z x || waits z ys)
    → waits z (if b then x ∷ y ∷ ys else y ∷ insert x ys) ≡ (is_same z x || waits z (y ∷ ys))
waits_by z x y ys true h = refl
waits_by z x y ys false h = ap (λ b. is_same z y || b) h ∙ or_swap (is_same z y) (is_same z x) (waits z ys)

pub waits_inserted : (z x : DueAlarm) (xs : List DueAlarm) → waits z (insert x xs) ≡ (is_same z x || waits z xs)
waits_inserted z x [] = refl
waits_inserted z x (y ∷ ys) = waits_by z x y ys (is_before x y) (waits_inserted z x ys)

-- an alarm that is not the same as x, where x is of those that wait once
apart_by : (x y : DueAlarm) (ys : List DueAlarm) (b : Bool) → is_same y x ≡ b → (waits_once x.ob ≡ true → waits x (y ∷ ys) ≡ false) → waits_once y.ob ≡ true → b ≡ false
apart_by x y ys false is h once = refl
apart_by x y ys true is h once =
    let of_x : waits_once x.ob ≡ true = subst (λ ob. waits_once ob ≡ true) (same_ob y x is) once in
    let none : is_same x y ≡ false = or_left (is_same x y) (waits x ys) (h of_x) in
    sym (same_back x y ∙ is) ∙ none

once_by : (x y : DueAlarm) (ys : List DueAlarm) (b : Bool) → AreOnce (y ∷ ys) → (waits_once x.ob ≡ true → waits x (y ∷ ys) ≡ false) → AreOnce (insert x ys)
    → AreOnce (if b then x ∷ y ∷ ys else y ∷ insert x ys)
once_by x y ys true once new h = (new, once)
once_by x y ys false once new h = (
  λ of_y. waits_inserted y x ys ∙ or_neither (is_same y x) (waits y ys) (apart_by x y ys (is_same y x) refl new of_y) (once.0 of_y),
  h,
)

pub once_inserted : (x : DueAlarm) (xs : List DueAlarm) → AreOnce xs → (waits_once x.ob ≡ true → waits x xs ≡ false) → AreOnce (insert x xs)
once_inserted x [] once new = (new, tt)
once_inserted x (y ∷ ys) once new =
    once_by x y ys (is_before x y) once new (once_inserted x ys once.1 (λ of_x. or_right (is_same x y) (waits x ys) (new of_x)))

slots_by : (ss : List Slot) (x y : DueAlarm) (ys : List DueAlarm) (b : Bool) → HaveSlots ss (x ∷ y ∷ ys) → HaveSlots ss (insert x ys) → HaveSlots ss (if b then x ∷ y ∷ ys else y ∷ insert x ys)
slots_by ss x y ys true h i = h
slots_by ss x y ys false h i = (h.1.0, i)

pub slots_inserted : (ss : List Slot) (x : DueAlarm) (xs : List DueAlarm) → HaveSlots ss xs → (waits_once x.ob ≡ true → has_slot ss x ≡ true) → HaveSlots ss (insert x xs)
slots_inserted ss x [] h new = (new, tt)
slots_inserted ss x (y ∷ ys) h new = slots_by ss x y ys (is_before x y) (new, h) (slots_inserted ss x ys h.1 new)

count_by : (x y : DueAlarm) (ys : List DueAlarm) (b : Bool) → count_others (insert x ys) ≡ (if waits_once x.ob then 0 else 1) + count_others ys
    → count_others (if b then x ∷ y ∷ ys else y ∷ insert x ys) ≡ (if waits_once x.ob then 0 else 1) + count_others (y ∷ ys)
count_by x y ys true h = refl
count_by x y ys false h = omega (arith, h)

pub count_inserted : (x : DueAlarm) (xs : List DueAlarm) → count_others (insert x xs) ≡ (if waits_once x.ob then 0 else 1) + count_others xs
count_inserted x [] = refl
count_inserted x (y ∷ ys) = count_by x y ys (is_before x y) (count_inserted x ys)

-- no more of those that wait once than slots --

abbrev without : DueAlarm → List Slot → List Slot
without x [] = []
without x (s ∷ ss) = if is_of_slot x s then ss else s ∷ without x ss

shorter_by : (x : DueAlarm) (s : Slot) (ss : List Slot) (b : Bool) → (b || has_slot ss x) ≡ true → (has_slot ss x ≡ true → length ss ≡ suc (length (without x ss)))
    → suc (length ss) ≡ suc (length (if b then ss else s ∷ without x ss))
shorter_by x s ss true h i = refl
shorter_by x s ss false h i = ap (λ n. suc n) (i h)

shorter : (x : DueAlarm) (ss : List Slot) → has_slot ss x ≡ true → length ss ≡ suc (length (without x ss))
shorter x [] h = cc
shorter x (s ∷ ss) h = shorter_by x s ss (is_of_slot x s) h (shorter x ss)

kept_by : (x z : DueAlarm) (s : Slot) (ss : List Slot) (b d : Bool) → is_of_slot x s ≡ b → is_of_slot z s ≡ d → is_same x z ≡ false → (d || has_slot ss z) ≡ true
    → (has_slot ss z ≡ true → has_slot (without x ss) z ≡ true) → has_slot (if b then ss else s ∷ without x ss) z ≡ true
kept_by x z s ss true true ex ez apart h i = absurd (let same : is_same x z ≡ true = same_slot x z s ex ez in cc)
kept_by x z s ss true false ex ez apart h i = h
kept_by x z s ss false true ex ez apart h i = rw ez refl
kept_by x z s ss false false ex ez apart h i = rw ez (i h)

kept : (x z : DueAlarm) (ss : List Slot) → is_same x z ≡ false → has_slot ss z ≡ true → has_slot (without x ss) z ≡ true
kept x z [] apart h = h
kept x z (s ∷ ss) apart h = kept_by x z s ss (is_of_slot x s) (is_of_slot z s) refl refl apart h (kept x z ss apart)

others_kept : (x : DueAlarm) (ss : List Slot) (xs : List DueAlarm) → waits x xs ≡ false → HaveSlots ss xs → HaveSlots (without x ss) xs
others_kept x ss [] none h = tt
others_kept x ss (z ∷ zs) none h = (
  λ of_z. kept x z ss (or_left (is_same x z) (waits x zs) none) (h.0 of_z),
  others_kept x ss zs (or_right (is_same x z) (waits x zs) none) h.1,
)

few_by : (x : DueAlarm) (xs : List DueAlarm) (ss : List Slot) (b : Bool) → waits_once x.ob ≡ b → AreOnce (x ∷ xs) → HaveSlots ss (x ∷ xs)
    → ((rest : List Slot) → HaveSlots rest xs → length xs ≤ count_others xs + length rest)
    → suc (length xs) ≤ ((if b then 0 else 1) + count_others xs) + length ss
few_by x xs ss false is once h i = omega (arith, i ss h.1)
few_by x xs ss true is once h i =
    omega (arith, shorter x ss (h.0 is), i (without x ss) (others_kept x ss xs (once.0 is) h.1))

pub few : (xs : List DueAlarm) (ss : List Slot) → AreOnce xs → HaveSlots ss xs → length xs ≤ count_others xs + length ss
few [] ss once h = omega arith
few (x ∷ xs) ss once h = few_by x xs ss (waits_once x.ob) refl once h (λ rest j. few xs rest once.1 j)

count_slots : (modules : List ℕ) → length (slots modules) ≡ 10 + length modules
count_slots modules = omega (arith, length-map modules module_slot)

-- the capacity --

pub fits_other : (modules : List ℕ) (more capacity : ℕ) (xs : List DueAlarm) → HasCapacity modules more capacity xs → 0 < more → length xs < capacity
fits_other modules more capacity xs h some = omega (arith, h.fits, few xs (slots modules) h.once h.slots, count_slots modules)

pub fits_once : (modules : List ℕ) (more capacity : ℕ) (xs : List DueAlarm) (x : DueAlarm) → HasCapacity modules more capacity xs → waits_once x.ob ≡ true → waits x xs ≡ false → has_slot (slots modules) x ≡ true
    → length xs < capacity
fits_once modules more capacity xs x h of_x none slot =
    let counted : count_others (x ∷ xs) ≡ count_others xs = rw of_x (omega arith) in
    omega (arith, h.fits, few (x ∷ xs) (slots modules) ((λ o. none), h.once) ((λ o. slot), h.slots), count_slots modules, counted)

pub capacity_other : (modules : List ℕ) (more capacity larger : ℕ) (xs : List DueAlarm) (x : DueAlarm) → HasCapacity modules more capacity xs → 0 < more → waits_once x.ob ≡ false → capacity ≤ larger
    → HasCapacity modules (more - 1) larger (insert x xs)
capacity_other modules more capacity larger xs x h some of_x le =
    let counted : count_others (insert x xs) ≡ 1 + count_others xs = count_inserted x xs ∙ (rw of_x refl) in
    record {
      once = once_inserted x xs h.once (λ o. absurd (cc (o, of_x)));
      slots = slots_inserted (slots modules) x xs h.slots (λ o. absurd (cc (o, of_x)));
      fits = omega (arith, h.fits, counted);
    }

pub capacity_once : (modules : List ℕ) (more capacity larger : ℕ) (xs : List DueAlarm) (x : DueAlarm) → HasCapacity modules more capacity xs → waits_once x.ob ≡ true → waits x xs ≡ false → has_slot (slots modules) x ≡ true → capacity ≤ larger
    → HasCapacity modules more larger (insert x xs)
capacity_once modules more capacity larger xs x h of_x none slot le =
    let counted : count_others (insert x xs) ≡ 0 + count_others xs = count_inserted x xs ∙ (rw of_x refl) in
    record {
      once = once_inserted x xs h.once (λ o. none);
      slots = slots_inserted (slots modules) x xs h.slots (λ o. slot);
      fits = omega (arith, h.fits, counted);
    }

pub capacity_left : (modules : List ℕ) (more capacity : ℕ) (xs : List DueAlarm) → HasCapacity modules more capacity xs → HasCapacity modules more capacity (tail xs)
capacity_left modules more capacity [] h = h
capacity_left modules more capacity (x ∷ xs) h = record {
  once = h.once.1;
  slots = h.slots.1;
  fits = omega (arith, h.fits);
}
