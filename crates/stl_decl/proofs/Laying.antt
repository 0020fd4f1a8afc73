-- Names that are laid one behind the other don't overlap, and each is at its type's place.
use Rattle.std.proofs.Common.{◌≡◌, ◌≤◌, ℕ, List, [], ◌∷◌, ◌++◌, ◌%◌, refl, subst, sym, ap, ◌∙◌, arith, Bool, true, false}
use Rattle.std.specs.Prelude.{if◌then◌else◌}
use Rattle.stl_decl.specs.Places.{Place}
use Rattle.stl_decl.specs.Types.{round_up, first_bit, first_simple, end_bit}
use Rattle.stl_decl.specs.Layout.{Name}
use Rattle.stl_decl.specs.Laid.{AreLaid, AllFrom, AreApart, AreAligned, behind, unit_of, unit_of_simple}
use Rattle.stl_decl.specs.declared.types.SimpleType.{SimpleType}
use Rattle.stl_decl.specs.declared.types.SimpleType.TheVariants as types
use Rattle.stl_decl.specs.declared.types.Shape.{Shape}

-- one name more
pub laid_more : (at : ℕ) (ns : List Name) (end : ℕ) (n : Name) → AreLaid at ns end → n.variable.first_bit ≡ first_bit n.variable.shape end → AreLaid at (ns ++ n ∷ []) (end_bit n.variable.shape n.variable.first_bit)
unfolding AreLaid
laid_more at [] end n h e = (e ∙ ap (first_bit n.variable.shape) (sym h), refl)
laid_more at (m ∷ ns) end n h e = (h.0, laid_more (end_bit m.variable.shape m.variable.first_bit) ns end n h.1 e)

up_16 : (bit : ℕ) → bit ≤ round_up 16 bit
up_16 bit = omega arith

up_8 : (bit : ℕ) → bit ≤ round_up 8 bit
up_8 bit = omega arith

multiple_16 : (bit : ℕ) → round_up 16 bit % 16 ≡ 0
multiple_16 bit = omega arith

multiple_8 : (bit : ℕ) → round_up 8 bit % 8 ≡ 0
multiple_8 bit = omega arith

-- what a place of a type is
record IsPlace (unit first end : ℕ) : Type 0 where
  pub from : end ≤ first
  pub multiple : first % unit ≡ 0

simple_place : (simple : SimpleType) (end : ℕ) → IsPlace (unit_of_simple simple) (first_simple simple end) end
simple_place types.Bool end = record { from = omega arith; multiple = omega arith }
simple_place types.Byte end = record { from = up_8 end; multiple = multiple_8 end }
simple_place types.Char end = record { from = up_8 end; multiple = multiple_8 end }
simple_place types.Word end = record { from = up_16 end; multiple = multiple_16 end }
simple_place types.Int end = record { from = up_16 end; multiple = multiple_16 end }
simple_place types.S5Time end = record { from = up_16 end; multiple = multiple_16 end }
simple_place types.Date end = record { from = up_16 end; multiple = multiple_16 end }
simple_place types.DWord end = record { from = up_16 end; multiple = multiple_16 end }
simple_place types.DInt end = record { from = up_16 end; multiple = multiple_16 end }
simple_place types.Time end = record { from = up_16 end; multiple = multiple_16 end }
simple_place types.TimeOfDay end = record { from = up_16 end; multiple = multiple_16 end }
simple_place types.DateAndTime end = record { from = up_16 end; multiple = multiple_16 end }

place_by : (is_array : Bool) (simple : SimpleType) (end : ℕ) → IsPlace (if is_array then 16 else unit_of_simple simple) (if is_array then round_up 16 end else first_simple simple end) end
place_by true simple end = record { from = up_16 end; multiple = multiple_16 end }
place_by false simple end = simple_place simple end

is_place : (shape : Shape) (end : ℕ) → IsPlace (unit_of shape) (first_bit shape end) end
is_place shape end = place_by shape.is_array shape.simple end

end_by : (is_array : Bool) (last : ℕ) → last ≤ (if is_array then round_up 16 last else last)
end_by true last = up_16 last
end_by false last = omega arith

end_from : (p : Place) → behind p ≤ end_bit p.shape p.first_bit
end_from p = end_by p.shape.is_array (behind p)

-- a name begins behind what is taken
first_from : (n : Name) (at : ℕ) → n.variable.first_bit ≡ first_bit n.variable.shape at → at ≤ n.variable.first_bit
first_from n at e = let p = is_place n.variable.shape at in let f = p.from in omega arith

begins : (p : Place) → p.first_bit ≤ behind p
begins p = omega arith

all_from : (low at end : ℕ) (ns : List Name) → low ≤ at → AreLaid at ns end → AllFrom low ns
unfolding AreLaid AllFrom
all_from low at end [] h l = tt
all_from low at end (n ∷ ns) h l =
    let a : at ≤ n.variable.first_bit = first_from n at l.0 in
    let b = end_from n.variable in let d = begins n.variable in
    let next : low ≤ end_bit n.variable.shape n.variable.first_bit = omega arith in
    (omega arith, all_from low (end_bit n.variable.shape n.variable.first_bit) end ns next l.1)

-- no two overlap
pub are_apart : (at : ℕ) (ns : List Name) (end : ℕ) → AreLaid at ns end → AreApart ns
unfolding AreLaid AreApart
are_apart at [] end l = tt
are_apart at (n ∷ ns) end l = (
  all_from (behind n.variable) (end_bit n.variable.shape n.variable.first_bit) end ns (end_from n.variable) l.1,
  are_apart (end_bit n.variable.shape n.variable.first_bit) ns end l.1,
)

ends_later : (at end : ℕ) (ns : List Name) → AreLaid at ns end → at ≤ end
unfolding AreLaid
ends_later at end [] l = omega arith
ends_later at end (n ∷ ns) l =
    let a : at ≤ n.variable.first_bit = first_from n at l.0 in
    let b = end_from n.variable in let d = begins n.variable in
    let e = ends_later (end_bit n.variable.shape n.variable.first_bit) end ns l.1 in omega arith

-- each is at a place of its type, within the bits
pub are_aligned : (at : ℕ) (ns : List Name) (end : ℕ) → AreLaid at ns end → AreAligned end ns
unfolding AreLaid AreAligned
are_aligned at [] end l = tt
are_aligned at (n ∷ ns) end l =
    let p = is_place n.variable.shape at in
    let b = end_from n.variable in
    let e = ends_later (end_bit n.variable.shape n.variable.first_bit) end ns l.1 in
    (subst (λ f. f % unit_of n.variable.shape ≡ 0) (sym l.0) p.multiple, omega arith, are_aligned (end_bit n.variable.shape n.variable.first_bit) ns end l.1)
