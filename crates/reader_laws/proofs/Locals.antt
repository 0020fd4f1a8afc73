-- What is read as a local name is spelled so.
use Rattle.std.proofs.Common.{◌≡◌, ◌≤◌, ◌<◌, ◌-◌, ℕ, zero, suc, List, [], ◌∷◌, ◌++◌, refl, subst, ap, sym, ◌∙◌, Bool, true, false, cond, arith, append_assoc}
use Rattle.std.specs.Prelude.{Ok, Option, Some, None, ◌||◌, not, nat_lt, nat_le, codes, drop}
use Rattle.std.proofs.lemmas.Bool.{ltb-false, leb-false}
use Rattle.stl_lex.specs.declared.piece.TokenKind.TheVariants as kinds
use Rattle.stl_lex.specs.declared.token.Token.{Token}
use Rattle.stl_decl.specs.declared.fault.FaultKind.TheVariants.{BadOperand}
use Rattle.stl_decl.specs.declared.steps.SignedNumber.{SignedNumber}
use Rattle.stl_decl.specs.declared.types.SimpleType.{SimpleType}
use Rattle.stl_decl.specs.declared.types.SimpleType.TheVariants as types
use Rattle.stl_decl.specs.Places.{Place}
use Rattle.stl_decl.specs.Types.{rank, is_int, int_value, element_bit}
use Rattle.stl_decl.specs.Layout.{Section, variable_of}
use Rattle.stl_decl.specs.Steps.{◌>>=◌, spelling, upper, fault_at, is_sign, integer_at, sign_at, maybe_sign_at}
use Rattle.stl_decl.specs.Elements.{element_above, index_of, indexed_at, no_index, single_at, element_by}
use Rattle.stl_reader.specs.declared.forms.OperandForm.{OperandForm}
use Rattle.stl_reader.specs.declared.forms.OperandForm.TheVariants as forms
use Rattle.stl_reader.specs.declared.addresses.Operand.{Operand}
use Rattle.stl_reader.specs.Forms.{accepts}
use Rattle.stl_reader.specs.Operands.{takes_memory}
use Rattle.stl_reader.specs.Locals.{local_form, local_at, suits_mnemonic, element_operand, variable_operand, named_local, local_operand}
use Rattle.stl_reader.proofs.Language.{bind_ok}
use Rattle.reader_laws.specs.Tokens.{IsSign}
use Rattle.reader_laws.specs.Operands.{is_in_range, below, byte, char, word, int, s5time, date, dword, dint, time, time_of_day, IsLocal, of_bit, of_bytes, IsName, IsElement, by_name, by_element, last_of, IsReadAs}
use Rattle.reader_laws.proofs.Steps.{if_ok, if_not, same_ok, closing_takes, integer_takes}

-- a name of the type in a form that the mnemonic takes
record Suits (mnemonic : List ℕ) (simple : SimpleType) (at : ℕ) : Type 0 where
  form : OperandForm
  takes : accepts mnemonic form ≡ true
  spelled : IsLocal simple at form (local_at simple at)

suits : (mnemonic : List ℕ) (simple : SimpleType) (at : ℕ) → suits_mnemonic mnemonic (local_form simple) ≡ true → Suits mnemonic simple at
suits mnemonic types.Bool at h = record { form = forms.Bit; takes = h; spelled = of_bit refl }
suits mnemonic types.Byte at h = record { form = forms.Value; takes = h; spelled = of_bytes 8 byte }
suits mnemonic types.Char at h = record { form = forms.Value; takes = h; spelled = of_bytes 8 char }
suits mnemonic types.Word at h = record { form = forms.Value; takes = h; spelled = of_bytes 9 word }
suits mnemonic types.Int at h = record { form = forms.Value; takes = h; spelled = of_bytes 9 int }
suits mnemonic types.S5Time at h = record { form = forms.Value; takes = h; spelled = of_bytes 9 s5time }
suits mnemonic types.Date at h = record { form = forms.Value; takes = h; spelled = of_bytes 9 date }
suits mnemonic types.DWord at h = record { form = forms.Value; takes = h; spelled = of_bytes 10 dword }
suits mnemonic types.DInt at h = record { form = forms.Value; takes = h; spelled = of_bytes 10 dint }
suits mnemonic types.Time at h = record { form = forms.Value; takes = h; spelled = of_bytes 10 time }
suits mnemonic types.TimeOfDay at h = record { form = forms.Value; takes = h; spelled = of_bytes 10 time_of_day }
suits mnemonic types.DateAndTime at h = absurd cc

neither : (a b : Bool) → (not a || not b) ≡ false → (a ≡ true) × (b ≡ true)
neither true true e = (refl, refl)
neither true false e = absurd cc
neither false b e = absurd cc

both_false : (a b : Bool) → (a || b) ≡ false → (a ≡ false) × (b ≡ false)
both_false false b e = (refl, e)
both_false true b e = absurd cc

pub rank_below : (minus : Bool) (n : ℕ) (first last : Token) → is_in_range minus n ≡ true → rank (int_value (record { negative = minus; magnitude = n; first = first; last = last })) ≡ below minus n
rank_below false n first last h = refl
rank_below true zero first last h = refl
rank_below true (suc n) first last h = omega arith

-- the element that an index names
module _ (place : Place) where
  pub element_is : (n : SignedNumber) (k : ℕ) → index_of place.shape n ≡ Ok k → IsElement place n.negative n.magnitude k
  element_is n k e =
      let low = rank place.shape.low in
      let here = rank (int_value n) in
      let p = if_not (not place.shape.is_array || not (is_int n)) (fault_at BadOperand n.first) (element_above low here place.shape.count n) k e in
      let a = neither place.shape.is_array (is_int n) p.0 in
      let q = if_not (nat_lt here low || nat_le place.shape.count (here - low)) (fault_at BadOperand n.first) (Ok (here - low)) k p.1 in
      let b = both_false (nat_lt here low) (nat_le place.shape.count (here - low)) q.0 in
      let same : here - low ≡ k = same_ok (here - low) k q.1 in
      let above : low ≤ here = ltb-false here low b.0 in
      let within : here - low < place.shape.count = leb-false place.shape.count (here - low) b.1 in
      let value : here ≡ below n.negative n.magnitude = rank_below n.negative n.magnitude n.first n.last a.1 in
      record {
        is_array = a.0;
        range = a.1;
        above = sym value ∙ omega (arith, same, above);
        within = omega (arith, same, within);
      }

pub last_closing : (a closing : Token) (ts : List Token) → last_of a (ts ++ closing ∷ []) ≡ closing
last_closing a closing [] = refl
last_closing a closing (t ∷ ts) = last_closing t closing ts

module _ (text : List ℕ) (temps : Section) (mnemonic : List ℕ) (first : Token) (rest : List Token) (x : Operand × Token × List Token) where
  abbrev Reads : Type 0
  Reads = IsReadAs text temps mnemonic (first ∷ rest) x

  single_takes : (place : Place) → IsName text temps place first → suits_mnemonic mnemonic (local_form place.shape.simple) ≡ true → (single_at text place.shape first rest >>= λ element. Ok (local_at place.shape.simple (element_bit place element.0), element.1, element.2)) ≡ Ok x → Reads
  single_takes place name fits e =
      let s = bind_ok (single_at text place.shape first rest) (λ element. Ok (local_at place.shape.simple (element_bit place element.0), element.1, element.2)) x e in
      let p = if_not place.shape.is_array (no_index text first rest) (Ok (0, first, rest)) s.0 s.1 in
      let here : (0, first, rest) ≡ s.0 = same_ok (0, first, rest) s.0 p.1 in
      let h = suits mnemonic place.shape.simple place.first_bit fits in
      let at : element_bit place 0 ≡ place.first_bit = omega arith in
      let same : (local_at place.shape.simple place.first_bit, first, rest) ≡ x =
      ap (λ (b : ℕ). let y : Operand × Token × List Token = (local_at place.shape.simple b, first, rest) in y) (sym at)
      ∙ (ap (λ (v : ℕ × Token × List Token). let y : Operand × Token × List Token = (local_at place.shape.simple (element_bit place v.0), v.1, v.2) in y) here
      ∙ same_ok (local_at place.shape.simple (element_bit place s.0.0), s.0.1, s.0.2) x s.2) in
      subst (IsReadAs text temps mnemonic (first ∷ rest)) same (record {
        form = h.form;
        front = first ∷ [];
        cut = refl;
        last = refl;
        takes = h.takes;
        spelled = by_name place h.form (local_at place.shape.simple place.first_bit) first name p.0 h.spelled;
      })

  indexed_takes : (place : Place) (opening : Token) (ts : List Token) → rest ≡ opening ∷ ts → IsSign text (codes "[") opening → IsName text temps place first → suits_mnemonic mnemonic (local_form place.shape.simple) ≡ true → (indexed_at text place.shape ts >>= λ element. Ok (local_at place.shape.simple (element_bit place element.0), element.1, element.2)) ≡ Ok x → Reads
  unfolding indexed_at
  indexed_takes place opening ts cut sign name fits e =
      let s = bind_ok (indexed_at text place.shape ts) (λ element. Ok (local_at place.shape.simple (element_bit place element.0), element.1, element.2)) x e in
      let index = bind_ok (integer_at text ts) (λ index. index_of place.shape index.0 >>= λ k. sign_at text (codes "]") index.1 >>= λ closing. Ok (k, closing.0, closing.1)) s.0 s.1 in
      let k = bind_ok (index_of place.shape index.0.0) (λ k. sign_at text (codes "]") index.0.1 >>= λ closing. Ok (k, closing.0, closing.1)) s.0 index.2 in
      let closing = bind_ok (sign_at text (codes "]") index.0.1) (λ closing. Ok (k.0, closing.0, closing.1)) s.0 k.2 in
      let i = integer_takes text ts index.0 index.1 in
      let c = closing_takes text (codes "]") index.0.1 closing.0 closing.1 in
      let here = same_ok (k.0, closing.0.0, closing.0.1) s.0 closing.2 in
      let h = suits mnemonic place.shape.simple (element_bit place k.0) fits in
      let same : (local_at place.shape.simple (element_bit place k.0), closing.0.0, closing.0.1) ≡ x =
      ap (λ (v : ℕ × Token × List Token). let y : Operand × Token × List Token = (local_at place.shape.simple (element_bit place v.0), v.1, v.2) in y) here
      ∙ same_ok (local_at place.shape.simple (element_bit place s.0.0), s.0.1, s.0.2) x s.2 in
      subst (IsReadAs text temps mnemonic (first ∷ rest)) same (record {
        form = h.form;
        front = first ∷ opening ∷ (i.front ++ closing.0.0 ∷ []);
        cut = ap (λ r. first ∷ r) (cut ∙ ap (λ r. opening ∷ r) (i.cut ∙ (ap (λ r. i.front ++ r) c.cut ∙ sym (append_assoc i.front (closing.0.0 ∷ []) closing.0.1))));
        last = last_closing opening closing.0.0 i.front;
        takes = h.takes;
        spelled = by_element place index.0.0.negative index.0.0.magnitude k.0 h.form (local_at place.shape.simple (element_bit place k.0)) first opening closing.0.0 i.front name sign i.integer (element_is place index.0.0 k.0 k.1) c.is h.spelled;
      })

  element_takes : (place : Place) (tokens : List Token) → rest ≡ tokens → IsName text temps place first → suits_mnemonic mnemonic (local_form place.shape.simple) ≡ true → (element_by (maybe_sign_at text (codes "[") tokens) text place.shape first rest >>= λ element. Ok (local_at place.shape.simple (element_bit place element.0), element.1, element.2)) ≡ Ok x → Reads
  element_takes place [] cut name fits e = single_takes place name fits e
  element_takes place (t ∷ ts) cut name fits e = by (is_sign text t (codes "[")) refl e
    where
      by : (b : Bool) → is_sign text t (codes "[") ≡ b → (element_by (cond b (Some (t, ts)) None) text place.shape first rest >>= λ element. Ok (local_at place.shape.simple (element_bit place element.0), element.1, element.2)) ≡ Ok x → Reads
      by true h e = indexed_takes place t ts cut h name fits e
      by false h e = single_takes place name fits e

  named_takes : (o : Option Place) → variable_of temps (upper (drop 1 (spelling text first))) ≡ o → first.kind ≡ kinds.Local → named_local o text mnemonic first rest ≡ Ok x → Reads
  unfolding variable_operand
  named_takes None is kind e = absurd cc
  named_takes (Some place) is kind e =
      let p = if_ok (suits_mnemonic mnemonic (local_form place.shape.simple)) (element_operand text place first rest) (fault_at BadOperand first) x e in
      element_takes place rest refl (record { kind = kind; declared = is }) p.0 p.1

  pub local_takes : first.kind ≡ kinds.Local → local_operand text temps mnemonic first rest ≡ Ok x → Reads
  local_takes kind e =
      let p = if_ok (takes_memory mnemonic) (named_local (variable_of temps (upper (drop 1 (spelling text first)))) text mnemonic first rest) (fault_at BadOperand first) x e in
      named_takes (variable_of temps (upper (drop 1 (spelling text first)))) refl kind p.1
