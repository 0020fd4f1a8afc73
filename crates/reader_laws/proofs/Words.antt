-- What is read as an operand that begins with a word is spelled so.
use Rattle.std.proofs.Common.{◌≡◌, ℕ, List, [], ◌∷◌, refl, subst, ap, sym, ◌∙◌, Bool, true, false, cond, ◌⊎◌, inl, inr}
use Rattle.std.specs.Prelude.{Ok, Option, Some, None, ◌&&◌, ◌==◌, not, codes}
use Rattle.std.proofs.lemmas.Bool.{and_parts, eqb-true}
use Rattle.instruction_set.specs.declared.operands.OperandArea.{OperandArea}
use Rattle.instruction_set.specs.declared.operands.OperandArea.TheVariants as areas
use Rattle.s7_base.specs.Operands.{is_data_number}
use Rattle.stl_lex.specs.declared.token.Token.{Token}
use Rattle.stl_decl.specs.declared.fault.FaultKind.TheVariants.{BadOperand, OutOfScope}
use Rattle.stl_decl.specs.Layout.{Section}
use Rattle.stl_decl.specs.Steps.{◌>>=◌, spelling, fault_at, is_word_kind}
use Rattle.stl_reader.specs.declared.forms.OperandForm.{OperandForm}
use Rattle.stl_reader.specs.declared.forms.OperandForm.TheVariants as forms
use Rattle.stl_reader.specs.declared.words.OperandWord.{OperandWord}
use Rattle.stl_reader.specs.declared.addresses.Operand.{Operand}
use Rattle.stl_reader.specs.Forms.{accepts}
use Rattle.stl_reader.specs.Words.{operand_word}
use Rattle.stl_reader.specs.Addresses.{refused, taken, judged, part_sign, part_word, address, byte_operand}
use Rattle.stl_reader.specs.Operands.{plain_operand, instance_operand, system_judged, system_operand, taken_operand, row_operand, data_number, is_data_area, is_memory_form, is_data_word, data_word, data_word_by, takes_memory, opened_operand, unknown_operand, unnamed_operand, label_name, label_operand, word_by, area_operand}
use Rattle.stl_reader.proofs.Language.{bind_ok}
use Rattle.reader_laws.specs.Tokens.{IsRowWord}
use Rattle.reader_laws.specs.Operands.{IsAddress, of_bit, of_number, of_word, is_bare, operand, IsOperand, by_address, by_data_block, by_instance, by_system, by_label, last_of, IsReadAs}
use Rattle.reader_laws.proofs.Rows.{row_is_plain, word_found}
use Rattle.reader_laws.proofs.Addresses.{TakesAddress, plain_takes}
use Rattle.reader_laws.proofs.Steps.{if_ok, if_not, same_ok, address_takes, sign_takes, word_takes}

data_area : (a : OperandArea) → is_data_area a ≡ true → a ≡ areas.Data
data_area areas.Data h = refl
data_area _ h = absurd cc

memory_form : (f : OperandForm) → is_memory_form f ≡ true → (f ≡ forms.Bit) ⊎ (f ≡ forms.Value)
memory_form forms.Bit h = inl refl
memory_form forms.Value h = inr refl
memory_form _ h = absurd cc

no_word : (f : OperandForm) → is_memory_form f ≡ true → is_bare f ≡ true → ⊥
no_word forms.Bit h k = cc
no_word forms.Value h k = cc
no_word _ h k = cc

pub same_last : (text : List ℕ) (row : OperandWord) (bit value : ℕ) (ts : List Token) (a b : Token) → is_memory_form row.form ≡ true → IsAddress text row bit value ts → last_of a ts ≡ last_of b ts
same_last text row bit value ts a b h (of_bit byte n u p v is k s l m) = refl
same_last text row bit value ts a b h (of_number n t k l) = refl
same_last text row bit value ts a b h (of_word k) = absurd (no_word row.form h k)

one_of_two : (a b : Bool) (n : ℕ) → (n == 43) ≡ a → (n == 46) ≡ b → (not a && not b) ≡ false → (n ≡ 43) ⊎ (n ≡ 46)
one_of_two true b n is h e = inl (eqb-true n 43 is)
one_of_two false true n is h e = inr (eqb-true n 46 h)
one_of_two false false n is h e = absurd cc

-- one of DBX, DBB, DBW and DBD was taken
record TakesDataWord (text mnemonic : List ℕ) (tokens : List Token) (x : OperandWord × Token × List Token) : Type 0 where
  cut : tokens ≡ x.1 ∷ x.2
  word : IsRowWord text x.0 x.1
  area : x.0.area ≡ areas.Data
  form : is_memory_form x.0.form ≡ true
  takes : accepts mnemonic x.0.form ≡ true

module _ (text mnemonic : List ℕ) where
  data_word_takes : (tokens : List Token) (x : OperandWord × Token × List Token) → data_word text mnemonic tokens ≡ Ok x → TakesDataWord text mnemonic tokens x
  data_word_takes [] x e = absurd cc
  data_word_takes (t ∷ ts) x e =
      let p = if_ok (is_word_kind t.kind) (data_word_by (operand_word (spelling text t)) text mnemonic t ts) (refused text mnemonic t) x e in
      by (operand_word (spelling text t)) refl p.0 p.1
    where
      by : (o : Option OperandWord) → operand_word (spelling text t) ≡ o → is_word_kind t.kind ≡ true → data_word_by o text mnemonic t ts ≡ Ok x → TakesDataWord text mnemonic (t ∷ ts) x
      by None is kind e = absurd cc
      by (Some row) is kind e =
          let p = if_ok (is_data_word row && accepts mnemonic row.form) (Ok (row, t, ts)) (refused text mnemonic t) x e in
          let both = and_parts (is_data_word row) (accepts mnemonic row.form) p.0 in
          let parts = and_parts (is_data_area row.area) (is_memory_form row.form) both.0 in
          let h = word_found (spelling text t) row is in
          subst (TakesDataWord text mnemonic (t ∷ ts)) (same_ok (row, t, ts) x p.1) (record {
            cut = refl;
            word = record { kind = kind; listed = h.0; letters = h.1 };
            area = data_area row.area parts.0;
            form = parts.1;
            takes = both.1;
          })

module _ (text : List ℕ) (temps : Section) (mnemonic : List ℕ) (first : Token) (rest : List Token) (x : Operand × Token × List Token) where
  abbrev Reads : Type 0
  Reads = IsReadAs text temps mnemonic (first ∷ rest) x

  addressed : (row : OperandWord) → IsRowWord text row first → accepts mnemonic row.form ≡ true → TakesAddress text row first rest x → Reads
  addressed row word takes a = record {
    form = row.form;
    front = first ∷ a.front;
    cut = ap (λ r. first ∷ r) a.cut;
    last = a.last;
    takes = takes;
    spelled = subst (λ o. IsOperand text temps row.form o (first ∷ a.front)) a.operand (by_address row a.bit a.value first a.front word a.address);
  }

  taken_takes : (row : OperandWord) → IsRowWord text row first → (row.form ≡ forms.SystemFunction → ⊥) → taken_operand text mnemonic row first rest ≡ Ok x → Reads
  taken_takes row word other e =
      let t = bind_ok (taken text mnemonic row.form first) (λ form. plain_operand row.form text mnemonic row first rest) x e in
      let a = if_ok (accepts mnemonic row.form) (Ok tt) (refused text mnemonic first) t.0 t.1 in
      addressed row word a.0 (plain_takes text mnemonic row first rest x row.form refl (row_is_plain row word.listed) other t.2)

  instance_takes : (row : OperandWord) → IsRowWord text row first → row.form ≡ forms.FunctionBlock → accepts mnemonic forms.FunctionBlockWithData ≡ true → instance_operand text mnemonic row first rest ≡ Ok x → Reads
  unfolding instance_operand
  instance_takes row word form takes e =
      let number = bind_ok (address text mnemonic rest) _ x e in
      let comma = bind_ok (part_sign text mnemonic (codes ",") number.0.2) _ x number.2 in
      let db = bind_ok (part_word text mnemonic (codes "DB") comma.0.1) _ x comma.2 in
      let block = bind_ok (address text mnemonic db.0.1) _ x db.2 in
      let known = bind_ok (judged (is_data_number block.0.0) first) _ x block.2 in
      let same = same_ok (operand row.area row.unit block.0.0 number.0.0, block.0.1, block.0.2) x known.2 in
      let n = address_takes text mnemonic rest number.0 number.1 in
      let c = sign_takes text mnemonic (codes ",") number.0.2 comma.0 comma.1 in
      let d = word_takes text mnemonic (codes "DB") comma.0.1 db.0 db.1 in
      let m = address_takes text mnemonic db.0.1 block.0 block.1 in
      let j = if_ok (is_data_number block.0.0) (Ok tt) (fault_at BadOperand first) known.0 known.1 in
      subst (IsReadAs text temps mnemonic (first ∷ rest)) same (record {
        form = forms.FunctionBlockWithData;
        front = first ∷ number.0.1 ∷ comma.0.0 ∷ db.0.0 ∷ block.0.1 ∷ [];
        cut = ap (λ r. first ∷ r) (n.cut ∙ ap (λ r. number.0.1 ∷ r) (c.cut ∙ ap (λ r. comma.0.0 ∷ r) (d.cut ∙ ap (λ r. db.0.0 ∷ r) m.cut)));
        last = refl;
        takes = takes;
        spelled = by_instance row number.0.0 block.0.0 first number.0.1 comma.0.0 db.0.0 block.0.1 word form n.number c.is d.is m.number j.0;
      })

  system_takes : (row : OperandWord) → IsRowWord text row first → row.form ≡ forms.SystemFunction → system_operand text mnemonic row first rest ≡ Ok x → Reads
  unfolding system_operand byte_operand
  system_takes row word form e =
      let calls = bind_ok (taken text mnemonic forms.Function first) _ x e in
      let o = bind_ok (byte_operand text mnemonic row rest) (λ o. system_judged mnemonic o.0.value first >>= λ known. Ok o) x calls.2 in
      let known = bind_ok (system_judged mnemonic o.0.0.value first) (λ known. Ok o.0) x o.2 in
      let n = bind_ok (address text mnemonic rest) (λ number. Ok (operand row.area row.unit 0 number.0, number.1, number.2)) o.0 o.1 in
      let here = same_ok (operand row.area row.unit 0 n.0.0, n.0.1, n.0.2) o.0 n.2 in
      let a = address_takes text mnemonic rest n.0 n.1 in
      let known_number : system_judged mnemonic n.0.0 first ≡ Ok known.0 = ap (λ (v : Operand × Token × List Token). system_judged mnemonic v.0.value first) here ∙ known.1 in
      let j = if_not (not (n.0.0 == 43) && not (n.0.0 == 46)) (fault_at OutOfScope first) (judged (accepts mnemonic forms.SystemFunction) first) known.0 known_number in
      let t = if_ok (accepts mnemonic forms.SystemFunction) (Ok tt) (fault_at BadOperand first) known.0 j.1 in
      subst (IsReadAs text temps mnemonic (first ∷ rest)) (here ∙ same_ok o.0 x known.2) (record {
        form = forms.SystemFunction;
        front = first ∷ n.0.1 ∷ [];
        cut = ap (λ r. first ∷ r) a.cut;
        last = refl;
        takes = t.0;
        spelled = by_system row n.0.0 first n.0.1 word form a.number (one_of_two (n.0.0 == 43) (n.0.0 == 46) n.0.0 refl refl j.0);
      })

  row_takes : (form : OperandForm) (row : OperandWord) → row.form ≡ form → IsRowWord text row first → row_operand form text mnemonic row first rest ≡ Ok x → Reads
  row_takes forms.SystemFunction row is word e = system_takes row word is e
  row_takes forms.FunctionBlock row is word e = by (accepts mnemonic forms.FunctionBlockWithData) refl e
    where
      by : (b : Bool) → accepts mnemonic forms.FunctionBlockWithData ≡ b → cond b (instance_operand text mnemonic row first rest) (taken_operand text mnemonic row first rest) ≡ Ok x → Reads
      by true h e = instance_takes row word is h e
      by false h e = taken_takes row word (λ s. let wrong : forms.FunctionBlock ≡ forms.SystemFunction = sym is ∙ s in cc) e
  row_takes form row is word e = taken_takes row word (λ s. let wrong : form ≡ forms.SystemFunction = sym is ∙ s in cc) e

  opened_takes : (number : ℕ) → is_word_kind first.kind ≡ true → data_number (spelling text first) ≡ Some number → opened_operand text mnemonic number first rest ≡ Ok x → Reads
  unfolding opened_operand
  opened_takes number kind is e =
      let dot = bind_ok (part_sign text mnemonic (codes ".") rest) _ x e in
      let row = bind_ok (data_word text mnemonic dot.0.1) _ x dot.2 in
      let o = bind_ok (plain_operand row.0.0.form text mnemonic row.0.0 first row.0.2) _ x row.2 in
      let known = bind_ok (judged (is_data_number number) first) _ x o.2 in
      let same = same_ok (record o.0.0 { db = number }, o.0.1, o.0.2) x known.2 in
      let d = sign_takes text mnemonic (codes ".") rest dot.0 dot.1 in
      let w = data_word_takes text mnemonic dot.0.1 row.0 row.1 in
      let none : row.0.0.form ≡ forms.SystemFunction → ⊥ = λ s. let wrong : true ≡ false = sym w.form ∙ ap is_memory_form s in cc in
      let a = plain_takes text mnemonic row.0.0 first row.0.2 o.0 row.0.0.form refl (row_is_plain row.0.0 w.word.listed) none o.1 in
      let j = if_ok (is_data_number number) (Ok tt) (fault_at BadOperand first) known.0 known.1 in
      subst (IsReadAs text temps mnemonic (first ∷ rest)) same (record {
        form = row.0.0.form;
        front = first ∷ dot.0.0 ∷ row.0.1 ∷ a.front;
        cut = ap (λ r. first ∷ r) (d.cut ∙ ap (λ r. dot.0.0 ∷ r) (w.cut ∙ ap (λ r. row.0.1 ∷ r) a.cut));
        last = same_last text row.0.0 a.bit a.value a.front row.0.1 first w.form a.address ∙ a.last;
        takes = w.takes;
        spelled = subst (λ o. IsOperand text temps row.0.0.form o (first ∷ dot.0.0 ∷ row.0.1 ∷ a.front)) (ap (λ (v : Operand). record v { db = number }) a.operand)
            (by_data_block row.0.0 number a.bit a.value first dot.0.0 row.0.1 a.front kind is j.0 d.is w.word w.area (memory_form row.0.0.form w.form) a.address);
      })

  label_takes : (o : Option (List ℕ)) → is_word_kind first.kind ≡ true → accepts mnemonic forms.Label ≡ true → label_name (spelling text first) ≡ o → label_operand o first rest ≡ Ok x → Reads
  label_takes None kind takes is e = absurd cc
  label_takes (Some name) kind takes is e =
      subst (IsReadAs text temps mnemonic (first ∷ rest)) (same_ok (record { area = areas.Target; bit = 0; db = 0; value = 0; name = name }, first, rest) x e) (record {
        form = forms.Label;
        front = first ∷ [];
        cut = refl;
        last = refl;
        takes = takes;
        spelled = by_label name first kind is;
      })

  unnamed_takes : (o : Option ℕ) → is_word_kind first.kind ≡ true → data_number (spelling text first) ≡ o → unnamed_operand o text mnemonic first rest ≡ Ok x → Reads
  unnamed_takes None kind is e = absurd cc
  unnamed_takes (Some number) kind is e =
      opened_takes number kind is (if_ok (takes_memory mnemonic) (opened_operand text mnemonic number first rest) (unknown_operand text mnemonic first) x e).1

  word_by_takes : (o : Option OperandWord) → is_word_kind first.kind ≡ true → operand_word (spelling text first) ≡ o → word_by o text mnemonic first rest ≡ Ok x → Reads
  word_by_takes None kind is e = unnamed_takes (data_number (spelling text first)) kind refl e
  word_by_takes (Some row) kind is e =
      let h = word_found (spelling text first) row is in
      row_takes row.form row refl (record { kind = kind; listed = h.0; letters = h.1 }) e

  pub area_takes : is_word_kind first.kind ≡ true → area_operand text mnemonic first rest ≡ Ok x → Reads
  unfolding area_operand
  area_takes kind e = by (accepts mnemonic forms.Label) refl e
    where
      by : (b : Bool) → accepts mnemonic forms.Label ≡ b → cond b (label_operand (label_name (spelling text first)) first rest) (word_by (operand_word (spelling text first)) text mnemonic first rest) ≡ Ok x → Reads
      by true h e = label_takes (label_name (spelling text first)) kind h refl e
      by false h e = word_by_takes (operand_word (spelling text first)) kind refl e
