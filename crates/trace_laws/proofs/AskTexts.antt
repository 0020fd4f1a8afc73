-- What a request's text tells.
use Rattle.std.proofs.Common.{◌≡◌, ◌∙◌, ℕ, ◌+◌, ◌*◌, ◌^◌, ◌<◌, List, ◌∷◌, ◌++◌, refl, ap, sym, subst, arith, inl, inr}
use Rattle.std.specs.Prelude.{Option, Some, None, get_or, codes}
use Rattle.std.specs.Fmt.{decimal}
use Rattle.std.proofs.lemmas.List.{append_assoc, append_cancel_left}
use Rattle.std.proofs.lemmas.Fmt.{decimal_injective}
use Rattle.s7_events.specs.declared.entry.Ask.{Ask}
use Rattle.s7_events.specs.declared.entry.Ask.TheVariants as asks
use Rattle.trace_text.specs.Image.{hex, image}
use Rattle.trace_text.specs.EntryText.{stop_word, reply_text, ask_text}
use Rattle.trace_laws.specs.Determines.{IsInRange}
use Rattle.trace_laws.proofs.Splits.{Free, equals_sign, free_by, free_append, split_at}
use Rattle.trace_laws.proofs.Numbers.{decimal_free, hex_one, hex_free}
use Rattle.trace_laws.proofs.Images.{image_one, image_free}
use Rattle.trace_laws.proofs.AnswerTexts.{stop_one, stop_free}

-- the form of a request, by the first letter of its text and the third
abbrev ask_form : List ℕ → ℕ
ask_form t = get_or t 0 0 + 2 * get_or t 2 0

-- two numbers with a blank between them
pub numbers_split : (a b : ℕ) (x y : List ℕ) → a < 2 ^ 64 → b < 2 ^ 64 → decimal a ++ 32 ∷ x ≡ decimal b ++ 32 ∷ y → (a ≡ b) × (x ≡ y)
numbers_split a b x y la lb e =
    let parts = split_at 32 (decimal a) (decimal b) x y (decimal_free 32 a (inl (omega arith))) (decimal_free 32 b (inl (omega arith))) e in
    (decimal_injective a b la lb parts.0, parts.1)

read_text : (addr width : ℕ) → ask_text (asks.ReadP addr width) ≡ codes "RP " ++ (decimal addr ++ 32 ∷ decimal width)
read_text addr width =
    append_assoc (codes "RP " ++ decimal addr) (codes " ") (decimal width) ∙ append_assoc (codes "RP ") (decimal addr) (32 ∷ decimal width)

read_one : (a w b v : ℕ) → a < 2 ^ 16 → w < 2 ^ 8 → b < 2 ^ 16 → v < 2 ^ 8 → ask_text (asks.ReadP a w) ≡ ask_text (asks.ReadP b v) → asks.ReadP a w ≡ asks.ReadP b v
read_one a w b v la lw lb lv e =
    let behind = append_cancel_left (codes "RP ") _ _ (sym (read_text a w) ∙ e ∙ read_text b v) in
    let parts = numbers_split a b (decimal w) (decimal v) (omega arith) (omega arith) behind in
    let addrs = parts.0 in
    let widths = decimal_injective w v (omega arith) (omega arith) parts.1 in
    cc

write_shape : (p a s w t h : List ℕ) → p ++ a ++ s ++ w ++ t ++ h ≡ p ++ (a ++ (s ++ (w ++ (t ++ h))))
write_shape p a s w t h = simp append_assoc

write_text : (addr width value : ℕ) → ask_text (asks.WriteP addr width value) ≡ codes "WP " ++ (decimal addr ++ 32 ∷ (decimal width ++ 32 ∷ hex width value))
write_text addr width value = write_shape (codes "WP ") (decimal addr) (codes " ") (decimal width) (codes " ") (hex width value)

write_one : (a w x b v y : ℕ) → a < 2 ^ 16 → w < 2 ^ 8 → x < 256 ^ w → b < 2 ^ 16 → v < 2 ^ 8 → y < 256 ^ v
    → ask_text (asks.WriteP a w x) ≡ ask_text (asks.WriteP b v y) → asks.WriteP a w x ≡ asks.WriteP b v y
write_one a w x b v y la lw lx lb lv ly e =
    let behind = append_cancel_left (codes "WP ") _ _ (sym (write_text a w x) ∙ e ∙ write_text b v y) in
    let first = numbers_split a b (decimal w ++ 32 ∷ hex w x) (decimal v ++ 32 ∷ hex v y) (omega arith) (omega arith) behind in
    let second = numbers_split w v (hex w x) (hex v y) (omega arith) (omega arith) first.1 in
    let addrs = first.0 in
    let widths = second.0 in
    let fits : y < 256 ^ w = subst (λ (n : ℕ). y < 256 ^ n) (sym widths) ly in
    let values = hex_one w x y lx fits (second.1 ∙ ap (λ (n : ℕ). hex n y) (sym widths)) in
    cc

reply_one : (a b : Option ℕ) → IsInRange (asks.Reply a) → IsInRange (asks.Reply b) → reply_text a ≡ reply_text b → a ≡ b
reply_one None None ra rb e = refl
reply_one (Some x) (Some y) ra rb e = ap Some (hex_one 4 x y ra rb (append_cancel_left (codes "REPLY OK ") (hex 4 x) (hex 4 y) e))
reply_one None (Some y) ra rb e = absurd (omega (arith, ap (λ (t : List ℕ). get_or t 6 0) e))
reply_one (Some x) None ra rb e = absurd (omega (arith, ap (λ (t : List ℕ). get_or t 6 0) e))

reply_form : (a : Option ℕ) → ask_form (reply_text a) ≡ 242
reply_form None = refl
reply_form (Some x) = refl

pub ask_one : (a b : Ask) → IsInRange a → IsInRange b → ask_text a ≡ ask_text b → a ≡ b
ask_one (asks.Outputs x) (asks.Outputs y) ra rb e = ap asks.Outputs (image_one x y ra rb (append_cancel_left (codes "OUT ") (image x) (image y) e))
ask_one asks.Inputs asks.Inputs ra rb e = refl
ask_one asks.Cycle asks.Cycle ra rb e = refl
ask_one (asks.ReadP a w) (asks.ReadP b v) ra rb e = read_one a w b v ra.0 ra.1 rb.0 rb.1 e
ask_one (asks.WriteP a w x) (asks.WriteP b v y) ra rb e = write_one a w x b v y ra.0 ra.1 ra.2 rb.0 rb.1 rb.2 e
ask_one asks.Now asks.Now ra rb e = refl
ask_one asks.Tick asks.Tick ra rb e = refl
ask_one asks.Retrigger asks.Retrigger ra rb e = refl
ask_one (asks.Reply x) (asks.Reply y) ra rb e = ap asks.Reply (reply_one x y ra rb e)
ask_one (asks.Stop c) (asks.Stop d) ra rb e = ap asks.Stop (stop_one c d (append_cancel_left (codes "STOP ") (stop_word c) (stop_word d) e))
ask_one (asks.Reply x) b ra rb e = absurd (omega (arith, ap ask_form e, reply_form x))
ask_one a (asks.Reply y) ra rb e = absurd (omega (arith, ap ask_form e, reply_form y))
ask_one (asks.Outputs x) b ra rb e = absurd (omega (arith, ap ask_form e))
ask_one asks.Inputs b ra rb e = absurd (omega (arith, ap ask_form e))
ask_one asks.Cycle b ra rb e = absurd (omega (arith, ap ask_form e))
ask_one (asks.ReadP a w) b ra rb e = absurd (omega (arith, ap ask_form e))
ask_one (asks.WriteP a w x) b ra rb e = absurd (omega (arith, ap ask_form e))
ask_one asks.Now b ra rb e = absurd (omega (arith, ap ask_form e))
ask_one asks.Tick b ra rb e = absurd (omega (arith, ap ask_form e))
ask_one asks.Retrigger b ra rb e = absurd (omega (arith, ap ask_form e))
ask_one (asks.Stop c) b ra rb e = absurd (omega (arith, ap ask_form e))

-- no equals sign stands in a request --

reply_free : (a : Option ℕ) → Free 61 (reply_text a)
reply_free None = free_by 61 (codes "REPLY BAD") refl
reply_free (Some x) = free_append 61 (codes "REPLY OK ") (hex 4 x) (free_by 61 (codes "REPLY OK ") refl) (hex_free 61 4 x equals_sign)

pub ask_free : (a : Ask) → Free 61 (ask_text a)
ask_free (asks.Outputs x) = free_append 61 (codes "OUT ") (image x) (free_by 61 (codes "OUT ") refl) (image_free 61 x equals_sign)
ask_free asks.Inputs = free_by 61 (codes "IN") refl
ask_free asks.Cycle = free_by 61 (codes "CYCLE") refl
ask_free (asks.ReadP a w) =
    free_append 61 (codes "RP " ++ decimal a ++ codes " ") (decimal w)
    (free_append 61 (codes "RP " ++ decimal a) (codes " ")
    (free_append 61 (codes "RP ") (decimal a) (free_by 61 (codes "RP ") refl) (decimal_free 61 a (inr (omega arith)))) (free_by 61 (codes " ") refl))
    (decimal_free 61 w (inr (omega arith)))
ask_free (asks.WriteP a w x) =
    free_append 61 (codes "WP " ++ decimal a ++ codes " " ++ decimal w ++ codes " ") (hex w x)
    (free_append 61 (codes "WP " ++ decimal a ++ codes " " ++ decimal w) (codes " ")
    (free_append 61 (codes "WP " ++ decimal a ++ codes " ") (decimal w)
    (free_append 61 (codes "WP " ++ decimal a) (codes " ")
    (free_append 61 (codes "WP ") (decimal a) (free_by 61 (codes "WP ") refl) (decimal_free 61 a (inr (omega arith)))) (free_by 61 (codes " ") refl))
    (decimal_free 61 w (inr (omega arith)))) (free_by 61 (codes " ") refl))
    (hex_free 61 w x equals_sign)
ask_free asks.Now = free_by 61 (codes "NOW") refl
ask_free asks.Tick = free_by 61 (codes "TICK") refl
ask_free asks.Retrigger = free_by 61 (codes "TRIG") refl
ask_free (asks.Reply x) = reply_free x
ask_free (asks.Stop c) = free_append 61 (codes "STOP ") (stop_word c) (free_by 61 (codes "STOP ") refl) (stop_free 61 c equals_sign)
