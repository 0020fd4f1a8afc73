-- The byte is that of its entry, which lies at a multiple of 16.
use Rattle.std.proofs.Common.{◌≡◌, ◌+◌, ◌*◌, ◌/◌, ◌%◌, ◌<◌, ◌≤◌, get_or, length, refl, sym, ap, ◌∙◌, arith}
use Rattle.std.proofs.lemmas.List.{get_or_past}
use Rattle.std.proofs.lemmas.Option.{slice_get_within, get_or_from_slice_get}
use Rattle.std.proofs.Common.{slice_get, Some}
use Rattle.diag_buffer.specs.declared.note.Note.{Note}
use Rattle.dynamic_pages.specs.Notes.{bytes_of}
use Rattle.dynamic_pages.specs.Pages.{note_bytes}
use Rattle.dynamic_pages.proofs.Laid.{laid_length, there}
use Rattle.dynamic_pages.proofs.Again.{told, untold, past_end, same_note}
use Rattle.dynamic_pages.proofs.units.note_byte.Goals as goal

wide : (note : Note) → length (bytes_of note) ≡ 16
unfolding bytes_of
wide note = refl

pub returns-in-Some : goal.returns-in-Some
returns-in-Some c =
    let at = c.args.at in
    let all = c.args.diag.now in
    let one : Note = record { moment = c.in-Some.moment; code = c.in-Some.code } in
    let parts : at ≡ 16 * (at / 16) + at % 16 = omega arith in
    let found = told _ (slice_get all (at / 16)) _ (sym c.get.ensures ∙ c.in-Some.is) in
    let same : found.0 ≡ one = sym (same_note found.0 c.in-Some.moment c.in-Some.code (sym (ap (λ p. p.0) found.2)) (sym (ap (λ p. p.1) found.2))) in
    let here : slice_get all (at / 16) ≡ Some one = found.1 ∙ ap (λ (n : Note). Some n) same in
    let within : at / 16 < length all = slice_get_within all (at / 16) one here in
    let is : get_or all (at / 16) one ≡ one = get_or_from_slice_get all (at / 16) one one here in
    let bytes : c.note_bytes.result ≡ bytes_of one = c.note_bytes.ensures.bytes in
    ap (λ b. get_or b (at % 16) 0) (bytes ∙ ap bytes_of (sym is))
    ∙ sym (there bytes_of 16 wide all at (at / 16) (at % 16) one parts within (omega arith))

pub returns-in-None : goal.returns-in-None
returns-in-None c =
    let at = c.args.at in
    let all = c.args.diag.now in
    let past : length all ≤ at / 16 = past_end all (at / 16) (untold _ (slice_get all (at / 16)) (sym c.get.ensures ∙ c.in-None.is)) in
    sym (get_or_past (note_bytes all) at 0 (omega (arith, past, laid_length bytes_of 16 wide all)))
