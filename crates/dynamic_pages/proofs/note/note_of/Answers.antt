-- The entry is that whose bytes these are.
use Rattle.std.proofs.Common.{◌≡◌, rules}
use Rattle.dynamic_pages.proofs.Again.{moment_read, code_read, detail_read, same_note}
use Rattle.dynamic_pages.proofs.note.note_of.Goals as goal

pub returns : goal.returns
returns c note fits e =
    let bytes = c.args.bytes.now in
    let moment : c.from_be_bytes.result ≡ note.moment = moment_read bytes note c.from_be_bytes.result (search rules) e fits in
    let number = code_read bytes note c.from_be_bytes-number.result (search rules) e in
    let detail = detail_read bytes note c.from_be_bytes-detail.result (search rules) e fits in
    let code : c.code_of.result ≡ note.code = c.code_of.ensures note.code fits.detail number detail in
    same_note note _ _ moment code
