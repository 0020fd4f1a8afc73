use Rattle.status_word.proofs.Bits.{bits_of_its_status}
use Rattle.status_word.proofs.status.StatusWord.of_bits.Goals as goal

pub returns-clause-back : goal.returns-clause-back
returns-clause-back c =
    rw (c.is_set.ensures, c.is_set-2.ensures, c.is_set-3.ensures, c.is_set-4.ensures, c.is_set-5.ensures, c.is_set-6.ensures, c.is_set-7.ensures, c.is_set-8.ensures, c.is_set-9.ensures)
    (bits_of_its_status c.args.word)
