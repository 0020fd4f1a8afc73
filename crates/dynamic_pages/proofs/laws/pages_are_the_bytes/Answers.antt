-- Each page has the bytes of its place.
use Rattle.dynamic_pages.proofs.Whole.{whole}
use Rattle.dynamic_pages.proofs.laws.pages_are_the_bytes.Goals as goal

pub returns : goal.returns
returns c bytes n long = whole bytes n long
