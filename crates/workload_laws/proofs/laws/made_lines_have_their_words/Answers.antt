use Rattle.workload_laws.proofs.Words.{lines_have_words}
use Rattle.workload_laws.proofs.laws.made_lines_have_their_words.Goals as goal

-- src/laws.rt:12:1
pub returns : goal.returns
returns c = lines_have_words
