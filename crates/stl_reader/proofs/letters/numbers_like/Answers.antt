use Rattle.stl_reader.proofs.FirstLetters.{group_like, group_begins, group_ends}
use Rattle.stl_reader.proofs.letters.numbers_like.Goals as goal

pub slice_bounds-result-count : goal.slice_bounds-result-count
slice_bounds-result-count c = group_begins c.args.letter

pub slice_bounds-result-start : goal.slice_bounds-result-start
slice_bounds-result-start c = group_begins c.args.letter

pub slice_bounds-result-end : goal.slice_bounds-result-end
slice_bounds-result-end c = group_ends c.args.letter

pub returns : goal.returns
returns c = group_like c.args.letter
