-- The pages before page k stand there.
use Rattle.std.proofs.Common.{◌≡◌}
use Rattle.std.specs.List.{flat_map, range_with_len}
use Rattle.dynamic_pages.specs.Pages.{page_of, counter_bytes}
use Rattle.pages_tests.proofs.pages.bytes_of_counters.Given as goal

abbrev pub invariant-loop-k : goal.invariant-loop-k
invariant-loop-k l = l.bytes.items ≡ flat_map (page_of (counter_bytes l.counters)) (range_with_len 0 l.k)
