use Rattle.std.proofs.Common.{List, ap}
use Rattle.std.specs.List.{flat_map}
use Rattle.s7_base.specs.Blocks.{Code, Data}
use Rattle.trace_printer.specs.LoadText.{code_line, data_line}
use Rattle.trace_printer.proofs.Sections.{goes_on, halts, closes}
use Rattle.trace_printer.proofs.load_text.print_blocks.Goals as goal

pub returns-in_err-print_codes : goal.returns-in_err-print_codes
returns-in_err-print_codes g c =
    let codes = ap (λ (all : List Code). flat_map code_line all) c.codes.ensures.list in
    halts _ c.from_residual.ensures.0 codes c.in_err-print_codes.ensures

pub returns-in_err-print_data_blocks : goal.returns-in_err-print_data_blocks
returns-in_err-print_data_blocks g c =
    let codes = ap (λ (all : List Code). flat_map code_line all) c.codes.ensures.list in
    let data_blocks = ap (λ (all : List Data). flat_map data_line all) c.data_blocks.ensures.list in
    goes_on codes c.in_ok-print_codes.ensures
    (halts _ c.from_residual-in_err-print_data_blocks.ensures.0 data_blocks c.in_err-print_data_blocks.ensures)

pub returns : goal.returns
returns g c =
    let codes = ap (λ (all : List Code). flat_map code_line all) c.codes.ensures.list in
    let data_blocks = ap (λ (all : List Data). flat_map data_line all) c.data_blocks.ensures.list in
    goes_on codes c.in_ok-print_codes.ensures
    (goes_on data_blocks c.in_ok-print_data_blocks.ensures (closes c.put_count.ensures c.write_line.ensures))
