use Rattle.std.proofs.Common.{◌∙◌, ap, ap₂, arith, sym, List}
use Rattle.flat_holds.proofs.FallLaws.{own_bound}
use Rattle.net_tables.specs.Nets.{net_in}
use Rattle.net_tables.specs.Places.{number_by}
use Rattle.vrt_model.specs.Comparison.{cell_at}
use Rattle.vrt_model.specs.declared.ids.Net.{Net}
use Rattle.flat_holds.proofs.falls.rule_net.Goals as goal

pub place_net-requires : goal.place_net-requires
place_net-requires c i is =
    let found = c.find_net-net.ensures c.args.design.now c.args.rules.now c.requires.tables_are c.requires.cell in
    let bound = own_bound c.args.design.now c.args.rules.now (cell_at c.args.design.now c.args.place.now.cell) c.as_bytes.result.now i (sym found ∙ is) in
    let room = c.requires.room in
    omega (arith, bound, room)

pub returns : goal.returns
returns c =
    c.place_net.ensures.number
    ∙ ap₂ (λ (ports globals : List Net). number_by ports c.args.place.now.base globals c.find_net-net.result) c.as_slice.ensures c.as_slice-2.ensures
    ∙ ap (number_by c.args.place.now.ports c.args.place.now.base c.args.unrolled.now.globals)
    (c.find_net-net.ensures c.args.design.now c.args.rules.now c.requires.tables_are c.requires.cell
    ∙ ap (net_in c.args.design.now c.args.rules.now (cell_at c.args.design.now c.args.place.now.cell)) c.as_bytes.ensures)
