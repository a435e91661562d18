use Rattle.std.proofs.Common.{◌∙◌, ap, sym}
use Rattle.net_places.proofs.OwnNetLaws.{inner_are}
use Rattle.net_places.proofs.nets.add_inner_nets.Goals as goal

pub returns : goal.returns
returns c t same are is =
    inner_are t c.args.tables.now c.args.unrolled.now c.as_slice.result.now c.as_slice-2.result.now c.as_slice-3.result.now c.args.nets.now c.add_globals.new.nets c.add_places.new.nets
    (ap (λ design. design.globals) same ∙ sym c.as_slice.ensures) (sym c.as_slice-2.ensures) (sym c.as_slice-3.ensures) are is c.in_ok-add_globals.ensures c.in_ok-add_places.ensures
