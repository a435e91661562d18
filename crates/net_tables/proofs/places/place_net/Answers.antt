use Rattle.std.proofs.Common.{◌∙◌, ◌+◌, ℕ, ap, sym}
use Rattle.net_tables.proofs.PlaceNetLaws.{global_is, global_there, net_is, port_is}
use Rattle.net_tables.specs.Places.{place_net}
use Rattle.vrt_model.specs.declared.ids.Net.{Net}
use Rattle.net_tables.proofs.places.place_net.Goals as goal

pub returns-in-Supply-clause-net : goal.returns-in-Supply-clause-net
returns-in-Supply-clause-net c t at name are named is = c.supply_net.ensures ∙ ap (place_net t at) (sym c.in-Supply.is ∙ is) ∙ net_is t at name

pub returns-in-Port-clause-net : goal.returns-in-Port-clause-net
returns-in-Port-clause-net c t at name are named is =
    ap (λ (n : Net). n.0) c.net_or_first.ensures ∙ port_is t at c.args.ports.now c.args.base c.args.globals.now are c.in-Port.place
    ∙ ap (place_net t at) (sym c.in-Port.is ∙ is) ∙ net_is t at name

pub returns-in-Global-clause-net : goal.returns-in-Global-clause-net
returns-in-Global-clause-net c t at name are named is =
    let k = global_there t at name c.in-Global.place named (sym c.in-Global.is ∙ is) in
    ap (λ (n : Net). n.0) c.net_or_first-in-Global.ensures ∙ global_is t at c.args.ports.now c.args.base c.args.globals.now are c.in-Global.place k.1 k.0 k.2
    ∙ ap (place_net t at) (sym c.in-Global.is ∙ is) ∙ net_is t at name

pub returns-in-Own-clause-net : goal.returns-in-Own-clause-net
returns-in-Own-clause-net c t at name are named is =
    ap (λ (base : ℕ). base + c.in-Own.place) are.base_is ∙ ap (place_net t at) (sym c.in-Own.is ∙ is) ∙ net_is t at name
