use Rattle.net_places.proofs.OwnNetLaws.{left_all, left_more}
use Rattle.net_places.specs.OwnNets.{given_names}
use Rattle.net_places.proofs.nets.add_globals.Goals as goal
use Rattle.vrt_model.proofs.Lists.{no_items}

pub names-preserved : goal.names-preserved
names-preserved c =
    left_more c.args.nets.now c.names.nets c.add_if.new.nets c.names.left.now c.in-Some.behind.now c.in-Some.name.now c.is_first_given.result c.as_bytes.result.now (given_names c.args.names.now c.args.globals.now)
    c.names.globals_left.now c.behind_first-globals_left.result.now c.in-Some.ensures.cases.0 c.as_bytes.ensures c.behind_first-globals_left.ensures c.is_first_given.ensures c.in_ok-add_if.ensures c.names.invariant

pub returns : goal.returns
returns c = left_all c.args.nets.now c.names.nets c.names.left.now (given_names c.args.names.now c.args.globals.now) c.names.globals_left.now (no_items _ c.in_default.ensures.cases) c.names.invariant
