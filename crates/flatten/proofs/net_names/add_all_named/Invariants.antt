use Rattle.std.proofs.Common.{◌≡◌, drop, filter}
use Rattle.vrt_model.specs.Lists.{has_name}
use Rattle.flatten.specs.NetTables.{with_nets}
use Rattle.rule_index.specs.Tables.{supply_in}
use Rattle.flatten.proofs.net_names.add_all_named.Given as goal

-- the names so far, with those of the rest that cards name
abbrev pub invariant-loop-name : goal.invariant-loop-name
invariant-loop-name l =
    with_nets (supply_in l.supplies) l.names (filter (has_name l.named) (drop l.name-index l.globals))
    ≡ with_nets (supply_in l.supplies) l.fn.names (filter (has_name l.named) l.globals)
