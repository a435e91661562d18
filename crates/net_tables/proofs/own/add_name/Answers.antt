use Rattle.std.proofs.Common.{◌∙◌, sym}
use Rattle.net_tables.proofs.OwnLaws.{own_there}
use Rattle.net_tables.specs.Names.{shared_in}
use Rattle.net_tables.proofs.own.add_name.Goals as goal

pub returns-then-contains : goal.returns-then-contains
returns-then-contains c = own_there (shared_in c.args.shared.now c.args.ports.now) c.args.own.now c.args.name.now (sym c.contains.ensures ∙ c.if-contains.true)
