use Rattle.net_tables.proofs.TableLaws.{found, not_past}
use Rattle.std.proofs.Common.{◌∙◌, sym}
use Rattle.net_tables.proofs.tables.find_net.Goals as goal

pub returns-in-Some : goal.returns-in-Some
returns-in-Some c design rules are lt = c.net.ensures ∙ found design rules c.args.tables.now are c.args.cell c.args.name.now _ (sym c.in-Some.ensures)

pub returns-in-None : goal.returns-in-None
returns-in-None c design rules are lt = absurd (not_past design rules c.args.tables.now are c.args.cell lt (sym c.in-None.ensures))
