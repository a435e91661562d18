use Rattle.std.proofs.Common.{sym}
use Rattle.std.specs.Prelude.{bytes_eq}
use Rattle.blif_checks.proofs.DriverLaws.{first_among, none_among}
use Rattle.blif_checks.proofs.roles.is_among_first.Goals as goal

pub returns-in-Some : goal.returns-in-Some
returns-in-Some c = first_among (bytes_eq c.args.name.now) c.args.names.now c.args.count c.in-Some.place (sym c.in-Some.ensures)

pub returns-in-None : goal.returns-in-None
returns-in-None c = sym (none_among (bytes_eq c.args.name.now) c.args.names.now c.args.count (sym c.in-None.ensures))
