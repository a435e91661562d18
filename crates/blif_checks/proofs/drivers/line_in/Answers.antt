use Rattle.std.proofs.Common.{sym, ◌∙◌}
use Rattle.blif_checks.proofs.DriverLaws.{line_is, line_none}
use Rattle.blif_checks.proofs.drivers.line_in.Goals as goal

pub returns-in_err-number : goal.returns-in_err-number
returns-in_err-number c = rw c.from_residual.ensures (sym (line_none c.args.names.now c.args.lines.now c.args.name.now c.requires (sym c.in_err-number.ensures)))

pub returns : goal.returns
returns c = c.line_at.ensures ∙ line_is c.args.names.now c.args.lines.now c.args.name.now c.in_ok-number.number c.requires (sym c.in_ok-number.ensures)
