use Rattle.std.proofs.Common.{sym, ◌∙◌}
use Rattle.std.specs.Prelude.{bytes_eq}
use Rattle.blif_checks.proofs.MentionLaws.{position_none}
use Rattle.blif_checks.proofs.mentions.number_among.Goals as goal

pub returns-in-None : goal.returns-in-None
returns-in-None c = c.len.ensures ∙ sym (position_none (bytes_eq c.args.name.now) c.args.names.now (sym c.in-None.ensures))
