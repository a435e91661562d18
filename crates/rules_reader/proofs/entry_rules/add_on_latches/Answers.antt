use Rattle.std.proofs.Common.{rules}
use Rattle.rules_reader.proofs.GroupLaws.{adds_none}
use Rattle.rules_reader.proofs.entry_rules.add_on_latches.Goals as goal

pub returns-in_default : goal.returns-in_default
returns-in_default c = λ clocks phases. adds_none clocks phases _ _ _ (search rules)
