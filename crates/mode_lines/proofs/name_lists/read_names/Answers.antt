use Rattle.mode_lines.proofs.NameLaws.{some_name}
use Rattle.mode_lines.proofs.name_lists.read_names.Goals as goal

pub returns-in-Ok-clause-some : goal.returns-in-Ok-clause-some
returns-in-Ok-clause-some c = some_name c.args.list.now c.new-names.result c.add_names.new.names c.new-names.ensures c.in-Ok.ensures.1
