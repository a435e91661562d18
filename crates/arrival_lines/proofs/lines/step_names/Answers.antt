use Rattle.arrival_lines.proofs.SettingLaws.{step_told}
use Rattle.arrival_lines.proofs.lines.step_names.Goals as goal

pub returns : goal.returns
returns c =
    step_told c.args.variables.now c.args.rising.now c.new-names.result c.add_names.new.names c.add_names-2.new.names c.new-names.ensures c.in_ok-add_names.ensures c.in_ok-add_names-2.ensures
