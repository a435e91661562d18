use Rattle.gate_verilog.proofs.BuildLaws.{entry_first}
use Rattle.gate_verilog.proofs.build.add_port.Goals as goal
use Rattle.verilog_source.specs.Grammar.{named}
use Rattle.verilog_source.specs.Modules.Entry.{listed}

pub returns : goal.returns
returns c = entry_first (listed c.args.name.now) (named c.args.line c.args.direction c.args.name.now) _ _ _ c.in_ok-add_listed.ensures c.in_ok-add_named.ensures
