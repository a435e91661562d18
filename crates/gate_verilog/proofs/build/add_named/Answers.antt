use Rattle.std.proofs.lemmas.Result.{on_ok_weaker}
use Rattle.gate_verilog.proofs.BuildLaws.{entry_added, none_added}
use Rattle.gate_verilog.proofs.build.add_named.Goals as goal
use Rattle.verilog_source.specs.Modules.Entry.{directed}

pub returns-in-Some : goal.returns-in-Some
returns-in-Some c =
    rw (c.in-Some.is) (on_ok_weaker c.add_directed.result (entry_added (directed c.args.line c.in-Some.direction c.args.name.now) _ _) c.add_directed.ensures)

pub returns-in-None : goal.returns-in-None
returns-in-None c = rw (c.in-None.is) (none_added c.args.draft.now)
