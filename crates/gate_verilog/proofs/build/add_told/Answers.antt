use Rattle.std.proofs.lemmas.Result.{on_ok_weaker}
use Rattle.gate_verilog.proofs.BuildLaws.{assigned_told, begun_told, ended_told, entries_told, entry_told}
use Rattle.gate_verilog.proofs.build.add_told.Goals as goal
use Rattle.verilog_expression.specs.Grammar.{seen}
use Rattle.verilog_source.specs.Grammar.{named, port_entries}
use Rattle.std.proofs.Common.{ap₂, map}
use Rattle.verilog_source.specs.Modules.Entry.{gate, instance}
use Rattle.verilog_source.specs.Positions.{seen_tie}

pub returns-in-Begins : goal.returns-in-Begins
returns-in-Begins c =
    rw (c.in-Begins.is) (λ b h. on_ok_weaker c.begin_module.result (begun_told b c.in-Begins.line c.args.bytes.now _ _ _ h) c.begin_module.ensures)

pub returns-in-Port : goal.returns-in-Port
returns-in-Port c =
    rw (c.in-Port.is) (λ b h. on_ok_weaker c.add_port.result (entries_told b (port_entries c.in-Port.line c.in-Port.direction c.args.bytes.now) _ _ _ h) c.add_port.ensures)

pub returns-in-Named : goal.returns-in-Named
returns-in-Named c =
    rw (c.in-Named.is) (λ b h. on_ok_weaker c.add_named.result (entries_told b (named c.in-Named.line c.in-Named.direction c.args.bytes.now) _ _ _ h) c.add_named.ensures)

pub returns-in-Assigned : goal.returns-in-Assigned
returns-in-Assigned c =
    let w = c.args.work.now in
    rw (c.in-Assigned.is)
    (λ b h. on_ok_weaker c.add_values.result
    (assigned_told b c.in-Assigned.line c.as_bytes.result.now w.name c.as_slice.result.now w.inputs _ _ _ c.as_bytes.ensures c.as_slice.ensures h)
    c.add_values.ensures)

pub returns-in-Gate : goal.returns-in-Gate
returns-in-Gate c =
    let w = c.args.work.now in
    rw (c.in-Gate.is)
    (λ b h. on_ok_weaker c.add_gate.result
    (entry_told b (gate c.in-Gate.line c.in-Gate.kind c.as_slice-in-Gate.result.now (map seen c.as_slice-in-Gate-2.result.now)) (gate c.in-Gate.line c.in-Gate.kind w.outputs (map seen w.inputs))
    _ _ _ (ap₂ (λ os es. gate c.in-Gate.line c.in-Gate.kind os (map seen es)) c.as_slice-in-Gate.ensures c.as_slice-in-Gate-2.ensures) h)
    c.add_gate.ensures)

pub returns-in-Instance : goal.returns-in-Instance
returns-in-Instance c =
    let w = c.args.work.now in
    rw (c.in-Instance.is)
    (λ b h. on_ok_weaker c.add_instance.result
    (entry_told b (instance c.in-Instance.line c.as_bytes-in-Instance.result.now (map seen_tie c.as_slice-in-Instance.result.now)) (instance c.in-Instance.line w.«module» (map seen_tie w.ties))
    _ _ _ (ap₂ (λ n ts. instance c.in-Instance.line n (map seen_tie ts)) c.as_bytes-in-Instance.ensures c.as_slice-in-Instance.ensures) h)
    c.add_instance.ensures)

pub returns-in-Ends : goal.returns-in-Ends
returns-in-Ends c =
    rw (c.in-Ends.is)
    (λ b h. on_ok_weaker c.end_module.result (λ e. ended_told b _ _ _ _ h e c.end_module.ensures.draft) (c.end_module.ensures.models b.open_one h.drafted))
