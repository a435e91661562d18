-- What each test finds is the cause, and where none finds anything, all is known that is asked.
use Rattle.std.proofs.Common.{Option, Some, subst}
use Rattle.std.specs.Prelude.{Ok}
use Rattle.std.proofs.lemmas.Result.{err_from_is_err_and}
use Rattle.cell_room.proofs.StepLaws.{by_circuit, by_clock, by_device, by_model, by_pairing, counted_of, placed_tells, stops_for, structured_of}
use Rattle.cell_room.specs.Steps.{CircuitTells, IsEarlyWhy, IsFoundBy, circuit_why, clock_why, model_why, pairing_why}
use Rattle.latch_match.specs.Paired.{IsPairing}
use Rattle.vrt_model.specs.Unsupported.{top_before}
use Rattle.vrt_model.specs.declared.verdict.Why.{Why}
use Rattle.cell_room.proofs.flattening.flatten_cell.Goals as goal

pub circuit_cause-requires-clause-netlist : goal.circuit_cause-requires-clause-netlist
circuit_cause-requires-clause-netlist c = c.requires.inputs.netlist

pub circuit_cause-requires-clause-there : goal.circuit_cause-requires-clause-there
circuit_cause-requires-clause-there c = c.requires.inputs.there

pub circuit_cause-requires-clause-indexed : goal.circuit_cause-requires-clause-indexed
circuit_cause-requires-clause-indexed c = c.requires.prepared.index_is

pub flat_model_of-requires-clause-tables : goal.flat_model_of-requires-clause-tables
flat_model_of-requires-clause-tables c = c.requires.prepared.models_are

pub flat_model_of-requires-clause-blif : goal.flat_model_of-requires-clause-blif
flat_model_of-requires-clause-blif c = c.requires.inputs.names

pub flat_model_of-requires-clause-models : goal.flat_model_of-requires-clause-models
flat_model_of-requires-clause-models c = c.requires.inputs.models

pub pairing_of-requires-clause-indexed : goal.pairing_of-requires-clause-indexed
pairing_of-requires-clause-indexed c = c.requires.prepared.index_is

pub pairing_of-requires-clause-cell : goal.pairing_of-requires-clause-cell
pairing_of-requires-clause-cell c = c.requires.inputs.there

pub pairing_of-requires-clause-rules : goal.pairing_of-requires-clause-rules
pairing_of-requires-clause-rules c = c.requires.inputs.valid

pub placed_with-requires-clause-structured : goal.placed_with-requires-clause-structured
placed_with-requires-clause-structured c =
    structured_of (top_before c.args.design.now c.args.rules.now c.args.cell) c.in_ok-cause.cause c.in_ok-cause.ensures c.in_default.not-Some

pub returns-in_err-cause : goal.returns-in_err-cause
returns-in_err-cause c =
    let t = top_before c.args.design.now c.args.rules.now c.args.cell in
    let p = err_from_is_err_and c.from_residual.result c.from_residual.ensures.1 in
    rw (p.1, p.2) (stops_for (IsFoundBy (circuit_why t)) (IsEarlyWhy c.args.design.now c.args.blif.now c.args.rules.now c.args.cell)
    (by_circuit c.args.design.now c.args.blif.now c.args.rules.now c.args.cell c.args.model c.requires.paired) _ c.in_err-cause.ensures)

pub returns-in_err-flat_model : goal.returns-in_err-flat_model
returns-in_err-flat_model c =
    let t = top_before c.args.design.now c.args.rules.now c.args.cell in
    let p = err_from_is_err_and c.from_residual-in_err-flat_model.result c.from_residual-in_err-flat_model.ensures.1 in
    rw (p.1, p.2) (stops_for (IsFoundBy (model_why c.args.blif.now c.args.model)) (IsEarlyWhy c.args.design.now c.args.blif.now c.args.rules.now c.args.cell)
    (by_model c.args.design.now c.args.blif.now c.args.rules.now c.args.cell c.args.model c.requires.paired (counted_of t c.in_ok-cause.cause c.in_ok-cause.ensures)) _ c.in_err-flat_model.ensures)

pub returns-in-Some : goal.returns-in-Some
returns-in-Some c =
    let t = top_before c.args.design.now c.args.rules.now c.args.cell in
    let tells : CircuitTells t (Ok (Some c.in-Some.why)) = subst (λ (cause : Option Why). CircuitTells t (Ok cause)) c.in-Some.is c.in_ok-cause.ensures in
    by_device c.args.design.now c.args.blif.now c.args.rules.now c.args.cell c.args.model c.requires.paired tells.0 c.in_ok-flat_model.ensures.0 c.in-Some.why tells.1

pub returns-in_err-pairing : goal.returns-in_err-pairing
returns-in_err-pairing c =
    let t = top_before c.args.design.now c.args.rules.now c.args.cell in
    let flat = c.in_ok-flat_model.flat_model in
    let p = err_from_is_err_and c.from_residual-in_err-pairing.result c.from_residual-in_err-pairing.ensures.1 in
    rw (p.1, p.2) (stops_for (IsFoundBy (pairing_why c.args.design.now c.args.cell flat c.args.rules.now)) (IsEarlyWhy c.args.design.now c.args.blif.now c.args.rules.now c.args.cell)
    (by_pairing c.args.design.now c.args.blif.now c.args.rules.now c.args.cell c.args.model c.requires.paired
    (structured_of t c.in_ok-cause.cause c.in_ok-cause.ensures c.in_default.not-Some) c.in_ok-flat_model.ensures.0 flat c.in_ok-flat_model.ensures.1) _ c.in_err-pairing.ensures)

pub returns-in_err-clocked : goal.returns-in_err-clocked
returns-in_err-clocked c =
    let t = top_before c.args.design.now c.args.rules.now c.args.cell in
    let flat = c.in_ok-flat_model.flat_model in
    let p = err_from_is_err_and c.from_residual-in_err-clocked.result c.from_residual-in_err-clocked.ensures.1 in
    rw (p.1, p.2) (stops_for (IsFoundBy (clock_why flat c.args.rules.now)) (IsEarlyWhy c.args.design.now c.args.blif.now c.args.rules.now c.args.cell)
    (by_clock c.args.design.now c.args.blif.now c.args.rules.now c.args.cell c.args.model c.requires.paired
    (structured_of t c.in_ok-cause.cause c.in_ok-cause.ensures c.in_default.not-Some) c.in_ok-flat_model.ensures.0 flat c.in_ok-flat_model.ensures.1
    c.in_ok-pairing.ensures.ports c.in_ok-pairing.ensures.outputs) _ c.in_err-clocked.ensures)

pub returns : goal.returns
returns c =
    let t = top_before c.args.design.now c.args.rules.now c.args.cell in
    let flat = c.in_ok-flat_model.flat_model in
    let pairing : IsPairing c.args.design.now c.args.cell c.args.model flat c.args.rules.now c.in_ok-pairing.pairing = c.in_ok-pairing.ensures in
    placed_tells c.args.design.now c.args.blif.now c.args.rules.now c.args.cell c.args.model flat c.in_ok-pairing.pairing c.placed_with.result c.requires.paired
    c.requires.inputs.valid (structured_of t c.in_ok-cause.cause c.in_ok-cause.ensures c.in_default.not-Some) c.in_ok-flat_model.ensures.0 c.in_ok-flat_model.ensures.1
    c.in_ok-flat_model.ensures.2 pairing c.in_ok-clocked.ensures c.placed_with.ensures
