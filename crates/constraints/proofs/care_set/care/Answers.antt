use Rattle.std.proofs.Common.{Ok, Err, List}
use Rattle.bdd_core.proofs.Frames.{gives_error}
use Rattle.hold_keep.specs.Rooted.{bits_at}
use Rattle.vrt_model.specs.declared.groups.Group.{Group as HoldGroup}
use Rattle.vrt_model.specs.declared.groups.Source.{Source}
use Rattle.constraints.proofs.CaredLaws.{care_counts, care_gives, care_refused, entered, taken}
use Rattle.constraints.specs.Cared.{meets_by}
use Rattle.constraints.proofs.care_set.care.Goals as goal

pub returns-in-Err-clause-gives : goal.returns-in-Err-clause-gives
returns-in-Err-clause-gives c =
    gives_error c.args.store.now c.add_assumptions.new.store _
    (λ v. meets_by c.args.design.now c.args.rules.now c.args.cell c.args.circuit.now c.args.groups.now c.args.vars.now.sources c.args.phase (bits_at c.args.vars.now.sources v)) c.in-Err.spent
    c.in-Err.ensures.gives

pub returns-in-Err-clause-counts : goal.returns-in-Err-clause-counts
returns-in-Err-clause-counts c u low within =
    let design = c.args.design.now in
    let rules = c.args.rules.now in
    let circuit = c.args.circuit.now in
    let groups : List HoldGroup = c.args.groups.now in
    let sources : List Source = c.args.vars.now.sources in
    let old = c.args.store.now in
    let mid = c.add_assumptions.new.store in
    care_refused design rules c.args.cell circuit groups sources c.args.phase c.args.roots old c.requires.len c.requires.groups mid c.in-Err.spent
    (taken design rules c.args.cell circuit c.args.phase c.args.roots old mid (Err c.in-Err.spent) c.cell_ports.result.now c.phase_bits.result.now c.cell_name-name.result.now c.as_slice.result.now
    c.cell_ports.ensures c.phase_bits.ensures c.cell_name-name.ensures c.as_slice.ensures c.in-Err.ensures)
    u low within

pub returns-clause-gives : goal.returns-clause-gives
returns-clause-gives c =
    let design = c.args.design.now in
    let rules = c.args.rules.now in
    let circuit = c.args.circuit.now in
    let groups : List HoldGroup = c.args.groups.now in
    let sources : List Source = c.args.vars.now.sources in
    let old = c.args.store.now in
    let mid = c.add_assumptions.new.store in
    let new = c.add_groups.new.store in
    care_gives design rules c.args.cell circuit groups sources c.args.phase c.args.roots old c.requires.len c.requires.groups mid new c.in-Ok.assumed c.add_groups.result
    (taken design rules c.args.cell circuit c.args.phase c.args.roots old mid (Ok c.in-Ok.assumed) c.cell_ports.result.now c.phase_bits.result.now c.cell_name-name.result.now c.as_slice.result.now
    c.cell_ports.ensures c.phase_bits.ensures c.cell_name-name.ensures c.as_slice.ensures c.in-Ok.ensures)
    (entered circuit c.args.phase mid new c.in-Ok.assumed c.add_groups.result c.as_slice-2.result.now sources c.as_slice-3.result.now groups c.as_slice-2.ensures c.as_slice-3.ensures c.add_groups.ensures)
    c.requires.inputs

pub returns-clause-counts : goal.returns-clause-counts
returns-clause-counts c u low within =
    let design = c.args.design.now in
    let rules = c.args.rules.now in
    let circuit = c.args.circuit.now in
    let groups : List HoldGroup = c.args.groups.now in
    let sources : List Source = c.args.vars.now.sources in
    let old = c.args.store.now in
    let mid = c.add_assumptions.new.store in
    let new = c.add_groups.new.store in
    care_counts design rules c.args.cell circuit groups sources c.args.phase c.args.roots old c.requires.len c.requires.groups mid new c.in-Ok.assumed c.add_groups.result
    (taken design rules c.args.cell circuit c.args.phase c.args.roots old mid (Ok c.in-Ok.assumed) c.cell_ports.result.now c.phase_bits.result.now c.cell_name-name.result.now c.as_slice.result.now
    c.cell_ports.ensures c.phase_bits.ensures c.cell_name-name.ensures c.as_slice.ensures c.in-Ok.ensures)
    (entered circuit c.args.phase mid new c.in-Ok.assumed c.add_groups.result c.as_slice-2.result.now sources c.as_slice-3.result.now groups c.as_slice-2.ensures c.as_slice-3.ensures c.add_groups.ensures)
    u low within
