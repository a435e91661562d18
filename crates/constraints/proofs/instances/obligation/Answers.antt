use Rattle.std.proofs.Common.{◌<◌, ℕ, Ok, Err, List, Bool, sym, subst}
use Rattle.std.specs.Prelude.{All}
use Rattle.vrt_model.specs.Comparison.{cell_at}
use Rattle.vrt_model.specs.declared.ids.Net.{Net}
use Rattle.constraints.proofs.BreaksLaws.{breaks}
use Rattle.constraints.proofs.DiagramLaws.{handles_after}
use Rattle.constraints.proofs.HandleLaws.{tied_live}
use Rattle.constraints.proofs.ObligationLaws.{Assumed, Clocked, first_counts, moved, whole_counts, whole_gives}
use Rattle.constraints.specs.Evaluated.{AreLive}
use Rattle.constraints.specs.Handles.{HasHandles, handle_tied}
use Rattle.constraints.specs.Obliged.{phase_bits}
use Rattle.constraints.specs.declared.ports.Ports.TheVariants.{Tied}
use Rattle.constraints.proofs.instances.obligation.Goals as goal

pub returns-in-Err-clause-exact : goal.returns-in-Err-clause-exact
returns-in-Err-clause-exact c v a known =
    breaks c.args.design.now c.args.rules.now c.args.instance.now c.args.phase c.args.store.now c.args.values v a c.requires.ports c.requires.rules.clockports c.requires.named c.requires.all_ports known

pub returns-clause-exact : goal.returns-clause-exact
returns-clause-exact c v a known =
    breaks c.args.design.now c.args.rules.now c.args.instance.now c.args.phase c.args.store.now c.args.values v a c.requires.ports c.requires.rules.clockports c.requires.named c.requires.all_ports known

pub returns-in-Err-clause-counts : goal.returns-in-Err-clause-counts
returns-in-Err-clause-counts c =
    let old = c.args.store.now in
    let mid = c.add_assumptions.new.store in
    let design = c.args.design.now in
    let rules = c.args.rules.now in
    let i = c.args.instance.now in
    let first : Assumed old mid c.args.values c.args.phase (Err c.in-Err.spent) (cell_at design i.cell).ports i.ports (cell_at design i.cell).name rules.assumes =
    moved (Assumed old mid c.args.values c.args.phase (Err c.in-Err.spent)) c.cell_ports.result.now (cell_at design i.cell).ports c.as_slice.result.now i.ports c.cell_name-cell.result.now
    (cell_at design i.cell).name c.as_slice-2.result.now rules.assumes c.cell_ports.ensures c.as_slice.ensures c.cell_name-cell.ensures c.as_slice-2.ensures c.in-Err.ensures in
    first_counts design rules i c.args.phase c.args.values old c.requires.nets mid c.in-Err.spent first

pub add_clocks-requires-clause-handles : goal.add_clocks-requires-clause-handles
add_clocks-requires-clause-handles c =
    let old = c.args.store.now in
    let low : All (λ (net : Net). net.0 < c.args.values.len) c.as_slice.result.now = subst (All (λ (net : Net). net.0 < c.args.values.len)) (sym c.as_slice.ensures) c.requires.nets in
    let has : HasHandles old (Tied c.cell_ports.result c.as_slice.result c.args.values) = ((c.requires.span, c.requires.live), low) in
    handles_after old c.add_assumptions.new.store _ (Ok c.in-Ok.assumed) c.in-Ok.ensures.gives (Tied c.cell_ports.result c.as_slice.result c.args.values) has

pub returns-clause-gives : goal.returns-clause-gives
returns-clause-gives c =
    let old = c.args.store.now in
    let mid = c.add_assumptions.new.store in
    let new = c.add_clocks.new.store in
    let design = c.args.design.now in
    let rules = c.args.rules.now in
    let i = c.args.instance.now in
    let values = c.args.values in
    let ports : List (List ℕ) = (cell_at design i.cell).ports in
    let cell : List ℕ = (cell_at design i.cell).name in
    let p = c.in-Ok.assumed in
    let live : AreLive old (handle_tied old.words ports i.ports values) = tied_live old values ports i.ports c.requires.nets c.sound.ensures.sound (c.requires.span, c.requires.live) in
    let first : Assumed old mid values c.args.phase (Ok p) ports i.ports cell rules.assumes =
    moved (Assumed old mid values c.args.phase (Ok p)) c.cell_ports.result.now ports c.as_slice.result.now i.ports c.cell_name-cell.result.now cell c.as_slice-2.result.now rules.assumes
    c.cell_ports.ensures c.as_slice.ensures c.cell_name-cell.ensures c.as_slice-2.ensures c.in-Ok.ensures in
    let second : Clocked mid new values p c.add_clocks.result (phase_bits rules c.args.phase) ports i.ports cell rules.clockports =
    moved (Clocked mid new values p c.add_clocks.result (phase_bits rules c.args.phase)) c.cell_ports.result.now ports c.as_slice.result.now i.ports c.cell_name-cell.result.now cell
    c.as_slice-3.result.now rules.clockports c.cell_ports.ensures c.as_slice.ensures c.cell_name-cell.ensures c.as_slice-3.ensures
    (subst (λ (bits : List Bool). Clocked mid new values p c.add_clocks.result bits c.cell_ports.result.now c.as_slice.result.now c.cell_name-cell.result.now c.as_slice-3.result.now)
    c.phase_bits-bits.ensures c.add_clocks.ensures) in
    whole_gives design rules i c.args.phase values old c.requires.nets mid new p c.add_clocks.result live first second

pub returns-clause-counts : goal.returns-clause-counts
returns-clause-counts c =
    let old = c.args.store.now in
    let mid = c.add_assumptions.new.store in
    let new = c.add_clocks.new.store in
    let design = c.args.design.now in
    let rules = c.args.rules.now in
    let i = c.args.instance.now in
    let values = c.args.values in
    let ports : List (List ℕ) = (cell_at design i.cell).ports in
    let cell : List ℕ = (cell_at design i.cell).name in
    let p = c.in-Ok.assumed in
    let live : AreLive old (handle_tied old.words ports i.ports values) = tied_live old values ports i.ports c.requires.nets c.sound.ensures.sound (c.requires.span, c.requires.live) in
    let first : Assumed old mid values c.args.phase (Ok p) ports i.ports cell rules.assumes =
    moved (Assumed old mid values c.args.phase (Ok p)) c.cell_ports.result.now ports c.as_slice.result.now i.ports c.cell_name-cell.result.now cell c.as_slice-2.result.now rules.assumes
    c.cell_ports.ensures c.as_slice.ensures c.cell_name-cell.ensures c.as_slice-2.ensures c.in-Ok.ensures in
    let second : Clocked mid new values p c.add_clocks.result (phase_bits rules c.args.phase) ports i.ports cell rules.clockports =
    moved (Clocked mid new values p c.add_clocks.result (phase_bits rules c.args.phase)) c.cell_ports.result.now ports c.as_slice.result.now i.ports c.cell_name-cell.result.now cell
    c.as_slice-3.result.now rules.clockports c.cell_ports.ensures c.as_slice.ensures c.cell_name-cell.ensures c.as_slice-3.ensures
    (subst (λ (bits : List Bool). Clocked mid new values p c.add_clocks.result bits c.cell_ports.result.now c.as_slice.result.now c.cell_name-cell.result.now c.as_slice-3.result.now)
    c.phase_bits-bits.ensures c.add_clocks.ensures) in
    whole_counts design rules i c.args.phase values old c.requires.nets mid new p c.add_clocks.result live first second
