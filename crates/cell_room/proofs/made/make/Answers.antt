-- The flat comparison is that of the cell, and its circuit and the checked one share their nets.
use Rattle.std.proofs.Common.{◌≡◌, ◌<◌, List, ap, length, map, refl, sym, subst, ◌∙◌}
use Rattle.std.specs.Prelude.{All, unwrap_or}
use Rattle.cell_room.proofs.CheckedLaws.{checkable}
use Rattle.cell_room.proofs.MadeLaws.{made_is}
use Rattle.cell_room.proofs.ReadyLaws.{ready}
use Rattle.cell_room.specs.Checked.{IsCheckable}
use Rattle.cell_room.specs.Compared.{comparison}
use Rattle.cell_room.specs.Made.{IsSearched}
use Rattle.cell_room.specs.Works.{ArePlans, AreVars, IsPlanned}
use Rattle.checked_cells.proofs.CircuitLaws.{checked_circuits_share}
use Rattle.checked_cells.specs.Given.{IsCheckedOf}
use Rattle.lone_outputs.specs.Lone.{AreLoneBefore, AreOutputNets}
use Rattle.phase_terms.specs.Ready.{IsReady, comparison_in}
use Rattle.prepared_tables.specs.Prepared.{ArePrepared}
use Rattle.vrt_model.specs.Comparison.{Comparison}
use Rattle.vrt_model.specs.declared.groups.Vars.{Vars}
use Rattle.vrt_model.specs.declared.ids.Net.{Net}
use Rattle.whole_cells.specs.Kept.{AreKept}
use Rattle.whole_cells.specs.Own.{AreItsPlaces}
use Rattle.cell_room.proofs.made.make.Goals as goal

pub flat_comparison-requires : goal.flat_comparison-requires
flat_comparison-requires c = record { flat = c.requires.planned.1.flattened.flat }

pub phases_of-phases-requires-clause-ready : goal.phases_of-phases-requires-clause-ready
phases_of-phases-requires-clause-ready c =
    let a = c.args in
    let is = c.requires.planned.1 in
    subst IsReady (sym c.flat_comparison.ensures.comparison) (ready a.design.now a.blif.now a.rules.now a.cell c.requires.planned.0 a.planned.flattened c.requires.inputs is.flattened)

pub phases_of-phases-requires-clause-checkable : goal.phases_of-phases-requires-clause-checkable
phases_of-phases-requires-clause-checkable c =
    let a = c.args in
    let is = c.requires.planned.1 in
    subst (λ (k : Comparison). IsCheckable k a.blif.now a.facts.now) (sym c.flat_comparison.ensures.comparison)
    (checkable a.design.now a.blif.now a.rules.now a.cell c.requires.planned.0 a.planned.flattened c.requires.inputs is.flattened a.facts.now c.requires.facts)

pub phases_of-phases-requires-clause-planned : goal.phases_of-phases-requires-clause-planned
phases_of-phases-requires-clause-planned c = subst IsPlanned (sym c.flat_comparison.ensures.comparison) c.requires.planned.1.planned

pub phases_of-phases-requires-clause-vars : goal.phases_of-phases-requires-clause-vars
phases_of-phases-requires-clause-vars c =
    subst (λ (k : Comparison). AreVars k (length k.rules.phases) c.as_slice.result.now) (sym c.flat_comparison.ensures.comparison)
    (subst (AreVars (comparison c.args.design.now c.args.rules.now c.args.cell c.args.planned.flattened) (length c.args.rules.now.phases)) (sym c.as_slice.ensures) c.requires.planned.1.vars)

pub phases_of-phases-requires-clause-plans : goal.phases_of-phases-requires-clause-plans
phases_of-phases-requires-clause-plans c =
    subst (λ (k : Comparison). ArePlans k (length k.rules.phases) c.as_slice-2.result.now) (sym c.flat_comparison.ensures.comparison)
    (subst (ArePlans (comparison c.args.design.now c.args.rules.now c.args.cell c.args.planned.flattened) (length c.args.rules.now.phases)) (sym c.as_slice-2.ensures) c.requires.planned.1.plans)

pub searched_of-requires-clause-prepared : goal.searched_of-requires-clause-prepared
searched_of-requires-clause-prepared c =
    let a = c.args in
    let p = c.phases_of-phases.ensures in
    let same : comparison a.design.now a.rules.now a.cell a.planned.flattened ≡ comparison_in c.phases_of-phases.result.compared =
    sym (ap (λ x. comparison_in x) p.compared ∙ c.flat_comparison.ensures.comparison) in
    rw (p.blif) (subst (λ (k : Comparison). ArePrepared k.design a.blif.now k.rules a.prepared.now) same c.requires.prepared)

pub searched_of-requires-clause-places : goal.searched_of-requires-clause-places
searched_of-requires-clause-places c =
    let a = c.args in
    let p = c.phases_of-phases.ensures in
    let same : comparison a.design.now a.rules.now a.cell a.planned.flattened ≡ comparison_in c.phases_of-phases.result.compared =
    sym (ap (λ x. comparison_in x) p.compared ∙ c.flat_comparison.ensures.comparison) in
    subst (λ (k : Comparison). AreItsPlaces k.design k.rules k.cell a.planned.unrolled) same c.requires.planned.1.places

pub searched_of-requires-clause-kept : goal.searched_of-requires-clause-kept
searched_of-requires-clause-kept c =
    let a = c.args in
    let p = c.phases_of-phases.ensures in
    let same : comparison a.design.now a.rules.now a.cell a.planned.flattened ≡ comparison_in c.phases_of-phases.result.compared =
    sym (ap (λ x. comparison_in x) p.compared ∙ c.flat_comparison.ensures.comparison) in
    rw (p.blif, p.facts) (subst (λ (k : Comparison). AreKept k.design a.blif.now k.rules a.facts.now a.kept.now) same c.requires.kept)

pub returns-clause-checked : goal.returns-clause-checked
returns-clause-checked c =
    let a = c.args in
    let p = c.phases_of-phases.ensures in
    let s = c.in_ok-searched.searched in
    let same : comparison_in c.phases_of-phases.result.compared ≡ comparison a.design.now a.rules.now a.cell a.planned.flattened =
    ap (λ x. comparison_in x) p.compared ∙ c.flat_comparison.ensures.comparison in
    rw (c.made_with.ensures) (subst (λ (k : Comparison). IsCheckedOf k a.blif.now a.facts.now (unwrap_or s.checked k.circuit)) same (rw (sym p.blif, sym p.facts) c.in_ok-searched.ensures.checked))

pub returns-clause-kept : goal.returns-clause-kept
returns-clause-kept c =
    let a = c.args in
    let p = c.phases_of-phases.ensures in
    let same : comparison_in c.phases_of-phases.result.compared ≡ comparison a.design.now a.rules.now a.cell a.planned.flattened =
    ap (λ x. comparison_in x) p.compared ∙ c.flat_comparison.ensures.comparison in
    subst (λ (k : Comparison). AreKept k.design a.blif.now k.rules a.facts.now c.searched_of.new.kept) same (rw (sym p.blif, sym p.facts) c.in_ok-searched.ensures.kept)

pub returns-clause-flattened : goal.returns-clause-flattened
returns-clause-flattened c = rw (c.made_with.ensures) refl

pub returns-clause-made : goal.returns-clause-made
returns-clause-made c =
    let a = c.args in
    let n = c.requires.planned.0 in
    let is = c.requires.planned.1 in
    let p = c.phases_of-phases.ensures in
    let s = c.in_ok-searched.searched in
    let o = c.in_ok-outputs.outputs in
    let k = comparison a.design.now a.rules.now a.cell a.planned.flattened in
    let same : comparison_in c.phases_of-phases.result.compared ≡ comparison a.design.now a.rules.now a.cell a.planned.flattened =
    ap (λ x. comparison_in x) p.compared ∙ c.flat_comparison.ensures.comparison in
    let found = subst (λ (x : Comparison). IsSearched x a.planned.vars s) same (subst (λ (vs : List Vars). IsSearched (comparison_in c.phases_of-phases.result.compared) vs s) (p.vars ∙ c.as_slice.ensures) c.in_ok-searched.ensures.searched) in
    let able = checkable a.design.now a.blif.now a.rules.now a.cell n a.planned.flattened c.requires.inputs is.flattened a.facts.now c.requires.facts in
    let of = subst (λ (x : Comparison). IsCheckedOf x a.blif.now a.facts.now (unwrap_or s.checked x.circuit)) same (rw (sym p.blif, sym p.facts) c.in_ok-searched.ensures.checked) in
    let shares = checked_circuits_share k of.0 a.blif.now a.facts.now (unwrap_or s.checked k.circuit) (able.by_facts (unwrap_or s.checked k.circuit) is.planned of) in
    let outputs = subst (λ (x : Comparison). AreOutputNets x o.nets) same c.in_ok-outputs.ensures.nets in
    let there = subst (λ (x : Comparison). All (λ (m : Net). m.0 < length x.circuit.nets) o.nets) same c.in_ok-outputs.ensures.within in
    let lone = subst (λ (x : Comparison). AreLoneBefore x (length x.rules.phases) (map (λ (m : Net). m.0) o.nets) o.lone.items) same c.in_ok-outputs.ensures.lone in
    rw (c.made_with.ensures) (made_is a.design.now a.blif.now a.rules.now a.cell n a.planned s o is found shares.nets outputs there lone)
