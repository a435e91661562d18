-- The steps give the verdict, the line, what is known, and the runs.
use Rattle.std.proofs.Common.{◌≡◌, true, [], subst, sym, ◌∙◌, Some, ap}
use Rattle.std.specs.Prelude.{◌↔◌}
use Rattle.cell_compare.proofs.CompleteLaws.{complete}
use Rattle.cell_compare.proofs.VerdictLaws.{checked, facts_with, line_with, runs_with}
use Rattle.cell_compare.specs.Ports.{HasDrives}
use Rattle.cell_room.specs.Compared.{comparison}
use Rattle.cell_room.specs.Flat.{Flattened}
use Rattle.vrt_model.specs.CheckedVerdicts.{HasCheckedVerdict}
use Rattle.vrt_model.specs.declared.circuit.Circuit.{Circuit}
use Rattle.vrt_model.specs.declared.flat_model.FlatModel.{FlatModel}
use Rattle.vrt_model.specs.declared.verdict.Verdict.TheVariants.{Equal}
use Rattle.cell_compare.proofs.WorkspaceLaws.{for_cell}
use Rattle.cell_compare.specs.Cells.{HasLine, IsFlattenedTo}
use Rattle.cell_compare.specs.Workspace.{View}
use Rattle.cell_compare.proofs.verdict.compare_planned.Goals as goal

pub told_of-requires-clause-facts : goal.told_of-requires-clause-facts
told_of-requires-clause-facts c =
    let w = c.in_ok-workspace.ensures.opened in
    rw (w.design_is, w.blif_is, w.rules_are) c.requires.facts

pub told_of-requires-clause-checked : goal.told_of-requires-clause-checked
told_of-requires-clause-checked c =
    let w = c.in_ok-workspace.ensures.opened in
    rw (w.design_is, w.blif_is, w.rules_are, w.cell_is) c.in_ok-workspace.ensures.checked

pub returns-clause-verdict : goal.returns-clause-verdict
returns-clause-verdict c =
    let a = c.args in
    let n = c.requires.planned.0 in
    let is = c.requires.planned.1 in
    let verdict = c.in_ok-told.told.verdict in
    let found = for_cell (λ d b r k e f. HasCheckedVerdict (comparison d r k f) b a.facts.now e verdict) c.in_ok-workspace.workspace a.design.now a.blif.now a.rules.now a.facts.now a.budget a.cell a.planned.flattened
    c.in_ok-workspace.ensures.opened c.in_ok-workspace.ensures.flattened c.in_ok-told.ensures.verdict in
    checked a.design.now a.blif.now a.rules.now a.cell n a.planned.flattened c.requires.inputs is.flattened a.facts.now a.budget verdict is.planned found

pub returns-clause-line : goal.returns-clause-line
returns-clause-line c =
    let a = c.args in
    let is = c.requires.planned.1 in
    let same = c.into_flattened-flattened.ensures ∙ (ap (λ (w : View). w.made.flattened) c.told_of.ensures.rest ∙ c.in_ok-workspace.ensures.flattened) in
    subst (λ (f : Flattened). HasLine a.design.now a.blif.now a.rules.now a.cell c.in_ok-told.told.verdict (Some f)) (sym same)
    (line_with a.design.now a.blif.now a.rules.now a.cell c.requires.planned.0 a.planned.flattened c.requires.inputs is.flattened c.in_ok-told.told.verdict)

pub returns-clause-flattened : goal.returns-clause-flattened
returns-clause-flattened c =
    let a = c.args in
    let same = c.into_flattened-flattened.ensures ∙ (ap (λ (w : View). w.made.flattened) c.told_of.ensures.rest ∙ c.in_ok-workspace.ensures.flattened) in
    subst (λ (f : Flattened). IsFlattenedTo a.design.now a.blif.now a.rules.now a.cell (Some c.in_ok-told.told.verdict) (Some f)) (sym same) (c.requires.planned.0, c.requires.planned.1.flattened)

pub returns-clause-complete : goal.returns-clause-complete
returns-clause-complete c =
    let a = c.args in
    let n = c.requires.planned.0 in
    let is = c.requires.planned.1 in
    let verdict = c.in_ok-told.told.verdict in
    let found = for_cell (λ d b r k e f. HasCheckedVerdict (comparison d r k f) b a.facts.now e verdict) c.in_ok-workspace.workspace a.design.now a.blif.now a.rules.now a.facts.now a.budget a.cell a.planned.flattened
    c.in_ok-workspace.ensures.opened c.in_ok-workspace.ensures.flattened c.in_ok-told.ensures.verdict in
    complete a.design.now a.blif.now a.rules.now a.facts.now a.budget a.cell verdict
    (checked a.design.now a.blif.now a.rules.now a.cell n a.planned.flattened c.requires.inputs is.flattened a.facts.now a.budget verdict is.planned found)

pub returns-clause-runs : goal.returns-clause-runs
returns-clause-runs c =
    let a = c.args in
    let n = c.requires.planned.0 in
    let is = c.requires.planned.1 in
    let verdict = c.in_ok-told.told.verdict in
    let found = for_cell (λ d b r k e f. HasCheckedVerdict (comparison d r k f) b a.facts.now e verdict) c.in_ok-workspace.workspace a.design.now a.blif.now a.rules.now a.facts.now a.budget a.cell a.planned.flattened
    c.in_ok-workspace.ensures.opened c.in_ok-workspace.ensures.flattened c.in_ok-told.ensures.verdict in
    runs_with a.design.now a.blif.now a.rules.now a.cell n a.planned.flattened c.requires.inputs is.flattened a.facts.now a.budget verdict found

pub returns-clause-facts : goal.returns-clause-facts
returns-clause-facts c =
    let a = c.args in
    let n = c.requires.planned.0 in
    let is = c.requires.planned.1 in
    let verdict = c.in_ok-told.told.verdict in
    let found = for_cell (λ d b r k e f. HasCheckedVerdict (comparison d r k f) b a.facts.now e verdict) c.in_ok-workspace.workspace a.design.now a.blif.now a.rules.now a.facts.now a.budget a.cell a.planned.flattened
    c.in_ok-workspace.ensures.opened c.in_ok-workspace.ensures.flattened c.in_ok-told.ensures.verdict in
    let same = c.into_flattened-flattened.ensures ∙ (ap (λ (w : View). w.made.flattened) c.told_of.ensures.rest ∙ c.in_ok-workspace.ensures.flattened) in
    let told = c.in_ok-told.told in
    let has = for_cell (λ d b r k e f. told.verdict ≡ Equal → HasDrives (comparison d r k f) b a.facts.now told.drives) c.in_ok-workspace.workspace a.design.now a.blif.now a.rules.now a.facts.now a.budget a.cell a.planned.flattened
    c.in_ok-workspace.ensures.opened c.in_ok-workspace.ensures.flattened c.in_ok-told.ensures.drives in
    let bare = subst (λ (f : Flattened). (c.is_bare-bare.result ≡ true) ↔ ((f.circuit.holds ≡ []) × (f.model.latches ≡ []))) same
    (subst (λ (x : Circuit). (c.is_bare-bare.result ≡ true) ↔ ((x.holds ≡ []) × (c.into_flattened-flattened.result.model.latches ≡ []))) c.circuit.ensures
    (subst (λ (y : FlatModel). (c.is_bare-bare.result ≡ true) ↔ ((c.circuit.result.now.holds ≡ []) × (y.latches ≡ []))) c.model.ensures c.is_bare-bare.ensures)) in
    facts_with a.design.now a.blif.now a.rules.now a.cell n a.planned.flattened c.requires.inputs is.flattened a.facts.now a.budget verdict
    c.is_bare-bare.result told.drives c.facts_of-facts.result c.requires.facts bare is.planned found has c.facts_of-facts.ensures
