use Rattle.std.proofs.Common.{ap, subst, sym, ◌∙◌}
use Rattle.whole_circuits.specs.Pins.{AreDrivesOf}
use Rattle.phase_ports.specs.Ports.{ports_by}
use Rattle.whole_cells.proofs.EntryLaws.{circuit_same, model_same, of_cell, of_own, passed_entry, ports_count, ports_same, refused_entry, within}
use Rattle.vrt_model.specs.Unsupported.{comparison_of}
use Rattle.whole_cells.proofs.entry.cell_with.Goals as goal

pub returns-then-not-free : goal.returns-then-not-free
returns-then-not-free c told =
    let a = c.args in
    let own = c.in_ok-own.own in
    let is = c.in_ok-own.ensures in
    let k = comparison_of a.design.now a.blif.now a.rules.now a.cell a.model in
    let ports = c.in_ok-ports.ensures ∙ ap (ports_by 0 2) c.as_slice.ensures ∙ ports_same a.design.now a.blif.now a.rules.now a.cell a.model own is in
    refused_entry a.design.now a.blif.now a.rules.now a.facts.now a.cell a.model c.requires.paired told c.passes-free.result
    (c.passes-free.ensures k (of_own a.design.now a.blif.now a.rules.now a.cell a.model own is) (c.as_slice-list.ensures.value ∙ ports)) c.if-not-free.true

pub common-requires-clause-within : goal.common-requires-clause-within
common-requires-clause-within c =
    within c.args.design.now c.args.blif.now c.args.rules.now c.args.cell c.args.model c.in_ok-own.own c.in_ok-own.ensures

pub returns : goal.returns
returns c told =
    let a = c.args in
    let facts = a.facts.now in
    let own = c.in_ok-own.own in
    let is = c.in_ok-own.ensures in
    let k = comparison_of a.design.now a.blif.now a.rules.now a.cell a.model in
    let ports = c.in_ok-ports.ensures ∙ ap (ports_by 0 2) c.as_slice.ensures ∙ ports_same a.design.now a.blif.now a.rules.now a.cell a.model own is in
    let has = c.in_ok-whole.ensures.has k (of_cell a.design.now a.blif.now a.rules.now a.cell a.model own is) (circuit_same a.design.now a.blif.now a.rules.now a.cell a.model own is)
    (model_same a.design.now a.blif.now a.rules.now a.cell a.model own is) ports in
    passed_entry a.design.now a.blif.now a.rules.now facts a.cell a.model c.requires.paired told c.requires.cared c.passes-free.result
    (c.passes-free.ensures k (of_own a.design.now a.blif.now a.rules.now a.cell a.model own is) (c.as_slice-list.ensures.value ∙ ports)) c.if-not-free.false c.in_ok-whole.whole has
    (subst (AreDrivesOf facts a.cell) (sym c.in_ok-whole.ensures.told) c.in_ok-drives.ensures) (ports_count a.design.now a.blif.now a.rules.now a.cell a.model own is c.in_ok-whole.whole has)
