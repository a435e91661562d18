use Rattle.std.proofs.Common.{◌++◌, List, ap, sym, ◌∙◌}
use Rattle.std.proofs.lemmas.List.{append-nil}
use Rattle.whole_circuits.proofs.ShownLaws.{instances_are}
use Rattle.whole_circuits.specs.Shown.{instances_left}
use Rattle.vrt_model.proofs.Lists.{no_items}
use Rattle.vrt_model.specs.declared.circuit.FlatInstance.{FlatInstance}
use Rattle.whole_circuits.proofs.shown.shown_instances.Goals as goal

pub returns : goal.returns
returns c cut are all =
    let shown = c.instances.shown in
    let none = no_items c.instances.rest.now c.in_default.ensures.cases in
    sym (append-nil shown) ∙ ap (λ (rest : List FlatInstance). shown ++ instances_left c.args.marks.now.inside.items c.instances.place rest) (sym none) ∙ c.instances.invariant
    ∙ instances_are cut c.args.marks.now c.args.instances.now are all
