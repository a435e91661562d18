use Rattle.std.proofs.Common.{◌≡◌, List, ap, inl, inr, refl, subst, sym, ◌∙◌}
use Rattle.whole_circuits.proofs.LinkLaws.{has_links, no_lists}
use Rattle.whole_circuits.proofs.PinLaws.{none_left}
use Rattle.whole_circuits.specs.Links.{links_by}
use Rattle.vrt_model.specs.WholeInstances.{HasLinks, pins_of}
use Rattle.vrt_model.specs.declared.rules.Phase.{Phase}
use Rattle.vrt_model.specs.declared.whole.Link.{Link}
use Rattle.whole_circuits.proofs.links.whole_links.Goals.{in_default, in_default-2}
use Rattle.whole_circuits.proofs.links.whole_links.Goals as goal

pub returns : goal.returns
returns c k at rules is are =
    let ports = c.args.ports.now in
    let nets = c.args.nets.now in
    let outputs = c.args.outputs.now in
    let own = c.args.own.now in
    let left = none_left (links_by ports nets outputs) (λ lists. refl) (no_lists ports nets outputs) c.phases.links (links_by ports nets outputs c.args.phases.now own) c.phases.phases_left.now
    c.phases.own_left.now c.phases.invariant in
    let all : c.phases.links ≡ links_by ports nets outputs c.args.phases.now own =
    elim c.match-split_first.branch [
      | in_default w ↦ left (inr w.in_default.ensures'.cases)
      | in_default-2 w ↦ left (inl w.in_default.ensures.cases)
    ] in
    let same = all ∙ ap (λ (ps : List Phase). links_by ports nets outputs ps own) (sym rules) in
    subst (λ (links : List Link). HasLinks k (pins_of k at) outputs links) (sym same) (has_links k at ports nets is outputs own are)
