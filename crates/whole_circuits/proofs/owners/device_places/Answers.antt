use Rattle.std.proofs.Common.{◌++◌, List, ap, sym, ◌∙◌}
use Rattle.std.specs.List.{enumerate_from, flat_map}
use Rattle.std.proofs.lemmas.List.{append-nil}
use Rattle.net_places.specs.declared.places.Place.{Place}
use Rattle.whole_circuits.proofs.ShownLaws.{places_are}
use Rattle.whole_circuits.specs.Shown.{places_of}
use Rattle.vrt_model.proofs.Lists.{no_items}
use Rattle.whole_circuits.proofs.owners.device_places.Goals as goal

pub returns : goal.returns
returns c t same is =
    let design = c.args.design.now in
    let owners = c.places.owners.items in
    let none = no_items c.places.rest.now c.in_default.ensures.cases in
    sym (append-nil owners) ∙ ap (λ (rest : List Place). owners ++ flat_map (places_of design) (enumerate_from c.places.at rest)) (sym none) ∙ c.places.invariant
    ∙ places_are t design c.args.unrolled.now same is
