use Rattle.std.proofs.Common.{◌≡◌, ap, subst, sym}
use Rattle.std.specs.Prelude.{IfOk}
use Rattle.vrt_model.specs.FlatBlif.{ModelPlace}
use Rattle.vrt_model.specs.declared.flat_model.FlatModel.{FlatModel}
use Rattle.blif_checks.proofs.NameLaws.{model_there}
use Rattle.blif_flat.specs.Places.{place_in}
use Rattle.blif_flat.proofs.NetworkLaws.{network_room, unrolled_room}
use Rattle.blif_flat.proofs.NetworkMade.{network_is, none_alone}
use Rattle.blif_flat.proofs.PlaceLaws.{place_room, top_size}
use Rattle.blif_flat.proofs.flat.flat_of.Goals as goal

pub unrolled-requires-clause-limit : goal.unrolled-requires-clause-limit
unrolled-requires-clause-limit c = unrolled_room c.args.blif.now c.args.model c.requires.limit

pub with_network-requires-clause-place : goal.with_network-requires-clause-place
with_network-requires-clause-place c =
    place_room c.args.blif.now 32 c.in_ok-top.top c.in_ok-top.ensures.place
    (top_size c.args.blif.now c.args.model c.in_ok-top.top.base (place_in c.in_ok-top.top) c.in_ok-top.ensures.is_top (unrolled_room c.args.blif.now c.args.model c.requires.limit)
    (ap (λ (p : ModelPlace). p.base) c.in_ok-top.ensures.is_top))

pub with_network-requires-clause-names : goal.with_network-requires-clause-names
with_network-requires-clause-names c = network_room c.args.blif.now c.args.model c.in_ok-own.own c.args.names.now c.in_ok-own.ensures c.requires.names c.requires.limit

pub returns-in-Some : goal.returns-in-Some
returns-in-Some c =
    subst (λ (full : FlatModel). IfOk c.with_network.result (λ flat. flat ≡ full))
    (network_is c.args.blif.now c.args.model c.in_ok-top.top c.args.names.now c.in-Some.of.now c.in_ok-own.own c.in_ok-top.ensures.place c.in_ok-top.ensures.is_top c.requires.names
    (model_there c.args.blif.now c.args.model c.in-Some.of.now (sym c.in-Some.ensures)) c.in_ok-own.ensures)
    c.with_network.ensures

pub returns : goal.returns
returns c = none_alone c.args.blif.now c.args.model c.in_ok-own.own (sym c.in-None.ensures) c.in_ok-own.ensures
