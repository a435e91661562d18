-- The roles of the checked cell's ports count for no place of the unrolled netlist.
use Rattle.std.proofs.Common.{◌≡◌, ℕ, zero, suc, ◌+◌, not, ◌&&◌, List, [], ◌∷◌, length, refl, ap, ap₂}
use Rattle.std.proofs.Math.Path.{fun_ext}
use Rattle.std.specs.Prelude.{find, flat_map, is_none, option_map, slice_get}
use Rattle.vrt_model.proofs.Lists.{map_same}
use Rattle.vrt_model.specs.Comparison.{cell_at}
use Rattle.vrt_model.specs.Unrolled.{Place, Top, all_places, cell_named, deepest, instances_from, net_at, own_count, own_nets, path_text, places_in, top_place}
use Rattle.vrt_model.specs.Unsupported.{is_tied_apart, supply_tie}
use Rattle.vrt_model.specs.declared.design.InstanceCard.{InstanceCard}
use Rattle.vrt_model.specs.declared.pairing.PortRole.{PortRole}

module _ (t : Top) (roles : List PortRole) where
  abbrev other : Top
  other = record t { roles = roles }

  net_same : (at : Place) (name : List ℕ) → net_at other at name ≡ net_at t at name
  unfolding net_at
  net_same at name = refl

  abbrev placed : Place → ℕ → InstanceCard → List ℕ → Place
  placed at base card ports = record {
    cell = cell_named t.design card.cell;
    path = record { instance = card.name; within = (cell_at t.design at.cell).name } ∷ at.path;
    ports = ports;
    base = base;
  }

  cards_same : (at : Place) (depth base : ℕ) (cards : List InstanceCard) → instances_from other at depth base cards ≡ instances_from t at depth base cards
  cards_same at depth base [] = refl
  cards_same at depth base (card ∷ cards) =
      ap₂ (λ (ports : List ℕ) (rest : List Place). placed at base card ports ∷ rest)
      (map_same (net_at other at) (net_at t at) card.nets (λ i name e. net_same at name))
      (cards_same at depth (base + own_count t.design t.rules depth (cell_at t.design (cell_named t.design card.cell))) cards)

  places_same : (depth : ℕ) (at : Place) → places_in other depth at ≡ places_in t depth at
  places_same zero at = refl
  places_same (suc depth) at =
      let inner : places_in other depth ≡ places_in t depth = fun_ext (λ x. places_same depth x) in
      ap₂ (λ (f : Place → List Place) (xs : List Place). at ∷ flat_map f xs) inner
      (cards_same at depth (at.base + length (own_nets t.design t.rules (cell_at t.design at.cell))) (cell_at t.design at.cell).instances)

  all_same : all_places other ≡ all_places t
  unfolding all_places
  all_same = places_same deepest (top_place t)

  -- so it does not count for ties of supplies
  pub ties_same : supply_tie other ≡ supply_tie t
  ties_same =
      ap (λ (places : List Place). option_map (λ (at : Place). path_text at.path)
      (find (λ (at : Place). not (is_none (slice_get at.path 0)) && is_tied_apart t.rules (cell_at t.design at.cell).ports at.ports) places)) all_same
