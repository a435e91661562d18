-- The instances of an unrolled cell have a net for each port of their cells, which are there.
use Rattle.std.proofs.Common.{◌≡◌, ℕ, zero, suc, ◌+◌, ◌<◌, not, List, [], ◌∷◌, length, Option, Some, None, arith, ap, subst, sym, refl, ◌∙◌}
use Rattle.std.specs.Prelude.{◌==◌, bytes_eq, flat_map, position, slice_get, unwrap_or}
use Rattle.std.proofs.lemmas.Bool.{and_parts, eqb-true, not-false}
use Rattle.std.proofs.lemmas.List.Quantifiers.{position-Some}
use Rattle.std.proofs.lemmas.List.{length-map}
use Rattle.std.proofs.lemmas.Option.{none-some, same_Some}
use Rattle.paired_ports.proofs.PortLists.{net_for_each}
use Rattle.vrt_model.proofs.Lists.{at_there}
use Rattle.vrt_model.proofs.Members.{among_flat_map, among_later, find_none, flat_map_among}
use Rattle.vrt_model.specs.Comparison.{cell_at}
use Rattle.vrt_model.specs.Hierarchy.{bad_card, has_cell, is_good_card}
use Rattle.vrt_model.specs.Lists.{Among}
use Rattle.vrt_model.specs.Unrolled.{Place, Top, all_places, cell_named, deepest, instances_at, instances_from, net_at, own_count, own_nets, places_in, top_place}
use Rattle.vrt_model.specs.declared.design.Cell.{Cell}
use Rattle.vrt_model.specs.declared.design.InstanceCard.{InstanceCard}

-- an item is among those of its list
item_among : {X : Type 0} (xs : List X) (i : ℕ) (d : X) → i < length xs → Among xs (unwrap_or (slice_get xs i) d)
item_among {X} xs i d lt =
    let there = at_there xs i lt in
    (i, there.1 ∙ ap (λ (o : Option X). Some (unwrap_or o d)) (sym there.1))

module _ (t : Top) (good : bad_card t.design ≡ None) (low : t.cell < length t.design.cells) where
  -- a place has a net for each port of its cell, which is there
  pub record IsSound (at : Place) : Type 0 where
    pub there : at.cell < length t.design.cells
    pub ports : length at.ports ≡ length (cell_at t.design at.cell).ports

  -- the cell of a name is one of the netlist
  named_there : (name : List ℕ) → cell_named t.design name < length t.design.cells
  named_there name = by_place (position (λ (c : Cell). bytes_eq c.name name) t.design.cells) refl
    where
      by_place : (o : Option ℕ) → position (λ (c : Cell). bytes_eq c.name name) t.design.cells ≡ o → unwrap_or o 0 < length t.design.cells
      by_place None e = let some = low in omega (arith, some)
      by_place (Some n) e =
          (position-Some (λ (c : Cell). bytes_eq c.name name) t.design.cells n (record { line = 0; name = []; ports = []; devices = []; instances = [] }) e).0

  -- a card of a cell has as many nets as the cell that it names has ports
  card_nets : (k : ℕ) (card : InstanceCard) → k < length t.design.cells → Among (cell_at t.design k).instances card
      → length card.nets ≡ length (cell_at t.design (cell_named t.design card.cell)).ports
  card_nets k card lt m =
      let cell = item_among t.design.cells k (record { line = 0; name = []; ports = []; devices = []; instances = [] }) lt in
      let all = flat_map_among (λ (c : Cell). c.instances) t.design.cells (cell_at t.design k) card cell m in
      let is = not-false (is_good_card t.design card) (find_none (λ (i : InstanceCard). not (is_good_card t.design i)) (flat_map (λ (c : Cell). c.instances) t.design.cells) card good all) in
      eqb-true (length card.nets) (length (cell_at t.design (cell_named t.design card.cell)).ports)
      (and_parts (has_cell t.design card) (length card.nets == length (cell_at t.design (cell_named t.design card.cell)).ports) is).1

  -- the checked cell is sound
  top_sound : IsSound (top_place t)
  top_sound = record { there = low; ports = net_for_each t.rules 2 (cell_at t.design t.cell).ports }

  -- and so are the instances of a sound place
  from_cards : (at : Place) (depth base : ℕ) (cards : List InstanceCard) (p : Place)
      → ((card : InstanceCard) → Among cards card → length card.nets ≡ length (cell_at t.design (cell_named t.design card.cell)).ports)
      → Among (instances_from t at depth base cards) p → IsSound p
  from_cards at depth base [] p each m = absurd (none-some p m.1)
  from_cards at depth base (card ∷ cards) p each (zero, e) =
      subst (λ (x : Place). IsSound x) (same_Some _ p e)
      (record { there = named_there card.cell; ports = length-map card.nets (net_at t at) ∙ each card (zero, refl) })
  from_cards at depth base (card ∷ cards) p each (suc i, e) =
      from_cards at depth (base + own_count t.design t.rules depth (cell_at t.design (cell_named t.design card.cell))) cards p (λ c m. each c (among_later card cards c m)) (i, e)

  inner_sound : (depth : ℕ) (at p : Place) → IsSound at → Among (instances_at t depth at) p → IsSound p
  inner_sound depth at p is m =
      from_cards at depth (at.base + length (own_nets t.design t.rules (cell_at t.design at.cell))) (cell_at t.design at.cell).instances p (λ card on. card_nets at.cell card is.there on) m

  places_sound : (depth : ℕ) (at q : Place) → IsSound at → Among (places_in t depth at) q → IsSound q
  places_sound zero at q is (zero, e) = subst (λ (p : Place). IsSound p) (same_Some at q e) is
  places_sound zero at q is (suc i, e) = absurd (none-some q e)
  places_sound (suc depth) at q is (zero, e) = subst (λ (p : Place). IsSound p) (same_Some at q e) is
  places_sound (suc depth) at q is (suc i, e) =
      let found = among_flat_map (places_in t depth) (instances_at t depth at) q (i, e) in
      places_sound depth found.0 q (inner_sound depth at found.0 is found.1) found.2

  -- each place is sound
  pub all_sound : (at : Place) → Among (all_places t) at → IsSound at
  unfolding all_places
  all_sound at m = places_sound deepest (top_place t) at top_sound m
