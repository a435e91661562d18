-- Each instance of an unrolled cell is tied as its card says, and the cards are good.
use Rattle.std.proofs.Common.{◌≡◌, ◌+◌, ◌∷◌, ◌&&◌, [], ℕ, zero, suc, not, List, Bool, true, false, flat_map, length, Option, Some, None, refl, ap, sym, ◌∙◌, subst}
use Rattle.std.specs.Prelude.{find, is_none, slice_get, unwrap_or, ◌==◌}
use Rattle.std.proofs.lemmas.Bool.{and_parts, eqb-true, false≢true}
use Rattle.std.proofs.lemmas.List.{length-map}
use Rattle.std.proofs.lemmas.Option.{none-some, same_Some}
use Rattle.placed_cells.specs.Above.{InstancesAreTied}
use Rattle.placed_cells.specs.Rows.{own_size}
use Rattle.vrt_model.proofs.Members.{among_flat_map, among_later, find_none, flat_map_among}
use Rattle.vrt_model.proofs.Tests.{map_none}
use Rattle.vrt_model.specs.Comparison.{cell_at}
use Rattle.vrt_model.specs.Hierarchy.{bad_card, has_cell, is_good_card}
use Rattle.vrt_model.specs.Lists.{Among, At}
use Rattle.vrt_model.specs.Unrolled.{Place, Top, all_places, cell_named, deepest, instances_at, instances_from, net_at, own_count, path_text, places_in, top_place}
use Rattle.vrt_model.specs.Unsupported.{is_tied_apart}
use Rattle.vrt_model.specs.declared.design.Cell.{Cell}
use Rattle.vrt_model.specs.declared.design.Design.{Design}
use Rattle.vrt_model.specs.declared.design.InstanceCard.{InstanceCard}

-- a card of a cell has a net for each port
card_nets : (design : Design) → bad_card design ≡ None → (k : ℕ) (card : InstanceCard) → Among (cell_at design k).instances card → length card.nets ≡ length (cell_at design (cell_named design card.cell)).ports
card_nets design none k card m = by_place (slice_get design.cells k) refl m
  where
    empty : Cell
    empty = record { line = 0; name = []; ports = []; devices = []; instances = [] }

    good : (c : Cell) → Among design.cells c → Among c.instances card → length card.nets ≡ length (cell_at design (cell_named design card.cell)).ports
    good c there on =
        let found = find_none (λ (i : InstanceCard). not (is_good_card design i)) (flat_map (λ (d : Cell). d.instances) design.cells) card none
        (flat_map_among (λ (d : Cell). d.instances) design.cells c card there on) in
        eqb-true (length card.nets) (length (cell_at design (cell_named design card.cell)).ports) (and_parts (has_cell design card) (length card.nets == length (cell_at design (cell_named design card.cell)).ports) (passed (is_good_card design card) found)).1
      where
        passed : (b : Bool) → not b ≡ false → b ≡ true
        passed true e = refl
        passed false e = absurd (false≢true (sym e))

    by_place : (o : Option Cell) → slice_get design.cells k ≡ o → Among (unwrap_or o (record { line = 0; name = []; ports = []; devices = []; instances = [] })).instances card
        → length card.nets ≡ length (cell_at design (cell_named design card.cell)).ports
    by_place None e on = absurd (none-some card on.1)
    by_place (Some c) e on = good c (k, e) on

module _ (t : Top) (good : bad_card t.design ≡ None) where
  -- a place of an instance: it has a net for each port, and a path
  record IsInstance (p : Place) : Type 0 where
    pub each : length p.ports ≡ length (cell_at t.design p.cell).ports
    pub path : is_none (slice_get p.path 0) ≡ false

  on_card : (q : Place) (depth base : ℕ) (cards : List InstanceCard) → ((i : InstanceCard) → Among cards i → Among (cell_at t.design q.cell).instances i)
      → (p : Place) → Among (instances_from t q depth base cards) p → IsInstance p
  on_card q depth base [] all p m = absurd (none-some p m.1)
  on_card q depth base (i ∷ cards) all p (zero, e) =
      subst IsInstance (same_Some _ p e) (record { each = length-map i.nets (net_at t q) ∙ card_nets t.design good q.cell i (all i (0, refl)); path = refl })
  on_card q depth base (i ∷ cards) all p (suc j, e) =
      on_card q depth (base + own_count t.design t.rules depth (cell_at t.design (cell_named t.design i.cell))) cards (λ c m. all c (among_later i cards c m)) p (j, e)

  in_place : (depth : ℕ) (q p : Place) → IsInstance q → Among (places_in t depth q) p → IsInstance p
  in_place zero q p first (zero, e) = subst IsInstance (same_Some q p e) first
  in_place zero q p first (suc j, e) = absurd (none-some p e)
  in_place (suc depth) q p first (zero, e) = subst IsInstance (same_Some q p e) first
  in_place (suc depth) q p first (suc j, e) =
      let found = among_flat_map (places_in t depth) (instances_at t depth q) p (j, e) in
      in_place depth found.0 p (on_card q depth (q.base + own_size t q.cell) (cell_at t.design q.cell).instances (λ i m. m) found.0 found.1) found.2

  -- each place behind the checked cell itself
  instance_in : (depth i : ℕ) (q p : Place) → At (places_in t depth q) (suc i) p → IsInstance p
  instance_in zero i q p e = absurd (none-some p e)
  instance_in (suc depth) i q p e =
      let found = among_flat_map (places_in t depth) (instances_at t depth q) p (i, e) in
      in_place depth found.0 p (on_card q depth (q.base + own_size t q.cell) (cell_at t.design q.cell).instances (λ j m. m) found.0 found.1) found.2

  instance_at : (i : ℕ) (p : Place) → At (all_places t) (suc i) p → IsInstance p
  unfolding all_places
  instance_at i p e = instance_in deepest i (top_place t) p e

pub instances_are_tied : InstancesAreTied
instances_are_tied t i p good none e =
    let is = instance_at t good i p e in
    let apart : Place → Bool = λ at. not (is_none (slice_get at.path 0)) && is_tied_apart t.rules (cell_at t.design at.cell).ports at.ports in
    let found = find_none apart (all_places t) p (map_none (λ (at : Place). path_text at.path) (find apart (all_places t)) none) (suc i, e) in
    record {
      each = is.each;
      supplies = sym (ap (λ (b : Bool). not b && is_tied_apart t.rules (cell_at t.design p.cell).ports p.ports) is.path) ∙ found;
    }
