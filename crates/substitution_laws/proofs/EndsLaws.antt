-- No rule for a cell inside a chosen instance gives a net its hold.
use Rattle.std.proofs.Common.{◌≡◌, ℕ, zero, suc, ◌-◌, ◌<◌, ◌&&◌, Bool, true, false, cond, List, length, Option, Some, None, refl, ap, sym, ◌∙◌, subst, arith, inl, inr}
use Rattle.std.specs.Prelude.{bytes_eq, drop, filter_map, nat_lt, ◌==◌}
use Rattle.std.proofs.lemmas.Bool.{and_from, and_parts, cases_Bool, eq-eqb, false≢true, ltb-true}
use Rattle.std.proofs.lemmas.Option.{none-some, same_Some}
use Rattle.cell_inside.specs.Shifted.{top_alone}
use Rattle.checked_chain.proofs.ChoiceLaws.{numbered_at}
use Rattle.checked_chain.proofs.EndPlaces.{ends_stay_shown}
use Rattle.checked_chain.specs.Holds.{AreEndsShown}
use Rattle.placed_cells.proofs.FlatNetLaws.{net_count}
use Rattle.placed_cells.proofs.HoldLaws.{cells_there, hold_named, none_falls}
use Rattle.placed_cells.proofs.NameLaws.{NetsHave, all_have}
use Rattle.placed_cells.proofs.NamedLaws.{hold_nets_are_there}
use Rattle.placed_cells.proofs.SplitLaws.{places_in_stand_together, port_below, top_globals}
use Rattle.placed_cells.specs.Splits.{is_net_in}
use Rattle.replaced_instances.proofs.StepInstances.{FitsPlace, fitting, place_inside, zip_at_right}
use Rattle.replaced_instances.proofs.StepPorts.{no_holds, place_there}
use Rattle.replaced_instances.specs.Steps.{compared_at}
use Rattle.substitution_laws.proofs.ChosenLaws.{trial_of, tried_steps_are_chosen}
use Rattle.substitution_laws.specs.Chosen.{IsTrial}
use Rattle.substitution_laws.specs.Ends.{ChosenEndsAreShown}
use Rattle.vrt_model.proofs.Lists.{among_filter_map}
use Rattle.vrt_model.proofs.Members.{among_flat_map, any_among, find_among}
use Rattle.vrt_model.specs.Comparison.{Comparison, cell_at}
use Rattle.vrt_model.specs.Cut.{Cut, NumberedPlace, is_inside, is_inside_whole, is_whole, numbered_places}
use Rattle.vrt_model.specs.FlatCircuit.{Ruled, falls_on, flat_circuit_of, flat_nets, is_outermost, rule_on, rules_on, same_path}
use Rattle.vrt_model.specs.Lists.{Among, At}
use Rattle.vrt_model.specs.Unrolled.{Place, Top, all_places, deepest, net_at, places_in, top_cell, top_place}
use Rattle.vrt_model.specs.declared.blif.Blif.{Blif}
use Rattle.vrt_model.specs.declared.rules.HoldRule.{HoldRule}
use Rattle.vrt_model.specs.declared.whole.CellFacts.{CellFacts}

-- ---- names

module _ (t : Top) where
  low_shared : (n : ℕ) → n < (top_place t).base → n < length (flat_nets t)
  low_shared n lt = let count = net_count t in omega (arith, lt, count)

  top_nets : NetsHave t (λ n. n < length (flat_nets t)) low_shared deepest (top_place t)
  top_nets = record {
    ports = λ n on. (let low = port_below t.rules 2 (top_cell t).ports n (omega arith) on in low_shared n (omega (arith, low)));
    own = λ n low high. (let count = net_count t in omega (arith, high, count));
    globals = top_globals t;
  }

  -- the net of each name at each place is a flat net
  name_in_range : (s : Place) (name : List ℕ) → Among (all_places t) s → is_net_in (cell_at t.design s.cell) name ≡ true → net_at t s name < length (flat_nets t)
  unfolding all_places
  name_in_range s name on is = (all_have t (λ n. n < length (flat_nets t)) low_shared deepest (top_place t) s top_nets on).1 name is

  -- the first place is the checked cell
  first_place : (r : Place) → At (all_places t) 0 r → top_place t ≡ r
  unfolding all_places
  first_place r e = same_Some (top_place t) r e

-- ---- a rule of a cell inside

module _ (cut : Cut) (blif : Blif) (facts : List CellFacts) (h : IsTrial cut blif facts) where
  abbrev t : Top
  t = cut.top

  -- a place inside a chosen instance, and a rule of its cell that falls on a net
  no_rule_inside : (i : ℕ) (p : NumberedPlace) → At (numbered_places t) (suc i) p → cut.choice i ≡ true
      → (n j : ℕ) (r : Place) (rule : HoldRule) → At (all_places t) (suc j) r → is_inside r p.at ≡ true → Among t.rules.holds rule → falls_on t n r rule ≡ true → ⊥
  unfolding flat_circuit_of
  no_rule_inside i p place chosen n j r rule here inside on falls =
      let step = tried_steps_are_chosen cut blif facts i p h place chosen in
      let m = step.0 in
      let there = place_there cut blif facts i p m step.1 in
      let split = places_in_stand_together t (suc i) p.at there in
      let q : Comparison = compared_at t blif p m in
      let own : Top = top_alone t p.at.cell q.pairing.ports in
      let inner = place_inside cut blif facts i p m step.1 split.0 split.1 split.2 split.3 j r here inside in
      let s =
      zip_at_right (FitsPlace cut blif facts i p m step.1 split.0 split.1 split.2 split.3) (all_places own) (places_in t split.0 p.at) (suc inner.0) r
      (fitting cut blif facts i p m step.1 split.0 split.1 split.2 split.3) inner.1 in
      let cell : r.cell ≡ s.0.cell = s.2.place.cell in
      let both = and_parts (bytes_eq rule.cell (cell_at t.design r.cell).name) (net_at t r rule.net == n) falls in
      let named : bytes_eq rule.cell (cell_at t.design s.0.cell).name ≡ true = subst (λ (k : ℕ). bytes_eq rule.cell (cell_at t.design k).name ≡ true) cell both.0 in
      let net : ℕ = net_at own s.0 rule.net in
      let s_there : Among (all_places own) s.0 = (suc inner.0, s.1) in
      let p_cell = cells_there t step.1.netlist.there p.at (suc i, there) in
      let is = hold_named t.design t.rules step.1.netlist.design (hold_nets_are_there t.design t.rules step.1.netlist.ordered) s.0.cell (cells_there own p_cell s.0 s_there) rule on named in
      none_falls own (no_holds cut blif facts i p m step.1) net (name_in_range own s.0 rule.net s_there is)
      (s.0, rule, s_there, on, and_from (bytes_eq rule.cell (cell_at t.design s.0.cell).name) (net == net) named (eq-eqb net net refl))

  -- the instance around a place inside a whole one
  rule_outside : (n : ℕ) (one : Ruled) → rule_on t n ≡ Some one → is_inside_whole cut one.at ≡ false
  rule_outside n one e =
      elim (cases_Bool (is_inside_whole cut one.at)) [
        | inr out ↦ out
        | inl inside ↦ absurd (by_whole inside)
      ]
    where
      abbrev_rule : Place → HoldRule → Option Ruled
      abbrev_rule r rule = cond (falls_on t n r rule) (let x : Ruled = record { at = r; rule = rule } in Some x) None

      fallen : (b : Bool) (x : Ruled) → cond b (Some x) None ≡ Some one → (b ≡ true) × (x ≡ one)
      fallen true x f = (refl, same_Some x one f)
      fallen false x f = absurd (none-some one f)

      by_place : (i : ℕ) (p : NumberedPlace) → At (numbered_places t) (suc i) p → cut.choice i ≡ true → (idx : ℕ) (r : Place) (rule : HoldRule) → At (all_places t) idx r → is_inside r p.at ≡ true
          → Among t.rules.holds rule → falls_on t n r rule ≡ true → ⊥
      by_place i p place chosen zero r rule here inside on falls =
          let lt = ltb-true (length p.at.path) (length r.path) (and_parts (nat_lt (length p.at.path) (length r.path)) (same_path (drop (length r.path - length p.at.path) r.path) p.at.path) inside).0 in
          let none = ap (λ (x : Place). length x.path) (first_place t r here) in
          omega (arith, lt, none)
      by_place i p place chosen (suc j) r rule here inside on falls = no_rule_inside i p place chosen n j r rule here inside on falls

      by_number : (number idx : ℕ) (p : NumberedPlace) → p.number ≡ number → p.number ≡ idx → At (numbered_places t) idx p → is_whole cut.choice p.number ≡ true → is_inside one.at p.at ≡ true → ⊥
      by_number zero idx p is at there whole inside = false≢true (sym (ap (is_whole cut.choice) is) ∙ whole)
      by_number (suc i) idx p is at there whole inside =
          let place = subst (λ (k : ℕ). At (numbered_places t) k p) (sym at ∙ is) there in
          let chosen : cut.choice i ≡ true = sym (ap (is_whole cut.choice) is) ∙ whole in
          let m = (find_among (is_outermost (rules_on t n)) (rules_on t n) one e).0 in
          let from = among_flat_map (λ (r : Place). filter_map (abbrev_rule r) t.rules.holds) (all_places t) one m in
          let rule = among_filter_map (abbrev_rule from.0) t.rules.holds one from.2 in
          let parts = fallen (falls_on t n from.0 rule.0) (record { at = from.0; rule = rule.0 }) rule.2 in
          let inside_there : is_inside from.0 p.at ≡ true = subst (λ (x : Place). is_inside x p.at ≡ true) (ap (λ (x : Ruled). x.at) (sym parts.1)) inside in
          by_place i p place chosen from.1.0 from.0 rule.0 from.1.1 inside_there rule.1 parts.0

      by_whole : is_inside_whole cut one.at ≡ true → ⊥
      by_whole inside =
          let w = any_among (λ (o : NumberedPlace). is_whole cut.choice o.number && is_inside one.at o.at) (numbered_places t) inside in
          let both = and_parts (is_whole cut.choice w.0.number) (is_inside one.at w.0.at) w.2 in
          by_number w.0.number w.1.0 w.0 refl (numbered_at t w.1.0 w.0 w.1.1).0 w.1.1 both.0 both.1

pub tried_ends_are_shown : (cut : Cut) (blif : Blif) (facts : List CellFacts) → IsTrial cut blif facts → AreEndsShown cut
tried_ends_are_shown cut blif facts h = ends_stay_shown cut (rule_outside cut blif facts h)

pub chosen_ends_are_shown : ChosenEndsAreShown
chosen_ends_are_shown cut blif facts h = tried_ends_are_shown cut blif facts (trial_of cut blif facts h)
