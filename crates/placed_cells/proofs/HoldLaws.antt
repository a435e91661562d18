-- Holds of the flat circuit, and the rules that fall on nets.
use Rattle.std.proofs.Common.{◌≡◌, ◌<◌, ◌+◌, ◌∷◌, ◌⊎◌, [], ℕ, zero, suc, not, cond, List, Bool, true, false, length, Option, Some, None, refl, ap, sym, ◌∙◌, subst, arith, inl, inr}
use Rattle.std.specs.Prelude.{bytes_eq, filter_map, find, nat_lt, option_map}
use Rattle.std.specs.List.{enumerate_from, list_any}
use Rattle.std.proofs.lemmas.Bool.{ltb-true}
use Rattle.std.proofs.lemmas.Option.{none-some, same_Some}
use Rattle.place_paths.proofs.CellNames.{cell_of_name, named_inside}
use Rattle.placed_cells.proofs.ListLaws.{in_enumerated}
use Rattle.placed_cells.specs.Rows.{own_size}
use Rattle.placed_cells.specs.Splits.{is_net_in}
use Rattle.vrt_model.proofs.Lists.{among_filter_map, at_there, filter_map_among}
use Rattle.vrt_model.proofs.Members.{among_flat_map, any_among, find_among, find_none, flat_map_among}
use Rattle.vrt_model.proofs.Tests.{some_or_none}
use Rattle.vrt_model.specs.Comparison.{cell_at}
use Rattle.vrt_model.specs.FlatCircuit.{Ruled, falls_on, flat_circuit_of, flat_hold, flat_holds, flat_nets, is_outermost, rule_on, rules_on}
use Rattle.vrt_model.specs.Hierarchy.{AreHoldNets}
use Rattle.vrt_model.specs.Inputs.{IsDesign}
use Rattle.vrt_model.specs.Known.{IsHeld}
use Rattle.vrt_model.specs.Lists.{Among, At}
use Rattle.vrt_model.specs.Unrolled.{Place, Top, all_places, cell_named, deepest, instances_at, instances_from, own_count, places_in, top_place}
use Rattle.vrt_model.specs.declared.circuit.FlatNet.{FlatNet}
use Rattle.vrt_model.specs.declared.circuit.Hold.{Hold}
use Rattle.vrt_model.specs.declared.design.Design.{Design}
use Rattle.vrt_model.specs.declared.design.InstanceCard.{InstanceCard}
use Rattle.vrt_model.specs.declared.rules.HoldRule.{HoldRule}
use Rattle.vrt_model.specs.declared.rules.Rules.{Rules}

-- ---- rules

-- where each of some rules had one further out, there would be none
some_outermost : (all : List Ruled) (bound : ℕ) (one : Ruled) → find (is_outermost all) all ≡ None → Among all one → length one.at.path < bound → ⊥
some_outermost all zero one none m lt = absurd (omega (arith, lt))
some_outermost all (suc bound) one none m lt =
    let further = any_among (λ (other : Ruled). nat_lt (length other.at.path) (length one.at.path)) all (passed (list_any (λ (other : Ruled). nat_lt (length other.at.path) (length one.at.path)) all) (find_none (is_outermost all) all one none m)) in
    let less = ltb-true (length further.0.at.path) (length one.at.path) further.2 in
    some_outermost all bound further.0 none further.1 (omega (arith, less, lt))
  where
    passed : (b : Bool) → not b ≡ false → b ≡ true
    passed true e = refl
    passed false e = sym e

module _ (t : Top) where
  abbrev rule_at : ℕ → Place → HoldRule → Option Ruled
  rule_at n r rule = cond (falls_on t n r rule) (let one : Ruled = record { at = r; rule = rule } in Some one) None

  -- a rule of a place's cell that falls on a net
  abbrev pub FallsThere : ℕ → Type 0
  FallsThere n = (r : Place) × (rule : HoldRule) × Among (all_places t) r × Among t.rules.holds rule × (falls_on t n r rule ≡ true)

  -- a net with a hold has one
  pub held_by : (n : ℕ) → IsHeld (flat_circuit_of t) n → FallsThere n
  unfolding flat_circuit_of
  held_by n held = by_rule hold.0.0 number (rule_on t hold.0.0) refl hold.2
    where
      hold : (q : ℕ × FlatNet) × Among (enumerate_from 0 (flat_nets t)) q × (option_map (flat_hold t q.0) (rule_on t q.0) ≡ Some held.0)
      hold = among_filter_map (λ (q : ℕ × FlatNet). option_map (flat_hold t q.0) (rule_on t q.0)) (enumerate_from 0 (flat_nets t)) held.0 held.1

      number : (one : Ruled) → flat_hold t hold.0.0 one ≡ held.0 → hold.0.0 ≡ n
      number one e = ap (λ (h : Hold). h.net.0) e ∙ held.2

      falls : (k : ℕ) → k ≡ n → (one : Ruled) → Among (rules_on t k) one → FallsThere n
      falls k same one m =
          let place = among_flat_map (λ (r : Place). filter_map (rule_at k r) t.rules.holds) (all_places t) one m in
          let rule = among_filter_map (rule_at k place.0) t.rules.holds one place.2 in
          (place.0, rule.0, place.1, rule.1, subst (λ (a : ℕ). falls_on t a place.0 rule.0 ≡ true) same (chosen (falls_on t k place.0 rule.0) (record { at = place.0; rule = rule.0 }) rule.2))
        where
          chosen : (b : Bool) (x : Ruled) → cond b (Some x) None ≡ Some one → b ≡ true
          chosen true x e = refl
          chosen false x e = absurd (none-some one e)

      by_rule : (k : ℕ) → ((one : Ruled) → flat_hold t k one ≡ held.0 → k ≡ n) → (o : Option Ruled) → rule_on t k ≡ o → option_map (flat_hold t k) o ≡ Some held.0 → FallsThere n
      by_rule k is None e f = absurd (none-some held.0 f)
      by_rule k is (Some one) e f = falls k (is one (same_Some (flat_hold t k one) held.0 f)) one (find_among (is_outermost (rules_on t k)) (rules_on t k) one e).0

  -- and where no net has a hold, no rule falls on a net
  pub none_falls : flat_holds t ≡ [] → (n : ℕ) → n < length (flat_nets t) → FallsThere n → ⊥
  none_falls none n lt falls =
      let r = falls.0 in
      let rule = falls.1 in
      let one : Ruled = record { at = r; rule = rule } in
      let here : rule_at n r rule ≡ Some one = ap (λ (b : Bool). cond b (Some one) None) falls.4 in
      let listed = flat_map_among (λ (a : Place). filter_map (rule_at n a) t.rules.holds) (all_places t) r one falls.2 (filter_map_among (rule_at n r) t.rules.holds falls.3.0 rule one falls.3.1 here) in
      let net = at_there (flat_nets t) n lt in
      let number : 0 + n ≡ n = omega arith in
      let place = subst (λ (k : ℕ). Among (enumerate_from 0 (flat_nets t)) (k, net.0)) number (in_enumerated 0 (flat_nets t) n net.0 net.1) in
      by_rule one listed net.0 place (some_or_none (rule_on t n))
    where
      by_rule : (one : Ruled) → Among (rules_on t n) one → (net : FlatNet) → Among (enumerate_from 0 (flat_nets t)) (n, net) → ((x : Ruled) × (rule_on t n ≡ Some x)) ⊎ (rule_on t n ≡ None) → ⊥
      by_rule one m net on (inl x) =
          let made : option_map (flat_hold t n) (rule_on t n) ≡ Some (flat_hold t n x.0) = ap (option_map (flat_hold t n)) x.1 in
          let held = filter_map_among (λ (q : ℕ × FlatNet). option_map (flat_hold t q.0) (rule_on t q.0)) (enumerate_from 0 (flat_nets t)) on.0 (n, net) (flat_hold t n x.0) on.1 made in
          none-some (flat_hold t n x.0) (subst (λ (hs : List Hold). At hs held.0 (flat_hold t n x.0)) none held.1)
      by_rule one m net on (inr e) = some_outermost (rules_on t n) (suc (length one.at.path)) one e m (omega arith)

  -- ---- cells

  -- the cells of all places are there
  cells_below : 0 < length t.design.cells → (depth : ℕ) (q r : Place) → q.cell < length t.design.cells → Among (places_in t depth q) r → r.cell < length t.design.cells
  cells_below some zero q r lt (zero, e) = subst (λ (a : Place). a.cell < length t.design.cells) (same_Some q r e) lt
  cells_below some zero q r lt (suc i, e) = absurd (none-some r e)
  cells_below some (suc depth) q r lt (zero, e) = subst (λ (a : Place). a.cell < length t.design.cells) (same_Some q r e) lt
  cells_below some (suc depth) q r lt (suc i, e) =
      let found = among_flat_map (places_in t depth) (instances_at t depth q) r (i, e) in
      cells_below some depth found.0 r (of_card (q.base + own_size t q.cell) (cell_at t.design q.cell).instances found.0 found.1) found.2
    where
      of_card : (base : ℕ) (cards : List InstanceCard) (a : Place) → Among (instances_from t q depth base cards) a → a.cell < length t.design.cells
      of_card base [] a m = absurd (none-some a m.1)
      of_card base (card ∷ cards) a (zero, f) = subst (λ (b : Place). b.cell < length t.design.cells) (same_Some _ a f) (named_inside t.design card.cell some)
      of_card base (card ∷ cards) a (suc j, f) = of_card (base + own_count t.design t.rules depth (cell_at t.design (cell_named t.design card.cell))) cards a (j, f)

  pub cells_there : t.cell < length t.design.cells → (r : Place) → Among (all_places t) r → r.cell < length t.design.cells
  unfolding all_places
  cells_there there r m = cells_below (omega (arith, there)) deepest (top_place t) r there m

-- a rule of a cell is on a net of it
pub hold_named : (design : Design) (rules : Rules) → IsDesign design → AreHoldNets design rules → (k : ℕ) → k < length design.cells → (rule : HoldRule) → Among rules.holds rule → bytes_eq rule.cell (cell_at design k).name ≡ true
    → is_net_in (cell_at design k) rule.net ≡ true
hold_named design rules is nets k lt rule m same =
    subst (λ (n : ℕ). is_net_in (cell_at design n) rule.net ≡ true) (cell_of_name design is k lt rule.cell same) (nets rule m)
