-- The ends of holds that stand outside whole instances name no instance inside one.
use Rattle.std.proofs.Common.{◌≡◌, ℕ, suc, ◌+◌, ◌-◌, ◌≤◌, ◌&&◌, Bool, true, false, not, List, [], ◌∷◌, length, drop, Option, Some, None, arith, subst, sym, refl, ◌∙◌, ap}
use Rattle.std.specs.Prelude.{option_map, position, slice_get, unwrap_or, get_or}
use Rattle.std.specs.List.{enumerate_from}
use Rattle.std.proofs.lemmas.Bool.{and_from, and_parts, false_from_ne_true, false≢true}
use Rattle.std.proofs.lemmas.List.Quantifiers.{position-Some}
use Rattle.std.proofs.lemmas.Option.{none-some, same_Some, slice_get-get_or}
use Rattle.checked_chain.proofs.InstanceLaws.{behind_first}
use Rattle.checked_chain.proofs.PathOrder.{EndsWith, Names, dropped_twice, ends_inside, inside_ends, names_at, names_same, path_names}
use Rattle.checked_chain.specs.Holds.{EndsStayShown, IsEndShown}
use Rattle.vrt_model.proofs.Lists.{among_filter_map}
use Rattle.vrt_model.proofs.Members.{among_any, any_among}
use Rattle.vrt_model.specs.Cut.{Cut, NumberedPlace, is_inside, is_inside_whole, is_instance_shown, is_whole, numbered_places}
use Rattle.vrt_model.specs.FlatCircuit.{Reached, Ruled, end_by, flat_hold, flat_nets, instance_of, led_up, line_of, match_of, rule_on, same_path}
use Rattle.vrt_model.specs.Lists.{differ}
use Rattle.vrt_model.specs.Unrolled.{Place, Step, all_places, top_place}
use Rattle.vrt_model.specs.declared.circuit.FlatNet.{FlatNet}
use Rattle.vrt_model.specs.declared.circuit.Hold.{Hold}
use Rattle.vrt_model.specs.declared.circuit.HoldEnd.TheVariants.{Latch}
use Rattle.vrt_model.specs.declared.rules.InstanceMatchRule.{InstanceMatchRule}
use Rattle.vrt_model.specs.declared.rules.MatchRule.{MatchRule}
use Rattle.vrt_model.specs.declared.rules.Rules.{Rules}

-- ---- the ends of a path

ends_itself : (names : Names) → EndsWith names names
ends_itself names = record {
  long = omega arith;
  same = ap (λ (k : ℕ). drop k names) (none_far (length names));
}
  where
    none_far : (n : ℕ) → n - n ≡ 0
    none_far n = omega arith

ends_behind : (name : List ℕ) (names : Names) → EndsWith (name ∷ names) names
ends_behind name names = record {
  long = omega arith;
  same = ap (λ (k : ℕ). drop k (name ∷ names)) (one_far (length names));
}
  where
    one_far : (n : ℕ) → suc n - n ≡ 1
    one_far n = omega arith

ends_twice : (inner middle outer : Names) → EndsWith inner middle → EndsWith middle outer → EndsWith inner outer
ends_twice inner middle outer a b = record {
  long = let p = a.long in let q = b.long in omega (arith, p, q);
  same =
      ap (λ (k : ℕ). drop k inner) (far (length inner) (length middle) (length outer) a.long b.long)
      ∙ sym (dropped_twice (length middle - length outer) (length inner - length middle) inner)
      ∙ ap (λ (ns : Names). drop (length middle - length outer) ns) a.same ∙ b.same;
}
  where
    far : (x y z : ℕ) → y ≤ x → z ≤ y → x - z ≡ (x - y) + (y - z)
    far x y z p q = omega (arith, p, q)

-- lines lead to an instance around
led_ends : (rules : Rules) (path : List Step) (element : List ℕ) (inverted : Bool) → EndsWith (path_names path) (path_names (led_up rules path element inverted).path)
led_ends rules [] element inverted = ends_itself []
led_ends rules (step ∷ steps) element inverted = by_line (line_of rules step element) (λ e i. led_ends rules steps e i)
  where
    by_line : (o : Option InstanceMatchRule) → ((e : List ℕ) (i : Bool) → EndsWith (path_names steps) (path_names (led_up rules steps e i).path))
        → EndsWith (path_names (step ∷ steps)) (path_names (elim o as (λ _. Reached) [
          | None ↦ record { path = step ∷ steps; element = element; inverted = inverted }
          | Some line ↦ led_up rules steps line.latch (differ inverted line.inverted)
        ]).path)
    by_line None on = ends_itself (path_names (step ∷ steps))
    by_line (Some line) on =
        ends_twice (path_names (step ∷ steps)) (path_names steps) (path_names (led_up rules steps line.latch (differ inverted line.inverted)).path)
        (ends_behind step.instance (path_names steps)) (on line.latch (differ inverted line.inverted))

-- ---- instances around a place that is inside no whole one

module _ (cut : Cut) where
  shown_by : (i : ℕ) (at : Place) → slice_get (drop 1 (all_places cut.top)) i ≡ Some at → is_inside_whole cut at ≡ false → is_instance_shown cut i ≡ true
  shown_by i at e free =
      ap (λ (o : Option Place). unwrap_or (option_map (λ (p : Place). not (is_inside_whole cut p)) o) true) (behind_first (all_places cut.top) i ∙ e) ∙ ap not free

  around_free : (at around : Place) → is_inside_whole cut at ≡ false → EndsWith (names_at at) (names_at around) → is_inside_whole cut around ≡ false
  around_free at around free ends =
      false_from_ne_true (is_inside_whole cut around) (λ inside.
      let w = any_among (λ (o : NumberedPlace). is_whole cut.choice o.number && is_inside around o.at) (numbered_places cut.top) inside in
      let both = and_parts (is_whole cut.choice w.0.number) (is_inside around w.0.at) w.2 in
      let h = ends_inside around w.0.at both.1 in
      let more = h.0 in
      let long = ends.long in
      let whole = inside_ends at w.0.at (omega (arith, more, long)) (ends_twice (names_at at) (names_at around) (names_at w.0.at) ends h.1) in
      false≢true (sym free ∙ among_any (λ (o : NumberedPlace). is_whole cut.choice o.number && is_inside at o.at) (numbered_places cut.top) w.0 w.1
      (and_from (is_whole cut.choice w.0.number) (is_inside at w.0.at) both.0 whole)))

  -- the instance to which the end of a path leads
  instance_shown : (at : Place) (path : List Step) (element : List ℕ) → is_inside_whole cut at ≡ false → EndsWith (names_at at) (path_names path)
      → IsEndShown cut (Latch (instance_of cut.top path) element)
  instance_shown at [] element free ends = tt
  instance_shown at (step ∷ steps) element free ends = by_place (position leads inner) refl
    where
      inner : List Place
      inner = drop 1 (all_places cut.top)

      leads : Place → Bool
      leads p = same_path p.path (step ∷ steps)

      by_place : (o : Option ℕ) → position leads inner ≡ o → IsEndShown cut (Latch o element)
      by_place None e = tt
      by_place (Some i) e =
          let found = position-Some leads inner i (top_place cut.top) e in
          let p : Place = get_or inner i (top_place cut.top) in
          let same = names_same p.path (step ∷ steps) found.1 in
          shown_by i p (slice_get-get_or inner i (top_place cut.top) found.0)
          (around_free at p free (subst (λ (ns : Names). EndsWith (names_at at) ns) (sym same) ends))

  end_shown : (n : ℕ) (one : Ruled) → is_inside_whole cut one.at ≡ false → (o : Option MatchRule) → IsEndShown cut (end_by cut.top n one o)
  end_shown n one free None = tt
  end_shown n one free (Some line) =
      let reached = led_up cut.top.rules one.at.path line.latch line.inverted in
      instance_shown one.at reached.path reached.element free (led_ends cut.top.rules one.at.path line.latch line.inverted)

pub ends_stay_shown : EndsStayShown
ends_stay_shown cut outside h m =
    let from = among_filter_map (λ (p : ℕ × FlatNet). option_map (flat_hold cut.top p.0) (rule_on cut.top p.0)) (enumerate_from 0 (flat_nets cut.top)) h m in
    by_rule from.0.0 (rule_on cut.top from.0.0) refl from.2
  where
    by_rule : (n : ℕ) (o : Option Ruled) → rule_on cut.top n ≡ o → option_map (flat_hold cut.top n) o ≡ Some h → IsEndShown cut h.end
    by_rule n None e f = absurd (none-some h f)
    by_rule n (Some one) e f =
        subst (λ (g : Hold). IsEndShown cut g.end) (same_Some (flat_hold cut.top n one) h f) (end_shown cut n one (outside n one e) (match_of cut.top.rules one.rule))
