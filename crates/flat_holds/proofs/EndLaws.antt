-- From an element of a place's model up, by the places around it.
use Rattle.std.proofs.Common.{◌≡◌, ◌<◌, ◌≤◌, ◌+◌, ◌∷◌, [], ℕ, zero, suc, Bool, true, List, Option, Some, None, refl, ap, ap₂, sym, subst, ◌∙◌, arith, inl, inr}
use Rattle.std.specs.Prelude.{◌&&◌, drop, filter_map, find, slice_get, unwrap_or}
use Rattle.std.proofs.lemmas.Bool.{cases_Bool}
use Rattle.std.proofs.lemmas.Slice.Eq.{bytes_eq-Decides}
use Rattle.place_paths.proofs.CellNames.{position_is}
use Rattle.flat_holds.proofs.PathLaws.{all_differ, first_path}
use Rattle.flat_holds.specs.Ends.{AllLead, HasElement, IsHold, IsReached, end_from, enter_by, instance_by, inverted_from, is_line_of, is_match_of, line_above, line_from}
use Rattle.flat_holds.specs.declared.elements.Element.{Element}
use Rattle.net_places.specs.Links.{Bare, IsInside, IsUnrolled, bare, shown, step_of}
use Rattle.net_places.specs.Places.{name_at}
use Rattle.net_places.specs.Whole.{whole_of}
use Rattle.net_places.specs.declared.places.Place.{Place}
use Rattle.net_places.specs.declared.whole.Unrolled.{Unrolled}
use Rattle.vrt_model.proofs.Lists.{at_map, map_at}
use Rattle.vrt_model.specs.Comparison.{cell_at}
use Rattle.vrt_model.specs.FlatCircuit.{Reached, Ruled, end_by, instance_of, inverted_by, led_up, line_of, match_of, net_id, same_path}
use Rattle.vrt_model.specs.Inputs.{IsDesign}
use Rattle.vrt_model.specs.Lists.{At, differ}
use Rattle.vrt_model.specs.Unrolled.{Place as FlatPlace, Step, Top, all_places}
use Rattle.vrt_model.specs.declared.circuit.Enter.{Enter}
use Rattle.vrt_model.specs.declared.circuit.Hold.{Hold}
use Rattle.vrt_model.specs.declared.circuit.HoldEnd.{HoldEnd}
use Rattle.vrt_model.specs.declared.circuit.HoldEnd.TheVariants.{Latch}
use Rattle.vrt_model.specs.declared.design.Design.{Design}
use Rattle.vrt_model.specs.declared.design.InstanceCard.{InstanceCard}
use Rattle.vrt_model.specs.declared.pairing.PortRole.{PortRole}
use Rattle.vrt_model.specs.declared.rules.HoldRule.{HoldRule}
use Rattle.vrt_model.specs.declared.rules.InstanceMatchRule.{InstanceMatchRule}
use Rattle.vrt_model.specs.declared.rules.MatchRule.{MatchRule}
use Rattle.vrt_model.specs.declared.rules.Rules.{Rules}

module _ (design : Design) (rules : Rules) (unrolled : Unrolled) where
  module _ (cell : ℕ) (roles : List PortRole) (is : IsUnrolled (whole_of design rules cell roles) unrolled) where
    place_at : (n : ℕ) (at : FlatPlace) → At (all_places (whole_of design rules cell roles)) n at → (p : Place) × At unrolled.places n p × (shown p ≡ bare at)
    place_at n at there =
        at_map shown unrolled.places n (bare at)
        (subst (λ (bs : List Bare). At bs n (bare at)) (sym is.places_are) (map_at bare (all_places (whole_of design rules cell roles)) n at there))

    -- the line of the cell around
    line_is : (n : ℕ) (p : Place) (at outer : FlatPlace) (card : InstanceCard) → IsInside (whole_of design rules cell roles) (all_places (whole_of design rules cell roles)) n p at outer card
        → (name : List ℕ) → line_above rules.instance_matches design unrolled p name ≡ line_of rules (step_of (whole_of design rules cell roles) outer card) name
    line_is n p at outer card inside name =
        let q = place_at p.around outer inside.around in
        let within : (cell_at design q.0.cell).name ≡ (cell_at design outer.cell).name = ap (λ (b : Bare). (cell_at design b.cell).name) q.2 in
        let instance : name_at design q.0.cell p.card ≡ card.name =
        ap (λ (b : Bare). name_at design b.cell p.card) q.2
        ∙ ap (λ (o : Option InstanceCard). (let one : InstanceCard = unwrap_or o (record { line = 0; name = []; nets = []; cell = [] }) in one).name) inside.on_card in
        ap (line_from rules.instance_matches design p name) q.1
        ∙ ap₂ (λ (c i : List ℕ). find (is_line_of c i name) rules.instance_matches) within instance

    -- the path to a place
    at_top : (at : FlatPlace) (name : List ℕ) (inverted : Bool) → At (all_places (whole_of design rules cell roles)) 0 at
        → IsReached (whole_of design rules cell roles) (led_up rules at.path name inverted) 0 name inverted
    at_top at name inverted there =
        let top = first_path (whole_of design rules cell roles) at there in
        subst (λ (path : List Step). IsReached (whole_of design rules cell roles) (led_up rules path name inverted) 0 name inverted) (sym top)
        (record { place = (at, there, top); name_is = refl; inverted_is = refl })

    stays : (at : FlatPlace) (step : Step) (steps : List Step) (name : List ℕ) (inverted : Bool) (n : ℕ) → At (all_places (whole_of design rules cell roles)) n at → at.path ≡ step ∷ steps
        → line_of rules step name ≡ None → IsReached (whole_of design rules cell roles) (led_up rules at.path name inverted) n name inverted
    stays at step steps name inverted n there path none =
        subst (λ (r : Reached). IsReached (whole_of design rules cell roles) r n name inverted)
        (sym (ap (λ (path : List Step). led_up rules path name inverted) path
        ∙ ap (λ (o : Option InstanceMatchRule). elim o [ None ↦ (let one : Reached = record { path = step ∷ steps; element = name; inverted = inverted } in one) | Some line ↦ led_up rules steps line.latch (differ inverted line.inverted) ]) none))
        (record { place = (at, there, path); name_is = refl; inverted_is = refl })

    goes_on : (at : FlatPlace) (step : Step) (steps : List Step) (name : List ℕ) (inverted : Bool) (line : InstanceMatchRule) (n : ℕ) (element : List ℕ) (differs : Bool) → at.path ≡ step ∷ steps
        → line_of rules step name ≡ Some line → IsReached (whole_of design rules cell roles) (led_up rules steps line.latch (differ inverted line.inverted)) n element differs
        → IsReached (whole_of design rules cell roles) (led_up rules at.path name inverted) n element differs
    goes_on at step steps name inverted line n element differs path some =
        subst (λ (r : Reached). IsReached (whole_of design rules cell roles) r n element differs)
        (sym (ap (λ (path : List Step). led_up rules path name inverted) path
        ∙ ap (λ (o : Option InstanceMatchRule). elim o [ None ↦ (let one : Reached = record { path = step ∷ steps; element = name; inverted = inverted } in one) | Some line ↦ led_up rules steps line.latch (differ inverted line.inverted) ]) some))

  -- ---- one step up

  -- the whole
  pub lead_top : (place : ℕ) (p : Place) (name : List ℕ) (inverted : Bool) → slice_get unrolled.places place ≡ Some p → place ≤ p.around
      → AllLead design rules unrolled place name inverted place name inverted
  lead_top zero p name inverted here le cell roles at is there = at_top cell roles is at name inverted there
  lead_top (suc i) p name inverted here le cell roles at is there =
      let before = (is.nested i p at here there).2.before in absurd (omega (arith, before, le))

  -- no line leads on
  pub lead_last : (place : ℕ) (p : Place) (name : List ℕ) (inverted : Bool) → slice_get unrolled.places place ≡ Some p
      → p.around < place → line_above rules.instance_matches design unrolled p name ≡ None → AllLead design rules unrolled place name inverted place name inverted
  lead_last zero p name inverted here lt none cell roles at is there = absurd (omega (arith, lt))
  lead_last (suc i) p name inverted here lt none cell roles at is there =
      let inside = is.nested i p at here there in
      stays cell roles is at (step_of (whole_of design rules cell roles) inside.0 inside.1) inside.0.path name inverted (suc i) there inside.2.path
      (sym (line_is cell roles is (0 + suc i) p at inside.0 inside.1 inside.2 name) ∙ none)

  -- a line leads on
  line_on : (place : ℕ) (p : Place) (name : List ℕ) (inverted : Bool) (line : InstanceMatchRule) (n : ℕ) (element : List ℕ) (differs : Bool) → slice_get unrolled.places place ≡ Some p
      → p.around < place → line_above rules.instance_matches design unrolled p name ≡ Some line
      → AllLead design rules unrolled p.around line.latch (differ inverted line.inverted) n element differs → AllLead design rules unrolled place name inverted n element differs
  line_on zero p name inverted line n element differs here lt some above cell roles at is there = absurd (omega (arith, lt))
  line_on (suc i) p name inverted line n element differs here lt some above cell roles at is there =
      let inside = is.nested i p at here there in
      goes_on cell roles is at (step_of (whole_of design rules cell roles) inside.0 inside.1) inside.0.path name inverted line n element differs inside.2.path
      (sym (line_is cell roles is (0 + suc i) p at inside.0 inside.1 inside.2 name) ∙ some) (above cell roles inside.0 is inside.2.around)

  pub lead_on : (place : ℕ) (p : Place) (name : List ℕ) (inverted : Bool) (line : InstanceMatchRule) (latch : List ℕ) (polarity : Bool)
      (n : ℕ) (element : List ℕ) (differs : Bool) → slice_get unrolled.places place ≡ Some p → p.around < place
      → line_above rules.instance_matches design unrolled p name ≡ Some line → latch ≡ line.latch → polarity ≡ differ inverted line.inverted
      → AllLead design rules unrolled p.around latch polarity n element differs → AllLead design rules unrolled place name inverted n element differs
  lead_on place p name inverted line latch polarity n element differs here lt some le pe above =
      line_on place p name inverted line n element differs here lt some
      (subst (λ (x : List ℕ). AllLead design rules unrolled p.around x (differ inverted line.inverted) n element differs) le
      (subst (λ (b : Bool). AllLead design rules unrolled p.around latch b n element differs) pe above))

  -- the first line of a hold
  pub first_line : (place : ℕ) (rule : HoldRule) (line : MatchRule) (latch : List ℕ) (n : ℕ) (element : List ℕ) (differs : Bool)
      → find (is_match_of rule) rules.matches ≡ Some line → latch ≡ line.latch → AllLead design rules unrolled place latch line.inverted n element differs
      → (l : MatchRule) × (match_of rules rule ≡ Some l) × AllLead design rules unrolled place l.latch l.inverted n element differs
  first_line place rule line latch n element differs found le leads =
      (line, found, subst (λ (x : List ℕ). AllLead design rules unrolled place x line.inverted n element differs) le leads)

  -- ---- the number of an instance

  same_self : (path : List Step) → same_path path path ≡ true
  same_self [] = refl
  same_self (step ∷ steps) = ap₂ (λ (a b : Bool). a && b) ((bytes_eq-Decides step.instance step.instance).1 refl) (same_self steps)

  at_later : {X : Type 0} (xs : List X) (j : ℕ) (x : X) → At (drop 1 xs) j x → At xs (suc j) x
  at_later [] j x e = e
  at_later (y ∷ xs) j x e = e

  at_rest : {X : Type 0} (xs : List X) (j : ℕ) (x : X) → At xs (suc j) x → At (drop 1 xs) j x
  at_rest [] j x e = e
  at_rest (y ∷ xs) j x e = e

  module _ (netlist : IsDesign design) where
    instance_is : (cell : ℕ) (roles : List PortRole) → IsUnrolled (whole_of design rules cell roles) unrolled → (n : ℕ) (at : FlatPlace)
        → At (all_places (whole_of design rules cell roles)) n at → instance_of (whole_of design rules cell roles) at.path ≡ instance_by n
    instance_is cell roles is zero at there = ap (instance_of (whole_of design rules cell roles)) (first_path (whole_of design rules cell roles) at there)
    instance_is cell roles is (suc k) at there =
        let q = place_at cell roles is (suc k) at there in
        let inside = is.nested k q.0 at q.1 there in
        let path : List Step = step_of (whole_of design rules cell roles) inside.0 inside.1 ∷ inside.0.path in
        let alike : same_path at.path path ≡ true = subst (λ (other : List Step). same_path at.path other ≡ true) inside.2.path (same_self at.path) in
        ap (instance_of (whole_of design rules cell roles)) inside.2.path
        ∙ position_is (λ (other : FlatPlace). same_path other.path path) (drop 1 (all_places (whole_of design rules cell roles))) k at (at_rest (all_places (whole_of design rules cell roles)) k at there) alike
        (λ j y less here. elim (cases_Bool (same_path y.path path)) [
          | inl is_same ↦ (
              let e = all_differ (whole_of design rules cell roles) netlist (suc j) (suc k) y at (at_later (all_places (whole_of design rules cell roles)) j y here) there
              (subst (λ (other : List Step). same_path y.path other ≡ true) (sym inside.2.path) is_same) in
              absurd (omega (arith, e, less)))
          | inr is_other ↦ is_other
        ])

    -- ---- the hold

    pub hold_is : (place : ℕ) (rule : HoldRule) (n : ℕ) (element : Option Element) (enters : List Enter) (end : HoldEnd) (inverted : Bool) → HasElement design rules unrolled place rule element
        → enters ≡ filter_map (enter_by rule) rules.enters → end ≡ end_from n element → inverted ≡ inverted_from element
        → IsHold design rules unrolled place rule n (record { net = net_id n; size = rule.size; end = end; inverted = inverted; enters = enters })
    hold_is place rule n None enters end inverted none es ends ins cell roles at is there =
        let t : Top = whole_of design rules cell roles in
        let one : Ruled = record { at = at; rule = rule } in
        let end_is : end ≡ end_by t n one (match_of rules rule) = ends ∙ ap (end_by t n one) (sym none) in
        let inverted_is : inverted ≡ inverted_by t one (match_of rules rule) = ins ∙ ap (inverted_by t one) (sym none) in
        ap₂ (λ (x : HoldEnd) (b : Bool). let h : Hold = record { net = net_id n; size = rule.size; end = x; inverted = b; enters = enters } in h) end_is inverted_is
        ∙ ap (λ (xs : List Enter). let h : Hold = record { net = net_id n; size = rule.size; end = end_by t n one (match_of rules rule); inverted = inverted_by t one (match_of rules rule); enters = xs } in h) es
    hold_is place rule n (Some e) enters end inverted has es ends ins cell roles at is there =
        let t : Top = whole_of design rules cell roles in
        let one : Ruled = record { at = at; rule = rule } in
        let line : MatchRule = has.0 in
        let reached : Reached = led_up rules at.path line.latch line.inverted in
        let r = has.2 cell roles at is there in
        let instance : instance_by e.place ≡ instance_of t reached.path = sym (instance_is cell roles is e.place r.place.0 r.place.1) ∙ ap (instance_of t) r.place.2 in
        let end_is : end ≡ end_by t n one (match_of rules rule) =
        ends ∙ ap₂ (λ (i : Option ℕ) (x : List ℕ). Latch i x) instance r.name_is ∙ ap (end_by t n one) (sym has.1) in
        let inverted_is : inverted ≡ inverted_by t one (match_of rules rule) = ins ∙ r.inverted_is ∙ ap (inverted_by t one) (sym has.1) in
        ap₂ (λ (x : HoldEnd) (b : Bool). let h : Hold = record { net = net_id n; size = rule.size; end = x; inverted = b; enters = enters } in h) end_is inverted_is
        ∙ ap (λ (xs : List Enter). let h : Hold = record { net = net_id n; size = rule.size; end = end_by t n one (match_of rules rule); inverted = inverted_by t one (match_of rules rule); enters = xs } in h) es
