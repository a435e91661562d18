-- What is asked of a cell whose instances may be left whole.
use Rattle.std.proofs.Common.{◌≡◌, ℕ, zero, suc, ◌+◌, ◌<◌, ◌≤◌, ◌&&◌, ◌||◌, Bool, true, false, not, List, [], ◌∷◌, length, map, Option, Some, arith, ap, ap₂, refl, subst, sym, ◌∙◌}
use Rattle.std.specs.Prelude.{◌==◌, cond, filter, bytes_eq, option_map, slice_get, unwrap_or}
use Rattle.std.specs.List.{list_all}
use Rattle.std.proofs.lemmas.Bool.{and_from, and_parts, eqb-true, false_from_ne_true, false≢true}
use Rattle.std.proofs.lemmas.Option.{none-some, same_Some, slice_get_within}
use Rattle.std.proofs.lemmas.Slice.Eq.{bytes_eq-Decides}
use Rattle.names.proofs.PlaceLaws.{any_placed}
use Rattle.net_places.specs.Links.{AreGlobalNets, AreNoOthers}
use Rattle.phase_ports.specs.Ports.{unnamed}
use Rattle.phase_ports.specs.declared.port_list.Port.{Port}
use Rattle.whole_circuits.proofs.OutputLaws.{none_passes}
use Rattle.whole_circuits.specs.CellTests.{is_port_free, is_zero_at}
use Rattle.vrt_model.proofs.Lists.{at_there}
use Rattle.vrt_model.proofs.Members.{among_any, among_later}
use Rattle.vrt_model.proofs.Tests.{some_of}
use Rattle.vrt_model.specs.Checked.{keeps_inputs_free, may_meet_channels, names_no_global}
use Rattle.vrt_model.specs.Comparison.{CellPort, Comparison, cell_at, ports_of}
use Rattle.vrt_model.specs.Lists.{Among, At, is_empty, place_of}
use Rattle.vrt_model.specs.Unrolled.{Top, deepest, first_global, global_nets, globals_of, names_global}
use Rattle.vrt_model.specs.WholeInstances.{channels_at}
use Rattle.vrt_model.specs.declared.circuit.Circuit.{Circuit}
use Rattle.vrt_model.specs.declared.circuit.Device.{Device}
use Rattle.vrt_model.specs.declared.ids.Net.{Net}

-- ---- inputs

free_by : (devices : List Device) (ports : List CellPort)
    → list_all (is_port_free devices) (map unnamed ports) ≡ list_all (λ (p : CellPort). may_meet_channels p.role || is_empty (channels_at devices p.net)) ports
free_by devices [] = refl
free_by devices (p ∷ ports) =
    ap₂ (λ (a b : Bool). (may_meet_channels p.role || a) && b) (sym (none_passes (λ (d : Device). (d.left.0 == p.net) || (d.right.0 == p.net)) devices)) (free_by devices ports)

pub ports_are_free : (k : Comparison) (c : Circuit) (devices : List Device) (ports : List Port) → k.circuit ≡ c → devices ≡ c.devices → ports ≡ map unnamed (ports_of k)
    → list_all (is_port_free devices) ports ≡ keeps_inputs_free k
ports_are_free k c devices ports circuit same ports_are =
    ap₂ (λ (ds : List Device) (ps : List Port). list_all (is_port_free ds) ps) (same ∙ ap (λ (x : Circuit). x.devices) (sym circuit)) ports_are ∙ free_by k.circuit.devices (ports_of k)

-- ---- global nets

all_from : {X : Type 0} (test : X → Bool) (xs : List X) → ((i : ℕ) (x : X) → At xs i x → test x ≡ true) → list_all test xs ≡ true
all_from test [] h = refl
all_from test (x ∷ xs) h = and_from (test x) (list_all test xs) (h 0 x refl) (all_from test xs (λ i y e. h (suc i) y e))

none_kept : {X : Type 0} (test : X → Bool) (xs : List X) → list_all (λ x. not (test x)) xs ≡ true → filter test xs ≡ []
none_kept test [] e = refl
none_kept {X} test (x ∷ xs) e =
    let both = and_parts (not (test x)) (list_all (λ y. not (test y)) xs) e in
    ap (λ (b : Bool). cond b (x ∷ filter test xs) (filter test xs)) (not_true (test x) both.0) ∙ none_kept test xs both.1
  where
    not_true : (b : Bool) → not b ≡ true → b ≡ false
    not_true true t = absurd (false≢true t)
    not_true false t = refl

kept_there : {X : Type 0} (test : X → Bool) (xs : List X) (i : ℕ) (x : X) → At xs i x → test x ≡ true → Among (filter test xs) x
kept_there test [] i x e t = absurd (none-some x e)
kept_there {X} test (y ∷ xs) zero x e t =
    subst (λ (z : X). Among (cond (test z) (z ∷ filter test xs) (filter test xs)) x) (sym (same_Some y x e))
    (subst (λ (b : Bool). Among (cond b (x ∷ filter test xs) (filter test xs)) x) (sym t) (0, refl))
kept_there {X} test (y ∷ xs) (suc i) x e t = by_test (test y) (kept_there test xs i x e t)
  where
    by_test : (b : Bool) → Among (filter test xs) x → Among (cond b (y ∷ filter test xs) (filter test xs)) x
    by_test true m = among_later y (filter test xs) x m
    by_test false m = m

name_placed : (names : List (List ℕ)) (name : List ℕ) → Among names name → (k : ℕ) × (place_of names name ≡ Some k)
name_placed names name m =
    some_of (place_of names name) (sym (any_placed (bytes_eq name) names) ∙ among_any (bytes_eq name) names name m ((bytes_eq-Decides name name).1 refl))

module _ (t : Top) (nets : List Net) where
  abbrev named : List ℕ → Bool
  named name = names_global t.design t.rules deepest (cell_at t.design t.cell) name

  named_at : AreGlobalNets t nets → (j : ℕ) (name : List ℕ) → At t.design.globals j name → named name ≡ true → is_zero_at nets j ≡ false
  unfolding global_nets
  named_at are j name here is =
      let k = name_placed (globals_of t) name (kept_there named t.design.globals j name here is) in
      let place : place_of (globals_of t) (unwrap_or (slice_get t.design.globals j) []) ≡ Some k.0 = ap (λ (o : Option (List ℕ)). place_of (globals_of t) (unwrap_or o [])) here ∙ k.1 in
      let at = are j k.0 (slice_get_within t.design.globals j name here) place in
      ap (λ (o : Option Net). unwrap_or (option_map (λ (n : Net). n.0 == 0) o) true) at ∙ not_zero (first_global t + k.0) (two_or_more k.0)
    where
      two_or_more : (k : ℕ) → 2 ≤ first_global t + k
      two_or_more k = omega arith

      not_zero : (n : ℕ) → 2 ≤ n → (n == 0) ≡ false
      not_zero n le = false_from_ne_true (n == 0) (λ e. let none = eqb-true n 0 e in omega (arith, le, none))

  -- where each is supply 0, none is named
  pub none_named : AreGlobalNets t nets → ((j : ℕ) → j < length t.design.globals → is_zero_at nets j ≡ true) → names_no_global t t.cell ≡ true
  none_named are zeros =
      all_from (λ name. not (named name)) t.design.globals (λ j name here.
      ap not (false_from_ne_true (named name) (λ e. false≢true (sym (named_at are j name here e) ∙ zeros j (slice_get_within t.design.globals j name here)))))

  -- where one is not, one is named
  pub some_named : AreNoOthers t nets → (j : ℕ) → j < length t.design.globals → is_zero_at nets j ≡ false → names_no_global t t.cell ≡ false
  unfolding global_nets
  some_named others j lt e =
      false_from_ne_true (names_no_global t t.cell) (λ none.
      let name = at_there t.design.globals j lt in
      let nothing : globals_of t ≡ [] = none_kept named t.design.globals none in
      let at = others j name.0 name.1 (ap (λ (names : List (List ℕ)). place_of names name.0) nothing) in
      let zero_there : is_zero_at nets j ≡ true = ap (λ (o : Option Net). unwrap_or (option_map (λ (n : Net). n.0 == 0) o) true) at in
      false≢true (sym e ∙ zero_there))
