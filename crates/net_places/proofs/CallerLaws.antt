-- What a caller that has tested the limits knows of an unrolled cell.
use Rattle.std.proofs.Common.{◌≡◌, ◌≤◌, ℕ, Bool, true, false, cond, nat_lt, List, length, Option, Some, None, refl, ap, sym, subst, arith}
use Rattle.std.specs.Prelude.{option_map}
use Rattle.std.proofs.lemmas.Bool.Decides.{nat_tests}
use Rattle.std.proofs.lemmas.Option.{none-some}
use Rattle.net_places.specs.Instances.{AreSmall}
use Rattle.net_places.specs.Links.{Bare, IsUnrolled, bare, shown}
use Rattle.net_places.specs.declared.whole.Unrolled.{Unrolled}
use Rattle.vrt_model.proofs.Lists.{at_map, map_at}
use Rattle.vrt_model.specs.FlatCircuit.{flat_devices, flat_instances, flat_nets}
use Rattle.vrt_model.specs.Inputs.{IsDesign}
use Rattle.vrt_model.specs.Lists.{At}
use Rattle.vrt_model.specs.Unrolled.{Top, all_places}
use Rattle.vrt_model.specs.Unsupported.{Limit, carried, circuit_limits, too_large}

-- where no count passes its limit, the nets are few
pub few_nets : (t : Top) → too_large (circuit_limits t) ≡ None → length (flat_nets t) ≤ 20000
few_nets t none = by_test (nat_lt 20000 (length (flat_nets t))) refl none where
  nets : Limit
  nets = record { count = length (flat_nets t); limit = 20000 }

  rest : Option Limit
  rest =
      cond (nat_lt 40000 (length (flat_devices t))) (Some (record { count = length (flat_devices t); limit = 40000 }))
      (cond (nat_lt 40000 (length (flat_instances t))) (Some (record { count = length (flat_instances t); limit = 40000 })) None)

  by_test : (b : Bool) → nat_lt 20000 (length (flat_nets t)) ≡ b → option_map (λ (l : Limit). carried l.count) (cond b (Some nets) rest) ≡ None → length (flat_nets t) ≤ 20000
  by_test true e none = absurd (none-some (carried (length (flat_nets t))) (sym none))
  by_test false e none = at_most (length (flat_nets t)) e where
    at_most : (n : ℕ) → nat_lt 20000 n ≡ false → n ≤ 20000
    at_most n e = grind (arith, nat_tests, e)

-- the cells of a netlist are few
pub are_small : (t : Top) (unrolled : Unrolled) → IsDesign t.design → IsUnrolled t unrolled → AreSmall unrolled.places
are_small t unrolled design is p m =
    let found = at_map bare (all_places t) m.0 (shown p) (subst (λ (bs : List Bare). At bs m.0 (shown p)) is.places_are (map_at shown unrolled.places m.0 p m.1)) in
    let cell : found.0.cell ≡ p.cell = ap (λ (b : Bare). b.cell) found.2 in
    let there = is.cells found.0 (m.0, found.1) in
    let few = design.cell_limit in
    omega (arith, cell, there, few)

-- ---- places
