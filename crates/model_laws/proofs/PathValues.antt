-- Strengths, clear paths and responses on small circuits.
use Rattle.std.proofs.Common.{◌≡◌, ℕ, ◌≤◌, Bool, true, false, List, [], ◌∷◌, Option, sym, subst, refl, ◌∙◌, inl, inr, arith}
use Rattle.std.specs.Prelude.{cond, codes, nat_eq, nat_le, not, option_map, slice_get, unwrap_or}
use Rattle.model_laws.specs.Cells.{blk_cell, blk_rules, inv_model}
use Rattle.vrt_model.proofs.Cells.{design_of}
use Rattle.vrt_model.proofs.Members.{at_all, at_none}
use Rattle.vrt_model.specs.FlatBlif.{all_models, flat_model_of, network_names, signals_of, unrolled_of}
use Rattle.vrt_model.specs.FlatCircuit.{flat_circuit_of}
use Rattle.vrt_model.specs.Lists.{At, Among, bit_at}
use Rattle.vrt_model.specs.PairedPorts.{pairing_of}
use Rattle.vrt_model.specs.Path.{Network, Root, Hop, IsGivenRoot, IsPath, Joins, IsRoot, end_of, level_of}
use Rattle.vrt_model.specs.Reading.{is_given}
use Rattle.vrt_model.specs.Response.{IsStrength, IsClear, Reaches}
use Rattle.vrt_model.specs.State.{network_of}
use Rattle.vrt_model.specs.Unrolled.{all_places, global_nets, net_at, own_nets}
use Rattle.vrt_model.specs.Unsupported.{comparison_of}
use Rattle.vrt_model.specs.declared.circuit.Circuit.{Circuit}
use Rattle.vrt_model.specs.declared.circuit.Device.{Device}
use Rattle.vrt_model.specs.declared.circuit.NetKind.{NetKind}
use Rattle.vrt_model.specs.declared.circuit.NetKind.TheVariants.{Supply, Input, Plain}
use Rattle.vrt_model.specs.declared.circuit.FlatNet.{FlatNet}
use Rattle.vrt_model.specs.declared.circuit.Hold.{Hold}
use Rattle.vrt_model.specs.declared.whole.WholePin.{WholePin}
use Rattle.vrt_model.specs.declared.design.Kind.TheVariants.{N, P}
use Rattle.std.proofs.lemmas.Bool.{cases_Bool, cond-false, cond-true, false≢true, leb-true}

-- the blocked load: nets gnd, vdd, a, y, m
abbrev load : Device
load = record { name = codes "m1"; kind = P; gate = record { 0 = 0 }; left = record { 0 = 4 }; right = record { 0 = 1 }; level = 4; keeper = false }

abbrev pull : Device
pull = record { name = codes "m2"; kind = N; gate = record { 0 = 2 }; left = record { 0 = 4 }; right = record { 0 = 0 }; level = 6; keeper = false }

abbrev pass : Device
pass = record { name = codes "m3"; kind = N; gate = record { 0 = 1 }; left = record { 0 = 4 }; right = record { 0 = 3 }; level = 4; keeper = false }

abbrev blk : Circuit
blk = record {
  nets =
      record { name = codes "gnd"; kind = Supply false } ∷ record { name = codes "vdd"; kind = Supply true } ∷ record { name = codes "a"; kind = Input }
      ∷ record { name = codes "y"; kind = Plain } ∷ record { name = codes "m"; kind = Plain } ∷ [];
  devices = load ∷ pull ∷ pass ∷ [];
  holds = [];
  instances = [];
  wholes = [];
  source = 8;
}

-- it is the flat circuit of its netlist
blk_is_flat : (comparison_of (design_of (blk_cell ∷ [])) (record { models = record inv_model { name = codes "blk" } ∷ [] }) blk_rules 0 0).circuit ≡ blk
unfolding flat_circuit_of all_places net_at own_nets global_nets flat_model_of unrolled_of network_names all_models signals_of pairing_of
blk_is_flat = refl

-- at a = 1
abbrev at_one : Network
at_one = network_of blk true (λ place. false) (record { reading = bit_at (false ∷ true ∷ true ∷ false ∷ false ∷ []); driven = λ place. false })

abbrev pub from_gnd : Root
from_gnd = record { net = 0; level = 8; value = false }

abbrev pub from_vdd : Root
from_vdd = record { net = 1; level = 8; value = true }

abbrev down : List Hop
down = record { device = pull; to = 4 } ∷ []

abbrev up : List Hop
up = record { device = load; to = 4 } ∷ []

down_is_path : IsPath at_one from_gnd down
down_is_path = (inl (_, refl, refl, refl, refl), ((1, refl), refl), inr (refl, refl), λ e. omega arith)

up_is_path : IsPath at_one from_vdd up
up_is_path = (inl (_, refl, refl, refl, refl), ((0, refl), refl), inr (refl, refl), λ e. omega arith)

-- the net at a place is given
abbrev pub plain_at : Network → ℕ → Bool
plain_at w n = unwrap_or (option_map (λ (net : FlatNet). not (is_given net.kind)) (slice_get w.nets n)) true

-- where there is neither a hold nor a whole output, no path begins at a plain net
pub no_root_at : (w : Network) (n : ℕ) → w.holds ≡ [] → w.outputs ≡ [] → plain_at w n ≡ true → (root : Root) → IsRoot w root → root.net ≡ n → ⊥
no_root_at w n holds outputs plain root r e =
    elim r [
      | inl g ↦ given g
      | inr other ↦ elim other [
        | inl h ↦ at_none h.0 h.1 (subst (λ (xs : List Hold). At xs h.0 h.1) holds h.2)
        | inr o ↦ at_none o.0 o.1 (subst (λ (xs : List WholePin). At xs o.0 o.1) outputs o.2)
      ]
    ]
  where
    given : IsGivenRoot w root → ⊥
    given g =
        let at_n : At w.nets n g.0 = subst (λ m. At w.nets m g.0) e g.1 in
        let found : not (is_given g.0.kind) ≡ true = subst (λ (o : Option FlatNet). unwrap_or (option_map (λ (net : FlatNet). not (is_given net.kind)) o) true ≡ true) at_n plain in
        let both : not true ≡ true = subst (λ b. not b ≡ true) g.2 found in
        false≢true both

no_root_at_m : (root : Root) → IsRoot at_one root → root.net ≡ 4 → ⊥
no_root_at_m root r e = no_root_at at_one 4 refl refl refl root r e

-- a device of the circuit has at most level 6
at_most_six : (d : Device) → Among at_one.devices d → d.level ≤ 6
at_most_six d m = leb-true d.level 6 (at_all (λ (x : Device). nat_le x.level 6) at_one.devices m.0 d refl m.1)

-- m has the strength 6 of the path from gnd
strength_of_m : IsStrength at_one 4 6
strength_of_m = (most, inr (from_gnd, down, down_is_path, refl, refl))
  where
    most : (root : Root) (hops : List Hop) → IsPath at_one root hops → end_of root hops ≡ 4 → level_of root hops ≤ 6
    most root [] p e = absurd (no_root_at_m root p e)
    most root (hop ∷ hops) p e = let le = at_most_six hop.device p.1.0 in omega (arith, le)

-- so the load's path of level 4 is blocked there
load_is_blocked : ¬ IsClear at_one from_vdd up
load_is_blocked clear = let le : 6 ≤ 4 = clear.1.0 from_gnd down down_is_path refl in omega (arith, le)

-- the path from gnd through m to y
abbrev through : List Hop
through = record { device = pass; to = 3 } ∷ down

through_is_path : IsPath at_one from_gnd through
through_is_path = (down_is_path, ((2, refl), refl), inl (refl, refl), (λ e. omega arith, λ e. omega arith))

-- without holds and whole outputs each root has the source level
pub root_level : (w : Network) → w.holds ≡ [] → w.outputs ≡ [] → (root : Root) → IsRoot w root → root.level ≡ w.source
root_level w holds outputs root r =
    elim r [
      | inl g ↦ g.3
      | inr other ↦ elim other [
        | inl h ↦ absurd (at_none h.0 h.1 (subst (λ (xs : List Hold). At xs h.0 h.1) holds h.2))
        | inr o ↦ absurd (at_none o.0 o.1 (subst (λ (xs : List WholePin). At xs o.0 o.1) outputs o.2))
      ]
    ]

-- gnd has the source level, and y the level 4 of its one device
strength_of_gnd : IsStrength at_one 0 8
strength_of_gnd = (most, inr (from_gnd, [], down_is_path.0, refl, refl))
  where
    most : (root : Root) (hops : List Hop) → IsPath at_one root hops → end_of root hops ≡ 0 → level_of root hops ≤ 8
    most root [] p e = let is : root.level ≡ 8 = root_level at_one refl refl root p in omega (arith, is)
    most root (hop ∷ hops) p e = let le = at_most_six hop.device p.1.0 in omega (arith, le)

-- each device at y has level 4
low_at_y : ℕ → ℕ → ℕ → Bool
low_at_y left right level = cond (nat_eq left 3) (nat_le level 4) (cond (nat_eq right 3) (nat_le level 4) true)

low_left : (left right level : ℕ) → left ≡ 3 → low_at_y left right level ≡ true → level ≤ 4
unfolding low_at_y
low_left left right level e h = let test : low_at_y 3 right level ≡ true = subst (λ (l : ℕ). low_at_y l right level ≡ true) e h in leb-true level 4 test

low_right : (left right level : ℕ) → right ≡ 3 → low_at_y left right level ≡ true → level ≤ 4
unfolding low_at_y
low_right left right level e h =
    let test : low_at_y left 3 level ≡ true = subst (λ (r : ℕ). low_at_y left r level ≡ true) e h in
    elim (cases_Bool (nat_eq left 3)) [
      | inl is ↦ leb-true level 4 (sym (cond-true (nat_eq left 3) (nat_le level 4) (nat_le level 4) is) ∙ test)
      | inr apart ↦ leb-true level 4 (sym (cond-false (nat_eq left 3) (nat_le level 4) (nat_le level 4) apart) ∙ test)
    ]

strength_of_y : IsStrength at_one 3 4
unfolding low_at_y
strength_of_y = (most, inr (from_gnd, through, through_is_path, refl, refl))
  where
    low : (d : Device) → Among at_one.devices d → low_at_y d.left.0 d.right.0 d.level ≡ true
    low d m = at_all (λ (x : Device). low_at_y x.left.0 x.right.0 x.level) at_one.devices m.0 d refl m.1

    last : (d : Device) (n to : ℕ) → Among at_one.devices d → Joins d n to → to ≡ 3 → d.level ≤ 4
    last d n to m j e =
        elim j [
          | inl here ↦ low_right d.left.0 d.right.0 d.level (here.1 ∙ e) (low d m)
          | inr here ↦ low_left d.left.0 d.right.0 d.level (here.0 ∙ e) (low d m)
        ]

    most : (root : Root) (hops : List Hop) → IsPath at_one root hops → end_of root hops ≡ 3 → level_of root hops ≤ 4
    most root [] p e = absurd (no_root_at at_one 3 refl refl refl root p e)
    most root (hop ∷ hops) p e = let le = last hop.device (end_of root hops) hop.to p.1.0 p.2 e in omega (arith, le)

-- the path is clear, and brings 0 to y
through_is_clear : IsClear at_one from_gnd through
through_is_clear = ((strength_of_gnd, strength_of_m), strength_of_y)

y_is_reached : Reaches at_one 3 false
y_is_reached = (from_gnd, through, through_is_path, through_is_clear, refl, refl)

-- ---- a bridge: nets gnd, vdd, a, b, c, d, e, y, l, r

abbrev bridge : Circuit
bridge =
    let switch : ℕ → ℕ → ℕ → Device = λ gate left right. record { name = []; kind = N; gate = record { 0 = gate }; left = record { 0 = left }; right = record { 0 = right }; level = 6; keeper = false } in
    let net : NetKind → FlatNet = λ kind. record { name = []; kind = kind } in
    record {
      nets = net (Supply false) ∷ net (Supply true) ∷ net Input ∷ net Input ∷ net Input ∷ net Input ∷ net Input ∷ net Plain ∷ net Plain ∷ net Plain ∷ [];
      devices = switch 2 1 8 ∷ switch 3 1 9 ∷ switch 4 8 9 ∷ switch 5 8 7 ∷ switch 6 9 7 ∷ [];
      holds = [];
      instances = [];
      wholes = [];
      source = 8;
    }

-- at a = c = e = 1 and b = d = 0
abbrev across : Network
across = network_of bridge true (λ place. false) (record { reading = bit_at (false ∷ true ∷ true ∷ false ∷ true ∷ false ∷ true ∷ false ∷ false ∷ false ∷ []); driven = λ place. false })

abbrev way : List Hop
way = record { device = switch 6 9 7; to = 7 } ∷ record { device = switch 4 8 9; to = 9 } ∷ record { device = switch 2 1 8; to = 8 } ∷ []
  where
    switch : ℕ → ℕ → ℕ → Device
    switch gate left right = record { name = []; kind = N; gate = record { 0 = gate }; left = record { 0 = left }; right = record { 0 = right }; level = 6; keeper = false }

way_is_path : IsPath across from_vdd way
way_is_path = (
  ((
    (inl (_, refl, refl, refl, refl), ((0, refl), refl), inl (refl, refl), λ e. omega arith),
    ((2, refl), refl),
    inl (refl, refl),
    (λ e. omega arith, λ e. omega arith),
  )),
  ((4, refl), refl),
  inl (refl, refl),
  (λ e. omega arith, (λ e. omega arith, λ e. omega arith)),
)
