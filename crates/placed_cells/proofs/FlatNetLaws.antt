-- The list of all nets of an unrolled cell: its supplies, and its plain nets behind the ports; and that names are in it.
use Rattle.std.proofs.Common.{◌≡◌, ◌<◌, ◌≤◌, ◌+◌, ◌++◌, ◌∷◌, [], ℕ, zero, suc, cond, List, Bool, true, false, map, flat_map, length, Option, Some, None, refl, ap, sym, ◌∙◌, arith, inl, inr, length-append}
use Rattle.std.specs.Prelude.{drop, slice_get}
use Rattle.std.proofs.lemmas.Bool.{false≢true}
use Rattle.std.proofs.lemmas.List.{length-map}
use Rattle.std.proofs.lemmas.Option.{none-some, same_Some, slice_get_within}
use Rattle.cell_inside.specs.Placed.{IsSupply}
use Rattle.placed_cells.proofs.NameLaws.{all_have}
use Rattle.placed_cells.proofs.RowLaws.{all_in_row, port_count}
use Rattle.placed_cells.proofs.SplitLaws.{port_below, top_globals}
use Rattle.placed_cells.specs.Rows.{AreInRow, own_size, size_inside}
use Rattle.placed_cells.specs.Splits.{is_net_in}
use Rattle.vrt_model.proofs.Lists.{at_either, at_there}
use Rattle.vrt_model.proofs.Members.{among_flat_map, among_map}
use Rattle.vrt_model.specs.CellRules.{supply_of}
use Rattle.vrt_model.specs.Comparison.{cell_at}
use Rattle.vrt_model.specs.FlatCircuit.{flat_circuit_of, flat_nets, kind_by, kind_by_role, own_flat_nets, plain_net, port_nets_of, supply_flat}
use Rattle.vrt_model.specs.Known.{IsPlain, is_plain_kind}
use Rattle.vrt_model.specs.Lists.{Among, At, path_name}
use Rattle.vrt_model.specs.Unrolled.{Place, Top, all_places, deepest, globals_of, net_at, own_nets, path_text, top_cell, top_place}
use Rattle.vrt_model.specs.declared.circuit.FlatNet.{FlatNet}
use Rattle.vrt_model.specs.declared.circuit.NetKind.{NetKind}
use Rattle.vrt_model.specs.declared.circuit.NetKind.TheVariants.{Clock as ClockNet, Input as InputNet, Plain, Supply as SupplyNet}
use Rattle.vrt_model.specs.declared.pairing.PortRole.{PortRole}
use Rattle.vrt_model.specs.declared.pairing.PortRole.TheVariants.{Clock, Input, Output, Supply}
use Rattle.vrt_model.specs.declared.rules.Rules.{Rules}

-- ---- kinds

bit_of : NetKind → Bool
bit_of (SupplyNet value) = value
bit_of (ClockNet clock) = false
bit_of InputNet = false
bit_of Plain = false

plain_no_supply : (k : NetKind) (value : Bool) → k ≡ Plain → k ≡ SupplyNet value → ⊥
plain_no_supply k value e f = false≢true (ap is_plain_kind (sym f ∙ e))

-- a port that is not named as a supply is none
role_no_supply : (rules : Rules) (name : List ℕ) (role : PortRole) (value : Bool) → ((v : Bool) → role ≡ Supply v → supply_of rules name ≡ Some v) → supply_of rules name ≡ None → kind_by_role role ≡ SupplyNet value → ⊥
role_no_supply rules name (Supply v) value named none e = none-some v (sym none ∙ named v refl)
role_no_supply rules name (Clock clock) value named none e = false≢true (ap is_clock (sym e))
  where
    is_clock : NetKind → Bool
    is_clock (SupplyNet v) = false
    is_clock (ClockNet c) = true
    is_clock InputNet = false
    is_clock Plain = false
role_no_supply rules name (Input signal) value named none e = false≢true (ap is_input (sym e))
  where
    is_input : NetKind → Bool
    is_input (SupplyNet v) = false
    is_input (ClockNet c) = false
    is_input InputNet = true
    is_input Plain = false
role_no_supply rules name (Output signal) value named none e = plain_no_supply Plain value refl e

-- ports whose roles are supplies are named as these
abbrev pub NamedSupplies : Rules → List (List ℕ) → List PortRole → Type 0
NamedSupplies rules names roles =
    (at : ℕ) (name : List ℕ) (role : PortRole) (value : Bool) → At names at name → At roles at role → role ≡ Supply value → supply_of rules name ≡ Some value

behind_role : (roles : List PortRole) (at : ℕ) (role : PortRole) → At (drop 1 roles) at role → At roles (suc at) role
behind_role [] at role e = absurd (none-some role e)
behind_role (r ∷ roles) at role e = e

port_no_supply : (rules : Rules) (names : List (List ℕ)) (roles : List PortRole) → NamedSupplies rules names roles → (j : ℕ) (net : FlatNet) (value : Bool) → At (port_nets_of rules names roles) j net
    → net.kind ≡ SupplyNet value → ⊥
port_no_supply rules [] roles named j net value e k = none-some net e
port_no_supply rules (x ∷ names) roles named j net value e k =
    by_supply (supply_of rules x) refl j e (λ i here. port_no_supply rules names (drop 1 roles) (λ at name role v a b. named (suc at) name role v a (behind_role roles at role b)) i net value here k)
  where
    first : (rs : List PortRole) → ((role : PortRole) (v : Bool) → At rs 0 role → role ≡ Supply v → supply_of rules x ≡ Some v) → supply_of rules x ≡ None → kind_by (slice_get rs 0) ≡ SupplyNet value → ⊥
    first [] h none is = plain_no_supply Plain value refl is
    first (role ∷ rs) h none is = role_no_supply rules x role value (λ v same. h role v refl same) none is

    by_supply : (o : Option Bool) → supply_of rules x ≡ o → (i : ℕ)
        → At {X = FlatNet} (elim o [ None ↦ record { name = x; kind = kind_by (slice_get roles 0) } ∷ port_nets_of rules names (drop 1 roles) | Some v ↦ port_nets_of rules names (drop 1 roles) ]) i net
        → ((i : ℕ) → At (port_nets_of rules names (drop 1 roles)) i net → ⊥) → ⊥
    by_supply None s zero here rest = first roles (λ role v there same. named 0 x role v refl there same) s (ap (λ (n : FlatNet). n.kind) (same_Some _ net here) ∙ k)
    by_supply None s (suc i) here rest = rest i here
    by_supply (Some v) s i here rest = rest i here

module _ (t : Top) where
  -- ---- the nets behind the ports

  abbrev first_nets : List FlatNet
  first_nets = supply_flat t.rules false ∷ supply_flat t.rules true ∷ (port_nets_of t.rules (top_cell t).ports t.roles ++ map plain_net (globals_of t))

  abbrev last_nets : List FlatNet
  last_nets = flat_map (own_flat_nets t) (all_places t)

  first_count : length first_nets ≡ (top_place t).base
  first_count =
      let ports = port_nets_of t.rules (top_cell t).ports t.roles in
      let globals = map plain_net (globals_of t) in
      let count = port_count t (top_cell t).ports t.roles in
      let more = length-map (globals_of t) plain_net in
      let both = length-append ports globals in
      omega (arith, count, more, both)

  row_count : (places : List Place) (from to : ℕ) → AreInRow t places from to → from + length (flat_map (own_flat_nets t) places) ≡ to
  row_count [] from to h = omega (arith, h)
  row_count (p ∷ places) from to h =
      let rest = row_count places (from + own_size t p.cell) to h.1 in
      let size : length (own_flat_nets t p) ≡ own_size t p.cell = length-map (own_nets t.design t.rules (cell_at t.design p.cell)) (λ (n : List ℕ). plain_net (path_name (path_text p.path) n)) in
      let both = length-append (own_flat_nets t p) (flat_map (own_flat_nets t) places) in
      omega (arith, rest, size, both)

  -- how many nets there are
  pub net_count : length (flat_nets t) ≡ (top_place t).base + size_inside t deepest t.cell
  net_count =
      let first = first_count in
      let last = row_count (all_places t) (top_place t).base ((top_place t).base + size_inside t deepest t.cell) (all_in_row t) in
      let both = length-append first_nets last_nets in
      omega (arith, first, last, both)

  own_is_plain : (net : FlatNet) → Among last_nets net → net.kind ≡ Plain
  own_is_plain net m =
      let place = among_flat_map (own_flat_nets t) (all_places t) net m in
      let name = among_map (λ (n : List ℕ). plain_net (path_name (path_text place.0.path) n)) (own_nets t.design t.rules (cell_at t.design place.0.cell)) net place.2 in
      sym (ap (λ (n : FlatNet). n.kind) name.2)

  -- each net behind the ports and the global nets is plain
  pub plain_behind : (n : ℕ) → (top_place t).base ≤ n → n < (top_place t).base + size_inside t deepest t.cell → IsPlain (flat_circuit_of t) n
  unfolding flat_circuit_of
  plain_behind n le lt =
      let count = net_count in
      let found = at_there (flat_nets t) n (omega (arith, lt, count)) in
      elim (at_either first_nets last_nets n found.0 found.1) [
        | inl early ↦ let less = slice_get_within first_nets n found.0 early in let first = first_count in absurd (omega (arith, less, first, le))
        | inr late ↦ (found.0, found.1, own_is_plain found.0 (late.0, late.2))
      ]

  -- ---- supplies

  -- a net that is a supply is that of its value
  pub supply_low : NamedSupplies t.rules (top_cell t).ports t.roles → (n : ℕ) (value : Bool) → IsSupply (flat_circuit_of t) n value → n ≡ cond value 1 0
  unfolding flat_circuit_of bit_of
  supply_low named zero value s = by_value value (ap bit_of (sym s.2) ∙ ap (λ (net : FlatNet). bit_of net.kind) (sym (same_Some _ s.0 s.1)))
    where
      by_value : (v : Bool) → v ≡ false → ◌≡◌ {A = ℕ} 0 (cond v 1 0)
      by_value true e = absurd (false≢true (sym e))
      by_value false e = refl
  supply_low named (suc zero) value s = by_value value (ap bit_of (sym s.2) ∙ ap (λ (net : FlatNet). bit_of net.kind) (sym (same_Some _ s.0 s.1)))
    where
      by_value : (v : Bool) → v ≡ true → ◌≡◌ {A = ℕ} 1 (cond v 1 0)
      by_value true e = refl
      by_value false e = absurd (false≢true e)
  supply_low named (suc (suc n)) value s =
      let ports = port_nets_of t.rules (top_cell t).ports t.roles in
      let globals = map plain_net (globals_of t) in
      elim (at_either (ports ++ globals) last_nets n s.0 s.1) [
        | inl early ↦ elim (at_either ports globals n s.0 early) [
          | inl port ↦ absurd (port_no_supply t.rules (top_cell t).ports t.roles named n s.0 value port s.2)
          | inr global ↦
              absurd (let name = among_map plain_net (globals_of t) s.0 (global.0, global.2) in plain_no_supply s.0.kind value (sym (ap (λ (net : FlatNet). net.kind) name.2)) s.2)
        ]
        | inr late ↦ absurd (plain_no_supply s.0.kind value (own_is_plain s.0 (late.0, late.2)) s.2)
      ]

  pub supply_there : (value : Bool) → IsSupply (flat_circuit_of t) (cond value 1 0) value
  unfolding flat_circuit_of
  supply_there true = (supply_flat t.rules true, refl, refl)
  supply_there false = (supply_flat t.rules false, refl, refl)

  -- ---- names

  -- each name in a place is a net
  pub name_inside : (r : Place) (name : List ℕ) → Among (all_places t) r → is_net_in (cell_at t.design r.cell) name ≡ true → net_at t r name < (top_place t).base + size_inside t deepest t.cell
  unfolding all_places
  name_inside r name m is =
      (all_have t (λ n. n < (top_place t).base + size_inside t deepest t.cell) (λ n lt. omega (arith, lt)) deepest (top_place t) r
      (record {
        ports = λ n on. let lt = port_below t.rules 2 (top_cell t).ports n (omega arith) on in omega (arith, lt);
        own = λ n low high. high;
        globals = top_globals t;
      }) m).1 name is
