-- The roles of ports, where nothing is in the way of the pairing.
use Rattle.std.proofs.Common.{◌≡◌, ℕ, ◌<◌, ◌↔◌, ◌&&◌, Bool, true, false, cond, List, length, Option, Some, None, ap, subst, sym, refl, ◌∙◌}
use Rattle.std.specs.Prelude.{bytes_eq, filter_map, find, option_map}
use Rattle.std.proofs.lemmas.Option.{none-some, same_Some}
use Rattle.paired_ports.proofs.FreePorts.{AreFree, all_roles, are_free}
use Rattle.paired_ports.proofs.GivenLists.{given_at, given_length}
use Rattle.paired_ports.specs.Pairable.{ArePairable}
use Rattle.vrt_model.proofs.Lists.{among_filter_map}
use Rattle.vrt_model.proofs.Members.{all_among, find_among}
use Rattle.vrt_model.specs.CellRules.{clock_of_port, supply_of}
use Rattle.vrt_model.specs.Comparison.{cell_at}
use Rattle.vrt_model.specs.Inputs.{AreRules}
use Rattle.vrt_model.specs.Lists.{At, has_number}
use Rattle.vrt_model.specs.PairedPorts.{HasRoles, clocked_signals, pairing_of, role_by, role_of, signal_of_port}
use Rattle.vrt_model.specs.declared.design.Cell.{Cell}
use Rattle.vrt_model.specs.declared.design.Design.{Design}
use Rattle.vrt_model.specs.declared.flat_model.FlatModel.{FlatModel}
use Rattle.vrt_model.specs.declared.pairing.Pairing.{Pairing}
use Rattle.vrt_model.specs.declared.pairing.PortRole.{PortRole}
use Rattle.vrt_model.specs.declared.pairing.PortRole.TheVariants.{Supply, Clock, Input, Output}
use Rattle.vrt_model.specs.declared.rules.ClockRef.{ClockRef}
use Rattle.vrt_model.specs.declared.rules.ClockportRule.{ClockportRule}
use Rattle.vrt_model.specs.declared.rules.Rules.{Rules}

-- ---- one role

-- a role is that of a supply exactly where the name is one, and that of a clock where the port has one
supply_role : (flat : FlatModel) (supply : Option Bool) (clock : Option ClockRef) (signal : Option ℕ) (role : PortRole) (value : Bool) → role_by flat supply clock signal ≡ Some role
    → (role ≡ Supply value) ↔ (supply ≡ Some value)
supply_role flat (Some v) clock signal role value e = ((λ f. cc), (λ f. cc))
supply_role flat None (Some c) signal role value e = ((λ f. cc), (λ f. cc))
supply_role flat None None None role value e = cc
supply_role flat None None (Some s) role value e = ((λ f. absurd (by_test (has_number flat.outputs s) e f)), (λ f. cc))
  where
    by_test : (b : Bool) → Some (cond b (Output s) (Input s)) ≡ Some role → role ≡ Supply value → ⊥
    by_test true e f = cc
    by_test false e f = cc

clock_role : (flat : FlatModel) (supply : Option Bool) (clock : Option ClockRef) (signal : Option ℕ) (c : ClockRef) → role_by flat supply clock signal ≡ Some (Clock c) → clock ≡ Some c
clock_role flat (Some v) clock signal c e = cc
clock_role flat None (Some d) signal c e = cc
clock_role flat None None None c e = cc
clock_role flat None None (Some s) c e = absurd (by_test (has_number flat.outputs s) e)
  where
    by_test : (b : Bool) → Some (cond b (Output s) (Input s)) ≡ Some (Clock c) → ⊥
    by_test true e = cc
    by_test false e = cc

-- the clock of a port is declared
clock_declared : (rules : Rules) (cell port : List ℕ) (clock : ClockRef) → AreRules rules → clock_of_port rules cell port ≡ Some clock → clock.clock < length rules.clocks
clock_declared rules cell port clock are e = by_rule (find test rules.clockports) refl e
  where
    test : ClockportRule → Bool
    test r = bytes_eq r.cell cell && bytes_eq r.port port

    by_rule : (o : Option ClockportRule) → find test rules.clockports ≡ o → option_map (λ (r : ClockportRule). r.clock) o ≡ Some clock → clock.clock < length rules.clocks
    by_rule None found f = absurd (none-some clock f)
    by_rule (Some r) found f =
        subst (λ (c : ClockRef). c.clock < length rules.clocks) (same_Some r.clock clock f)
        (all_among (λ (r : ClockportRule). r.clock.clock < length rules.clocks) rules.clockports r are.clockport_clocks (find_among test rules.clockports r found).0)

-- ---- the roles of a pairing

-- the pairing that the rules and names give, where nothing is in the way
pub record IsFreePairing (flat : FlatModel) (rules : Rules) (cell : Cell) (pairing : Pairing) : Type 0 where
  pub free : AreFree flat rules cell
  pub roles : pairing.ports ≡ filter_map (role_of flat rules cell.name) cell.ports
  pub clocks : pairing.clocked ≡ clocked_signals flat rules cell

pub free_pairing : (design : Design) (k m : ℕ) (flat : FlatModel) (rules : Rules) (pairing : Pairing) → ArePairable design k flat rules → pairing ≡ pairing_of design k m flat rules
    → IsFreePairing flat rules (cell_at design k) pairing
unfolding pairing_of
free_pairing design k m flat rules pairing pairable is = record {
  free = are_free design k flat rules pairable.ports pairable.outputs;
  roles = ap (λ (p : Pairing). p.ports) is;
  clocks = ap (λ (p : Pairing). p.clocked) is;
}

module _ (flat : FlatModel) (rules : Rules) (cell : Cell) (pairing : Pairing) (paired : IsFreePairing flat rules cell pairing) where
  -- the role of a name stands at its place
  pub role_there : (at : ℕ) (name : List ℕ) (role : PortRole) → At cell.ports at name → role_of flat rules cell.name name ≡ Some role → At pairing.ports at role
  role_there at name role here e =
      subst (λ (roles : List PortRole). At roles at role) (sym paired.roles)
      (given_at (role_of flat rules cell.name) cell.ports at name role (all_roles flat rules cell paired.free) here e)

  -- and a role at a place is that of the name there
  pub named_role : (at : ℕ) (name : List ℕ) (role : PortRole) → At cell.ports at name → At pairing.ports at role → role_of flat rules cell.name name ≡ Some role
  named_role at name role here there =
      let given = all_roles flat rules cell paired.free name (at, here) in
      given.1 ∙ (sym (role_there at name given.0 here given.1) ∙ there)

  -- each port has its role
  pub has_roles : AreRules rules → HasRoles rules cell pairing
  has_roles are = record {
    each = ap length paired.roles ∙ given_length (role_of flat rules cell.name) cell.ports (all_roles flat rules cell paired.free);
    supplies = λ at port role value here there.
        supply_role flat (supply_of rules port) (clock_of_port rules cell.name port) (signal_of_port flat rules cell.name port) role value (named_role at port role here there);
    clocks = λ at clock there.
        (let from = among_filter_map (role_of flat rules cell.name) cell.ports (Clock clock) (at, subst (λ (roles : List PortRole). At roles at (Clock clock)) paired.roles there) in
        clock_declared rules cell.name from.0 clock are
        (clock_role flat (supply_of rules from.0) (clock_of_port rules cell.name from.0) (signal_of_port flat rules cell.name from.0) clock from.2));
  }
