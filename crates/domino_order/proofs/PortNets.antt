-- The nets of the ports that rise are all different.
use Rattle.std.proofs.Common.{◌≡◌, ℕ, zero, suc, ◌≤◌, Bool, cond, List, [], ◌∷◌, Option, Some, None, ap, arith, eqb, map, refl, subst, sym, ◌∙◌}
use Rattle.std.specs.Prelude.{slice_get}
use Rattle.std.proofs.lemmas.Bool.{eqb-true, false_from_ne_true}
use Rattle.std.proofs.lemmas.Option.{none-some, same_Some}
use Rattle.domino_order.proofs.MonotoneLaws.{port_net}
use Rattle.domino_order.specs.Arrivals.{AreRising, net_of_port, nets_of_ports}
use Rattle.domino_order.specs.Runs.{AreOnce}
use Rattle.phase_ports.proofs.PortLaws.{name_is, net_is}
use Rattle.phase_terms.specs.Ready.{IsReady}
use Rattle.vrt_model.proofs.Members.{among_later, among_map, any_among}
use Rattle.vrt_model.specs.CellRules.{supply_of}
use Rattle.vrt_model.specs.Comparison.{CellPort, Comparison, cell_at, input_signal, port_nets, port_nets_from, ports_from}
use Rattle.vrt_model.specs.Lists.{Among, At, has_number}
use Rattle.vrt_model.specs.declared.pairing.PortRole.{PortRole}
use Rattle.vrt_model.specs.declared.pairing.PortRole.TheVariants.{Supply}
use Rattle.vrt_model.specs.declared.rules.Rules.{Rules}

-- ---- ports that are no supplies

-- such a port, by its place and the number of its net
pub record IsPlainPort (rules : Rules) (names : List (List ℕ)) (next place net : ℕ) : Type 0 where
  pub name : List ℕ
  pub named : At names place name
  pub plain : supply_of rules name ≡ None
  pub tied : At (port_nets_from rules next names) place net

abbrev nets_by : Rules → Option Bool → ℕ → List (List ℕ) → List ℕ
nets_by rules o next names =
    elim o [
      | None ↦ next ∷ port_nets_from rules (suc next) names
      | Some value ↦ cond value 1 0 ∷ port_nets_from rules next names
    ]

-- the first port has the next number
first_net : (rules : Rules) (name : List ℕ) (names : List (List ℕ)) (next net : ℕ) → IsPlainPort rules (name ∷ names) next 0 net → next ≡ net
first_net rules name names next net p =
    let plain : supply_of rules name ≡ None = ap (supply_of rules) (same_Some name p.name p.named) ∙ p.plain in
    same_Some next net (sym (ap (λ (o : Option Bool). slice_get (nets_by rules o next names) 0) plain) ∙ p.tied)

-- a port behind the first one
behind_plain : (rules : Rules) (name : List ℕ) (names : List (List ℕ)) (next place net : ℕ) → supply_of rules name ≡ None → IsPlainPort rules (name ∷ names) next (suc place) net → IsPlainPort rules names (suc next) place net
behind_plain rules name names next place net is p = record {
  name = p.name;
  named = p.named;
  plain = p.plain;
  tied = sym (ap (λ (o : Option Bool). slice_get (nets_by rules o next names) (suc place)) is) ∙ p.tied;
}

behind_supply : (rules : Rules) (name : List ℕ) (names : List (List ℕ)) (next place net : ℕ) (value : Bool) → supply_of rules name ≡ Some value → IsPlainPort rules (name ∷ names) next (suc place) net
    → IsPlainPort rules names next place net
behind_supply rules name names next place net value is p = record {
  name = p.name;
  named = p.named;
  plain = p.plain;
  tied = sym (ap (λ (o : Option Bool). slice_get (nets_by rules o next names) (suc place)) is) ∙ p.tied;
}

-- the number of its net is not below the next one
low_net : (rules : Rules) (names : List (List ℕ)) (next place net : ℕ) → IsPlainPort rules names next place net → next ≤ net
low_net rules [] next place net p = absurd (none-some p.name p.named)
low_net rules (name ∷ names) next zero net p = (let same = first_net rules name names next net p in omega (arith, same))
low_net rules (name ∷ names) next (suc place) net p = by_supply (supply_of rules name) refl (λ later. low_net rules names later place net)
  where
    by_supply : (o : Option Bool) → supply_of rules name ≡ o → ((later : ℕ) → IsPlainPort rules names later place net → later ≤ net) → next ≤ net
    by_supply None is below = (let low = below (suc next) (behind_plain rules name names next place net is p) in omega (arith, low))
    by_supply (Some value) is below = below next (behind_supply rules name names next place net value is p)

first_apart : (rules : Rules) (name : List ℕ) (names : List (List ℕ)) (next place net : ℕ) → IsPlainPort rules (name ∷ names) next 0 net → IsPlainPort rules (name ∷ names) next (suc place) net → ⊥
first_apart rules name names next place net p q =
    let plain : supply_of rules name ≡ None = ap (supply_of rules) (same_Some name p.name p.named) ∙ p.plain in
    let low = low_net rules names (suc next) place net (behind_plain rules name names next place net plain q) in
    let same = first_net rules name names next net p in omega (arith, low, same)

-- two with one net are at one place
pub one_place : (rules : Rules) (names : List (List ℕ)) (next i j net : ℕ) → IsPlainPort rules names next i net → IsPlainPort rules names next j net → i ≡ j
one_place rules [] next i j net p q = absurd (none-some p.name p.named)
one_place rules (name ∷ names) next zero zero net p q = refl
one_place rules (name ∷ names) next zero (suc j) net p q = absurd (first_apart rules name names next j net p q)
one_place rules (name ∷ names) next (suc i) zero net p q = absurd (first_apart rules name names next i net q p)
one_place rules (name ∷ names) next (suc i) (suc j) net p q = by_supply (supply_of rules name) refl (λ later. one_place rules names later i j net)
  where
    by_supply : (o : Option Bool) → supply_of rules name ≡ o → ((later : ℕ) → IsPlainPort rules names later i net → IsPlainPort rules names later j net → i ≡ j) → suc i ≡ suc j
    by_supply None is below =
        let first = behind_plain rules name names next i net is p in
        let second = behind_plain rules name names next j net is q in ap suc (below (suc next) first second)
    by_supply (Some value) is below =
        let first = behind_supply rules name names next i net value is p in
        let second = behind_supply rules name names next j net value is q in ap suc (below next first second)

-- ---- the ports of a cell

role_is : (at : ℕ) (names : List (List ℕ)) (nets : List ℕ) (roles : List PortRole) (j : ℕ) (port : CellPort) → At (ports_from at names nets roles) j port → At roles j port.role
role_is at [] nets roles j port e = absurd (none-some port e)
role_is at (name ∷ names) [] roles j port e = absurd (none-some port e)
role_is at (name ∷ names) (net ∷ nets) [] j port e = absurd (none-some port e)
role_is at (name ∷ names) (net ∷ nets) (role ∷ roles) zero port e =
    let first : CellPort = record { place = at; name = name; net = net; role = role } in ap (λ (p : CellPort). Some p.role) (same_Some first port e)
role_is at (name ∷ names) (net ∷ nets) (role ∷ roles) (suc j) port e = role_is (suc at) names nets roles j port e

no_supply : (role : PortRole) (signal : ℕ) (o : Option Bool) → input_signal role ≡ Some signal → ((value : Bool) → o ≡ Some value → role ≡ Supply value) → o ≡ None
no_supply role signal None e fits = refl
no_supply role signal (Some value) e fits = absurd (none-some signal (sym (ap input_signal (fits value refl)) ∙ e))

module _ (k : Comparison) (rising : List ℕ) (ready : IsReady k) (are : AreRising k rising) where
  abbrev names : List (List ℕ)
  names = (cell_at k.design k.cell).ports

  -- a port that rises is no supply
  plain_port : (place : ℕ) → Among rising place → IsPlainPort k.rules names 2 place (net_of_port k place)
  plain_port place among =
      let input = are.inputs place among in
      let port : CellPort = input.0 in
      let nets = port_nets k.rules names in
      let named = name_is 0 names nets k.pairing.ports place port input.1 in
      let role = role_is 0 names nets k.pairing.ports place port input.1 in
      record {
        name = port.name;
        named = named;
        plain = no_supply port.role input.2 (supply_of k.rules port.name) input.3 (λ value e. (ready.roles.supplies place port.name port.role value named role).1 e);
        tied =
            subst (λ (n : ℕ). At nets place n) (sym (port_net k rising ready are place port input.1)) (net_is 0 names nets k.pairing.ports place port input.1);
      }

  -- ports of which each is listed once have nets of which each is
  once_from : (places : List ℕ) → ((place : ℕ) → Among places place → Among rising place) → ((i j place : ℕ) → At places i place → At places j place → i ≡ j) → AreOnce (map (net_of_port k) places)
  once_from [] listed once = tt
  once_from (place ∷ places) listed once = (
    false_from_ne_true (has_number (map (net_of_port k) places) (net_of_port k place)) (λ e.
        let there = any_among (λ (x : ℕ). eqb x (net_of_port k place)) (map (net_of_port k) places) e in
        let other = among_map (net_of_port k) places there.0 there.1 in
        let net : net_of_port k other.0 ≡ net_of_port k place = other.2 ∙ eqb-true there.0 (net_of_port k place) there.2 in
        let first = plain_port place (listed place (0, refl)) in
        let second = plain_port other.0 (listed other.0 (among_later place places other.0 other.1)) in
        let same : other.0 ≡ place =
        one_place k.rules names 2 other.0 place (net_of_port k place) (subst (λ (n : ℕ). IsPlainPort k.rules names 2 other.0 n) net second) first in
        let again = once 0 (suc other.1.0) place refl (subst (λ (x : ℕ). At places other.1.0 x) same other.1.1) in omega (arith, again)),
    once_from places (λ x m. listed x (among_later place places x m)) (λ i j x a b. (let same = once (suc i) (suc j) x a b in omega (arith, same))),
  )

  pub nets_once : AreOnce (nets_of_ports k rising)
  nets_once = once_from rising (λ x m. m) are.once
