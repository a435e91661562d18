-- The variables of a cell without state are its input ports, in port order.
use Rattle.std.proofs.Common.{◌≡◌, ◌↔◌, ℕ, suc, ◌+◌, ◌≤◌, Bool, false, cond, List, [], ◌∷◌, ◌++◌, Option, Some, None, length, map, drop, arith, ap, ap₂, refl, sym, subst, ◌∙◌}
use Rattle.std.specs.Prelude.{filter_map, option_map, slice_get, ◌==◌}
use Rattle.std.specs.List.{cons_option, enumerate_from}
use Rattle.std.proofs.lemmas.Bool.{eq-eqb, ne_eqb}
use Rattle.std.proofs.lemmas.Option.{none-some}
use Rattle.vrt_model.specs.Assignment.{Tied}
use Rattle.vrt_model.specs.Comparison.{CellPort, input_signal, port_nets_from, ports_from}
use Rattle.vrt_model.specs.CellRules.{supply_of}
use Rattle.vrt_model.specs.FlatCircuit.{kind_by, kind_by_role, port_nets_of}
use Rattle.vrt_model.specs.Held.{bit_of, is_input_of}
use Rattle.vrt_model.specs.Lists.{At}
use Rattle.vrt_model.specs.Variables.{is_input}
use Rattle.vrt_model.specs.declared.circuit.FlatNet.{FlatNet}
use Rattle.vrt_model.specs.declared.circuit.NetKind.{NetKind}
use Rattle.vrt_model.specs.declared.circuit.NetKind.TheVariants.{Plain}
use Rattle.vrt_model.specs.declared.groups.Source.{Source}
use Rattle.vrt_model.specs.declared.groups.Source.TheVariants.{Input as InputSource}
use Rattle.vrt_model.specs.declared.pairing.PortRole.{PortRole}
use Rattle.vrt_model.specs.declared.pairing.PortRole.TheVariants.{Supply, Clock, Input, Output}
use Rattle.vrt_model.specs.declared.rules.Rules.{Rules}

-- ---- bits of rising nets

-- the variable of a net
abbrev pub source_of : Tied → Source
source_of t = InputSource (record { 0 = t.net })

-- the nets rise, from a number on
abbrev pub Rises : ℕ → List Tied → Type 0
Rises low [] = Unit {0}
Rises low (t ∷ ts) = (low ≤ t.net) × Rises (suc t.net) ts

pub rises_lower : (low high : ℕ) (ts : List Tied) → low ≤ high → Rises high ts → Rises low ts
rises_lower low high [] le r = tt
rises_lower low high (t ∷ ts) le r = (let first = r.0 in omega (arith, le, first), r.1)

-- a lower net's bit is not among theirs
later_bits : (n : ℕ) (b : Bool) (sources : List Source) (bits : List Bool) (ts : List Tied) → Rises (suc n) ts
    → map (λ (u : Tied). cond (n == u.net) b (bit_of (is_input_of u.net) sources bits)) ts ≡ map (λ (u : Tied). bit_of (is_input_of u.net) sources bits) ts
later_bits n b sources bits [] r = refl
later_bits n b sources bits (t ∷ ts) r =
    let first = r.0 in
    let other : (n == t.net) ≡ false = ne_eqb n t.net (λ e. omega (arith, e, first)) in
    ap₂ (λ (x : Bool) (xs : List Bool). x ∷ xs) (ap (λ (c : Bool). cond c b (bit_of (is_input_of t.net) sources bits)) other)
    (later_bits n b sources bits ts (rises_lower (suc n) (suc t.net) ts (omega (arith, first)) r.1))

-- the nets have the bits of the valuation, one by one
pub bits_back : (low : ℕ) (ts : List Tied) (bits : List Bool) → Rises low ts → length bits ≡ length (map source_of ts)
    → map (λ (t : Tied). bit_of (is_input_of t.net) (map source_of ts) bits) ts ≡ bits
bits_back low [] [] r e = refl
bits_back low [] (b ∷ bits) r e = absurd (omega (arith, e))
bits_back low (t ∷ ts) [] r e = absurd (omega (arith, e))
bits_back low (t ∷ ts) (b ∷ bits) r e =
    ap₂ (λ (x : Bool) (xs : List Bool). x ∷ xs) (ap (λ (c : Bool). cond c b (bit_of (is_input_of t.net) (map source_of ts) bits)) (eq-eqb t.net t.net refl))
    (later_bits t.net b (map source_of ts) bits ts r.1 ∙ bits_back (suc t.net) ts bits r.1 (omega (arith, e)))

-- ---- nets of ports

-- the variable of a net with its number, if it is an input
abbrev pub input_at : ℕ × FlatNet → Option Source
input_at p = cond (is_input p.1.kind) (Some (InputSource (record { 0 = p.0 }))) None

-- what an input port ties
abbrev pub tied_by : CellPort → Option Tied
tied_by p = option_map (λ (signal : ℕ). let tied : Tied = record { net = p.net; signal = signal } in tied) (input_signal p.role)

-- a port's role is that of a supply exactly where the port is named as one
abbrev pub AreSupplies : Rules → List (List ℕ) → List PortRole → Type 0
AreSupplies rules names roles =
    (i : ℕ) (name : List ℕ) (role : PortRole) (value : Bool) → At names i name → At roles i role → (role ≡ Supply value) ↔ (supply_of rules name ≡ Some value)

-- the input nets of ports are those that are tied, and they rise
pub record AreTied (next : ℕ) (nets : List FlatNet) (ports : List CellPort) : Type 0 where
  pub sources : filter_map input_at (enumerate_from next nets) ≡ map source_of (filter_map tied_by ports)
  pub rises : Rises next (filter_map tied_by ports)

module _ (rules : Rules) where
  abbrev numbers_by : Option Bool → ℕ → List (List ℕ) → List ℕ
  numbers_by o next names =
      elim o [
        | None ↦ next ∷ port_nets_from rules (suc next) names
        | Some value ↦ cond value 1 0 ∷ port_nets_from rules next names
      ]

  abbrev flats_by : Option Bool → List ℕ → List (List ℕ) → List PortRole → List FlatNet
  flats_by o name names roles =
      elim o [
        | None ↦ (let net : FlatNet = record { name = name; kind = kind_by (slice_get roles 0) } in net) ∷ port_nets_of rules names (drop 1 roles)
        | Some value ↦ port_nets_of rules names (drop 1 roles)
      ]

  pub nets_are_tied : (names : List (List ℕ)) (roles : List PortRole) (first next : ℕ) → length roles ≡ length names → AreSupplies rules names roles
      → AreTied next (port_nets_of rules names roles) (ports_from first names (port_nets_from rules next names) roles)
  nets_are_tied [] roles first next count supplies = record { sources = refl; rises = tt }
  nets_are_tied (x ∷ xs) [] first next count supplies = absurd (omega (arith, count))
  nets_are_tied (x ∷ xs) (r ∷ rs) first next count supplies =
      by_supply (supply_of rules x) refl (λ n. nets_are_tied xs rs (suc first) n (omega (arith, count)) (λ i name role value a b. supplies (suc i) name role value a b))
    where
      -- the next number
      next_is : {X : Type 0} (f : ℕ → X) → f (next + 1) ≡ f (suc next)
      next_is f = (let same : next + 1 ≡ suc next = omega arith in ap f same)

      tie : ℕ → Tied
      tie signal = record { net = next; signal = signal }

      by_role : (role : PortRole) → ((value : Bool) → role ≡ Supply value → ⊥) → AreTied (suc next) (port_nets_of rules xs rs) (ports_from (suc first) xs (port_nets_from rules (suc next) xs) rs)
          → AreTied next ((let net : FlatNet = record { name = x; kind = kind_by_role role } in net) ∷ port_nets_of rules xs rs)
          ((let port : CellPort = record { place = first; name = x; net = next; role = role } in port) ∷ ports_from (suc first) xs (port_nets_from rules (suc next) xs) rs)
      by_role (Supply value) never rest = absurd (never value refl)
      by_role (Clock clock) never rest = record {
        sources = next_is (λ n. filter_map input_at (enumerate_from n (port_nets_of rules xs rs))) ∙ rest.sources;
        rises = rises_lower next (suc next) (filter_map tied_by (ports_from (suc first) xs (port_nets_from rules (suc next) xs) rs)) (omega arith) rest.rises;
      }
      by_role (Input signal) never rest = record {
        sources = ap (λ (xs : List Source). source_of (tie signal) ∷ xs) (next_is (λ n. filter_map input_at (enumerate_from n (port_nets_of rules xs rs))) ∙ rest.sources);
        rises = (omega arith, rest.rises);
      }
      by_role (Output signal) never rest = record {
        sources = next_is (λ n. filter_map input_at (enumerate_from n (port_nets_of rules xs rs))) ∙ rest.sources;
        rises = rises_lower next (suc next) (filter_map tied_by (ports_from (suc first) xs (port_nets_from rules (suc next) xs) rs)) (omega arith) rest.rises;
      }

      by_supply : (o : Option Bool) → supply_of rules x ≡ o → ((n : ℕ) → AreTied n (port_nets_of rules xs rs) (ports_from (suc first) xs (port_nets_from rules n xs) rs))
          → AreTied next (flats_by o x xs (r ∷ rs)) (ports_from first (x ∷ xs) (numbers_by o next xs) (r ∷ rs))
      by_supply None e rest = by_role r (λ value is. none-some value (sym e ∙ (supplies 0 x r value refl refl).0 is)) (rest (suc next))
      by_supply (Some value) e rest =
          let role : r ≡ Supply value = (supplies 0 x r value refl refl).1 e in
          let none : filter_map tied_by (ports_from first (x ∷ xs) (numbers_by (Some value) next xs) (r ∷ rs)) ≡ filter_map tied_by (ports_from (suc first) xs (port_nets_from rules next xs) rs) =
          ap (λ (role : PortRole). filter_map tied_by ((let port : CellPort = record { place = first; name = x; net = cond value 1 0; role = role } in port) ∷ ports_from (suc first) xs (port_nets_from rules next xs) rs)) role in
          record {
            sources = (rest next).sources ∙ ap (map source_of) (sym none);
            rises = subst (Rises next) (sym none) (rest next).rises;
          }

-- ---- all nets

-- no net of these is an input
abbrev pub AllPlain : List FlatNet → Type 0
AllPlain nets = (i : ℕ) (net : FlatNet) → At nets i net → net.kind ≡ Plain

pub plain_sources : (n : ℕ) (nets : List FlatNet) → AllPlain nets → filter_map input_at (enumerate_from n nets) ≡ []
plain_sources n [] plain = refl
plain_sources n (net ∷ nets) plain =
    ap (λ (kind : NetKind). cons_option (cond (is_input kind) (Some (InputSource (record { 0 = n }))) None) (filter_map input_at (enumerate_from (n + 1) nets))) (plain 0 net refl)
    ∙ plain_sources (n + 1) nets (λ i other at. plain (suc i) other at)

-- plain nets behind others add none
pub sources_front : (n : ℕ) (nets others : List FlatNet) → AllPlain others
    → filter_map input_at (enumerate_from n (nets ++ others)) ≡ filter_map input_at (enumerate_from n nets)
sources_front n [] others plain = plain_sources n others plain
sources_front n (net ∷ nets) others plain = ap (λ (xs : List Source). cons_option (input_at (n, net)) xs) (sources_front (n + 1) nets others plain)
