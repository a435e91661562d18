-- The numbers of the nets of ports, the flat nets at these numbers, and the parts of a port of a comparison.
use Rattle.std.proofs.Common.{◌≡◌, ℕ, zero, suc, ◌+◌, Bool, cond, List, [], ◌∷◌, Option, Some, None, drop, length, arith, ap, subst, sym, refl, ◌∙◌}
use Rattle.std.specs.Prelude.{slice_get}
use Rattle.std.proofs.lemmas.Option.{none-some, same_Some}
use Rattle.vrt_model.specs.CellRules.{supply_of}
use Rattle.vrt_model.specs.Comparison.{CellPort, port_nets_from, ports_from}
use Rattle.vrt_model.specs.FlatCircuit.{kind_by, port_nets_of}
use Rattle.vrt_model.specs.Lists.{At}
use Rattle.vrt_model.specs.declared.circuit.FlatNet.{FlatNet}
use Rattle.vrt_model.specs.declared.pairing.PortRole.{PortRole}
use Rattle.vrt_model.specs.declared.rules.Rules.{Rules}

-- ---- nets of ports

-- the flat net of a port that is no supply
abbrev pub port_flat : List ℕ → Option PortRole → FlatNet
port_flat name role = record { name = name; kind = kind_by role }

-- a flat net stands in a list of those of ports, and its number counts from a first one
pub record IsPlaced (flats : List FlatNet) (first number : ℕ) (flat : FlatNet) : Type 0 where
  pub place : ℕ
  pub is : number ≡ first + place
  pub there : At flats place flat

-- a place behind the first item
behind_first : {X : Type 0} (xs : List X) (i : ℕ) → slice_get (drop 1 xs) i ≡ slice_get xs (suc i)
behind_first [] i = refl
behind_first (x ∷ xs) i = refl

module _ (rules : Rules) where
  -- the numbers and the flat nets of ports of which the first has this supply
  abbrev numbers_by : Option Bool → ℕ → List (List ℕ) → List ℕ
  numbers_by o next names =
      elim o [
        | None ↦ next ∷ port_nets_from rules (suc next) names
        | Some value ↦ cond value 1 0 ∷ port_nets_from rules next names
      ]

  abbrev flats_by : Option Bool → List ℕ → List (List ℕ) → List PortRole → List FlatNet
  flats_by o name names roles =
      elim o [
        | None ↦ port_flat name (slice_get roles 0) ∷ port_nets_of rules names (drop 1 roles)
        | Some value ↦ port_nets_of rules names (drop 1 roles)
      ]

  -- the net of a port that is no supply stands among the flat nets of ports
  pub port_placed : (names : List (List ℕ)) (roles : List PortRole) (next i net : ℕ) (name : List ℕ) → supply_of rules name ≡ None → At names i name
      → At (port_nets_from rules next names) i net → IsPlaced (port_nets_of rules names roles) next net (port_flat name (slice_get roles i))
  port_placed [] roles next i net name none a b = absurd (none-some name a)
  port_placed (x ∷ xs) roles next i net name none a b =
      by_test (supply_of rules x) refl i a b (λ n j h g. port_placed xs (drop 1 roles) n j net name none h g)
    where
      later : (l j : ℕ) (flats : List FlatNet) → IsPlaced flats l net (port_flat name (slice_get (drop 1 roles) j)) → IsPlaced flats l net (port_flat name (slice_get roles (suc j)))
      later l j flats m = subst (λ (o : Option PortRole). IsPlaced flats l net (port_flat name o)) (behind_first roles j) m

      by_test : (o : Option Bool) → supply_of rules x ≡ o → (j : ℕ) → At (x ∷ xs) j name → At (numbers_by o next xs) j net
          → ((n l : ℕ) → At xs l name → At (port_nets_from rules n xs) l net → IsPlaced (port_nets_of rules xs (drop 1 roles)) n net (port_flat name (slice_get (drop 1 roles) l)))
          → IsPlaced (flats_by o x xs roles) next net (port_flat name (slice_get roles j))
      by_test None h zero a b more =
          let first : next ≡ net = same_Some next net b in
          record { place = 0; is = omega (arith, first); there = ap (λ (m : List ℕ). Some (port_flat m (slice_get roles 0))) (same_Some x name a) }
      by_test None h (suc j) a b more =
          let m = more (suc next) j a b in
          let is : net ≡ suc next + m.place = m.is in
          let l = later (suc next) j (port_nets_of rules xs (drop 1 roles)) m in
          record {
            place = suc l.place;
            is = (let at : net ≡ suc next + l.place = l.is in omega (arith, at));
            there = l.there;
          }
      by_test (Some value) h zero a b more = absurd (none-some value (sym none ∙ (ap (supply_of rules) (sym (same_Some x name a)) ∙ h)))
      by_test (Some value) h (suc j) a b more = later next j (port_nets_of rules xs (drop 1 roles)) (more next j a b)

  -- each name has a number
  pub number_there : (names : List (List ℕ)) (next i : ℕ) (name : List ℕ) → At names i name → (net : ℕ) × At (port_nets_from rules next names) i net
  number_there [] next i name a = absurd (none-some name a)
  number_there (x ∷ xs) next i name a = by_test (supply_of rules x) i a (λ n j h. number_there xs n j name h)
    where
      by_test : (o : Option Bool) (j : ℕ) → At (x ∷ xs) j name → ((n l : ℕ) → At xs l name → (net : ℕ) × At (port_nets_from rules n xs) l net)
          → (net : ℕ) × At (numbers_by o next xs) j net
      by_test None zero a more = (next, refl)
      by_test None (suc j) a more = more (suc next) j a
      by_test (Some value) zero a more = (cond value 1 0, refl)
      by_test (Some value) (suc j) a more = more next j a

-- each port has a net
pub net_for_each : (rules : Rules) (next : ℕ) (names : List (List ℕ)) → length (port_nets_from rules next names) ≡ length names
net_for_each rules next [] = refl
net_for_each rules next (name ∷ names) =
    elim (supply_of rules name) as (λ (o : Option Bool). length {A = ℕ} (elim o [ None ↦ next ∷ port_nets_from rules (suc next) names | Some value ↦ cond value 1 0 ∷ port_nets_from rules next names ]) ≡ suc (length names)) [
      | None ↦ ap suc (net_for_each rules (suc next) names)
      | Some value ↦ ap suc (net_for_each rules next names)
    ]

-- ---- the ports of a comparison

-- a port at a place from a first one on has its name, its net and its role there
pub record IsPortAt (first : ℕ) (names : List (List ℕ)) (nets : List ℕ) (roles : List PortRole) (i : ℕ) (port : CellPort) : Type 0 where
  pub place : port.place ≡ first + i
  pub name : At names i port.name
  pub net : At nets i port.net
  pub role : At roles i port.role

-- the port with these parts
abbrev port_with : ℕ → List ℕ → ℕ → PortRole → CellPort
port_with at name net role = record { place = at; name = name; net = net; role = role }

-- each port of the list has them
pub port_parts : (at : ℕ) (names : List (List ℕ)) (nets : List ℕ) (roles : List PortRole) (i : ℕ) (port : CellPort) → At (ports_from at names nets roles) i port
    → IsPortAt at names nets roles i port
port_parts at [] nets roles i port e = absurd (none-some port e)
port_parts at (x ∷ names) [] roles i port e = absurd (none-some port e)
port_parts at (x ∷ names) (n ∷ nets) [] i port e = absurd (none-some port e)
port_parts at (x ∷ names) (n ∷ nets) (r ∷ roles) zero port e =
    let same = same_Some (port_with at x n r) port e in
    record {
      place = (let first : at ≡ port.place = ap (λ (p : CellPort). p.place) same in omega (arith, first));
      name = ap (λ (p : CellPort). Some p.name) same;
      net = ap (λ (p : CellPort). Some p.net) same;
      role = ap (λ (p : CellPort). Some p.role) same;
    }
port_parts at (x ∷ names) (n ∷ nets) (r ∷ roles) (suc i) port e =
    let h = port_parts (suc at) names nets roles i port e in
    record { place = (let place = h.place in omega (arith, place)); name = h.name; net = h.net; role = h.role }

-- a name, a net and a role at one place make a port there
pub record IsMade (ports : List CellPort) (i : ℕ) (net : ℕ) (role : PortRole) : Type 0 where
  pub port : CellPort
  pub there : At ports i port
  pub net_is : port.net ≡ net
  pub role_is : port.role ≡ role

-- and they make one
pub port_made : (at : ℕ) (names : List (List ℕ)) (nets : List ℕ) (roles : List PortRole) (i : ℕ) (name : List ℕ) (net : ℕ) (role : PortRole) → At names i name
    → At nets i net → At roles i role → IsMade (ports_from at names nets roles) i net role
port_made at [] nets roles i name net role a b c = absurd (none-some name a)
port_made at (x ∷ names) [] roles i name net role a b c = absurd (none-some net b)
port_made at (x ∷ names) (n ∷ nets) [] i name net role a b c = absurd (none-some role c)
port_made at (x ∷ names) (n ∷ nets) (r ∷ roles) zero name net role a b c = record {
  port = port_with at x n r;
  there = refl;
  net_is = same_Some n net b;
  role_is = same_Some r role c;
}
port_made at (x ∷ names) (n ∷ nets) (r ∷ roles) (suc i) name net role a b c =
    let h = port_made (suc at) names nets roles i name net role a b c in
    record { port = h.port; there = h.there; net_is = h.net_is; role_is = h.role_is }
