-- The ports of a cell by their roles, and what stands at them.
use Rattle.std.proofs.Common.{◌≡◌, ℕ, zero, suc, ◌+◌, ◌<◌, Bool, cond, List, [], ◌∷◌, length, map, Option, Some, None, arith, ap, ap₂, refl, sym, ◌∙◌}
use Rattle.std.specs.Prelude.{◌↔◌, get_or, unwrap_or}
use Rattle.std.proofs.lemmas.Option.{none-some, same_Some, slice_get-get_or}
use Rattle.phase_ports.specs.Ports.{net_by, next_by, port_at, ports_by, supply_bit, unnamed}
use Rattle.phase_ports.specs.declared.port_list.Port.{Port}
pub use Rattle.vrt_model.proofs.Lists.{chosen, pushed}
use Rattle.vrt_model.specs.CellRules.{supply_of}
use Rattle.vrt_model.specs.Comparison.{CellPort, cell_at, port_nets, port_nets_from, ports_from}
use Rattle.vrt_model.specs.Lists.{At}
use Rattle.vrt_model.specs.PairedPorts.{HasRoles}
use Rattle.vrt_model.specs.declared.design.Cell.{Cell}
use Rattle.vrt_model.specs.declared.design.Design.{Design}
use Rattle.vrt_model.specs.declared.pairing.Pairing.{Pairing}
use Rattle.vrt_model.specs.declared.pairing.PortRole.{PortRole}
use Rattle.vrt_model.specs.declared.pairing.PortRole.TheVariants.{Supply, Clock, Input, Output}
use Rattle.vrt_model.specs.declared.rules.Rules.{Rules}

-- ---- the cell

-- the cell that is read
pub cell_read : (design : Design) (cells : List Cell) (k : ℕ) (d : Cell) → cells ≡ design.cells → k < length design.cells → get_or cells k d ≡ cell_at design k
cell_read design cells k d same lt =
    let none : Cell = record { line = 0; name = []; ports = []; devices = []; instances = [] } in
    ap (λ (xs : List Cell). get_or xs k d) same ∙ sym (ap (λ (o : Option Cell). unwrap_or o none) (slice_get-get_or design.cells k d lt))

-- ---- the ports of a cell by their places

pub place_is : (at : ℕ) (names : List (List ℕ)) (nets : List ℕ) (roles : List PortRole) (j : ℕ) (port : CellPort) → At (ports_from at names nets roles) j port → port.place ≡ at + j
place_is at [] nets roles j port e = absurd (none-some port e)
place_is at (name ∷ names) [] roles j port e = absurd (none-some port e)
place_is at (name ∷ names) (net ∷ nets) [] j port e = absurd (none-some port e)
place_is at (name ∷ names) (net ∷ nets) (role ∷ roles) zero port e =
    let first : CellPort = record { place = at; name = name; net = net; role = role } in
    let same : at ≡ port.place = ap (λ (p : CellPort). p.place) (same_Some first port e) in
    omega (arith, same)
place_is at (name ∷ names) (net ∷ nets) (role ∷ roles) (suc j) port e = omega (arith, place_is (suc at) names nets roles j port e)

pub name_is : (at : ℕ) (names : List (List ℕ)) (nets : List ℕ) (roles : List PortRole) (j : ℕ) (port : CellPort) → At (ports_from at names nets roles) j port → At names j port.name
name_is at [] nets roles j port e = absurd (none-some port e)
name_is at (name ∷ names) [] roles j port e = absurd (none-some port e)
name_is at (name ∷ names) (net ∷ nets) [] j port e = absurd (none-some port e)
name_is at (name ∷ names) (net ∷ nets) (role ∷ roles) zero port e =
    let first : CellPort = record { place = at; name = name; net = net; role = role } in
    ap (λ (p : CellPort). Some p.name) (same_Some first port e)
name_is at (name ∷ names) (net ∷ nets) (role ∷ roles) (suc j) port e = name_is (suc at) names nets roles j port e

pub net_is : (at : ℕ) (names : List (List ℕ)) (nets : List ℕ) (roles : List PortRole) (j : ℕ) (port : CellPort) → At (ports_from at names nets roles) j port → At nets j port.net
net_is at [] nets roles j port e = absurd (none-some port e)
net_is at (name ∷ names) [] roles j port e = absurd (none-some port e)
net_is at (name ∷ names) (net ∷ nets) [] j port e = absurd (none-some port e)
net_is at (name ∷ names) (net ∷ nets) (role ∷ roles) zero port e =
    let first : CellPort = record { place = at; name = name; net = net; role = role } in
    ap (λ (p : CellPort). Some p.net) (same_Some first port e)
net_is at (name ∷ names) (net ∷ nets) (role ∷ roles) (suc j) port e = net_is (suc at) names nets roles j port e

-- ---- the nets of ports

-- a port is a supply exactly where its name is one
abbrev pub Fits : Rules → List (List ℕ) → List PortRole → Type 0
Fits rules names roles =
    (j : ℕ) (name : List ℕ) (role : PortRole) (value : Bool) → At names j name → At roles j role → (role ≡ Supply value) ↔ (supply_of rules name ≡ Some value)

same_supply : (role : PortRole) (o : Option Bool) → ((value : Bool) → (role ≡ Supply value) ↔ (o ≡ Some value)) → supply_bit role ≡ o
same_supply (Supply value) o fits = sym ((fits value).0 refl)
same_supply (Clock clock) None fits = refl
same_supply (Clock clock) (Some value) fits = let e = (fits value).1 refl in cc
same_supply (Input signal) None fits = refl
same_supply (Input signal) (Some value) fits = let e = (fits value).1 refl in cc
same_supply (Output signal) None fits = refl
same_supply (Output signal) (Some value) fits = let e = (fits value).1 refl in cc

pub first_supply : (rules : Rules) (name : List ℕ) (names : List (List ℕ)) (role : PortRole) (roles : List PortRole) → Fits rules (name ∷ names) (role ∷ roles) → supply_bit role ≡ supply_of rules name
first_supply rules name names role roles fits = same_supply role (supply_of rules name) (λ value. fits 0 name role value refl refl)

pub fits_behind : (rules : Rules) (name : List ℕ) (names : List (List ℕ)) (role : PortRole) (roles : List PortRole) → Fits rules (name ∷ names) (role ∷ roles) → Fits rules names roles
fits_behind rules name names role roles fits j n r value at_name at_role = fits (suc j) n r value at_name at_role

-- the nets of a port and of those behind it, where the port is this supply or none
abbrev pub nets_by : Rules → ℕ → List (List ℕ) → Option Bool → List ℕ
nets_by rules next names None = next ∷ port_nets_from rules (suc next) names
nets_by rules next names (Some value) = cond value 1 0 ∷ port_nets_from rules next names

-- the ports by their roles are those of the cell without their names
ports_shown_from : (rules : Rules) (place at next number : ℕ) (names : List (List ℕ)) (roles : List PortRole) → place ≡ at → next ≡ number → length roles ≡ length names → Fits rules names roles
    → ports_by place next roles ≡ map unnamed (ports_from at names (port_nets_from rules number names) roles)
ports_shown_from rules place at next number [] [] p n e fits = refl
ports_shown_from rules place at next number [] (role ∷ roles) p n e fits = absurd (omega (arith, e))
ports_shown_from rules place at next number (name ∷ names) [] p n e fits = absurd (omega (arith, e))
ports_shown_from rules place at next number (name ∷ names) (role ∷ roles) p n e fits =
    ap (λ (o : Option Bool). port_at place (net_by o next) role ∷ ports_by (place + 1) (next_by o next) roles) (first_supply rules name names role roles fits)
    ∙ by_supply (λ k m same. ports_shown_from rules (place + 1) (suc at) k m names roles (omega (arith, p)) same (omega (arith, e)) (fits_behind rules name names role roles fits)) (supply_of rules name)
  where
    first : (k m : ℕ) → k ≡ m → port_at place k role ≡ port_at at m role
    first k m same = ap (λ (x : ℕ). port_at x k role) p ∙ ap (λ (x : ℕ). port_at at x role) same

    by_supply : ((k m : ℕ) → k ≡ m → ports_by (place + 1) k roles ≡ map unnamed (ports_from (suc at) names (port_nets_from rules m names) roles)) → (o : Option Bool)
        → port_at place (net_by o next) role ∷ ports_by (place + 1) (next_by o next) roles ≡ map unnamed (ports_from at (name ∷ names) (nets_by rules number names o) (role ∷ roles))
    by_supply rest None = ap₂ (λ (x : Port) (xs : List Port). x ∷ xs) (first next number n) (rest (next + 1) (suc number) (omega (arith, n)))
    by_supply rest (Some value) = ap₂ (λ (x : Port) (xs : List Port). x ∷ xs) (first (cond value 1 0) (cond value 1 0) refl) (rest next number n)

pub ports_shown : (rules : Rules) (cell : Cell) (pairing : Pairing) → HasRoles rules cell pairing
    → ports_by 0 2 pairing.ports ≡ map unnamed (ports_from 0 cell.ports (port_nets rules cell.ports) pairing.ports)
ports_shown rules cell pairing roles = ports_shown_from rules 0 0 2 2 cell.ports pairing.ports refl refl roles.each roles.supplies
