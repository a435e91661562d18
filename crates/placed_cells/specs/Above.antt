-- Where the nets of a cell alone are in a larger netlist, in which the cell stands at a place.
use Rattle.std.specs.Prelude.{◌≡◌, ℕ, suc, ◌+◌, ◌-◌, ◌<◌, ◌⊎◌, false, cond, List, [], ◌∷◌, length, None, nat_lt, ◌==◌}
use Rattle.cell_inside.specs.Shifted.{IsShifted, NamesNoGlobal, top_alone}
use Rattle.placed_cells.specs.Rows.{size_inside}
use Rattle.placed_cells.specs.Splits.{IsSplit}
use Rattle.vrt_model.specs.Comparison.{cell_at}
use Rattle.vrt_model.specs.Hierarchy.{bad_card}
use Rattle.vrt_model.specs.Lists.{At}
use Rattle.vrt_model.specs.Unrolled.{Place, Top, all_places, deepest, top_place}
use Rattle.vrt_model.specs.Unsupported.{is_tied_apart, supply_tie}
use Rattle.vrt_model.specs.declared.pairing.PortRole.{PortRole}

-- ---- nets

-- the net to which that of a port is tied; any other net is as it was
abbrev pub port_above : List ℕ → List ℕ → ℕ → ℕ
port_above [] ties n = n
port_above (net ∷ nets) [] n = n
port_above (net ∷ nets) (tie ∷ ties) n = cond (n == net) tie (port_above nets ties n)

-- the place of the place's cell alone
abbrev pub place_alone : Top → Place → Place
place_alone t p = top_place (top_alone t p.cell [])

-- the net that a net of the place's cell alone is: ports are at the nets to which they are tied, own nets at a distance
abbrev pub net_above : Top → Place → ℕ → ℕ
net_above t p n = cond (nat_lt n (place_alone t p).base) (port_above (place_alone t p).ports p.ports n) (p.base + (n - (place_alone t p).base))

-- ---- ties

-- each port is tied to a net, and those named as supplies to these
pub record IsTied (t : Top) (p : Place) : Type 0 where
  pub each : length p.ports ≡ length (cell_at t.design p.cell).ports
  pub supplies : is_tied_apart t.rules (cell_at t.design p.cell).ports p.ports ≡ false

-- The law: where no instance card is bad and no supply is tied apart, so is each instance.
abbrev pub InstancesAreTied : Type 0
InstancesAreTied = (t : Top) (i : ℕ) (p : Place) → bad_card t.design ≡ None → supply_tie t ≡ None → At (all_places t) (suc i) p → IsTied t p

-- The law: a place that is tied so is the place of its cell alone, shifted, and supplies stay.
abbrev pub InstancesAreShifted : Type 0
InstancesAreShifted =
    (t : Top) (roles : List PortRole) (p : Place)
    → IsTied t p → IsShifted (net_above t p) p.path (top_place (top_alone t p.cell roles)) p × (net_above t p 0 ≡ 0) × (net_above t p 1 ≡ 1)

-- The law: where the cell names no global net, two of its nets are one net above only where both are supplies or ports.
abbrev pub NetsAboveAreApart : Type 0
NetsAboveAreApart =
    (t : Top) (number : ℕ) (p : Place) (depth : ℕ) (before behind : List Place) (m n : ℕ)
    → IsSplit t number p depth before behind → IsTied t p → NamesNoGlobal t deepest p.cell
    → m < (place_alone t p).base + size_inside t depth p.cell → n < (place_alone t p).base + size_inside t depth p.cell
    → net_above t p m ≡ net_above t p n → (m ≡ n) ⊎ ((m < (place_alone t p).base) × (n < (place_alone t p).base))
