-- An instance whose constraints are not broken: the bits at its ports are a valuation of its cell that meets them.
use Rattle.std.specs.Prelude.{◌≡◌, ℕ, ◌⊎◌, Bool, List, [], map, Some}
use Rattle.cell_inside.specs.Placed.{IsSupply}
use Rattle.cell_inside.specs.Regions.{IsGivenNet}
use Rattle.vrt_model.specs.CellRules.{assumed, clock_of_port}
use Rattle.vrt_model.specs.Comparison.{Comparison, cell_at, phase_at, port_nets}
use Rattle.vrt_model.specs.Constraints.{Meets}
use Rattle.vrt_model.specs.Expressions.{names_in}
use Rattle.vrt_model.specs.Faults.{BreaksConstraint}
use Rattle.vrt_model.specs.FlatCircuit.{net_id}
use Rattle.vrt_model.specs.Held.{setting_of}
use Rattle.vrt_model.specs.Lists.{Among, At, place_of}
use Rattle.vrt_model.specs.Reading.{IsReading, Partial}
use Rattle.vrt_model.specs.declared.circuit.FlatInstance.{FlatInstance}
use Rattle.vrt_model.specs.declared.circuit.FlatNet.{FlatNet}
use Rattle.vrt_model.specs.declared.circuit.NetKind.TheVariants.{Clock}
use Rattle.vrt_model.specs.declared.rules.ClockRef.{ClockRef}
use Rattle.vrt_model.specs.declared.rules.Expr.{Expr}

-- ---- the ports of a cell

-- the port at a place has this name and this net
pub record IsPortAt (q : Comparison) (place : ℕ) (name : List ℕ) (n : ℕ) : Type 0 where
  pub called : At (cell_at q.design q.cell).ports place name
  pub tied : At (port_nets q.rules (cell_at q.design q.cell).ports) place n

-- an `assume` of the cell for the phase names the port, or a `clockport` rule gives it a clock
abbrev pub IsNamed : Comparison → ℕ → List ℕ → Type 0
IsNamed q phase name =
    ((e : Expr) × Among (assumed q.rules (cell_at q.design q.cell).name phase) e × Among (names_in e) name)
    ⊎ ((clock : ClockRef) × (clock_of_port q.rules (cell_at q.design q.cell).name name ≡ Some clock))

-- a net that carries a clock is that of a port to which a `clockport` rule gives this clock, and each name in an `assume` is
-- that of a port whose net has a given value
pub record HasGivenPorts (q : Comparison) (phase : ℕ) : Type 0 where
  pub clocks :
      (n : ℕ) (net : FlatNet) (clock : ClockRef) → At q.circuit.nets n net → net.kind ≡ Clock clock
      → (place : ℕ) × (name : List ℕ) × IsPortAt q place name n × (clock_of_port q.rules (cell_at q.design q.cell).name name ≡ Some clock)
  pub named :
      (e : Expr) (name : List ℕ) → Among (assumed q.rules (cell_at q.design q.cell).name phase) e → Among (names_in e) name
      → (place : ℕ) × (n : ℕ) × (place_of (cell_at q.design q.cell).ports name ≡ Some place) × IsPortAt q place name n × IsGivenNet q.circuit n

-- ---- an instance of it

-- the instance is one of the cell: each port is at the net that the port's net of the cell is in the circuit
pub record IsInstanceOf (q : Comparison) (at : ℕ → ℕ) (i : FlatInstance) : Type 0 where
  pub cell : i.cell ≡ q.cell
  pub ports : i.ports ≡ map (λ (n : ℕ). net_id (at n)) (port_nets q.rules (cell_at q.design q.cell).ports)

-- the partial assignment has, at each port that a constraint names, the bit of the reading
abbrev pub HasNamedBits : Comparison → ℕ → (ℕ → ℕ) → (ℕ → Bool) → Partial → Type 0
HasNamedBits q phase at reading a = (place n : ℕ) (name : List ℕ) → IsPortAt q place name n → IsNamed q phase name → a (at n) ≡ Some (reading (at n))

-- The law: where a cell without holds has an instance whose constraints are not broken, with bits at the ports that they name,
-- the bits of a reading at the instance's nets are a reading of the cell at some valuation that meets its constraints.
abbrev pub InstanceGivesValuation : Type 0
InstanceGivesValuation =
    (q : Comparison) (phase : ℕ) (at : ℕ → ℕ) (i : FlatInstance) (reading : ℕ → Bool) (a : Partial)
    → q.circuit.holds ≡ [] → HasGivenPorts q phase → IsInstanceOf q at i → HasNamedBits q phase at reading a
    → ((n : ℕ) (value : Bool) → IsSupply q.circuit n value → reading (at n) ≡ value)
    → ¬ BreaksConstraint q.design q.rules phase a i
    → (bits : List Bool) × Meets q phase bits × IsReading q.circuit (phase_at q.rules phase) (setting_of q phase bits).inputs (λ n. reading (at n))
