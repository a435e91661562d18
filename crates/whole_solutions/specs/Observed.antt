-- Which nets are observed in a circuit with a cell in it, in the circuit with the cell whole, and in the cell alone. Nets keep
-- their numbers where the cell is whole.
use Rattle.std.specs.Prelude.{◌≡◌, ℕ, ◌<◌, ◌⊎◌, Bool, true, false, ◌||◌, map, length, is_some}
use Rattle.cell_inside.specs.LeftWhole.{IsLeftWhole}
use Rattle.cell_inside.specs.Placed.{IsPlaced}
use Rattle.cell_inside.specs.Regions.{IsGivenNet}
use Rattle.cell_inside.specs.Replacements.{AreObservedThere}
use Rattle.vrt_model.specs.CellRules.{is_constrained}
use Rattle.vrt_model.specs.Checked.{with_circuit}
use Rattle.vrt_model.specs.Comparison.{CellPort, Comparison, cell_at, is_observed, output_signal, ports_of}
use Rattle.vrt_model.specs.FlatCircuit.{net_id}
use Rattle.vrt_model.specs.Known.{IsPlain}
use Rattle.vrt_model.specs.Lists.{Among, At}
use Rattle.vrt_model.specs.Reading.{is_given_at}
use Rattle.vrt_model.specs.declared.circuit.Circuit.{Circuit}
use Rattle.vrt_model.specs.declared.circuit.FlatInstance.{FlatInstance}
use Rattle.vrt_model.specs.declared.circuit.FlatNet.{FlatNet}
use Rattle.vrt_model.specs.declared.circuit.NetKind.TheVariants.{Clock, Input}
use Rattle.vrt_model.specs.declared.ids.Net.{Net}
use Rattle.vrt_model.specs.declared.rules.ClockRef.{ClockRef}
use Rattle.vrt_model.specs.declared.whole.Whole.{Whole}
use Rattle.vrt_model.specs.declared.whole.WholePin.{WholePin}

-- ---- what is observed or given

-- a net is observed, or has a given value, which it always shows
abbrev pub is_observed_or_given : Comparison → ℕ → ℕ → Bool
is_observed_or_given k phase n = is_observed k phase n || is_given_at k.circuit n

-- ---- instances and pins

-- the second instance is the first one in the circuit: each port is at the net that its net of the cell is there
pub record IsInstanceImage (at : ℕ → ℕ) (i j : FlatInstance) : Type 0 where
  pub cell : j.cell ≡ i.cell
  pub ports : j.ports ≡ map (λ (m : Net). net_id (at m.0)) i.ports

-- The instances of a circuit with a cell in it, and those with the cell whole: those inside the cell are gone, and all others
-- stay, the cell's own among them. Whole instances stay, and the cell is one more.
pub record HasLeftInstances (k q : Comparison) (phase : ℕ) (whole_circuit : Circuit) (at : ℕ → ℕ) : Type 0 where
  pub instances : (i : FlatInstance) → Among k.circuit.instances i → ((j : FlatInstance) × Among q.circuit.instances j × IsInstanceImage at j i) ⊎ Among whole_circuit.instances i
  pub inside : (j : FlatInstance) → Among q.circuit.instances j → (i : FlatInstance) × Among k.circuit.instances i × IsInstanceImage at j i
  pub instances_back : (i : FlatInstance) → Among whole_circuit.instances i → Among k.circuit.instances i
  pub wholes : (w : Whole) → Among k.circuit.wholes w → (v : Whole) × Among whole_circuit.wholes v × (v.inputs ≡ w.inputs)
  -- a pin there is one of the circuit, or the cell's at an input, and observed only where the input is
  pub wholes_back :
      (v : Whole) (pin : WholePin) → Among whole_circuit.wholes v → Among v.inputs pin → pin.observed ≡ true
      → ((w : Whole) × Among k.circuit.wholes w × Among w.inputs pin)
      ⊎ ((n : ℕ) × (pin.net.0 ≡ at n) × IsGivenNet q.circuit n × (is_observed q phase n ≡ true))
  -- each observed input of the cell has an observed pin, and each net that carries a clock is at a port of a constrained instance
  pub inputs :
      (n : ℕ) (net : FlatNet) → At q.circuit.nets n net → net.kind ≡ Input → is_observed q phase n ≡ true
      → (v : Whole) × (pin : WholePin) × Among whole_circuit.wholes v × Among v.inputs pin × (pin.observed ≡ true) × (pin.net.0 ≡ at n)
  pub clocks :
      (n : ℕ) (net : FlatNet) (clock : ClockRef) → At q.circuit.nets n net → net.kind ≡ Clock clock
      → (i : FlatInstance) × (m : Net) × Among whole_circuit.instances i × Among i.ports m × (m.0 ≡ at n)
      × (is_constrained k.rules (cell_at k.design i.cell).name ≡ true)

-- Which nets the whole cell hides: each net that is not compared is a plain net of the cell. Of these the ones that remain are
-- outputs, so they are observed in the cell. All ports outside are at nets that remain.
pub record HidesItsNets (k q : Comparison) (phase : ℕ) (whole_circuit : Circuit) (at : ℕ → ℕ) (remaining compared : ℕ → Bool) : Type 0 where
  pub hidden : (n : ℕ) → compared n ≡ false → (m : ℕ) × (n ≡ at m) × IsPlain q.circuit m
  pub outputs : (m : ℕ) → IsPlain q.circuit m → remaining (at m) ≡ true → is_observed q phase m ≡ true
  pub ports : (p : CellPort) → Among (ports_of k) p → remaining p.net ≡ true
  pub instance_ports : (i : FlatInstance) (m : Net) → Among whole_circuit.instances i → Among i.ports m → remaining m.0 ≡ true
  pub pins : (v : Whole) (pin : WholePin) → Among whole_circuit.wholes v → Among v.inputs pin → remaining pin.net.0 ≡ true

-- ---- laws

-- The law: each net that is observed in the circuit is compared, and observed or given with the cell whole, or it is that of an
-- observed net of the cell.
abbrev pub ObservedNetsAreThere : Type 0
ObservedNetsAreThere =
    (k q : Comparison) (phase : ℕ) (whole_circuit : Circuit) (at place fresh : ℕ → ℕ) (remaining compared exposed : ℕ → Bool) (drive : ℕ → ℕ)
    → q.design ≡ k.design → q.rules ≡ k.rules → ((n : ℕ) → is_observed q phase n ≡ true → n < length q.circuit.nets)
    → IsPlaced q.circuit k.circuit at exposed drive
    → IsLeftWhole q.circuit k.circuit whole_circuit at (λ n. n) place fresh remaining compared exposed drive
    → HasLeftInstances k q phase whole_circuit at → HidesItsNets k q phase whole_circuit at remaining compared
    → AreObservedThere q.circuit at (λ n. n) compared (is_observed k phase) (is_observed_or_given (with_circuit k whole_circuit) phase) (is_observed q phase)

-- The law: each net that is observed with the cell whole is observed in the circuit.
abbrev pub WholeObservesNoMore : Type 0
WholeObservesNoMore =
    (k q : Comparison) (phase : ℕ) (whole_circuit : Circuit) (at place fresh : ℕ → ℕ) (remaining compared exposed : ℕ → Bool) (drive : ℕ → ℕ)
    → q.design ≡ k.design → q.rules ≡ k.rules
    → ((p : CellPort) → Among (ports_of q) p → is_some (output_signal p.role) ≡ true → IsPlain q.circuit p.net)
    → IsPlaced q.circuit k.circuit at exposed drive
    → IsLeftWhole q.circuit k.circuit whole_circuit at (λ n. n) place fresh remaining compared exposed drive
    → HasLeftInstances k q phase whole_circuit at
    → (n : ℕ) → is_observed (with_circuit k whole_circuit) phase n ≡ true → is_observed k phase n ≡ true
