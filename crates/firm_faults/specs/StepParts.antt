-- What is asked of a step down, from what is known of the nets and instances of the two circuits.
use Rattle.std.specs.Prelude.{◌≡◌, ◌≢◌, ◌⊎◌, ℕ, Bool, true, false, is_some}
use Rattle.cell_inside.specs.LeftWhole.{IsLeftWhole}
use Rattle.cell_inside.specs.Placed.{IsPlaced}
use Rattle.cell_inside.specs.Regions.{ArePinsPlain}
use Rattle.firm_faults.specs.Settled.{IsBrokenAt, nets_named_at}
use Rattle.firm_faults.specs.StepDown.{HasOneMoreWhole, IsInnerSolution, IsPinOf, IsStepDown}
use Rattle.vrt_model.specs.Comparison.{CellPort, Comparison, is_observed, output_signal, phase_at, ports_of}
use Rattle.vrt_model.specs.Determined.{IsLinkedTo}
use Rattle.vrt_model.specs.Known.{HasArc, IsPlain, IsTogether, IsUnknown}
use Rattle.vrt_model.specs.Levels.{source_level}
use Rattle.vrt_model.specs.Lists.{Among, At}
use Rattle.vrt_model.specs.Networks.{HasRanges}
use Rattle.vrt_model.specs.Path.{level_of_drive}
use Rattle.vrt_model.specs.Reading.{bare, kept}
use Rattle.vrt_model.specs.State.{IsState, OutputPin, Setting, State, output_pins}
use Rattle.vrt_model.specs.WholeInstances.{IsChain}
use Rattle.vrt_model.specs.declared.circuit.Circuit.{Circuit}
use Rattle.vrt_model.specs.declared.circuit.FlatInstance.{FlatInstance}
use Rattle.vrt_model.specs.declared.circuit.FlatNet.{FlatNet}
use Rattle.vrt_model.specs.declared.circuit.NetKind.TheVariants.{Clock, Input}
use Rattle.vrt_model.specs.declared.rules.ClockRef.{ClockRef}
use Rattle.vrt_model.specs.declared.whole.Whole.{Whole}
use Rattle.vrt_model.specs.declared.whole.WholePin.{WholePin}
use Rattle.whole_solutions.specs.Observed.{HasLeftInstances, HidesItsNets}

-- The cell of q stands in the circuit of k and is whole in the other, over the same nets.
pub record IsReplacedOver (k q : Comparison) (phase : ℕ) (whole_circuit : Circuit) (at place fresh : ℕ → ℕ) (remaining compared exposed : ℕ → Bool) (drive : ℕ → ℕ) : Type 0 where
  pub design : q.design ≡ k.design
  pub rules : q.rules ≡ k.rules
  pub output_ports : (p : CellPort) → Among (ports_of q) p → is_some (output_signal p.role) ≡ true → IsPlain q.circuit p.net
  pub ranges : HasRanges k.circuit
  pub whole_ranges : HasRanges whole_circuit
  pub pins_plain : ArePinsPlain whole_circuit
  pub nets : whole_circuit.nets ≡ k.circuit.nets
  pub placed : IsPlaced q.circuit k.circuit at exposed drive
  pub whole : IsLeftWhole q.circuit k.circuit whole_circuit at (λ n. n) place fresh remaining compared exposed drive
  pub instances : HasLeftInstances k q phase whole_circuit at
  pub hides : HidesItsNets k q phase whole_circuit at remaining compared
  -- an exposed output is not known in the cell, and no other output is in its part of the kept cell
  pub unknown : (m : ℕ) → exposed m ≡ true → IsUnknown q.circuit (phase_at k.rules phase) m
  pub alone :
      (m n : ℕ) → exposed m ≡ true → IsPlain q.circuit n → remaining (at n) ≡ true → IsTogether q.circuit (phase_at k.rules phase) kept m n → at m ≡ at n

-- The instance i is left whole as x: it drives the cell's outputs that remain, softly where they are not exposed; the inputs and other exposed
-- outputs from which arcs lead to an output are linked to it, and the clock ports named; and in each state a constraint of it is broken, or
-- the cell has a solution at its bits.
pub record StandsForInstance (k q : Comparison) (phase : ℕ) (setting : Setting) (whole_circuit : Circuit) (at fresh : ℕ → ℕ) (remaining exposed : ℕ → Bool) (drive : ℕ → ℕ)
    (x : Whole) (i : FlatInstance) : Type 0 where
  pub instance : Among whole_circuit.instances i
  pub outputs :
      (m : ℕ) → IsPlain q.circuit m → remaining (at m) ≡ true
      → (pin : OutputPin) × At (output_pins whole_circuit) (fresh m) pin × (pin.whole ≡ x) × (pin.pin.net.0 ≡ at m) × (exposed m ≡ false → level_of_drive (source_level whole_circuit) pin.pin.drive ≡ source_level whole_circuit)
  pub links :
      (j m n : ℕ) (pin : WholePin) (net : FlatNet) → IsPinOf whole_circuit fresh x m j pin → IsPlain q.circuit m → pin.net.0 ≡ at m → At q.circuit.nets n net → net.kind ≡ Input
      → IsChain (HasArc q.circuit (phase_at k.rules phase)) n m
      → (input : WholePin) × Among x.inputs input × (input.net.0 ≡ at n) × IsLinkedTo (phase_at k.rules phase) x input j × (input.observed ≡ true)
  pub output_links :
      (j m l n : ℕ) (pin : WholePin) → IsPinOf whole_circuit fresh x m j pin → IsPlain q.circuit m → pin.net.0 ≡ at m → exposed l ≡ true → l ≢ m
      → IsTogether q.circuit (phase_at k.rules phase) bare l n → IsChain (HasArc q.circuit (phase_at k.rules phase)) n m
      → (from : WholePin) × Among x.outputs from × (from.net.0 ≡ at l) × IsLinkedTo (phase_at k.rules phase) x from j
  pub clocks : (n : ℕ) (net : FlatNet) (clock : ClockRef) → At q.circuit.nets n net → net.kind ≡ Clock clock → Among (nets_named_at k phase i) (at n)
  pub inner :
      (r : State) → IsState whole_circuit (phase_at k.rules phase) setting.inputs r
      → IsBrokenAt k phase r.reading i
      ⊎ ((bits : ℕ → Bool) × IsInnerSolution q.circuit whole_circuit (phase_at k.rules phase) (is_observed q phase) exposed at fresh drive x r bits)

-- The law: where these hold, what is on firm ground goes down.
abbrev pub ReplacedInstancesStepDown : Type 0
ReplacedInstancesStepDown =
    (k q : Comparison) (phase : ℕ) (setting : Setting) (whole_circuit : Circuit) (at place fresh : ℕ → ℕ) (remaining compared exposed : ℕ → Bool) (drive : ℕ → ℕ) (x : Whole) (i : FlatInstance)
    → IsReplacedOver k q phase whole_circuit at place fresh remaining compared exposed drive
    → HasOneMoreWhole (phase_at k.rules phase) k.circuit whole_circuit place x
    → StandsForInstance k q phase setting whole_circuit at fresh remaining exposed drive x i
    → IsStepDown k phase setting q.circuit whole_circuit at place fresh remaining compared (is_observed q phase) exposed drive x i
