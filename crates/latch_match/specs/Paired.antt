-- How a cell pairs with a model: what is made of its ports, and what a call answers.
use Rattle.std.specs.Prelude.{◌≡◌, ℕ, Bool, not, ◌&&◌, List, [], ◌++◌, map, filter, filter_map, find, nat_lt, count_by, Option, Some, None, option_map, option_and_then, slice_get, position, ◌==◌, Result, Ok, Err}
use Rattle.std.specs.Option.{option_or}
use Rattle.vrt_model.specs.Comparison.{cell_at}
use Rattle.vrt_model.specs.Elements.{signal_name}
use Rattle.vrt_model.specs.Inputs.{AreRules}
use Rattle.vrt_model.specs.Lists.{has_number}
use Rattle.vrt_model.specs.PairedPorts.{HasRoles, clocked_by_name, clocked_signals, interface, output_is_input, paired_signals, pairing_of, ports_fault}
use Rattle.vrt_model.specs.declared.design.Cell.{Cell}
use Rattle.vrt_model.specs.declared.design.Design.{Design}
use Rattle.vrt_model.specs.declared.flat_model.FlatModel.{FlatModel}
use Rattle.vrt_model.specs.declared.pairing.ClockedSignal.{ClockedSignal}
use Rattle.vrt_model.specs.declared.pairing.Pairing.{Pairing}
use Rattle.vrt_model.specs.declared.rules.Rules.{Rules}
use Rattle.latch_match.specs.Facts.{all_facts, is_in_way}
use Rattle.latch_match.specs.Looked.{AreEmpty}
use Rattle.latch_match.specs.Marked.{AreCounts, has_in}
use Rattle.latch_match.specs.declared.faults.PairFault.{PairFault}
use Rattle.latch_match.specs.declared.faults.PairFault.TheVariants.{Ports, OutputIsInput, NoMemory}
use Rattle.latch_match.specs.declared.numbers.NumberSet.{NumberSet}
use Rattle.latch_match.specs.declared.signals.Paired.{Paired}

-- a set has the numbers of a list
abbrev pub IsSetOf : List ℕ → NumberSet → Type 0
IsSetOf numbers set = (n : ℕ) → has_in set n ≡ has_number numbers n

-- the numbers of signals that carry clocks
abbrev pub carriers : List ClockedSignal → List ℕ
carriers clocked = map (λ (c : ClockedSignal). c.signal) clocked

-- the interface, by a set of the inputs and clocks
abbrev pub interface_by : FlatModel → (ℕ → Bool) → List ℕ
interface_by flat is_input = let inputs = flat.inputs ++ flat.clocks in inputs ++ filter (λ s. not (is_input s)) flat.outputs

-- the signals without port whose names are declared clocks
abbrev pub clocked_without_port : FlatModel → Rules → (ℕ → Bool) → List ℕ → List ClockedSignal
clocked_without_port flat rules is_paired signals = filter_map (clocked_by_name flat rules) (filter (λ s. not (is_paired s)) signals)

-- nothing is known
pub record IsBlank (p : Paired) : Type 0 where
  pub lookups : AreEmpty p.lookups
  pub facts : p.facts ≡ []
  pub interface : p.interface ≡ []
  pub outputs : IsSetOf [] p.outputs
  pub counts : AreCounts [] p.counts
  pub clocked : p.clocked ≡ []
  pub carriers : IsSetOf [] p.carriers

-- what is known of a cell's ports and a model's signals
pub record ArePaired (flat : FlatModel) (rules : Rules) (cell : Cell) (p : Paired) : Type 0 where
  pub facts : p.facts ≡ all_facts flat rules cell
  pub interface : p.interface ≡ interface flat
  pub outputs : IsSetOf flat.outputs p.outputs
  pub once : (s : ℕ) → has_in p.counts.once s ≡ has_number (paired_signals flat rules cell) s
  pub again : (s : ℕ) → has_in p.counts.again s ≡ nat_lt 1 (count_by (λ other. other == s) (paired_signals flat rules cell))
  pub clocked : p.clocked ≡ clocked_signals flat rules cell
  pub carriers : IsSetOf (carriers (clocked_signals flat rules cell)) p.carriers

-- the place of the first port in the way, the first signal in the way, and the first input that is an output
abbrev pub port_in_way : Paired → Option ℕ
port_in_way p = position (is_in_way (has_in p.outputs) (has_in p.counts.again)) p.facts

abbrev pub signal_in_way : Paired → Option ℕ
signal_in_way p = find (λ s. not (has_in p.counts.once s) && not (has_in p.carriers s)) p.interface

abbrev pub way_in : FlatModel → List (List ℕ) → Paired → Option (List ℕ)
way_in flat ports p = option_or (option_and_then (slice_get ports) (port_in_way p)) (option_map (signal_name flat) (signal_in_way p))

abbrev pub output_in : FlatModel → Paired → Option (List ℕ)
output_in flat p = option_map (signal_name flat) (option_or (find (has_in p.outputs) flat.inputs) (find (has_in p.outputs) flat.clocks))

-- What a fault tells, by the name that is in the way of a pairing and by the output that is an input. Memory may run out.
abbrev pub Tells : Option (List ℕ) → Option (List ℕ) → Option PairFault → Type 0
Tells way output None = (way ≡ None) × (output ≡ None)
Tells way output (Some (Ports name)) = way ≡ Some name
Tells way output (Some (OutputIsInput signal)) = (way ≡ None) × (output ≡ Some signal)
Tells way output (Some NoMemory) = Unit {0}

-- A pairing is the one that the rules and names give, where nothing stands in its way. Under rules as they are read it has
-- one role for each port, a supply exactly where the port is named as one, and its clocks are declared.
pub record IsPairing (design : Design) (cell model : ℕ) (flat : FlatModel) (rules : Rules) (pairing : Pairing) : Type 0 where
  pub ports : ports_fault design cell flat rules ≡ None
  pub outputs : output_is_input flat ≡ None
  pub is : pairing ≡ pairing_of design cell model flat rules
  pub roles : AreRules rules → HasRoles rules (cell_at design cell) pairing

-- A call gives the pairing, or tells the first port or signal in its way, else the first output that is an input.
abbrev pub PairGives : Design → ℕ → ℕ → FlatModel → Rules → Result Pairing PairFault → Type 0
PairGives design cell model flat rules (Ok pairing) = IsPairing design cell model flat rules pairing
PairGives design cell model flat rules (Err fault) = Tells (ports_fault design cell flat rules) (output_is_input flat) (Some fault)
