-- The list of all places of a phase at which a fault may stand, made stage by stage.
use Rattle.std.specs.Prelude.{length, ◌≡◌, ℕ, ◌<◌, ◌⊎◌, Bool, true, List, [], ◌∷◌, ◌++◌, Some, map, flat_map}
use Rattle.std.specs.List.{range_with_len}
use Rattle.fault_places.specs.Searches.{IsFoundAt, Spot}
use Rattle.vrt_model.specs.CellRules.{assumed, clock_of_port, is_observed_port}
use Rattle.vrt_model.specs.Comparison.{CellPort, Comparison, cell_at, is_observed, output_signal, phase_at, ports_of}
use Rattle.vrt_model.specs.Known.{IsLeastOfPart, IsPlain}
use Rattle.vrt_model.specs.Lists.{At, Among}
use Rattle.vrt_model.specs.Places.{IsOrder, comes_before, greatest_rank, named_nets, of_instance, of_net}
use Rattle.vrt_model.specs.declared.circuit.FlatInstance.{FlatInstance}
use Rattle.vrt_model.specs.declared.circuit.Hold.{Hold}
use Rattle.vrt_model.specs.declared.rules.ClockRef.{ClockRef}
use Rattle.vrt_model.specs.declared.rules.Expr.{Expr}
use Rattle.vrt_model.specs.declared.verdict.FaultKind.{FaultKind}
use Rattle.vrt_model.specs.declared.verdict.FaultKind.TheVariants.{Fight, FightKept, Float, Unsettled, Constraint, Differs, Next, Apart, Enter}

-- ---- lists in order

-- each number is greater than those before it
abbrev pub IsRising : List ℕ → Type 0
IsRising xs = (i j a b : ℕ) → At xs i a → At xs j b → i < j → a < b

-- what a list is sorted by: a list of numbers for each item, compared from the left
abbrev pub IsSortedBy : {X : Type 0} → (X → List ℕ) → List X → Type 0
IsSortedBy {X} key xs = (i j : ℕ) (x y : X) → At xs i x → At xs j y → i < j → comes_before (key x) (key y) ≡ true

-- ---- the steps in which the nets are solved

-- a part, with its least net and its nets, or an instance by its place in the circuit's list
pub data Step : Type 0 where
  OfPart : ℕ → List ℕ → Step
  OfInstance : ℕ → Step

-- where a step stands: by rank, in a rank the parts by least net, and behind them the instances
abbrev pub step_key : Comparison → ℕ → (ℕ → ℕ) → Step → List ℕ
step_key k phase rank (OfPart first nets) = rank first ∷ of_net ∷ first ∷ []
step_key k phase rank (OfInstance at) = greatest_rank rank (named_nets k phase at) ∷ of_instance ∷ at ∷ []

-- the rank at which a step stands
abbrev pub step_rank : Comparison → ℕ → (ℕ → ℕ) → Step → ℕ
step_rank k phase rank (OfPart first nets) = rank first
step_rank k phase rank (OfInstance at) = greatest_rank rank (named_nets k phase at)

-- within a rank: parts before instances, parts by least net, and instances by number
abbrev pub IsSooner : Step → Step → Type 0
IsSooner (OfPart first nets) (OfPart second others) = first < second
IsSooner (OfPart first nets) (OfInstance at) = Unit {0}
IsSooner (OfInstance at) (OfPart first nets) = ⊥
IsSooner (OfInstance at) (OfInstance there) = at < there

-- one step before another, by rank and within a rank
abbrev pub IsStepBefore : Comparison → ℕ → (ℕ → ℕ) → Step → Step → Type 0
IsStepBefore k phase rank x y =
    (step_rank k phase rank x < step_rank k phase rank y)
    ⊎ ((step_rank k phase rank x ≡ step_rank k phase rank y) × IsSooner x y)

-- the cell of the instance has an `assume` for the phase, or a clock port
abbrev pub HasConstraint : Comparison → ℕ → FlatInstance → Type 0
HasConstraint k phase i =
    ((e : Expr) × Among (assumed k.rules (cell_at k.design i.cell).name phase) e)
    ⊎ ((name : List ℕ) × (clock : ClockRef) × Among (cell_at k.design i.cell).ports name × (clock_of_port k.rules (cell_at k.design i.cell).name name ≡ Some clock))

-- all parts, and all instances with a constraint, in their order
pub record AreSteps (k : Comparison) (phase : ℕ) (rank : ℕ → ℕ) (steps : List Step) : Type 0 where
  pub sorted : IsSortedBy (step_key k phase rank) steps
  pub rising : (first : ℕ) (nets : List ℕ) → Among steps (OfPart first nets) → IsRising nets
  pub leasts :
      (first : ℕ) (nets : List ℕ) (n : ℕ) → Among steps (OfPart first nets) → Among nets n
      → IsLeastOfPart k.circuit (phase_at k.rules phase) n first
  pub parts : (n : ℕ) → IsPlain k.circuit n → (first : ℕ) × (nets : List ℕ) × Among steps (OfPart first nets) × Among nets n
  pub instances : (at : ℕ) (i : FlatInstance) → At k.circuit.instances at i → HasConstraint k phase i → Among steps (OfInstance at)

-- ---- all stages

-- a place for each of these kinds
abbrev pub spots_at : List FaultKind → ℕ → List Spot
spots_at kinds n = map (λ (kind : FaultKind). let x : Spot = record { kind = kind; at = n } in x) kinds

-- at one number after the other, a place for each of these kinds
abbrev pub spots_each : List FaultKind → List ℕ → List Spot
spots_each kinds numbers = flat_map (spots_at kinds) numbers

-- the places of a step: net by net Fight before Float, or Constraint at the instance
abbrev pub spots_of : Step → List Spot
spots_of (OfPart first nets) = spots_each (Fight ∷ Float ∷ []) nets
spots_of (OfInstance at) = spots_at (Constraint ∷ []) at

-- what a phase is searched by: the steps; the nets at which the kept circuit is looked at; the output ports by their
-- places; and the nets of holds
pub record Sites : Type 0 where
  pub steps : List Step
  pub nets : List ℕ
  pub ports : List ℕ
  pub held : List ℕ

-- the stages behind that in which the nets are solved, one behind the other
abbrev pub spots_behind : Sites → List Spot
spots_behind s =
    spots_each (FightKept ∷ Unsettled ∷ []) s.nets
    ++ (spots_each (Differs ∷ []) s.ports
    ++ (spots_each (Next ∷ []) s.held
    ++ (spots_each (Apart ∷ []) s.held
    ++ spots_each (Enter ∷ []) s.held)))

-- all stages
abbrev pub spots_in : Sites → List Spot
spots_in s = flat_map spots_of s.steps ++ spots_behind s

-- Each list rises, and no place at which a fault may stand is left out. That no net with a given value floats is asked,
-- since it needs a state that agrees with the solution.
pub record AreSites (k : Comparison) (phase : ℕ) (rank least : ℕ → ℕ) (s : Sites) : Type 0 where
  pub order : IsOrder k phase rank least
  pub steps : AreSteps k phase rank s.steps
  pub nets_rise : IsRising s.nets
  pub plain_nets : (n : ℕ) → IsPlain k.circuit n → Among s.nets n
  pub seen_nets : (n : ℕ) → is_observed k phase n ≡ true → Among s.nets n
  pub ports_rise : IsRising s.ports
  pub seen_ports :
      (at : ℕ) (port : CellPort) (signal : ℕ) → At (ports_of k) at port → output_signal port.role ≡ Some signal
      → is_observed_port k.rules (cell_at k.design k.cell).name port.name phase ≡ true → Among s.ports at
  pub held_rise : IsRising s.held
  pub held_nets : (place : ℕ) (h : Hold) → At k.circuit.holds place h → Among s.held h.net.0
  pub floats : (n : ℕ) (bits : List Bool) → IsFoundAt k phase (record { kind = Float; at = n }) bits → IsPlain k.circuit n

-- the steps, with the lists of all numbers of nets and of ports
abbrev pub counted : Comparison → List Step → Sites
counted k steps = record {
  steps = steps;
  nets = range_with_len 0 (length k.circuit.nets);
  ports = range_with_len 0 (length (ports_of k));
  held = range_with_len 0 (length k.circuit.nets);
}
