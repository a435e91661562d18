-- What is made of the whole instances of a circuit, and what writing the bit of one of their outputs leaves.
use Rattle.std.specs.Prelude.{◌≡◌, ◌≢◌, ℕ, ◌+◌, ◌<◌, ◌≤◌, Bool, true, List, Option, None, Some, cond, flat_map, length, map, option_and_then, slice_get, take, unwrap_or, Result, Ok, Err}
use Rattle.node_pool.specs.declared.region.Span.{Span}
use Rattle.bdd_core.specs.Diagram.{Valuation}
use Rattle.bdd_core.specs.Store.{Diagrams}
use Rattle.bdd_core.specs.Words.{shows, word_at}
use Rattle.blif_eval.specs.Plans.{ArcOf, IsPlan}
use Rattle.blif_eval.specs.declared.plan.ModelPlan.{ModelPlan}
use Rattle.blif_eval.specs.declared.plan.PlanFault.{PlanFault}
use Rattle.blif_eval.specs.declared.plan.PlanFault.TheVariants.{ModelCycle, NoMemory}
use Rattle.vrt_model.specs.Known.{IsFirstCycle}
use Rattle.vrt_model.specs.Lists.{At, Among, mark_at}
use Rattle.vrt_model.specs.Path.{Joins}
use Rattle.vrt_model.specs.State.{ModelGives, OutputPin, output_pins}
use Rattle.vrt_model.specs.declared.circuit.Circuit.{Circuit}
use Rattle.vrt_model.specs.declared.circuit.Device.{Device}
use Rattle.vrt_model.specs.declared.rules.Phase.{Phase}
use Rattle.vrt_model.specs.declared.whole.Drive.TheVariants.{Soft}
use Rattle.vrt_model.specs.declared.whole.Whole.{Whole}
use Rattle.vrt_model.specs.declared.whole.WholePin.{WholePin}
use Rattle.whole_steps.specs.Logic.{IsLogicWhole, nothing_known}
use Rattle.whole_steps.specs.Words.{model_words}
use Rattle.whole_steps.specs.declared.table.OutputPlace.{OutputPlace}

-- what a table of outputs has at a number, if anything
abbrev pub driver_at : List (Option OutputPlace) → ℕ → Option OutputPlace
driver_at drivers n = unwrap_or (slice_get drivers n) None

-- the output there that is marked as free
abbrev pub free_one : OutputPlace → Option OutputPlace
free_one place = cond place.free (Some place) None

abbrev pub free_at : List (Option OutputPlace) → ℕ → Option OutputPlace
free_at drivers n = option_and_then free_one (driver_at drivers n)

-- soft, no channel meets its net, and of some outputs none before it is at that net
pub record IsFirstFree (c : Circuit) (pins : List OutputPin) (number : ℕ) (out : OutputPin) : Type 0 where
  pub soft : out.pin.drive ≡ Soft
  pub channels : (d : Device) (n : ℕ) → Among c.devices d → ¬ Joins d n out.pin.net.0
  pub first : (at : ℕ) (other : OutputPin) → At pins at other → at < number → other.pin.net.0 ≢ out.pin.net.0

-- the outputs of an instance, and of the instances before a number
abbrev pub outputs_of : Whole → List OutputPin
outputs_of w = map (λ (p : WholePin). let pin : OutputPin = record { whole = w; pin = p } in pin) w.outputs

abbrev pub outputs_before : Circuit → ℕ → List OutputPin
outputs_before c number = flat_map outputs_of (take number c.wholes)

-- the output at a place, by its instance, and by its number among some outputs: those of the instances before come first; what is
-- marked as free is so
pub record IsOutput (c : Circuit) (pins : List OutputPin) (place : OutputPlace) (out : OutputPin) : Type 0 where
  pub whole : At c.wholes place.whole out.whole
  pub output : At out.whole.outputs place.output out.pin
  pub number : At pins place.number out
  pub from : place.number ≡ length (outputs_before c place.whole) + place.output
  pub free : place.free ≡ true → IsFirstFree c pins place.number out

-- the last of the outputs before a number that is at a net, or there is none
abbrev pub IsLast : Circuit → List OutputPin → ℕ → ℕ → Option OutputPlace → Type 0
IsLast c pins n bound None = (at : ℕ) (out : OutputPin) → At pins at out → at < bound → out.pin.net.0 ≢ n
IsLast c pins n bound (Some place) =
    (out : OutputPin) × IsOutput c pins place out × (place.number < bound) × (out.pin.net.0 ≡ n)
    × ((at : ℕ) (other : OutputPin) → At pins at other → place.number < at → at < bound → other.pin.net.0 ≢ n)

-- A table of outputs of a circuit: for each net the last at it, and behind the nets for each output the last before it that is at its
-- net.
pub record AreDrivers (c : Circuit) (pins : List OutputPin) (drivers : List (Option OutputPlace)) : Type 0 where
  pub last : (n : ℕ) → n < length c.nets → IsLast c pins n (length pins) (driver_at drivers n)
  pub earlier : (at : ℕ) (out : OutputPin) → At pins at out → IsLast c pins out.pin.net.0 at (driver_at drivers (length c.nets + at))

-- the table has nothing beside
pub record AreNoted (c : Circuit) (pins : List OutputPin) (drivers : List (Option OutputPlace)) : Type 0 where
  pub size : length drivers ≡ length c.nets + length pins
  pub are : AreDrivers c pins drivers

-- the nets at the channels of the devices before a number are marked
pub record AreMet (c : Circuit) (number : ℕ) (met : List Bool) : Type 0 where
  pub size : length met ≡ length c.nets
  pub left : (at : ℕ) (d : Device) → at < number → At c.devices at d → mark_at met d.left.0 ≡ true
  pub right : (at : ℕ) (d : Device) → at < number → At c.devices at d → mark_at met d.right.0 ≡ true

-- an order of the model of each instance before a number
pub record AreOrders (wholes : List Whole) (number : ℕ) (orders : List ModelPlan) : Type 0 where
  pub size : length orders ≡ number
  pub each : (k : ℕ) (w : Whole) → k < number → At wholes k w → (plan : ModelPlan) × At orders k plan × IsPlan w.model (nothing_known w.model) plan

-- an order of the model of each instance; or the first cycle of the model of one, whatever its bits are; or want of memory
abbrev pub OrdersGive : List Whole → Result (List ModelPlan) PlanFault → Type 0
OrdersGive wholes (Ok orders) = AreOrders wholes (length wholes) orders
OrdersGive wholes (Err (ModelCycle signals)) = (w : Whole) × Among wholes w × IsFirstCycle (ArcOf w.model (nothing_known w.model)) signals
OrdersGive wholes (Err NoMemory) = Unit {0}

-- the outputs by net, and an order of the model of each whole instance
pub record IsWholeTable (c : Circuit) (drivers : List (Option OutputPlace)) (orders : List ModelPlan) : Type 0 where
  pub outputs : AreDrivers c (output_pins c) drivers
  pub plans : (k : ℕ) (w : Whole) → At c.wholes k w → (plan : ModelPlan) × At orders k plan × IsPlan w.model (nothing_known w.model) plan
  pub logic : (w : Whole) → Among c.wholes w → IsLogicWhole w

-- the words are enough for the model of each whole instance
abbrev pub HasModelRoom : Circuit → Span → Type 0
HasModelRoom c out = (w : Whole) → Among c.wholes w → model_words w.model ≤ out.len

-- the words of the outputs, among others that begin there
abbrev pub output_words : Circuit → Span → Span
output_words c pins = record { start = pins.start; len = length (output_pins c) }

-- the word of an output has the bit that the model gives it at the bits of the nets; those of other outputs stay
pub record OutputGives (phase : Phase) (number : ℕ) (out : OutputPin) (gates pins : Span) (old new : Diagrams) : Type 0 where
  pub bit : (v : Valuation) → ModelGives phase out (λ n. shows old gates n v) (shows new pins number v)
  pub others : (k : ℕ) → k < pins.len → k ≢ number → word_at new pins k ≡ word_at old pins k
