-- Faults on firm ground: in some state the fault stands, and all that it rests on is settled there.
use Rattle.std.specs.Prelude.{◌≡◌, ℕ, Bool, true, List, Some}
use Rattle.cell_inside.specs.Regions.{ArePinsPlain}
use Rattle.firm_faults.specs.Settled.{IsBrokenAt, IsInstanceOfWhole, IsSettled, ShowsOwnBit, nets_named_at}
use Rattle.vrt_model.specs.Assignment.{Assignment}
use Rattle.vrt_model.specs.Comparison.{Comparison, is_observed, phase_at}
use Rattle.vrt_model.specs.Faults.{Solves, Stands}
use Rattle.vrt_model.specs.Held.{setting_of}
use Rattle.vrt_model.specs.Known.{IsKnown, IsPlain, IsRanking}
use Rattle.vrt_model.specs.Lists.{Among, At}
use Rattle.vrt_model.specs.Networks.{HasRanges}
use Rattle.vrt_model.specs.Places.{Finding, IsFirstInPhase}
use Rattle.vrt_model.specs.Reading.{Partial, bare}
use Rattle.vrt_model.specs.Response.{Fight as FightResponse, Float as FloatResponse, IsResponse}
use Rattle.vrt_model.specs.State.{IsState, Setting, State, network_of}
use Rattle.vrt_model.specs.declared.circuit.FlatInstance.{FlatInstance}
use Rattle.vrt_model.specs.declared.verdict.FaultKind.{FaultKind}
use Rattle.vrt_model.specs.declared.verdict.FaultKind.TheVariants.{Fight, FightKept, Float, Unsettled, Constraint, Differs, Next, Apart, Enter}
use Rattle.vrt_model.specs.declared.whole.Link.{Link}
use Rattle.vrt_model.specs.declared.whole.Whole.{Whole}
use Rattle.vrt_model.specs.declared.whole.WholePin.{WholePin}
use Rattle.whole_solutions.specs.Ranked.{IsRanked}

-- what stands on firm ground in a state: a settled net that fights or floats, or an instance a constraint of which is broken, where
-- each port that its constraints name is settled and shows its own bit; of the other kinds nothing is said
abbrev pub IsFirmIn : Comparison → List FlatInstance → ℕ → Setting → State → FaultKind → ℕ → Type 0
IsFirmIn k originals phase setting s Fight at = IsPlain k.circuit at × IsSettled k originals phase setting s at × IsResponse (network_of k.circuit bare setting.held s) at FightResponse
IsFirmIn k originals phase setting s Float at = (is_observed k phase at ≡ true) × IsSettled k originals phase setting s at × IsResponse (network_of k.circuit bare setting.held s) at FloatResponse
IsFirmIn k originals phase setting s Constraint at =
    (i : FlatInstance) × At k.circuit.instances at i × IsBrokenAt k phase s.reading i
    × ((n : ℕ) → Among (nets_named_at k phase i) n → IsSettled k originals phase setting s n × ShowsOwnBit k phase setting s n)
IsFirmIn k originals phase setting s FightKept at = ⊥
IsFirmIn k originals phase setting s Unsettled at = ⊥
IsFirmIn k originals phase setting s Differs at = ⊥
IsFirmIn k originals phase setting s Next at = ⊥
IsFirmIn k originals phase setting s Apart at = ⊥
IsFirmIn k originals phase setting s Enter at = ⊥

-- a fault of a kind at a place is on firm ground
pub record IsOnFirmGround (k : Comparison) (originals : List FlatInstance) (phase : ℕ) (setting : Setting) (kind : FaultKind) (at : ℕ) : Type 0 where
  pub state : State
  pub is : IsState k.circuit (phase_at k.rules phase) setting.inputs state
  pub firm : IsFirmIn k originals phase setting state kind at

-- The law: what is on firm ground stands with each solution.
abbrev pub FirmGroundStands : Type 0
FirmGroundStands =
    (k : Comparison) (originals : List FlatInstance) (phase : ℕ) (setting : Setting) (kind : FaultKind) (at : ℕ) (a : Partial) (g : Assignment)
    → HasRanges k.circuit → ArePinsPlain k.circuit → IsOnFirmGround k originals phase setting kind at → Solves k phase setting a
    → Stands k phase setting a g kind at

-- ---- the first fault

-- the kinds of faults that are found while the nets are solved, rank by rank
abbrev pub IsFoundByRank : FaultKind → Type 0
IsFoundByRank Fight = Unit {0}
IsFoundByRank Float = Unit {0}
IsFoundByRank Constraint = Unit {0}
IsFoundByRank FightKept = ⊥
IsFoundByRank Unsettled = ⊥
IsFoundByRank Differs = ⊥
IsFoundByRank Next = ⊥
IsFoundByRank Apart = ⊥
IsFoundByRank Enter = ⊥

-- each net that the constraints of a whole instance name is linked to each of its outputs, by a link that is marked so
abbrev pub AreNamedNetsLinked : Comparison → List FlatInstance → ℕ → Type 0
AreNamedNetsLinked k originals phase =
    (w : Whole) (i : FlatInstance) (n at : ℕ) (pin : WholePin) → Among k.circuit.wholes w → Among k.circuit.instances i → IsInstanceOfWhole k.circuit originals w i
    → Among (nets_named_at k phase i) n → At w.outputs at pin
    → (link : Link) × Among w.links link × (link.phase ≡ (phase_at k.rules phase).name) × (link.from.0 ≡ n) × (link.output ≡ at) × (link.named ≡ true)

-- what the order of the faults of a phase rests on: nets with ranks are as the laws of ranks ask; each solution at the setting has the bits of
-- known nets; and the nets that constraints name are observed, and linked to what is driven
pub record IsOrderedAt (k : Comparison) (originals : List FlatInstance) (phase : ℕ) (setting : Setting) (known : ℕ → Bool) : Type 0 where
  pub ranked : (rank : ℕ → ℕ) → IsRanking k.circuit (phase_at k.rules phase) rank → IsRanked k.circuit (phase_at k.rules phase) (is_observed k phase) known rank
  pub known_bits : (a : Partial) → Solves k phase setting a → (n : ℕ) (v : Bool) → is_observed k phase n ≡ true → IsKnown k.circuit (phase_at k.rules phase) n v → a n ≡ Some v
  pub linked : AreNamedNetsLinked k originals phase
  pub seen : (i : FlatInstance) (n : ℕ) → Among k.circuit.instances i → Among (nets_named_at k phase i) n → is_observed k phase n ≡ true

-- The law: the first fault of a phase is on firm ground, if it is one of those that are found while the nets are solved.
abbrev pub FirstFaultIsFirm : Type 0
FirstFaultIsFirm =
    (k : Comparison) (originals : List FlatInstance) (f : Finding) (known : ℕ → Bool)
    → IsOrderedAt k originals f.phase (setting_of k f.phase f.bits) known → IsFirstInPhase k f → IsFoundByRank f.kind
    → IsOnFirmGround k originals f.phase (setting_of k f.phase f.bits) f.kind f.at
