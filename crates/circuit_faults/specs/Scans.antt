-- What is found at the nets of one part, from the words that say which values reach them.
use Rattle.std.specs.Prelude.{◌≡◌, ◌≢◌, ℕ, ◌<◌, ◌⊎◌, ◌↔◌, ◌&&◌, ◌||◌, Bool, true, false, cond, List, length, option_and_then, slice_get, Option, Some, None}
use Rattle.node_pool.specs.declared.region.Span.{Span}
use Rattle.bdd_core.specs.Diagram.{Function, Valuation}
use Rattle.bdd_core.specs.Store.{Diagrams, IsLive, Means, function_of}
use Rattle.bdd_core.specs.Words.{shows, word_at}
use Rattle.bdd_core.specs.declared.handle.H.{H}
use Rattle.channel_parts.specs.declared.part.Part.{Part}
use Rattle.path_fixpoint.specs.Parts.{IsPlace}
use Rattle.path_fixpoint.specs.Reaching.{slot_of}
use Rattle.path_fixpoint.specs.Solved.{network_at}
use Rattle.path_fixpoint.specs.Strengths.{strong}
use Rattle.circuit_faults.specs.Faults.{ShowsFault}
use Rattle.circuit_faults.specs.declared.net.CircuitFault.{CircuitFault}
use Rattle.vrt_model.specs.Lists.{At}
use Rattle.vrt_model.specs.Response.{Reaches}
use Rattle.vrt_model.specs.declared.circuit.Circuit.{Circuit}
use Rattle.vrt_model.specs.declared.ids.Net.{Net}
use Rattle.whole_steps.specs.Tables.{free_at}
use Rattle.whole_steps.specs.declared.table.OutputPlace.{OutputPlace}
use Rattle.vrt_model.specs.declared.verdict.FaultKind.{FaultKind}
use Rattle.vrt_model.specs.declared.verdict.FaultKind.TheVariants.{Fight, FightKept, Float, Unsettled, Constraint, Differs, Next, Apart, Enter}
use Rattle.path_fixpoint.specs.declared.words.NetWords.{NetWords}

-- the net is one of the part
abbrev pub IsInside : Part → ℕ → Type 0
IsInside part n = (i : ℕ) × IsPlace part i n

-- the net is in a part before a place in the list
abbrev pub IsInEarlier : List Part → ℕ → ℕ → Type 0
IsInEarlier parts k n = (j : ℕ) × (part : Part) × (j < k) × At parts j part × IsInside part n

-- the output at the first net of a part that is marked as free, if one is
abbrev pub free_part : List (Option OutputPlace) → Part → Option OutputPlace
free_part drivers part = option_and_then (λ (net : Net). free_at drivers net.0) (slice_get part.nets 0)

-- ---- one net

-- where there is care and both values reach the net
abbrev pub fight_of : Function → Function → Function → Function
fight_of care zero one = λ v. care v && (zero v && one v)

-- where there is care and neither does
abbrev pub float_of : Function → Function → Function → Function
float_of care zero one = λ v. cond (zero v || one v) false (care v)

-- a fight nowhere, and where the net is seen, a float nowhere
pub record IsClearNet (care zero one : Function) (seen : Bool) : Type 0 where
  pub fight : (v : Valuation) → fight_of care zero one v ≡ false
  pub float : seen ≡ true → (v : Valuation) → float_of care zero one v ≡ false

-- the handle says where a fault of this kind stands, which is somewhere; a float only where no fight stands anywhere
abbrev pub IsFaultyNet : Function → Function → Function → Bool → FaultKind → H → Diagrams → Type 0
IsFaultyNet care zero one seen Fight h d = Means d h (fight_of care zero one) × (h.0 ≢ 0)
IsFaultyNet care zero one seen Float h d = (seen ≡ true) × ((v : Valuation) → fight_of care zero one v ≡ false) × Means d h (float_of care zero one) × (h.0 ≢ 0)
IsFaultyNet care zero one seen FightKept h d = ⊥
IsFaultyNet care zero one seen Unsettled h d = ⊥
IsFaultyNet care zero one seen Constraint h d = ⊥
IsFaultyNet care zero one seen Differs h d = ⊥
IsFaultyNet care zero one seen Next h d = ⊥
IsFaultyNet care zero one seen Apart h d = ⊥
IsFaultyNet care zero one seen Enter h d = ⊥

-- the first fault of a net
abbrev pub NetGives : Function → Function → Function → Bool → Net → Diagrams → Option CircuitFault → Type 0
NetGives care zero one seen net d None = IsClearNet care zero one seen
NetGives care zero one seen net d (Some fault) = (fault.place ≡ net.0) × IsFaultyNet care zero one seen fault.kind fault.at d

-- ---- the nets of a part

-- where the value reaches the net at a place
abbrev pub reached : Diagrams → NetWords → Bool → ℕ → Function
reached d out value i = λ v. strong d out (slot_of out value) i v

-- where the values reach the nets of a part, by place
abbrev pub Reach : Type 0
Reach = Bool → ℕ → Function

abbrev pub IsClearPlace : (ℕ → Bool) → H → Reach → Diagrams → ℕ → ℕ → Type 0
IsClearPlace observed care reach d i n = IsClearNet (function_of d care) (reach false i) (reach true i) (observed n)

-- no net before a place has a fault, and the handles of the observed ones among these nets say where 1 reaches them; those of nets beside
-- stay
pub record IsScannedTo (part : Part) (observed : ℕ → Bool) (care : H) (gates : Span) (reach : Reach) (upto : ℕ) (old new : Diagrams) : Type 0 where
  pub clear : (i n : ℕ) → i < upto → IsPlace part i n → IsClearPlace observed care reach old i n
  pub bits : (i n : ℕ) → i < upto → IsPlace part i n → observed n ≡ true → (v : Valuation) → shows new gates n v ≡ reach true i v
  pub others : (k : ℕ) → ((i : ℕ) → i < upto → IsPlace part i k → ⊥) → word_at new gates k ≡ word_at old gates k

-- the first fault of the part
pub record IsFoundIn (part : Part) (observed : ℕ → Bool) (care : H) (reach : Reach) (fault : CircuitFault) (old new : Diagrams) : Type 0 where
  pub place : ℕ
  pub stands : IsPlace part place fault.place
  pub before : (i n : ℕ) → i < place → IsPlace part i n → IsClearPlace observed care reach old i n
  pub is : IsFaultyNet (function_of old care) (reach false place) (reach true place) (observed fault.place) fault.kind fault.at new

abbrev pub ScanGives : Part → (ℕ → Bool) → H → Span → Reach → Diagrams → Diagrams → Option CircuitFault → Type 0
ScanGives part observed care gates reach old new None = IsScannedTo part observed care gates reach (length part.nets) old new
ScanGives part observed care gates reach old new (Some fault) = IsFoundIn part observed care reach fault old new

-- ---- a part, by its network at each valuation

-- at each valuation these functions say which values reach the nets
abbrev pub TellsWhere : Circuit → Part → Span → Span → Reach → Diagrams → Type 0
TellsWhere c part roots gates reach d =
    (v : Valuation) (i n : ℕ) (value : Bool) → IsPlace part i n → (reach value i v ≡ true) ↔ Reaches (network_at d c part gates roots v) n value

-- no net of the part has a fault in the care set; the handles of the observed ones say where 1 reaches them; those of other nets stay
pub record IsPartClear (c : Circuit) (part : Part) (observed : ℕ → Bool) (care : H) (roots gates : Span) (old new : Diagrams) : Type 0 where
  pub clear :
      (n : ℕ) (kind : FaultKind) (v : Valuation) → IsInside part n → function_of old care v ≡ true
      → ¬ ShowsFault observed (network_at old c part gates roots v) kind n
  pub bits : (n : ℕ) (v : Valuation) → IsInside part n → observed n ≡ true → (shows new gates n v ≡ true) ↔ Reaches (network_at old c part gates roots v) n true
  pub others : (k : ℕ) → k < gates.len → (¬ IsInside part k) → word_at new gates k ≡ word_at old gates k

-- The first fault of the part. The handle is live, not that of the constant 0, and says where in the care set the fault
-- stands; before it, none does.
pub record IsPartFault (c : Circuit) (part : Part) (observed : ℕ → Bool) (care : H) (roots gates : Span) (fault : CircuitFault) (old new : Diagrams) : Type 0 where
  pub place : ℕ
  pub stands : IsPlace part place fault.place
  pub kinds : (fault.kind ≡ Fight) ⊎ (fault.kind ≡ Float)
  pub live : IsLive new fault.at
  pub some : fault.at.0 ≢ 0
  pub exact :
      (v : Valuation)
      → (function_of new fault.at v ≡ true) ↔ ((function_of old care v ≡ true) × ShowsFault observed (network_at old c part gates roots v) fault.kind fault.place)
  pub before :
      (i n : ℕ) (kind : FaultKind) (v : Valuation) → IsPlace part i n → (i < place) ⊎ ((i ≡ place) × (kind ≡ Fight) × (fault.kind ≡ Float))
      → function_of old care v ≡ true → ¬ ShowsFault observed (network_at old c part gates roots v) kind n

abbrev pub PartGives : Circuit → Part → (ℕ → Bool) → H → Span → Span → Diagrams → Diagrams → Option CircuitFault → Type 0
PartGives c part observed care roots gates old new None = IsPartClear c part observed care roots gates old new
PartGives c part observed care roots gates old new (Some fault) = IsPartFault c part observed care roots gates fault old new
