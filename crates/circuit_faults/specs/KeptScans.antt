-- What is found at the nets of the kept circuit, from the words that say which values reach them.
use Rattle.std.specs.Prelude.{◌≡◌, ◌≢◌, ℕ, ◌<◌, ◌↔◌, ◌==◌, Bool, true, false, cond, List, length, Option, Some, None, Result, IfOk, slice_index}
use Rattle.node_pool.specs.declared.region.Span.{Span}
use Rattle.bdd_core.specs.Diagram.{Function, IsWithin, Valuation, meaning}
use Rattle.bdd_core.specs.Store.{Diagrams, Means, function_of}
use Rattle.bdd_core.specs.Words.{IsBeside, shows, word_at}
use Rattle.bdd_core.specs.declared.handle.H.{H}
use Rattle.bdd_core.specs.declared.handle.Spent.{Spent}
use Rattle.bdd_ops.specs.Counting.{Counts}
use Rattle.channel_parts.specs.declared.part.Part.{Part}
use Rattle.circuit_faults.specs.Scans.{IsInside, free_part}
use Rattle.circuit_faults.specs.declared.spans.KeptSpans.{KeptSpans}
use Rattle.circuit_faults.specs.declared.kept_net.KeptFault.{KeptFault}
use Rattle.hold_keep.specs.Kept.{fight_of, unsettled_of}
use Rattle.path_fixpoint.specs.Parts.{IsPlace}
use Rattle.path_fixpoint.specs.Reaching.{slot_of}
use Rattle.path_fixpoint.specs.Solved.{network_at}
use Rattle.path_fixpoint.specs.Strengths.{word_of}
use Rattle.vrt_model.specs.Known.{IsPlain}
use Rattle.vrt_model.specs.Lists.{At}
use Rattle.vrt_model.specs.Response.{Reaches}
use Rattle.vrt_model.specs.declared.circuit.Circuit.{Circuit}
use Rattle.vrt_model.specs.declared.ids.Net.{Net}
use Rattle.whole_steps.specs.Tables.{free_at}
use Rattle.whole_steps.specs.declared.table.OutputPlace.{OutputPlace}
use Rattle.vrt_model.specs.declared.verdict.FaultKind.{FaultKind}
use Rattle.vrt_model.specs.declared.verdict.FaultKind.TheVariants.{Fight, FightKept, Float, Unsettled, Constraint, Differs, Next, Apart, Enter}
use Rattle.path_fixpoint.specs.declared.words.NetWords.{NetWords}

-- the span whose handles say where a value reaches the nets
abbrev pub reach_span : KeptSpans → Bool → Span
reach_span spans value = cond value spans.ones spans.zeros

-- ---- the words of a part, copied to the places of its nets

-- Words of one span alone were written: at each net of the places before one, the word of the part that says where the
-- value reaches it; the words of other nets stay.
pub record IsCopiedTo (part : Part) (value : Bool) (out : NetWords) (to : Span) (upto : ℕ) (old new : Diagrams) : Type 0 where
  pub rest : new ≡ record old { words = new.words }
  pub len : length new.words ≡ length old.words
  pub beside : (j : ℕ) → IsBeside to j → slice_index new.words j ≡ slice_index old.words j
  pub copied : (i n : ℕ) → i < upto → IsPlace part i n → word_at new to n ≡ word_at old out.span (word_of out (slot_of out value) i)
  pub others : (n : ℕ) → ((i : ℕ) → i < upto → IsPlace part i n → ⊥) → word_at new to n ≡ word_at old to n

-- ---- a part, by its network at each valuation

-- at the net the words are live handles, which say where the values reach it in the network of the part
pub record IsReached (c : Circuit) (part : Part) (spans : KeptSpans) (n : ℕ) (old new : Diagrams) : Type 0 where
  pub live : (value : Bool) → word_at new (reach_span spans value) n < length new.nodes
  pub reaches : (value : Bool) (v : Valuation) → (shows new (reach_span spans value) n v ≡ true) ↔ Reaches (network_at old c part spans.gates spans.roots v) n value

-- so at each net of the part; the words of other nets stay
pub record IsPartReached (c : Circuit) (part : Part) (spans : KeptSpans) (old new : Diagrams) : Type 0 where
  pub nets : (n : ℕ) → IsInside part n → IsReached c part spans n old new
  pub others : (n : ℕ) (value : Bool) → n < length c.nets → (¬ IsInside part n) → word_at new (reach_span spans value) n ≡ word_at old (reach_span spans value) n

-- the net is in a part before a place in the list, which is solved: no output at its first net is marked as free
abbrev pub IsInSolved : List (Option OutputPlace) → List Part → ℕ → ℕ → Type 0
IsInSolved drivers parts k n = (j : ℕ) × (part : Part) × (j < k) × At parts j part × IsInside part n × (free_part drivers part ≡ None)

-- the net is in a part before a place in the list, and its words say where the values reach it there
abbrev pub IsReachedIn : Circuit → List Part → KeptSpans → ℕ → Diagrams → Diagrams → ℕ → Type 0
IsReachedIn c parts spans k old new n =
    (j : ℕ) × (part : Part) × (j < k) × At parts j part × IsInside part n × IsReached c part spans n old new

-- the handles at these nets read only the first u variables
abbrev pub ReadWithin : ℕ → KeptSpans → (ℕ → Type 0) → Diagrams → Type 0
ReadWithin u spans Inside d = (n : ℕ) (value : Bool) → Inside n → IsWithin u (meaning d.nodes (word_at d (reach_span spans value) n))

-- at most so many operations; if they were not refused, the handles at these nets read only the first u variables
pub record SpendsReach {A : Type 0} (u operations : ℕ) (spans : KeptSpans) (Inside : ℕ → Type 0) (old new : Diagrams) (result : Result A Spent) : Type 0 where
  pub counts : Counts u operations old new result
  pub within : IfOk result (λ _. ReadWithin u spans Inside new)

-- ---- one net

-- a fight nowhere, and where the net is seen, the wanted bit everywhere
pub record IsSettledNet (care wanted zero one : Function) (seen : Bool) : Type 0 where
  pub fight : (v : Valuation) → fight_of care zero one v ≡ false
  pub keeps : seen ≡ true → (v : Valuation) → unsettled_of care wanted zero one v ≡ false

-- The first handle says where a fault of this kind stands, which is somewhere; the second, where 1 reaches the net. A bit
-- is lost only where no fight stands anywhere.
abbrev pub IsKeptFaulty : Function → Function → Function → Function → Bool → FaultKind → H → H → Diagrams → Type 0
IsKeptFaulty care wanted zero one seen FightKept at value d = Means d at (fight_of care zero one) × (at.0 ≢ 0) × Means d value one
IsKeptFaulty care wanted zero one seen Unsettled at value d =
    (seen ≡ true) × ((v : Valuation) → fight_of care zero one v ≡ false) × Means d at (unsettled_of care wanted zero one) × (at.0 ≢ 0) × Means d value one
IsKeptFaulty care wanted zero one seen Fight at value d = ⊥
IsKeptFaulty care wanted zero one seen Float at value d = ⊥
IsKeptFaulty care wanted zero one seen Constraint at value d = ⊥
IsKeptFaulty care wanted zero one seen Differs at value d = ⊥
IsKeptFaulty care wanted zero one seen Next at value d = ⊥
IsKeptFaulty care wanted zero one seen Apart at value d = ⊥
IsKeptFaulty care wanted zero one seen Enter at value d = ⊥

-- by the handles that say where its faults stand: a fight before a lost bit
abbrev pub first_kept : Net → H → H → H → Option KeptFault
first_kept net fight unsettled value =
    cond (fight.0 == 0)
    (cond (unsettled.0 == 0) None (Some (record { kind = Unsettled; net = net; at = unsettled; value = value })))
    (Some (record { kind = FightKept; net = net; at = fight; value = value }))

-- the first fault of a net
abbrev pub KeptNetGives : Function → Function → Function → Function → Bool → Net → Diagrams → Option KeptFault → Type 0
KeptNetGives care wanted zero one seen net d None = IsSettledNet care wanted zero one seen
KeptNetGives care wanted zero one seen net d (Some fault) = (fault.net ≡ net) × IsKeptFaulty care wanted zero one seen fault.kind fault.at fault.value d

-- ---- the nets of a circuit

-- the wanted bit of a net, and where a value reaches it
abbrev pub wanted_at : Diagrams → KeptSpans → ℕ → Function
wanted_at d spans n = λ v. shows d spans.gates n v

abbrev pub reach_at : Diagrams → KeptSpans → Bool → ℕ → Function
reach_at d spans value n = λ v. shows d (reach_span spans value) n v

-- a net is settled, where its words say its bit and the values that reach it
abbrev pub IsSettledAt : (ℕ → Bool) → H → KeptSpans → Diagrams → ℕ → Type 0
IsSettledAt observed care spans d n = IsSettledNet (function_of d care) (wanted_at d spans n) (reach_at d spans false n) (reach_at d spans true n) (observed n)

-- a plain net at which no output of a whole instance is marked as free
abbrev pub IsLoose : Circuit → List (Option OutputPlace) → ℕ → Type 0
IsLoose c drivers n = IsPlain c n × (free_at drivers n ≡ None)

-- the first fault of a net, which has one only where it is one of these
abbrev pub PlainNetGives : (ℕ → Type 0) → H → KeptSpans → Bool → Net → Diagrams → Diagrams → Option KeptFault → Type 0
PlainNetGives Loose care spans seen net old new None =
    Loose net.0 → IsSettledNet (function_of old care) (wanted_at old spans net.0) (reach_at old spans false net.0) (reach_at old spans true net.0) seen
PlainNetGives Loose care spans seen net old new (Some fault) =
    Loose net.0 × (fault.net ≡ net)
    × IsKeptFaulty (function_of old care) (wanted_at old spans net.0) (reach_at old spans false net.0) (reach_at old spans true net.0) seen fault.kind fault.at fault.value new

-- a net of these is faulty, and each before it is settled
pub record IsFaultyAt (Loose : ℕ → Type 0) (observed : ℕ → Bool) (care : H) (spans : KeptSpans) (fault : KeptFault) (old new : Diagrams) : Type 0 where
  pub loose : Loose fault.net.0
  pub before : (n : ℕ) → n < fault.net.0 → Loose n → IsSettledAt observed care spans old n
  pub is :
      IsKeptFaulty (function_of old care) (wanted_at old spans fault.net.0) (reach_at old spans false fault.net.0) (reach_at old spans true fault.net.0)
      (observed fault.net.0) fault.kind fault.at fault.value new

-- the first fault of all these nets
abbrev pub KeptScanGives : (ℕ → Type 0) → (ℕ → Bool) → H → KeptSpans → Diagrams → Diagrams → Option KeptFault → Type 0
KeptScanGives Loose observed care spans old new None = (n : ℕ) → Loose n → IsSettledAt observed care spans old n
KeptScanGives Loose observed care spans old new (Some fault) = IsFaultyAt Loose observed care spans fault old new
