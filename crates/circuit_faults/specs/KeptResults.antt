-- What is found in the kept circuit, and what is asked of the spans.
use Rattle.std.specs.Prelude.{◌≡◌, ◌≢◌, ℕ, ◌*◌, ◌≤◌, ◌⊎◌, Bool, true, List, length, Option, Some, None, slice_index, ◌+◌}
use Rattle.node_pool.specs.declared.region.Span.{Span}
use Rattle.bdd_core.specs.Store.{Adds, Diagrams, IsLive, IsSpan, function_of}
use Rattle.bdd_core.specs.Words.{IsApart, IsBeside, IsFilled}
use Rattle.bdd_core.specs.declared.handle.H.{H}
use Rattle.channel_parts.specs.declared.part.Part.{Part}
use Rattle.circuit_faults.specs.Faults.{SolvedCase}
use Rattle.circuit_faults.specs.KeptFaults.{StandsKept, kept_spots}
use Rattle.circuit_faults.specs.Results.{root_at}
use Rattle.circuit_faults.specs.declared.spans.KeptSpans.{KeptSpans}
use Rattle.circuit_faults.specs.declared.kept_net.KeptFault.{KeptFault}
use Rattle.fault_places.specs.Searches.{IsClearOf, IsFoundIn}
use Rattle.path_fixpoint.specs.Parts.{pins_of}
use Rattle.path_fixpoint.specs.Strengths.{net_words}
use Rattle.vrt_model.specs.Lists.{Among}
use Rattle.vrt_model.specs.Reading.{kept}
use Rattle.vrt_model.specs.Response.{Shows}
use Rattle.vrt_model.specs.Solution.{AlwaysResponds}
use Rattle.vrt_model.specs.declared.circuit.Circuit.{Circuit}
use Rattle.vrt_model.specs.declared.rules.Phase.{Phase}
use Rattle.vrt_model.specs.declared.verdict.FaultKind.TheVariants.{FightKept, Unsettled}
use Rattle.vrt_model.specs.Levels.{source_level}

-- Live handles of the roots and of the bits of the bare circuit, one for each net and of the roots one for each output pin of the
-- whole instances; two words for each net, of where 0 and
-- of where 1 reaches it; and the words of the nets of the greatest kept part. What is written is apart from all else.
pub record HasKeptSpans (c : Circuit) (parts : List Part) (spans : KeptSpans) (d : Diagrams) : Type 0 where
  pub roots_span : IsSpan d spans.roots
  pub roots_len : length c.nets + length (pins_of c) ≤ spans.roots.len
  pub roots_live : IsFilled d spans.roots
  pub gates_span : IsSpan d spans.gates
  pub gates_len : spans.gates.len ≡ length c.nets
  pub gates_live : IsFilled d spans.gates
  pub zeros_span : IsSpan d spans.zeros
  pub zeros_len : spans.zeros.len ≡ length c.nets
  pub ones_span : IsSpan d spans.ones
  pub ones_len : spans.ones.len ≡ length c.nets
  pub out_span : IsSpan d spans.out
  pub room : (part : Part) → Among parts part → net_words (source_level c) * length part.nets ≤ spans.out.len
  pub roots_zeros : IsApart spans.roots spans.zeros
  pub roots_ones : IsApart spans.roots spans.ones
  pub roots_out : IsApart spans.roots spans.out
  pub gates_zeros : IsApart spans.gates spans.zeros
  pub gates_ones : IsApart spans.gates spans.ones
  pub gates_out : IsApart spans.gates spans.out
  pub zeros_ones : IsApart spans.zeros spans.ones
  pub zeros_out : IsApart spans.zeros spans.out
  pub ones_out : IsApart spans.ones spans.out

-- nodes were only added, and words of the zeros, of the ones and of the parts alone changed
pub record WritesKept (spans : KeptSpans) (old new : Diagrams) : Type 0 where
  pub adds : Adds old new new.words
  pub len : length new.words ≡ length old.words
  pub others : (j : ℕ) → IsBeside spans.zeros j → IsBeside spans.ones j → IsBeside spans.out j → slice_index new.words j ≡ slice_index old.words j

-- The first fault that stands anywhere in the care set, by net, and at a net a fight before a lost bit. The handle is
-- live, not that of the constant 0, and says where in the care set the fault stands. Where a bit is lost, the kept circuit
-- shows the bit of the second handle.
pub record IsFirstKept (c : Circuit) (phase : Phase) (observed : ℕ → Bool) (care : H) (roots : Span) (fault : KeptFault) (old new : Diagrams) : Type 0 where
  pub kinds : (fault.kind ≡ FightKept) ⊎ (fault.kind ≡ Unsettled)
  pub live : IsLive new fault.at × IsLive new fault.value
  pub some : fault.at.0 ≢ 0
  pub found :
      IsFoundIn (StandsKept c phase observed (root_at old roots))
      (λ (v : SolvedCase c phase observed (root_at old roots)). function_of old care v.valuation)
      (λ (v : SolvedCase c phase observed (root_at old roots)). function_of new fault.at v.valuation)
      (kept_spots c) (record { kind = fault.kind; at = fault.net.0 })
  pub keeps :
      fault.kind ≡ Unsettled → (v : SolvedCase c phase observed (root_at old roots)) → function_of new fault.at v.valuation ≡ true
      → AlwaysResponds c phase observed v.setting v.solution kept fault.net.0 (Shows (function_of new fault.value v.valuation))

-- no fault of the kept circuit in the care set, or the first
abbrev pub KeptGives : Circuit → Phase → (ℕ → Bool) → H → Span → Diagrams → Diagrams → Option KeptFault → Type 0
KeptGives c phase observed care roots old new None =
    IsClearOf (StandsKept c phase observed (root_at old roots))
    (λ (v : SolvedCase c phase observed (root_at old roots)). function_of old care v.valuation)
    (kept_spots c)
KeptGives c phase observed care roots old new (Some fault) = IsFirstKept c phase observed care roots fault old new
