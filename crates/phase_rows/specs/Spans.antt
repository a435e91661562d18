-- The spans of a circuit, all in one span.
use Rattle.std.specs.Prelude.{ℕ, ◌*◌, ◌+◌, List, length}
use Rattle.bdd_core.specs.Store.{Diagrams}
use Rattle.channel_parts.specs.declared.part.Part.{Part}
use Rattle.circuit_faults.specs.KeptResults.{HasKeptSpans}
use Rattle.circuit_faults.specs.Results.{HasCircuitSpans}
use Rattle.circuit_faults.specs.declared.spans.KeptSpans.{KeptSpans}
use Rattle.path_fixpoint.specs.Strengths.{net_words}
use Rattle.vrt_model.specs.Levels.{source_level}
use Rattle.vrt_model.specs.declared.circuit.Circuit.{Circuit}

-- one behind the other: the roots, the gates, the zeros, the ones, and the words of a part
abbrev pub spans_of : Circuit → ℕ → KeptSpans
spans_of c start = record {
  roots = record { start = start; len = length c.nets };
  gates = record { start = start + length c.nets; len = length c.nets };
  zeros = record { start = start + 2 * length c.nets; len = length c.nets };
  ones = record { start = start + 3 * length c.nets; len = length c.nets };
  out = record { start = start + 4 * length c.nets; len = net_words (source_level c) * length c.nets };
}

-- as both calls ask
pub record HasSpans (c : Circuit) (parts : List Part) (spans : KeptSpans) (d : Diagrams) : Type 0 where
  pub bare : HasCircuitSpans c parts spans.roots spans.gates spans.out d
  pub kept : HasKeptSpans c parts spans d
