-- The network of a part at a valuation, and what its words say.
use Rattle.std.specs.Prelude.{◌≡◌, ℕ, ◌+◌, ◌≤◌, ◌↔◌, Bool, true, length, Option, Some, None, slice_get}
use Rattle.node_pool.specs.declared.region.Span.{Span}
use Rattle.bdd_core.specs.Diagram.{Valuation}
use Rattle.bdd_core.specs.Store.{Diagrams, IsSpan}
use Rattle.vrt_model.specs.Levels.{source_level}
use Rattle.vrt_model.specs.Path.{Network}
use Rattle.vrt_model.specs.Response.{Reaches}
use Rattle.vrt_model.specs.declared.circuit.Circuit.{Circuit}
use Rattle.vrt_model.specs.declared.circuit.Hold.{Hold}
use Rattle.channel_parts.specs.declared.part.Part.{Part}
use Rattle.path_fixpoint.specs.declared.words.NetWords.{NetWords}
use Rattle.path_fixpoint.specs.Parts.{IsPlace, part_devices, pins_of}
use Rattle.path_fixpoint.specs.Reaching.{slot_of}
use Rattle.path_fixpoint.specs.Strengths.{HasSpans, strong}
use Rattle.bdd_core.specs.Words.{IsApart, IsFilled, shows}

abbrev pub net_of : Option Hold → ℕ
net_of None = 0
net_of (Some hold) = hold.net.0

-- at v: the devices of the part, the bits of the gates and the roots as their handles say them
abbrev pub network_at : Diagrams → Circuit → Part → Span → Span → Valuation → Network
network_at d c part gates roots v = record {
  nets = c.nets;
  holds = c.holds;
  outputs = pins_of c;
  devices = part_devices c part;
  source = source_level c;
  reading = λ n. shows d gates n v;
  given = λ n. shows d roots n v;
  held = λ at. shows d roots (net_of (slice_get c.holds at)) v;
  driven = λ at. shows d roots (length c.nets + at) v;
}

-- spans of live handles of the gates, one for each net of the circuit, and of the roots, one for each net and behind these one
-- for each output pin of the whole instances, in order; and a span apart from them of the words of each net of the part
pub record HasRootSpans (c : Circuit) (part : Part) (gates roots : Span) (out : NetWords) (d : Diagrams) : Type 0 where
  pub spans : HasSpans c part gates out d
  pub roots_span : IsSpan d roots
  pub roots_len : length c.nets + length (pins_of c) ≤ roots.len
  pub roots_live : IsFilled d roots
  pub roots_apart : IsApart roots out.span

-- the words of the values say of each net of the part whether a clear path from a root of the value ends there
abbrev pub TellsReach : Part → NetWords → Diagrams → Valuation → Network → Type 0
TellsReach part out d v w = (i n : ℕ) (value : Bool) → IsPlace part i n → (strong d out (slot_of out value) i v ≡ true) ↔ Reaches w n value
