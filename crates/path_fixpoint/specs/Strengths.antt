-- What the words of a part say of the strengths of its nets.
use Rattle.std.specs.Prelude.{◌≡◌, ◌≢◌, ℕ, ◌+◌, ◌-◌, ◌*◌, ◌^◌, ◌<◌, ◌≤◌, ◌⊎◌, ◌↔◌, Bool, true, false, length, Option, Some, None}
use Rattle.node_pool.specs.declared.region.Span.{Span}
use Rattle.bdd_core.specs.Diagram.{Valuation, meaning}
use Rattle.bdd_core.specs.Store.{Diagrams, IsSpan}
use Rattle.vrt_model.proofs.Strength.{AtLeast}
use Rattle.vrt_model.specs.Levels.{source_level}
use Rattle.vrt_model.specs.Path.{IsOn, IsRoot, Joins, Network, Root}
use Rattle.vrt_model.specs.Reading.{conducts_at}
use Rattle.vrt_model.specs.Response.{IsStrength}
use Rattle.vrt_model.specs.declared.circuit.Circuit.{Circuit}
use Rattle.vrt_model.specs.declared.circuit.Device.{Device}
use Rattle.vrt_model.specs.declared.design.Kind.{Kind}
use Rattle.channel_parts.specs.declared.part.Part.{Part}
use Rattle.path_fixpoint.specs.declared.side.Side.{Side}
use Rattle.path_fixpoint.specs.declared.words.NetWords.{NetWords}
use Rattle.path_fixpoint.specs.Parts.{IsOnSide, IsPlace, part_devices, pins_of}
use Rattle.bdd_core.specs.Words.{IsApart, IsFilled, shows, word_at}

-- how many words each net of a part has, by the source level: whether its strength is at least each level from 1 to that one, and
-- whether 0 and 1 reach it
abbrev pub net_words : ℕ → ℕ
net_words source = source + 2

-- a span, as the words of the nets of a part of a circuit
abbrev pub circuit_words : Circuit → Span → NetWords
circuit_words c span = record { span = span; source = source_level c }

abbrev pub word_of : NetWords → ℕ → ℕ → ℕ
word_of out level i = net_words out.source * i + (level - 1)

-- the strength of the net at place i is at least the level
abbrev pub strong : Diagrams → NetWords → ℕ → ℕ → Valuation → Bool
strong d out level i v = shows d out.span (word_of out level i) v

-- the same of the net at one end of a channel: outside the part it has a given value, so the greatest strength
abbrev pub strong_end : Diagrams → NetWords → ℕ → Option ℕ → Valuation → Bool
strong_end d out level (Some i) v = strong d out level i v
strong_end d out level None v = true

-- a span of live handles, so many for each net of the part
abbrev pub HasMarks : Part → NetWords → Diagrams → Type 0
HasMarks part out d = IsSpan d out.span × IsFilled d out.span × (out.span.len ≡ net_words out.source * length part.nets) × (out.span.len < 2 ^ 32)

-- a span of live handles of the gates, one for each net of the circuit, and a span of the words of each net of the part
pub record HasSpans (c : Circuit) (part : Part) (gates : Span) (out : NetWords) (d : Diagrams) : Type 0 where
  pub gates_span : IsSpan d gates
  pub gates_len : gates.len ≡ length c.nets
  pub gates_live : IsFilled d gates
  pub source : out.source ≡ source_level c
  pub out_span : IsSpan d out.span
  pub out_len : out.span.len ≡ net_words out.source * length part.nets
  pub apart : IsApart gates out.span

-- the same spans, where the words of the part are live handles too
pub record HasWords (c : Circuit) (part : Part) (gates : Span) (out : NetWords) (d : Diagrams) : Type 0 where
  pub gates_span : IsSpan d gates
  pub gates_len : gates.len ≡ length c.nets
  pub gates_live : IsFilled d gates
  pub source : out.source ≡ source_level c
  pub out_span : IsSpan d out.span
  pub out_len : out.span.len ≡ net_words out.source * length part.nets
  pub out_live : IsFilled d out.span
  pub apart : IsApart gates out.span

-- w has the devices of the part, the nets of the circuit, and at the gates the values that their handles have at v
pub record StandsAt (c : Circuit) (part : Part) (gates : Span) (d : Diagrams) (v : Valuation) (w : Network) : Type 0 where
  pub nets : w.nets ≡ c.nets
  pub holds : w.holds ≡ c.holds
  pub outputs : w.outputs ≡ pins_of c
  pub source : w.source ≡ source_level c
  pub devices : w.devices ≡ part_devices c part
  pub reading : (n : ℕ) → n < length c.nets → shows d gates n v ≡ w.reading n

-- only words of one level change
abbrev pub ChangesLevel : NetWords → ℕ → Diagrams → Diagrams → Type 0
ChangesLevel out level old new = (k : ℕ) → ((i : ℕ) → k ≢ word_of out level i) → word_at new out.span k ≡ word_at old out.span k

-- no mark goes
abbrev pub StrongGrows : NetWords → ℕ → Diagrams → Diagrams → Type 0
StrongGrows out level old new = (i : ℕ) → word_of out level i < out.span.len → (v : Valuation) → strong old out level i v ≡ true → strong new out level i v ≡ true

-- the net n is marked, where it is in the part
abbrev pub IsStrong : Part → NetWords → ℕ → Diagrams → Valuation → ℕ → Type 0
IsStrong part out level d v n = (i : ℕ) → IsPlace part i n → strong d out level i v ≡ true

-- at each marked net a path of at least this level ends
abbrev pub HasPaths : Part → NetWords → ℕ → Diagrams → Valuation → Network → Type 0
HasPaths part out level d v w = (i n : ℕ) → IsPlace part i n → strong d out level i v ≡ true → AtLeast w level n

-- the nets of the roots of at least this level are marked
abbrev pub HasRoots : Part → NetWords → ℕ → Diagrams → Valuation → Network → Type 0
HasRoots part out level d v w = (root : Root) → IsRoot w root → level ≤ root.level → IsStrong part out level d v root.net

-- what a device passes on from the marks in `old` of nets on one side, in the part or outside it, is marked in `new`
abbrev pub HasPassed : Part → NetWords → ℕ → Side → Device → Diagrams → Diagrams → Valuation → Network → Type 0
HasPassed part out level side d old new v w =
    IsOn w d → level ≤ d.level → (m n : ℕ) → Joins d m n → IsOnSide part side m → IsStrong part out level old v m → IsStrong part out level new v n

-- the marks are at exactly the nets at which a path of at least this level ends
abbrev pub HasLevel : Part → NetWords → ℕ → Diagrams → Valuation → Network → Type 0
HasLevel part out level d v w = (i n : ℕ) → IsPlace part i n → (strong d out level i v ≡ true) ↔ AtLeast w level n

-- what a device with such a gate passes on of a mark, to one end of its channel
pub record Passes (out : NetWords) (level : ℕ) (kind : Kind) (gate signal : ℕ) (to : Option ℕ) (changed : Bool) (old new : Diagrams) : Type 0 where
  pub grown : StrongGrows out level old new
  pub passed : (i : ℕ) → to ≡ Some i → (v : Valuation) → conducts_at kind (meaning old.nodes gate v) ≡ true → meaning old.nodes signal v ≡ true → strong new out level i v ≡ true
  pub only : (i : ℕ) → word_of out level i < out.span.len → (v : Valuation) → strong new out level i v ≡ true
      → (strong old out level i v ≡ true) ⊎ ((to ≡ Some i) × (conducts_at kind (meaning old.nodes gate v) ≡ true) × (meaning old.nodes signal v ≡ true))
  pub same : changed ≡ false → new.words ≡ old.words

-- what a step over devices does to the marks of a level, from nets on one side, whatever the valuation
pub record Spreads (c : Circuit) (part : Part) (gates : Span) (out : NetWords) (level : ℕ) (side : Side) (IsPassed : Device → Type 0) (changed : Bool) (old new : Diagrams) : Type 0 where
  pub grown : StrongGrows out level old new
  pub passed : (d : Device) → IsPassed d → (v : Valuation) (w : Network) → StandsAt c part gates old v w → HasPassed part out level side d old new v w
  pub paths : (v : Valuation) (w : Network) → StandsAt c part gates old v w → HasPaths part out level old v w → HasPaths part out level new v w
  pub same : changed ≡ false → new.words ≡ old.words

-- the words of the levels from 1 to the source level say of each net of the part whether its strength is at least that level
abbrev pub TellsStrengths : Circuit → Part → NetWords → Diagrams → Valuation → Network → Type 0
TellsStrengths c part out d v w = (i n level s : ℕ) → IsPlace part i n → 1 ≤ level → level ≤ source_level c → IsStrength w n s → (strong d out level i v ≡ true) ↔ (level ≤ s)
