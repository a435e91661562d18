-- What the words of a part say of the values that reach its nets.
use Rattle.std.specs.Prelude.{◌≡◌, ℕ, ◌+◌, ◌<◌, ◌≤◌, ◌⊎◌, ◌↔◌, ◌-◌, ◌&&◌, Bool, true, false, not, cond, length, Option, Some, None}
use Rattle.node_pool.specs.declared.region.Span.{Span}
use Rattle.bdd_core.specs.Diagram.{Function, Valuation, meaning}
use Rattle.bdd_core.specs.Store.{Diagrams, IsSpan}
use Rattle.vrt_model.proofs.Clear.{HopFits, RootFits}
use Rattle.vrt_model.proofs.PathKinds.{Arrives}
use Rattle.vrt_model.specs.Lists.{At, differ}
use Rattle.vrt_model.specs.Levels.{source_level}
use Rattle.vrt_model.specs.Path.{IsOn, IsRoot, Joins, Network, Root}
use Rattle.vrt_model.specs.Reading.{conducts_at}
use Rattle.vrt_model.specs.Response.{IsStrength, Reaches}
use Rattle.vrt_model.specs.declared.circuit.Circuit.{Circuit}
use Rattle.vrt_model.specs.declared.circuit.Device.{Device}
use Rattle.vrt_model.specs.declared.circuit.Hold.{Hold}
use Rattle.vrt_model.specs.declared.design.Kind.{Kind}
use Rattle.vrt_model.specs.declared.whole.WholePin.{WholePin}
use Rattle.channel_parts.specs.declared.part.Part.{Part}
use Rattle.path_fixpoint.specs.declared.side.Side.{Side}
use Rattle.path_fixpoint.specs.declared.words.NetWords.{NetWords}
use Rattle.path_fixpoint.specs.Parts.{AreSoftInside, IsGiven, IsOnSide, IsPlace, is_on_side, pins_of}
use Rattle.path_fixpoint.specs.Strengths.{HasLevel, HasWords, StandsAt, StrongGrows, net_words, strong, strong_end, word_of}
use Rattle.bdd_core.specs.Words.{IsApart, IsFilled, shows}

-- behind the words of the levels stand those of the values 0 and 1
abbrev pub slot_of : NetWords → Bool → ℕ
slot_of out value = cond value (net_words out.source) (net_words out.source - 1)

-- whether a root's bit is the value
abbrev pub bit_is : Bool → Function → Function
bit_is value f = λ v. differ (not value) (f v)

-- whether a value reaches the end of a channel: outside the part that is whether its root has the value
abbrev pub reached_end : Diagrams → Span → NetWords → Bool → Option ℕ → ℕ → Valuation → Bool
reached_end d roots out value (Some i) n v = strong d out (slot_of out value) i v
reached_end d roots out value None n v = differ (not value) (shows d roots n v)

-- the same where the end is on a side, in the part or outside it; on the other side nothing
abbrev pub offered_end : Diagrams → Span → NetWords → Bool → Side → Option ℕ → ℕ → Valuation → Bool
offered_end d roots out value side place n v = is_on_side side place && reached_end d roots out value place n v

-- the spans of the handles of the gates and the roots, one for each net and of the roots one for each output pin, and of the
-- words of a part
pub record HasRootWords (c : Circuit) (part : Part) (gates roots : Span) (out : NetWords) (d : Diagrams) : Type 0 where
  pub words : HasWords c part gates out d
  pub roots_span : IsSpan d roots
  pub roots_len : length c.nets + length (pins_of c) ≤ roots.len
  pub roots_live : IsFilled d roots
  pub roots_apart : IsApart roots out.span

-- at v, w is the network of the part, s its strengths, and the words of the levels say them
pub record SolvedAt (c : Circuit) (part : Part) (gates roots : Span) (out : NetWords) (d : Diagrams) (v : Valuation) (w : Network) (s : ℕ → ℕ) : Type 0 where
  pub stands : StandsAt c part gates d v w
  pub source : out.source ≡ source_level c
  pub given : (n : ℕ) → n < length c.nets → shows d roots n v ≡ w.given n
  pub held : (at : ℕ) (hold : Hold) → At c.holds at hold → shows d roots hold.net.0 v ≡ w.held at
  pub driven : (at : ℕ) (pin : WholePin) → At (pins_of c) at pin → shows d roots (length c.nets + at) v ≡ w.driven at
  pub soft : AreSoftInside c part
  pub strength : (n : ℕ) → IsStrength w n (s n)
  pub solved : (level : ℕ) → 1 ≤ level → level ≤ out.source → HasLevel part out level d v w

-- at v the strength of the one end, no more than the device's level, is at least that of the net at place to
abbrev pub FitsAt : Diagrams → NetWords → Option ℕ → ℕ → ℕ → Valuation → Type 0
FitsAt d out from to device v = (level : ℕ) → 1 ≤ level → level ≤ out.source → strong d out level to v ≡ true → (level ≤ device) × (strong_end d out level from v ≡ true)

-- the net n is marked, where it is in the part; outside, its root has the value
abbrev pub IsReached : Circuit → Part → NetWords → Bool → Diagrams → Valuation → Network → ℕ → Type 0
IsReached c part out value d v w n =
    ((i : ℕ) → IsPlace part i n → strong d out (slot_of out value) i v ≡ true) × (((i : ℕ) → IsPlace part i n → ⊥) → IsGiven c n → w.given n ≡ value)

-- at each marked net a path ends that fits the strengths, from a root of the value
abbrev pub HasReachPaths : Part → NetWords → Bool → Diagrams → Valuation → Network → (ℕ → ℕ) → Type 0
HasReachPaths part out value d v w s = (i n : ℕ) → IsPlace part i n → strong d out (slot_of out value) i v ≡ true → Arrives w (RootFits s value) (HopFits s) n

-- the nets of the roots of the value are marked, where the root is as strong as its net
abbrev pub HasReachRoots : Circuit → Part → NetWords → Bool → Diagrams → Valuation → Network → (ℕ → ℕ) → Type 0
HasReachRoots c part out value d v w s = (root : Root) → IsRoot w root → RootFits s value root → IsReached c part out value d v w root.net

-- what a device passes on from the marks in `old` of nets on one side, in the part or outside it, is marked in `new`
abbrev pub HasReachPassed : Circuit → Part → NetWords → Bool → Side → Device → Diagrams → Diagrams → Valuation → Network → (ℕ → ℕ) → Type 0
HasReachPassed c part out value side d old new v w s =
    IsOn w d → (m n : ℕ) → Joins d m n → HopFits s m d n → IsOnSide part side m → IsReached c part out value old v w m → IsReached c part out value new v w n

-- the marks are at exactly the nets that the value reaches
abbrev pub HasReach : Part → NetWords → Bool → Diagrams → Valuation → Network → Type 0
HasReach part out value d v w = (i n : ℕ) → IsPlace part i n → (strong d out (slot_of out value) i v ≡ true) ↔ Reaches w n value

-- what one direction of a device with such a gate passes on of a signal
pub record PassesSignal (out : NetWords) (value : Bool) (kind : Kind) (gate signal : ℕ) (from to : Option ℕ) (device : ℕ) (changed : Bool) (old new : Diagrams) : Type 0 where
  pub grown : StrongGrows out (slot_of out value) old new
  pub passed : (i : ℕ) → to ≡ Some i → (v : Valuation) → conducts_at kind (meaning old.nodes gate v) ≡ true → meaning old.nodes signal v ≡ true
      → FitsAt old out from i device v → strong new out (slot_of out value) i v ≡ true
  pub only : (i : ℕ) → word_of out (slot_of out value) i < out.span.len → (v : Valuation) → strong new out (slot_of out value) i v ≡ true
      → (strong old out (slot_of out value) i v ≡ true)
      ⊎ ((to ≡ Some i) × (conducts_at kind (meaning old.nodes gate v) ≡ true) × (meaning old.nodes signal v ≡ true) × FitsAt old out from i device v)
  pub same : changed ≡ false → new.words ≡ old.words

-- what a step over devices does to the marks of a value, from nets on one side, whatever the valuation
pub record SpreadsValue (c : Circuit) (part : Part) (gates roots : Span) (out : NetWords) (value : Bool) (side : Side) (IsPassed : Device → Type 0) (changed : Bool) (old new : Diagrams) : Type 0 where
  pub grown : StrongGrows out (slot_of out value) old new
  pub passed : (d : Device) → IsPassed d → (v : Valuation) (w : Network) (s : ℕ → ℕ) → SolvedAt c part gates roots out old v w s → HasReachPassed c part out value side d old new v w s
  pub paths : (v : Valuation) (w : Network) (s : ℕ → ℕ) → SolvedAt c part gates roots out old v w s → HasReachPaths part out value old v w s → HasReachPaths part out value new v w s
  pub same : changed ≡ false → new.words ≡ old.words
