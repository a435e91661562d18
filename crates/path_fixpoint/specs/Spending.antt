-- How many nodes the steps of a part add, by counts of their operations.
use Rattle.std.specs.Prelude.{◌≡◌, ℕ, ◌+◌, ◌*◌, List, length, Result, IfOk}
use Rattle.node_pool.specs.declared.region.Span.{Span}
use Rattle.bdd_core.specs.declared.handle.H.{H}
use Rattle.bdd_core.specs.declared.handle.Spent.{Spent}
use Rattle.bdd_core.specs.Diagram.{IsWithin, meaning}
use Rattle.bdd_core.specs.Store.{Diagrams, function_of}
use Rattle.bdd_core.specs.Words.{word_at}
use Rattle.bdd_ops.specs.Counting.{Counts, IsCounted, IsSpanWithin}
use Rattle.channel_parts.specs.declared.part.Part.{Part}
use Rattle.path_fixpoint.specs.Parts.{IsGiven, IsPlace, part_devices, pins_at, pins_of}
use Rattle.vrt_model.specs.Levels.{source_level}
use Rattle.vrt_model.specs.Lists.{Among, At}
use Rattle.vrt_model.specs.declared.circuit.Circuit.{Circuit}
use Rattle.vrt_model.specs.declared.circuit.Device.{Device}
use Rattle.vrt_model.specs.declared.circuit.Hold.{Hold}
use Rattle.vrt_model.specs.declared.whole.WholePin.{WholePin}

-- no net has two holds
abbrev pub HasOneHold : Circuit → Type 0
HasOneHold c = (i j : ℕ) (g h : Hold) → At c.holds i g → At c.holds j h → g.net ≡ h.net → i ≡ j

-- the handle at one place of a span reads only the first u variables
abbrev pub IsWordWithin : ℕ → Diagrams → Span → ℕ → Type 0
IsWordWithin u d span k = IsWithin u (meaning d.nodes (word_at d span k))

-- the gates of a part's devices read only the first u variables
abbrev pub AreGatesWithin : ℕ → Circuit → Part → Span → Diagrams → Type 0
AreGatesWithin u c part gates d = (dev : Device) → Among (part_devices c part) dev → IsWordWithin u d gates dev.gate.0

-- so do these output pins at nets of the part, whose handles stand one behind the other from a place on
abbrev pub ArePinsWithin : ℕ → Part → List WholePin → ℕ → Span → Diagrams → Type 0
ArePinsWithin u part pins first roots d = (at i : ℕ) (pin : WholePin) → At pins at pin → IsPlace part i pin.net.0 → IsWordWithin u d roots (first + at)

-- The roots that a part reads do: those of the given ends of its devices' channels, of its given nets, of its nets with a hold,
-- and of the output pins at its nets.
pub record AreRootsWithin (u : ℕ) (c : Circuit) (part : Part) (roots : Span) (d : Diagrams) : Type 0 where
  pub left : (dev : Device) → Among (part_devices c part) dev → IsGiven c dev.left.0 → IsWordWithin u d roots dev.left.0
  pub right : (dev : Device) → Among (part_devices c part) dev → IsGiven c dev.right.0 → IsWordWithin u d roots dev.right.0
  pub given : (i n : ℕ) → IsPlace part i n → IsGiven c n → IsWordWithin u d roots n
  pub held : (at i : ℕ) (hold : Hold) → At c.holds at hold → IsPlace part i hold.net.0 → IsWordWithin u d roots hold.net.0
  pub driven : ArePinsWithin u part (pins_of c) (length c.nets) roots d

-- words of a span were written and no node was made; the span's handles read only the first u variables
pub record Rewrites (u : ℕ) (out : Span) (old new : Diagrams) : Type 0 where
  pub counted : IsCounted u 0 old new
  pub within : IsSpanWithin u new out

-- at most so many operations; if they were not refused, the span's handles read only the first u variables
pub record Spends {A : Type 0} (u operations : ℕ) (out : Span) (old new : Diagrams) (result : Result A Spent) : Type 0 where
  pub counts : Counts u operations old new result
  pub within : IfOk result (λ _. IsSpanWithin u new out)

-- at most so many operations; if they were not refused, the handle that they found reads only the first u variables
pub record Finds (u operations : ℕ) (old new : Diagrams) (result : Result H Spent) : Type 0 where
  pub counts : Counts u operations old new result
  pub within : IfOk result (λ r. IsWithin u (function_of new r))

-- To solve a part of p nets and q devices on which r outputs of whole instances stand, where l is the source level: 4 l p q for the
-- strengths, and for each of the two values (4 l + 6) p q, six for each net and three for each output.
abbrev pub solving_operations : Circuit → Part → ℕ
solving_operations c part =
    (12 * source_level c + 12) * (length part.nets * length part.devices) + 12 * length part.nets + 6 * pins_at part (pins_of c)
