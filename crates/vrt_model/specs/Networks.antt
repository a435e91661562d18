-- What laws ask of networks: bounds of their nets and levels, and sets of nets that sources bound.
use Rattle.std.specs.Prelude.{◌≡◌, ℕ, ◌<◌, ◌≤◌, ◌⊎◌, All}
use Rattle.vrt_model.specs.Circuits.{IsDevice, IsHold, IsWhole}
use Rattle.vrt_model.specs.Path.{IsOn, IsRoot, Joins, Network, Root}
use Rattle.vrt_model.specs.declared.circuit.Circuit.{Circuit}
use Rattle.vrt_model.specs.declared.circuit.Device.{Device}

-- all roots, and all nets to which conducting devices lead, are below a number
pub record HasBound (w : Network) (bound : ℕ) : Type 0 where
  pub roots : (root : Root) → IsRoot w root → root.net < bound
  pub hops : (m n : ℕ) (d : Device) → IsOn w d → Joins d m n → n < bound

-- its nets are below a number, and its roots are at most of a level: so each net has a strength
pub record IsFinite (w : Network) (bound top : ℕ) : Type 0 where
  pub bounded : HasBound w bound
  pub most : (root : Root) → IsRoot w root → root.level ≤ top

-- a net with a root of the source level, as each net with a given value is
abbrev pub IsSource : Network → ℕ → Type 0
IsSource w n = (root : Root) × IsRoot w root × (root.net ≡ n) × (root.level ≡ w.source)

-- no root is above the source level, and each device is below it
pub record HasLevels (w : Network) : Type 0 where
  pub roots : (root : Root) → IsRoot w root → root.level ≤ w.source
  pub devices : (d : Device) → IsOn w d → d.level < w.source

-- the numbers of nets of a circuit are in range, and levels and sizes are
pub record HasRanges (c : Circuit) : Type 0 where
  pub devices : All (IsDevice c) c.devices
  pub holds : All (IsHold c) c.holds
  pub wholes : All (IsWhole c) c.wholes

-- The second network has the roots of the first at the nets inside, those of the source level at the edge, and its devices at
-- the nets inside; what the first joins to a net inside is inside or at the edge, and nets at the edge are sources.
pub record Covers (w x : Network) (Inside Edge : ℕ → Type 0) : Type 0 where
  pub source : w.source ≡ x.source
  pub roots : (root : Root) → IsRoot w root → Inside root.net ⊎ (Edge root.net × (root.level ≡ w.source)) → IsRoot x root
  pub devices : (m n : ℕ) (d : Device) → IsOn w d → Joins d m n → Inside n → IsOn x d
  pub bounded : (m n : ℕ) (d : Device) → IsOn w d → Joins d m n → Inside n → Inside m ⊎ Edge m
  pub edge : (n : ℕ) → Edge n → IsSource w n
