-- What gives each signal and each storage element of a model its bit.
use Rattle.std.specs.Prelude.{◌≡◌, ℕ, ◌+◌, ◌<◌, ◌++◌, ◌∷◌, ◌⊎◌, Bool, true, false, not, List, [], length, take, sum_by, Option}
use Rattle.blif_eval.specs.declared.driver_table.Driver.{Driver}
use Rattle.blif_eval.specs.declared.driver_table.Driver.TheVariants.{Given, Covered, Stored, Element}
use Rattle.blif_eval.specs.declared.driver_table.Storage.{Storage}
use Rattle.vrt_model.specs.Elements.{Numbered, element_count, element_names, numbered_latches}
use Rattle.vrt_model.specs.Lists.{At, Among}
use Rattle.vrt_model.specs.ModelArcs.{Part, last_by, parts_by, parts_of}
use Rattle.vrt_model.specs.declared.blif.LatchKind.{LatchKind}
use Rattle.vrt_model.specs.declared.blif.LatchKind.TheVariants.{Re, Fe, Ah, Al}
use Rattle.vrt_model.specs.declared.flat_model.Cover.{Cover}
use Rattle.vrt_model.specs.declared.flat_model.FlatLatch.{FlatLatch}
use Rattle.vrt_model.specs.declared.flat_model.FlatModel.{FlatModel}

-- how many signals and elements a model has
abbrev pub node_count : FlatModel → ℕ
node_count flat = length flat.signals + length (element_names flat)

-- an element as a part of a latch has it; elements are numbered after the signals
pub record IsStorage (signals : ℕ) (part : Part) (storage : Storage) : Type 0 where
  pub place : part.number ≡ signals + storage.element
  pub source : storage.source ≡ part.source
  pub control : storage.control ≡ part.latch.control
  pub transparent : storage.open_at ≡ part.transparent_at

-- what gives a number its bit: nothing, where it is an input or a clock; the cover of which it is the output; the element
-- that the latch shows of which it is the output; or, where it is an element, its latch
abbrev pub IsDriver : FlatModel → ℕ → Driver → Type 0
IsDriver flat n Given = Among (flat.inputs ++ flat.clocks) n
IsDriver flat n (Covered place) = (cover : Cover) × At flat.covers place cover × (cover.output ≡ n)
IsDriver flat n (Stored number) =
    (l : Numbered) × Among (numbered_latches flat) l × (l.latch.output ≡ n) × (number ≡ length flat.signals + last_by l.first l.latch.kind)
IsDriver flat n (Element storage) = (part : Part) × Among (parts_of flat) part × (part.number ≡ n) × IsStorage (length flat.signals) part storage

-- an element of a part stands at the number of the part
abbrev pub HasPart : ℕ → List Driver → Part → Type 0
HasPart signals drivers part = (storage : Storage) × At drivers part.number (Element storage) × IsStorage signals part storage

-- a driver for each signal and each element
pub record AreDrivers (flat : FlatModel) (drivers : List Driver) : Type 0 where
  pub size : length drivers ≡ node_count flat
  pub each : (n : ℕ) (driver : Driver) → At drivers n driver → IsDriver flat n driver
  pub parts : (part : Part) → Among (parts_of flat) part → HasPart (length flat.signals) drivers part

-- ---- the signals, cover by cover and latch by latch

-- the outputs of so many covers and so many latches have drivers, and what has none is no such output
pub record AreNoted (flat : FlatModel) (covers latches : ℕ) (drivers : List Driver) : Type 0 where
  pub size : length drivers ≡ length flat.signals
  pub each : (n : ℕ) (driver : Driver) → At drivers n driver → (driver ≡ Given) ⊎ IsDriver flat n driver
  pub of_covers : (i : ℕ) (cover : Cover) → i < covers → At flat.covers i cover → ¬ At drivers cover.output Given
  pub of_latches : (i : ℕ) (latch : FlatLatch) → i < latches → At flat.latches i latch → ¬ At drivers latch.output Given

-- ---- the elements, latch by latch

-- one element is added; its number is behind the signals and the elements before
pub record AddsElement (signals source : ℕ) (control : Option ℕ) (open_at : Bool) (old new : List Driver) (number : ℕ) : Type 0 where
  pub is : number ≡ signals + length old
  pub list : new ≡ old ++ Element (record { element = length old; source = source; control = control; open_at = open_at }) ∷ []

-- some elements are added, and this is the number of the last
pub record AddsElements (more old new : List Driver) (last number : ℕ) : Type 0 where
  pub is : number ≡ last
  pub list : new ≡ old ++ more

-- the one element of a latch with this number
abbrev pub level_elements : ℕ → FlatLatch → Bool → List Driver
level_elements first latch open_at = Element (record { element = first; source = latch.input; control = latch.control; open_at = open_at }) ∷ []

-- the master with this number, and the slave behind it
abbrev pub edge_elements : ℕ → ℕ → FlatLatch → Bool → List Driver
edge_elements signals first latch open_at =
    Element (record { element = first; source = latch.input; control = latch.control; open_at = open_at })
    ∷ Element (record { element = first + 1; source = signals + first; control = latch.control; open_at = not open_at }) ∷ []

abbrev pub elements_by : ℕ → ℕ → FlatLatch → LatchKind → List Driver
elements_by signals first latch Ah = level_elements first latch true
elements_by signals first latch Al = level_elements first latch false
elements_by signals first latch Re = edge_elements signals first latch false
elements_by signals first latch Fe = edge_elements signals first latch true

abbrev pub count_before : List FlatLatch → ℕ → ℕ
count_before latches upto = sum_by (λ (l : FlatLatch). element_count l.kind) (take upto latches)

-- a part of a latch stands among the elements
abbrev pub HasElement : ℕ → List Driver → Part → Type 0
HasElement signals elements part =
    (k : ℕ) × (storage : Storage) × (part.number ≡ signals + k) × At elements k (Element storage) × IsStorage signals part storage

-- the elements of so many latches
pub record AreMade (flat : FlatModel) (latches : ℕ) (elements : List Driver) : Type 0 where
  pub count : length elements ≡ count_before flat.latches latches
  pub each : (k : ℕ) (driver : Driver) → At elements k driver → IsDriver flat (length flat.signals + k) driver
  pub parts :
      (i : ℕ) (l : Numbered) (part : Part) → i < latches → At (numbered_latches flat) i l → Among (parts_by (length flat.signals) l l.latch.kind) part
      → HasElement (length flat.signals) elements part
