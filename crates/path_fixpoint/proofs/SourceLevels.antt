-- Where the levels of devices, holds and outputs stand by the source level of their circuit.
use Rattle.std.proofs.Common.{◌≡◌, ℕ, ◌<◌, ◌≤◌, ◌⊎◌, arith, ap, refl, sym, inl, inr}
use Rattle.vrt_model.proofs.Scales.{least_above, least_below}
use Rattle.vrt_model.specs.Circuits.{IsDrive}
use Rattle.vrt_model.specs.Levels.{IsDeviceLevel, IsHoldSize, source_level}
use Rattle.vrt_model.specs.Path.{level_of_drive}
use Rattle.vrt_model.specs.declared.circuit.Circuit.{Circuit}
use Rattle.vrt_model.specs.declared.whole.Drive.{Drive}
use Rattle.path_fixpoint.specs.Strengths.{circuit_words}
use Rattle.path_fixpoint.specs.declared.words.NetWords.{NetWords}
use Rattle.vrt_model.specs.declared.whole.Drive.TheVariants.{Soft, Level}

-- the words of a part of the circuit are those of their span
pub words_back : (c : Circuit) (out : NetWords) → out.source ≡ source_level c → circuit_words c out.span ≡ out
words_back c out e = let build : ℕ → NetWords = λ source. record { span = out.span; source = source } in ap build (sym e)

pub source_low : (c : Circuit) → 1 ≤ source_level c
source_low c = let below = least_below c in omega (arith, below)

pub device_below : (c : Circuit) (level : ℕ) → IsDeviceLevel c level → (1 ≤ level) × (level < source_level c)
device_below c level is = ((let low = least_above c in let least = is.0 in omega (arith, low, least)), is.1)

pub hold_below : (c : Circuit) (size : ℕ) → IsHoldSize c size → (1 ≤ size) × (size < source_level c)
hold_below c size is = (is.0, (let least = is.1 in let below = least_below c in omega (arith, least, below)))

pub drive_ranges : (c : Circuit) (drive : Drive) → IsDrive c drive → (1 ≤ level_of_drive (source_level c) drive) × (level_of_drive (source_level c) drive ≤ source_level c)
drive_ranges c Soft is = (source_low c, omega arith)
drive_ranges c (Level level) is = let below = device_below c level is in (below.0, (let top = below.1 in omega (arith, top)))

-- a drive is soft, or its root is below those of given nets
pub drive_below : (c : Circuit) (drive : Drive) → IsDrive c drive → (drive ≡ Soft) ⊎ (level_of_drive (source_level c) drive < source_level c)
drive_below c Soft is = inl refl
drive_below c (Level level) is = inr (device_below c level is).1
