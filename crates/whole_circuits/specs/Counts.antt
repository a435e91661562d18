-- How many channels end at nets, by the levels of their devices, and which drives bear them.
use Rattle.std.specs.Prelude.{◌≡◌, ℕ, zero, suc, ◌+◌, ◌-◌, ◌*◌, ◌<◌, ◌==◌, Bool, true, false, ◌&&◌, ◌||◌, List, filter, length, nat_le}
use Rattle.std.specs.List.{slice_index}
use Rattle.vrt_model.specs.Levels.{IsDeviceLevel, level_counts}
use Rattle.vrt_model.specs.Lists.{Among}
use Rattle.vrt_model.specs.declared.circuit.Circuit.{Circuit}
use Rattle.vrt_model.specs.declared.circuit.Device.{Device}
use Rattle.vrt_model.specs.declared.whole.Drive.{Drive}
use Rattle.vrt_model.specs.declared.whole.Drive.TheVariants.{Soft, Level}

-- the channel of a device of this level ends at the net
abbrev pub is_of : ℕ → ℕ → Device → Bool
is_of level n d = ((d.left.0 == n) || (d.right.0 == n)) && (d.level == level)

-- the devices of a level whose channels end at a net
abbrev pub channels_of : ℕ → List Device → ℕ → List Device
channels_of level devices n = filter (is_of level n) devices

-- of so many nets each has a count for each level: of the channels there of the devices of this level
abbrev pub AreCounts : ℕ → List Device → List ℕ → Type 0
AreCounts count devices counts = (n k : ℕ) → n < count → k < level_counts → slice_index counts (level_counts * n + k) ≡ length (channels_of k devices n)

-- a count with so many more, or with so many fewer
abbrev pub changed : Bool → ℕ → ℕ → ℕ
changed true count k = count + k
changed false count k = count - k

-- each count of a net is changed by so many
abbrev pub AreChanged : Bool → (ℕ → ℕ → ℕ) → List ℕ → List ℕ → Type 0
AreChanged more many old new =
    (n k : ℕ) → k < level_counts → level_counts * n + k < length old → slice_index new (level_counts * n + k) ≡ changed more (slice_index old (level_counts * n + k)) (many n k)

-- devices have levels of devices
abbrev pub HaveLevels : Circuit → List Device → Type 0
HaveLevels c devices = (d : Device) → Among devices d → IsDeviceLevel c d.level

-- ---- drives

-- an output of a drive may be where a channel of a device of a level ends: where its drive is a level, and at least that one
abbrev pub bears : Drive → ℕ → Bool
bears Soft level = false
bears (Level most) level = nat_le level most

-- by the count of a level at a net
abbrev pub bears_at : List ℕ → Drive → ℕ → ℕ → Bool
bears_at counts drive n level = (slice_index counts (level_counts * n + level) == 0) || bears drive level

-- by the counts of all levels below one
abbrev pub bears_below : List ℕ → Drive → ℕ → ℕ → Bool
bears_below counts drive n zero = true
bears_below counts drive n (suc level) = bears_below counts drive n level && bears_at counts drive n level

-- by all counts of a net
abbrev pub bears_all : List ℕ → Drive → ℕ → Bool
bears_all counts drive n = bears_below counts drive n level_counts
