-- What spreads from net to net over devices that are known to conduct: which nets are joined, how strong they are, and
-- which value reaches them. Each is an amount by net.
use Rattle.std.specs.Prelude.{◌≡◌, ℕ, ◌+◌, ◌<◌, ◌≤◌, ◌-◌, ◌==◌, ◌⊎◌, min, Bool, true, false, not, cond, List, [], None, Option, Some, length, slice_index, sum_by}
use Rattle.known_nets.specs.Conduction.{conduction_of, is_plain_at}
use Rattle.known_nets.specs.KnownTables.{known_at}
use Rattle.known_nets.specs.declared.spread.Spread.TheVariants.{Joined, Strength, Value}
use Rattle.known_nets.specs.declared.amounts.Amounts.{Amounts}
use Rattle.known_nets.specs.declared.spread.Spread.{Spread}
use Rattle.known_nets.specs.declared.spread.Spreading.{Spreading}
use Rattle.vrt_model.specs.Levels.{source_level}
use Rattle.vrt_model.specs.Lists.{At, Among}
use Rattle.vrt_model.specs.Path.{Joins}
use Rattle.vrt_model.specs.Reading.{is_in}
use Rattle.vrt_model.specs.declared.circuit.Circuit.{Circuit}
use Rattle.vrt_model.specs.declared.circuit.Device.{Device}

-- a device of the bare circuit that is known to conduct
pub record IsKnownOn (c : Circuit) (known : List (Option Bool)) (d : Device) : Type 0 where
  pub there : Among c.devices d
  pub bare : is_in true d ≡ true
  pub on : conduction_of known d ≡ Some true

-- whether it is this bit
abbrev pub is_bit : Bool → Option Bool → Bool
is_bit v None = false
is_bit true (Some u) = u
is_bit false (Some u) = not u

-- the level of a net: that of the table where it is plain, and else the source level
abbrev pub level_of_end : Circuit → List ℕ → ℕ → ℕ
level_of_end c levels n = cond (is_plain_at c n) (slice_index levels n) (source_level c)

-- the amount at a net that is not plain
abbrev pub given_amount : Spread → Circuit → List (Option Bool) → ℕ → ℕ
given_amount Joined c known n = 0
given_amount Strength c known n = source_level c
given_amount (Value v) c known n = cond (is_bit v (known_at known n)) 1 0

-- what passes over a device from one net to another: the whole; the lesser of the strength and the device's level; the
-- value where no stronger signal blocks it
abbrev pub passed : Spread → Circuit → List ℕ → ℕ → ℕ → Device → ℕ → ℕ
passed Joined c levels amount m d n = amount
passed Strength c levels amount m d n = min amount d.level
passed (Value v) c levels amount m d n = cond (min (level_of_end c levels m) d.level == level_of_end c levels n) amount 0

-- the amounts that come to a net from those of a table, over devices that are known to conduct
pub data HasArrived (spread : Spread) (c : Circuit) (known : List (Option Bool)) (levels base : List ℕ) : ℕ → ℕ → Type 0 where
  before : {n : ℕ} → HasArrived spread c known levels base n (slice_index base n)
  given :
      {n : ℕ} (m : ℕ) (d : Device)
      → IsKnownOn c known d → Joins d m n → is_plain_at c m ≡ false → is_plain_at c n ≡ true
      → HasArrived spread c known levels base n (passed spread c levels (given_amount spread c known m) m d n)
  onward :
      {m n amount : ℕ} (d : Device)
      → HasArrived spread c known levels base m amount
      → IsKnownOn c known d → Joins d m n → is_plain_at c m ≡ true → is_plain_at c n ≡ true
      → HasArrived spread c known levels base n (passed spread c levels amount m d n)

-- what a device passes between a net with an amount and the net at its other end has come
pub record HasCrossed (spread : Spread) (c : Circuit) (known : List (Option Bool)) (levels table : List ℕ) (amount m : ℕ) (d : Device) (n : ℕ) : Type 0 where
  pub forth : is_plain_at c n ≡ true → passed spread c levels amount m d n ≤ slice_index table n
  pub back : is_plain_at c n ≡ false → passed spread c levels (given_amount spread c known n) n d m ≤ slice_index table m

-- what passes from a net with an amount, and to it from given nets, has come
abbrev pub HasPassedAll : Spread → Circuit → List (Option Bool) → List ℕ → List ℕ → ℕ → ℕ → Type 0
HasPassedAll spread c known levels table amount m = (d : Device) (n : ℕ) → IsKnownOn c known d → Joins d m n → HasCrossed spread c known levels table amount m d n

-- all that passes at a net has come
abbrev pub IsPassedOn : Spread → Circuit → List (Option Bool) → List ℕ → List ℕ → ℕ → Type 0
IsPassedOn spread c known levels table m = HasPassedAll spread c known levels table (slice_index table m) m

-- all amounts are 0
abbrev pub IsZero : List ℕ → Type 0
IsZero table = (n : ℕ) → slice_index table n ≡ 0

-- the nets of a list are plain
abbrev pub ArePlain : Circuit → List ℕ → Type 0
ArePlain c nets = (n : ℕ) → Among nets n → is_plain_at c n ≡ true

-- how much the amounts may still rise, where each is at most 255
abbrev pub headroom : List ℕ → ℕ
headroom table = sum_by (λ (amount : ℕ). 255 - amount) table

-- the amounts of a spread from nothing, which has come to an end at some nets
pub record IsSpread (spread : Spread) (c : Circuit) (known : List (Option Bool)) (levels nets table : List ℕ) : Type 0 where
  pub base : List ℕ
  pub clear : IsZero base
  pub arrived : (n : ℕ) → HasArrived spread c known levels base n (slice_index table n)
  pub closed : (n : ℕ) → Among nets n → IsPassedOn spread c known levels table n

-- ---- steps of a spread

-- what passes over a device from a net with an amount, and to it from a given net, has come
abbrev pub HasPassedOver : Spread → Circuit → List (Option Bool) → List ℕ → List ℕ → ℕ → ℕ → Device → Type 0
HasPassedOver spread c known levels table amount m d = (n : ℕ) → IsKnownOn c known d → Joins d m n → HasCrossed spread c known levels table amount m d n

-- it has come over the devices whose numbers are the first of a list
abbrev pub HasPassedFirst : Spread → Circuit → List (Option Bool) → List ℕ → List ℕ → ℕ → ℕ → List ℕ → ℕ → Type 0
HasPassedFirst spread c known levels table amount m numbers bound =
    (i k : ℕ) (d : Device) → i < bound → At numbers i k → At c.devices k d → HasPassedOver spread c known levels table amount m d

-- the net at the other end of a device that is known to conduct, if it is one with the net at an end
abbrev pub IsEndOver : List (Option Bool) → Device → ℕ → Option ℕ → Type 0
IsEndOver known d n None = (m : ℕ) → is_in true d ≡ true → conduction_of known d ≡ Some true → Joins d n m → ⊥
IsEndOver known d n (Some end) = (is_in true d ≡ true) × (conduction_of known d ≡ Some true) × Joins d n end × ((m : ℕ) → Joins d n m → m ≡ end)

-- a net stands in a list at this place or behind it
abbrev pub IsListedFrom : ℕ → List ℕ → ℕ → Type 0
IsListedFrom place nets n = (i : ℕ) × (place ≤ i) × At nets i n

-- amounts have only grown, and a list has become longer: behind the nets that it had it has those whose amounts have grown,
-- and no more than the amounts have grown by
pub record HasGrown (old new before after : List ℕ) : Type 0 where
  pub size : length new ≡ length old
  pub grown : (n : ℕ) → slice_index old n ≤ slice_index new n
  pub longer : length before ≤ length after
  pub stays : (i n : ℕ) → At before i n → At after i n
  pub listed : (n : ℕ) → (slice_index new n ≡ slice_index old n) ⊎ IsListedFrom (length before) after n
  pub some : (i n : ℕ) → length before ≤ i → At after i n → 0 < slice_index new n
  pub room : headroom new + length after ≤ headroom old + length before

-- a net has got an amount, where it had less
pub record IsRaised (net amount : ℕ) (old new before after : List ℕ) : Type 0 where
  pub growth : HasGrown old new before after
  pub only : (i n : ℕ) → length before ≤ i → At after i n → n ≡ net
  pub is : (n : ℕ) → (slice_index new n ≡ slice_index old n) ⊎ ((n ≡ net) × (slice_index new n ≡ amount))
  pub reached : net < length old → amount ≤ slice_index new net

-- amounts have come to plain nets, from an amount of a net and those of a table
pub record HasGone (spread : Spread) (c : Circuit) (known : List (Option Bool)) (levels : List ℕ) (amount m : ℕ) (old new before after : List ℕ) : Type 0 where
  pub growth : HasGrown old new before after
  pub plain : (i n : ℕ) → length before ≤ i → At after i n → is_plain_at c n ≡ true
  pub arrived :
      (base : List ℕ) → HasArrived spread c known levels base m amount → ((n : ℕ) → HasArrived spread c known levels base n (slice_index old n))
      → (n : ℕ) → HasArrived spread c known levels base n (slice_index new n)

-- ---- a spread over amounts

-- all amounts are 0, and no net was met
pub record AreNone (count : ℕ) (a : Amounts) : Type 0 where
  pub size : length a.table.items ≡ count
  pub zero : IsZero a.table.items
  pub empty : a.met.items ≡ []

-- each net with an amount was met
abbrev pub AreListed : Amounts → Type 0
AreListed a = (n : ℕ) → (slice_index a.table.items n ≡ 0) ⊎ Among a.met.items n

-- amounts have come to plain nets, from an amount of a net and those that there were
abbrev pub Goes : Spreading → ℕ → ℕ → Amounts → Amounts → Type 0
Goes s amount m old new = HasGone s.spread s.circuit.now s.known.now s.levels.now amount m old.table.items new.table.items old.met.items new.met.items

-- what passes over a device from a net with an amount, and to it from a given net, has come
abbrev pub PassesOver : Spreading → Amounts → ℕ → ℕ → Device → Type 0
PassesOver s new amount m d = HasPassedOver s.spread s.circuit.now s.known.now s.levels.now new.table.items amount m d

-- it has come over the devices whose numbers are the first of a list
abbrev pub PassesFirst : Spreading → Amounts → ℕ → ℕ → List ℕ → ℕ → Type 0
PassesFirst s new amount m numbers bound = HasPassedFirst s.spread s.circuit.now s.known.now s.levels.now new.table.items amount m numbers bound

-- it has come over all devices
abbrev pub PassesAll : Spreading → Amounts → ℕ → ℕ → Type 0
PassesAll s new amount m = HasPassedAll s.spread s.circuit.now s.known.now s.levels.now new.table.items amount m

-- amounts have spread from the nets that were met until nothing changes
pub record HasSpread (s : Spreading) (old new : Amounts) : Type 0 where
  pub size : length new.table.items ≡ length old.table.items
  pub plain : ArePlain s.circuit.now new.met.items
  pub stays : (n : ℕ) → Among old.met.items n → Among new.met.items n
  pub raised : (n : ℕ) → (slice_index new.table.items n ≡ slice_index old.table.items n) ⊎ Among new.met.items n
  pub listed : (n : ℕ) → Among new.met.items n → (0 < slice_index new.table.items n) ⊎ Among old.met.items n
  pub grown : (n : ℕ) → slice_index old.table.items n ≤ slice_index new.table.items n
  pub arrived : (n : ℕ) → HasArrived s.spread s.circuit.now s.known.now s.levels.now old.table.items n (slice_index new.table.items n)
  pub closed : (n : ℕ) → Among new.met.items n → IsPassedOn s.spread s.circuit.now s.known.now s.levels.now new.table.items n
