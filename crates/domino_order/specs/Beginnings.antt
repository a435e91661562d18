-- At which valuations of the variables of the phase steps of a net end, and at which they begin: those that become an end where some inputs rise.
use Rattle.std.specs.Prelude.{◌≡◌, ℕ, ◌≤◌, Bool, true, false, cond, ◌&&◌, ◌||◌, List, drop, length, take, Option, Some, None}
use Rattle.node_pool.specs.declared.region.Span.{Span}
use Rattle.bdd_core.specs.Diagram.{Function}
use Rattle.bdd_core.specs.Store.{Diagrams}
use Rattle.bdd_core.specs.Words.{shows}
use Rattle.step_roots.specs.Bits.{compares}
use Rattle.step_roots.specs.Moved.{moved_of}
use Rattle.vrt_model.specs.declared.groups.Valuation.{Valuation as Found}

-- ---- ends

-- there is care, and the net ends at 1
abbrev pub high_ends_of : Diagrams → ℕ → Span → Function → Function
high_ends_of d net given care = λ w. care w && shows d given net w

-- the variables have bits that come before those with which a bound ends, if there is one
abbrev pub ends_below : List ℕ → Option Found → Function
ends_below order None w = true
ends_below order (Some bound) w = compares true order (take (length order) bound.bits) w

abbrev pub ends_of : Diagrams → ℕ → Span → List ℕ → Option Found → Function → Function
ends_of d net given order bound care = λ w. high_ends_of d net given care w && ends_below order bound w

-- a bound has so many bits
abbrev pub IsLong : ℕ → Option Found → Type 0
IsLong count None = Unit {0}
IsLong count (Some bound) = length bound.bits ≡ count

-- or at least so many
abbrev pub HasFirst : ℕ → Option Found → Type 0
HasFirst count None = Unit {0}
HasFirst count (Some bound) = count ≤ length bound.bits

-- ---- beginnings

-- steps that end with the first of these bits, and whose arrivals come before the others
abbrev pub beside_of : List ℕ → List ℕ → List Bool → Function
beside_of order arrivals bits = λ u. moved_of arrivals true (compares false order (take (length order) bits)) u && compares true arrivals (drop (length order) bits) u

abbrev pub beside_bound : List ℕ → List ℕ → Option Found → Function
beside_bound order arrivals None u = false
beside_bound order arrivals (Some bound) u = beside_of order arrivals bound.bits u

-- steps that have one of these ends, or are beside a bound
abbrev pub reached_of : List ℕ → List ℕ → Option Found → Function → Function
reached_of order arrivals bound ends = λ u. moved_of arrivals true ends u || beside_bound order arrivals bound u

-- and the net has not risen
abbrev pub begins_of : Diagrams → ℕ → Span → List ℕ → List ℕ → Option Found → Function → Function
begins_of d net given order arrivals bound ends = λ u. cond (shows d given net u) false (reached_of order arrivals bound ends u)

-- of some ends those of steps that begin with these bits
abbrev pub near_of : List ℕ → List ℕ → List Bool → Function → Function
near_of order arrivals begin ends = λ w. ends w && moved_of arrivals false (compares false order begin) w
