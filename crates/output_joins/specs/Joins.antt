-- Functions of signals, and what the outputs of a phase add to them.
use Rattle.std.specs.Prelude.{◌≡◌, ◌<◌, ◌==◌, ◌&&◌, ◌||◌, ℕ, Bool, false, List, get_or, length}
use Rattle.std.specs.List.{list_any}
use Rattle.bdd_core.specs.Diagram.{Function, Valuation}
use Rattle.bdd_core.specs.Store.{Diagrams, IsLive, function_of}
use Rattle.bdd_core.specs.declared.handle.H.{H}
use Rattle.phase_wishes.specs.declared.wishes.Wanted.{Wanted}
use Rattle.phase_wishes.specs.declared.wishes.Wanted.TheVariants.{Signal, Element, Other, Constant}
use Rattle.phase_wishes.specs.declared.wishes.Wish.{Wish}

-- ---- functions

-- the handle of a signal among those of all signals
abbrev pub handle_in : List H → ℕ → H
handle_in handles s = get_or handles s (record { 0 = 0 })

-- its function
abbrev pub shown : Diagrams → List H → ℕ → Function
shown d handles s = function_of d (handle_in handles s)

-- all of them are live
abbrev pub AreLive : Diagrams → List H → Type 0
AreLive d handles = (s : ℕ) → s < length handles → IsLive d (handle_in handles s)

-- ---- outputs

-- the bit of this signal is wanted
abbrev pub is_of : Wanted → ℕ → Bool
is_of (Signal signal) s = signal == s
is_of (Element element inverted) s = false
is_of (Other net inverted) s = false
is_of (Constant v) s = false

-- the net of a wish and its signal are among so many
abbrev pub IsWantedWithin : ℕ → Wanted → Type 0
IsWantedWithin signals (Signal signal) = signal < signals
IsWantedWithin signals (Element element inverted) = Unit {0}
IsWantedWithin signals (Other net inverted) = Unit {0}
IsWantedWithin signals (Constant v) = Unit {0}

abbrev pub IsOutputWithin : ℕ → ℕ → Wish → Type 0
IsOutputWithin nets signals wish = (wish.net.0 < nets) × IsWantedWithin signals wish.wanted

-- what a net adds to the function of one signal: where there is care and the net is 1
abbrev pub one_of : Function → Function → ℕ → ℕ → Function
one_of care gate signal s = λ v. (signal == s) && (care v && gate v)

-- what an output adds
abbrev pub part_of : Function → (ℕ → Function) → Wish → ℕ → Function
part_of care gate wish s = λ v. is_of wish.wanted s && (care v && gate wish.net.0 v)

-- what some outputs add
abbrev pub parts_of : Function → (ℕ → Function) → List Wish → ℕ → Function
parts_of care gate wishes s = λ v. list_any (λ (w : Wish). part_of care gate w s v) wishes

-- ---- joined

-- each function became 1 where this adds to it, and stayed as it was elsewhere
pub record HasJoined (more : ℕ → Function) (old : Diagrams) (handles : List H) (new : Diagrams) (joined : List H) : Type 0 where
  pub len : length joined ≡ length handles
  pub live : AreLive new joined
  pub is : (s : ℕ) → s < length handles → (v : Valuation) → shown new joined s v ≡ (shown old handles s v || more s v)
