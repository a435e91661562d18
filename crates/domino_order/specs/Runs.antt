-- A run over a port: what is asked, what the store has before and behind its beginning, and what is found.
use Rattle.std.specs.Prelude.{◌≡◌, ◌≢◌, ℕ, ◌+◌, ◌*◌, ◌^◌, ◌<◌, ◌≤◌, ◌⊎◌, ◌&&◌, Bool, true, false, List, [], ◌∷◌, length, map, take, Option, Some, None}
use Rattle.std.specs.List.{range_with_len}
use Rattle.node_pool.specs.declared.region.Span.{Span}
use Rattle.bdd_core.specs.Store.{Diagrams, IsLive, IsSpan, function_of}
use Rattle.bdd_core.specs.declared.handle.H.{H}
use Rattle.bdd_ops.specs.Ops.{bits_in, bits_of}
use Rattle.circuit_faults.specs.Faults.{IsSettingAt}
use Rattle.circuit_faults.specs.Results.{root_at}
use Rattle.domino_order.specs.Beginnings.{ends_below, reached_of}
use Rattle.domino_order.specs.StepBits.{FailsAt, HoldsAt, IsStepAt}
use Rattle.domino_order.specs.StepSettings.{GivesSettings, at_begun, start_at}
use Rattle.domino_order.specs.StepWords.{HasStepHandles, IsRising, of_rising, step_operations}
use Rattle.domino_order.specs.declared.found.NetFound.{NetFound}
use Rattle.domino_order.specs.declared.found.NetFound.TheVariants.{Holds, Fails, Spent}
use Rattle.domino_order.specs.declared.prepared.Asked.{Asked}
use Rattle.domino_order.specs.declared.prepared.Prepared.{Prepared}
use Rattle.domino_order.specs.declared.runs.Looked.{Looked}
use Rattle.phase_open.specs.Given.{AreFew, variable_at}
use Rattle.phase_terms.specs.Found.{at_bits, met}
use Rattle.phase_terms.specs.Opened.{opened_operations}
use Rattle.phase_terms.specs.Stores.{IsUsed, counts_of, word_count}
use Rattle.vrt_model.specs.Comparison.{Comparison}
use Rattle.vrt_model.specs.Held.{setting_of, sources_of}
use Rattle.vrt_model.specs.Lists.{has_number}
use Rattle.vrt_model.specs.Variables.{is_less}
use Rattle.vrt_model.specs.declared.groups.Valuation.{Valuation as Found}

-- ---- what is asked

abbrev pub of_asked : Asked → Comparison
of_asked s = of_rising s.rising

-- the variables of the phase
abbrev pub phase_variables : Asked → ℕ
phase_variables s = length (sources_of (of_asked s) s.rising.phase)

-- with one for each net that rises, as many as the bits of a step
abbrev pub asked_variables : Asked → ℕ
asked_variables s = phase_variables s + length s.rising.nets.now

-- no number stands twice in the list
abbrev pub AreOnce : List ℕ → Type 0
AreOnce [] = Unit {0}
AreOnce (n ∷ ns) = (has_number ns n ≡ false) × AreOnce ns

pub record IsAsked (s : Asked) : Type 0 where
  pub rising : IsRising s.rising
  pub once : AreOnce s.rising.nets.now
  pub vars : s.vars.now.sources ≡ sources_of (of_asked s) s.rising.phase
  pub order : s.order.now ≡ range_with_len 0 (phase_variables s)
  pub arrivals : s.arrivals.now ≡ map (variable_at (of_asked s).circuit) s.rising.nets.now
  pub counts : s.counts ≡ counts_of (of_asked s) (phase_variables s)
  pub few : AreFew s.counts

-- a store without nodes that has the variables of the phase and room for its words and for those of the steps
pub record IsRoomFor (s : Asked) (d : Diagrams) : Type 0 where
  pub vars : d.vars ≡ phase_variables s
  pub count : length d.nodes ≡ 2
  pub budget : 65536 ≤ d.budget
  pub own : d.own ≤ length d.words
  pub room : length d.words + word_count s.counts + 2 * length (of_asked s).circuit.nets ≤ d.word_room

-- ---- operations

-- to open the phase
abbrev pub prepared_operations : Asked → ℕ
prepared_operations s = opened_operations (of_asked s) s.rising.phase

-- for where steps end and where they begin
abbrev pub ends_operations : Asked → ℕ
ends_operations s = 2 * length s.order.now + 2

abbrev pub begins_operations : Asked → ℕ
begins_operations s = 2 * length s.order.now + 6 * length s.arrivals.now + 3

-- for the ends of steps that begin with some bits
abbrev pub near_operations : Asked → ℕ
near_operations s = 2 * length s.order.now + 2 * length s.arrivals.now + 1

abbrev pub look_operations : Asked → ℕ
look_operations s = prepared_operations s + ends_operations s + begins_operations s + step_operations s.rising

abbrev pub run_operations : Asked → ℕ
run_operations s = look_operations s + near_operations s

-- more than four variables, and more nodes than the budget has may be added by so many operations
pub record MayPass (variables budget operations : ℕ) : Type 0 where
  pub many : 4 < variables
  pub passed : budget < 2 + 2 ^ variables * operations

-- ---- what stands where a run begins

-- the phase is opened, and its roots are those of the setting where each step begins; behind the words of the phase stand those of the steps
pub record IsPrepared (s : Asked) (p : Prepared) (d : Diagrams) : Type 0 where
  pub handles : HasStepHandles (of_asked s).circuit p.words d
  pub start : (n : ℕ) → GivesSettings (of_asked s) s.rising.phase s.rising.nets.now n (start_at (of_asked s) s.rising.phase s.rising.nets.now) p.words.setting d
  pub given : (bits : List Bool) → IsSettingAt (of_asked s).circuit (root_at d p.words.given (bits_of bits)) (setting_of (of_asked s) s.rising.phase bits)
  pub live : IsLive d p.care
  pub cared : (bits : List Bool) → at_bits d p.care bits ≡ met (of_asked s) s.rising.phase bits
  pub least : IsSpan d p.least × (p.least.len ≡ d.vars)
  pub used : IsUsed d.budget d.vars (prepared_operations s) d
  pub vars : d.vars ≡ phase_variables s
  pub budget : 65536 ≤ d.budget

-- ---- below a valuation

-- the bits come before a valuation, if there is one
abbrev pub is_below : Option Found → List Bool → Bool
is_below None bits = true
is_below (Some bound) bits = is_less bits bound.bits

-- at a bound, if there is one, a step fails
abbrev pub IsBound : Comparison → ℕ → List ℕ → ℕ → Option Found → Type 0
IsBound k phase nets n None = Unit {0}
IsBound k phase nets n (Some bound) = FailsAt k phase nets n bound.bits

-- ---- what is found

-- the valuation that stands in the words of a span: 1 where the word is 1
abbrev pub bits_there : Diagrams → Span → List Bool
bits_there d words = map (bits_in d.words words.start) (range_with_len 0 words.len)

-- below the bound each step holds, or at these bits one fails; or the budget, where so many operations may need more nodes
abbrev pub RunGives : Asked → ℕ → Option Found → ℕ → NetFound → Type 0
RunGives s n bound budget Holds =
    (bits : List Bool) → IsStepAt (of_asked s) s.rising.phase s.rising.nets.now n bits → is_below bound bits ≡ true → HoldsAt (of_asked s) s.rising.phase s.rising.nets.now n bits
RunGives s n bound budget (Fails bits) = FailsAt (of_asked s) s.rising.phase s.rising.nets.now n bits.bits × (is_below bound bits.bits ≡ true)
RunGives s n bound budget Spent = MayPass (asked_variables s) budget (run_operations s)

-- a step of the net may end with these bits: they meet the constraints, the net ends at 1, and they come before those with which the bound ends
abbrev pub is_end : Asked → ℕ → Option Found → List Bool → Bool
is_end s n bound xs =
    (met (of_asked s) s.rising.phase xs && (setting_of (of_asked s) s.rising.phase xs).inputs n) && ends_below s.order.now bound (bits_of xs)

-- At these valuations steps of the net fail below the bound: the handle is live and not that of the constant 0, at each of its valuations the net has
-- not risen and an end is reached, and each step that begins at one of them fails.
pub record FailsSomewhere (s : Asked) (n : ℕ) (bound : Option Found) (ends at : H) (d : Diagrams) : Type 0 where
  pub live : IsLive d at
  pub some : at.0 ≢ 0
  pub begins :
      (xs : List Bool) → at_bits d at xs ≡ true
      → ((setting_of (of_asked s) s.rising.phase xs).inputs n ≡ false) × (reached_of s.order.now s.arrivals.now bound (function_of d ends) (bits_of xs) ≡ true)
  pub fails :
      (bits : List Bool) → IsStepAt (of_asked s) s.rising.phase s.rising.nets.now n bits → at_begun (of_asked s) s.rising.phase s.rising.nets.now d at bits ≡ true
      → FailsAt (of_asked s) s.rising.phase s.rising.nets.now n bits

abbrev pub LookGives : Asked → ℕ → Option Found → H → Diagrams → Option H → Type 0
LookGives s n bound ends d None = RunGives s n bound d.budget Holds
LookGives s n bound ends d (Some at) = FailsSomewhere s n bound ends at d

-- what a look leaves: a live handle of the ends, and what was found
pub record IsLooked (s : Asked) (n : ℕ) (bound : Option Found) (looked : Looked) (d : Diagrams) : Type 0 where
  pub live : IsLive d looked.ends
  pub ends : (xs : List Bool) → at_bits d looked.ends xs ≡ is_end s n bound xs
  pub found : LookGives s n bound looked.ends d looked.found
  pub least : IsSpan d looked.least × (looked.least.len ≡ d.vars)
  pub used : IsUsed d.budget d.vars (look_operations s) d
  pub vars : d.vars ≡ phase_variables s
  pub budget : 65536 ≤ d.budget

-- the first bits of a bound
abbrev pub first_bits : ℕ → Option Found → List Bool
first_bits count None = []
first_bits count (Some bound) = take count bound.bits

-- at these bits the function is 1, or it is 0 everywhere and they are those of the bound
abbrev pub EndIs : Diagrams → H → ℕ → Option Found → List Bool → Type 0
EndIs d near count bound xs = ((at_bits d near xs ≡ true) × (length xs ≡ d.vars)) ⊎ ((near.0 ≡ 0) × (xs ≡ first_bits count bound))
