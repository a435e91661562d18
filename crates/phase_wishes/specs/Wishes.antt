-- What nets ought to be given in a phase.
use Rattle.std.specs.Prelude.{◌≡◌, ℕ, ◌<◌, Bool, true, not, List, [], ◌∷◌, Option, Some, option_map, unwrap_or}
use Rattle.fault_places.specs.Searches.{Spot}
use Rattle.phase_wishes.specs.declared.wishes.Wanted.{Wanted}
use Rattle.phase_wishes.specs.declared.wishes.Wanted.TheVariants.{Signal, Element, Other, Constant}
use Rattle.phase_wishes.specs.declared.wishes.Wish.{Wish}
use Rattle.vrt_model.specs.Assignment.{Assignment}
use Rattle.vrt_model.specs.CellRules.{is_observed_port}
use Rattle.vrt_model.specs.Comparison.{CellPort, Comparison, cell_at, output_signal, ports_of}
use Rattle.vrt_model.specs.Faults.{WantsValue, is_free}
use Rattle.vrt_model.specs.Lists.{Among, At, differ}
use Rattle.vrt_model.specs.Places.{comes_before, standing}
use Rattle.vrt_model.specs.Reading.{Partial}
use Rattle.vrt_model.specs.declared.verdict.FaultKind.{FaultKind}
use Rattle.vrt_model.specs.declared.verdict.FaultKind.TheVariants.{Differs, Next, Apart, Enter}

-- the bit that is wanted, where a solution and an assignment are given
abbrev pub wanted_bit : Wanted → Partial → Assignment → Option Bool
wanted_bit (Signal signal) a g = Some (g.signal signal)
wanted_bit (Element element inverted) a g = Some (differ inverted (g.next element))
wanted_bit (Other net inverted) a g = option_map (λ (v : Bool). differ inverted v) (a net.0)
wanted_bit (Constant v) a g = Some v

-- the wish is asked for: its don't-care bit, if it has one, is 0
abbrev pub is_asked : Wish → Assignment → Bool
is_asked wish g = unwrap_or (option_map (λ (bit : ℕ). not (g.signal bit)) wish.free) true

-- the place of a wish
abbrev pub spot_of : Wish → Spot
spot_of wish = record { kind = wish.kind; at = wish.place }

-- under each solution and assignment for which the wish is asked for the net ought to have the bit that is wanted
abbrev pub IsWish : Comparison → ℕ → Wish → Type 0
IsWish k phase wish =
    (a : Partial) (g : Assignment) → is_asked wish g ≡ true → WantsValue k phase a g wish.kind wish.place wish.net.0 (wanted_bit wish.wanted a g)

-- an output port with its signal, in a phase in which it is observed
pub record IsSeenOutput (k : Comparison) (phase at : ℕ) (port : CellPort) (signal : ℕ) : Type 0 where
  pub there : At (ports_of k) at port
  pub role : output_signal port.role ≡ Some signal
  pub seen : is_observed_port k.rules (cell_at k.design k.cell).name port.name phase ≡ true

-- the wish is asked for and says that the net of this number ought to have this bit, for a fault of this kind at this place
pub record Says (wish : Wish) (a : Partial) (g : Assignment) (kind : FaultKind) (at n : ℕ) (w : Option Bool) : Type 0 where
  pub kind_is : wish.kind ≡ kind
  pub place_is : wish.place ≡ at
  pub net_is : wish.net.0 ≡ n
  pub wanted_is : wanted_bit wish.wanted a g ≡ w
  pub asked_is : is_asked wish g ≡ true

-- all that nets ought to be given, for faults of these kinds, in the order of places
pub record AreWishesOf (kinds : List FaultKind) (k : Comparison) (phase : ℕ) (wishes : List Wish) : Type 0 where
  pub only : (wish : Wish) → Among wishes wish → Among kinds wish.kind
  pub each : (wish : Wish) → Among wishes wish → IsWish k phase wish
  pub all :
      (kind : FaultKind) (at n : ℕ) (w : Option Bool) (a : Partial) (g : Assignment) → Among kinds kind → WantsValue k phase a g kind at n w
      → (wish : Wish) × Among wishes wish × Says wish a g kind at n w
  pub sorted :
      (rank least : ℕ → ℕ) (i j : ℕ) (x y : Wish) → At wishes i x → At wishes j y → i < j
      → comes_before (standing k phase rank least x.kind x.place) (standing k phase rank least y.kind y.place) ≡ true

-- the kinds of faults at which nets do not have what they ought to, in their order
abbrev pub wished_kinds : List FaultKind
wished_kinds = Differs ∷ Next ∷ Apart ∷ Enter ∷ []

-- all that nets ought to be given
abbrev pub AreWishes : Comparison → ℕ → List Wish → Type 0
AreWishes k phase wishes = AreWishesOf wished_kinds k phase wishes

-- a wish for each output port that is observed in the phase, in the order of the ports: its net ought to have the bit of its signal
pub record AreOutputWishes (k : Comparison) (phase : ℕ) (wishes : List Wish) : Type 0 where
  pub kinds : (wish : Wish) → Among wishes wish → wish.kind ≡ Differs
  pub each :
      (wish : Wish) → Among wishes wish
      → (port : CellPort) × (signal : ℕ) × IsSeenOutput k phase wish.place port signal × (wish.net.0 ≡ port.net) × (wish.wanted ≡ Signal signal)
  pub all : (at : ℕ) (port : CellPort) (signal : ℕ) → IsSeenOutput k phase at port signal → (wish : Wish) × Among wishes wish × (wish.place ≡ at)
  pub rising : (i j : ℕ) (x y : Wish) → At wishes i x → At wishes j y → i < j → x.place < y.place

-- a wish for a signal is asked for where the signal is not free
abbrev pub AreFreeBits : Comparison → List Wish → Type 0
AreFreeBits k wishes =
    (wish : Wish) (signal : ℕ) (g : Assignment) → Among wishes wish → wish.wanted ≡ Signal signal → is_asked wish g ≡ not (is_free k.model g signal)

-- no two wishes have the same place
abbrev pub AreOnce : List Wish → Type 0
AreOnce wishes = (i j : ℕ) (x y : Wish) → At wishes i x → At wishes j y → spot_of x ≡ spot_of y → i ≡ j

-- a wish of this place is asked for and missed
pub record IsMissed (wishes : List Wish) (x : Spot) (a : Partial) (g : Assignment) : Type 0 where
  pub wish : Wish
  pub among : Among wishes wish
  pub here : spot_of wish ≡ x
  pub asked : is_asked wish g ≡ true
  pub missed : (a wish.net.0 ≡ wanted_bit wish.wanted a g) → ⊥
