-- Wishes against the bits of handles: which are missed, and the first.
use Rattle.std.specs.Prelude.{◌≡◌, ◌≢◌, ℕ, ◌<◌, ◌↔◌, ◌&&◌, Bool, true, false, cond, List, [], ◌∷◌, Option, Some, None, map}
use Rattle.bdd_core.specs.Diagram.{Function, Valuation}
use Rattle.bdd_core.specs.Store.{Diagrams, IsLive, IsSpan, Means, function_of}
use Rattle.bdd_core.specs.Words.{IsFilled, shows}
use Rattle.bdd_core.specs.declared.handle.H.{H}
use Rattle.bdd_ops.specs.Counting.{IsSpanWithin}
use Rattle.fault_places.specs.Searches.{IsClearOf, IsFoundIn, Spot}
use Rattle.phase_wishes.specs.Wishes.{AreOnce, IsMissed, is_asked, spot_of, wanted_bit}
use Rattle.phase_wishes.specs.declared.missed.WishFault.{WishFault}
use Rattle.phase_wishes.specs.declared.wishes.Wanted.{Wanted}
use Rattle.phase_wishes.specs.declared.wishes.Wanted.TheVariants.{Signal, Element, Other, Constant}
use Rattle.phase_wishes.specs.declared.wishes.Wish.{Wish}
use Rattle.phase_wishes.specs.declared.wishes.WishBits.{WishBits}
use Rattle.vrt_model.specs.Assignment.{Assignment}
use Rattle.vrt_model.specs.Lists.{Among, At, differ}
use Rattle.vrt_model.specs.Reading.{Partial}

-- ---- handles

-- live handles
pub record AreBits (d : Diagrams) (bits : WishBits) : Type 0 where
  pub gates_span : IsSpan d bits.gates
  pub gates_live : IsFilled d bits.gates
  pub values_span : IsSpan d bits.values
  pub values_live : IsFilled d bits.values
  pub next_span : IsSpan d bits.next
  pub next_live : IsFilled d bits.next

-- the handles read only the first u variables
abbrev pub AreWithin : ℕ → Diagrams → WishBits → Type 0
AreWithin u d bits = IsSpanWithin u d bits.gates × IsSpanWithin u d bits.values × IsSpanWithin u d bits.next

-- there is a handle for what is wanted
abbrev pub IsInside : WishBits → Wanted → Type 0
IsInside bits (Signal signal) = signal < bits.values.len
IsInside bits (Element element inverted) = element < bits.next.len
IsInside bits (Other net inverted) = net.0 < bits.gates.len
IsInside bits (Constant v) = Unit {0}

-- there is a handle for a don't-care bit
abbrev pub IsFreeInside : WishBits → Option ℕ → Type 0
IsFreeInside bits None = Unit {0}
IsFreeInside bits (Some bit) = bit < bits.values.len

-- there are handles for the net of a wish, for what is wanted and for its don't-care bit
abbrev pub IsWithinBits : WishBits → Wish → Type 0
IsWithinBits bits wish = (wish.net.0 < bits.gates.len) × IsInside bits wish.wanted × IsFreeInside bits wish.free

-- whether the inverse of a bit is wanted
abbrev pub is_turned : Wanted → Bool
is_turned (Signal signal) = false
is_turned (Element element inverted) = inverted
is_turned (Other net inverted) = inverted
is_turned (Constant v) = false

-- the bit that is wanted, or whose inverse is
abbrev pub source_at : Diagrams → WishBits → Wanted → Function
source_at d bits (Signal signal) = shows d bits.values signal
source_at d bits (Element element inverted) = shows d bits.next element
source_at d bits (Other net inverted) = shows d bits.gates net.0
source_at d bits (Constant v) = λ _. v

-- a bit or its inverse
abbrev pub turned_of : Bool → Function → Function
turned_of inverted f = λ v. differ inverted (f v)

-- the bit that is wanted
abbrev pub wanted_at : Diagrams → WishBits → Wanted → Function
wanted_at d bits wanted = turned_of (is_turned wanted) (source_at d bits wanted)

-- the bit of the net of a wish
abbrev pub net_at : Diagrams → WishBits → Wish → Function
net_at d bits wish = shows d bits.gates wish.net.0

-- where there is care and a don't-care bit is 0
abbrev pub asked_in : Diagrams → H → WishBits → Option ℕ → Function
asked_in d care bits None = function_of d care
asked_in d care bits (Some bit) = λ v. cond (shows d bits.values bit v) false (function_of d care v)

-- where there is care and two bits differ
abbrev pub difference_of : Function → Function → Function → Function
difference_of care net wanted = λ v. care v && differ (net v) (wanted v)

-- ---- by functions

-- where a wish is missed among these valuations, and the two bits there
pub record IsComparedAt (old new : Diagrams) (asked : Function) (bits : WishBits) (wish : Wish) (fault : WishFault) : Type 0 where
  pub wish_is : fault.wish ≡ wish
  pub at : Means new fault.at (difference_of asked (net_at old bits wish) (wanted_at old bits wish.wanted))
  pub circuit : Means new fault.circuit (net_at old bits wish)
  pub wanted : Means new fault.wanted (wanted_at old bits wish.wanted)

-- the same in the care set where the wish is asked for
abbrev pub IsCompared : Diagrams → Diagrams → H → WishBits → Wish → WishFault → Type 0
IsCompared old new care bits wish fault = IsComparedAt old new (asked_in old care bits wish.free) bits wish fault

-- in the care set, where a wish is asked for, its net has the bit that it ought to
abbrev pub IsMet : H → WishBits → Diagrams → Wish → Type 0
IsMet care bits d wish = (v : Valuation) → asked_in d care bits wish.free v ≡ true → net_at d bits wish v ≡ wanted_at d bits wish.wanted v

-- The first wish that is missed. The handle is live, not that of the constant 0, and is 1 exactly where there is care, the wish is
-- asked for and the bit of the net is not the one that it ought to be; two more handles have these two bits. Each wish before it is
-- met.
pub record IsFirstMissed (wishes : List Wish) (care : H) (bits : WishBits) (fault : WishFault) (old new : Diagrams) : Type 0 where
  pub index : ℕ
  pub stands : At wishes index fault.wish
  pub live : IsLive new fault.at
  pub some : fault.at.0 ≢ 0
  pub exact :
      (v : Valuation)
      → (function_of new fault.at v ≡ true) ↔ ((asked_in old care bits fault.wish.free v ≡ true) × (net_at old bits fault.wish v ≢ wanted_at old bits fault.wish.wanted v))
  pub circuit : Means new fault.circuit (net_at old bits fault.wish)
  pub wanted : Means new fault.wanted (wanted_at old bits fault.wish.wanted)
  pub before : (i : ℕ) (wish : Wish) → i < index → At wishes i wish → IsMet care bits old wish

-- each wish is met, or the first that is missed
abbrev pub WishesGive : List Wish → H → WishBits → Diagrams → Diagrams → Option WishFault → Type 0
WishesGive wishes care bits old new None = (i : ℕ) (wish : Wish) → At wishes i wish → IsMet care bits old wish
WishesGive wishes care bits old new (Some fault) = IsFirstMissed wishes care bits fault old new

-- ---- by cases

-- the net whose bit is wanted, if it is that of a net
abbrev pub nets_in : Wanted → List ℕ
nets_in (Signal signal) = []
nets_in (Element element inverted) = []
nets_in (Other net inverted) = net.0 ∷ []
nets_in (Constant v) = []

-- the nets of which a wish speaks
abbrev pub nets_of : Wish → List ℕ
nets_of wish = wish.net.0 ∷ nets_in wish.wanted

-- a valuation, with a solution and an assignment that have the bits of the handles there: of the nets of which wishes speak, of
-- the signals and of the elements
pub record WishCase (wishes : List Wish) (bits : WishBits) (d : Diagrams) : Type 0 where
  pub valuation : Valuation
  pub solution : Partial
  pub assignment : Assignment
  pub nets : (wish : Wish) (n : ℕ) → Among wishes wish → Among (nets_of wish) n → solution n ≡ Some (shows d bits.gates n valuation)
  pub signals : (signal : ℕ) → signal < bits.values.len → assignment.signal signal ≡ shows d bits.values signal valuation
  pub elements : (element : ℕ) → element < bits.next.len → assignment.next element ≡ shows d bits.next element valuation

-- a wish of the place is missed in such a case
abbrev pub MissedIn : (wishes : List Wish) (bits : WishBits) (d : Diagrams) → Spot → WishCase wishes bits d → Type 0
MissedIn wishes bits d x v = IsMissed wishes x v.solution v.assignment

-- The first wish that is missed in the list, where no two wishes have the same place; in each case the two handles have the bit of
-- its net and the bit that is wanted, and it is asked for where it is missed.
pub record IsFoundWish (wishes : List Wish) (care : H) (bits : WishBits) (fault : WishFault) (old new : Diagrams) : Type 0 where
  pub among : Among wishes fault.wish
  pub found :
      AreOnce wishes
      → IsFoundIn (MissedIn wishes bits old) (λ (v : WishCase wishes bits old). function_of old care v.valuation)
      (λ (v : WishCase wishes bits old). function_of new fault.at v.valuation) (map spot_of wishes) (spot_of fault.wish)
  pub asked : (v : WishCase wishes bits old) → function_of new fault.at v.valuation ≡ true → is_asked fault.wish v.assignment ≡ true
  pub has : (v : WishCase wishes bits old) → v.solution fault.wish.net.0 ≡ Some (function_of new fault.circuit v.valuation)
  pub ought : (v : WishCase wishes bits old) → wanted_bit fault.wish.wanted v.solution v.assignment ≡ Some (function_of new fault.wanted v.valuation)

-- no wish is missed in the care set, or the first that is
abbrev pub WishesFind : List Wish → H → WishBits → Diagrams → Diagrams → Option WishFault → Type 0
WishesFind wishes care bits old new None =
    IsClearOf (MissedIn wishes bits old) (λ (v : WishCase wishes bits old). function_of old care v.valuation) (map spot_of wishes)
WishesFind wishes care bits old new (Some fault) = IsFoundWish wishes care bits fault old new
