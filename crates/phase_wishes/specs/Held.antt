-- What holds ought to be given: which, by their groups and by their `enter` lines, and a table of them by net.
use Rattle.std.specs.Prelude.{◌≡◌, ℕ, ◌+◌, ◌<◌, ◌⊎◌, ◌++◌, Bool, false, List, [], ◌∷◌, Option, Some, None, option_map, slice_get, get_or, length}
use Rattle.std.specs.List.{cons_option}
use Rattle.phase_wishes.specs.Wishes.{AreWishesOf}
use Rattle.phase_wishes.specs.declared.bases.Stored.{Stored}
use Rattle.phase_wishes.specs.declared.bases.Stored.TheVariants.{Latches, Others}
use Rattle.phase_wishes.specs.declared.wishes.Wanted.{Wanted}
use Rattle.phase_wishes.specs.declared.wishes.Wanted.TheVariants.{Signal, Element, Other, Constant}
use Rattle.phase_wishes.specs.declared.wishes.Wish.{Wish}
use Rattle.vrt_model.specs.Comparison.{Comparison}
use Rattle.vrt_model.specs.Lists.{Among, At, differ}
use Rattle.vrt_model.specs.Variables.{enter_of}
use Rattle.vrt_model.specs.declared.circuit.Circuit.{Circuit}
use Rattle.vrt_model.specs.declared.circuit.Hold.{Hold}
use Rattle.vrt_model.specs.declared.groups.Group.{Group}
use Rattle.vrt_model.specs.declared.groups.Member.{Member}
use Rattle.vrt_model.specs.declared.ids.Net.{Net}
use Rattle.vrt_model.specs.declared.rules.Rules.{Rules}
use Rattle.vrt_model.specs.declared.verdict.FaultKind.{FaultKind}
use Rattle.vrt_model.specs.declared.verdict.FaultKind.TheVariants.{Next, Apart, Enter}

-- ---- what the call says

-- the kinds of faults at holds, in their order
abbrev pub held_kinds : List FaultKind
held_kinds = Next ∷ Apart ∷ Enter ∷ []

-- all that holds ought to be given, in any comparison of this circuit with these rules and groups
abbrev pub AreHeldWishes : Circuit → Rules → List Group → ℕ → List FaultKind → List Wish → Type 0
AreHeldWishes c rules groups phase kinds wishes =
    (k : Comparison) → k.circuit ≡ c → k.rules ≡ rules → k.groups ≡ groups → AreWishesOf kinds k phase wishes

-- a net that has a hold
abbrev pub IsHoldNet : Circuit → ℕ → Type 0
IsHoldNet c n = (h : Hold) × Among c.holds h × (h.net.0 ≡ n)

-- what holds are given: the new bit of an element that a group reaches, the bit of a net that has a hold, or a constant
abbrev pub IsOfHold : Circuit → List Group → Wanted → Type 0
IsOfHold c groups (Signal signal) = ⊥
IsOfHold c groups (Element element inverted) = (group : Group) × Among groups group × (group.element ≡ Some element)
IsOfHold c groups (Other net inverted) = IsHoldNet c net.0
IsOfHold c groups (Constant v) = Unit {0}

-- a wish at a net that has a hold, without a don't-care bit
abbrev pub IsHoldWish : Circuit → List Group → Wish → Type 0
IsHoldWish c groups wish = IsHoldNet c wish.net.0 × IsOfHold c groups wish.wanted × (wish.free ≡ None)

-- a list has more behind what it had: all that holds ought to be given for faults of these kinds
pub record AddsHeld (c : Circuit) (rules : Rules) (groups : List Group) (phase : ℕ) (kinds : List FaultKind) (old new : List Wish) : Type 0 where
  pub more : List Wish
  pub is : new ≡ old ++ more
  pub wishes : AreHeldWishes c rules groups phase kinds more
  pub known : (wish : Wish) → Among more wish → IsHoldWish c groups wish

-- ---- by groups

abbrev pub kind_of : Stored → FaultKind
kind_of Latches = Next
kind_of Others = Apart

-- the new bit of an element
abbrev pub element_of : Option ℕ → Option Wanted
element_of element = option_map (λ (e : ℕ). Element e false) element

-- the bit at the end of a hold, by the bit of its net
abbrev pub least_of : Circuit → Member → Option Wanted
least_of c least = option_map (λ (h : Hold). Other h.net least.inverted) (slice_get c.holds least.hold)

-- the same of the first member, where there is no element
abbrev pub least_by : Circuit → Option ℕ → Option Member → Option Wanted
least_by c (Some e) least = None
least_by c None None = None
least_by c None (Some least) = least_of c least

-- what the holds of a group ought to have, but for their polarity, where it is such a group
abbrev pub base_of : Circuit → Stored → Group → Option Wanted
base_of c Latches group = element_of group.element
base_of c Others group = least_by c group.element (slice_get group.members 0)

-- a bit or its inverse
abbrev pub with_polarity : Wanted → Bool → Wanted
with_polarity (Signal signal) inverted = Signal signal
with_polarity (Element element turned) inverted = Element element (differ inverted turned)
with_polarity (Other net turned) inverted = Other net (differ inverted turned)
with_polarity (Constant v) inverted = Constant (differ inverted v)

-- the net of this number is that of the member's hold, which ought to have this
abbrev pub IsOfMember : Circuit → Wanted → Member → ℕ → Wanted → Type 0
IsOfMember c base m n w = (h : Hold) × At c.holds m.hold h × (h.net.0 ≡ n) × (w ≡ with_polarity base m.inverted)

-- the same of one of some members, of a group, and of one of some groups
abbrev pub IsOfMembers : Circuit → Wanted → List Member → ℕ → Wanted → Type 0
IsOfMembers c base members n w = (m : Member) × Among members m × IsOfMember c base m n w

abbrev pub IsOfGroup : Circuit → Stored → Group → ℕ → Wanted → Type 0
IsOfGroup c stored group n w = (base : Wanted) × (base_of c stored group ≡ Some base) × IsOfMembers c base group.members n w

abbrev pub IsOfGroups : Circuit → Stored → List Group → ℕ → Wanted → Type 0
IsOfGroups c stored groups n w = (group : Group) × Among groups group × IsOfGroup c stored group n w

-- ---- by `enter` lines

-- the hold at a place, as a member with its own polarity
abbrev pub alone : ℕ → Member
alone place = record { hold = place; inverted = false }

-- the net of this number is that of the hold at this place, which ought to have this constant for a phase
abbrev pub IsOfEnter : Circuit → ℕ → ℕ → ℕ → Wanted → Type 0
IsOfEnter c phase place n w = (v : Bool) × (enter_of c phase place ≡ Some v) × IsOfMember c (Constant v) (alone place) n w

abbrev pub IsOfEnters : Circuit → ℕ → ℕ → Wanted → Type 0
IsOfEnters c phase n w = (place : ℕ) × IsOfEnter c phase place n w

-- ---- tables by net

-- what a table has for a net
abbrev pub entry : List (Option Wanted) → ℕ → Option Wanted
entry table n = get_or table n None

-- these were put into a table: what is new is one of them, each of them has an entry at its net, and no entry went
pub record Puts (Is : ℕ → Wanted → Type 0) (old new : List (Option Wanted)) : Type 0 where
  pub len : length new ≡ length old
  pub kept : (n : ℕ) (w : Wanted) → entry new n ≡ Some w → (entry old n ≡ Some w) ⊎ Is n w
  pub there : (n : ℕ) (w : Wanted) → Is n w → n < length old → (x : Wanted) × (entry new n ≡ Some x)
  pub stay : (n : ℕ) (w : Wanted) → entry old n ≡ Some w → (x : Wanted) × (entry new n ≡ Some x)

-- the wish of an entry at a net
abbrev pub wish_by : FaultKind → ℕ → Option Wanted → Option Wish
wish_by kind n found =
    option_map (λ (w : Wanted). let net : Net = record { 0 = n } in let wish : Wish = record { kind = kind; place = n; net = net; wanted = w; free = None } in wish) found

-- the wishes of the entries of a table, whose first net has this number
abbrev pub wishes_from : FaultKind → ℕ → List (Option Wanted) → List Wish
wishes_from kind n [] = []
wishes_from kind n (x ∷ xs) = cons_option (wish_by kind n x) (wishes_from kind (n + 1) xs)
