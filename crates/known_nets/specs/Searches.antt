-- A search for known nets: what always holds of it between two looks, and what a look leaves.
use Rattle.std.specs.Prelude.{◌≡◌, ℕ, ◌<◌, ◌≢◌, ◌⊎◌, Bool, true, false, List, length, map, Option, Some}
use Rattle.known_nets.specs.Conduction.{is_plain_at}
use Rattle.known_nets.specs.KnownTables.{AreKnown, HasFixedNets, fixed_bit_of, known_at}
use Rattle.known_nets.specs.Learned.{unknown}
use Rattle.known_nets.specs.Regions.{AreZero, HasKept, IsSettled}
use Rattle.known_nets.specs.Spreads.{AreNone}
use Rattle.known_nets.specs.Waits.{HasWaited, waits}
use Rattle.known_nets.specs.declared.known.Search.{Search}
use Rattle.vrt_model.specs.Lists.{Among}
use Rattle.vrt_model.specs.declared.circuit.Circuit.{Circuit}
use Rattle.vrt_model.specs.declared.circuit.FlatNet.{FlatNet}
use Rattle.vrt_model.specs.declared.rules.Phase.{Phase}

-- each list has an entry for each net, and no net has an amount
pub record IsSearch (c : Circuit) (s : Search) : Type 0 where
  pub known : length s.known.items ≡ length c.nets
  pub marks : length s.waiting.marks.items ≡ length c.nets
  pub inside : AreNone (length c.nets) s.inside
  pub tables : AreZero (length c.nets) s.tables

-- the supplies and the clock ports are known, and no net waits
pub record IsBegun (c : Circuit) (phase : Phase) (s : Search) : Type 0 where
  pub search : IsSearch c s
  pub known : s.known.items ≡ map (λ (net : FlatNet). fixed_bit_of phase net.kind) c.nets
  pub none : (n : ℕ) → waits s.waiting n ≡ false

-- each net that waits is plain and on the list
pub record IsReady (c : Circuit) (s : Search) : Type 0 where
  pub search : IsSearch c s
  pub plain : (n : ℕ) → waits s.waiting n ≡ true → is_plain_at c n ≡ true
  pub listed : (n : ℕ) → waits s.waiting n ≡ true → Among s.waiting.list.items n

-- no known bit is lost, and from known nets alone come known nets alone
pub record HasLearned (c : Circuit) (old new : List (Option Bool)) : Type 0 where
  pub grown : (n : ℕ) (v : Bool) → known_at old n ≡ Some v → known_at new n ≡ Some v
  pub known : (phase : Phase) → HasFixedNets c phase (known_at old) → AreKnown c phase (known_at old) → AreKnown c phase (known_at new)

-- a net was learned, or else nothing has changed
pub record IsProgress (more : Bool) (old new : Search) : Type 0 where
  pub list : more ≡ false → new.waiting.list.items ≡ old.waiting.list.items
  pub known : more ≡ false → new.known.items ≡ old.known.items
  pub less : more ≡ true → unknown new.known.items < unknown old.known.items

-- what is settled but for the nets that wait and some nets is settled but for those that wait
abbrev pub Settles : Circuit → List ℕ → Search → Search → Type 0
Settles c nets old new =
    (phase : Phase) (before : List Bool) → HasFixedNets c phase (known_at old.known.items) → AreKnown c phase (known_at old.known.items) → HasKept nets before old.waiting.marks.items
    → IsSettled c phase old.known.items before → IsSettled c phase new.known.items new.waiting.marks.items

-- what is settled but for the nets that wait stays so
abbrev pub StaysSettled : Circuit → Search → Search → Type 0
StaysSettled c old new =
    (phase : Phase) → HasFixedNets c phase (known_at old.known.items) → AreKnown c phase (known_at old.known.items)
    → IsSettled c phase old.known.items old.waiting.marks.items → IsSettled c phase new.known.items new.waiting.marks.items

-- a region with these nets has been looked at
pub record HasLookedAt (c : Circuit) (nets : List ℕ) (more : Bool) (old new : Search) : Type 0 where
  pub search : IsSearch c new
  pub learned : HasLearned c old.known.items new.known.items
  pub waited : HasWaited c old.waiting new.waiting
  pub settles : Settles c nets old new
  pub progress : IsProgress more old new

-- the region of a net has been looked at
pub record HasLookedAround (c : Circuit) (net : ℕ) (more : Bool) (old new : Search) : Type 0 where
  pub search : IsSearch c new
  pub learned : HasLearned c old.known.items new.known.items
  pub waiting : (n : ℕ) → waits new.waiting n ≡ true → ((waits old.waiting n ≡ true) × (n ≢ net)) ⊎ Among new.waiting.list.items n
  pub plain : (n : ℕ) → waits new.waiting n ≡ true → (waits old.waiting n ≡ true) ⊎ (is_plain_at c n ≡ true)
  pub stays : (n : ℕ) → Among old.waiting.list.items n → Among new.waiting.list.items n
  pub settled : StaysSettled c old new
  pub progress : IsProgress more old new

-- regions have been looked at until a net was learned, or no net waits
pub record HasSearched (c : Circuit) (more : Bool) (old new : Search) : Type 0 where
  pub ready : IsReady c new
  pub learned : HasLearned c old.known.items new.known.items
  pub settled : StaysSettled c old new
  pub none : more ≡ false → (n : ℕ) → waits new.waiting n ≡ false
  pub less : more ≡ true → unknown new.known.items < unknown old.known.items
