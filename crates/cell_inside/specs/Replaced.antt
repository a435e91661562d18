-- A cell that is left whole, at one reading: a third network has roots in place of the cell's devices, one for each exposed
-- output, at the level and with the value that the cell alone gives it.
use Rattle.std.specs.Prelude.{◌≡◌, ℕ, ◌<◌, ◌⊎◌, Bool, true, false}
use Rattle.cell_inside.specs.Inside.{HasFight, HasSameReaches, HasSameStrengths, IsCopy, IsInside, IsOutside, Touches}
use Rattle.vrt_model.specs.Networks.{HasLevels, IsFinite}
use Rattle.vrt_model.specs.Path.{IsOn, IsRoot, Joins, Network, Root}
use Rattle.vrt_model.specs.Response.{Reaches}
use Rattle.vrt_model.specs.declared.circuit.Device.{Device}

-- ---- roots in place of a cell

-- the same root at another net
abbrev pub root_at : ℕ → Root → Root
root_at n root = record { net = n; level = root.level; value = root.value }

-- the root that drives an output
abbrev pub drive_root : ℕ → ℕ → Bool → Root
drive_root n level value = record { net = n; level = level; value = value }

-- how the network with the cell whole comes from that with the cell in it: which nets of the circuit are compared, and the
-- number `moved` of each with the cell whole. Of the nets inside, exactly the exposed outputs are compared.
pub record IsReplaced (cell circuit whole : Network) (at moved : ℕ → ℕ) (inside exposed compared : ℕ → Bool) (drive : ℕ → ℕ) (value : ℕ → Bool) : Type 0 where
  pub source : circuit.source ≡ whole.source
  -- of the nets inside, the exposed ones are compared, and no others
  pub exposed_compared : (n : ℕ) → exposed n ≡ true → compared (at n) ≡ true
  pub inside_compared : (n : ℕ) → inside n ≡ true → compared (at n) ≡ true → exposed n ≡ true
  pub moved_apart : (k l : ℕ) → compared k ≡ true → compared l ≡ true → moved k ≡ moved l → k ≡ l
  -- the devices outside stay, between compared nets, and no others
  pub ends : (e : Device) (k : ℕ) → IsOn circuit e → IsOutside cell at e → Touches e k → compared k ≡ true
  pub devices_there : (e : Device) → IsOn circuit e → IsOutside cell at e → (f : Device) × IsOn whole f × IsCopy moved e f
  pub devices_back : (f : Device) → IsOn whole f → (e : Device) × IsOn circuit e × IsCopy moved e f × ((k : ℕ) → Touches e k → compared k ≡ true)
  -- the roots at compared nets stay, and those of the exposed outputs are new
  pub roots_there : (root : Root) → IsRoot circuit root → compared root.net ≡ true → IsRoot whole (root_at (moved root.net) root)
  pub drives_there : (n : ℕ) → exposed n ≡ true → IsRoot whole (drive_root (moved (at n)) (drive n) (value n))
  pub roots_back :
      (root : Root) (k : ℕ) → IsRoot whole root → compared k ≡ true → root.net ≡ moved k
      → IsRoot circuit (root_at k root)
      ⊎ ((n : ℕ) × (exposed n ≡ true) × (at n ≡ k) × (root.level ≡ drive n) × (root.value ≡ value n))
  -- exactly one value reaches an exposed output in the cell alone
  pub values : (n : ℕ) → exposed n ≡ true → Reaches cell n (value n) × ((v : Bool) → Reaches cell n v → v ≡ value n)

-- ---- outputs that the cell joins

-- the nets inside to which conducting devices of the cell lead from the net n
pub data IsJoined (w : Network) (inside : ℕ → Bool) (n : ℕ) : ℕ → Type 0 where
  itself : inside n ≡ true → IsJoined w inside n n
  onward : {l m : ℕ} (d : Device) → IsJoined w inside n l → IsOn w d → Joins d l m → inside m ≡ true → IsJoined w inside n m

-- two exposed outputs that conducting devices of the cell join are one net outside
abbrev pub AreUnjoined : Network → (ℕ → ℕ) → (ℕ → Bool) → (ℕ → Bool) → Type 0
AreUnjoined cell at inside exposed = (m n : ℕ) → exposed m ≡ true → exposed n ≡ true → IsJoined cell inside m n → at m ≡ at n

-- both values reach, with the cell whole, an exposed output that conducting devices join to a net inside
abbrev pub FightsBeside : Network → Network → (ℕ → ℕ) → (ℕ → Bool) → (ℕ → Bool) → ℕ → Type 0
FightsBeside cell whole place inside exposed n =
    (m : ℕ) × (exposed m ≡ true) × IsJoined cell inside m n × Reaches whole (place m) true × Reaches whole (place m) false

-- ---- laws

-- The law where the cell joins no two exposed outputs: with the cell whole each compared net has the same strength, and exactly
-- the same values reach it, as with the cell in the circuit, also where an output fights. What reaches a net inside reaches it
-- in the cell alone, or an output that is joined to it fights.
abbrev pub WholeStandsForUnjoinedOutputs : Type 0
WholeStandsForUnjoinedOutputs =
    (cell circuit whole : Network) (at moved : ℕ → ℕ) (inside exposed compared : ℕ → Bool) (drive : ℕ → ℕ) (value : ℕ → Bool) (nets all_nets whole_nets : ℕ)
    → HasLevels cell → HasLevels circuit → HasLevels whole
    → IsFinite cell nets cell.source → IsFinite circuit all_nets circuit.source → IsFinite whole whole_nets whole.source
    → IsInside cell circuit at inside exposed drive
    → IsReplaced cell circuit whole at moved inside exposed compared drive value
    → AreUnjoined cell at inside exposed
    → HasSameStrengths circuit whole moved compared × HasSameReaches circuit whole moved compared
    × ((n : ℕ) (v : Bool) → inside n ≡ true → Reaches circuit (at n) v → Reaches cell n v ⊎ FightsBeside cell whole (λ m. moved (at m)) inside exposed n)

-- The law: with the cell whole each compared net has the same strength as with the cell in the circuit, and what reaches it
-- reaches it there too; unless some exposed output fights with the cell whole, exactly the same values reach each compared net,
-- and each net inside as in the cell alone.
abbrev pub WholeStandsForCell : Type 0
WholeStandsForCell =
    (cell circuit whole : Network) (at moved : ℕ → ℕ) (inside exposed compared : ℕ → Bool) (drive : ℕ → ℕ) (value : ℕ → Bool) (nets all_nets whole_nets : ℕ)
    → HasLevels cell → HasLevels circuit → HasLevels whole
    → IsFinite cell nets cell.source → IsFinite circuit all_nets circuit.source → IsFinite whole whole_nets whole.source
    → ((n : ℕ) → exposed n ≡ true → n < nets)
    → IsInside cell circuit at inside exposed drive
    → IsReplaced cell circuit whole at moved inside exposed compared drive value
    → HasSameStrengths circuit whole moved compared
    × ((k : ℕ) (v : Bool) → compared k ≡ true → Reaches whole (moved k) v → Reaches circuit k v)
    × (HasFight whole (λ n. moved (at n)) exposed ⊎ (HasSameReaches circuit whole moved compared × HasSameReaches cell circuit at inside))
