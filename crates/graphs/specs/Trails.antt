-- A search back over arcs from a number: what was met, and how arcs lead from there to the first.
use Rattle.std.specs.Prelude.{◌≡◌, ℕ, zero, suc, ◌<◌, ◌≤◌, List, [], ◌∷◌, length, get_or}
use Rattle.graphs.specs.Graphs.{ArcIn}
use Rattle.graphs.specs.declared.trail.Met.{Met}
use Rattle.vrt_model.specs.Known.{IsCycle, IsWalk}
use Rattle.vrt_model.specs.Lists.{At, Among}

-- how many places there are but 0
abbrev pub count_met : List ℕ → ℕ
count_met [] = 0
count_met (zero ∷ places) = count_met places
count_met (suc k ∷ places) = suc (count_met places)

abbrev pub place_at : List ℕ → ℕ → ℕ
place_at places n = get_or places n 0

-- from an entry after the first an arc leads to one before it
pub record LeadsOn (sources : List (List ℕ)) (met : List Met) (k : ℕ) (e : Met) : Type 0 where
  pub next : Met
  pub at : At met e.next next
  pub before : e.next ≤ k
  pub arc : ArcIn sources e.node next.node

abbrev pub LeadOn : List (List ℕ) → List Met → Type 0
LeadOn sources met = (k : ℕ) (e : Met) → At met (suc k) e → LeadsOn sources met k e

-- each entry after the first names one before it
abbrev pub AreFalling : List Met → Type 0
AreFalling met = (k : ℕ) (e : Met) → At met (suc k) e → e.next ≤ k

-- the list begins with the first; each place but 0 is that of an entry of its number, and from each entry an arc leads on
pub record IsTrail (sources : List (List ℕ)) (first : ℕ) (places : List ℕ) (met : List Met) : Type 0 where
  pub size : length places ≡ length sources
  pub count : suc (count_met places) ≡ length met
  pub start : (e : Met) → At met 0 e → e.node ≡ first
  pub entry : (n : ℕ) → 0 < place_at places n → (e : Met) × At met (place_at places n) e × (e.node ≡ n)
  pub arcs : LeadOn sources met

-- numbers were met, from which arcs lead to an entry
pub record HasMet (places places' : List ℕ) (met met' : List Met) (numbers : List ℕ) (next : ℕ) : Type 0 where
  pub size : length places' ≡ length places
  pub grows : length met ≤ length met'
  pub kept : (n : ℕ) → 0 < place_at places n → place_at places' n ≡ place_at places n
  pub found : (n : ℕ) → Among numbers n → n < length places → 0 < place_at places' n
  pub before : (k : ℕ) (e : Met) → At met k e → At met' k e
  pub trail :
      (sources : List (List ℕ)) (first : ℕ) (e : Met) → At met next e → ((n : ℕ) → Among numbers n → ArcIn sources n e.node)
      → IsTrail sources first places met → IsTrail sources first places' met'

-- the numbers of the entries before a place were visited: all from which arcs lead to them were met
abbrev pub AreDone : List (List ℕ) → ℕ → List ℕ → List Met → Type 0
AreDone sources at places met = (k : ℕ) (e : Met) → k < at → At met k e → (n : ℕ) → ArcIn sources n e.node → 0 < place_at places n

-- the numbers from the entry at a place up to, and not with, the entry at another, to which the last of them leads
pub record Leading (sources : List (List ℕ)) (met : List Met) (upto : ℕ) (node : ℕ) (rest : List ℕ) : Type 0 where
  pub last : ℕ
  pub walk : IsWalk (ArcIn sources) node rest last
  pub end : Met
  pub at : At met upto end
  pub arc : ArcIn sources last end.node

abbrev pub IsWay : List (List ℕ) → List Met → ℕ → ℕ → List ℕ → Type 0
IsWay sources met place upto [] = place ≡ upto
IsWay sources met place upto (node ∷ rest) = ((e : Met) × At met place e × (e.node ≡ node)) × Leading sources met upto node rest

-- a cycle that begins with a number
abbrev pub IsAround : (ℕ → ℕ → Type 0) → ℕ → List ℕ → Type 0
IsAround Arc first nodes = ((rest : List ℕ) × (nodes ≡ first ∷ rest)) × IsCycle Arc nodes
