-- The held values of holds as functions of the variables, and the words of the hold nets that get them.
use Rattle.std.specs.Prelude.{◌≡◌, ℕ, ◌+◌, ◌≤◌, ◌<◌, ◌≢◌, suc, Bool, false, cond, List, [], ◌∷◌, map, find, length, sum_by, Option, Some, None, Result, IfOk, IfErr, slice_index, ◌==◌}
use Rattle.node_pool.specs.declared.region.Span.{Span}
use Rattle.bdd_core.specs.Diagram.{Function, IsReduced, IsSame, Valuation, meaning}
use Rattle.bdd_core.specs.Store.{Diagrams}
use Rattle.bdd_core.specs.Words.{shows, word_at}
use Rattle.bdd_core.specs.declared.handle.Spent.{Spent}
use Rattle.bdd_ops.specs.Counting.{Counts}
use Rattle.vrt_model.specs.Held.{group_bit, held_bit, held_by}
use Rattle.vrt_model.specs.Lists.{At, differ}
use Rattle.vrt_model.specs.Variables.{places}
use Rattle.vrt_model.specs.declared.circuit.Circuit.{Circuit}
use Rattle.vrt_model.specs.declared.circuit.Hold.{Hold}
use Rattle.vrt_model.specs.declared.groups.Group.{Group as HoldGroup}
use Rattle.vrt_model.specs.declared.groups.Member.{Member}
use Rattle.vrt_model.specs.declared.groups.Source.{Source}

-- ---- held values

-- the bits of the variables at a valuation of a store
abbrev pub bits_at : List Source → Valuation → List Bool
bits_at sources v = map v (places 0 sources)

-- the bit at the place of a variable, and 0 where there is none
abbrev pub bit_by : Option ℕ → Function
bit_by None = λ v. false
bit_by (Some at) = λ v. v at

-- the bit of a group
abbrev pub group_function : Circuit → ℕ → List Source → ℕ → HoldGroup → Function
group_function c phase sources number group = λ v. group_bit c phase sources (bits_at sources v) number group

-- the held value of a hold
abbrev pub held_function : Circuit → List HoldGroup → ℕ → List Source → ℕ → Function
held_function c groups phase sources hold = λ v. held_bit c groups phase sources (bits_at sources v) hold

-- ---- words of hold nets

-- a word has a live handle of this function
abbrev pub IsRoot : Diagrams → Span → ℕ → Function → Type 0
IsRoot d roots net f = (word_at d roots net < length d.nodes) × ((v : Valuation) → shows d roots net v ≡ f v)

-- the net of each hold has the handle of the hold's function
abbrev pub AreRoots : Circuit → Span → Diagrams → (ℕ → Function) → Type 0
AreRoots c roots d f = (place : ℕ) (h : Hold) → At c.holds place h → IsRoot d roots h.net.0 (f place)

-- nodes were added and words of hold nets written, and nothing else; what was there keeps its function
pub record WritesHolds (c : Circuit) (roots : Span) (old new : Diagrams) : Type 0 where
  pub rest : new ≡ record old { nodes = new.nodes; words = new.words }
  pub sound : IsReduced new.vars new.nodes
  pub within : length new.nodes ≤ new.budget
  pub longer : length old.nodes ≤ length new.nodes
  pub kept : (h : ℕ) → h < length old.nodes → IsSame (meaning new.nodes h) (meaning old.nodes h)
  pub len : length new.words ≡ length old.words
  pub others :
      (j : ℕ) → ((place : ℕ) (h : Hold) → At c.holds place h → j ≢ roots.start + h.net.0) → slice_index new.words j ≡ slice_index old.words j

-- each hold has a word of its own
pub record HaveWords (c : Circuit) (roots : Span) : Type 0 where
  pub nets : (place : ℕ) (h : Hold) → At c.holds place h → h.net.0 < roots.len
  pub apart : (i j : ℕ) (g h : Hold) → At c.holds i g → At c.holds j h → g.net.0 ≡ h.net.0 → i ≡ j

-- ---- steps

-- some held values were written: the functions of all holds changed so, by so many operations
pub record Rewrites (c : Circuit) (roots : Span) (vars operations : ℕ) (change : (ℕ → Function) → ℕ → Function) (old new : Diagrams) (result : Result (Unit {0}) Spent) : Type 0 where
  pub writes : WritesHolds c roots old new
  pub rooted : IfOk result (λ _. (f : ℕ → Function) → AreRoots c roots old f → AreRoots c roots new (change f))
  pub spent : IfErr result (λ s. (s.nodes ≡ new.budget) × (length new.nodes ≡ new.budget))
  pub counts : (u : ℕ) → vars ≤ u → Counts u operations old new result

-- a member has the bit of its group with its polarity
abbrev pub with_hold : Member → Function → (ℕ → Function) → ℕ → Function
with_hold m bit f = λ place. λ v. cond (m.hold == place) (differ m.inverted (bit v)) (f place v)

abbrev pub with_holds : List Member → Function → (ℕ → Function) → ℕ → Function
with_holds members bit f = λ place. λ v. held_by (find (λ (m : Member). m.hold == place) members) (bit v) (f place v)

abbrev pub with_groups : Circuit → ℕ → List Source → ℕ → List HoldGroup → (ℕ → Function) → ℕ → Function
with_groups c phase sources number [] f = f
with_groups c phase sources number (group ∷ groups) f =
    with_holds group.members (group_function c phase sources number group) (with_groups c phase sources (suc number) groups f)

-- how many members groups have
abbrev pub members_in : List HoldGroup → ℕ
members_in groups = sum_by (λ (g : HoldGroup). length g.members) groups
