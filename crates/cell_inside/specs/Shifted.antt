-- The places of a cell in a larger netlist, beside those of the cell alone: ports are at the nets to which they are tied, and own
-- nets at a distance.
use Rattle.std.specs.Prelude.{◌≡◌, ℕ, zero, suc, ◌+◌, ◌++◌, false, true, List, [], map}
use Rattle.std.specs.List.{AllZip}
use Rattle.vrt_model.specs.Comparison.{cell_at}
use Rattle.vrt_model.specs.Lists.{Among, has_name}
use Rattle.vrt_model.specs.Unrolled.{Place, Step, Top, cell_named, mentions, names_global, net_at, places_in}
use Rattle.vrt_model.specs.declared.design.InstanceCard.{InstanceCard}
use Rattle.vrt_model.specs.declared.pairing.PortRole.{PortRole}

-- ---- shifted places

-- the place in the larger netlist is the place of the cell alone, below the path `outer`, its net n at `at n`
pub record IsShifted (at : ℕ → ℕ) (outer : List Step) (own there : Place) : Type 0 where
  pub cell : there.cell ≡ own.cell
  pub path : there.path ≡ own.path ++ outer
  pub ports : there.ports ≡ map at own.ports
  pub base : (n : ℕ) → there.base + n ≡ at (own.base + n)

-- a cell alone, with the netlist and the rules of a larger one
abbrev pub top_alone : Top → ℕ → List PortRole → Top
top_alone t cell roles = record { design = t.design; rules = t.rules; cell = cell; roles = roles }

-- no card of the cell, or of a cell at most so deep in it, names a global net
abbrev pub NamesNoGlobal : Top → ℕ → ℕ → Type 0
NamesNoGlobal t depth cell = (name : List ℕ) → has_name t.design.globals name ≡ true → names_global t.design t.rules depth (cell_at t.design cell) name ≡ false

-- a shifted place, where each name on a card is shifted too
pub record IsShiftedWithNets (t own : Top) (at : ℕ → ℕ) (outer : List Step) (a b : Place) : Type 0 where
  pub place : IsShifted at outer a b
  pub nets : (name : List ℕ) → has_name (mentions (cell_at t.design b.cell)) name ≡ true → net_at t b name ≡ at (net_at own a name)

-- The law: the places in a place are, one for one, the shifted places of the cell alone, and so is each name on their cards.
abbrev pub PlacesAreShifted : Type 0
PlacesAreShifted =
    (t : Top) (cell : ℕ) (roles : List PortRole) (at : ℕ → ℕ) (outer : List Step) (depth : ℕ) (p q : Place)
    → at 0 ≡ 0 → at 1 ≡ 1 → NamesNoGlobal t depth q.cell → IsShifted at outer p q
    → AllZip (IsShiftedWithNets t (top_alone t cell roles) at outer) (places_in (top_alone t cell roles) depth p) (places_in t depth q)

-- ---- depth

-- the instances of the cell stand at most so deep
abbrev pub IsWithinDepth : Top → ℕ → ℕ → Type 0
IsWithinDepth t zero cell = (cell_at t.design cell).instances ≡ []
IsWithinDepth t (suc depth) cell = (i : InstanceCard) → Among (cell_at t.design cell).instances i → IsWithinDepth t depth (cell_named t.design i.cell)

-- The law: where they do, going down deeper finds no more places.
abbrev pub DeeperIsSame : Type 0
DeeperIsSame = (t : Top) (depth more : ℕ) (q : Place) → IsWithinDepth t depth q.cell → places_in t depth q ≡ places_in t (depth + more) q
