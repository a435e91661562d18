-- How often each cell stands in another, and what the cells in a cell count together.
use Rattle.std.specs.Prelude.{◌≡◌, ℕ, zero, suc, ◌+◌, ◌*◌, Bool, ◌&&◌, cond, length, List, [], ◌∷◌}
use Rattle.std.specs.List.{sum_by}
use Rattle.flat_sizes.specs.declared.counts.Counted.{Counted}
use Rattle.flat_sizes.specs.declared.counts.Counted.TheVariants.{Nets, Devices, Instances}
use Rattle.flat_sizes.specs.declared.stands.Stand.{Stand}
use Rattle.rule_index.specs.Firsts.{value_in}
use Rattle.rule_index.specs.Tables.{cell_numbered}
use Rattle.name_tables.specs.declared.firsts.FirstValues.{FirstValues}
use Rattle.vrt_model.specs.Comparison.{cell_at}
use Rattle.vrt_model.specs.Lists.{has_name}
use Rattle.vrt_model.specs.Unrolled.{cell_named, deepest, is_global_in, mentions, names_global, own_nets}
use Rattle.vrt_model.specs.Unsupported.{carried}
use Rattle.vrt_model.specs.declared.design.Design.{Design}
use Rattle.vrt_model.specs.declared.design.InstanceCard.{InstanceCard}
use Rattle.vrt_model.specs.declared.rules.Rules.{Rules}

-- Here `weight` says how much each cell counts of its own, by its number.

-- what the cells of instances count
abbrev pub over : Design → (ℕ → ℕ) → List InstanceCard → ℕ
over design weight cards = sum_by (λ (i : InstanceCard). weight (cell_named design i.cell)) cards

-- what the cells in a cell count, at most so deep
abbrev pub within : Design → (ℕ → ℕ) → ℕ → ℕ → ℕ
within design weight zero k = 0
within design weight (suc depth) k = over design (λ m. weight m + within design weight depth m) (cell_at design k).instances

unfoldable pub inside : Design → (ℕ → ℕ) → ℕ → ℕ
inside design weight k = within design weight deepest k

-- a table has the number of each cell under its name
abbrev pub AreNumbered : Design → FirstValues ℕ → Type 0
AreNumbered design cells = (name : List ℕ) → value_in cells name ≡ cell_numbered design.cells name

-- what cells count that stand so often
abbrev pub stood : (ℕ → ℕ) → List Stand → ℕ
stood weight stands = sum_by (λ (s : Stand). s.count * weight s.cell) stands

-- cells stand so often in a cell, up to the greatest number: whatever each counts, they count what the cells in it do
abbrev pub AreInside : Design → ℕ → List Stand → Type 0
AreInside design k stands = (weight : ℕ → ℕ) → carried (stood weight stands) ≡ carried (inside design weight k)

-- two lists of stands count the same
abbrev pub CountAlike : List Stand → List Stand → Type 0
CountAlike old new = (weight : ℕ → ℕ) → carried (stood weight new) ≡ carried (stood weight old)

-- ---- steps

-- one cell stands so often more
abbrev pub AddsOne : ℕ → ℕ → List Stand → List Stand → Type 0
AddsOne k count old new = (weight : ℕ → ℕ) → carried (stood weight new) ≡ carried (stood weight old + count * weight k)

-- cells do
abbrev pub AddsStands : List Stand → List Stand → List Stand → Type 0
AddsStands more old new = (weight : ℕ → ℕ) → carried (stood weight new) ≡ carried (stood weight old + stood weight more)

-- the cells of instances do
abbrev pub Adds : Design → List InstanceCard → ℕ → List Stand → List Stand → Type 0
Adds design cards count old new = (weight : ℕ → ℕ) → carried (stood weight new) ≡ carried (stood weight old + count * over design weight cards)

-- those directly in cells that stand so often do
abbrev pub below : Design → (ℕ → ℕ) → ℕ → ℕ
below design weight k = over design weight (cell_at design k).instances

abbrev pub AddsAll : Design → List Stand → List Stand → List Stand → Type 0
AddsAll design level old new = (weight : ℕ → ℕ) → carried (stood weight new) ≡ carried (stood weight old + stood (below design weight) level)

-- those are all
abbrev pub IsDirectlyIn : Design → List Stand → List Stand → Type 0
IsDirectlyIn design level next = (weight : ℕ → ℕ) → carried (stood weight next) ≡ carried (stood (below design weight) level)

-- all cells in those of a level
abbrev pub DescendsFrom : Design → List Stand → List Stand → Type 0
DescendsFrom design level all = (weight : ℕ → ℕ) → carried (stood weight all) ≡ carried (stood (inside design weight) level)

-- ---- tables with a count for each cell

-- what cells count that stand so often, from a number on
abbrev pub weighed : (ℕ → ℕ) → ℕ → List ℕ → ℕ
weighed weight at [] = 0
weighed weight at (x ∷ xs) = x * weight at + weighed weight (suc at) xs

abbrev pub AreCounted : Design → ℕ → List ℕ → Type 0
AreCounted design k table = (weight : ℕ → ℕ) → carried (weighed weight 0 table) ≡ carried (inside design weight k)

-- a list of stands counts what a table does
abbrev pub IsListed : List ℕ → List Stand → Type 0
IsListed table stands = (weight : ℕ → ℕ) → stood weight stands ≡ weighed weight 0 table

-- one cell stands so often more
abbrev pub CountsOne : ℕ → ℕ → List ℕ → List ℕ → Type 0
CountsOne k count old new = (weight : ℕ → ℕ) → carried (weighed weight 0 new) ≡ carried (weighed weight 0 old + count * weight k)

-- the cells of instances do
abbrev pub Counts : Design → List InstanceCard → ℕ → List ℕ → List ℕ → Type 0
Counts design cards count old new = (weight : ℕ → ℕ) → carried (weighed weight 0 new) ≡ carried (weighed weight 0 old + count * over design weight cards)

-- those directly in cells that stand so often do
abbrev pub CountsAll : Design → List ℕ → List ℕ → List ℕ → Type 0
CountsAll design level old new = (weight : ℕ → ℕ) → carried (weighed weight 0 new) ≡ carried (weighed weight 0 old + weighed (below design weight) 0 level)

-- ---- what is counted

-- its nets of its own
abbrev pub nets_weight : Design → Rules → ℕ → ℕ
nets_weight design rules k = length (own_nets design rules (cell_at design k))

-- its nets of its own, its devices, or itself
abbrev pub weight_of : Counted → Design → Rules → ℕ → ℕ
weight_of Nets design rules k = nets_weight design rules k
weight_of Devices design rules k = length (cell_at design k).devices
weight_of Instances design rules k = 1

-- a card of it names a global net
abbrev pub global_weight : Design → Rules → List ℕ → ℕ → ℕ
global_weight design rules name k = cond (is_global_in design rules (cell_at design k) name && has_name (mentions (cell_at design k)) name) 1 0

-- a card of it, or of a cell in it, does
unfoldable pub names_inside : Design → Rules → ℕ → List ℕ → Bool
names_inside design rules k name = names_global design rules deepest (cell_at design k) name
