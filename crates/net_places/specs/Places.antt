-- The places of an unrolled netlist, by the tables of its cells.
use Rattle.std.specs.Prelude.{◌≡◌, ℕ, zero, suc, ◌+◌, ◌<◌, ◌≤◌, ◌^◌, List, [], ◌∷◌, ◌++◌, map, sum_by, length, slice_get, unwrap_or}
use Rattle.net_places.specs.declared.places.Place.{Place}
use Rattle.net_tables.specs.Places.{number_by}
use Rattle.net_tables.specs.declared.tables.NetTables.{NetTables}
use Rattle.net_tables.specs.declared.types.CellNet.{CellNet}
use Rattle.net_tables.specs.declared.types.CellNet.TheVariants.{Own}
use Rattle.net_tables.specs.declared.types.CellNets.{CellNets}
use Rattle.net_tables.specs.declared.types.InstanceNets.{InstanceNets}
use Rattle.vrt_model.specs.Comparison.{cell_at}
use Rattle.vrt_model.specs.FlatCircuit.{net_id}
use Rattle.vrt_model.specs.Lists.{Among, path_name}
use Rattle.vrt_model.specs.Unrolled.{deepest}
use Rattle.vrt_model.specs.declared.design.Design.{Design}
use Rattle.vrt_model.specs.declared.design.InstanceCard.{InstanceCard}
use Rattle.vrt_model.specs.declared.ids.Net.{Net}

-- ---- the tables of a cell

-- its nets, none where there is no such cell
abbrev pub nets_at : NetTables → ℕ → CellNets
nets_at tables k = unwrap_or (slice_get tables.cells k) (record { names = record { ports = []; own = [] }; devices = []; instances = [] })

abbrev pub own_at : NetTables → ℕ → ℕ
own_at tables k = length (nets_at tables k).names.own

-- how many own nets it and the cells in it have, at most so deep
abbrev pub own_below : NetTables → ℕ → ℕ → ℕ
own_below tables zero k = own_at tables k
own_below tables (suc depth) k = own_at tables k + sum_by (λ (i : InstanceNets). own_below tables depth i.cell) (nets_at tables k).instances

-- the own nets at instances are of the cell
abbrev pub AreWithin : NetTables → Type 0
AreWithin tables =
    (k : ℕ) (i : InstanceNets) → Among (nets_at tables k).instances i → (n : CellNet) → Among i.nets n → (j : ℕ) → n ≡ Own j → j ≤ own_at tables k

-- the name on an instance card of a cell, empty where there is no such card
abbrev pub name_at : Design → ℕ → ℕ → List ℕ
name_at design k card = (let one : InstanceCard = unwrap_or (slice_get (cell_at design k).instances card) (record { line = 0; name = []; nets = []; cell = [] }) in one).name

-- ---- places

-- the flat net of a net of a place's cell
abbrev pub net_of : Place → List Net → CellNet → Net
net_of p globals net = net_id (number_by p.ports p.base globals net)

abbrev pub HasRoomFor : ℕ → List CellNet → Type 0
HasRoomFor base nets = (n : CellNet) → Among nets n → (j : ℕ) → n ≡ Own j → base + j < 2 ^ 32

-- the place of an instance, by the number of the place around it and the number of its card
abbrev pub inner_place : Design → List Net → ℕ → Place → ℕ → ℕ → InstanceNets → Place
inner_place design globals around p card base i = record {
  cell = i.cell;
  around = around;
  card = card;
  depth = p.depth + 1;
  path = path_name p.path (name_at design p.cell card);
  ports = map (net_of p globals) i.nets;
  base = base;
}

-- what is unrolled of instances, one behind the other: places from a number on, cards, and own nets
abbrev pub inner_from : Design → NetTables → List Net → (ℕ → Place → List Place) → ℕ → ℕ → Place → ℕ → ℕ → ℕ → List InstanceNets → List Place
inner_from design tables globals below depth around p number card base [] = []
inner_from design tables globals below depth around p number card base (i ∷ instances) =
    below number (inner_place design globals around p card base i)
    ++ inner_from design tables globals below depth around p (number + length (below number (inner_place design globals around p card base i))) (suc card) (base + own_below tables depth i.cell) instances

-- a place, which has a number, and all places in it, at most so deep
abbrev pub places_below : Design → NetTables → List Net → ℕ → ℕ → Place → List Place
places_below design tables globals zero number p = p ∷ []
places_below design tables globals (suc depth) number p =
    p ∷ inner_from design tables globals (places_below design tables globals depth) depth number p (suc number) 0 (p.base + own_at tables p.cell) (nets_at tables p.cell).instances

-- the places so far, and with them those of the instances that are left, are those at the end; so are the own nets
pub record IsUnderway (design : Design) (tables : NetTables) (globals : List Net) (depth around : ℕ) (p : Place) (card : ℕ) (instances : List InstanceNets) (next : ℕ) (places all : List Place) (last : ℕ) : Type 0 where
  pub whole : places ++ inner_from design tables globals (places_below design tables globals depth) depth around p (length places) card next instances ≡ all
  pub room : next + sum_by (λ (i : InstanceNets). own_below tables depth i.cell) instances ≡ last

-- ---- all places

-- those of a whole, and how many own nets they have
unfoldable pub all_below : Design → NetTables → List Net → Place → List Place
all_below design tables globals top = places_below design tables globals deepest 0 top

unfoldable pub all_own : NetTables → ℕ → ℕ
all_own tables k = own_below tables deepest k
