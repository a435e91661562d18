-- The global nets that the cards of unrolled cells name.
use Rattle.std.specs.Prelude.{◌≡◌, ℕ, zero, suc, ◌+◌, ◌<◌, Bool, false, cond, ◌||◌, ◌==◌, List, [], ◌∷◌, ◌++◌, flat_map, get_or, length}
use Rattle.std.specs.List.{list_any}
use Rattle.net_places.specs.Places.{nets_at}
use Rattle.net_tables.specs.declared.tables.NetTables.{NetTables}
use Rattle.net_tables.specs.declared.types.CellNet.{CellNet}
use Rattle.net_tables.specs.declared.types.CellNet.TheVariants.{Supply, Port, Global, Own}
use Rattle.net_tables.specs.declared.types.CellNets.{CellNets}
use Rattle.net_tables.specs.declared.types.DeviceNets.{DeviceNets}
use Rattle.net_tables.specs.declared.types.InstanceNets.{InstanceNets}
use Rattle.vrt_model.specs.FlatCircuit.{net_id}
use Rattle.vrt_model.specs.Unrolled.{deepest}
use Rattle.vrt_model.specs.declared.ids.Net.{Net}

-- a net is the one at a place of the `.global` cards
abbrev pub is_global : ℕ → CellNet → Bool
is_global j (Supply value) = false
is_global j (Port k) = false
is_global j (Global k) = k == j
is_global j (Own i) = false

-- ---- the nets on cards

abbrev pub nets_on : DeviceNets → List CellNet
nets_on d = d.drain ∷ d.gate ∷ d.source ∷ []

abbrev pub card_nets : CellNets → List CellNet
card_nets nets = flat_map nets_on nets.devices ++ flat_map (λ (i : InstanceNets). i.nets) nets.instances

-- those of a cell and of the cells in it, at most so deep
abbrev pub nets_below : NetTables → ℕ → ℕ → List CellNet
nets_below tables zero k = card_nets (nets_at tables k)
nets_below tables (suc depth) k =
    card_nets (nets_at tables k) ++ flat_map (λ (i : InstanceNets). nets_below tables depth i.cell) (nets_at tables k).instances

unfoldable pub all_nets : NetTables → ℕ → List CellNet
all_nets tables k = nets_below tables deepest k

-- ---- marks

-- what was marked and what is among these nets is marked
pub record HasMarked (nets : List CellNet) (old new : List Bool) : Type 0 where
  pub len : length new ≡ length old
  pub marked : (j : ℕ) → j < length old → get_or new j false ≡ (get_or old j false || list_any (is_global j) nets)

-- what is marked now, and what is left to mark, is all that is to be marked
pub record IsMarking (all : List CellNet) (old now : List Bool) (left : List CellNet) : Type 0 where
  pub len : length now ≡ length old
  pub marked : (j : ℕ) → j < length old → (get_or now j false || list_any (is_global j) left) ≡ (get_or old j false || list_any (is_global j) all)

-- ---- flat nets

-- those that are marked have flat nets one behind the other
abbrev pub global_nets_from : ℕ → List Bool → List Net
global_nets_from next [] = []
global_nets_from next (mark ∷ marks) = cond mark (net_id next) (net_id 0) ∷ global_nets_from (cond mark (suc next) next) marks

abbrev pub marked_count : List Bool → ℕ
marked_count [] = 0
marked_count (mark ∷ marks) = cond mark 1 0 + marked_count marks
