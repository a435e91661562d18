-- The devices of places, card by card and place by place.
use Rattle.std.proofs.Common.{◌≡◌, ◌∷◌, ◌++◌, [], ℕ, suc, List, Bool, map, flat_map, Option, refl, ap, ap₂, sym, subst, ◌∙◌, append_assoc}
use Rattle.std.specs.Prelude.{drop, slice_get, unwrap_or}
use Rattle.std.proofs.lemmas.Option.{same_Some}
use Rattle.flat_devices.proofs.NetLaws.{are_nets, flat_net_is, nets_are}
use Rattle.flat_devices.proofs.SaidLaws.{kind_is, level_is}
use Rattle.flat_devices.specs.DeviceTables.{AreDevices, AreTables}
use Rattle.flat_devices.specs.Devices.{device_by, pairwise, said_device, said_devices}
use Rattle.flat_devices.specs.declared.device_tables.DeviceTable.{DeviceTable}
use Rattle.net_places.specs.Links.{Bare, IsUnrolled, bare, shown}
use Rattle.net_places.specs.Places.{nets_at}
use Rattle.net_places.specs.Whole.{whole_of}
use Rattle.net_places.specs.declared.places.Place.{Place}
use Rattle.net_places.specs.declared.whole.Unrolled.{Unrolled}
use Rattle.net_tables.specs.Nets.{device_in}
use Rattle.net_tables.specs.Tables.{AreNetTables}
use Rattle.net_tables.specs.declared.tables.NetTables.{NetTables}
use Rattle.net_tables.specs.declared.types.DeviceNets.{DeviceNets}
use Rattle.rule_index.specs.Tables.{AreIndexed}
use Rattle.rule_index.specs.declared.index.RuleIndex.{RuleIndex}
use Rattle.vrt_model.specs.Comparison.{cell_at}
use Rattle.vrt_model.specs.FlatCircuit.{flat_device, flat_devices}
use Rattle.vrt_model.specs.Lists.{At, path_name}
use Rattle.vrt_model.specs.Unrolled.{Place as FlatPlace, Top, all_places}
use Rattle.vrt_model.specs.declared.circuit.Device.{Device}
use Rattle.vrt_model.specs.declared.design.Design.{Design}
use Rattle.vrt_model.specs.declared.design.DeviceCard.{DeviceCard}
use Rattle.vrt_model.specs.declared.design.Kind.{Kind}
use Rattle.vrt_model.specs.declared.design.Kind.TheVariants.{N}
use Rattle.vrt_model.specs.declared.ids.Net.{Net}
use Rattle.vrt_model.specs.declared.pairing.PortRole.{PortRole}
use Rattle.vrt_model.specs.declared.rules.Rules.{Rules}
use Rattle.vrt_model.proofs.Lists.{map_same}

-- ---- lists

-- where the second list is made of the first, so is what is made of both
pairwise_map : {X Y Z : Type 0} (f : X → Y → Z) (g : X → Y) (h : X → Z) → ((x : X) → f x (g x) ≡ h x) → (xs : List X) → pairwise f xs (map g xs) ≡ map h xs
pairwise_map f g h e [] = refl
pairwise_map {X} {Y} {Z} f g h e (x ∷ xs) = ap₂ (λ (z : Z) (zs : List Z). z ∷ zs) (e x) (pairwise_map f g h e xs)

-- two lists of places that show the same
flat_map_same : (f : Place → List Device) (g : FlatPlace → List Device) (ps : List Place) (flat : List FlatPlace) → map shown ps ≡ map bare flat
    → ((i : ℕ) (p : Place) (at : FlatPlace) → At flat i at → shown p ≡ bare at → f p ≡ g at) → flat_map f ps ≡ flat_map g flat
flat_map_same f g [] [] e h = refl
flat_map_same f g [] (at ∷ flat) e h = cc
flat_map_same f g (p ∷ ps) [] e h = cc
flat_map_same f g (p ∷ ps) (at ∷ flat) e h =
    ap₂ (λ (a b : List Device). a ++ b) (h 0 p at refl (same_Some (shown p) (bare at) (ap (λ (bs : List Bare). slice_get bs 0) e)))
    (flat_map_same f g ps flat (ap (λ (bs : List Bare). drop 1 bs) e) (λ i q other there same. h (suc i) q other there same))

-- ---- card by card

-- one card more
pub card_more : {X Y Z : Type 0} (f : X → Y → Z) (xs rest : List X) (ys later : List Y) (x : X) (y : Y) (old new all : List Z) → xs ≡ x ∷ rest → ys ≡ y ∷ later
    → new ≡ old ++ f x y ∷ [] → old ++ pairwise f xs ys ≡ all → new ++ pairwise f rest later ≡ all
card_more {X} {Y} {Z} f xs rest ys later x y old new all a b e so_far =
    ap (λ (zs : List Z). zs ++ pairwise f rest later) e ∙ append_assoc old (f x y ∷ []) (pairwise f rest later)
    ∙ sym (ap₂ (λ (p : List X) (q : List Y). old ++ pairwise f p q) a b) ∙ so_far

-- ---- one place

-- the device with these parts
abbrev made : List ℕ → Kind → Net → Net → Net → ℕ → Bool → Device
made name kind gate left right level keeper = record { name = name; kind = kind; gate = gate; left = left; right = right; level = level; keeper = keeper }

same_made : (n n' : List ℕ) (k k' : Kind) (g g' l l' r r' : Net) (v v' : ℕ) (b b' : Bool) → n ≡ n' → k ≡ k' → g ≡ g' → l ≡ l' → r ≡ r' → v ≡ v' → b ≡ b'
    → made n k g l r v b ≡ made n' k' g' l' r' v' b'
same_made n n' k k' g g' l l' r r' v v' b b' d e f h i j m = cc

-- by tables of the cell, and by what is said
pub place_said : (design : Design) (rules : Rules) (tables : NetTables) (index : RuleIndex) (table : DeviceTable) (globals : List Net) (p : Place) → AreIndexed design rules index
    → AreNetTables design rules tables → AreDevices rules (cell_at design p.cell).name table
    → pairwise (device_by index.models table globals p) (cell_at design p.cell).devices (nets_at tables p.cell).devices ≡ said_devices design rules globals p
place_said design rules tables index table globals p indexed are said =
    ap (pairwise (device_by index.models table globals p) (cell_at design p.cell).devices) (nets_are design rules tables are p.cell)
    ∙ pairwise_map (device_by index.models table globals p) (device_in design rules (cell_at design p.cell)) (said_device design rules globals p p.cell) each (cell_at design p.cell).devices where
      both : AreTables design rules (cell_at design p.cell).name index table
      both = record { index_is = indexed; devices_are = said }

      each : (card : DeviceCard) → device_by index.models table globals p card (device_in design rules (cell_at design p.cell) card) ≡ said_device design rules globals p p.cell card
      each card =
          same_made _ _ _ _ _ _ _ _ _ _ _ _ _ _ refl (ap (λ (o : Option Kind). unwrap_or o N) (kind_is design rules index.models card.model indexed.models_are)) refl refl refl
          (level_is design rules (cell_at design p.cell).name index table card.name card.model both) (said.keepers_are card.name)

-- the devices of a place more, by lists that show its cards and their nets
pub place_more : (design : Design) (rules : Rules) (tables : NetTables) (index : RuleIndex) (table : DeviceTable) (globals : List Net) (p : Place) → AreIndexed design rules index
    → AreNetTables design rules tables → (name : List ℕ) (cards : List DeviceCard) (nets : List DeviceNets) → AreDevices rules name table → name ≡ (cell_at design p.cell).name
    → cards ≡ (cell_at design p.cell).devices → nets ≡ (nets_at tables p.cell).devices → (old new : List Device) → new ≡ old ++ pairwise (device_by index.models table globals p) cards nets
    → new ≡ old ++ said_devices design rules globals p
place_more design rules tables index table globals p indexed are name cards nets said n c d old new e =
    e ∙ ap₂ (λ (cs : List DeviceCard) (ns : List DeviceNets). old ++ pairwise (device_by index.models table globals p) cs ns) c d
    ∙ ap (λ (ds : List Device). old ++ ds) (place_said design rules tables index table globals p indexed are (subst (λ (m : List ℕ). AreDevices rules m table) n said))

-- ---- all places

module _ (design : Design) (rules : Rules) (cell : ℕ) (roles : List PortRole) (unrolled : Unrolled) (is : IsUnrolled (whole_of design rules cell roles) unrolled) where
  abbrev t : Top
  t = whole_of design rules cell roles

  place_is : (i : ℕ) (p : Place) (at : FlatPlace) → At (all_places t) i at → shown p ≡ bare at → said_devices design rules unrolled.globals p ≡ map (flat_device t at) (cell_at design at.cell).devices
  place_is i p at there same =
      ap (λ (k : ℕ). map (said_device design rules unrolled.globals p k) (cell_at design k).devices) (ap (λ (b : Bare). b.cell) same)
      ∙ map_same (said_device design rules unrolled.globals p at.cell) (flat_device t at) (cell_at design at.cell).devices each where
        each : (n : ℕ) (card : DeviceCard) → At (cell_at design at.cell).devices n card → said_device design rules unrolled.globals p at.cell card ≡ flat_device t at card
        each n card e =
            let nets = are_nets (cell_at design at.cell) n card e in
            same_made _ _ _ _ _ _ _ _ _ _ _ _ _ _ (ap (λ (b : Bare). path_name b.path card.name) same) refl
            (flat_net_is t unrolled is i p at there same card.gate nets.gate) (flat_net_is t unrolled is i p at there same card.drain nets.drain)
            (flat_net_is t unrolled is i p at there same card.source nets.source) refl refl

  pub devices_are : flat_map (said_devices design rules unrolled.globals) unrolled.places ≡ flat_devices t
  devices_are =
      flat_map_same (said_devices design rules unrolled.globals) (λ (at : FlatPlace). map (flat_device t at) (cell_at design at.cell).devices) unrolled.places (all_places t) is.places_are
      (λ i p at there same. place_is i p at there same)
