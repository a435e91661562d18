-- What the tests of a cell without instances find is what stands in the way of its flat circuit.
use Rattle.std.proofs.Common.{◌≡◌, ◌<◌, ◌≤◌, ◌+◌, ◌∷◌, ◌&&◌, [], ℕ, zero, suc, List, Bool, true, false, not, cond, get_or, nat_lt, All, length, Option, Some, None, Ok, Err, ap, ap₂, sym, subst, ◌∙◌, arith}
use Rattle.std.specs.Prelude.{Result, find, is_none, option_map, slice_get, unwrap_or}
use Rattle.std.proofs.Math.Path.{fun_ext}
use Rattle.std.proofs.lemmas.Bool.Decides.{nat_tests}
use Rattle.flat_devices.proofs.SaidLaws.{kind_is}
use Rattle.flatten.proofs.CellFlat.{device_count, instances_are, net_count, one_place, over_places, table_names}
use Rattle.flatten.proofs.CellNets.{IsLeaf, all_names, cell}
use Rattle.rule_index.specs.Firsts.{value_in}
use Rattle.flatten.specs.NetTables.{names_table}
use Rattle.flatten.specs.Structures.{IsFault, IsStructured, IsTestFault, StructureGives, TestGives, model_without_kind}
use Rattle.rule_index.specs.Tables.{AreModels, declared_supply, kind_in, supply_in}
use Rattle.flatten.specs.declared.faults.FlatFault.{FlatFault}
use Rattle.flatten.specs.declared.faults.FlatFault.TheVariants.{DeviceModel, SupplyTie, Limit as LimitFault, NoMemory}
use Rattle.name_tables.specs.declared.firsts.FirstValues.{FirstValues}
use Rattle.rule_index.specs.declared.models.ModelTable.{ModelTable}
use Rattle.vrt_model.specs.Comparison.{cell_at}
use Rattle.vrt_model.specs.FlatCircuit.{flat_devices, flat_instances, kind_of}
use Rattle.vrt_model.specs.Inputs.{IsCell, IsDesign}
use Rattle.vrt_model.specs.Unrolled.{Place, path_text}
use Rattle.vrt_model.specs.Unsupported.{Limit, carried, circuit_limits, device_without_kind, is_tied_apart, supply_tie, too_large, top_before}
use Rattle.vrt_model.specs.declared.circuit.FlatInstance.{FlatInstance}
use Rattle.vrt_model.specs.declared.design.Cell.{Cell}
use Rattle.vrt_model.specs.declared.design.Design.{Design}
use Rattle.vrt_model.specs.declared.design.DeviceCard.{DeviceCard}
use Rattle.vrt_model.specs.declared.design.Kind.{Kind}
use Rattle.vrt_model.specs.declared.rules.Rules.{Rules}

-- ---- a cell of a netlist

pub cell_there : (cells : List Cell) (k : ℕ) (d : Cell) → All IsCell cells → k < length cells → IsCell (unwrap_or (slice_get cells k) d)
cell_there cells k d all lt = by_place cells k (λ i lt. all i d lt) lt where
  by_place : (xs : List Cell) (k : ℕ) → ((i : ℕ) → i < length xs → IsCell (get_or xs i d)) → k < length xs → IsCell (unwrap_or (slice_get xs k) d)
  by_place [] k all lt = absurd (omega (arith, lt))
  by_place (x ∷ xs) zero all lt = all 0 (omega arith)
  by_place (x ∷ xs) (suc k) all lt = by_place xs k (λ i l. all (suc i) (omega (arith, l))) (omega (arith, lt))

pub leaf_of : (design : Design) (k : ℕ) → IsDesign design → k < length design.cells → (cell_at design k).instances ≡ [] → IsLeaf design k
leaf_of design k read there none =
    let is : IsCell (cell_at design k) = cell_there design.cells k (record { line = 0; name = []; ports = []; devices = []; instances = [] }) read.cells there in
    let less = is.card_limit in
    record { no_instances = none; ports_apart = is.ports; globals_apart = read.globals; few_cards = omega (arith, less) }

-- ---- counts

abbrev limits : ℕ → ℕ → ℕ → List Limit
limits nets devices instances =
    record { count = nets; limit = 20000 } ∷ record { count = devices; limit = 40000 } ∷ record { count = instances; limit = 40000 } ∷ []

abbrev large_by : Bool → Bool → ℕ → ℕ → Option ℕ
large_by many more nets devices =
    let first : Limit = record { count = nets; limit = 20000 } in
    let second : Limit = record { count = devices; limit = 40000 } in
    option_map (λ (l : Limit). carried l.count) (cond many (Some first) (cond more (Some second) None))

small_count : (nets devices : ℕ) → nets ≤ 20000 → devices ≤ 40000 → too_large (limits nets devices 0) ≡ None
small_count nets devices few less =
    let a : nat_lt 20000 nets ≡ false = grind (arith, nat_tests, few) in
    let b : nat_lt 40000 devices ≡ false = grind (arith, nat_tests, less) in
    ap₂ (λ (many more : Bool). large_by many more nets devices) a b

large_count : (nets devices : ℕ) → 20000 < nets → too_large (limits nets devices 0) ≡ Some (carried nets)
large_count nets devices many =
    let a : nat_lt 20000 nets ≡ true = grind (arith, nat_tests, many) in
    ap (λ (many : Bool). large_by many (nat_lt 40000 devices) nets devices) a

-- ---- the tests

pub find_same : {X : Type 0} (p q : X → Bool) (xs : List X) → ((x : X) → p x ≡ q x) → find p xs ≡ find q xs
find_same {X} p q xs h = ap (λ (f : X → Bool). find f xs) (fun_ext h)

module _ (design : Design) (rules : Rules) (k : ℕ) (leaf : IsLeaf design k) where
  abbrev cards : List DeviceCard
  cards = (cell design rules k leaf).devices

  abbrev count : ℕ
  count = length (all_names design rules k leaf) + 2

  sizes_are : too_large (circuit_limits (top_before design rules k)) ≡ too_large (limits count (length cards) 0)
  sizes_are =
      let turned : 2 + length (all_names design rules k leaf) ≡ count = omega arith in
      ap (λ (n : ℕ). too_large (limits n (length (flat_devices (top_before design rules k))) (length (flat_instances (top_before design rules k))))) (net_count design rules k leaf [] ∙ turned)
      ∙ ap (λ (n : ℕ). too_large (limits count n (length (flat_instances (top_before design rules k))))) (device_count design rules k leaf [])
      ∙ ap (λ (is : List FlatInstance). too_large (limits count (length cards) (length is))) (instances_are design rules k leaf [])

  models_are : (models : ModelTable) → AreModels design rules models → model_without_kind models cards ≡ device_without_kind (top_before design rules k)
  models_are models are =
      ap (option_map (λ (d : DeviceCard). d.model))
      (find_same (λ (d : DeviceCard). is_none (kind_in models d.model)) (λ (d : DeviceCard). is_none (kind_of design rules d.model)) cards
      (λ d. ap (λ (o : Option Kind). is_none o) (kind_is design rules models d.model are))
      ∙ ap (find (λ (d : DeviceCard). is_none (kind_of design rules d.model))) (sym (over_places design rules k leaf [] (λ (at : Place). (cell_at design at.cell).devices))))

  -- no instance, no tie
  no_ties : supply_tie (top_before design rules k) ≡ None
  no_ties =
      ap (λ (ps : List Place). option_map (λ (at : Place). path_text at.path)
      (find (λ (at : Place). not (is_none (slice_get at.path 0)) && is_tied_apart rules (cell_at design at.cell).ports at.ports) ps)) (one_place design rules k leaf [])

  module _ (names : List (List ℕ)) (models : ModelTable) (tested : List DeviceCard) (named : names ≡ all_names design rules k leaf) (same : tested ≡ cards) (are : AreModels design rules models) where
    counted : length names + 2 ≡ count
    counted = ap (λ (ns : List (List ℕ)). length ns + 2) named

    models_tested : model_without_kind models tested ≡ device_without_kind (top_before design rules k)
    models_tested = ap (model_without_kind models) same ∙ models_are models are

    small : length names + 2 ≤ 20000 → too_large (circuit_limits (top_before design rules k)) ≡ None
    small few =
        let e = counted in
        let less = leaf.few_cards in
        sizes_are ∙ small_count count (length cards) (omega (arith, e, few)) less

    pub passed : (length names + 2 ≤ 20000) × (model_without_kind models tested ≡ None) → IsStructured (top_before design rules k)
    passed h = record { small = small h.0; kinds = sym models_tested ∙ h.1; ties = no_ties }

    pub failed : (fault : FlatFault) → IsTestFault (length names + 2) models tested fault → IsFault (top_before design rules k) fault
    failed (LimitFault large) h =
        let e = counted in
        let many = h.0 in
        sizes_are ∙ large_count count (length cards) (omega (arith, e, many)) ∙ ap (λ (n : ℕ). Some (carried n)) (sym e) ∙ ap Some (sym h.1)
    failed (DeviceModel model) h = (small h.0, sym models_tested ∙ h.1)
    failed (SupplyTie path) h = absurd h
    failed NoMemory h = tt

    pub structured : (result : Result Unit FlatFault) → TestGives (length names + 2) models tested result → StructureGives (top_before design rules k) result
    structured (Ok x) h = passed h
    structured (Err fault) h = failed fault h

-- ---- the result

-- what is known of a cell and its tables
pub record AreMade (design : Design) (rules : Rules) (c : Cell) (supplies : FirstValues Bool) (models : ModelTable) (names : List (List ℕ)) (tested : List DeviceCard) : Type 0 where
  pub supplies_are : (name : List ℕ) → value_in supplies name ≡ declared_supply rules.supplies name
  pub models_are : AreModels design rules models
  pub names_are : names ≡ names_table (supply_in supplies) design.globals c
  pub cards_are : tested ≡ c.devices

module _ (design : Design) (rules : Rules) (k : ℕ) (read : IsDesign design) (there : k < length design.cells) (none : (cell_at design k).instances ≡ []) where
  abbrev leaf : IsLeaf design k
  leaf = leaf_of design k read there none

  abbrev Structured : Cell → Type 0
  Structured c =
      (supplies : FirstValues Bool) (models : ModelTable) (names : List (List ℕ)) (tested : List DeviceCard) (result : Result Unit FlatFault)
      → AreMade design rules c supplies models names tested → TestGives (length names + 2) models tested result
      → StructureGives (top_before design rules k) result

  -- the tests of a cell
  pub cell_structured : (found : Cell) → found ≡ cell_at design k → Structured found
  cell_structured found e = subst Structured (sym e) at_cell where
    at_cell : Structured (cell_at design k)
    at_cell supplies models names tested result made gives =
        structured design rules k leaf names models tested (table_names design rules k leaf [] supplies names made.supplies_are made.names_are) made.cards_are made.models_are result gives
