-- What stands in the way of a cell with its instances.
use Rattle.std.proofs.Common.{◌≡◌, ◌<◌, ◌≤◌, ℕ, List, Bool, true, false, cond, nat_lt, length, Option, Some, None, Ok, Err, refl, ap, ap₂, sym, subst, ◌∙◌, arith, inl, inr}
use Rattle.std.specs.Prelude.{Result, flat_map, is_none, option_map}
use Rattle.std.proofs.lemmas.Bool.{cases_lt}
use Rattle.std.proofs.lemmas.Bool.Decides.{nat_tests}
use Rattle.flat_sizes.specs.Sizes.{AreSizes}
use Rattle.flat_sizes.specs.declared.counts.FlatSizes.{FlatSizes}
use Rattle.flat_devices.proofs.SaidLaws.{kind_is}
use Rattle.flatten.proofs.CellFlat.{supplies_are}
use Rattle.flatten.proofs.CellTests.{find_same}
use Rattle.flatten.proofs.WalkLaws.{cards_unrolled, ties_unrolled}
use Rattle.rule_index.specs.Firsts.{value_in}
use Rattle.flatten.specs.NetTables.{Supplies}
use Rattle.flatten.specs.Structures.{CausesGive, StructureGives, large_in}
use Rattle.rule_index.specs.Tables.{AreModels, declared_supply, supply_in}
use Rattle.flatten.specs.Walks.{card_without_kind, has_no_kind, tie_from, top_spot}
use Rattle.flatten.specs.declared.faults.FlatFault.{FlatFault}
use Rattle.flatten.specs.declared.faults.FlatFault.TheVariants.{DeviceModel, SupplyTie, Limit as LimitFault, NoMemory}
use Rattle.name_tables.specs.declared.firsts.FirstValues.{FirstValues}
use Rattle.rule_index.specs.declared.models.ModelTable.{ModelTable}
use Rattle.vrt_model.specs.FlatCircuit.{flat_devices, flat_instances, flat_nets, kind_of}
use Rattle.vrt_model.specs.Comparison.{cell_at}
use Rattle.vrt_model.specs.Unrolled.{Place, Top, all_places}
use Rattle.vrt_model.specs.Unsupported.{Limit, carried, circuit_limits, device_without_kind, supply_tie, too_large, top_before}
use Rattle.vrt_model.specs.declared.design.Design.{Design}
use Rattle.vrt_model.specs.declared.design.DeviceCard.{DeviceCard}
use Rattle.vrt_model.specs.declared.design.Kind.{Kind}
use Rattle.vrt_model.specs.declared.rules.Rules.{Rules}

-- ---- counts

above : (limit n : ℕ) → limit < n → nat_lt limit n ≡ true
above limit n more = grind (arith, nat_tests, more)

not_above : (limit n : ℕ) → n ≤ limit → nat_lt limit n ≡ false
not_above limit n less = grind (arith, nat_tests, less)

-- a count passes a limit where the carried count does
passes : (limit n : ℕ) → limit ≤ 40000 → nat_lt limit (carried n) ≡ nat_lt limit n
passes limit n small =
    elim (cases_lt limit n) [
      | inl more ↦ above limit (carried n) (omega (arith, small, more)) ∙ sym (above limit n more)
      | inr less ↦ not_above limit (carried n) (omega (arith, less)) ∙ sym (not_above limit n less)
    ]

abbrev large_by : Bool → Bool → Bool → ℕ → ℕ → ℕ → Option ℕ
large_by x y z a b c = cond x (Some a) (cond y (Some b) (cond z (Some c) None))

first_large : (x y z : Bool) (a b c : ℕ) → large_by x y z (carried a) (carried b) (carried c)
    ≡ option_map (λ (l : Limit). carried l.count)
    (cond x (Some (let l : Limit = record { count = a; limit = 20000 } in l)) (cond y (Some (let l : Limit = record { count = b; limit = 40000 } in l)) (cond z (Some (let l : Limit = record { count = c; limit = 40000 } in l)) None)))
first_large true y z a b c = refl
first_large false true z a b c = refl
first_large false false true a b c = refl
first_large false false false a b c = refl

three : (n d i a b c : ℕ) → n ≡ carried a → d ≡ carried b → i ≡ carried c
    → large_in n d i ≡ large_by (nat_lt 20000 a) (nat_lt 40000 b) (nat_lt 40000 c) (carried a) (carried b) (carried c)
three n d i a b c e f g =
    ap (λ (x : ℕ). large_in x d i) e ∙ ap₂ (λ (y z : ℕ). large_in (carried a) y z) f g
    ∙ ap (λ (x : Bool). large_by x (nat_lt 40000 (carried b)) (nat_lt 40000 (carried c)) (carried a) (carried b) (carried c)) (passes 20000 a (omega arith))
    ∙ ap₂ (λ (y z : Bool). large_by (nat_lt 20000 a) y z (carried a) (carried b) (carried c)) (passes 40000 b (omega arith)) (passes 40000 c (omega arith))

pub sized_large : (t : Top) (counts : FlatSizes) → AreSizes t counts → large_in counts.nets counts.devices counts.instances ≡ too_large (circuit_limits t)
sized_large t counts are =
    let a = length (flat_nets t) in
    let b = length (flat_devices t) in
    let c = length (flat_instances t) in
    three counts.nets counts.devices counts.instances a b c are.nets are.devices are.instances
    ∙ first_large (nat_lt 20000 a) (nat_lt 40000 b) (nat_lt 40000 c) a b c

-- ---- by tables

kinds_are : (design : Design) (rules : Rules) (k : ℕ) (models : ModelTable) → AreModels design rules models
    → option_map (λ (d : DeviceCard). d.model) (card_without_kind models design k) ≡ device_without_kind (top_before design rules k)
kinds_are design rules k models are =
    let t = top_before design rules k in
    let cards = flat_map (λ (at : Place). (cell_at design at.cell).devices) (all_places t) in
    ap (option_map (λ (d : DeviceCard). d.model))
    (sym (cards_unrolled t models)
    ∙ find_same (has_no_kind models) (λ (d : DeviceCard). is_none (kind_of design rules d.model)) cards (λ d. ap (λ (o : Option Kind). is_none o) (kind_is design rules models d.model are)))

ties_are : (design : Design) (rules : Rules) (k : ℕ) (supplies : FirstValues Bool) → ((name : List ℕ) → value_in supplies name ≡ declared_supply rules.supplies name)
    → tie_from design (supply_in supplies) (top_spot design (supply_in supplies) k) ≡ supply_tie (top_before design rules k)
ties_are design rules k supplies are =
    ap (λ (s : Supplies). tie_from design s (top_spot design s k)) (supplies_are rules supplies are) ∙ ties_unrolled (top_before design rules k)

-- what the walks give is what stands in the way
pub causes_are : (design : Design) (rules : Rules) (k : ℕ) (supplies : FirstValues Bool) (models : ModelTable) (result : Result Unit FlatFault)
    → ((name : List ℕ) → value_in supplies name ≡ declared_supply rules.supplies name) → AreModels design rules models
    → CausesGive None (option_map (λ (d : DeviceCard). d.model) (card_without_kind models design k)) (tie_from design (supply_in supplies) (top_spot design (supply_in supplies) k)) result
    → CausesGive None (device_without_kind (top_before design rules k)) (supply_tie (top_before design rules k)) result
causes_are design rules k supplies models result named kinds gives =
    subst (λ (kind : Option (List ℕ)). CausesGive None kind (supply_tie (top_before design rules k)) result) (kinds_are design rules k models kinds)
    (subst (λ (tie : Option (List ℕ)). CausesGive None (option_map (λ (d : DeviceCard). d.model) (card_without_kind models design k)) tie result) (ties_are design rules k supplies named) gives)

-- where no count is too large, the other causes are left
pub structured : (t : Top) (result : Result Unit FlatFault) → too_large (circuit_limits t) ≡ None → CausesGive None (device_without_kind t) (supply_tie t) result → StructureGives t result
structured t (Ok x) small gives = record { small = small; kinds = gives.1; ties = gives.2 }
structured t (Err (LimitFault count)) small gives = cc
structured t (Err (DeviceModel model)) small gives = (small, gives.1)
structured t (Err (SupplyTie path)) small gives = (small, gives.1, gives.2)
structured t (Err NoMemory) small gives = tt
