-- What tables say of devices is what the rules and the netlist say.
use Rattle.std.proofs.Common.{◌≡◌, ℕ, List, Option, Some, None, refl, ap, ap₂, ◌∙◌}
use Rattle.std.specs.Prelude.{bytes_eq, find, option_map, unwrap_or}
use Rattle.std.specs.Option.{option_or}
use Rattle.flat_devices.specs.DeviceTables.{AreTables, declared_level, device_level}
use Rattle.flat_devices.specs.declared.device_tables.DeviceTable.{DeviceTable}
use Rattle.rule_index.specs.Tables.{AreModels, card_kind, declared_by, kind_in}
use Rattle.rule_index.specs.declared.index.RuleIndex.{RuleIndex}
use Rattle.rule_index.specs.declared.models.Declared.{Declared}
use Rattle.rule_index.specs.declared.models.ModelTable.{ModelTable}
use Rattle.vrt_model.specs.FlatCircuit.{kind_of, level_of}
use Rattle.vrt_model.specs.declared.design.Design.{Design}
use Rattle.vrt_model.specs.declared.design.Kind.{Kind}
use Rattle.vrt_model.specs.declared.rules.DeviceRule.{DeviceRule}
use Rattle.vrt_model.specs.declared.rules.Rules.{Rules}

option_twice : {X Y Z : Type 0} (f : Y → Z) (g : X → Y) (o : Option X) → option_map f (option_map g o) ≡ option_map (λ (x : X). f (g x)) o
option_twice f g None = refl
option_twice f g (Some x) = refl

pub kind_is : (design : Design) (rules : Rules) (models : ModelTable) (model : List ℕ) → AreModels design rules models → kind_in models model ≡ kind_of design rules model
kind_is design rules models model are =
    ap₂ (λ (o : Option Declared) (p : Option Kind). option_or (option_map (λ (d : Declared). d.kind) o) p) (are.rules_are model) (are.cards_are model)
    ∙ ap (λ (o : Option Kind). option_or o (card_kind design.models model)) (option_twice (λ (d : Declared). d.kind) declared_by (find (λ (r : DeviceRule). bytes_eq r.model model) rules.devices))

pub level_is : (design : Design) (rules : Rules) (name : List ℕ) (index : RuleIndex) (own : DeviceTable) (device model : List ℕ) → AreTables design rules name index own
    → device_level index.models own device model ≡ level_of rules name device model
level_is design rules name index own device model are =
    ap₂ (λ (o : Option ℕ) (p : Option Declared). unwrap_or (option_or o (option_map (λ (d : Declared). d.level) p)) own.usual) (are.devices_are.strengths_are device) (are.index_is.models_are.rules_are model)
    ∙ ap₂ (λ (p : Option ℕ) (usual : ℕ). unwrap_or (option_or (declared_level rules.strengths name device) p) usual)
    (option_twice (λ (d : Declared). d.level) declared_by (find (λ (r : DeviceRule). bytes_eq r.model model) rules.devices)) are.devices_are.usual_is
