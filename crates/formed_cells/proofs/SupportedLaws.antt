-- Nothing stands in the way of a supported cell.
use Rattle.std.proofs.Common.{◌≡◌, ℕ, Bool, List, ◌++◌, Option, Some, None, nat_lt, ap, sym, refl, ◌∙◌}
use Rattle.std.specs.Prelude.{find, option_map}
use Rattle.std.specs.Option.{option_or}
use Rattle.std.proofs.lemmas.List.Folds.{find-append}
use Rattle.std.proofs.lemmas.Option.{none-some}
use Rattle.flatten.specs.Structures.{IsStructured}
use Rattle.paired_ports.specs.Pairable.{ArePairable}
use Rattle.vrt_model.proofs.Tests.{map_none, neither}
use Rattle.vrt_model.specs.FlatBlif.{flat_model_of}
use Rattle.vrt_model.specs.PairedPorts.{output_is_input, ports_fault}
use Rattle.vrt_model.specs.Unsupported.{IsSupported, Limit, carried, circuit_limits, comparison_of, device_without_kind, model_limits, supply_tie, too_large, top_before, why_compared, why_of}
use Rattle.vrt_model.specs.declared.blif.Blif.{Blif}
use Rattle.vrt_model.specs.declared.design.Design.{Design}
use Rattle.vrt_model.specs.declared.rules.Rules.{Rules}
use Rattle.vrt_model.specs.declared.verdict.Why.{Why}
use Rattle.vrt_model.specs.declared.verdict.Why.TheVariants.{DeviceModel, OutputIsInput, Ports, SupplyTie, TooLarge}

-- nothing stands in the way of the circuit of a cell, of a model, and of their pairing
pub record IsFree (design : Design) (blif : Blif) (rules : Rules) (cell m : ℕ) : Type 0 where
  pub structured : IsStructured (top_before design rules cell)
  pub small : too_large (model_limits blif m) ≡ None
  pub pairable : ArePairable design cell (flat_model_of blif m) rules

-- where no count of two lists is too large, none of each is
none_large : (xs ys : List Limit) → too_large (xs ++ ys) ≡ None → (too_large xs ≡ None) × (too_large ys ≡ None)
none_large xs ys e =
    let is_large : Limit → Bool = λ (l : Limit). nat_lt l.limit l.count in
    let count : Limit → ℕ = λ (l : Limit). carried l.count in
    let both = neither (find is_large xs) (find is_large ys) (sym (find-append is_large xs ys) ∙ map_none count (find is_large (xs ++ ys)) e) in
    (ap (option_map count) both.0, ap (option_map count) both.1)

-- where no cause is found, the first test finds nothing, and no later one finds a cause
first_none : {X : Type 0} (f : X → Why) (o : Option X) (rest : Option Why) → option_or (why_of f o) rest ≡ None → (o ≡ None) × (rest ≡ None)
first_none f None rest e = (refl, e)
first_none f (Some x) rest e = absurd (none-some (f x) (sym e))

pub supported_is_free : (design : Design) (blif : Blif) (rules : Rules) (cell m : ℕ) → IsSupported design blif rules cell m → IsFree design blif rules cell m
supported_is_free design blif rules cell m supported =
    let t = top_before design rules cell in
    let flat = flat_model_of blif m in
    let compared : Option Why = why_compared (comparison_of design blif rules cell m) in
    let after_ports : Option Why = option_or (why_of (λ signal. OutputIsInput signal) (output_is_input flat)) compared in
    let after_ties : Option Why = option_or (why_of (λ name. Ports name) (ports_fault design cell flat rules)) after_ports in
    let after_kinds : Option Why = option_or (why_of (λ path. SupplyTie path) (supply_tie t)) after_ties in
    let after_counts : Option Why = option_or (why_of (λ model. DeviceModel model) (device_without_kind t)) after_kinds in
    let counts = first_none (λ count. TooLarge count) (too_large (circuit_limits t ++ model_limits blif m)) after_counts supported.early in
    let kinds = first_none (λ model. DeviceModel model) (device_without_kind t) after_kinds counts.1 in
    let ties = first_none (λ path. SupplyTie path) (supply_tie t) after_ties kinds.1 in
    let ports = first_none (λ name. Ports name) (ports_fault design cell flat rules) after_ports ties.1 in
    let outputs = first_none (λ signal. OutputIsInput signal) (output_is_input flat) compared ports.1 in
    let large = none_large (circuit_limits t) (model_limits blif m) counts.0 in
    record {
      structured = record { small = large.0; kinds = kinds.0; ties = ties.0 };
      small = large.1;
      pairable = record { ports = ports.0; outputs = outputs.0 };
    }
