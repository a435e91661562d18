-- Nothing stands against a cell with the written model in the place of its models.
use Rattle.std.proofs.Common.{◌≡◌, ℕ, Bool, List, ◌++◌, Option, None, length, nat_lt, ap, ap₂, refl, sym, subst, ◌∙◌}
use Rattle.std.specs.Prelude.{find, option_map}
use Rattle.std.specs.Option.{option_or}
use Rattle.std.proofs.lemmas.List.Folds.{find-append}
use Rattle.plain_models.proofs.InterfaceLaws.{interfaces_are_kept}
use Rattle.plain_models.proofs.PairingLaws.{pairings_are_kept}
use Rattle.plain_models.specs.Flat.{flat_form}
use Rattle.plain_models.specs.Interfaces.{SameInterface}
use Rattle.plain_models.specs.Texts.{PlainModel, alone}
use Rattle.vrt_model.proofs.Tests.{map_none, neither}
use Rattle.vrt_model.specs.Comparison.{Comparison, default_clock_bit, phase_at}
use Rattle.vrt_model.specs.Elements.{signal_name}
use Rattle.vrt_model.specs.FlatBlif.{flat_model_of}
use Rattle.vrt_model.specs.Lists.{has_number}
use Rattle.vrt_model.specs.ModelArcs.{carried_bits}
use Rattle.vrt_model.specs.PairedPorts.{output_is_input, ports_fault}
use Rattle.vrt_model.specs.Unsupported.{AcyclicBefore, IsSupported, Limit, carried, circuit_limits, comparison_of, device_without_kind, model_limits, supply_tie, too_large, top_before, why_compared, why_of}
use Rattle.vrt_model.specs.declared.blif.Blif.{Blif}
use Rattle.vrt_model.specs.declared.design.Design.{Design}
use Rattle.vrt_model.specs.declared.flat_model.FlatModel.{FlatModel}
use Rattle.vrt_model.specs.declared.rules.Rules.{Rules}
use Rattle.vrt_model.specs.declared.verdict.Why.{Why}
use Rattle.vrt_model.specs.declared.verdict.Why.TheVariants.{DeviceModel, OutputIsInput, Ports, SupplyTie, TooLarge}
use Rattle.written_cells.proofs.CauseLaws.{first_none, no_cause, no_cause_is_added, no_item}
use Rattle.written_cells.proofs.WrittenArcs.{written_models_are_acyclic}
use Rattle.written_cells.proofs.WrittenComparisons.{comparisons_are_exchanged}
use Rattle.written_cells.specs.Exchanged.{exchanged}
use Rattle.written_cells.specs.Supported.{IsWrittenWithin}
use Rattle.written_models.proofs.WrittenNames.{drivers}
use Rattle.written_models.specs.Written.{Logic, written_model}

-- ---- limits

abbrev is_large : Limit → Bool
is_large l = nat_lt l.limit l.count

abbrev count_of : Limit → ℕ
count_of l = carried l.count

first_small : (xs ys : List Limit) → too_large (xs ++ ys) ≡ None → too_large xs ≡ None
first_small xs ys e =
    ap (option_map count_of) (neither (find is_large xs) (find is_large ys) (sym (find-append is_large xs ys) ∙ map_none count_of (find is_large (xs ++ ys)) e)).0

both_small : (xs ys : List Limit) → too_large xs ≡ None → too_large ys ≡ None → too_large (xs ++ ys) ≡ None
both_small xs ys e t =
    ap (option_map count_of) (find-append is_large xs ys ∙ no_item (find is_large xs) (find is_large ys) (map_none count_of (find is_large xs) e) (map_none count_of (find is_large ys) t))

-- ---- outputs that are inputs

outputs_apart : (one two : FlatModel) → SameInterface one two → output_is_input one ≡ None → output_is_input two ≡ None
outputs_apart one two same e =
    ap (option_map (signal_name two))
    (sym (ap₂ (λ (outputs given : List ℕ). find (λ s. has_number outputs s) given) same.outputs (ap₂ (λ (xs ys : List ℕ). xs ++ ys) same.inputs same.clocks))
    ∙ map_none (signal_name one) (find (λ s. has_number one.outputs s) (one.inputs ++ one.clocks)) e)

pub written_cells_are_supported : (design : Design) (blif : Blif) (rules : Rules) (cell m : ℕ) (l : Logic) → IsWrittenWithin design blif rules cell m l
    → IsSupported design (alone (written_model l)) rules cell 0
written_cells_are_supported design blif rules cell m l w =
    let written : PlainModel = written_model l in
    let t = top_before design rules cell in
    let k : Comparison = comparison_of design blif rules cell m in
    let now : Comparison = comparison_of design (alone written) rules cell 0 in
    let one : FlatModel = flat_model_of blif m in
    let two : FlatModel = flat_model_of (alone written) 0 in
    let same = interfaces_are_kept blif m written (drivers l w.writable) w.interface in
    let is : now ≡ exchanged k (flat_form written) 0 = comparisons_are_exchanged design blif rules cell m l w.writable w.interface in
    let after_ports : Option Why = option_or (why_of (λ signal. OutputIsInput signal) (output_is_input one)) (why_compared k) in
    let after_ties : Option Why = option_or (why_of (λ name. Ports name) (ports_fault design cell one rules)) after_ports in
    let after_kinds : Option Why = option_or (why_of (λ path. SupplyTie path) (supply_tie t)) after_ties in
    let after_counts : Option Why = option_or (why_of (λ model. DeviceModel model) (device_without_kind t)) after_kinds in
    let counts = first_none (λ count. TooLarge count) (too_large (circuit_limits t ++ model_limits blif m)) after_counts w.supported.early in
    let kinds = first_none (λ model. DeviceModel model) (device_without_kind t) after_kinds counts.1 in
    let ties = first_none (λ path. SupplyTie path) (supply_tie t) after_ties kinds.1 in
    let ports = first_none (λ name. Ports name) (ports_fault design cell one rules) after_ports ties.1 in
    let outputs = first_none (λ signal. OutputIsInput signal) (output_is_input one) (why_compared k) ports.1 in
    let compared : why_compared now ≡ None = ap why_compared is ∙ no_cause_is_added k (flat_form written) 0 w.stateless refl outputs.1 in
    let then_ports : Option Why = option_or (why_of (λ signal. OutputIsInput signal) (output_is_input two)) (why_compared now) in
    let then_ties : Option Why = option_or (why_of (λ name. Ports name) (ports_fault design cell two rules)) then_ports in
    let then_kinds : Option Why = option_or (why_of (λ path. SupplyTie path) (supply_tie t)) then_ties in
    let then_counts : Option Why = option_or (why_of (λ model. DeviceModel model) (device_without_kind t)) then_kinds in
    let no_outputs : then_ports ≡ None = no_cause (λ signal. OutputIsInput signal) (output_is_input two) (why_compared now) (outputs_apart one two same outputs.0) compared in
    let no_ports : then_ties ≡ None = no_cause (λ name. Ports name) (ports_fault design cell two rules) then_ports (sym (pairings_are_kept one two same design cell m rules).1 ∙ ports.0) no_outputs in
    let no_ties : then_kinds ≡ None = no_cause (λ path. SupplyTie path) (supply_tie t) then_ties ties.0 no_ports in
    let no_kinds : then_counts ≡ None = no_cause (λ model. DeviceModel model) (device_without_kind t) then_kinds kinds.0 no_ties in
    record {
      paired = w.paired;
      early = no_cause (λ count. TooLarge count) (too_large (circuit_limits t ++ model_limits (alone written) 0)) then_counts
          (both_small (circuit_limits t) (model_limits (alone written) 0) (first_small (circuit_limits t) (model_limits blif m) counts.0) w.small) no_kinds;
      acyclic = subst (λ (c : Comparison). AcyclicBefore c (length rules.phases)) (sym is)
          (λ p lt. (
            (w.supported.acyclic p lt).0,
            written_models_are_acyclic l (carried_bits (phase_at rules p) k.pairing.clocked) (default_clock_bit rules (phase_at rules p)) w.writable,
          ));
    }
