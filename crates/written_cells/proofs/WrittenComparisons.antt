-- The comparison with a written model alone.
use Rattle.std.proofs.Common.{◌≡◌, ℕ, ap₂, refl, sym, subst, ◌∙◌}
use Rattle.plain_models.proofs.FlatLaws.{driven_models_are_flat}
use Rattle.plain_models.proofs.InterfaceLaws.{interfaces_are_kept}
use Rattle.plain_models.proofs.PairingLaws.{pairings_are_kept}
use Rattle.plain_models.specs.Flat.{flat_form}
use Rattle.plain_models.specs.Interfaces.{IsInterfaceOf}
use Rattle.plain_models.specs.Texts.{PlainModel, alone}
use Rattle.vrt_model.specs.Comparison.{Comparison}
use Rattle.vrt_model.specs.Equal.{IsEqual}
use Rattle.vrt_model.specs.FlatBlif.{flat_model_of, model_at}
use Rattle.vrt_model.specs.FlatCircuit.{flat_circuit}
use Rattle.vrt_model.specs.Groups.{groups_of}
use Rattle.vrt_model.specs.PairedPorts.{pairing_of}
use Rattle.vrt_model.specs.Unsupported.{comparison_of}
use Rattle.vrt_model.specs.declared.blif.Blif.{Blif}
use Rattle.vrt_model.specs.declared.design.Design.{Design}
use Rattle.vrt_model.specs.declared.flat_model.FlatModel.{FlatModel}
use Rattle.vrt_model.specs.declared.pairing.Pairing.{Pairing}
use Rattle.vrt_model.specs.declared.rules.Rules.{Rules}
use Rattle.written_cells.proofs.ExchangeLaws.{models_are_exchanged}
use Rattle.written_cells.proofs.OutputLaws.{outputs_are_shown}
use Rattle.written_cells.specs.Exchanged.{exchanged}
use Rattle.written_cells.specs.Written.{IsWrittenFor}
use Rattle.written_models.proofs.WrittenNames.{drivers}
use Rattle.written_models.specs.Written.{IsWritable, Logic, written_model}

-- a pairing has its model's number, and nothing else depends on that
numbered_pairing : (design : Design) (cell m n : ℕ) (flat : FlatModel) (rules : Rules) → pairing_of design cell n flat rules ≡ record (pairing_of design cell m flat rules) { model = n }
unfolding pairing_of
numbered_pairing design cell m n flat rules = refl

abbrev compared : Design → Rules → ℕ → Pairing → FlatModel → Comparison
compared design rules cell pairing flat = record {
  design = design;
  rules = rules;
  cell = cell;
  pairing = pairing;
  circuit = flat_circuit design rules cell pairing;
  model = flat;
  groups = groups_of (flat_circuit design rules cell pairing) flat;
}

pub comparisons_are_exchanged : (design : Design) (blif : Blif) (rules : Rules) (cell m : ℕ) (l : Logic) → IsWritable l → IsInterfaceOf (model_at blif m) (written_model l)
    → comparison_of design (alone (written_model l)) rules cell 0 ≡ exchanged (comparison_of design blif rules cell m) (flat_form (written_model l)) 0
comparisons_are_exchanged design blif rules cell m l good is =
    let written : PlainModel = written_model l in
    let one : FlatModel = flat_model_of blif m in
    let two : FlatModel = flat_model_of (alone written) 0 in
    let kept = pairings_are_kept one two (interfaces_are_kept blif m written (drivers l good) is) design cell 0 rules in
    ap₂ (λ (pairing : Pairing) (flat : FlatModel). compared design rules cell pairing flat)
    (sym kept.0 ∙ numbered_pairing design cell m 0 one rules) (driven_models_are_flat written (drivers l good))

pub written_cells_are_equal : (design : Design) (blif : Blif) (rules : Rules) (cell m : ℕ) (l : Logic) → IsWrittenFor (comparison_of design blif rules cell m) blif m l
    → IsEqual (comparison_of design (alone (written_model l)) rules cell 0)
written_cells_are_equal design blif rules cell m l w =
    let k : Comparison = comparison_of design blif rules cell m in
    subst IsEqual (sym (comparisons_are_exchanged design blif rules cell m l w.writable w.interface))
    (models_are_exchanged k (flat_form (written_model l)) 0 w.stateless w.logic w.equal (outputs_are_shown k l 0 w.unclocked w.stateless w.equal w.written))
