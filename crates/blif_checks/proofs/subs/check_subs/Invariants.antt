use Rattle.std.proofs.Common.{◌≡◌, drop, flat_map, map}
use Rattle.text_lines.specs.Faults.{first_of}
use Rattle.vrt_model.specs.declared.blif.BlifModel.{BlifModel}
use Rattle.blif_checks.specs.Subs.{sub_fault, subs_fault}
use Rattle.blif_checks.proofs.subs.check_subs.Given as goal

-- no model so far has a sub-model with a fault
abbrev pub invariant-loop-model : goal.invariant-loop-model
invariant-loop-model l = first_of (map (sub_fault l.blif) (flat_map (λ (m : BlifModel). m.subs) (drop l.model-index l.blif.models))) ≡ subs_fault l.blif
