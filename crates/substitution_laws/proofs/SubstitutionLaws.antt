-- A checked cell's model stands for it in the cells above.
use Rattle.std.proofs.Common.{◌⊎◌, inl, inr}
use Rattle.firm_faults.specs.FirmGround.{IsFoundByRank}
use Rattle.substitution_laws.proofs.AgreementLaws.{checked_circuits_agree}
use Rattle.substitution_laws.proofs.FirstLaws.{first_faults_stand_below}
use Rattle.substitution_laws.proofs.LaterLaws.{later_faults_stand_below}
use Rattle.substitution_laws.specs.LaterFaults.{IsFoundLater}
use Rattle.substitution_laws.specs.Substitution.{SubstitutionHolds}
use Rattle.vrt_model.specs.declared.verdict.FaultKind.{FaultKind}
use Rattle.vrt_model.specs.declared.verdict.FaultKind.TheVariants.{Fight, FightKept, Float, Unsettled, Constraint, Differs, Next, Apart, Enter}

-- a fault is found while the nets are solved, or later
when_found : (kind : FaultKind) → IsFoundByRank kind ⊎ IsFoundLater kind
when_found Fight = inl tt
when_found Float = inl tt
when_found Constraint = inl tt
when_found FightKept = inr tt
when_found Unsettled = inr tt
when_found Differs = inr tt
when_found Next = inr tt
when_found Apart = inr tt
when_found Enter = inr tt

pub substitution_holds : SubstitutionHolds
substitution_holds k cut blif facts c h = (
  checked_circuits_agree k cut blif facts c h,
  λ fault f describes first. elim (when_found f.kind) [
    | inl bare ↦ first_faults_stand_below k cut blif facts c fault f h bare describes first
    | inr later ↦ later_faults_stand_below k cut blif facts c fault f h later describes first
  ],
)
