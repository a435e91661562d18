-- Places at which faults that are found by rank stand.
use Rattle.std.proofs.Common.{ℕ, List, subst, sym, refl, ◌∙◌}
use Rattle.std.proofs.lemmas.Option.{same_Some}
use Rattle.firm_faults.specs.FirmGround.{IsFoundByRank, IsOnFirmGround}
use Rattle.firm_faults.specs.StepDown.{IsSamePlaceIn}
use Rattle.vrt_model.specs.Comparison.{Comparison}
use Rattle.vrt_model.specs.Lists.{At}
use Rattle.vrt_model.specs.State.{Setting}
use Rattle.vrt_model.specs.declared.circuit.Circuit.{Circuit}
use Rattle.vrt_model.specs.declared.circuit.FlatInstance.{FlatInstance}
use Rattle.vrt_model.specs.declared.verdict.FaultKind.{FaultKind}
use Rattle.vrt_model.specs.declared.verdict.FaultKind.TheVariants.{Fight, FightKept, Float, Unsettled, Constraint, Differs, Next, Apart, Enter}

-- the same place, from one circuit to the next and on to a third
pub same_on : (c d e : Circuit) (kind : FaultKind) (n m l : ℕ) → IsFoundByRank kind → IsSamePlaceIn c d kind n m → IsSamePlaceIn d e kind m l → IsSamePlaceIn c e kind n l
same_on c d e Fight n m l ok one two = one ∙ two
same_on c d e Float n m l ok one two = one ∙ two
same_on c d e Constraint n m l ok one two =
    (one.0, one.1, subst (λ (i : FlatInstance). At e.instances l i) (same_Some two.0 one.0 (sym two.1 ∙ one.2)) two.2)
same_on c d e FightKept n m l ok one two = absurd ok
same_on c d e Unsettled n m l ok one two = absurd ok
same_on c d e Differs n m l ok one two = absurd ok
same_on c d e Next n m l ok one two = absurd ok
same_on c d e Apart n m l ok one two = absurd ok
same_on c d e Enter n m l ok one two = absurd ok

-- a fault on firm ground is at its own place
pub own_place : (k : Comparison) (own : List FlatInstance) (phase : ℕ) (setting : Setting) (kind : FaultKind) (n : ℕ) → IsFoundByRank kind → IsOnFirmGround k own phase setting kind n
    → IsSamePlaceIn k.circuit k.circuit kind n n
own_place k own phase setting Fight n y h = refl
own_place k own phase setting Float n y h = refl
own_place k own phase setting Constraint n y h = (h.firm.0, h.firm.1, h.firm.1)
own_place k own phase setting FightKept n y h = absurd y
own_place k own phase setting Unsettled n y h = absurd y
own_place k own phase setting Differs n y h = absurd y
own_place k own phase setting Next n y h = absurd y
own_place k own phase setting Apart n y h = absurd y
own_place k own phase setting Enter n y h = absurd y
