-- Outputs that are in different parts are joined by no conducting devices.
use Rattle.std.proofs.Common.{◌≡◌, ℕ, Bool, true, subst}
use Rattle.cell_inside.proofs.NetKinds.{plain_is}
use Rattle.cell_inside.specs.Placed.{alone}
use Rattle.cell_inside.specs.Replaced.{IsJoined, itself, onward}
use Rattle.cell_inside.specs.Unjoined.{HasKnownGates, PartedOutputsAreUnjoined}
use Rattle.vrt_model.specs.Known.{IsTogether, is_plain_at}
use Rattle.vrt_model.specs.Known.IsTogether.{itself as stays, onward as goes}
use Rattle.vrt_model.specs.Reading.{conducts_at}
use Rattle.vrt_model.specs.State.{State}
use Rattle.vrt_model.specs.declared.circuit.Circuit.{Circuit}
use Rattle.vrt_model.specs.declared.rules.Phase.{Phase}

joined_together : (cell : Circuit) (phase : Phase) (bare : Bool) (at : ℕ → ℕ) (s : State) → HasKnownGates cell phase bare at s
    → (m n : ℕ) → IsJoined (alone cell bare at s) (is_plain_at cell) m n → IsTogether cell phase bare m n
joined_together cell phase bare at s known m n (itself ins) = stays (plain_is cell m ins)
joined_together cell phase bare at s known m n (onward d before on joins ins) =
    goes d (joined_together cell phase bare at s known m _ before) (on.0, λ b k. subst (λ (x : Bool). conducts_at d.kind x ≡ true) (known d b on.0 k) on.1) joins (plain_is cell n ins)

pub parted_outputs_are_unjoined : PartedOutputsAreUnjoined
parted_outputs_are_unjoined cell phase bare at exposed s known apart m n mm mn j = apart m n mm mn (joined_together cell phase bare at s known m n j)
