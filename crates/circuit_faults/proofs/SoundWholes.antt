-- What holds of outputs of whole instances that follow from linked inputs: each is at a plain net, so no root as strong as that of a
-- given net stands beside one.
use Rattle.std.proofs.Common.{ℕ, Bool}
use Rattle.channel_parts.specs.declared.part.Part.{Part}
use Rattle.circuit_faults.specs.Wholes.{HasSoundWholes}
use Rattle.known_nets.proofs.WiredLaws.{pin_of_whole}
use Rattle.known_nets.specs.Wired.{IsWired}
use Rattle.path_fixpoint.proofs.PinLaws.{whole_pin}
use Rattle.path_fixpoint.specs.Parts.{AreSoftInside}
use Rattle.vrt_model.proofs.Ranked.{plain_not_given}
use Rattle.vrt_model.specs.Known.{IsPlain}
use Rattle.vrt_model.specs.Lists.{At}
use Rattle.vrt_model.specs.State.{OutputPin, output_pins}
use Rattle.vrt_model.specs.declared.circuit.Circuit.{Circuit}
use Rattle.vrt_model.specs.declared.rules.Phase.{Phase}

pub wired_wholes : (c : Circuit) (phase : Phase) (observed : ℕ → Bool) → HasSoundWholes c phase observed → IsWired c
wired_wholes c phase observed wholes = record { ranges = wholes.ranges; outputs = λ w pin m out. (wholes.determined w m).plain pin out }

pub output_plain : (c : Circuit) → IsWired c → (at : ℕ) (out : OutputPin) → At (output_pins c) at out → IsPlain c out.pin.net.0
output_plain c wired at out e = let from = pin_of_whole c out (at, e) in wired.outputs out.whole out.pin from.0 from.1

-- no output is at a net with a given value
pub soft_inside : (c : Circuit) → IsWired c → (part : Part) → AreSoftInside c part
soft_inside c wired part pin m soft given =
    let from = whole_pin c pin m in
    absurd (plain_not_given c pin.net.0 (wired.outputs from.0 pin from.1 from.2) given)
