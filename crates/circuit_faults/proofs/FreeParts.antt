-- The output at the first net of a part that is marked as free, and the nets of parts where none is.
use Rattle.std.proofs.Common.{◌≡◌, ℕ, List, Option, None, Some, ap, refl, sym, ◌∙◌}
use Rattle.std.specs.Prelude.{option_and_then, slice_get}
use Rattle.std.proofs.lemmas.Option.{none-some}
use Rattle.channel_parts.specs.declared.part.Part.{Part}
use Rattle.circuit_faults.specs.Scans.{IsInside, free_part}
use Rattle.vrt_model.specs.Known.{IsPlain}
use Rattle.vrt_model.specs.Lists.{At}
use Rattle.vrt_model.specs.State.{OutputPin, output_pins}
use Rattle.vrt_model.specs.declared.circuit.Circuit.{Circuit}
use Rattle.vrt_model.specs.declared.ids.Net.{Net}
use Rattle.whole_steps.proofs.FreeOutputLaws.{marked_free}
use Rattle.whole_steps.specs.FreeOutputs.{IsFreeOutput}
use Rattle.whole_steps.specs.Tables.{AreDrivers, IsOutput, free_at}
use Rattle.whole_steps.specs.declared.table.OutputPlace.{OutputPlace}

same_net : (net other : Net) → other.0 ≡ net.0 → net ≡ other
same_net net other e = let build : ℕ → Net = λ n. record { 0 = n } in ap build (sym e)

pub free_here : (c : Circuit) (drivers : List (Option OutputPlace)) → AreDrivers c (output_pins c) drivers → (part : Part) → ((n : ℕ) → IsInside part n → IsPlain c n)
    → (place : OutputPlace) → free_part drivers part ≡ Some place
    → (out : OutputPin) × IsOutput c (output_pins c) place out × IsFreeOutput c place.number out × At part.nets 0 out.pin.net
free_here c drivers are part plain place some = by_first (slice_get part.nets 0) refl some
  where
    by_first : (o : Option Net) → slice_get part.nets 0 ≡ o → option_and_then (λ (net : Net). free_at drivers net.0) o ≡ Some place
        → (out : OutputPin) × IsOutput c (output_pins c) place out × IsFreeOutput c place.number out × At part.nets 0 out.pin.net
    by_first None e some = absurd (none-some place some)
    by_first (Some net) e some =
        let there = marked_free c drivers are net.0 (plain net.0 (0, (net, e, refl))) place some in
        (there.0, there.1, there.2, e ∙ ap (λ (x : Net). let o : Option Net = Some x in o) (same_net net there.0.pin.net there.3))

-- and no output at its first net is
pub first_free : (drivers : List (Option OutputPlace)) (part : Part) (net : Net) → At part.nets 0 net → free_part drivers part ≡ free_at drivers net.0
first_free drivers part net e = ap (option_and_then (λ (x : Net). free_at drivers x.0)) e
