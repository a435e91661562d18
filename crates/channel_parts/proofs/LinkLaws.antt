-- Links and the least nets of the parts to which they lead.
use Rattle.std.proofs.Common.{◌≡◌, ℕ, ◌<◌, true, List, length, None, Option, Some, slice_get, slice_index, ap, refl, sym, ◌∙◌}
use Rattle.std.specs.Prelude.{Bool, bytes_eq, option_map, unwrap_or}
use Rattle.std.proofs.lemmas.Option.{none-some}
use Rattle.std.proofs.lemmas.Slice.Eq.{bytes_eq-Decides}
use Rattle.channel_parts.proofs.PartLaws.{owner_plain, plain_owner, same_least_net}
use Rattle.channel_parts.proofs.RankLaws.{same_part}
use Rattle.channel_parts.specs.Groups.{net_owner}
use Rattle.channel_parts.specs.Links.{link_target}
use Rattle.channel_parts.specs.Ranks.{AreLeast}
use Rattle.known_nets.specs.KnownTables.{IsKnownTable, known_at}
use Rattle.vrt_model.proofs.Members.{all_among}
use Rattle.vrt_model.proofs.Ranked.{together_plain}
use Rattle.vrt_model.specs.Circuits.{IsNet, IsWhole}
use Rattle.vrt_model.specs.Known.{IsPlain, Leads}
use Rattle.vrt_model.specs.Lists.{At, Among}
use Rattle.vrt_model.specs.Networks.{HasRanges}
use Rattle.vrt_model.specs.declared.circuit.Circuit.{Circuit}
use Rattle.vrt_model.specs.declared.rules.Phase.{Phase}
use Rattle.vrt_model.specs.declared.whole.Link.{Link}
use Rattle.vrt_model.specs.declared.whole.Whole.{Whole}
use Rattle.vrt_model.specs.declared.whole.WholePin.{WholePin}

-- the output to which a link leads is there
pin_of_target : (c : Circuit) (least : List ℕ) (w : Whole) (link : Link) (to : ℕ) → link_target c least w link ≡ Some to
    → (pin : WholePin) × At w.outputs link.output pin × (net_owner c least pin.net.0 ≡ Some to)
pin_of_target c least w link to e = found (slice_get w.outputs link.output) refl e
  where
    found : (o : Option WholePin) → slice_get w.outputs link.output ≡ o → unwrap_or (option_map (λ (pin : WholePin). net_owner c least pin.net.0) o) None ≡ Some to
        → (pin : WholePin) × At w.outputs link.output pin × (net_owner c least pin.net.0 ≡ Some to)
    found None here t = absurd (none-some to t)
    found (Some pin) here t = (pin, here, t)

-- a link of the phase leads to each net of the part that it has as its target
pub target_leads : (c : Circuit) (phase : Phase) (least : List ℕ) (m : ℕ) (w : Whole) (link : Link) → AreLeast c phase least → IsPlain c m → Among c.wholes w → Among w.links link
    → bytes_eq link.phase phase.name ≡ true → link_target c least w link ≡ Some (slice_index least m) → Leads c phase w link link.from.0 m
target_leads c phase least m w link are p whole there stands target =
    let pin = pin_of_target c least w link (slice_index least m) target in
    let own = owner_plain c least pin.0.net.0 (slice_index least m) pin.2 in
    (whole, there, (bytes_eq-Decides link.phase phase.name).0 stands, refl, (pin.0, pin.1, same_part c phase least m pin.0.net.0 are p own.0 (sym own.1)))

-- and has as its target the part of each net to which it leads
pub leads_target : (c : Circuit) (phase : Phase) (known : List (Option Bool)) (least : List ℕ) (w : Whole) (link : Link) (n m : ℕ) → IsKnownTable c phase (known_at known) → AreLeast c phase least
    → Leads c phase w link n m → link_target c least w link ≡ Some (slice_index least m)
leads_target c phase known least w link n m table are leads =
    let pin = leads.4.0 in
    let together = leads.4.2 in
    let same : slice_index least m ≡ slice_index least pin.net.0 = same_least_net c phase known least true table are m pin.net.0 together in
    ap (λ (o : Option WholePin). unwrap_or (option_map (λ (p : WholePin). net_owner c least p.net.0) o) None) leads.4.1
    ∙ plain_owner c least pin.net.0 (slice_index least m) (together_plain c phase true m pin.net.0 together) (sym same)

-- the net of a link is one of the circuit
pub link_inside : (c : Circuit) (w : Whole) (link : Link) → HasRanges c → Among c.wholes w → Among w.links link → link.from.0 < length c.nets
link_inside c w link ranges whole there =
    let is = all_among (IsWhole c) c.wholes w ranges.wholes whole in
    (all_among (λ (l : Link). IsNet c l.from × (l.output < length w.outputs)) w.links link is.links there).0
