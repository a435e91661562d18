use Rattle.std.proofs.Common.{◌≡◌, ◌<◌, ℕ, Bool, List, Option, Some, true, false, length, refl, subst, sym, slice_get}
use Rattle.std.specs.Prelude.{All}
use Rattle.channel_parts.specs.PartLists.{IsPartOf, net_numbers}
use Rattle.channel_parts.specs.declared.part.Part.{Part}
use Rattle.known_nets.specs.KnownTables.{known_at}
use Rattle.vrt_model.specs.Known.{IsPlain}
use Rattle.vrt_model.specs.Lists.{Among, At}
use Rattle.vrt_model.specs.State.{Setting}
use Rattle.vrt_model.specs.declared.ids.Net.{Net}
use Rattle.witness.proofs.PartNets.{part_nets}
use Rattle.witness.proofs.SettleLaws.{settled_values}
use Rattle.witness.proofs.StartLaws.{start_stands}
use Rattle.witness.specs.Replays.{HasSeen, setting_of}
use Rattle.witness.specs.Settling.{IsSettled, Stands, start_of}
use Rattle.witness.specs.declared.seen.Seen.{Seen}
use Rattle.witness.proofs.replaying.values.Goals as goal

pub sweep-requires-clause-nets : goal.sweep-requires-clause-nets
sweep-requires-clause-nets c =
    let circuit = c.args.circuit.now in
    let parts = c.requires.parts in
    subst (λ (ps : List Part). All (λ (part : Part). All (λ (net : Net). net.0 < length circuit.nets) part.nets) ps) (sym c.as_slice-2.ensures)
    (part_nets circuit c.args.phase.now true parts.0 c.args.bare.now parts.1)

pub settle-requires-clause-nets : goal.settle-requires-clause-nets
settle-requires-clause-nets c =
    let circuit = c.args.circuit.now in
    let parts = c.requires.parts in
    subst (λ (ps : List Part). All (λ (part : Part). All (λ (net : Net). net.0 < length circuit.nets) part.nets) ps) (sym c.as_slice-3.ensures)
    (part_nets circuit c.args.phase.now true parts.0 c.args.bare.now parts.1)

pub returns : goal.returns
returns c =
    let circuit = c.args.circuit.now in
    let phase = c.args.phase.now in
    let flat = c.requires.flat in
    let held = c.args.held.now in
    let inputs = c.args.inputs.now in
    let setting : Setting = setting_of circuit held inputs in
    let parts = c.requires.parts in
    let are = parts.1 in
    let known = c.args.bare.now.known in
    let start = c.in_ok-bits.bits.items in
    let bits = c.settle.new.bits.items in
    let each : (n : ℕ) → n < length circuit.nets → slice_get start n ≡ Some (start_of circuit known inputs n) =
    subst (λ (xs : List (Option Bool)). (n : ℕ) → n < length circuit.nets → slice_get start n ≡ Some (start_of circuit xs inputs n)) c.as_slice.ensures c.in_ok-bits.ensures.each in
    let stands : Stands circuit phase setting (known_at start) = start_stands circuit phase flat held inputs known are.known start c.in_ok-bits.ensures.len each in
    let swept : Stands circuit phase setting (known_at c.sweep.new.bits.items) =
    c.in_ok-sweep.ensures.stands phase setting parts.0 refl
    (subst (λ (ps : List Part). (part : Part) → Among ps part → IsPartOf circuit phase true parts.0 part) (sym c.as_slice-2.ensures) are.each) stands in
    let settled : IsSettled circuit phase setting (known_at bits) c.in_ok-seen.seen =
    c.in_ok-seen.ensures phase setting parts.0 refl
    (subst (λ (ps : List Part). (part : Part) → Among ps part → IsPartOf circuit phase true parts.0 part) (sym c.as_slice-3.ensures) are.each)
    (subst (λ (ps : List Part). (m : ℕ) → IsPlain circuit m → (part : Part) × Among ps part × Among (net_numbers part.nets) m) (sym c.as_slice-3.ensures) are.all)
    swept in
    let there : Stands circuit phase setting (known_at c.as_slice-4.result.now) =
    subst (λ (xs : List (Option Bool)). Stands circuit phase setting (known_at xs)) (sym c.as_slice-4.ensures.value) settled.stands in
    let kept : (n : ℕ) (seen : Seen) → At c.in_ok-kept.kept n seen → HasSeen circuit phase setting (known_at bits) false n seen =
    subst (λ (xs : List (Option Bool)). (n : ℕ) (seen : Seen) → At c.in_ok-kept.kept n seen → HasSeen circuit phase setting (known_at xs) false n seen) c.as_slice-4.ensures.value
    (c.in_ok-kept.ensures.seen setting refl there.given there.known) in
    (parts.3, settled_values circuit phase setting (known_at bits) c.in_ok-seen.seen c.in_ok-kept.kept settled c.in_ok-kept.ensures.len kept)
