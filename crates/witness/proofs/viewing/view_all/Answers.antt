use Rattle.std.proofs.Common.{◌≡◌, ◌<◌, ◌||◌, ℕ, Bool, List, false, length, arith, ap, subst, sym, ◌∙◌}
use Rattle.std.specs.Prelude.{All}
use Rattle.std.specs.List.{list_any}
use Rattle.std.proofs.lemmas.List.{length-replicate}
use Rattle.std.proofs.lemmas.Option.{same_Some, slice_get_within}
use Rattle.channel_parts.specs.declared.part.Part.{Part}
use Rattle.known_nets.specs.KnownTables.{known_at}
use Rattle.vrt_model.proofs.Lists.{none_marked}
use Rattle.vrt_model.specs.Lists.{bit_at, mark_at}
use Rattle.vrt_model.specs.declared.ids.Net.{Net}
use Rattle.witness.proofs.ViewLaws.{filled_bits, view_right}
use Rattle.witness.specs.Looks.{filled}
use Rattle.witness.specs.Replays.{HasSeen}
use Rattle.witness.specs.Views.{stops, view_by}
use Rattle.witness.proofs.viewing.view_all.Goals as goal

pub mark_parts-requires : goal.mark_parts-requires
mark_parts-requires c =
    let len : length c.in_ok-marks.marks.items ≡ length c.args.circuit.now.nets = ap (λ (ms : List Bool). length ms) c.in_ok-marks.ensures ∙ length-replicate {A = Bool} c.len.result false ∙ c.len.ensures in
    subst (λ (k : ℕ). All (λ (part : Part). All (λ (net : Net). net.0 < k) part.nets) c.args.parts.now) (sym len) c.requires.nets

pub returns-clause-seen : goal.returns-clause-seen
returns-clause-seen c phase setting rank same each all given known n seen at =
    let circuit = c.args.circuit.now in
    let bits = c.args.bits.now in
    let parts = c.args.parts.now in
    let signals = c.in_ok-signals.signals in
    let inside = slice_get_within c.in_ok-list.list n seen at in
    let count : length c.in_ok-list.list ≡ c.len-2.result = c.in_ok-list.ensures.len in
    let nets : c.len-2.result ≡ length circuit.nets = c.len-2.ensures in
    let is : view_by (mark_at c.as_slice-2.result.now n) c.as_slice-3.result.now c.as_slice-4.result.now n ≡ seen =
    same_Some (view_by (mark_at c.as_slice-2.result.now n) c.as_slice-3.result.now c.as_slice-4.result.now n) seen (sym (c.in_ok-list.ensures.each n (omega (arith, inside, count))) ∙ at) in
    let marked : mark_at c.as_slice-2.result.now n ≡ list_any (stops circuit bits n) parts =
    ap (λ (ms : List Bool). mark_at ms n) c.as_slice-2.ensures.value ∙ (c.mark_parts.ensures n
    ∙ ap (λ (b : Bool). b || list_any (stops circuit bits n) parts) (ap (λ (ms : List Bool). mark_at ms n) c.in_ok-marks.ensures ∙ none_marked c.len.result n)) in
    let shown : view_by (mark_at c.as_slice-2.result.now n) c.as_slice-3.result.now c.as_slice-4.result.now n ≡ view_by (list_any (stops circuit bits n) parts) signals.zeros.items signals.ones.items n =
    ap (λ (b : Bool). view_by b c.as_slice-3.result.now c.as_slice-4.result.now n) marked
    ∙ (ap (λ (zs : List Bool). view_by (list_any (stops circuit bits n) parts) zs c.as_slice-4.result.now n) c.as_slice-3.ensures.value
    ∙ ap (λ (os : List Bool). view_by (list_any (stops circuit bits n) parts) signals.zeros.items os n) c.as_slice-4.ensures.value) in
    let there : (m : ℕ) → bit_at c.as_slice.result.now m ≡ filled bits m = λ m. ap (λ (xs : List Bool). bit_at xs m) (c.as_slice.ensures.value ∙ c.in_ok-reading.ensures) ∙ filled_bits bits m in
    subst (HasSeen circuit phase setting (known_at bits) c.args.bare n) (sym shown ∙ is)
    (view_right circuit phase c.requires.flat setting c.args.bare bits given known parts rank each all n (λ m. false) (omega (arith, inside, count, nets))
    (bit_at c.args.held.now) (bit_at c.as_slice.result.now) same there signals.strengths.items signals.zeros.items signals.ones.items (c.in_ok-signals.ensures.signals (λ m. false)))
