use Rattle.std.proofs.Common.{ap, get_or, inl, inr, subst, sym, ◌∙◌}
use Rattle.std.proofs.lemmas.Option.{slice_get-get_or}
use Rattle.channel_parts.specs.PartLists.{net_numbers}
use Rattle.vrt_model.proofs.Lists.{map_among}
use Rattle.vrt_model.specs.Lists.{Among}
use Rattle.vrt_model.specs.declared.ids.Net.{Net}
use Rattle.witness.specs.Views.{shown_by}
use Rattle.witness.proofs.sweeping.note_nets.Goals as goal

pub loop-net-preserved : goal.loop-net-preserved
loop-net-preserved c =
    let nets = c.args.nets.now in
    let signals = c.args.signals.now in
    let at = c.loop-net.net-index in
    let blank : Net = record { 0 = 0 } in
    let here : Among (net_numbers nets) (get_or nets at blank).0 = map_among (λ (net : Net). net.0) nets (get_or nets at blank) (at, slice_get-get_or nets at blank c.loop-net-test.true) in
    record {
      size = c.note.ensures.size ∙ c.loop-net.invariant.size;
      grown = λ n v e. c.note.ensures.grown n v (c.loop-net.invariant.grown n v e);
      only = λ n v e. elim (c.note.ensures.only n v e) [
        | inl before ↦ c.loop-net.invariant.only n v before
        | inr q ↦ inr (subst (Among (net_numbers nets)) (sym q.0) here, ap (shown_by signals) q.0 ∙ (sym c.shown_by-shown.ensures ∙ q.1))
      ];
    }
