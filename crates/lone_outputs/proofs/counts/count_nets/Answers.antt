use Rattle.std.proofs.Common.{ℕ, ◌+◌, get_or, cond, arith, ap, sym, ◌∙◌}
use Rattle.std.proofs.lemmas.List.Filters.{length-filter_more}
use Rattle.lone_outputs.specs.Owners.{CountsNet, is_in_part}
use Rattle.vrt_model.specs.declared.ids.Net.{Net}
use Rattle.lone_outputs.proofs.counts.count_nets.Goals as goal

pub loop-net-preserved : goal.loop-net-preserved
loop-net-preserved c =
    let circuit = c.args.circuit.now in
    let least = c.args.least.now in
    let nets = c.args.nets.now in
    let i = c.loop-net.net-index in
    let none : Net = record { 0 = 0 } in
    let net : Net = get_or nets i none in
    let more : CountsNet circuit least net c.loop-net.counts.items c.count_net.new.counts.items = c.in_ok-count_net.ensures in
    let before = c.loop-net.invariant in
    let len = more.len in
    record {
      len = len ∙ before.len;
      is = λ owner lt.
          more.is owner (omega (arith, lt, len))
          ∙ ap (λ (k : ℕ). k + cond (is_in_part circuit least owner net) 1 0) (before.is owner (omega (arith, lt, len)))
          ∙ sym (length-filter_more (is_in_part circuit least owner) nets i none c.loop-net-test.true);
    }
