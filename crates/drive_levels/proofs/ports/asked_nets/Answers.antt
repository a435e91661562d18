use Rattle.std.proofs.Common.{false, ap, length, ◌∙◌}
use Rattle.std.proofs.lemmas.List.{length-replicate}
use Rattle.vrt_model.proofs.Lists.{none_marked}
use Rattle.vrt_model.specs.Lists.{mark_at}
use Rattle.drive_levels.proofs.ports.asked_nets.Goals as goal

pub loop-net-init : goal.loop-net-init
loop-net-init c = record {
  len = ap (λ marks. length marks) c.in_ok-marks.ensures ∙ length-replicate c.args.count false;
  is = λ n. ap (λ marks. mark_at marks n) c.in_ok-marks.ensures ∙ none_marked c.args.count n;
}
