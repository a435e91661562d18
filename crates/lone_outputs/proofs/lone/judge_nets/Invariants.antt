use Rattle.std.proofs.Common.{◌≡◌, map, take}
use Rattle.lone_outputs.specs.Owners.{is_lone}
use Rattle.lone_outputs.proofs.lone.judge_nets.Given as goal

-- the nets so far are judged
abbrev pub invariant-loop-net : goal.invariant-loop-net
invariant-loop-net l = record {
  is : l.lone ≡ map (is_lone l.circuit l.known l.least l.counts) (take l.net-index l.nets);
}
