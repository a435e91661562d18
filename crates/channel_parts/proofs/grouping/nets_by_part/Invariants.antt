use Rattle.std.proofs.Common.{◌≡◌, length}
use Rattle.channel_parts.specs.Groups.{AreGroups, net_owner}
use Rattle.channel_parts.proofs.grouping.nets_by_part.Given as goal

-- the nets so far are in their groups
abbrev pub invariant-loop-net : goal.invariant-loop-net
invariant-loop-net l = record {
  len : length l.groups.items ≡ length l.least;
  groups : AreGroups (net_owner l.circuit l.least) l.net l.groups.items;
}
