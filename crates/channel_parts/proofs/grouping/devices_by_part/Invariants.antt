use Rattle.std.proofs.Common.{◌≡◌, length}
use Rattle.channel_parts.specs.Groups.{AreGroups, device_owner_at}
use Rattle.channel_parts.proofs.grouping.devices_by_part.Given as goal

-- the devices so far are in their groups
abbrev pub invariant-loop-at : goal.invariant-loop-at
invariant-loop-at l = record {
  len : length l.groups.items ≡ length l.least;
  groups : AreGroups (device_owner_at l.circuit l.known l.least l.bare) l.at l.groups.items;
}
