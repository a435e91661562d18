use Rattle.std.proofs.Common.{◌≡◌, ℕ, Option, length, arith, subst, ◌∙◌}
use Rattle.channel_parts.proofs.GroupLaws.{more_grouped, none_grouped, placed_as}
use Rattle.channel_parts.specs.Groups.{AreGroups, net_owner}
use Rattle.known_nets.specs.Placed.{IsPlaced}
use Rattle.channel_parts.proofs.grouping.nets_by_part.Goals as goal

pub loop-net-init : goal.loop-net-init
loop-net-init c = record {
  len = c.in_ok-groups.ensures.len;
  groups = none_grouped (net_owner c.args.circuit.now c.args.least.now) c.in_ok-groups.groups.items c.in_ok-groups.ensures.empty;
}

pub loop-net-preserved : goal.loop-net-preserved
loop-net-preserved c =
    let owner : ℕ → Option ℕ = net_owner c.args.circuit.now c.args.least.now in
    let net = c.loop-net.net in
    let placed : IsPlaced (owner net) net c.loop-net.groups.items c.place.new.groups.items =
    placed_as c.net_owner-owner.result (owner net) c.in_ok-number.number net c.loop-net.groups.items c.place.new.groups.items c.net_owner-owner.ensures c.in_ok-number.ensures c.in_ok-place.ensures in
    record {
      len = placed.count ∙ c.loop-net.invariant.len;
      groups = more_grouped owner net c.loop-net.groups.items c.place.new.groups.items placed c.loop-net.invariant.groups;
    }

pub returns-clause-groups : goal.returns-clause-groups
returns-clause-groups c =
    let all : c.loop-net.net ≡ length c.args.least.now = omega (arith, c.loop-net-test.false, c.loop-net.auto.net-end) in
    subst (λ (n : ℕ). AreGroups (net_owner c.args.circuit.now c.args.least.now) n c.loop-net.groups.items) all c.loop-net.invariant.groups
