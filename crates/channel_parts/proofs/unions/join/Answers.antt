use Rattle.std.proofs.Common.{sym, ◌∙◌}
use Rattle.channel_parts.proofs.RankLaws.{together_back}
use Rattle.channel_parts.proofs.UnionLaws.{least_together}
use Rattle.channel_parts.proofs.unions.join.Goals as goal

pub link-requires-else-one-other-clause-own : goal.link-requires-else-one-other-clause-own
link-requires-else-one-other-clause-own c = c.least_of-other.ensures.stay c.least_of-one.result c.least_of-one.ensures.own

pub returns-then-one-other-clause-same : goal.returns-then-one-other-clause-same
returns-then-one-other-clause-same c f r =
    let linked = c.link.ensures.same f r in
    let second = c.least_of-other.ensures.same f linked.0 in
    let first = c.least_of-one.ensures.same f second.0 in
    (first.0, sym first.1 ∙ linked.1 ∙ second.1)

pub returns-else-one-other-clause-same : goal.returns-else-one-other-clause-same
returns-else-one-other-clause-same c f r =
    let linked = c.link-else-one-other.ensures.same f r in
    let second = c.least_of-other.ensures.same f linked.0 in
    let first = c.least_of-one.ensures.same f second.0 in
    (first.0, sym first.1 ∙ sym linked.1 ∙ second.1)

pub returns-then-one-other-clause-sound : goal.returns-then-one-other-clause-sound
returns-then-one-other-clause-sound c circuit phase bare t of =
    let first = c.least_of-one.ensures.sound circuit phase bare of in
    let second = c.least_of-other.ensures.sound circuit phase bare first.0 in
    let one = c.least_of-one.result in
    let other = c.least_of-other.result in
    c.link.ensures.sound circuit phase bare
    (together_back circuit phase bare one other (least_together circuit phase bare c.args.left c.args.right one other t first.1 second.1))
    second.0

pub returns-else-one-other-clause-sound : goal.returns-else-one-other-clause-sound
returns-else-one-other-clause-sound c circuit phase bare t of =
    let first = c.least_of-one.ensures.sound circuit phase bare of in
    let second = c.least_of-other.ensures.sound circuit phase bare first.0 in
    c.link-else-one-other.ensures.sound circuit phase bare
    (least_together circuit phase bare c.args.left c.args.right c.least_of-one.result c.least_of-other.result t first.1 second.1) second.0
