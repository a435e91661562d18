use Rattle.net_places.proofs.GlobalLaws.{numbered_all, numbered_more, numbered_room}
use Rattle.net_places.proofs.globals.global_nets.Goals as goal
use Rattle.vrt_model.proofs.Lists.{no_items}

pub next_net-next-requires : goal.next_net-next-requires
next_net-next-requires c =
    numbered_room c.args.first c.args.marks.now c.marks.left.now c.in-Some.behind.now c.in-Some.mark.now c.marks.nets c.marks.next c.in-Some.ensures.cases.0 c.marks.invariant c.requires

pub marks-preserved : goal.marks-preserved
marks-preserved c =
    numbered_more c.args.first c.args.marks.now c.marks.left.now c.in-Some.behind.now c.in-Some.mark.now c.marks.nets c.append.new.self c.global_net.result c.marks.next c.next_net-next.result
    c.in-Some.ensures.cases.0 c.in_ok-append.ensures c.global_net.ensures c.next_net-next.ensures c.marks.invariant

pub returns-clause-nets : goal.returns-clause-nets
returns-clause-nets c = (numbered_all c.args.first c.args.marks.now c.marks.left.now c.marks.nets c.marks.next (no_items _ c.in_default.ensures.cases) c.marks.invariant).0

pub returns-clause-next : goal.returns-clause-next
returns-clause-next c = (numbered_all c.args.first c.args.marks.now c.marks.left.now c.marks.nets c.marks.next (no_items _ c.in_default.ensures.cases) c.marks.invariant).1
