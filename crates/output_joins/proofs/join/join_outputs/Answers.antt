use Rattle.output_joins.proofs.Joining.{first_within, joining_more, refused}
use Rattle.output_joins.proofs.join.join_outputs.Goals as goal

pub join_wish-requires-clause-within : goal.join_wish-requires-clause-within
join_wish-requires-clause-within c =
    first_within c.args.care c.args.gates c.args.wishes.now c.outputs.left.now c.in-Some.behind.now c.in-Some.wish.now c.in-Some.ensures.cases.0 c.args.store.now c.outputs.store c.outputs.store
    c.args.functions.now.items c.outputs.functions.items c.requires.care c.requires.filled c.outputs.invariant

pub returns-in-Err-clause-counts : goal.returns-in-Err-clause-counts
returns-in-Err-clause-counts c =
    refused c.args.care c.args.gates c.args.wishes.now c.outputs.left.now c.in-Some.behind.now c.in-Some.wish.now c.in-Some.ensures.cases.0 c.args.store.now c.outputs.store c.join_wish.new.store
    c.args.functions.now.items c.outputs.functions.items c.requires.care c.requires.filled c.outputs.invariant c.in-Err.spent c.in-Err.ensures.counts

pub outputs-preserved : goal.outputs-preserved
outputs-preserved c =
    joining_more c.args.care c.args.gates c.args.wishes.now c.outputs.left.now c.in-Some.behind.now c.in-Some.wish.now c.in-Some.ensures.cases.0 c.args.store.now c.outputs.store
    c.join_wish.new.store c.args.functions.now.items c.outputs.functions.items c.requires.care c.requires.filled c.outputs.invariant c.join_wish.new.functions.items c.in-Ok.ensures.adds
    c.in-Ok.ensures.joined c.in-Ok.ensures.counts
