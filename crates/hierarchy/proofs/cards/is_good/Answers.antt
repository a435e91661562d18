use Rattle.std.proofs.Common.{sym}
use Rattle.hierarchy.proofs.CardLaws.{good_found, good_unknown}
use Rattle.hierarchy.proofs.cards.is_good.Goals as goal

pub returns-in-Some : goal.returns-in-Some
returns-in-Some c =
    good_found c.args.design.now c.args.names.now c.args.card.now c.as_bytes.result.now c.in-Some.number _ _ c.requires c.as_bytes.ensures (sym c.in-Some.ensures) c.len.ensures c.port_count.ensures

pub returns-in-None : goal.returns-in-None
returns-in-None c = good_unknown c.args.design.now c.args.names.now c.args.card.now c.as_bytes.result.now c.requires c.as_bytes.ensures (sym c.in-None.ensures)
