use Rattle.std.proofs.Common.{sym, ◌∙◌}
use Rattle.std.proofs.lemmas.Result.{on_ok_weaker}
use Rattle.known_nets.proofs.SpreadLaws.{crossed_back, crossed_forth, gone_back, gone_forth}
use Rattle.known_nets.specs.Spreads.{IsKnownOn}
use Rattle.known_nets.proofs.spread.cross.Goals as goal

pub returns-then-is_plain-clause-gone : goal.returns-then-is_plain-clause-gone
returns-then-is_plain-clause-gone c =
    let on : IsKnownOn c.args.over.circuit.now c.args.over.known.now c.args.device.now = record { there = c.requires.there; bare = c.requires.bare; on = c.requires.on } in
    let old = c.args.amounts.now in
    let new = c.raise.new.self in
    on_ok_weaker c.raise.result
    (gone_forth c.args.over.spread c.args.over.circuit.now c.args.over.known.now c.args.over.levels.now c.args.amount c.args.net c.args.other c.passed-forth.result c.args.device.now old.table.items new.table.items old.met.items new.met.items on c.requires.joins c.requires.plain (sym c.is_plain.ensures ∙ c.if-is_plain.true) c.passed-forth.ensures)
    c.raise.ensures

pub returns-then-is_plain-clause-crossed : goal.returns-then-is_plain-clause-crossed
returns-then-is_plain-clause-crossed c =
    let old = c.args.amounts.now in
    let new = c.raise.new.self in
    on_ok_weaker c.raise.result
    (crossed_forth c.args.over.spread c.args.over.circuit.now c.args.over.known.now c.args.over.levels.now c.args.amount c.args.net c.args.other c.passed-forth.result c.args.device.now old.table.items new.table.items old.met.items new.met.items c.requires.size (sym c.is_plain.ensures ∙ c.if-is_plain.true) c.passed-forth.ensures)
    c.raise.ensures

pub returns-else-is_plain-clause-gone : goal.returns-else-is_plain-clause-gone
returns-else-is_plain-clause-gone c =
    let on : IsKnownOn c.args.over.circuit.now c.args.over.known.now c.args.device.now = record { there = c.requires.there; bare = c.requires.bare; on = c.requires.on } in
    let old = c.args.amounts.now in
    let new = c.raise-else-is_plain.new.self in
    on_ok_weaker c.raise-else-is_plain.result
    (gone_back c.args.over.spread c.args.over.circuit.now c.args.over.known.now c.args.over.levels.now c.args.amount c.args.net c.args.other c.given_amount-given.result c.passed-back.result c.args.device.now old.table.items new.table.items old.met.items new.met.items on c.requires.joins c.requires.plain (sym c.is_plain.ensures ∙ c.if-is_plain.false)
    c.given_amount-given.ensures c.passed-back.ensures)
    c.raise-else-is_plain.ensures

pub returns-else-is_plain-clause-crossed : goal.returns-else-is_plain-clause-crossed
returns-else-is_plain-clause-crossed c =
    let old = c.args.amounts.now in
    let new = c.raise-else-is_plain.new.self in
    on_ok_weaker c.raise-else-is_plain.result
    (crossed_back c.args.over.spread c.args.over.circuit.now c.args.over.known.now c.args.over.levels.now c.args.amount c.args.net c.args.other c.given_amount-given.result c.passed-back.result c.args.device.now old.table.items new.table.items old.met.items new.met.items c.requires.size c.requires.plain (sym c.is_plain.ensures ∙ c.if-is_plain.false)
    c.given_amount-given.ensures c.passed-back.ensures)
    c.raise-else-is_plain.ensures
