use Rattle.std.proofs.lemmas.List.{nil_from_length}
use Rattle.flat_holds.proofs.NoteLaws.{begun, last_rule, next_rule}
use Rattle.flat_holds.specs.Falls.{best_at}
use Rattle.flat_holds.proofs.falls.note_rules.Goals as goal

pub lines-init : goal.lines-init
lines-init c = begun (λ n. best_at c.args.design.now c.args.rules.now c.args.unrolled.now n c.args.number c.args.place.now c.args.lines.now) c.args.table.now.items

pub lines-preserved : goal.lines-preserved
lines-preserved c =
    next_rule c.args.design.now c.args.rules.now c.args.unrolled.now c.args.number c.args.place.now
    (λ n. best_at c.args.design.now c.args.rules.now c.args.unrolled.now n c.args.number c.args.place.now c.args.lines.now) c.lines.left.now c.in-Some.behind.now c.in-Some.at.now
    c.args.table.now.items c.lines.table.items c.note_rule.new.table.items c.in-Some.ensures.cases.0 c.lines.invariant c.note_rule.ensures

pub returns : goal.returns
returns c =
    last_rule c.args.design.now c.args.rules.now c.args.unrolled.now c.args.number c.args.place.now
    (λ n. best_at c.args.design.now c.args.rules.now c.args.unrolled.now n c.args.number c.args.place.now c.args.lines.now) c.lines.left.now
    c.args.table.now.items c.lines.table.items (nil_from_length _ c.in_default.ensures.cases) c.lines.invariant
