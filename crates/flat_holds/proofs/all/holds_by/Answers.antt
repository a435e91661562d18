use Rattle.std.proofs.Common.{arith, ◌∙◌}
use Rattle.flat_holds.proofs.FallLaws.{all_there, hold_same, one_more}
use Rattle.net_places.specs.Whole.{whole_of}
use Rattle.flat_holds.proofs.all.holds_by.Goals as goal

pub nets-preserved : goal.nets-preserved
nets-preserved c roles =
    one_more (whole_of c.args.design.now c.args.rules.now c.args.cell roles) c.nets.net c.args.nets c.nets.holds c.add.new.holds c.in_ok-hold.hold (omega (arith, c.nets-test.true)) c.in_ok-add.ensures
    (hold_same c.args.design.now c.args.rules.now c.args.unrolled.now c.args.cell roles (c.requires.unrolled roles) c.requires.netlist c.requires.names c.args.index.now.lines.charges.holds c.requires.indexed.rules_are.lines_are.charges.holds
    c.nets.net c.spot_on-spot.result c.in_ok-hold.hold (c.spot_on-spot.ensures ∙ c.requires.noted c.nets.net (omega (arith, c.nets-test.true))) c.in_ok-hold.ensures)
    (c.nets.invariant roles)

pub returns : goal.returns
returns c roles count =
    all_there (whole_of c.args.design.now c.args.rules.now c.args.cell roles) c.nets.net c.args.nets c.nets.holds (omega (arith, c.nets-test.false)) (c.nets.invariant roles) count
