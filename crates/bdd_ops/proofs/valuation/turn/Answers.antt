use Rattle.std.proofs.Common.{◌≤◌, arith}
use Rattle.bdd_core.proofs.Branches.{tests}
use Rattle.bdd_ops.proofs.Walk.{turn_stays, turn_hi, turn_lo}
use Rattle.bdd_ops.proofs.valuation.turn.Goals as goal

pub returns-then-n-x : goal.returns-then-n-x
returns-then-n-x c =
    let ns = c.args.store.now.nodes in
    let r = c.sound.ensures.sound in
    let at = tests c.args.store.now.vars ns r c.args.place.0 c.requires.live c.in-Some.n c.in-Some.ensures.node in
    turn_stays c.args.store.now.vars ns r c.args.place.0 c.requires.live c.args.x c.requires.some (omega (arith, at, c.if-n-x.true, c.requires.first))

pub returns-then-n-eq0 : goal.returns-then-n-eq0
returns-then-n-eq0 c =
    let high : 2 ≤ c.args.place.0 = grind (arith, c.in-Some.ensures.end) in
    rw (← c.if-n-x.false) (turn_hi c.args.store.now.vars c.args.store.now.nodes c.sound.ensures.sound c.args.place.0 c.requires.live high c.in-Some.n c.in-Some.ensures.node c.if-n-eq0.true)

pub returns : goal.returns
returns c =
    let high : 2 ≤ c.args.place.0 = grind (arith, c.in-Some.ensures.end) in
    rw (← c.if-n-x.false) (turn_lo c.args.store.now.vars c.args.store.now.nodes c.sound.ensures.sound c.args.place.0 c.requires.live high c.in-Some.n c.in-Some.ensures.node c.if-n-eq0.false)
