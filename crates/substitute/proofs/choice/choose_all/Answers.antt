use Rattle.std.proofs.Common.{ℕ, arith, subst}
use Rattle.substitute.specs.Underway.{AreChosen}
use Rattle.substitute.proofs.choice.choose_all.Goals as goal

pub loop-at-init : goal.loop-at-init
loop-at-init c t blif facts are i e =
    subst (λ (n : ℕ). AreChosen c.args.asked t blif facts c.args.tables n c.in_ok-chosen.chosen) (omega (arith, e)) (c.in_ok-chosen.ensures c.args.asked t blif facts are)

pub try_instance-requires-clause-chosen : goal.try_instance-requires-clause-chosen
try_instance-requires-clause-chosen c = let s = c.requires.tables in (s.0, s.1, s.2, c.loop-at.invariant s.0 s.1 s.2 s.3)

pub loop-at-preserved : goal.loop-at-preserved
loop-at-preserved c t blif facts are = c.in_ok-try_instance.ensures t blif facts (c.loop-at.invariant t blif facts are)

pub returns : goal.returns
returns c t blif facts are i e =
    let end = c.loop-at-test.false in
    let count = c.len-at-end.ensures in
    let most = c.loop-at.auto.at-end (omega (arith, count, e)) in
    c.loop-at.invariant t blif facts are i (omega (arith, end, count, most, e))
