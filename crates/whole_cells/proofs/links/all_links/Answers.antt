use Rattle.std.proofs.Common.{◌≡◌, ◌+◌, ℕ, List, length, arith, subst, sym}
use Rattle.port_links.specs.declared.links.PortLink.{PortLink}
use Rattle.whole_cells.proofs.LinkedLaws.{one_linked}
use Rattle.whole_cells.specs.Links.{ArePhasesLinked}
use Rattle.whole_cells.proofs.links.all_links.Goals as goal

pub loop-at-preserved : goal.loop-at-preserved
loop-at-preserved c =
    let a = c.args in
    let lt = c.loop-at-test.true in
    let count = c.len-at-end.ensures in (
      omega (arith, lt, count),
      subst (λ (all : List (List PortLink)). ArePhasesLinked a.design.now a.rules.now a.cell a.own.now (c.loop-at.at + 1) all) (sym c.in_ok-append.ensures)
          (one_linked a.design.now a.rules.now a.cell a.own.now c.loop-at.at c.loop-at.all c.in_ok-links.links c.loop-at.invariant.1 c.in_ok-links.ensures),
    )

pub returns : goal.returns
returns c =
    let end = c.loop-at-test.false in
    let count = c.len-at-end.ensures in
    let upto = c.loop-at.invariant.0 in
    let last : c.loop-at.at ≡ length c.args.rules.now.phases = omega (arith, end, count, upto) in
    subst (λ (n : ℕ). ArePhasesLinked c.args.design.now c.args.rules.now c.args.cell c.args.own.now n c.loop-at.all) last c.loop-at.invariant.1
