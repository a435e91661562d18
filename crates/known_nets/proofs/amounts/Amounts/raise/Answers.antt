use Rattle.std.proofs.Common.{ℕ, ◌<◌, ◌≤◌, List, set, slice_index, arith, subst, sym}
use Rattle.known_nets.proofs.SpreadLaws.{raised_none, raised_one}
use Rattle.known_nets.proofs.amounts.Amounts.raise.Goals.{else-net-len-via-then-net-len+else-at-amount, else-net-len-via-else-net-len}
use Rattle.known_nets.specs.Spreads.{IsRaised}
use Rattle.known_nets.proofs.amounts.Amounts.raise.Goals as goal

pub returns-in_ok-append : goal.returns-in_ok-append
returns-in_ok-append c =
    let net = c.args.net in
    let a = c.args.amount in
    let t = c.args.self.now.table.items in
    let met = c.args.self.now.met.items in
    let less : slice_index t net < a = omega (arith, c.if-at-amount.true, c.at.ensures) in
    let most : a ≤ 255 = omega arith in
    subst (λ (u : List ℕ). IsRaised net a t u met c.append.new.list.items) (sym c.write.ensures)
    (subst (λ (l : List ℕ). IsRaised net a t (set t net a) met l) (sym c.in_ok-append.ensures) (raised_one net a t met (omega (arith, c.if-net-len.true, c.len.ensures)) less most))

pub returns-else-net-len : goal.returns-else-net-len
returns-else-net-len c =
    raised_none c.args.net c.args.amount c.args.self.now.table.items c.args.self.now.met.items (λ lt. elim c.else-net-len.branch [
      | else-net-len-via-then-net-len+else-at-amount w ↦ omega (arith, w.if-at-amount.false, w.at.ensures)
      | else-net-len-via-else-net-len w ↦ absurd (omega (arith, w.if-net-len.false, c.len.ensures, lt))
    ])
