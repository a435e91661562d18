use Rattle.std.proofs.Common.{◌≡◌, arith}
use Rattle.std.proofs.lemmas.Bool.Decides.{nat_tests}
use Rattle.phase_rows.proofs.InputLaws.{bit_is}
use Rattle.phase_rows.proofs.inputs.is_bit.Goals as goal

-- the node has the variable alone
pub returns : goal.returns
returns c _ v =
    let var : c.in-Some-node.node.var ≡ c.in-Some.at = (let h = c.if-node-at.false in grind (arith, nat_tests)) in
    let lo : c.in-Some-node.node.lo ≡ 0 = (let h = c.if-node-ne0.false in grind (arith, nat_tests)) in
    let hi : c.in-Some-node.node.hi ≡ 1 = (let h = c.if-node-ne1.false in grind (arith, nat_tests)) in
    bit_is c.args.store.now.nodes c.args.store.now.vars c.args.handle.0 c.in-Some.at c.args.place c.in-Some-node.node c.in-Some-node.ensures.proper c.in-Some-node.ensures.node c.in-Some.is var lo hi v
