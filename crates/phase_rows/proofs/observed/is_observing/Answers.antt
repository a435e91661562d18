use Rattle.std.proofs.Common.{◌≡◌, length, arith, refl}
use Rattle.std.proofs.lemmas.Bool.Decides.{nat_tests}
use Rattle.phase_rows.proofs.ObservedLaws.{observing}
use Rattle.phase_rows.proofs.observed.is_observing.Goals as goal

pub returns : goal.returns
returns c seen =
    let len : length c.args.marks.now ≡ length c.args.circuit.now.nets = (let h = c.if-count-nets.false in let n = c.len-nets.ensures in grind (arith, nat_tests)) in
    observing c.args.design.now c.args.circuit.now c.args.marks.now len (c.if-not-has_gates.ensures refl) (c.are_seen.ensures seen)
