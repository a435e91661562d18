use Rattle.std.proofs.Common.{ℕ, ◌<◌, Option, subst, refl}
use Rattle.std.specs.Prelude.{IfSome}
use Rattle.bdd_core.specs.Diagram.{bit_of}
use Rattle.bdd_ops.proofs.CountingLaws.{counts_made}
use Rattle.bdd_ops.proofs.WithinLaws.{within_bit}
use Rattle.hold_keep.proofs.BitLaws.{none_given}
use Rattle.hold_keep.proofs.bits.bit_by.Goals as goal

pub returns-in-Some-clause-counts : goal.returns-in-Some-clause-counts
returns-in-Some-clause-counts c u low =
    counts_made u c.args.store.now c.bit.new.self c.sound.ensures.sound.ends (bit_of c.in-Some.at) c.bit.result c.bit.ensures.makes
    (within_bit u c.in-Some.at (subst (λ (o : Option ℕ). IfSome o (λ at. at < u)) c.in-Some.is low))

pub returns-in-None-clause-gives : goal.returns-in-None-clause-gives
returns-in-None-clause-gives c = none_given c.args.store.now c.args.place _ c.sound.ensures.sound c.sound.ensures.within refl c.in-None.is
