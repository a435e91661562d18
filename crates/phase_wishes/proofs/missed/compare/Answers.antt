use Rattle.std.proofs.Common.{ℕ, ◌<◌, Err, Ok, arith, length, subst, sym}
use Rattle.bdd_core.specs.Diagram.{IsWithin, meaning}
use Rattle.bdd_core.specs.Store.{function_of}
use Rattle.bdd_core.specs.declared.handle.H.{H}
use Rattle.bdd_ops.proofs.CountingLaws.{counts_err, counts_more, counts_then, counts_value}
use Rattle.bdd_ops.proofs.WithinLaws.{within_same}
use Rattle.phase_wishes.proofs.MissedLaws.{reads_behind, source_within}
use Rattle.phase_wishes.specs.Missed.{source_at}
use Rattle.phase_wishes.proofs.missed.compare.Goals as goal

pub returns-in-Err-clause-counts : goal.returns-in-Err-clause-counts
returns-in-Err-clause-counts c u care bits =
    let old = c.args.store.now in
    let wanted = source_within u old c.args.bits c.args.wish.wanted c.requires.inside bits in
    counts_err u 3 old c.turned.new.store c.in-Err.spent
    (counts_more u 1 3 old c.turned.new.store (Err c.in-Err.spent) (omega arith)
    (c.in-Err.ensures.counts u (within_same u (source_at old c.args.bits c.args.wish.wanted) (function_of old c.source-source.result) c.source-source.ensures.same wanted)))

pub returns-in-Err-difference-clause-counts : goal.returns-in-Err-difference-clause-counts
returns-in-Err-difference-clause-counts c u care bits =
    let old = c.args.store.now in
    let mid = c.turned.new.store in
    let net : H = record { 0 = c.read.result } in
    let source = within_same u (source_at old c.args.bits c.args.wish.wanted) (function_of old c.source-source.result) c.source-source.ensures.same
    (source_within u old c.args.bits c.args.wish.wanted c.requires.inside bits) in
    let reads = reads_behind u old mid c.args.asked net c.source-source.result c.args.bits c.args.wish c.is_turned.result c.in-Ok.both c.in-Ok.ensures.adds c.requires.asked
    (subst (λ (k : ℕ). k < length old.nodes) (sym c.read.ensures) (c.requires.bits.gates_live c.args.wish.net.0 c.requires.net))
    care (subst (λ (k : ℕ). IsWithin u (meaning old.nodes k)) (sym c.read.ensures) (bits.0 c.args.wish.net.0 c.requires.net)) source c.in-Ok.ensures.wanted in
    counts_err u 3 old c.difference.new.store c.in-Err-difference.spent
    (counts_then u 1 2 old mid c.difference.new.store (Err c.in-Err-difference.spent) (c.in-Ok.ensures.counts u source).added (c.in-Err-difference.ensures.counts u reads.0 reads.1 reads.2))

pub returns-clause-counts : goal.returns-clause-counts
returns-clause-counts c u care bits =
    let old = c.args.store.now in
    let mid = c.turned.new.store in
    let net : H = record { 0 = c.read.result } in
    let source = within_same u (source_at old c.args.bits c.args.wish.wanted) (function_of old c.source-source.result) c.source-source.ensures.same
    (source_within u old c.args.bits c.args.wish.wanted c.requires.inside bits) in
    let reads = reads_behind u old mid c.args.asked net c.source-source.result c.args.bits c.args.wish c.is_turned.result c.in-Ok.both c.in-Ok.ensures.adds c.requires.asked
    (subst (λ (k : ℕ). k < length old.nodes) (sym c.read.ensures) (c.requires.bits.gates_live c.args.wish.net.0 c.requires.net))
    care (subst (λ (k : ℕ). IsWithin u (meaning old.nodes k)) (sym c.read.ensures) (bits.0 c.args.wish.net.0 c.requires.net)) source c.in-Ok.ensures.wanted in
    counts_value u 3 old c.difference.new.store c.in-Ok-difference.at _
    (counts_then u 1 2 old mid c.difference.new.store (Ok c.in-Ok-difference.at) (c.in-Ok.ensures.counts u source).added (c.in-Ok-difference.ensures.counts u reads.0 reads.1 reads.2))
