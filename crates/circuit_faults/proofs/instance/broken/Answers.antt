use Rattle.std.proofs.Common.{ℕ, ◌+◌, ◌*◌, ◌<◌, Err, arith, subst, sym}
use Rattle.std.specs.Prelude.{All}
use Rattle.bdd_core.proofs.Frames.{nodes_then}
use Rattle.bdd_core.proofs.Results.{if_ok_more}
use Rattle.bdd_core.specs.Diagram.{Function}
use Rattle.bdd_ops.proofs.CountingLaws.{counts_more}
use Rattle.circuit_faults.proofs.BrokenLaws.{broken_counts, broken_made, obliged_within}
use Rattle.constraints.specs.Obliged.{obligation_size, obliged_at}
use Rattle.vrt_model.specs.declared.ids.Net.{Net}
use Rattle.circuit_faults.proofs.instance.broken.Goals as goal

pub obligation-requires-clause-rules : goal.obligation-requires-clause-rules
obligation-requires-clause-rules c = c.requires.ready.rules

pub obligation-requires-clause-ports : goal.obligation-requires-clause-ports
obligation-requires-clause-ports c = c.requires.ready.apart

pub obligation-requires-clause-named : goal.obligation-requires-clause-named
obligation-requires-clause-named c = c.requires.ready.named

pub obligation-requires-clause-nets : goal.obligation-requires-clause-nets
obligation-requires-clause-nets c = subst (λ (n : ℕ). All (λ (net : Net). net.0 < n) c.args.instance.now.ports) (sym c.requires.gates.2) c.requires.ready.nets

pub obligation-requires-clause-all_ports : goal.obligation-requires-clause-all_ports
obligation-requires-clause-all_ports c = c.requires.ready.ports

pub returns-in-Err-clause-adds : goal.returns-in-Err-clause-adds
returns-in-Err-clause-adds c = c.in-Err.ensures.gives.adds

pub returns-clause-adds : goal.returns-clause-adds
returns-clause-adds c = nodes_then c.args.store.now c.obligation.new.store c.ite.new.self c.in-Ok.ensures.gives.adds c.ite.ensures.makes.adds

pub returns-clause-is : goal.returns-clause-is
returns-clause-is c =
    let f : Function = obliged_at c.args.store.now c.args.phased.design.now c.args.phased.rules.now c.args.instance.now c.args.phased.phase c.args.gates in
    if_ok_more _ _ c.ite.result
    (λ h m. broken_made c.args.store.now c.obligation.new.store c.ite.new.self c.args.care f c.in-Ok.ensures.gives.adds c.requires.care c.in-Ok.held h c.in-Ok.ensures.gives.ok m)
    c.ite.ensures.makes.ok

pub returns-in-Err-clause-counts : goal.returns-in-Err-clause-counts
returns-in-Err-clause-counts c u care gates =
    let size = obligation_size c.args.phased.design.now c.args.phased.rules.now c.args.instance.now c.args.phased.phase in
    counts_more u (20 * size) (20 * size + 2) c.args.store.now c.obligation.new.store (Err c.in-Err.spent) (omega arith) (c.in-Err.ensures.counts u gates)

pub returns-clause-counts : goal.returns-clause-counts
returns-clause-counts c u care gates =
    let design = c.args.phased.design.now in
    let rules = c.args.phased.rules.now in
    let instance = c.args.instance.now in
    let phase = c.args.phased.phase in
    let old = c.args.store.now in
    let f : Function = obliged_at old design rules instance phase c.args.gates in
    let nets : All (λ (net : Net). net.0 < c.args.gates.len) instance.ports = subst (λ (n : ℕ). All (λ (net : Net). net.0 < n) instance.ports) (sym c.requires.gates.2) c.requires.ready.nets in
    broken_counts u (obligation_size design rules instance phase) old c.obligation.new.store c.ite.new.self c.args.care f c.in-Ok.ensures.gives.adds c.requires.care c.in-Ok.held
    c.in-Ok.ensures.gives.ok c.ite.result c.sound.ensures.sound.ends care (obliged_within u design rules instance phase c.args.gates old nets gates) (c.in-Ok.ensures.counts u gates) c.ite.ensures.makes
