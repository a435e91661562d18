use Rattle.std.proofs.Common.{ℕ, ◌<◌, arith, false, length, subst, sym, true, ◌∙◌}
use Rattle.std.proofs.lemmas.Bool.{false≢true}
use Rattle.bdd_core.proofs.Frames.{adds_none}
use Rattle.bdd_core.proofs.Results.{if_ok_more}
use Rattle.bdd_core.specs.Diagram.{IsWithin, meaning}
use Rattle.bdd_ops.proofs.CountingLaws.{counted_more, counted_none, counts_ok}
use Rattle.circuit_faults.proofs.KeptNets.{plain_gives}
use Rattle.circuit_faults.specs.KeptScans.{IsLoose}
use Rattle.circuit_faults.proofs.kept.check_kept_net.Goals as goal

pub returns-then-not-is_loose-clause-adds : goal.returns-then-not-is_loose-clause-adds
returns-then-not-is_loose-clause-adds c = adds_none c.args.store.now c.sound.ensures.sound c.sound.ensures.within

pub returns-then-not-is_loose-clause-gives : goal.returns-then-not-is_loose-clause-gives
returns-then-not-is_loose-clause-gives c p = absurd (false≢true (sym c.if-not-is_loose.true ∙ c.is_loose.ensures.1 p))

pub returns-then-not-is_loose-clause-few : goal.returns-then-not-is_loose-clause-few
returns-then-not-is_loose-clause-few c u care gates within =
    counts_ok u 20 c.args.store.now c.args.store.now _ (counted_more u 0 20 c.args.store.now c.args.store.now (omega arith) (counted_none u c.args.store.now))

pub kept_net_fault-requires : goal.kept_net_fault-requires
kept_net_fault-requires c =
    let old = c.args.store.now in
    let n : ℕ = c.args.net.0 in
    let live = c.requires.live (c.is_loose.ensures.0 c.if-not-is_loose.false) in (
      c.requires.care,
      subst (λ (h : ℕ). h < length old.nodes) (sym c.read.ensures) (c.requires.wanted n c.requires.net.0),
      subst (λ (h : ℕ). h < length old.nodes) (sym c.read-2.ensures) (live false),
      subst (λ (h : ℕ). h < length old.nodes) (sym c.read-3.ensures) (live true),
    )

pub returns-clause-gives : goal.returns-clause-gives
returns-clause-gives c =
    let loose = c.is_loose.ensures.0 c.if-not-is_loose.false in
    if_ok_more _ _ c.kept_net_fault.result
    (λ found g. plain_gives (IsLoose c.args.circuit.now c.args.wholes.drivers.now) c.args.care c.args.spans c.args.seen c.args.net c.args.store.now c.kept_net_fault.new.store c.read.result c.read-2.result c.read-3.result
    c.read.ensures c.read-2.ensures c.read-3.ensures loose found g)
    c.kept_net_fault.ensures.gives

pub returns-clause-few : goal.returns-clause-few
returns-clause-few c u care gates within =
    let old = c.args.store.now in
    let n : ℕ = c.args.net.0 in
    let loose = c.is_loose.ensures.0 c.if-not-is_loose.false in
    c.kept_net_fault.ensures.counts u care
    (subst (λ (h : ℕ). IsWithin u (meaning old.nodes h)) (sym c.read.ensures) (gates n c.requires.net.0))
    (subst (λ (h : ℕ). IsWithin u (meaning old.nodes h)) (sym c.read-2.ensures) (within n false loose))
    (subst (λ (h : ℕ). IsWithin u (meaning old.nodes h)) (sym c.read-3.ensures) (within n true loose))
