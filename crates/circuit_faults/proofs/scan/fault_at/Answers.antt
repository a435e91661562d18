use Rattle.std.proofs.Common.{ℕ, Option, None, Some, false, subst, sym, true}
use Rattle.bdd_core.proofs.Results.{if_ok_more}
use Rattle.bdd_core.specs.Diagram.{meaning}
use Rattle.bdd_core.specs.Store.{function_of}
use Rattle.bdd_ops.specs.Counting.{Counts}
use Rattle.circuit_faults.proofs.CountLaws.{reach_within}
use Rattle.circuit_faults.proofs.WayLaws.{inner_of}
use Rattle.circuit_faults.specs.Scans.{NetGives}
use Rattle.circuit_faults.specs.Small.{AreFewAt, AreReady, fault_operations, reach_of}
use Rattle.part_functions.specs.Inner.{composed_of}
use Rattle.part_functions.specs.declared.few.PartFunctions.{PartFunctions}
use Rattle.circuit_faults.proofs.scan.fault_at.Goals as goal

pub small_fault-requires : goal.small_fault-requires
small_fault-requires c =
    let d = c.args.store.now in
    let ready = subst (λ (o : Option PartFunctions). AreReady o d c.args.out c.args.place) c.in-Some.is c.requires.ready in (
      c.requires.care,
      inner_of c.in-Some.functions d c.args.out c.args.place false c.reached-zero.result c.reached-zero.ensures.is c.reached-zero.ensures.live ready,
      inner_of c.in-Some.functions d c.args.out c.args.place true c.reached-one.result c.reached-one.ensures.is c.reached-one.ensures.live ready,
    )

pub returns-in-Some-clause-counts : goal.returns-in-Some-clause-counts
returns-in-Some-clause-counts c u care out few =
    let way = subst (λ (o : Option PartFunctions). AreFewAt u o c.args.store.now) c.in-Some.is few in
    let new = c.small_fault.new.store in
    subst (λ (o : Option PartFunctions). Counts u (fault_operations o) c.args.store.now new c.small_fault.result) (sym c.in-Some.is) (c.small_fault.ensures.counts u way.0 care way.1)

pub returns-in-None-clause-counts : goal.returns-in-None-clause-counts
returns-in-None-clause-counts c u care out few =
    let old = c.args.store.now in
    let zero = reach_within u old c.args.out false c.args.place c.reached-zero.result c.reached-zero.ensures.is c.requires.place.0 out in
    let one = reach_within u old c.args.out true c.args.place c.reached-one.result c.reached-one.ensures.is c.requires.place.0 out in
    subst (λ (o : Option PartFunctions). Counts u (fault_operations o) old c.net_fault.new.store c.net_fault.result) (sym c.in-None.is) (c.net_fault.ensures.counts u care zero one)

pub returns-in-Some-clause-gives : goal.returns-in-Some-clause-gives
returns-in-Some-clause-gives c =
    let old = c.args.store.now in
    let new = c.small_fault.new.store in
    let out = c.args.out in
    let i = c.args.place in
    let f : PartFunctions = c.in-Some.functions in
    let care = function_of old c.args.care in
    let seen = c.args.seen in
    let net = c.args.net in
    if_ok_more _ _ c.small_fault.result
    (λ found g. subst (λ (o : Option PartFunctions). NetGives care (reach_of o old out false i) (reach_of o old out true i) seen net new found) (sym c.in-Some.is)
    (subst (λ (k : ℕ). NetGives care (reach_of (Some f) old out false i) (composed_of f old (λ v. meaning old.nodes k v)) seen net new found) c.reached-one.ensures.is
    (subst (λ (k : ℕ). NetGives care (composed_of f old (λ v. meaning old.nodes k v)) (composed_of f old (function_of old c.reached-one.result)) seen net new found) c.reached-zero.ensures.is g)))
    c.small_fault.ensures.gives

pub returns-in-None-clause-gives : goal.returns-in-None-clause-gives
returns-in-None-clause-gives c =
    let old = c.args.store.now in
    let new = c.net_fault.new.store in
    let out = c.args.out in
    let i = c.args.place in
    let care = function_of old c.args.care in
    let seen = c.args.seen in
    let net = c.args.net in
    if_ok_more _ _ c.net_fault.result
    (λ found g. subst (λ (o : Option PartFunctions). NetGives care (reach_of o old out false i) (reach_of o old out true i) seen net new found) (sym c.in-None.is)
    (subst (λ (k : ℕ). NetGives care (reach_of None old out false i) (λ v. meaning old.nodes k v) seen net new found) c.reached-one.ensures.is
    (subst (λ (k : ℕ). NetGives care (λ v. meaning old.nodes k v) (function_of old c.reached-one.result) seen net new found) c.reached-zero.ensures.is g)))
    c.net_fault.ensures.gives
