use Rattle.std.proofs.Common.{ℕ, Ok, Option, arith, refl, subst, sym, true}
use Rattle.bdd_core.proofs.Frames.{gives_none}
use Rattle.bdd_core.proofs.Results.{if_ok_more}
use Rattle.bdd_core.specs.Diagram.{meaning}
use Rattle.bdd_core.specs.Store.{Gives, function_of}
use Rattle.bdd_ops.proofs.CountingLaws.{counts_more, counts_none}
use Rattle.bdd_ops.proofs.WithinLaws.{within_same}
use Rattle.bdd_ops.specs.Counting.{Counts}
use Rattle.circuit_faults.proofs.CountLaws.{reach_within}
use Rattle.circuit_faults.proofs.WayLaws.{inner_of}
use Rattle.circuit_faults.specs.Small.{AreFewAt, AreReady, bit_operations, reach_of}
use Rattle.part_functions.proofs.ComposeLaws.{within_composed}
use Rattle.part_functions.specs.Inner.{composed_of}
use Rattle.part_functions.specs.declared.few.PartFunctions.{PartFunctions}
use Rattle.circuit_faults.proofs.scan.bit_at.Goals as goal

pub composed-requires-clause-functions : goal.composed-requires-clause-functions
composed-requires-clause-functions c =
    let ready = subst (λ (o : Option PartFunctions). AreReady o c.args.store.now c.args.out c.args.place) c.in-Some.is c.requires.ready in
    (ready.1, ready.0)

pub composed-requires-clause-within : goal.composed-requires-clause-within
composed-requires-clause-within c =
    let d = c.args.store.now in
    let f : PartFunctions = c.in-Some.functions in
    let ready = subst (λ (o : Option PartFunctions). AreReady o d c.args.out c.args.place) c.in-Some.is c.requires.ready in
    let inner = inner_of f d c.args.out c.args.place true c.reached-one.result c.reached-one.ensures.is c.reached-one.ensures.live ready in
    inner.within

pub returns-in-Some-clause-gives : goal.returns-in-Some-clause-gives
returns-in-Some-clause-gives c =
    let old = c.args.store.now in
    let new = c.composed.new.store in
    let f : PartFunctions = c.in-Some.functions in
    subst (λ (o : Option PartFunctions). Gives old new (reach_of o old c.args.out true c.args.place) c.composed.result) (sym c.in-Some.is)
    (subst (λ (k : ℕ). Gives old new (composed_of f old (λ v. meaning old.nodes k v)) c.composed.result) c.reached-one.ensures.is c.composed.ensures.gives)

pub returns-in-Some-clause-finds : goal.returns-in-Some-clause-finds
returns-in-Some-clause-finds c u out few =
    let old = c.args.store.now in
    let f : PartFunctions = c.in-Some.functions in
    let way = subst (λ (o : Option PartFunctions). AreFewAt u o old) c.in-Some.is few in
    record {
      counts = subst (λ (o : Option PartFunctions). Counts u (bit_operations o) old c.composed.new.store c.composed.result) (sym c.in-Some.is) (c.composed.ensures.counts u f.count way.1 (omega arith));
      within = if_ok_more _ _ c.composed.result
          (λ h m. within_same u (composed_of f old (function_of old c.reached-one.result)) (function_of c.composed.new.store h) m.same (within_composed u f old (function_of old c.reached-one.result) way.1)) c.composed.ensures.gives.ok;
    }

pub returns-in-None-clause-gives : goal.returns-in-None-clause-gives
returns-in-None-clause-gives c =
    let old = c.args.store.now in
    subst (λ (o : Option PartFunctions). Gives old old (reach_of o old c.args.out true c.args.place) (Ok c.reached-one.result)) (sym c.in-None.is)
    (subst (λ (k : ℕ). Gives old old (λ v. meaning old.nodes k v) (Ok c.reached-one.result)) c.reached-one.ensures.is
    (gives_none old (function_of old c.reached-one.result) c.reached-one.result c.sound.ensures.sound c.sound.ensures.within c.reached-one.ensures.live (λ v. refl)))

pub returns-in-None-clause-finds : goal.returns-in-None-clause-finds
returns-in-None-clause-finds c u out few =
    let old = c.args.store.now in
    record {
      counts = counts_more u 0 (bit_operations c.args.way) old old (Ok c.reached-one.result) (omega arith) (counts_none u old c.reached-one.result);
      within = reach_within u old c.args.out true c.args.place c.reached-one.result c.reached-one.ensures.is c.requires.place.0 out;
    }
