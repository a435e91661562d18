use Rattle.std.proofs.Common.{◌+◌, Option, length, arith, subst, sym}
use Rattle.bdd_core.proofs.Results.{if_ok_more}
use Rattle.circuit_faults.proofs.WayLaws.{if_ok_both, inner_words, plain_words, ready_small, small_words, spans_words, tells_plain, tells_small}
use Rattle.circuit_faults.specs.Scans.{TellsWhere}
use Rattle.circuit_faults.specs.Small.{AreFewAt, AreReady, IsSolvedBy, IsWay, reach_of}
use Rattle.part_functions.proofs.ComposeLaws.{within_kept}
use Rattle.part_functions.proofs.SmallLaws.{list_live, list_within, two_same}
use Rattle.part_functions.proofs.SpendLaws.{spends_half}
use Rattle.part_functions.specs.Small.{IsSmall}
use Rattle.part_functions.specs.declared.few.PartFunctions.{PartFunctions}
use Rattle.path_fixpoint.proofs.SpendingLaws.{part_gates_within, part_roots_within, spends_more}
use Rattle.path_fixpoint.specs.Spending.{solving_operations}
use Rattle.circuit_faults.proofs.solve.solve.Goals as goal

-- ---- over the variables that stand for functions

pub solve_small-requires-clause-spans : goal.solve_small-requires-clause-spans
solve_small-requires-clause-spans c = spans_words c.args.circuit.now c.args.part.now c.args.gates c.args.roots c.args.out c.requires.spans.spans.source c.args.store.now c.requires.spans

pub solve_small-requires-clause-small : goal.solve_small-requires-clause-small
solve_small-requires-clause-small c = subst (λ (o : Option PartFunctions). IsWay o c.args.circuit.now c.args.part.now c.args.gates c.args.roots c.args.store.now) c.in-Some.is c.requires.way

pub returns-in-Some-clause-tells : goal.returns-in-Some-clause-tells
returns-in-Some-clause-tells c =
    let old = c.args.store.now in
    let new = c.solve_small.new.store in
    let out = c.args.out in
    let f : PartFunctions = c.in-Some.functions in
    let small : IsSmall f c.args.circuit.now c.args.part.now c.args.gates c.args.roots old = subst (λ (o : Option PartFunctions). IsWay o c.args.circuit.now c.args.part.now c.args.gates c.args.roots old) c.in-Some.is c.requires.way in
    let live = list_live f c.args.circuit.now c.args.part.now c.args.gates c.args.roots old c.sound.ensures.sound.ends c.requires.spans.spans.gates_live small.reads in
    if_ok_both _ _ _ c.solve_small.result
    (λ x wr tells. subst (λ (o : Option PartFunctions). TellsWhere c.args.circuit.now c.args.part.now c.args.roots c.args.gates (reach_of o new out) old) (sym c.in-Some.is)
    (tells_small c.args.circuit.now c.args.part.now c.args.gates c.args.roots out old new wr f live (small_words c.args.circuit.now c.args.part.now c.args.gates c.args.roots out c.requires.spans.spans.source old f new tells)))
    c.solve_small.ensures.writes c.solve_small.ensures.reaches

pub returns-in-Some-clause-ready : goal.returns-in-Some-clause-ready
returns-in-Some-clause-ready c =
    let old = c.args.store.now in
    let new = c.solve_small.new.store in
    let out = c.args.out in
    let f : PartFunctions = c.in-Some.functions in
    let small : IsSmall f c.args.circuit.now c.args.part.now c.args.gates c.args.roots old = subst (λ (o : Option PartFunctions). IsWay o c.args.circuit.now c.args.part.now c.args.gates c.args.roots old) c.in-Some.is c.requires.way in
    let live = list_live f c.args.circuit.now c.args.part.now c.args.gates c.args.roots old c.sound.ensures.sound.ends c.requires.spans.spans.gates_live small.reads in
    if_ok_both _ _ _ c.solve_small.result
    (λ x wr inner i lt. subst (λ (o : Option PartFunctions). AreReady o new out i) (sym c.in-Some.is)
    (ready_small c.args.circuit.now c.args.part.now c.args.gates c.args.roots out old new wr f live small.reads.list.few (inner_words c.args.circuit.now c.args.part.now c.args.gates c.args.roots out c.requires.spans.spans.source old f new inner) i lt))
    c.solve_small.ensures.writes c.solve_small.ensures.inner

pub returns-in-Some-clause-few : goal.returns-in-Some-clause-few
returns-in-Some-clause-few c one u operations gates roots room =
    let old = c.args.store.now in
    let circuit = c.args.circuit.now in
    let part = c.args.part.now in
    let f : PartFunctions = c.in-Some.functions in
    let small : IsSmall f circuit part c.args.gates c.args.roots old = subst (λ (o : Option PartFunctions). IsWay o circuit part c.args.gates c.args.roots old) c.in-Some.is c.requires.way in
    let fewer = small.many u (list_within u f circuit part c.args.gates c.args.roots old gates small.reads) in
    let half = subst (λ (o : Option PartFunctions). IsSolvedBy operations o circuit part) c.in-Some.is room in
    spends_half f.count u (length part.devices + solving_operations circuit part) operations fewer half c.args.out.span old c.solve_small.new.store c.solve_small.result (c.solve_small.ensures.few one)

pub returns-in-Some-clause-way : goal.returns-in-Some-clause-way
returns-in-Some-clause-way c u gates =
    let old = c.args.store.now in
    let new = c.solve_small.new.store in
    let f : PartFunctions = c.in-Some.functions in
    let small : IsSmall f c.args.circuit.now c.args.part.now c.args.gates c.args.roots old = subst (λ (o : Option PartFunctions). IsWay o c.args.circuit.now c.args.part.now c.args.gates c.args.roots old) c.in-Some.is c.requires.way in
    let live = list_live f c.args.circuit.now c.args.part.now c.args.gates c.args.roots old c.sound.ensures.sound.ends c.requires.spans.spans.gates_live small.reads in
    let reads = list_within u f c.args.circuit.now c.args.part.now c.args.gates c.args.roots old gates small.reads in
    let fewer = small.many u reads in
    subst (λ (o : Option PartFunctions). AreFewAt u o new) (sym c.in-Some.is) (omega (arith, fewer), within_kept f old new new.words c.solve_small.ensures.beside.adds live u reads)

-- ---- over all variables

pub solve_part-requires-clause-spans : goal.solve_part-requires-clause-spans
solve_part-requires-clause-spans c = spans_words c.args.circuit.now c.args.part.now c.args.gates c.args.roots c.args.out c.requires.spans.spans.source c.args.store.now c.requires.spans

pub returns-in-None-clause-writes : goal.returns-in-None-clause-writes
returns-in-None-clause-writes c = (
  two_same c.args.out.span c.args.store.now c.solve_part.new.store c.solve_part.ensures.writes,
  if_ok_more _ _ c.solve_part.result (λ x t. c.solve_part.ensures.writes) c.solve_part.ensures.reaches,
)

pub returns-in-None-clause-tells : goal.returns-in-None-clause-tells
returns-in-None-clause-tells c =
    let old = c.args.store.now in
    let new = c.solve_part.new.store in
    let out = c.args.out in
    if_ok_more _ _ c.solve_part.result
    (λ x t. subst (λ (o : Option PartFunctions). TellsWhere c.args.circuit.now c.args.part.now c.args.roots c.args.gates (reach_of o new out) old) (sym c.in-None.is)
    (tells_plain c.args.circuit.now c.args.part.now c.args.gates c.args.roots out old new (plain_words c.args.circuit.now c.args.part.now c.args.gates c.args.roots out c.requires.spans.spans.source old new (t c.requires.part.2))))
    c.solve_part.ensures.reaches

pub returns-in-None-clause-ready : goal.returns-in-None-clause-ready
returns-in-None-clause-ready c =
    if_ok_more _ _ c.solve_part.result (λ x t i lt. subst (λ (o : Option PartFunctions). AreReady o c.solve_part.new.store c.args.out i) (sym c.in-None.is) tt) c.solve_part.ensures.reaches

pub returns-in-None-clause-few : goal.returns-in-None-clause-few
returns-in-None-clause-few c one u operations gates roots room =
    let circuit = c.args.circuit.now in
    let part = c.args.part.now in
    let spans = c.requires.spans in
    spends_more u c.args.out.span (solving_operations circuit part) operations c.args.store.now c.solve_part.new.store c.solve_part.result
    (subst (λ (o : Option PartFunctions). IsSolvedBy operations o circuit part) c.in-None.is room)
    (c.solve_part.ensures.few one u (part_gates_within u circuit part c.requires.part.0 c.args.gates c.args.store.now spans.spans.gates_len gates)
    (part_roots_within u circuit part c.requires.part.1 c.args.roots spans.roots_len c.args.store.now roots))

pub returns-in-None-clause-way : goal.returns-in-None-clause-way
returns-in-None-clause-way c u gates = subst (λ (o : Option PartFunctions). AreFewAt u o c.solve_part.new.store) (sym c.in-None.is) tt
