use Rattle.std.proofs.Common.{◌≡◌, ℕ, ◌+◌, List, length, get_or, arith, ap, subst, ◌∙◌}
use Rattle.std.proofs.lemmas.Option.{slice_get-get_or}
use Rattle.bdd_core.specs.Store.{Diagrams}
use Rattle.bdd_core.specs.Diagram.{Valuation}
use Rattle.bdd_core.specs.Words.{shows}
use Rattle.bdd_core.proofs.Frames.{writes_then}
use Rattle.phase_open.proofs.RootLaws.{behind_more, counted_next, counts_done, given_more, next_few, refused_next, variable_in, variable_next}
use Rattle.phase_open.specs.Given.{root_by, variable_at}
use Rattle.vrt_model.specs.Lists.{At}
use Rattle.vrt_model.specs.declared.circuit.FlatNet.{FlatNet}
use Rattle.phase_open.proofs.roots.open_given.Goals as goal

pub open_root-requires-clause-variable : goal.open_root-requires-clause-variable
open_root-requires-clause-variable c kind =
    let vars : c.loop-n.store.vars ≡ c.args.store.now.vars = ap (λ (d : Diagrams). d.vars) c.loop-n.invariant.writes.adds.rest in
    variable_in c.args.circuit.now c.as_slice-nets.result.now c.loop-n.n c.loop-n.variable c.loop-n.store.vars c.index-nets-n.result c.as_slice-nets.ensures c.loop-n-test.true
    c.loop-n.invariant.variable (omega (arith, vars, c.requires.vars)) kind

pub overflow_add-variable : goal.overflow_add-variable
overflow_add-variable c =
    let next = variable_next c.args.circuit.now c.as_slice-nets.result.now c.loop-n.n c.loop-n.variable c.count_of-variable.result c.index-nets-n.result c.as_slice-nets.ensures c.loop-n-test.true
    c.loop-n.invariant.variable c.count_of-variable.ensures in
    let few = next_few c.args.circuit.now c.loop-n.n c.args.store.now.vars (c.loop-n.variable + c.count_of-variable.result) c.requires.vars next in
    omega arith

pub loop-n-preserved : goal.loop-n-preserved
loop-n-preserved c =
    let circuit = c.args.circuit.now in
    let phase = c.args.phase.now in
    let roots = c.args.roots in
    let nets : List FlatNet = c.as_slice-nets.result.now in
    let n = c.loop-n.n in
    let first = c.args.store.now in
    let old = c.loop-n.store in
    let new = c.open_root.new.store in
    let net : FlatNet = get_or nets n c.index-nets-n.result in
    let there : At circuit.nets n net = subst (λ (zs : List FlatNet). At zs n net) c.as_slice-nets.ensures (slice_get-get_or nets n c.index-nets-n.result c.loop-n-test.true) in
    let is : (v : Valuation) → shows new roots n v ≡ root_by phase net.kind (variable_at circuit n) (λ x. shows old roots n x) v =
    λ v. c.in-Ok.ensures.is v ∙ ap (λ (x : ℕ). root_by phase net.kind x (λ y. shows old roots n y) v) c.loop-n.invariant.variable in
    record {
      writes = writes_then roots first old new c.loop-n.invariant.writes c.open_root.ensures.writes;
      variable = variable_next circuit nets n c.loop-n.variable c.count_of-variable.result c.index-nets-n.result c.as_slice-nets.ensures c.loop-n-test.true c.loop-n.invariant.variable
          c.count_of-variable.ensures;
      counted = λ u few. counted_next u n first old new tt (c.loop-n.invariant.counted u few) (c.in-Ok.ensures.counts u (λ kind.
          variable_in circuit nets n c.loop-n.variable u c.index-nets-n.result c.as_slice-nets.ensures c.loop-n-test.true c.loop-n.invariant.variable few kind));
      behind = behind_more circuit phase roots first old new c.loop-n.invariant.writes c.open_root.ensures.writes c.requires.roots.1 c.requires.len n c.open_root.ensures.apart net there is
          c.loop-n.invariant.behind c.loop-n.invariant.given;
      given = given_more circuit phase roots first old new c.loop-n.invariant.writes c.open_root.ensures.writes c.requires.roots.1 c.requires.len n c.open_root.ensures.apart net there is
          c.loop-n.invariant.behind c.loop-n.invariant.given;
    }

pub returns-in-Err-clause-counts : goal.returns-in-Err-clause-counts
returns-in-Err-clause-counts c u few =
    refused_next {A = Unit {0}} {B = ℕ} u c.loop-n.n (length c.args.circuit.now.nets) c.args.store.now c.loop-n.store c.open_root.new.store c.in-Err.spent
    (omega (arith, c.loop-n-test.true, ap (λ (xs : List FlatNet). length xs) c.as_slice-nets.ensures)) (c.loop-n.invariant.counted u few) (c.in-Err.ensures.counts u (λ kind.
    variable_in c.args.circuit.now c.as_slice-nets.result.now c.loop-n.n c.loop-n.variable u c.index-nets-n.result c.as_slice-nets.ensures c.loop-n-test.true c.loop-n.invariant.variable few kind))

pub returns-clause-counts : goal.returns-clause-counts
returns-clause-counts c u few =
    counts_done u c.loop-n.n (length c.args.circuit.now.nets) c.args.store.now c.loop-n.store c.loop-n.variable
    (omega (arith, c.loop-n.auto.n-end, ap (λ (xs : List FlatNet). length xs) c.as_slice-nets.ensures)) (c.loop-n.invariant.counted u few)
