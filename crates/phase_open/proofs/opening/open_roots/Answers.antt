use Rattle.std.proofs.Common.{◌≡◌, ◌+◌, ◌*◌, ◌≤◌, List, length, arith, ap, subst, sym}
use Rattle.std.proofs.lemmas.Result.{IfOk-weaker}
use Rattle.bdd_core.proofs.Frames.{two_first, two_span, two_then}
use Rattle.bdd_core.specs.Store.{Diagrams, IsSpan}
use Rattle.node_pool.specs.declared.region.Span.{Span}
use Rattle.bdd_ops.proofs.CountingLaws.{counts_err, counts_more, counts_then}
use Rattle.constraints.specs.Cared.{HasInputs}
use Rattle.hold_keep.specs.Rooted.{AreRoots, WritesHolds, held_function}
use Rattle.phase_open.proofs.OpenLaws.{held_filled, holds_two, holds_wider, inputs_there, roots_open}
use Rattle.phase_open.proofs.Sources.{sources_many}
use Rattle.phase_open.specs.Given.{AreGiven}
use Rattle.phase_terms.specs.Opened.{AreRootsOpen}
use Rattle.phase_terms.specs.Ready.{comparison_in}
use Rattle.vrt_model.proofs.Members.{all_among}
use Rattle.vrt_model.specs.Circuits.{IsHold}
use Rattle.vrt_model.specs.Comparison.{Comparison}
use Rattle.vrt_model.specs.Held.{sources_of}
use Rattle.vrt_model.specs.declared.groups.Source.{Source}
use Rattle.vrt_model.specs.declared.rules.Phase.{Phase}
use Rattle.phase_open.proofs.opening.open_roots.Goals as goal

pub net_roots-requires : goal.net_roots-requires
net_roots-requires c = omega (arith, c.requires.words.roots_len)

pub held_roots-requires-clause-span : goal.held_roots-requires-clause-span
held_roots-requires-clause-span c =
    let w = c.requires.words in
    subst (IsSpan c.args.store.now) (sym c.net_roots.ensures)
    (w.first, omega (arith, w.roots_len, w.gates_behind, w.zeros_behind, w.ones_behind, w.out_behind, w.inputs_behind, w.held_behind, w.values_behind, w.least_behind, w.last))

pub held_roots-requires-clause-len : goal.held_roots-requires-clause-len
held_roots-requires-clause-len c = ap (λ (s : Span). s.len) c.net_roots.ensures

pub returns-in-Err-clause-writes : goal.returns-in-Err-clause-writes
returns-in-Err-clause-writes c =
    let circuit = c.args.compared.circuit.now in
    holds_two circuit c.args.words.roots c.args.store.now c.held_roots.new.store
    (λ place h at. let net = (all_among (IsHold circuit) circuit.holds h c.requires.ready.circuit.holds (place, at)).net in omega (arith, net, c.requires.words.roots_len))
    (holds_wider circuit c.args.words.roots (length circuit.nets) c.args.store.now c.held_roots.new.store
    (subst (λ (s : Span). WritesHolds circuit s c.args.store.now c.held_roots.new.store) c.net_roots.ensures c.held_roots.ensures.writes))

pub returns-in-Err-clause-counts : goal.returns-in-Err-clause-counts
returns-in-Err-clause-counts c =
    let k : Comparison = comparison_in c.args.compared in
    let u = length (sources_of k c.args.phase) in
    let low : length c.args.vars.now.sources ≤ u = omega (arith, ap (λ (ss : List Source). length ss) c.requires.vars) in
    counts_more u (2 * length k.circuit.holds) (2 * length k.circuit.holds + length k.circuit.nets) c.args.store.now c.held_roots.new.store _ (omega arith)
    (counts_err u (2 * length k.circuit.holds) c.args.store.now c.held_roots.new.store c.in-Err.spent (c.in-Err.ensures.counts u low))

pub open_given-requires-clause-roots : goal.open_given-requires-clause-roots
open_given-requires-clause-roots c =
    let k : Comparison = comparison_in c.args.compared in
    let roots = c.args.words.roots in
    let w = c.requires.words in
    let old = c.args.store.now in
    let mid = c.held_roots.new.store in
    let writes : WritesHolds k.circuit roots old mid =
    holds_wider k.circuit roots (length k.circuit.nets) old mid (subst (λ (s : Span). WritesHolds k.circuit s old mid) c.net_roots.ensures c.in-Ok.ensures.writes) in
    let two = holds_two k.circuit roots old mid
    (λ place h at. let net = (all_among (IsHold k.circuit) k.circuit.holds h c.requires.ready.circuit.holds (place, at)).net in omega (arith, net, w.roots_len)) writes in (
      two_span roots roots roots old mid two
          (w.first, omega (arith, w.gates_behind, w.zeros_behind, w.ones_behind, w.out_behind, w.inputs_behind, w.held_behind, w.values_behind, w.least_behind, w.last)),
      held_filled k.circuit roots old mid (held_function k.circuit k.groups c.args.phase c.args.vars.now.sources) writes
          (subst (λ (s : Span). AreRoots k.circuit s mid (held_function k.circuit k.groups c.args.phase c.args.vars.now.sources)) c.net_roots.ensures c.in-Ok.ensures.held)
          c.requires.roots,
    )

pub open_given-requires-clause-vars : goal.open_given-requires-clause-vars
open_given-requires-clause-vars c =
    let vars : c.held_roots.new.store.vars ≡ c.args.store.now.vars = ap (λ (d : Diagrams). d.vars) c.held_roots.ensures.writes.rest in
    omega (arith, vars, c.requires.few, sources_many (comparison_in c.args.compared) c.args.phase)

pub returns-clause-writes : goal.returns-clause-writes
returns-clause-writes c =
    let circuit = c.args.compared.circuit.now in
    let roots = c.args.words.roots in
    two_then roots roots c.args.store.now c.held_roots.new.store c.open_given.new.store
    (holds_two circuit roots c.args.store.now c.held_roots.new.store
    (λ place h at. let net = (all_among (IsHold circuit) circuit.holds h c.requires.ready.circuit.holds (place, at)).net in omega (arith, net, c.requires.words.roots_len))
    (holds_wider circuit roots (length circuit.nets) c.args.store.now c.held_roots.new.store
    (subst (λ (s : Span). WritesHolds circuit s c.args.store.now c.held_roots.new.store) c.net_roots.ensures c.held_roots.ensures.writes)))
    (two_first roots roots c.held_roots.new.store c.open_given.new.store c.open_given.ensures.writes)

pub returns-clause-roots : goal.returns-clause-roots
returns-clause-roots c =
    let k : Comparison = comparison_in c.args.compared in
    let roots = c.args.words.roots in
    let mid = c.held_roots.new.store in
    let new = c.open_given.new.store in
    let there : AreRoots k.circuit roots mid (held_function k.circuit k.groups c.args.phase c.args.vars.now.sources) =
    subst (λ (s : Span). AreRoots k.circuit s mid (held_function k.circuit k.groups c.args.phase c.args.vars.now.sources)) c.net_roots.ensures c.in-Ok.ensures.held in
    let held : AreRoots k.circuit roots mid (held_function k.circuit k.groups c.args.phase (sources_of k c.args.phase)) =
    subst (λ (ss : List Source). AreRoots k.circuit roots mid (held_function k.circuit k.groups c.args.phase ss)) c.requires.vars there in
    IfOk-weaker c.open_given.result (λ x. AreGiven k.circuit c.phase_of.result.now roots mid new) (λ x. AreRootsOpen k c.args.phase roots new)
    (λ x given.
    roots_open k c.args.phase roots mid new (omega (arith, c.requires.words.roots_len)) (subst (λ (ph : Phase). AreGiven k.circuit ph roots mid new) c.phase_of.ensures given) c.open_given.ensures.writes.live held)
    c.open_given.ensures.given

pub returns-clause-inputs : goal.returns-clause-inputs
returns-clause-inputs c =
    let k : Comparison = comparison_in c.args.compared in
    let roots = c.args.words.roots in
    let mid = c.held_roots.new.store in
    let new = c.open_given.new.store in
    IfOk-weaker c.open_given.result (λ x. AreGiven k.circuit c.phase_of.result.now roots mid new) (λ x. HasInputs k.circuit c.args.vars.now.sources new roots)
    (λ x given. subst (λ (ss : List Source). HasInputs k.circuit ss new roots) (sym c.requires.vars)
    (inputs_there k c.args.phase roots mid new (omega (arith, c.requires.words.roots_len)) (subst (λ (ph : Phase). AreGiven k.circuit ph roots mid new) c.phase_of.ensures given)))
    c.open_given.ensures.given

pub returns-clause-counts : goal.returns-clause-counts
returns-clause-counts c =
    let k : Comparison = comparison_in c.args.compared in
    let u = length (sources_of k c.args.phase) in
    let low : length c.args.vars.now.sources ≤ u = omega (arith, ap (λ (ss : List Source). length ss) c.requires.vars) in
    counts_then u (2 * length k.circuit.holds) (length k.circuit.nets) c.args.store.now c.held_roots.new.store c.open_given.new.store c.open_given.result
    (c.in-Ok.ensures.counts u low).added (c.open_given.ensures.counts u (omega (arith, sources_many k c.args.phase)))
