use Rattle.std.proofs.Common.{◌≡◌, ℕ, ◌+◌, Err, Ok, List, arith, ap, sym, subst, ◌∙◌}
use Rattle.std.proofs.lemmas.Option.{get_or_from_slice_get}
use Rattle.bdd_core.specs.Diagram.{meaning}
use Rattle.bdd_core.specs.Store.{Diagrams}
use Rattle.bdd_core.specs.declared.handle.H.{H}
use Rattle.bdd_core.specs.Words.{Writes, word_at}
use Rattle.bdd_ops.proofs.CountingLaws.{counted_same, counted_then, counted_more, counts_err, counts_ok}
use Rattle.bdd_ops.specs.Counting.{Counts}
use Rattle.bdd_core.proofs.Frames.{word_apart, word_here, writes_then, writes_word, writes_added}
use Rattle.blif_eval.specs.Operations.{driver_operations, number_operations}
use Rattle.blif_eval.specs.Settled.{driver_at, function_by}
use Rattle.blif_eval.specs.declared.driver_table.Driver.{Driver}
use Rattle.blif_eval.specs.declared.driver_table.Driver.TheVariants.{Given}
use Rattle.node_pool.specs.declared.region.Node.{Node}
use Rattle.blif_eval.proofs.eval.settle.Goals as goal

pub driver_at-driver-requires : goal.driver_at-driver-requires
driver_at-driver-requires c = let size = c.requires.drivers.size in let low = c.requires.number in omega (arith, size, low)

pub value_by-requires-clause-driver : goal.value_by-requires-clause-driver
value_by-requires-clause-driver c = c.requires.drivers.each c.args.number c.driver_at-driver.result c.driver_at-driver.ensures

pub returns-in-Err-clause-writes : goal.returns-in-Err-clause-writes
returns-in-Err-clause-writes c =
    writes_added c.args.out c.args.store.now c.value_by.new.store c.requires.spans.out_live c.in-Err.ensures.gives.adds

pub returns-in-Err-clause-others : goal.returns-in-Err-clause-others
returns-in-Err-clause-others c k ne = ap (λ (d : Diagrams). word_at d c.args.out k) c.in-Err.ensures.gives.adds.rest

pub returns-in-Err-clause-counts : goal.returns-in-Err-clause-counts
returns-in-Err-clause-counts c u reads reads' reads'' =
    let covers = c.args.flat.now.covers in
    let drivers = c.args.drivers.now in
    let is : driver_at drivers c.args.number ≡ c.driver_at-driver.result = get_or_from_slice_get drivers c.args.number c.driver_at-driver.result Given c.driver_at-driver.ensures in
    counts_err u (number_operations c.args.flat.now drivers c.args.number) c.args.store.now c.value_by.new.store c.in-Err.spent
    (subst (λ (d : Driver). Counts {A = H} u (driver_operations covers d) c.args.store.now c.value_by.new.store (Err c.in-Err.spent)) (sym is) (c.in-Err.ensures.counts u reads reads' reads''))

pub returns-clause-writes : goal.returns-clause-writes
returns-clause-writes c =
    let out = c.args.out in
    let old = c.args.store.now in
    let mid = c.value_by.new.store in
    let new = c.write.new.self in
    let gives = c.in-Ok.ensures.gives in
    let first : Writes out old mid = writes_added out old mid c.requires.spans.out_live gives.adds in
    writes_then out old mid new first
    (writes_word out mid new c.args.number c.in-Ok.value.0 c.write.ensures (omega (arith, c.requires.number, c.requires.spans.out_len)) (omega (arith, c.requires.spans.out_span.1, first.len))
    gives.ok.live first.adds.sound first.adds.within first.live)

pub returns-clause-others : goal.returns-clause-others
returns-clause-others c k ne =
    let out = c.args.out in
    let old = c.args.store.now in
    let mid = c.value_by.new.store in
    let new = c.write.new.self in
    let gives = c.in-Ok.ensures.gives in
    let first : Writes out old mid = writes_added out old mid c.requires.spans.out_live gives.adds in
    word_apart out mid new c.args.number c.in-Ok.value.0 c.write.ensures (omega (arith, c.requires.number, c.requires.spans.out_len)) (omega (arith, c.requires.spans.out_span.1, first.len)) k ne
    ∙ ap (λ (d : Diagrams). word_at d out k) gives.adds.rest

pub returns-clause-value : goal.returns-clause-value
returns-clause-value c v =
    let flat = c.args.flat.now in
    let drivers = c.args.drivers.now in
    let inputs = c.args.inputs in
    let held = c.args.held in
    let out = c.args.out in
    let old = c.args.store.now in
    let mid = c.value_by.new.store in
    let new = c.write.new.self in
    let gives = c.in-Ok.ensures.gives in
    let first : Writes out old mid = writes_added out old mid c.requires.spans.out_live gives.adds in
    let here : word_at new out c.args.number ≡ c.in-Ok.value.0 =
    word_here out mid new c.args.number c.in-Ok.value.0 c.write.ensures (omega (arith, c.requires.number, c.requires.spans.out_len)) (omega (arith, c.requires.spans.out_span.1, first.len)) in
    let nodes : new.nodes ≡ mid.nodes = ap (λ (d : Diagrams). d.nodes) c.write.ensures in
    let is : driver_at drivers c.args.number ≡ c.driver_at-driver.result = get_or_from_slice_get drivers c.args.number c.driver_at-driver.result Given c.driver_at-driver.ensures in
    ap (λ (h : ℕ). meaning new.nodes h v) here
    ∙ (ap (λ (ns : List Node). meaning ns c.in-Ok.value.0 v) nodes
    ∙ (gives.ok.same v ∙ ap (λ (d : Driver). function_by old flat inputs held out c.args.number d v) (sym is)))

pub returns-clause-counts : goal.returns-clause-counts
returns-clause-counts c u reads reads' reads'' =
    let covers = c.args.flat.now.covers in
    let drivers = c.args.drivers.now in
    let old = c.args.store.now in
    let mid = c.value_by.new.store in
    let new = c.write.new.self in
    let is : driver_at drivers c.args.number ≡ c.driver_at-driver.result = get_or_from_slice_get drivers c.args.number c.driver_at-driver.result Given c.driver_at-driver.ensures in
    let n = number_operations c.args.flat.now drivers c.args.number in
    let first : Counts {A = H} u n old mid (Ok c.in-Ok.value) =
    subst (λ (d : Driver). Counts {A = H} u (driver_operations covers d) old mid (Ok c.in-Ok.value)) (sym is) (c.in-Ok.ensures.counts u reads reads' reads'') in
    counts_ok u n old new _
    (counted_more u (n + 0) n old new (omega arith)
    (counted_then u n 0 old mid new first.added
    (counted_same u mid new (ap (λ (d : Diagrams). d.budget) c.write.ensures) (ap (λ (d : Diagrams). d.nodes) c.write.ensures))))

pub returns-in-Err-clause-spent : goal.returns-in-Err-clause-spent
returns-in-Err-clause-spent c = c.in-Err.ensures.gives.spent
