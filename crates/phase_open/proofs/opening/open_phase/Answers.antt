use Rattle.std.proofs.Common.{◌≤◌, List, length, arith, ap, subst, sym, ◌∙◌, inl}
use Rattle.bdd_core.proofs.Frames.{handle_stays, two_span}
use Rattle.bdd_core.specs.Store.{IsSpan}
use Rattle.bdd_core.specs.Words.{IsApart, IsFilled}
use Rattle.bdd_ops.specs.Ops.{bits_of}
use Rattle.bdd_ops.specs.Counting.{IsSpanWithin}
use Rattle.constraints.specs.Cared.{HasInputs, meets_by}
use Rattle.node_pool.specs.declared.region.Span.{Span}
use Rattle.hold_keep.specs.Rooted.{bits_at}
use Rattle.phase_open.proofs.OpenLaws.{roots_stay, span_reads, tests_more}
use Rattle.phase_open.proofs.PhaseLaws.{care_refused, model_counted, model_refused, opened_writes, root_operations, roots_added}
use Rattle.phase_open.proofs.Settings.{met_read}
use Rattle.phase_terms.specs.Ready.{comparison_in}
use Rattle.vrt_model.specs.Comparison.{Comparison}
use Rattle.vrt_model.specs.Held.{sources_of}
use Rattle.vrt_model.specs.declared.groups.Source.{Source}
use Rattle.phase_open.proofs.opening.open_phase.Goals as goal

pub returns-in-Err-care-clause-counts : goal.returns-in-Err-care-clause-counts
returns-in-Err-care-clause-counts c =
    let k : Comparison = comparison_in c.args.compared in
    let u = length (sources_of k c.args.phase) in
    let first = c.args.store.now in
    let roots = c.open_roots.new.store in
    let low : length c.args.vars.now.sources ≤ u = omega (arith, ap (λ (ss : List Source). length ss) c.requires.vars) in
    let all : IsSpanWithin u roots c.args.words.roots =
    span_reads u c.args.words.roots roots c.open_roots.ensures.writes.adds.sound (tests_more u (root_operations k) first roots c.in-Ok.ensures.counts.added c.requires.tests) c.in-Ok.ensures.roots.live in
    let within : IsSpanWithin u roots c.net_roots.result =
    subst (IsSpanWithin u roots) (sym c.net_roots.ensures) (λ n lt. all n (omega (arith, lt, c.requires.words.roots_len))) in
    care_refused k c.args.phase first roots c.care.new.store c.in-Ok.first c.in-Ok.ensures.counts c.in-Err-care.spent (c.in-Err-care.ensures.counts u low within)

pub net_roots-requires : goal.net_roots-requires
net_roots-requires c = omega (arith, c.requires.words.roots_len)

pub care-requires-clause-span : goal.care-requires-clause-span
care-requires-clause-span c =
    let w = c.requires.words in
    let roots = c.args.words.roots in
    let all : IsSpan c.open_roots.new.store roots =
    two_span roots roots roots c.args.store.now c.open_roots.new.store c.in-Ok.ensures.writes
    (w.first, omega (arith, w.gates_behind, w.zeros_behind, w.ones_behind, w.out_behind, w.inputs_behind, w.held_behind, w.values_behind, w.least_behind, w.last)) in
    subst (IsSpan c.open_roots.new.store) (sym c.net_roots.ensures) (all.0, (let end = all.1 in omega (arith, end, w.roots_len)))

pub care-requires-clause-live : goal.care-requires-clause-live
care-requires-clause-live c =
    subst (IsFilled c.open_roots.new.store) (sym c.net_roots.ensures) (λ n lt. c.in-Ok.ensures.roots.live n (omega (arith, lt, c.requires.words.roots_len)))

pub care-requires-clause-len : goal.care-requires-clause-len
care-requires-clause-len c = ap (λ (s : Span). s.len) c.net_roots.ensures

pub care-requires-clause-inputs : goal.care-requires-clause-inputs
care-requires-clause-inputs c =
    subst (HasInputs c.args.compared.circuit.now c.args.vars.now.sources c.open_roots.new.store) (sym c.net_roots.ensures) (λ n net e kind v. c.in-Ok.ensures.inputs n net e kind v)

pub open_model-requires-clause-roots : goal.open_model-requires-clause-roots
open_model-requires-clause-roots c =
    roots_added (comparison_in c.args.compared) c.args.phase c.args.words.roots c.open_roots.new.store c.care.new.store (omega (arith, c.requires.words.roots_len)) c.in-Ok-care.ensures.gives.adds c.in-Ok.ensures.roots

pub returns-in-Ok-open_model-clause-open : goal.returns-in-Ok-open_model-clause-open
returns-in-Ok-open_model-clause-open c =
    let k : Comparison = comparison_in c.args.compared in
    let words = c.args.words in
    let w = c.requires.words in
    let mid = c.care.new.store in
    let new = c.open_model.new.store in
    let care = c.in-Ok-care.care in
    let gives = c.in-Ok-care.ensures.gives in
    let stays = handle_stays mid new new.words c.open_model.ensures.writes.adds care gives.ok.live in
    let roots = roots_added k c.args.phase words.roots c.open_roots.new.store mid (omega (arith, w.roots_len)) gives.adds c.in-Ok.ensures.roots in
    let inputs : IsApart words.roots words.inputs = inl (omega (arith, w.gates_behind, w.zeros_behind, w.ones_behind, w.out_behind, w.inputs_behind)) in
    let held : IsApart words.roots words.held = inl (omega (arith, w.gates_behind, w.zeros_behind, w.ones_behind, w.out_behind, w.inputs_behind, w.held_behind)) in
    record {
      care_live = stays.0;
      care_is = λ bits.
          stays.1 (bits_of bits) ∙ gives.ok.same (bits_of bits)
          ∙ ap (λ (ss : List Source). meets_by k.design k.rules k.cell k.circuit k.groups ss c.args.phase (bits_at ss (bits_of bits))) c.requires.vars ∙ met_read k c.args.phase bits;
      roots = roots_stay words.inputs words.held words.roots mid new c.open_model.ensures.writes inputs held roots.live k c.args.phase (omega (arith, w.roots_len)) roots;
      model = c.in-Ok-open_model.ensures.model;
    }

pub returns-in-Ok-open_model-clause-counts : goal.returns-in-Ok-open_model-clause-counts
returns-in-Ok-open_model-clause-counts c =
    let k : Comparison = comparison_in c.args.compared in
    let u = length (sources_of k c.args.phase) in
    let first = c.args.store.now in
    let roots = c.open_roots.new.store in
    let low : length c.args.vars.now.sources ≤ u = omega (arith, ap (λ (ss : List Source). length ss) c.requires.vars) in
    let all : IsSpanWithin u roots c.args.words.roots =
    span_reads u c.args.words.roots roots c.open_roots.ensures.writes.adds.sound (tests_more u (root_operations k) first roots c.in-Ok.ensures.counts.added c.requires.tests) c.in-Ok.ensures.roots.live in
    let within : IsSpanWithin u roots c.net_roots.result =
    subst (IsSpanWithin u roots) (sym c.net_roots.ensures) (λ n lt. all n (omega (arith, lt, c.requires.words.roots_len))) in
    model_counted k c.args.phase first roots c.care.new.store c.in-Ok.first c.in-Ok.ensures.counts c.in-Ok-care.care (c.in-Ok-care.ensures.counts u low within) c.open_model.new.store c.args.words.held.len
    c.requires.words.held_len c.in-Ok-open_model.field-0 c.in-Ok-open_model.ensures.counts

pub returns-in-Err-open_model-clause-counts : goal.returns-in-Err-open_model-clause-counts
returns-in-Err-open_model-clause-counts c =
    let k : Comparison = comparison_in c.args.compared in
    let u = length (sources_of k c.args.phase) in
    let first = c.args.store.now in
    let roots = c.open_roots.new.store in
    let low : length c.args.vars.now.sources ≤ u = omega (arith, ap (λ (ss : List Source). length ss) c.requires.vars) in
    let all : IsSpanWithin u roots c.args.words.roots =
    span_reads u c.args.words.roots roots c.open_roots.ensures.writes.adds.sound (tests_more u (root_operations k) first roots c.in-Ok.ensures.counts.added c.requires.tests) c.in-Ok.ensures.roots.live in
    let within : IsSpanWithin u roots c.net_roots.result =
    subst (IsSpanWithin u roots) (sym c.net_roots.ensures) (λ n lt. all n (omega (arith, lt, c.requires.words.roots_len))) in
    model_refused k c.args.phase first roots c.care.new.store c.in-Ok.first c.in-Ok.ensures.counts c.in-Ok-care.care (c.in-Ok-care.ensures.counts u low within) c.open_model.new.store c.args.words.held.len
    c.requires.words.held_len c.in-Err-open_model.spent c.in-Err-open_model.ensures.counts

pub returns-in-Ok-open_model-clause-writes : goal.returns-in-Ok-open_model-clause-writes
returns-in-Ok-open_model-clause-writes c =
    opened_writes c.args.words c.args.store.now c.open_roots.new.store c.care.new.store c.open_model.new.store c.in-Ok.ensures.writes c.in-Ok-care.ensures.gives.adds c.open_model.ensures.writes

pub returns-in-Err-open_model-clause-writes : goal.returns-in-Err-open_model-clause-writes
returns-in-Err-open_model-clause-writes c =
    opened_writes c.args.words c.args.store.now c.open_roots.new.store c.care.new.store c.open_model.new.store c.in-Ok.ensures.writes c.in-Ok-care.ensures.gives.adds c.open_model.ensures.writes
