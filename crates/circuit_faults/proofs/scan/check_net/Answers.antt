use Rattle.std.proofs.Common.{◌≡◌, ℕ, List, Err, ap, arith, length, true, ◌∙◌}
use Rattle.node_pool.specs.declared.region.Node.{Node}
use Rattle.bdd_core.proofs.Frames.{adds_words, nodes_then, word_here}
use Rattle.bdd_core.specs.Diagram.{meaning}
use Rattle.bdd_core.specs.Store.{Diagrams}
use Rattle.bdd_core.specs.Words.{word_at}
use Rattle.bdd_ops.proofs.CountingLaws.{counted_then, counts_more, counts_then, counts_value}
use Rattle.circuit_faults.proofs.CountLaws.{span_within}
use Rattle.circuit_faults.proofs.WayLaws.{few_added, reach_added, ready_added}
use Rattle.circuit_faults.specs.Small.{bit_operations, fault_operations, scan_operations}
use Rattle.path_fixpoint.proofs.SpendingLaws.{rewrites_word, spends_refused, spends_rewrites}
use Rattle.circuit_faults.proofs.scan.check_net.Goals as goal

pub bit_at-requires-clause-ready : goal.bit_at-requires-clause-ready
bit_at-requires-clause-ready c =
    ready_added c.args.out c.args.store.now c.fault_at.new.store c.in-Ok.ensures.adds c.requires.out.1 c.args.way c.args.place c.requires.place.1 c.requires.place.3

pub returns-in-Err-clause-few : goal.returns-in-Err-clause-few
returns-in-Err-clause-few c u care gates out few =
    let old = c.args.store.now in
    spends_refused u c.args.gates (scan_operations c.args.way) old c.fault_at.new.store c.in-Err.spent
    (counts_more u (fault_operations c.args.way) (scan_operations c.args.way) old c.fault_at.new.store (Err c.in-Err.spent) (omega arith) (c.in-Err.ensures.counts u care out few))

pub returns-in-Some-clause-few : goal.returns-in-Some-clause-few
returns-in-Some-clause-few c u care gates out few =
    let old = c.args.store.now in
    let mid = c.fault_at.new.store in
    record {
      counts = counts_more u (fault_operations c.args.way) (scan_operations c.args.way) old mid _ (omega arith) (counts_value u (fault_operations c.args.way) old mid c.in-Ok.found _ (c.in-Ok.ensures.counts u care out few));
      within = span_within u c.args.gates old mid c.in-Ok.ensures.adds c.requires.gates.1 gates;
    }

pub returns-then-not-seen-clause-few : goal.returns-then-not-seen-clause-few
returns-then-not-seen-clause-few c u care gates out few =
    let old = c.args.store.now in
    let mid = c.fault_at.new.store in
    record {
      counts = counts_more u (fault_operations c.args.way) (scan_operations c.args.way) old mid _ (omega arith) (counts_value u (fault_operations c.args.way) old mid c.in-Ok.found _ (c.in-Ok.ensures.counts u care out few));
      within = span_within u c.args.gates old mid c.in-Ok.ensures.adds c.requires.gates.1 gates;
    }

pub returns-in-Err-bit_at-clause-few : goal.returns-in-Err-bit_at-clause-few
returns-in-Err-bit_at-clause-few c u care gates out few =
    let old = c.args.store.now in
    let mid = c.fault_at.new.store in
    let new = c.bit_at.new.store in
    let out_mid = span_within u c.args.out.span old mid c.in-Ok.ensures.adds c.requires.out.1 out in
    let few_mid = few_added c.args.out old mid c.in-Ok.ensures.adds c.requires.out.1 u c.args.way c.args.place c.requires.place.3 few in
    spends_refused u c.args.gates (scan_operations c.args.way) old new c.in-Err-bit_at.spent
    (counts_then u (fault_operations c.args.way) (bit_operations c.args.way) old mid new (Err c.in-Err-bit_at.spent) (c.in-Ok.ensures.counts u care out few).added (c.in-Err-bit_at.ensures.finds u out_mid few_mid).counts)

pub returns-clause-few : goal.returns-clause-few
returns-clause-few c u care gates out few =
    let old = c.args.store.now in
    let mid = c.fault_at.new.store in
    let next = c.bit_at.new.store in
    let new = c.write.new.self in
    let first = c.in-Ok.ensures.adds in
    let second = c.in-Ok-bit_at.ensures.gives.adds in
    let adds = nodes_then old mid next first second in
    let out_mid = span_within u c.args.out.span old mid first c.requires.out.1 out in
    let few_mid = few_added c.args.out old mid first c.requires.out.1 u c.args.way c.args.place c.requires.place.3 few in
    let found = c.in-Ok-bit_at.ensures.finds u out_mid few_mid in
    let words : length next.words ≡ length old.words = ap (λ (ws : List ℕ). length ws) (adds_words old next old.words adds) in
    spends_rewrites u c.args.gates (scan_operations c.args.way) old next new _ (counted_then u (fault_operations c.args.way) (bit_operations c.args.way) old mid next (c.in-Ok.ensures.counts u care out few).added found.counts.added)
    (rewrites_word u c.args.gates next new c.args.net.0 c.in-Ok-bit_at.bit.0 c.write.ensures c.requires.place.0 (omega (arith, c.requires.gates.0.1, words))
    found.within (span_within u c.args.gates old next adds c.requires.gates.1 gates))

pub returns-clause-bit : goal.returns-clause-bit
returns-clause-bit c e seen v =
    let old = c.args.store.now in
    let mid = c.fault_at.new.store in
    let next = c.bit_at.new.store in
    let new = c.write.new.self in
    let gates = c.args.gates in
    let bit = c.in-Ok-bit_at.bit in
    let adds = nodes_then old mid next c.in-Ok.ensures.adds c.in-Ok-bit_at.ensures.gives.adds in
    let words : length next.words ≡ length old.words = ap (λ (ws : List ℕ). length ws) (adds_words old next old.words adds) in
    let word : word_at new gates c.args.net.0 ≡ bit.0 = word_here gates next new c.args.net.0 bit.0 c.write.ensures c.requires.place.0 (omega (arith, c.requires.gates.0.1, words)) in
    ap (λ (k : ℕ). meaning new.nodes k v) word
    ∙ ap (λ (ns : List Node). meaning ns bit.0 v) (ap (λ (d : Diagrams). d.nodes) c.write.ensures)
    ∙ c.in-Ok-bit_at.ensures.gives.ok.same v
    ∙ reach_added c.args.out old mid c.in-Ok.ensures.adds c.requires.out.1 c.args.way true c.args.place c.requires.place.1 c.requires.place.3 v
