use Rattle.std.proofs.Common.{◌≡◌, ℕ, ◌+◌, ◌<◌, ◌≤◌, Err, Ok, length, arith, ap, refl, subst}
use Rattle.std.proofs.lemmas.Option.{slice_get_within}
use Rattle.bdd_core.proofs.Frames.{filled_beside, span_written, word_beside}
use Rattle.bdd_core.specs.Diagram.{meaning}
use Rattle.bdd_core.specs.Words.{IsApart, word_at}
use Rattle.bdd_ops.proofs.CountingLaws.{counts_err, counts_ok}
use Rattle.bdd_ops.specs.Counting.{Counts}
use Rattle.vrt_model.proofs.Lists.{one_at}
use Rattle.vrt_model.specs.State.{OutputPin}
use Rattle.vrt_model.specs.declared.whole.Whole.{Whole}
use Rattle.whole_steps.proofs.EvaluationLaws.{apart_turned, evaluated_stays, found_word, given_before}
use Rattle.whole_steps.proofs.GivenLaws.{within_beside}
use Rattle.whole_steps.proofs.TableLaws.{apart_first, input_in_range, mid_kept, mid_nodes, number_below, of_output, other_word, output_in_range, step_counted, step_gives, step_live, step_within, step_writes, two_second}
use Rattle.whole_steps.specs.Evaluations.{IsEvaluatedIn, output_operations}
use Rattle.whole_steps.specs.Tables.{OutputGives, output_words}
use Rattle.whole_steps.specs.Words.{found_words, model_span}
use Rattle.whole_steps.proofs.step.write_output.Goals as goal

pub evaluate_at-requires-clause-there : goal.evaluate_at-requires-clause-there
evaluate_at-requires-clause-there c = slice_get_within c.args.circuit.now.wholes c.args.place.whole c.requires.place.0.whole c.requires.place.1.whole

-- ---- where the budget is used up

pub returns-in-Err-clause-writes : goal.returns-in-Err-clause-writes
returns-in-Err-clause-writes c =
    let w = c.whole_at-whole.result.now in
    let there = c.whole_at-whole.ensures in
    let room = c.requires.out.1 w (c.args.place.whole, there) in
    two_second (output_words c.args.circuit.now c.args.pins) (model_span w.model c.args.out) c.args.out c.args.store.now c.evaluate_at.new.store refl room (c.evaluate_at.ensures.writes w there)

pub returns-in-Err-clause-live : goal.returns-in-Err-clause-live
returns-in-Err-clause-live c =
    let w = c.whole_at-whole.result.now in
    let there = c.whole_at-whole.ensures in
    let room = c.requires.out.1 w (c.args.place.whole, there) in
    let words = model_span w.model c.args.out in
    filled_beside words c.args.pins c.args.store.now c.evaluate_at.new.store (c.evaluate_at.ensures.writes w there) (apart_first c.args.pins words c.args.out refl room c.requires.apart.1) c.requires.pins.1

pub returns-in-Err-clause-counts : goal.returns-in-Err-clause-counts
returns-in-Err-clause-counts c o is u reads =
    of_output c.args.circuit.now c.args.place c.whole_at-whole.result.now c.pin_at-pin.result o c.whole_at-whole.ensures c.pin_at-pin.ensures is
    (λ (x : OutputPin). Counts {A = Unit {0}} u (output_operations c.args.last c.args.place.whole x.whole) c.args.store.now c.evaluate_at.new.store (Err c.in-Err.spent))
    (counts_err u (output_operations c.args.last c.args.place.whole c.whole_at-whole.result.now) c.args.store.now c.evaluate_at.new.store c.in-Err.spent
    (c.in-Err.ensures.counts c.whole_at-whole.result.now c.whole_at-whole.ensures u reads))

-- ---- the word of the output

pub copy_bit-requires-clause-out : goal.copy_bit-requires-clause-out
copy_bit-requires-clause-out c =
    let w = c.whole_at-whole.result.now in
    let there = c.whole_at-whole.ensures in (
      span_written (model_span w.model c.args.out) c.args.out c.args.store.now c.evaluate_at.new.store (c.evaluate_at.ensures.writes w there) c.requires.out.0,
      c.requires.out.1 w (c.args.place.whole, there),
      (c.in-Ok.ensures.found w there).live,
    )

pub copy_bit-requires-clause-pin : goal.copy_bit-requires-clause-pin
copy_bit-requires-clause-pin c =
    (output_in_range c.args.circuit.now c.requires.circuit c.whole_at-whole.result.now (c.args.place.whole, c.whole_at-whole.ensures) c.pin_at-pin.result (c.args.place.output, c.pin_at-pin.ensures)).1

pub copy_bit-requires-clause-pins : goal.copy_bit-requires-clause-pins
copy_bit-requires-clause-pins c =
    let w = c.whole_at-whole.result.now in
    let below = number_below c.args.circuit.now c.args.place c.requires.place in (
      span_written (model_span w.model c.args.out) c.args.pins c.args.store.now c.evaluate_at.new.store (c.evaluate_at.ensures.writes w c.whole_at-whole.ensures) c.requires.pins.0,
      omega (arith, below, c.requires.pins.2),
    )

pub returns-clause-writes : goal.returns-clause-writes
returns-clause-writes c =
    let circuit = c.args.circuit.now in
    let w = c.whole_at-whole.result.now in
    let there = c.whole_at-whole.ensures in
    let pin = c.pin_at-pin.result in
    let words = model_span w.model c.args.out in
    let old = c.args.store.now in
    let mid = c.evaluate_at.new.store in
    let fits = c.requires.out.1 w (c.args.place.whole, there) in
    let below = number_below circuit c.args.place c.requires.place in
    let h : ℕ = word_at mid (found_words w.model c.args.out) pin.signal in
    let signal = (output_in_range circuit c.requires.circuit w (c.args.place.whole, there) pin (c.args.place.output, c.pin_at-pin.ensures)).1 in
    let live = (c.in-Ok.ensures.found w there).live (length w.model.signals + 1 + pin.signal) (omega (arith, signal)) in
    let same = found_word w.model c.args.out mid pin.signal in
    step_writes circuit c.args.pins words c.args.out old mid c.copy_bit.new.store refl fits c.requires.apart.1 (c.evaluate_at.ensures.writes w there) c.requires.pins.0 c.requires.pins.1 c.args.place.number h
    below c.requires.pins.2 c.copy_bit.ensures (omega (arith, live, same))

pub returns-clause-live : goal.returns-clause-live
returns-clause-live c =
    let circuit = c.args.circuit.now in
    let w = c.whole_at-whole.result.now in
    let there = c.whole_at-whole.ensures in
    let pin = c.pin_at-pin.result in
    let words = model_span w.model c.args.out in
    let old = c.args.store.now in
    let mid = c.evaluate_at.new.store in
    let fits = c.requires.out.1 w (c.args.place.whole, there) in
    let below = number_below circuit c.args.place c.requires.place in
    let h : ℕ = word_at mid (found_words w.model c.args.out) pin.signal in
    let signal = (output_in_range circuit c.requires.circuit w (c.args.place.whole, there) pin (c.args.place.output, c.pin_at-pin.ensures)).1 in
    let live = (c.in-Ok.ensures.found w there).live (length w.model.signals + 1 + pin.signal) (omega (arith, signal)) in
    let same = found_word w.model c.args.out mid pin.signal in
    step_live circuit c.args.pins words c.args.out old mid c.copy_bit.new.store refl fits c.requires.apart.1 (c.evaluate_at.ensures.writes w there) c.requires.pins.0 c.requires.pins.1 c.args.place.number h
    below c.requires.pins.2 c.copy_bit.ensures (omega (arith, live, same))

pub returns-clause-gives : goal.returns-clause-gives
returns-clause-gives c o is =
    let circuit = c.args.circuit.now in
    let gates = c.args.gates in
    let w = c.whole_at-whole.result.now in
    let there = c.whole_at-whole.ensures in
    let pin = c.pin_at-pin.result in
    let words = model_span w.model c.args.out in
    let old = c.args.store.now in
    let mid = c.evaluate_at.new.store in
    let fits = c.requires.out.1 w (c.args.place.whole, there) in
    let below = number_below circuit c.args.place c.requires.place in
    let found = c.in-Ok.ensures.found w there in
    let writes = c.evaluate_at.ensures.writes w there in
    let h : ℕ = word_at mid (found_words w.model c.args.out) pin.signal in
    let signal = (output_in_range circuit c.requires.circuit w (c.args.place.whole, there) pin (c.args.place.output, c.pin_at-pin.ensures)).1 in
    let apart = apart_first gates words c.args.out refl fits c.requires.apart.0 in
    of_output circuit c.args.place w pin o there c.pin_at-pin.ensures is
    (λ (x : OutputPin). OutputGives c.args.phase.now c.args.place.number x gates c.args.pins old c.copy_bit.new.store)
    (step_gives circuit c.args.pins words c.args.out old mid c.copy_bit.new.store refl fits c.requires.apart.1 writes c.requires.pins.0 c.requires.pins.1 c.args.place.number h
    below c.requires.pins.2 c.copy_bit.ensures c.args.phase.now (record { whole = w; pin = pin }) gates
    (λ v. given_before c.args.phase.now w gates c.args.out old mid
    (λ p m. let lt = input_in_range circuit c.requires.circuit w (c.args.place.whole, there) p m in omega (arith, lt, c.requires.gates.2)) c.requires.gates.1
    (λ n lt. word_beside words gates old mid n writes apart lt) writes.adds.kept pin v (meaning mid.nodes h v) (found.gives pin v signal)))

pub returns-clause-found : goal.returns-clause-found
returns-clause-found c x at =
    let circuit = c.args.circuit.now in
    let gates = c.args.gates in
    let w = c.whole_at-whole.result.now in
    let there = c.whole_at-whole.ensures in
    let pin = c.pin_at-pin.result in
    let words = model_span w.model c.args.out in
    let old = c.args.store.now in
    let mid = c.evaluate_at.new.store in
    let new = c.copy_bit.new.store in
    let fits = c.requires.out.1 w (c.args.place.whole, there) in
    let below = number_below circuit c.args.place c.requires.place in
    let found = c.in-Ok.ensures.found w there in
    let writes = c.evaluate_at.ensures.writes w there in
    let h : ℕ = word_at mid (found_words w.model c.args.out) pin.signal in
    let signal = (output_in_range circuit c.requires.circuit w (c.args.place.whole, there) pin (c.args.place.output, c.pin_at-pin.ensures)).1 in
    let live = found.live (length w.model.signals + 1 + pin.signal) (omega (arith, signal)) in
    let same = found_word w.model c.args.out mid pin.signal in
    let h_in : h < length mid.nodes = omega (arith, live, same) in
    let apart = apart_first gates words c.args.out refl fits c.requires.apart.0 in
    let gates_live = filled_beside words gates old mid writes apart c.requires.gates.1 in
    let words_pins : IsApart words c.args.pins = apart_turned c.args.pins words (apart_first c.args.pins words c.args.out refl fits c.requires.apart.1) in
    let nodes = mid_nodes circuit c.args.pins words c.args.out old mid new refl fits c.requires.apart.1 writes c.requires.pins.0 c.requires.pins.1 c.args.place.number h below c.requires.pins.2 c.copy_bit.ensures in
    let kept = mid_kept circuit c.args.pins words c.args.out old mid new refl fits c.requires.apart.1 writes c.requires.pins.0 c.requires.pins.1 c.args.place.number h below c.requires.pins.2 c.copy_bit.ensures in
    let other = other_word circuit c.args.pins words c.args.out old mid new refl fits c.requires.apart.1 writes c.requires.pins.0 c.requires.pins.1 c.args.place.number h below c.requires.pins.2 c.copy_bit.ensures h_in in
    subst (λ (y : Whole). IsEvaluatedIn c.args.phase.now y gates c.args.out new) (one_at circuit.wholes c.args.place.whole w x there at)
    (evaluated_stays c.args.phase.now w gates c.args.out mid new
    (λ p m. let lt = input_in_range circuit c.requires.circuit w (c.args.place.whole, there) p m in omega (arith, lt, c.requires.gates.2)) gates_live
    (λ n lt. other gates n c.requires.apart.2 lt) kept (λ k lt. other words k words_pins lt) (let same_nodes = ap length nodes in omega (arith, same_nodes)) found)

pub returns-clause-within : goal.returns-clause-within
returns-clause-within c u reads pins_in =
    let circuit = c.args.circuit.now in
    let gates = c.args.gates in
    let w = c.whole_at-whole.result.now in
    let there = c.whole_at-whole.ensures in
    let pin = c.pin_at-pin.result in
    let words = model_span w.model c.args.out in
    let old = c.args.store.now in
    let mid = c.evaluate_at.new.store in
    let fits = c.requires.out.1 w (c.args.place.whole, there) in
    let below = number_below circuit c.args.place c.requires.place in
    let found = c.in-Ok.ensures.found w there in
    let writes = c.evaluate_at.ensures.writes w there in
    let h : ℕ = word_at mid (found_words w.model c.args.out) pin.signal in
    let signal = (output_in_range circuit c.requires.circuit w (c.args.place.whole, there) pin (c.args.place.output, c.pin_at-pin.ensures)).1 in
    let apart = apart_first gates words c.args.out refl fits c.requires.apart.0 in
    step_within circuit c.args.pins words c.args.out old mid c.copy_bit.new.store refl fits c.requires.apart.1 writes c.requires.pins.0 c.requires.pins.1 c.args.place.number h
    below c.requires.pins.2 c.copy_bit.ensures u pins_in (found.within u (within_beside u gates words old mid writes apart c.requires.gates.1 reads) pin.signal signal)

pub returns-clause-counts : goal.returns-clause-counts
returns-clause-counts c o is u reads =
    let circuit = c.args.circuit.now in
    let w = c.whole_at-whole.result.now in
    let there = c.whole_at-whole.ensures in
    let pin = c.pin_at-pin.result in
    let words = model_span w.model c.args.out in
    let old = c.args.store.now in
    let mid = c.evaluate_at.new.store in
    let fits = c.requires.out.1 w (c.args.place.whole, there) in
    let below = number_below circuit c.args.place c.requires.place in
    let h : ℕ = word_at mid (found_words w.model c.args.out) pin.signal in
    let work = output_operations c.args.last c.args.place.whole w in
    of_output circuit c.args.place w pin o there c.pin_at-pin.ensures is
    (λ (x : OutputPin). Counts {A = Unit {0}} u (output_operations c.args.last c.args.place.whole x.whole) old c.copy_bit.new.store (Ok tt))
    (counts_ok u work old c.copy_bit.new.store tt
    (step_counted circuit c.args.pins words c.args.out old mid c.copy_bit.new.store refl fits c.requires.apart.1 (c.evaluate_at.ensures.writes w there) c.requires.pins.0 c.requires.pins.1 c.args.place.number h
    below c.requires.pins.2 c.copy_bit.ensures u work (c.in-Ok.ensures.counts w there u reads).added))
