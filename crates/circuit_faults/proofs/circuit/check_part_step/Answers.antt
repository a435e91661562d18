use Rattle.std.proofs.Common.{◌≡◌, ℕ, ◌+◌, ◌*◌, None, Err, ap, arith, length, refl, subst, sym, ◌∙◌}
use Rattle.std.specs.Prelude.{sum_by}
use Rattle.std.proofs.lemmas.Option.{same_Some}
use Rattle.bdd_core.proofs.Frames.{filled_beside, two_filled, two_first}
use Rattle.bdd_core.proofs.Results.{if_ok_more}
use Rattle.bdd_core.specs.Store.{Diagrams, function_of}
use Rattle.bdd_core.specs.Words.{IsFilled}
use Rattle.bdd_ops.proofs.CountingLaws.{counted_more, counted_same, counted_then, counts_err, counts_more, counts_ok, counts_then}
use Rattle.bdd_ops.proofs.WithinLaws.{within_same}
use Rattle.channel_parts.specs.declared.part.Part.{Part}
use Rattle.circuit_faults.proofs.CountLaws.{roots_within}
use Rattle.circuit_faults.proofs.FreeParts.{free_here}
use Rattle.circuit_faults.proofs.SoundWholes.{soft_inside, wired_wholes}
use Rattle.circuit_faults.proofs.StepLaws.{part_step_operations}
use Rattle.circuit_faults.proofs.ThreeSpans.{apart_outputs, outputs_kept, roots_fit, three_first, three_second, three_then}
use Rattle.path_fixpoint.specs.Spending.{solving_operations}
use Rattle.circuit_faults.specs.Results.{output_span}
use Rattle.circuit_faults.specs.Steps.{InPhase, in_phase, phase_of}
use Rattle.circuit_faults.specs.Wholes.{DrivenGives, IsCopied, SolvedGives}
use Rattle.circuit_faults.specs.Operations.{step_operations, net_operations}
use Rattle.circuit_faults.specs.declared.steps.CircuitStep.TheVariants.{Part as PartStep}
use Rattle.vrt_model.proofs.Lists.{one_at}
use Rattle.vrt_model.proofs.Members.{all_among}
use Rattle.vrt_model.specs.Circuits.{IsNet}
use Rattle.vrt_model.specs.State.{OutputPin, output_pins}
use Rattle.vrt_model.specs.declared.ids.Net.{Net}
use Rattle.circuit_faults.proofs.circuit.check_part_step.Goals as goal

pub write_outputs-requires-clause-nets : goal.write_outputs-requires-clause-nets
write_outputs-requires-clause-nets c = (c.requires.steps.each c.part_at-part.result.now (c.args.number, c.part_at-part.ensures)).is.nets

-- ---- where the budget is used up

pub returns-in-Err-clause-writes : goal.returns-in-Err-clause-writes
returns-in-Err-clause-writes c =
    let w : InPhase = in_phase c.args.phased in
    let drivers = c.args.wholes.drivers.now in
    let part : Part = c.part_at-part.result.now in
    let roots = c.args.spans.roots in
    let gates = c.args.spans.gates in
    let out = c.args.spans.out in
    let first = c.args.store.now in
    let mid = c.write_outputs.new.store in
    three_first (output_span w.circuit roots) gates out first mid c.write_outputs.ensures.writes

pub returns-in-Err-clause-live : goal.returns-in-Err-clause-live
returns-in-Err-clause-live c =
    let w : InPhase = in_phase c.args.phased in
    let drivers = c.args.wholes.drivers.now in
    let part : Part = c.part_at-part.result.now in
    let roots = c.args.spans.roots in
    let gates = c.args.spans.gates in
    let out = c.args.spans.out in
    let first = c.args.store.now in
    let mid = c.write_outputs.new.store in
    let fits = roots_fit w.circuit w.parts roots gates out first c.requires.spans in
    let gates_live : IsFilled mid gates =
    two_filled (output_span w.circuit roots) out gates first mid c.write_outputs.ensures.writes (apart_outputs w.circuit roots gates fits c.requires.spans.roots_gates) c.requires.spans.gates_out c.requires.live in
    gates_live

pub returns-in-Err-clause-few : goal.returns-in-Err-clause-few
returns-in-Err-clause-few c one u care gates_in roots_in =
    let w : InPhase = in_phase c.args.phased in
    let drivers = c.args.wholes.drivers.now in
    let part : Part = c.part_at-part.result.now in
    let roots = c.args.spans.roots in
    let gates = c.args.spans.gates in
    let out = c.args.spans.out in
    let first = c.args.store.now in
    let mid = c.write_outputs.new.store in
    let work : ℕ = sum_by (λ (net : Net). net_operations w.circuit net.0) part.nets in
    let is = part_step_operations w c.args.number part c.part_at-part.ensures in
    record {
      counts = counts_more u work (step_operations w (PartStep c.args.number)) first mid (Err c.in-Err.spent) (omega (arith, is))
          (counts_err u work first mid c.in-Err.spent (c.in-Err.ensures.few u gates_in roots_in).counts);
      within = tt;
    }

-- ---- a free output

pub copy_output-requires-clause-place : goal.copy_output-requires-clause-place
copy_output-requires-clause-place c =
    let w : InPhase = in_phase c.args.phased in
    let drivers = c.args.wholes.drivers.now in
    let part : Part = c.part_at-part.result.now in
    let roots = c.args.spans.roots in
    let gates = c.args.spans.gates in
    let out = c.args.spans.out in
    let first = c.args.store.now in
    let mid = c.write_outputs.new.store in
    let there = free_here w.circuit drivers c.requires.wholes.table.outputs part (c.requires.steps.each part (c.args.number, c.part_at-part.ensures)).plain c.in-Some.place
    (sym c.part_driver.ensures ∙ c.in-Some.is) in
    (there.0, there.1, there.3)

pub copy_output-requires-clause-roots : goal.copy_output-requires-clause-roots
copy_output-requires-clause-roots c =
    let w : InPhase = in_phase c.args.phased in
    let drivers = c.args.wholes.drivers.now in
    let part : Part = c.part_at-part.result.now in
    let roots = c.args.spans.roots in
    let gates = c.args.spans.gates in
    let out = c.args.spans.out in
    let first = c.args.store.now in
    let mid = c.write_outputs.new.store in
    let fits = roots_fit w.circuit w.parts roots gates out first c.requires.spans in
    let kept = outputs_kept w.circuit w.parts roots gates out first mid c.write_outputs.ensures.writes c.write_outputs.ensures.live c.requires.spans in
    (kept.roots_span, kept.roots_live, fits)

pub copy_output-requires-clause-gates : goal.copy_output-requires-clause-gates
copy_output-requires-clause-gates c =
    let w : InPhase = in_phase c.args.phased in
    let drivers = c.args.wholes.drivers.now in
    let part : Part = c.part_at-part.result.now in
    let roots = c.args.spans.roots in
    let gates = c.args.spans.gates in
    let out = c.args.spans.out in
    let first = c.args.store.now in
    let mid = c.write_outputs.new.store in
    let fits = roots_fit w.circuit w.parts roots gates out first c.requires.spans in
    let gates_live : IsFilled mid gates =
    two_filled (output_span w.circuit roots) out gates first mid c.write_outputs.ensures.writes (apart_outputs w.circuit roots gates fits c.requires.spans.roots_gates) c.requires.spans.gates_out c.requires.live in
    let kept = outputs_kept w.circuit w.parts roots gates out first mid c.write_outputs.ensures.writes c.write_outputs.ensures.live c.requires.spans in
    (kept.gates_span, gates_live, kept.gates_len)

pub copy_output-requires-clause-net : goal.copy_output-requires-clause-net
copy_output-requires-clause-net c net there =
    let part : Part = c.part_at-part.result.now in
    all_among (IsNet c.args.phased.circuit.now) part.nets net (c.requires.steps.each part (c.args.number, c.part_at-part.ensures)).is.nets (0, there)

pub returns-in-Some-clause-writes : goal.returns-in-Some-clause-writes
returns-in-Some-clause-writes c =
    let w : InPhase = in_phase c.args.phased in
    let drivers = c.args.wholes.drivers.now in
    let part : Part = c.part_at-part.result.now in
    let roots = c.args.spans.roots in
    let gates = c.args.spans.gates in
    let out = c.args.spans.out in
    let first = c.args.store.now in
    let mid = c.write_outputs.new.store in
    let new = c.copy_output.new.store in
    let span = output_span w.circuit roots in
    three_then span gates out first mid new (three_first span gates out first mid c.write_outputs.ensures.writes)
    (three_second span gates out mid new (two_first gates out mid new c.copy_output.ensures.writes))

pub returns-in-Some-clause-roots : goal.returns-in-Some-clause-roots
returns-in-Some-clause-roots c =
    filled_beside c.args.spans.gates c.args.spans.roots c.write_outputs.new.store c.copy_output.new.store c.copy_output.ensures.writes c.requires.spans.roots_gates c.write_outputs.ensures.live

pub returns-in-Some-clause-gives : goal.returns-in-Some-clause-gives
returns-in-Some-clause-gives c other there =
    let w : InPhase = in_phase c.args.phased in
    let drivers = c.args.wholes.drivers.now in
    let part : Part = c.part_at-part.result.now in
    let roots = c.args.spans.roots in
    let gates = c.args.spans.gates in
    let out = c.args.spans.out in
    let first = c.args.store.now in
    let mid = c.write_outputs.new.store in
    let free = free_here w.circuit drivers c.requires.wholes.table.outputs part (c.requires.steps.each part (c.args.number, c.part_at-part.ensures)).plain c.in-Some.place
    (sym c.part_driver.ensures ∙ c.in-Some.is) in
    let new = c.copy_output.new.store in
    let some = sym c.part_driver.ensures ∙ c.in-Some.is in
    subst (λ (p : Part). DrivenGives w drivers c.args.care roots gates out first new p None) (same_Some part other (sym c.part_at-part.ensures ∙ there))
    (record {
      mid = mid;
      first = c.write_outputs.ensures.writes;
      live = c.write_outputs.ensures.live;
      outputs = c.in-Ok.ensures.gives;
      second = two_first gates out mid new c.copy_output.ensures.writes;
      solved = subst (SolvedGives w c.args.care roots gates mid new part None) (sym some) (
        refl,
        λ o is.
            let same : free.0 ≡ o = one_at (output_pins w.circuit) c.in-Some.place.number free.0 o free.1.number is.number in
            subst (λ (x : OutputPin). IsCopied w.circuit c.in-Some.place x.pin.net.0 roots gates mid new) same (c.copy_output.ensures.copied free.0.pin.net free.3),
      );
    })

pub returns-in-Some-clause-few : goal.returns-in-Some-clause-few
returns-in-Some-clause-few c one u care gates_in roots_in =
    let w : InPhase = in_phase c.args.phased in
    let drivers = c.args.wholes.drivers.now in
    let part : Part = c.part_at-part.result.now in
    let roots = c.args.spans.roots in
    let gates = c.args.spans.gates in
    let out = c.args.spans.out in
    let first = c.args.store.now in
    let mid = c.write_outputs.new.store in
    let fits = roots_fit w.circuit w.parts roots gates out first c.requires.spans in
    let new = c.copy_output.new.store in
    let written = c.in-Ok.ensures.few u gates_in roots_in in
    let gates_mid = roots_within u (output_span w.circuit roots) out gates first mid c.write_outputs.ensures.writes (apart_outputs w.circuit roots gates fits c.requires.spans.roots_gates) c.requires.spans.gates_out
    c.requires.live gates_in in
    let work : ℕ = sum_by (λ (net : Net). net_operations w.circuit net.0) part.nets in
    let is = part_step_operations w c.args.number part c.part_at-part.ensures in
    let rest = c.copy_output.ensures.rest in
    record {
      counts = counts_ok u (step_operations w (PartStep c.args.number)) first new None
          (counted_more u (work + 0) (step_operations w (PartStep c.args.number)) first new (omega (arith, is))
          (counted_then u work 0 first mid new written.counts.added (counted_same u mid new (ap (λ (d : Diagrams). d.budget) rest) (ap (λ (d : Diagrams). d.nodes) rest))));
      within = (
        c.copy_output.ensures.within u gates_mid written.within,
        roots_within u gates out roots mid new (two_first gates out mid new c.copy_output.ensures.writes) c.requires.spans.roots_gates c.requires.spans.roots_out c.write_outputs.ensures.live written.within,
      );
    }

-- ---- a part that is solved

pub check_solved-requires-clause-part : goal.check_solved-requires-clause-part
check_solved-requires-clause-part c =
    let there = c.part_at-part.ensures in ((c.args.number, there), (c.requires.steps.each c.part_at-part.result.now (c.args.number, there)).is)

pub check_solved-requires-clause-soft : goal.check_solved-requires-clause-soft
check_solved-requires-clause-soft c =
    let w : InPhase = in_phase c.args.phased in
    soft_inside w.circuit (wired_wholes w.circuit (phase_of w) w.observed c.requires.wholes.wholes) c.part_at-part.result.now

pub check_solved-requires-clause-care : goal.check_solved-requires-clause-care
check_solved-requires-clause-care c = (let longer = c.write_outputs.ensures.writes.adds.longer in omega (arith, c.requires.care, longer))

pub check_solved-requires-clause-spans : goal.check_solved-requires-clause-spans
check_solved-requires-clause-spans c =
    let w : InPhase = in_phase c.args.phased in
    let drivers = c.args.wholes.drivers.now in
    let part : Part = c.part_at-part.result.now in
    let roots = c.args.spans.roots in
    let gates = c.args.spans.gates in
    let out = c.args.spans.out in
    let first = c.args.store.now in
    let mid = c.write_outputs.new.store in
    outputs_kept w.circuit w.parts roots gates out first mid c.write_outputs.ensures.writes c.write_outputs.ensures.live c.requires.spans

pub check_solved-requires-clause-live : goal.check_solved-requires-clause-live
check_solved-requires-clause-live c =
    let w : InPhase = in_phase c.args.phased in
    let drivers = c.args.wholes.drivers.now in
    let part : Part = c.part_at-part.result.now in
    let roots = c.args.spans.roots in
    let gates = c.args.spans.gates in
    let out = c.args.spans.out in
    let first = c.args.store.now in
    let mid = c.write_outputs.new.store in
    let fits = roots_fit w.circuit w.parts roots gates out first c.requires.spans in
    let gates_live : IsFilled mid gates =
    two_filled (output_span w.circuit roots) out gates first mid c.write_outputs.ensures.writes (apart_outputs w.circuit roots gates fits c.requires.spans.roots_gates) c.requires.spans.gates_out c.requires.live in
    gates_live

pub returns-in-None-clause-writes : goal.returns-in-None-clause-writes
returns-in-None-clause-writes c =
    let w : InPhase = in_phase c.args.phased in
    let drivers = c.args.wholes.drivers.now in
    let part : Part = c.part_at-part.result.now in
    let roots = c.args.spans.roots in
    let gates = c.args.spans.gates in
    let out = c.args.spans.out in
    let first = c.args.store.now in
    let mid = c.write_outputs.new.store in
    let new = c.check_solved.new.store in
    let span = output_span w.circuit roots in
    three_then span gates out first mid new (three_first span gates out first mid c.write_outputs.ensures.writes) (three_second span gates out mid new c.check_solved.ensures.writes)

pub returns-in-None-clause-roots : goal.returns-in-None-clause-roots
returns-in-None-clause-roots c =
    two_filled c.args.spans.gates c.args.spans.out c.args.spans.roots c.write_outputs.new.store c.check_solved.new.store c.check_solved.ensures.writes c.requires.spans.roots_gates c.requires.spans.roots_out
    c.write_outputs.ensures.live

pub returns-in-None-clause-gives : goal.returns-in-None-clause-gives
returns-in-None-clause-gives c =
    let w : InPhase = in_phase c.args.phased in
    let drivers = c.args.wholes.drivers.now in
    let part : Part = c.part_at-part.result.now in
    let roots = c.args.spans.roots in
    let gates = c.args.spans.gates in
    let out = c.args.spans.out in
    let first = c.args.store.now in
    let mid = c.write_outputs.new.store in
    let new = c.check_solved.new.store in
    let none = sym c.part_driver.ensures ∙ c.in-None.is in
    if_ok_more _ _ c.check_solved.result
    (λ found g other there. subst (λ (p : Part). DrivenGives w drivers c.args.care roots gates out first new p found) (same_Some part other (sym c.part_at-part.ensures ∙ there))
    (record {
      mid = mid;
      first = c.write_outputs.ensures.writes;
      live = c.write_outputs.ensures.live;
      outputs = c.in-Ok.ensures.gives;
      second = c.check_solved.ensures.writes;
      solved = subst (SolvedGives w c.args.care roots gates mid new part found) (sym none) g;
    }))
    c.check_solved.ensures.gives

pub returns-in-None-clause-few : goal.returns-in-None-clause-few
returns-in-None-clause-few c one u care gates_in roots_in =
    let w : InPhase = in_phase c.args.phased in
    let drivers = c.args.wholes.drivers.now in
    let part : Part = c.part_at-part.result.now in
    let roots = c.args.spans.roots in
    let gates = c.args.spans.gates in
    let out = c.args.spans.out in
    let first = c.args.store.now in
    let mid = c.write_outputs.new.store in
    let fits = roots_fit w.circuit w.parts roots gates out first c.requires.spans in
    let new = c.check_solved.new.store in
    let written = c.in-Ok.ensures.few u gates_in roots_in in
    let gates_mid = roots_within u (output_span w.circuit roots) out gates first mid c.write_outputs.ensures.writes (apart_outputs w.circuit roots gates fits c.requires.spans.roots_gates) c.requires.spans.gates_out
    c.requires.live gates_in in
    let work : ℕ = sum_by (λ (net : Net). net_operations w.circuit net.0) part.nets in
    let is = part_step_operations w c.args.number part c.part_at-part.ensures in
    let more : ℕ = solving_operations w.circuit part + 4 * length part.nets in
    let solved = c.check_solved.ensures.few one u (within_same u (function_of first c.args.care) (function_of mid c.args.care) (c.write_outputs.ensures.writes.adds.kept c.args.care.0 c.requires.care) care)
    gates_mid written.within in
    record {
      counts = counts_more u (work + more) (step_operations w (PartStep c.args.number)) first new c.check_solved.result (omega (arith, is))
          (counts_then u work more first mid new c.check_solved.result written.counts.added solved.counts);
      within = if_ok_more _ _ c.check_solved.result
          (λ _ reads. (reads, roots_within u gates out roots mid new c.check_solved.ensures.writes c.requires.spans.roots_gates c.requires.spans.roots_out c.write_outputs.ensures.live written.within))
          solved.within;
    }
