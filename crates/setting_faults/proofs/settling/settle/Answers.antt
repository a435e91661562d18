use Rattle.std.proofs.Common.{Option, None, arith, subst}
use Rattle.circuit_faults.specs.KeptResults.{IsFirstKept, KeptGives}
use Rattle.circuit_faults.specs.Results.{CircuitGives, IsFirstFault}
use Rattle.circuit_faults.specs.Steps.{in_phase, phase_of}
use Rattle.circuit_faults.specs.declared.kept_net.KeptFault.{KeptFault}
use Rattle.circuit_faults.specs.declared.net.CircuitFault.{CircuitFault}
use Rattle.setting_faults.proofs.PartOrder.{ordered_parts}
use Rattle.setting_faults.proofs.SettlingCounts.{bare_found, bare_refused, kept_found, kept_refused, used_later}
use Rattle.setting_faults.proofs.SettlingLaws.{bare_unsettled, bare_writes, both_settled, both_writes, care_later, care_within, fixed_later, gates_later, gates_live_later, gates_within, kept_spans_later, kept_unsettled, roots_later, roots_within}
use Rattle.vrt_model.proofs.Networks.{flat_ranges}
use Rattle.setting_faults.proofs.settling.settle.Goals as goal

-- ---- what the calls ask

pub circuit_fault-requires-clause-steps : goal.circuit_fault-requires-clause-steps
circuit_fault-requires-clause-steps c =
    let p = c.requires.parts in
    ordered_parts (in_phase c.args.phased) p.0 (flat_ranges c.args.phased.circuit.now c.requires.circuit) p.1 p.2 c.requires.steps

pub kept_fault-requires-clause-parts : goal.kept_fault-requires-clause-parts
kept_fault-requires-clause-parts c = (phase_of (in_phase c.args.phased), c.requires.kept)

pub kept_fault-requires-clause-care : goal.kept_fault-requires-clause-care
kept_fault-requires-clause-care c = (let live = c.requires.care in let longer = c.in-Ok-None.ensures.writes.adds.longer in omega (arith, live, longer))

pub kept_fault-requires-clause-spans : goal.kept_fault-requires-clause-spans
kept_fault-requires-clause-spans c =
    let w = in_phase c.args.phased in
    kept_spans_later w.circuit w.parts c.args.kept.now.list c.args.spans c.args.store.now c.circuit_fault.new.store c.requires.bare_spans c.requires.kept_spans
    c.in-Ok-None.ensures.writes c.in-Ok-None.ensures.live

-- ---- a fault of the bare circuit

pub returns-in-Ok-Some-clause-writes : goal.returns-in-Ok-Some-clause-writes
returns-in-Ok-Some-clause-writes c =
    let w = in_phase c.args.phased in
    bare_writes w.circuit w.parts c.args.kept.now.list c.args.spans c.args.store.now c.circuit_fault.new.store c.requires.bare_spans c.requires.kept_spans c.in-Ok-Some.ensures.writes

pub returns-in-Ok-Some-clause-gives : goal.returns-in-Ok-Some-clause-gives
returns-in-Ok-Some-clause-gives c fixed =
    let w = in_phase c.args.phased in
    let care = c.args.care in
    let spans = c.args.spans in
    let old = c.args.store.now in
    let new = c.circuit_fault.new.store in
    let first : IsFirstFault w care spans.roots c.in-Ok-Some.fault old new =
    subst (λ (o : Option CircuitFault). CircuitGives w care spans.roots spans.gates old new o) c.in-Ok-Some.field-0-is (c.in-Ok-Some.ensures.gives fixed) in
    bare_unsettled w c.requires.steps care spans.roots c.in-Ok-Some.fault old new first

pub returns-in-Ok-Some-clause-few : goal.returns-in-Ok-Some-clause-few
returns-in-Ok-Some-clause-few c one u care_in roots_in =
    bare_found (in_phase c.args.phased) c.args.kept.now.list c.requires.steps c.args.spans.gates u c.args.store.now c.circuit_fault.new.store c.in-Ok-Some.field-0 _
    (c.in-Ok-Some.ensures.few one u care_in roots_in)

-- ---- a budget that is used up by it

pub returns-in-Err-clause-writes : goal.returns-in-Err-clause-writes
returns-in-Err-clause-writes c =
    let w = in_phase c.args.phased in
    bare_writes w.circuit w.parts c.args.kept.now.list c.args.spans c.args.store.now c.circuit_fault.new.store c.requires.bare_spans c.requires.kept_spans c.in-Err.ensures.writes

pub returns-in-Err-clause-few : goal.returns-in-Err-clause-few
returns-in-Err-clause-few c one u care_in roots_in =
    bare_refused (in_phase c.args.phased) c.args.kept.now.list c.requires.steps c.args.spans.gates u c.args.store.now c.circuit_fault.new.store
    c.in-Err.spent (c.in-Err.ensures.few one u care_in roots_in)

-- ---- no fault

pub returns-in-Ok-None-kept_fault-clause-writes : goal.returns-in-Ok-None-kept_fault-clause-writes
returns-in-Ok-None-kept_fault-clause-writes c =
    let w = in_phase c.args.phased in
    both_writes w.circuit w.parts c.args.kept.now.list c.args.spans c.args.store.now c.circuit_fault.new.store c.requires.bare_spans c.requires.kept_spans c.in-Ok-None.ensures.writes
    c.kept_fault.new.store c.in-Ok-None-kept_fault.ensures.writes c.in-Ok-None.ensures.live

pub returns-in-Ok-None-kept_fault-clause-live : goal.returns-in-Ok-None-kept_fault-clause-live
returns-in-Ok-None-kept_fault-clause-live c =
    let w = in_phase c.args.phased in
    gates_live_later w.circuit w.parts c.args.kept.now.list c.args.spans c.args.store.now c.circuit_fault.new.store c.requires.bare_spans c.requires.kept_spans c.in-Ok-None.ensures.writes
    c.kept_fault.new.store c.in-Ok-None-kept_fault.ensures.writes c.in-Ok-None.ensures.live

pub returns-in-Ok-None-kept_fault-clause-gives : goal.returns-in-Ok-None-kept_fault-clause-gives
returns-in-Ok-None-kept_fault-clause-gives c fixed =
    let w = in_phase c.args.phased in
    let phase = phase_of w in
    let care = c.args.care in
    let spans = c.args.spans in
    let old = c.args.store.now in
    let mid = c.circuit_fault.new.store in
    let new = c.kept_fault.new.store in
    let writes = c.in-Ok-None.ensures.writes in
    let same = roots_later w.circuit w.parts c.args.kept.now.list spans old mid c.requires.bare_spans c.requires.kept_spans writes in
    let gives : CircuitGives w care spans.roots spans.gates old mid None =
    subst (λ (o : Option CircuitFault). CircuitGives w care spans.roots spans.gates old mid o) c.in-Ok-None.field-0-is (c.in-Ok-None.ensures.gives fixed) in
    let none : KeptGives w.circuit phase w.observed care spans.roots mid new None =
    subst (λ (o : Option KeptFault). KeptGives w.circuit phase w.observed care spans.roots mid new o) c.in-Ok-None-kept_fault.field-0-is
    (c.in-Ok-None-kept_fault.ensures.gives phase c.requires.kept (fixed_later w.circuit phase w.observed care spans.roots spans.gates old mid same fixed) gives.1) in
    both_settled w.circuit phase w.observed care spans.roots spans.gates old mid same (care_later old mid mid.words care writes.adds c.requires.care) c.requires.observed.0 new gives.1 none
    (gates_later w.circuit w.parts c.args.kept.now.list spans old mid c.requires.bare_spans c.requires.kept_spans writes new c.in-Ok-None-kept_fault.ensures.writes c.in-Ok-None.ensures.live)

pub returns-in-Ok-None-kept_fault-clause-few : goal.returns-in-Ok-None-kept_fault-clause-few
returns-in-Ok-None-kept_fault-clause-few c one u care_in roots_in =
    let w = in_phase c.args.phased in
    let kept = c.args.kept.now.list in
    let spans = c.args.spans in
    let old = c.args.store.now in
    let mid = c.circuit_fault.new.store in
    let new = c.kept_fault.new.store in
    let writes = c.in-Ok-None.ensures.writes in
    let first = c.in-Ok-None.ensures.few one u care_in roots_in in
    kept_found w kept c.requires.steps spans.gates u old mid new c.in-Ok-None.field-0 first c.in-Ok-None-kept_fault.field-0 None
    (c.in-Ok-None-kept_fault.ensures.few one u (care_within u old mid mid.words c.args.care writes.adds c.requires.care care_in) first.within
    (roots_within w.circuit w.parts kept spans old mid c.requires.bare_spans c.requires.kept_spans writes u roots_in))
    (gates_within w.circuit w.parts kept spans old mid c.requires.bare_spans c.requires.kept_spans writes new c.in-Ok-None-kept_fault.ensures.writes c.in-Ok-None.ensures.live u first.within)

-- ---- a fault of the kept circuit

pub returns-in-Ok-Some-kept_fault-clause-writes : goal.returns-in-Ok-Some-kept_fault-clause-writes
returns-in-Ok-Some-kept_fault-clause-writes c =
    let w = in_phase c.args.phased in
    both_writes w.circuit w.parts c.args.kept.now.list c.args.spans c.args.store.now c.circuit_fault.new.store c.requires.bare_spans c.requires.kept_spans c.in-Ok-None.ensures.writes
    c.kept_fault.new.store c.in-Ok-Some-kept_fault.ensures.writes c.in-Ok-None.ensures.live

pub returns-in-Ok-Some-kept_fault-clause-live : goal.returns-in-Ok-Some-kept_fault-clause-live
returns-in-Ok-Some-kept_fault-clause-live c =
    let w = in_phase c.args.phased in
    gates_live_later w.circuit w.parts c.args.kept.now.list c.args.spans c.args.store.now c.circuit_fault.new.store c.requires.bare_spans c.requires.kept_spans c.in-Ok-None.ensures.writes
    c.kept_fault.new.store c.in-Ok-Some-kept_fault.ensures.writes c.in-Ok-None.ensures.live

pub returns-in-Ok-Some-kept_fault-clause-gives : goal.returns-in-Ok-Some-kept_fault-clause-gives
returns-in-Ok-Some-kept_fault-clause-gives c fixed =
    let w = in_phase c.args.phased in
    let phase = phase_of w in
    let care = c.args.care in
    let spans = c.args.spans in
    let old = c.args.store.now in
    let mid = c.circuit_fault.new.store in
    let new = c.kept_fault.new.store in
    let writes = c.in-Ok-None.ensures.writes in
    let same = roots_later w.circuit w.parts c.args.kept.now.list spans old mid c.requires.bare_spans c.requires.kept_spans writes in
    let gives : CircuitGives w care spans.roots spans.gates old mid None =
    subst (λ (o : Option CircuitFault). CircuitGives w care spans.roots spans.gates old mid o) c.in-Ok-None.field-0-is (c.in-Ok-None.ensures.gives fixed) in
    let first : IsFirstKept w.circuit phase w.observed care spans.roots c.in-Ok-Some-kept_fault.fault mid new =
    subst (λ (o : Option KeptFault). KeptGives w.circuit phase w.observed care spans.roots mid new o) c.in-Ok-Some-kept_fault.field-0-is
    (c.in-Ok-Some-kept_fault.ensures.gives phase c.requires.kept (fixed_later w.circuit phase w.observed care spans.roots spans.gates old mid same fixed) gives.1) in
    kept_unsettled w.circuit phase w.observed care spans.roots spans.gates old mid same (care_later old mid mid.words care writes.adds c.requires.care) new c.in-Ok-Some-kept_fault.fault first

pub returns-in-Ok-Some-kept_fault-clause-few : goal.returns-in-Ok-Some-kept_fault-clause-few
returns-in-Ok-Some-kept_fault-clause-few c one u care_in roots_in =
    let w = in_phase c.args.phased in
    let kept = c.args.kept.now.list in
    let spans = c.args.spans in
    let old = c.args.store.now in
    let mid = c.circuit_fault.new.store in
    let new = c.kept_fault.new.store in
    let writes = c.in-Ok-None.ensures.writes in
    let first = c.in-Ok-None.ensures.few one u care_in roots_in in
    kept_found w kept c.requires.steps spans.gates u old mid new c.in-Ok-None.field-0 first c.in-Ok-Some-kept_fault.field-0 _
    (c.in-Ok-Some-kept_fault.ensures.few one u (care_within u old mid mid.words c.args.care writes.adds c.requires.care care_in) first.within
    (roots_within w.circuit w.parts kept spans old mid c.requires.bare_spans c.requires.kept_spans writes u roots_in))
    (gates_within w.circuit w.parts kept spans old mid c.requires.bare_spans c.requires.kept_spans writes new c.in-Ok-Some-kept_fault.ensures.writes c.in-Ok-None.ensures.live u first.within)

-- ---- a budget that is used up by it

pub returns-in-Err-kept_fault-clause-writes : goal.returns-in-Err-kept_fault-clause-writes
returns-in-Err-kept_fault-clause-writes c =
    let w = in_phase c.args.phased in
    both_writes w.circuit w.parts c.args.kept.now.list c.args.spans c.args.store.now c.circuit_fault.new.store c.requires.bare_spans c.requires.kept_spans c.in-Ok-None.ensures.writes
    c.kept_fault.new.store c.in-Err-kept_fault.ensures.writes c.in-Ok-None.ensures.live

pub returns-in-Err-kept_fault-clause-live : goal.returns-in-Err-kept_fault-clause-live
returns-in-Err-kept_fault-clause-live c =
    let w = in_phase c.args.phased in
    gates_live_later w.circuit w.parts c.args.kept.now.list c.args.spans c.args.store.now c.circuit_fault.new.store c.requires.bare_spans c.requires.kept_spans c.in-Ok-None.ensures.writes
    c.kept_fault.new.store c.in-Err-kept_fault.ensures.writes c.in-Ok-None.ensures.live

pub returns-in-Err-kept_fault-clause-few : goal.returns-in-Err-kept_fault-clause-few
returns-in-Err-kept_fault-clause-few c one u care_in roots_in =
    let w = in_phase c.args.phased in
    let kept = c.args.kept.now.list in
    let spans = c.args.spans in
    let old = c.args.store.now in
    let mid = c.circuit_fault.new.store in
    let new = c.kept_fault.new.store in
    let writes = c.in-Ok-None.ensures.writes in
    let first = c.in-Ok-None.ensures.few one u care_in roots_in in
    kept_refused w kept c.requires.steps spans.gates u old mid new c.in-Ok-None.field-0 first c.in-Err-kept_fault.spent
    (c.in-Err-kept_fault.ensures.few one u (care_within u old mid mid.words c.args.care writes.adds c.requires.care care_in) first.within
    (roots_within w.circuit w.parts kept spans old mid c.requires.bare_spans c.requires.kept_spans writes u roots_in))

pub returns-in-Err-kept_fault-clause-spent : goal.returns-in-Err-kept_fault-clause-spent
returns-in-Err-kept_fault-clause-spent c one =
    let mid = c.circuit_fault.new.store in
    used_later c.args.store.now mid c.kept_fault.new.store mid.words c.in-Err-kept_fault.spent c.in-Ok-None.ensures.writes.adds (c.in-Err-kept_fault.ensures.spent one)
