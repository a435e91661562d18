use Rattle.std.proofs.Common.{ℕ, ◌<◌, ◌||◌, length, Ok, Err, arith, sym, subst, ◌∙◌}
use Rattle.bdd_core.specs.Diagram.{IsWithin, meaning}
use Rattle.bdd_core.proofs.Frames.{writes_then}
use Rattle.path_fixpoint.proofs.SpendingLaws.{handle_kept, spends_behind, spends_more, spends_value}
use Rattle.path_fixpoint.specs.Strengths.{strong_end}
use Rattle.path_fixpoint.proofs.Offered.{offered_live, offered_shows, offered_within}
use Rattle.path_fixpoint.proofs.Places.{EndIs, place_fits}
use Rattle.path_fixpoint.proofs.Spreading.{device_ranges, spreads_both}
use Rattle.path_fixpoint.proofs.Idle.{spreads_idle, spreads_off}
use Rattle.path_fixpoint.proofs.rounds.visit.Goals as goal

pub read-requires-clause-within : goal.read-requires-clause-within
read-requires-clause-within c = omega (arith, (device_ranges c.args.circuit.now c.args.part.now c.args.device.now c.requires.part.0 c.requires.device).gate, c.requires.words.gates_len)

pub pass-requires-clause-gate : goal.pass-requires-clause-gate
pass-requires-clause-gate c =
    let lt = (device_ranges c.args.circuit.now c.args.part.now c.args.device.now c.requires.part.0 c.requires.device).gate in
    omega (arith, c.read.ensures, c.requires.words.gates_live c.args.device.now.gate.0 (omega (arith, lt, c.requires.words.gates_len)))

pub pass-requires-clause-signal : goal.pass-requires-clause-signal
pass-requires-clause-signal c = offered_live c.args.side c.place-left.result c.strength-left_mark.result.0 c.offered-there.result.0 (length c.args.store.now.nodes) c.offered-there.ensures c.strength-left_mark.ensures.live c.sound.ensures.sound.ends

pub pass-requires-clause-to : goal.pass-requires-clause-to
pass-requires-clause-to c = place_fits c.args.part.now c.args.out c.place-right.result c.args.device.now.right.0 c.requires.words.out_len c.place-right.ensures.some

pub pass-requires-2-clause-gate : goal.pass-requires-2-clause-gate
pass-requires-2-clause-gate c =
    let lt = (device_ranges c.args.circuit.now c.args.part.now c.args.device.now c.requires.part.0 c.requires.device).gate in
    omega (arith, c.read.ensures, c.requires.words.gates_live c.args.device.now.gate.0 (omega (arith, lt, c.requires.words.gates_len)), c.in-Ok.ensures.writes.adds.longer)

pub pass-requires-2-clause-signal : goal.pass-requires-2-clause-signal
pass-requires-2-clause-signal c =
    let live = offered_live c.args.side c.place-right.result c.strength-right_mark.result.0 c.offered-here.result.0 (length c.args.store.now.nodes) c.offered-here.ensures c.strength-right_mark.ensures.live c.sound.ensures.sound.ends in
    omega (arith, live, c.in-Ok.ensures.writes.adds.longer)

pub pass-requires-2-clause-to : goal.pass-requires-2-clause-to
pass-requires-2-clause-to c = place_fits c.args.part.now c.args.out c.place-left.result c.args.device.now.left.0 c.requires.words.out_len c.place-left.ensures.some

pub returns-in-Err-pass-clause-writes : goal.returns-in-Err-pass-clause-writes
returns-in-Err-pass-clause-writes c = writes_then c.args.out.span c.args.store.now c.pass.new.store c.pass-2.new.store c.in-Ok.ensures.writes c.in-Err-pass.ensures.writes

pub returns-in-Err-pass-clause-apart : goal.returns-in-Err-pass-clause-apart
returns-in-Err-pass-clause-apart c k away = c.in-Err-pass.ensures.apart k away ∙ c.in-Ok.ensures.apart k away

pub returns-clause-writes : goal.returns-clause-writes
returns-clause-writes c = writes_then c.args.out.span c.args.store.now c.pass.new.store c.pass-2.new.store c.in-Ok.ensures.writes c.in-Ok-pass.ensures.writes

pub returns-clause-apart : goal.returns-clause-apart
returns-clause-apart c k away = c.in-Ok-pass.ensures.apart k away ∙ c.in-Ok.ensures.apart k away

pub returns-clause-spreads : goal.returns-clause-spreads
returns-clause-spreads c =
    let left_is : EndIs c.args.part.now c.place-left.result c.args.device.now.left.0 = record { some = c.place-left.ensures.some; none = c.place-left.ensures.none } in
    let right_is : EndIs c.args.part.now c.place-right.result c.args.device.now.right.0 = record { some = c.place-right.ensures.some; none = c.place-right.ensures.none } in
    let old = c.args.store.now in
    let live = offered_live c.args.side c.place-right.result c.strength-right_mark.result.0 c.offered-here.result.0 (length old.nodes) c.offered-here.ensures c.strength-right_mark.ensures.live c.sound.ensures.sound.ends in
    spreads_both c.args.circuit.now c.args.part.now c.requires.part.1 c.requires.part.0 c.args.gates c.args.out c.args.level c.requires.level.0 c.requires.level.1 c.args.side
    c.args.device.now c.requires.device c.place-left.result c.place-right.result left_is right_is c.if-device-level.false
    old c.pass.new.store c.pass-2.new.store c.read.result c.offered-there.result.0 c.offered-here.result.0 c.in-Ok.forth c.in-Ok-pass.back c.requires.words c.read.ensures live
    (offered_shows c.args.side c.place-left.result c.strength-left_mark.result.0 c.offered-there.result.0 old (strong_end old c.args.out c.args.level c.place-left.result) c.offered-there.ensures c.strength-left_mark.ensures.is)
    (offered_shows c.args.side c.place-right.result c.strength-right_mark.result.0 c.offered-here.result.0 old (strong_end old c.args.out c.args.level c.place-right.result) c.offered-here.ensures c.strength-right_mark.ensures.is)
    c.in-Ok.ensures.writes c.in-Ok-pass.ensures.writes c.in-Ok.ensures.passes c.in-Ok-pass.ensures.passes

pub returns-in-Err-clause-few : goal.returns-in-Err-clause-few
returns-in-Err-clause-few c u gates all =
    let old = c.args.store.now in
    let gate : IsWithin u (meaning old.nodes c.read.result) =
    subst (λ (h : ℕ). IsWithin u (meaning old.nodes h)) (sym c.read.ensures) (gates c.args.device.now c.requires.device) in
    let there = offered_within u c.args.side c.place-left.result c.strength-left_mark.result.0 c.offered-there.result.0 old c.offered-there.ensures (c.strength-left_mark.ensures.few u all) in
    spends_more u c.args.out.span 2 4 old c.pass.new.store (Err c.in-Err.spent) (omega arith) (c.in-Err.ensures.few u all gate there)

pub returns-in-Err-pass-clause-few : goal.returns-in-Err-pass-clause-few
returns-in-Err-pass-clause-few c u gates all =
    let out = c.args.out in
    let old = c.args.store.now in
    let mid = c.pass.new.store in
    let lt = (device_ranges c.args.circuit.now c.args.part.now c.args.device.now c.requires.part.0 c.requires.device).gate in
    let live : c.read.result < length old.nodes = omega (arith, c.read.ensures, c.requires.words.gates_live c.args.device.now.gate.0 (omega (arith, lt, c.requires.words.gates_len))) in
    let gate : IsWithin u (meaning old.nodes c.read.result) =
    subst (λ (h : ℕ). IsWithin u (meaning old.nodes h)) (sym c.read.ensures) (gates c.args.device.now c.requires.device) in
    let there = offered_within u c.args.side c.place-left.result c.strength-left_mark.result.0 c.offered-there.result.0 old c.offered-there.ensures (c.strength-left_mark.ensures.few u all) in
    let here = offered_within u c.args.side c.place-right.result c.strength-right_mark.result.0 c.offered-here.result.0 old c.offered-here.ensures (c.strength-right_mark.ensures.few u all) in
    let live_here = offered_live c.args.side c.place-right.result c.strength-right_mark.result.0 c.offered-here.result.0 (length old.nodes) c.offered-here.ensures c.strength-right_mark.ensures.live c.sound.ensures.sound.ends in
    let forth = c.in-Ok.ensures.few u all gate there in
    spends_behind u out.span 2 2 old mid c.pass-2.new.store (Err c.in-Err-pass.spent) forth.counts.added
    (c.in-Err-pass.ensures.few u forth.within (handle_kept u out.span old mid c.read.result c.in-Ok.ensures.writes live gate)
    (handle_kept u out.span old mid c.offered-here.result.0 c.in-Ok.ensures.writes live_here here))

pub returns-clause-few : goal.returns-clause-few
returns-clause-few c u gates all =
    let out = c.args.out in
    let old = c.args.store.now in
    let mid = c.pass.new.store in
    let lt = (device_ranges c.args.circuit.now c.args.part.now c.args.device.now c.requires.part.0 c.requires.device).gate in
    let live : c.read.result < length old.nodes = omega (arith, c.read.ensures, c.requires.words.gates_live c.args.device.now.gate.0 (omega (arith, lt, c.requires.words.gates_len))) in
    let gate : IsWithin u (meaning old.nodes c.read.result) =
    subst (λ (h : ℕ). IsWithin u (meaning old.nodes h)) (sym c.read.ensures) (gates c.args.device.now c.requires.device) in
    let there = offered_within u c.args.side c.place-left.result c.strength-left_mark.result.0 c.offered-there.result.0 old c.offered-there.ensures (c.strength-left_mark.ensures.few u all) in
    let here = offered_within u c.args.side c.place-right.result c.strength-right_mark.result.0 c.offered-here.result.0 old c.offered-here.ensures (c.strength-right_mark.ensures.few u all) in
    let live_here = offered_live c.args.side c.place-right.result c.strength-right_mark.result.0 c.offered-here.result.0 (length old.nodes) c.offered-here.ensures c.strength-right_mark.ensures.live c.sound.ensures.sound.ends in
    let forth = c.in-Ok.ensures.few u all gate there in
    spends_value u out.span 4 old c.pass-2.new.store c.in-Ok-pass.back (c.in-Ok.forth || c.in-Ok-pass.back)
    (spends_behind u out.span 2 2 old mid c.pass-2.new.store (Ok c.in-Ok-pass.back) forth.counts.added
    (c.in-Ok-pass.ensures.few u forth.within (handle_kept u out.span old mid c.read.result c.in-Ok.ensures.writes live gate)
    (handle_kept u out.span old mid c.offered-here.result.0 c.in-Ok.ensures.writes live_here here)))

pub returns-then-blocks-clause-spreads : goal.returns-then-blocks-clause-spreads
returns-then-blocks-clause-spreads c =
    spreads_off c.args.circuit.now c.args.part.now c.requires.part.0 c.args.gates c.args.out c.args.device.now c.requires.device c.args.store.now
    (sym c.read.ensures ∙ c.blocks-2.ensures c.if-blocks.true) c.args.level c.args.side

pub returns-then-is_idle-clause-spreads : goal.returns-then-is_idle-clause-spreads
returns-then-is_idle-clause-spreads c =
    let q = c.is_idle.ensures c.if-is_idle.true in
    spreads_idle c.args.circuit.now c.args.part.now c.requires.part.1 c.args.gates c.args.out c.args.device.now c.requires.device c.args.store.now c.args.side q.0 q.1 c.args.level
