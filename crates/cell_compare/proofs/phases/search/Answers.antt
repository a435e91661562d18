-- One phase more is equal, or it stops the search.
use Rattle.std.proofs.Common.{◌≡◌, ℕ, ◌<◌, List, arith, ap, below_more, length, refl, subst, sym, ◌∙◌}
use Rattle.std.specs.Prelude.{All, ◌==◌}
use Rattle.cell_compare.proofs.CheckLaws.{equal_phase, stopped}
use Rattle.cell_compare.proofs.PortLaws.{phase_levels, ports_next, still_asked, stop_tells}
use Rattle.cell_compare.specs.Phases.{PhaseTells}
use Rattle.cell_compare.specs.Ports.{TellsPhaseLevels}
use Rattle.cell_compare.specs.Workspace.{View, compared_in}
use Rattle.cell_room.specs.Made.{circuit_in}
use Rattle.drive_levels.specs.PortLevels.{AreAsked, AreJoined, ArePortLevels}
use Rattle.vrt_model.specs.Equal.{IsPhaseEqual}
use Rattle.vrt_model.specs.declared.ids.Net.{Net}
use Rattle.vrt_model.specs.declared.rules.Rules.{Rules}
use Rattle.cell_compare.proofs.phases.search.Goals as goal

pub loop-phase-init : goal.loop-phase-init
loop-phase-init c = record {
  equal = λ p lt. absurd (omega (arith, lt));
  rest = refl;
  asked = c.sound.ensures.asked;
  nets = refl;
  len = c.requires.len;
  joined = λ lt. absurd (omega (arith, lt));
}

pub found_in-requires : goal.found_in-requires
found_in-requires c =
    subst (λ (r : Rules). c.loop-phase.phase < length r.phases) (sym (ap (λ (w : View). w.rules) c.loop-phase.invariant.rest)) (omega (arith, c.loop-phase-test.true, c.phase_count-phases.ensures))

pub returns-in-Some-clause-checked : goal.returns-in-Some-clause-checked
returns-in-Some-clause-checked c =
    let k = compared_in c.args.workspace.now in
    let budget = c.args.workspace.now.budget in
    let tells = subst (λ (w : View). PhaseTells (compared_in w) w.budget c.loop-phase.phase c.in_ok-found.found) c.loop-phase.invariant.rest c.in_ok-found.ensures.tells in
    stopped k budget c.loop-phase.phase c.in-Some.verdict c.loop-phase.invariant.equal (omega (arith, c.loop-phase-test.true, c.phase_count-phases.ensures))
    (subst (PhaseTells k budget c.loop-phase.phase) c.in-Some.is tells)

pub returns-in-Some-clause-ports : goal.returns-in-Some-clause-ports
returns-in-Some-clause-ports c =
    let k = compared_in c.args.workspace.now in
    let budget = c.args.workspace.now.budget in
    let tells = subst (λ (w : View). PhaseTells (compared_in w) w.budget c.loop-phase.phase c.in_ok-found.found) c.loop-phase.invariant.rest c.in_ok-found.ensures.tells in
    stop_tells k budget c.loop-phase.phase c.args.ports.now.nets c.loop-phase.ports c.in-Some.verdict (subst (PhaseTells k budget c.loop-phase.phase) c.in-Some.is tells)

pub returns-in-Some-clause-rest : goal.returns-in-Some-clause-rest
returns-in-Some-clause-rest c =
    let new = c.found_in.new.workspace in
    c.found_in.ensures.rest ∙ ap (λ (w : View). let one : View = record w { count = new.count; levels = new.levels; last = new.last } in one) c.loop-phase.invariant.rest

pub returns-clause-ports : goal.returns-clause-ports
returns-clause-ports c =
    let k = compared_in c.args.workspace.now in
    let inv = c.loop-phase.invariant in
    let some = c.sound.ensures.made.ready.rules.some_phase in
    let all : c.loop-phase.phase ≡ length k.rules.phases = omega (arith, c.phase_count-phases.ensures, c.loop-phase-test.false) in
    λ equal. subst (λ (n : ℕ). ArePortLevels k n c.args.ports.now.nets c.loop-phase.ports.levels.items) all (inv.joined (omega (arith, some, all)))

pub loop-phase-preserved : goal.loop-phase-preserved
loop-phase-preserved c =
    let k = compared_in c.args.workspace.now in
    let made = c.args.workspace.now.made in
    let phase = c.loop-phase.phase in
    let inv = c.loop-phase.invariant in
    let new = c.found_in.new.workspace in
    let rest = c.found_in.ensures.rest ∙ ap (λ (w : View). let one : View = record w { count = new.count; levels = new.levels; last = new.last } in one) inv.rest in
    let tells = subst (λ (w : View). PhaseTells (compared_in w) w.budget phase c.in_ok-found.found) inv.rest c.in_ok-found.ensures.tells in
    let levels = subst (λ (w : View). TellsPhaseLevels (compared_in w) phase new.levels c.in_ok-found.found) inv.rest c.in_ok-found.ensures.levels in
    let asked = still_asked made.outputs c.loop-phase.workspace.levels new.levels c.found_in.ensures.tables inv.asked in
    let asked_here = subst (λ (ns : List Net). AreAsked ns new.levels) (sym c.requires.outputs) asked in
    let there = subst (All (λ (n : Net). n.0 < length k.circuit.nets)) (sym c.requires.outputs) c.sound.ensures.made.there in
    let joined = subst (λ (w : View). AreJoined (circuit_in w.made) new.levels c.loop-phase.ports.nets (phase == 0) c.loop-phase.ports.levels.items c.join.new.ports.levels.items) rest c.join.ensures.joined in
    record {
      equal = below_more (λ p. IsPhaseEqual k p) phase inv.equal (equal_phase k c.args.workspace.now.budget phase c.in_ok-found.found c.in_default.not-Some tells);
      rest = rest;
      asked = asked;
      nets = c.join.ensures.nets ∙ inv.nets;
      len = c.join.ensures.joined.len ∙ inv.len ∙ sym (ap (λ (ns : List Net). length ns) c.join.ensures.nets);
      joined = λ lt. ports_next k phase new.levels c.args.ports.now.nets c.loop-phase.ports c.join.new.ports
          (phase_levels k phase new.levels c.in_ok-found.found c.in_default.not-Some levels) asked_here there inv.nets inv.joined joined;
    }
