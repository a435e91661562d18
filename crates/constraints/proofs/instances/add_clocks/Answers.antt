use Rattle.std.proofs.Common.{ℕ, List, Ok, Err, refl}
use Rattle.bdd_core.specs.Store.{function_of}
use Rattle.vrt_model.specs.declared.rules.ClockportRule.{ClockportRule}
use Rattle.constraints.proofs.DiagramLaws.{adds_next, handles_after}
use Rattle.constraints.proofs.HandleLaws.{handles_live}
use Rattle.constraints.proofs.ObligedLaws.{clock_after, clock_within}
use Rattle.constraints.proofs.TestLaws.{all_so_far, more_so_far, none_so_far, refused_so_far}
use Rattle.constraints.specs.Evaluated.{AreLive}
use Rattle.constraints.specs.Handles.{handle_in}
use Rattle.constraints.specs.Obliged.{clock_holds, clock_operations}
use Rattle.constraints.proofs.instances.add_clocks.Goals as goal
use Rattle.vrt_model.proofs.Lists.{no_items}

pub rules-init : goal.rules-init
rules-init c =
    let old = c.args.store.now in
    let handle : List ℕ → ℕ = handle_in old.words c.args.ports in
    none_so_far (clock_holds old handle c.args.cell.now c.args.bits.now) (clock_operations c.args.cell.now) handle (function_of old c.args.start) c.args.rules.now old c.args.start refl
    c.sound.ensures.sound c.sound.ensures.within c.requires.start

pub add_clock-requires-clause-handles : goal.add_clock-requires-clause-handles
add_clock-requires-clause-handles c =
    handles_after c.args.store.now c.rules.store c.rules.invariant.so_far (Ok c.rules.all) c.rules.invariant.gives c.args.ports c.requires.handles

pub returns-in-Err : goal.returns-in-Err
returns-in-Err c =
    let old = c.args.store.now in
    let mid = c.rules.store in
    let handle : List ℕ → ℕ = handle_in old.words c.args.ports in
    let live : AreLive old handle = handles_live old c.args.ports c.sound.ensures.sound c.requires.handles in
    let rule : ClockportRule = c.in-Some.rule.now in
    let far = c.rules.invariant in
    refused_so_far (clock_holds old handle c.args.cell.now c.args.bits.now) (clock_operations c.args.cell.now) handle (function_of old c.args.start) c.args.rules.now old mid c.add_clock.new.store
    c.rules.rest.now c.in-Some.behind.now rule c.rules.all c.in-Some.ensures.cases.0 live far (clock_holds mid handle c.args.cell.now c.args.bits.now rule) c.in-Err.spent
    (adds_next old mid far.so_far (Ok c.rules.all) far.gives (λ (ws : List ℕ). handle_in ws c.args.ports) (clock_operations c.args.cell.now rule) (function_of mid c.rules.all)
    (λ (h : List ℕ → ℕ). clock_holds mid h c.args.cell.now c.args.bits.now rule) c.add_clock.new.store (Err c.in-Err.spent) c.in-Err.ensures)

pub rules-preserved : goal.rules-preserved
rules-preserved c =
    let old = c.args.store.now in
    let mid = c.rules.store in
    let handle : List ℕ → ℕ = handle_in old.words c.args.ports in
    let live : AreLive old handle = handles_live old c.args.ports c.sound.ensures.sound c.requires.handles in
    let rule : ClockportRule = c.in-Some.rule.now in
    let far = c.rules.invariant in
    more_so_far (clock_holds old handle c.args.cell.now c.args.bits.now) (clock_operations c.args.cell.now) handle (function_of old c.args.start) c.args.rules.now old mid c.add_clock.new.store
    c.rules.rest.now c.in-Some.behind.now rule c.rules.all c.in-Some.ensures.cases.0 live far (clock_holds mid handle c.args.cell.now c.args.bits.now rule) c.in-Ok.all
    (clock_after old mid far.so_far (Ok c.rules.all) far.gives handle live c.args.cell.now c.args.bits.now rule) (λ u reads. clock_within u old handle reads c.args.cell.now c.args.bits.now rule)
    (adds_next old mid far.so_far (Ok c.rules.all) far.gives (λ (ws : List ℕ). handle_in ws c.args.ports) (clock_operations c.args.cell.now rule) (function_of mid c.rules.all)
    (λ (h : List ℕ → ℕ). clock_holds mid h c.args.cell.now c.args.bits.now rule) c.add_clock.new.store (Ok c.in-Ok.all) c.in-Ok.ensures)

pub returns : goal.returns
returns c =
    let old = c.args.store.now in
    let handle : List ℕ → ℕ = handle_in old.words c.args.ports in
    all_so_far (clock_holds old handle c.args.cell.now c.args.bits.now) (clock_operations c.args.cell.now) handle (function_of old c.args.start) c.args.rules.now old c.rules.store c.rules.rest.now c.rules.all
    (no_items c.rules.rest.now c.in_default.ensures.cases) c.rules.invariant
