use Rattle.bdd_core.specs.Words.{Writes}
use Rattle.bdd_core.proofs.Frames.{writes_then}
use Rattle.path_fixpoint.proofs.Opened.{open_paths, open_roots}
use Rattle.path_fixpoint.proofs.SpendingLaws.{rewrites_then}
use Rattle.path_fixpoint.proofs.opening.open.Goals as goal

pub returns-clause-writes : goal.returns-clause-writes
returns-clause-writes c =
    writes_then c.args.out.span c.args.store.now c.mark_holds.new.store c.mark_pins.new.store
    (writes_then c.args.out.span c.args.store.now c.mark_given.new.store c.mark_holds.new.store
    (writes_then c.args.out.span c.args.store.now c.take_above.new.store c.mark_given.new.store c.take_above.ensures.writes c.mark_given.ensures.writes) c.mark_holds.ensures.writes)
    c.mark_pins.ensures.writes

pub returns-clause-roots : goal.returns-clause-roots
returns-clause-roots c =
    let whole : Writes c.args.out.span c.args.store.now c.mark_pins.new.store =
    writes_then c.args.out.span c.args.store.now c.mark_holds.new.store c.mark_pins.new.store
    (writes_then c.args.out.span c.args.store.now c.mark_given.new.store c.mark_holds.new.store
    (writes_then c.args.out.span c.args.store.now c.take_above.new.store c.mark_given.new.store c.take_above.ensures.writes c.mark_given.ensures.writes) c.mark_holds.ensures.writes)
    c.mark_pins.ensures.writes in
    open_roots c.args.circuit.now c.args.part.now c.args.gates c.args.out c.args.level c.requires.level.0 c.requires.level.1
    c.args.store.now c.take_above.new.store c.mark_given.new.store c.mark_holds.new.store c.mark_pins.new.store c.requires.words whole
    c.take_above.ensures.taken c.mark_given.ensures.marked c.mark_given.ensures.only c.mark_holds.ensures.marked c.mark_holds.ensures.only
    c.mark_pins.ensures.marked c.mark_pins.ensures.only

pub returns-clause-paths : goal.returns-clause-paths
returns-clause-paths c =
    let whole : Writes c.args.out.span c.args.store.now c.mark_pins.new.store =
    writes_then c.args.out.span c.args.store.now c.mark_holds.new.store c.mark_pins.new.store
    (writes_then c.args.out.span c.args.store.now c.mark_given.new.store c.mark_holds.new.store
    (writes_then c.args.out.span c.args.store.now c.take_above.new.store c.mark_given.new.store c.take_above.ensures.writes c.mark_given.ensures.writes) c.mark_holds.ensures.writes)
    c.mark_pins.ensures.writes in
    open_paths c.args.circuit.now c.args.part.now c.args.gates c.args.out c.args.level c.requires.level.0 c.requires.level.1
    c.args.store.now c.take_above.new.store c.mark_given.new.store c.mark_holds.new.store c.mark_pins.new.store c.requires.words whole
    c.take_above.ensures.taken c.mark_given.ensures.marked c.mark_given.ensures.only c.mark_holds.ensures.marked c.mark_holds.ensures.only
    c.mark_pins.ensures.marked c.mark_pins.ensures.only

pub returns-clause-few : goal.returns-clause-few
returns-clause-few c u all =
    let out = c.args.out in
    let taken = c.take_above.ensures.few u all in
    let given = c.mark_given.ensures.few u taken.within in
    let held = c.mark_holds.ensures.few u given.within in
    rewrites_then u out.span c.args.store.now c.mark_holds.new.store c.mark_pins.new.store
    (rewrites_then u out.span c.args.store.now c.mark_given.new.store c.mark_holds.new.store
    (rewrites_then u out.span c.args.store.now c.take_above.new.store c.mark_given.new.store taken given) held) (c.mark_pins.ensures.few u held.within)
