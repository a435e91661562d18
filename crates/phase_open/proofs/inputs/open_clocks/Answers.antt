use Rattle.std.proofs.Common.{arith, false, get_or}
use Rattle.std.proofs.lemmas.Option.{slice_get-get_or, slice_get_within}
use Rattle.phase_open.proofs.InputLaws.{clock_more}
use Rattle.bdd_core.proofs.Frames.{rest_then, writes_then}
use Rattle.vrt_model.specs.Lists.{At}
use Rattle.vrt_model.specs.declared.pairing.ClockedSignal.{ClockedSignal}
use Rattle.phase_open.proofs.inputs.open_clocks.Goals as goal

pub open_clock-requires-clause-within : goal.open_clock-requires-clause-within
open_clock-requires-clause-within c =
    let none : ClockedSignal = record { signal = 0; clock = record { clock = 0; inverted = false } } in
    c.requires.within (get_or c.args.clocked.now c.loop-one.one-index none) (c.loop-one.one-index, slice_get-get_or c.args.clocked.now c.loop-one.one-index none c.loop-one-test.true)

pub loop-one-preserved : goal.loop-one-preserved
loop-one-preserved c =
    let none : ClockedSignal = record { signal = 0; clock = record { clock = 0; inverted = false } } in
    let clocked = c.args.clocked.now in
    let i = c.loop-one.one-index in
    let one : ClockedSignal = get_or clocked i none in
    let there : At clocked i one = slice_get-get_or clocked i none c.loop-one-test.true in
    let first = c.args.store.now in
    let old = c.loop-one.store in
    let new = c.open_clock.new.store in
    record {
      writes = writes_then c.args.inputs first old new c.loop-one.invariant.writes c.open_clock.ensures.writes;
      rest = rest_then first old new new.words c.loop-one.invariant.rest c.open_clock.ensures.rest;
      opened = clock_more c.args.phase.now clocked c.args.inputs old new i one there c.open_clock.ensures.opened c.open_clock.ensures.others c.requires.one c.loop-one.invariant.opened;
    }

pub returns-clause-opened : goal.returns-clause-opened
returns-clause-opened c d m =
    c.loop-one.invariant.opened m.0 d (let lt = slice_get_within c.args.clocked.now m.0 d m.1 in omega (arith, lt, c.loop-one-test.false)) m.1
