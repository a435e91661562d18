use Rattle.std.proofs.Common.{ℕ, arith, ap, cond, false, get_or}
use Rattle.std.proofs.lemmas.Option.{slice_get-get_or, slice_get_within}
use Rattle.bdd_core.proofs.Frames.{rest_then, writes_then}
use Rattle.vrt_model.specs.Lists.{At}
use Rattle.vrt_model.specs.Reading.{clock_bit}
use Rattle.vrt_model.specs.declared.pairing.ClockedSignal.{ClockedSignal}
use Rattle.vrt_model.specs.declared.rules.ClockRef.{ClockRef}
use Rattle.whole_steps.proofs.GivenLaws.{others_more, words_more}
use Rattle.whole_steps.proofs.given.give_clocks.Goals as goal

pub give_clock-requires-clause-within : goal.give_clock-requires-clause-within
give_clock-requires-clause-within c =
    let none : ClockedSignal = record { signal = 0; clock = record { clock = 0; inverted = false } } in
    c.requires.within (get_or c.args.clocked.now c.loop-one.one-index none) (c.loop-one.one-index, slice_get-get_or c.args.clocked.now c.loop-one.one-index none c.loop-one-test.true)

pub loop-one-preserved : goal.loop-one-preserved
loop-one-preserved c =
    let none : ClockedSignal = record { signal = 0; clock = record { clock = 0; inverted = false } } in
    let clocked = c.args.clocked.now in
    let given = c.args.given in
    let i = c.loop-one.one-index in
    let one : ClockedSignal = get_or clocked i none in
    let there : At clocked i one = slice_get-get_or clocked i none c.loop-one-test.true in
    let signal : ClockedSignal → ℕ = λ x. x.signal in
    let word : ClockedSignal → ℕ = λ x. cond (clock_bit c.args.phase.now x.clock) 1 0 in
    let first = c.args.store.now in
    let old = c.loop-one.store in
    let new = c.give_clock.new.store in
    record {
      writes = writes_then given first old new c.loop-one.invariant.writes c.give_clock.ensures.writes;
      rest = rest_then first old new new.words c.loop-one.invariant.rest c.give_clock.ensures.rest;
      clocked =
          words_more ClockedSignal clocked signal word given old new i one there c.give_clock.ensures.clock c.give_clock.ensures.others
          (λ a b m l e. ap (λ (x : ClockRef). cond (clock_bit c.args.phase.now x) 1 0) (c.requires.one a b m l e)) c.loop-one.invariant.clocked;
      others = others_more ClockedSignal clocked signal word given old new i one there c.give_clock.ensures.clock c.give_clock.ensures.others first c.loop-one.invariant.others;
      within = λ u reads. c.give_clock.ensures.within u (c.loop-one.invariant.within u reads);
    }

pub returns-clause-clocked : goal.returns-clause-clocked
returns-clause-clocked c d m =
    c.loop-one.invariant.clocked m.0 d (let lt = slice_get_within c.args.clocked.now m.0 d m.1 in omega (arith, lt, c.loop-one-test.false)) m.1
