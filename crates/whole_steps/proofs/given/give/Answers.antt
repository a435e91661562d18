use Rattle.std.proofs.Common.{List, arith, subst, sym}
use Rattle.bdd_core.proofs.Frames.{word_beside, writes_then}
use Rattle.vrt_model.specs.Lists.{Among}
use Rattle.vrt_model.specs.declared.pairing.ClockedSignal.{ClockedSignal}
use Rattle.vrt_model.specs.declared.whole.WholePin.{WholePin}
use Rattle.whole_steps.proofs.GivenLaws.{are_given, clock_below, pin_below, within_beside, zeros_within}
use Rattle.whole_steps.proofs.given.give.Goals as goal

pub give_clocks-requires-clause-within : goal.give_clocks-requires-clause-within
give_clocks-requires-clause-within c d m =
    let lt = clock_below c.args.whole.now c.requires.whole d (subst (λ (xs : List ClockedSignal). Among xs d) c.as_slice.ensures m) in omega (arith, lt, c.requires.given.1)

pub give_clocks-requires-clause-one : goal.give_clocks-requires-clause-one
give_clocks-requires-clause-one c a b m l =
    c.requires.whole.one_clock a b (subst (λ (xs : List ClockedSignal). Among xs a) c.as_slice.ensures m) (subst (λ (xs : List ClockedSignal). Among xs b) c.as_slice.ensures l)

pub give_pins-requires-clause-within : goal.give_pins-requires-clause-within
give_pins-requires-clause-within c p m =
    let there = subst (λ (xs : List WholePin). Among xs p) c.as_slice-2.ensures m in
    let lt = pin_below c.args.whole.now c.requires.whole p there in
    (c.requires.nets p there, omega (arith, lt, c.requires.given.1))

pub give_pins-requires-clause-one : goal.give_pins-requires-clause-one
give_pins-requires-clause-one c p q m l =
    c.requires.whole.one_net p q (subst (λ (xs : List WholePin). Among xs p) c.as_slice-2.ensures m) (subst (λ (xs : List WholePin). Among xs q) c.as_slice-2.ensures l)

pub returns-clause-given : goal.returns-clause-given
returns-clause-given c =
    let old = c.args.store.now in
    let cleared = c.clear.new.store in
    let clocked = c.give_clocks.new.store in
    let given = c.args.given in
    let clocks = sym c.as_slice.ensures in
    let pins = sym c.as_slice-2.ensures in
    are_given c.args.whole.now c.requires.whole c.args.phase.now c.args.gates given old cleared clocked c.give_pins.new.store c.requires.given.1 c.clear.ensures.zeros
    (λ d m. c.give_clocks.ensures.clocked d (subst (λ (xs : List ClockedSignal). Among xs d) clocks m))
    (λ s none. c.give_clocks.ensures.others s (λ d m. none d (subst (λ (xs : List ClockedSignal). Among xs d) c.as_slice.ensures m)))
    (λ p m. c.give_pins.ensures.tied p (subst (λ (xs : List WholePin). Among xs p) pins m))
    (λ s none. c.give_pins.ensures.others s (λ p m. none p (subst (λ (xs : List WholePin). Among xs p) c.as_slice-2.ensures m)))
    (λ p m. word_beside given c.args.gates old clocked p.net.0 (writes_then given old cleared clocked c.clear.ensures.writes c.give_clocks.ensures.writes) c.requires.apart (c.requires.nets p m))

pub returns-clause-within : goal.returns-clause-within
returns-clause-within c u reads =
    let old = c.args.store.now in
    let cleared = c.clear.new.store in
    let clocked = c.give_clocks.new.store in
    let given = c.args.given in
    c.give_pins.ensures.within u
    (within_beside u c.args.gates given old clocked (writes_then given old cleared clocked c.clear.ensures.writes c.give_clocks.ensures.writes) c.requires.apart c.requires.gates.1 reads)
    (c.give_clocks.ensures.within u (zeros_within u cleared given c.clear.ensures.zeros))
