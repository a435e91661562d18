use Rattle.std.proofs.Common.{ℕ, ◌∙◌, arith, ap, false, get_or}
use Rattle.std.proofs.lemmas.Option.{slice_get-get_or, slice_get_within}
use Rattle.bdd_core.proofs.Frames.{rest_then, word_beside, writes_then}
use Rattle.bdd_core.specs.Words.{word_at}
use Rattle.vrt_model.specs.Lists.{At}
use Rattle.vrt_model.specs.declared.ids.Net.{Net}
use Rattle.vrt_model.specs.declared.whole.Drive.TheVariants.{Soft}
use Rattle.vrt_model.specs.declared.whole.WholePin.{WholePin}
use Rattle.whole_steps.proofs.GivenLaws.{others_more, within_beside, words_more}
use Rattle.whole_steps.proofs.given.give_pins.Goals as goal

pub give_pin-requires-clause-within : goal.give_pin-requires-clause-within
give_pin-requires-clause-within c =
    let none : WholePin = record { net = record { 0 = 0 }; signal = 0; drive = Soft; observed = false } in
    c.requires.within (get_or c.args.pins.now c.loop-pin.pin-index none) (c.loop-pin.pin-index, slice_get-get_or c.args.pins.now c.loop-pin.pin-index none c.loop-pin-test.true)

pub loop-pin-preserved : goal.loop-pin-preserved
loop-pin-preserved c =
    let none : WholePin = record { net = record { 0 = 0 }; signal = 0; drive = Soft; observed = false } in
    let pins = c.args.pins.now in
    let gates = c.args.gates in
    let given = c.args.given in
    let i = c.loop-pin.pin-index in
    let one : WholePin = get_or pins i none in
    let there : At pins i one = slice_get-get_or pins i none c.loop-pin-test.true in
    let first = c.args.store.now in
    let old = c.loop-pin.store in
    let new = c.give_pin.new.store in
    let signal : WholePin → ℕ = λ p. p.signal in
    let word : WholePin → ℕ = λ p. word_at first gates p.net.0 in
    let in_range = c.requires.within one (i, there) in
    let here = c.give_pin.ensures.pin ∙ word_beside given gates first old one.net.0 c.loop-pin.invariant.writes c.requires.apart in_range.0 in
    record {
      writes = writes_then given first old new c.loop-pin.invariant.writes c.give_pin.ensures.writes;
      rest = rest_then first old new new.words c.loop-pin.invariant.rest c.give_pin.ensures.rest;
      tied =
          words_more WholePin pins signal word given old new i one there here c.give_pin.ensures.others
          (λ a b m l e. ap (λ (n : Net). word_at first gates n.0) (c.requires.one a b m l e)) c.loop-pin.invariant.tied;
      others = others_more WholePin pins signal word given old new i one there here c.give_pin.ensures.others first c.loop-pin.invariant.others;
      within = λ u reads own.
          c.give_pin.ensures.within u (within_beside u gates given first old c.loop-pin.invariant.writes c.requires.apart c.requires.gates.1 reads) (c.loop-pin.invariant.within u reads own);
    }

pub returns-clause-tied : goal.returns-clause-tied
returns-clause-tied c p m =
    c.loop-pin.invariant.tied m.0 p (let lt = slice_get_within c.args.pins.now m.0 p m.1 in omega (arith, lt, c.loop-pin-test.false)) m.1
