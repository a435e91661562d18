use Rattle.std.proofs.Common.{◌<◌, Bool, false, List, ℕ, length, refl, subst, sym}
use Rattle.whole_circuits.specs.Counts.{AreChanged, channels_of}
use Rattle.vrt_model.specs.declared.circuit.Device.{Device}
use Rattle.substitute.proofs.UnderwayLaws.{model_of_trial, place_of_trial, trial_candidate, trial_settled, trial_without}
use Rattle.substitute.specs.Chosen.{cut_of}
use Rattle.substitute.specs.Ranges.{AreSettled}
use Rattle.substitute.proofs.choice.is_right.Goals as goal

pub passes-requires-clause-there : goal.passes-requires-clause-there
passes-requires-clause-there c =
    let s = c.requires.trial in
    subst (λ (l : List Bool). c.args.at < length l) (sym c.as_slice.ensures.value) (subst (λ (n : ℕ). c.args.at < n) (sym s.6.is.has.chosen_are.each) c.requires.there)

pub passes-requires-clause-candidate : goal.passes-requires-clause-candidate
passes-requires-clause-candidate c =
    let s = c.requires.trial in
    let chosen = c.args.chosen.now in
    let channels = chosen.nets.channels.items in
    let less = c.count_channels.new.counts.items in
    let gone = c.devices_gone-gone.ensures s.0 s.1 s.2 s.3 s.5 s.6.is.has.chosen_are.tables_are in
    let without = trial_without c.args.asked s.0 s.1 s.2 c.args.tables s.3 chosen s.4 c.args.pins.now s.6 c.args.at s.5 less c.in_ok-count_channels.ensures.len
    (subst (λ (ds : List Device). AreChanged false (λ n k. length (channels_of k ds n)) channels less) gone
    c.in_ok-count_channels.ensures.is) in (
      cut_of s.0 chosen.whole.items,
      s.1,
      s.2,
      s.3,
      place_of_trial c.args.asked s.0 s.1 s.2 c.args.tables s.3 chosen s.4 c.args.pins.now s.6 c.args.at s.5,
      model_of_trial c.args.asked s.0 s.1 s.2 c.args.tables s.3 chosen s.4 c.args.pins.now s.6 c.args.at s.5,
      trial_candidate c.args.asked s.0 s.1 s.2 c.args.tables s.3 chosen s.4 c.args.pins.now s.6 c.args.at s.5 _ _ c.as_slice.ensures.value refl refl without,
    )

pub returns-clause-right : goal.returns-clause-right
returns-clause-right c t blif facts i own e trial =
    let chosen = c.args.chosen.now in
    let channels = chosen.nets.channels.items in
    let less = c.count_channels.new.counts.items in
    let gone = c.devices_gone-gone.ensures t blif facts i e trial.is.has.chosen_are.tables_are in
    let without = trial_without c.args.asked t blif facts c.args.tables i chosen own c.args.pins.now trial c.args.at e less c.in_ok-count_channels.ensures.len
    (subst (λ (ds : List Device). AreChanged false (λ n k. length (channels_of k ds n)) channels less) gone
    c.in_ok-count_channels.ensures.is) in
    c.in_ok-right.ensures (cut_of t chosen.whole.items) blif facts i (place_of_trial c.args.asked t blif facts c.args.tables i chosen own c.args.pins.now trial c.args.at e)
    (model_of_trial c.args.asked t blif facts c.args.tables i chosen own c.args.pins.now trial c.args.at e)
    (trial_candidate c.args.asked t blif facts c.args.tables i chosen own c.args.pins.now trial c.args.at e _ _ c.as_slice.ensures.value refl refl without)

pub returns-clause-counts : goal.returns-clause-counts
returns-clause-counts c t blif facts i own e trial =
    let chosen = c.args.chosen.now in
    let channels = chosen.nets.channels.items in
    let less = c.count_channels.new.counts.items in
    let new = c.settle.new.channels.items in
    let right = c.in_ok-right.right in
    let gone = c.devices_gone-gone.ensures t blif facts i e trial.is.has.chosen_are.tables_are in
    let without = trial_without c.args.asked t blif facts c.args.tables i chosen own c.args.pins.now trial c.args.at e less c.in_ok-count_channels.ensures.len
    (subst (λ (ds : List Device). AreChanged false (λ n k. length (channels_of k ds n)) channels less) gone
    c.in_ok-count_channels.ensures.is) in
    trial_settled c.args.asked t blif facts c.args.tables i chosen own c.args.pins.now trial c.args.at e right less new without c.in_ok-settle.ensures.len
    (subst (λ (ds : List Device). AreSettled right ds less new) gone
    c.in_ok-settle.ensures.is)
