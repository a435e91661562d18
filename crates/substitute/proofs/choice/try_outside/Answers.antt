use Rattle.std.proofs.Common.{All, Bool, true, Global, ℕ, List, Vec, suc, ◌<◌, ◌||◌, ap, length, subst, sym, ◌∙◌}
use Rattle.std.specs.Prelude.{◌==◌}
use Rattle.vrt_model.specs.Lists.{At, mark_at}
use Rattle.vrt_model.specs.declared.whole.WholePin.{WholePin}
use Rattle.substitute.proofs.UnderwayLaws.{left_out, next_trial, same_chosen, trial_chosen, trial_within}
use Rattle.substitute.specs.Chosen.{IsRightly, cut_of}
use Rattle.substitute.specs.Ranges.{with_chosen}
use Rattle.substitute.specs.Taken.{TakesPins}
use Rattle.substitute.specs.Underway.{AreChosen, AreCountsOf}
use Rattle.whole_circuits.specs.declared.taken.Taken.{Taken}
use Rattle.substitute.specs.declared.choice.Chosen.{Chosen}
use Rattle.substitute.proofs.choice.try_outside.Goals as goal
use Rattle.substitute.proofs.choice.try_outside.Goals.{else-right, then-right}

pub is_right-requires-clause-trial : goal.is_right-requires-clause-trial
is_right-requires-clause-trial c =
    let s = c.requires.outside in
    let trial = next_trial c.args.asked s.0 s.1 s.2 c.args.tables s.3 c.args.chosen.now c.args.own.now s.5 c.place_at.result.now c.as_slice.result.now c.as_slice-nets.result.now c.as_slice-2.result.now c.in_ok-pins.pins
    c.as_slice-3.result.now (subst (λ (n : ℕ). At c.args.tables.unrolled.now.places n c.place_at.result.now) s.4 c.place_at.ensures) c.as_slice.ensures.value c.as_slice-nets.ensures c.as_slice-2.ensures c.as_slice-3.ensures c.in_ok-pins.ensures in
    (s.0, s.1, s.2, s.3, c.args.own.now, s.4, trial)

pub choose-requires-clause-nets : goal.choose-requires-clause-nets
choose-requires-clause-nets c =
    let s = c.requires.outside in
    let trial = next_trial c.args.asked s.0 s.1 s.2 c.args.tables s.3 c.args.chosen.now c.args.own.now s.5 c.place_at.result.now c.as_slice.result.now c.as_slice-nets.result.now c.as_slice-2.result.now c.in_ok-pins.pins
    c.as_slice-3.result.now (subst (λ (n : ℕ). At c.args.tables.unrolled.now.places n c.place_at.result.now) s.4 c.place_at.ensures) c.as_slice.ensures.value c.as_slice-nets.ensures c.as_slice-2.ensures c.as_slice-3.ensures c.in_ok-pins.ensures in
    let right = subst (λ (b : Bool). IsRightly c.args.asked (cut_of s.0 c.args.chosen.now.whole.items) s.1 s.2 s.3 b) c.if-right.true (c.in_ok-right.ensures.right s.0 s.1 s.2 s.3 c.args.own.now s.4 trial) in
    let within = trial_within c.args.asked s.0 s.1 s.2 c.args.tables s.3 c.args.chosen.now c.args.own.now c.as_slice-3.result.now trial c.args.at s.4 right in
    subst (λ (v : Vec Taken Global). All (λ (q : WholePin). q.net.0 < length v.items) c.as_slice-then-right.result.now) (sym c.in_ok-right.ensures.taken)
    (subst (λ (l : List WholePin). All (λ (q : WholePin). q.net.0 < length c.args.chosen.now.nets.taken.items) l) (c.as_slice-3.ensures ∙ sym c.as_slice-then-right.ensures) within)

pub returns : goal.returns
returns c t blif facts i e out =
    let chosen = c.args.chosen.now in
    let list = c.as_slice-3.result.now in
    let trial = next_trial c.args.asked t blif facts c.args.tables i chosen c.args.own.now out c.place_at.result.now c.as_slice.result.now c.as_slice-nets.result.now c.as_slice-2.result.now c.in_ok-pins.pins
    list (subst (λ (n : ℕ). At c.args.tables.unrolled.now.places n c.place_at.result.now) e c.place_at.ensures) c.as_slice.ensures.value c.as_slice-nets.ensures c.as_slice-2.ensures c.as_slice-3.ensures c.in_ok-pins.ensures in
    let told = c.in_ok-right.ensures.right t blif facts i c.args.own.now e trial in
    let counted = c.in_ok-right.ensures.counts t blif facts i c.args.own.now e trial in
    let same = c.in_ok-right.ensures in
    elim c.if-right.branch [
      | then-right w ↦
          let right = subst (λ (b : Bool). IsRightly c.args.asked (cut_of t chosen.whole.items) blif facts i b) w.if-right.true told in
          let new = w.choose.new.chosen in
          subst (λ (x : Chosen). AreChosen c.args.asked t blif facts c.args.tables (suc i) x) (sym w.chosen-is)
          (trial_chosen c.args.asked t blif facts c.args.tables i chosen c.args.own.now list trial c.args.at e new.whole.items
          (λ n. w.choose.ensures.whole n ∙ ap (λ (v : Vec Bool Global). mark_at v.items n || c.args.at == n) same.whole) new.inside.items new.nets.held.items new.nets.taken.items new.nets.channels.items
          (w.choose.ensures.each ∙ ap (λ (v : Vec Bool Global). length v.items) same.whole) right (ap (λ (v : Vec Bool Global). v.items) (w.choose.ensures.inside ∙ same.inside))
          (ap (λ (v : Vec Bool Global). v.items) (w.choose.ensures.held ∙ same.held))
          (w.choose.ensures.room ∙ ap (λ (v : Vec Taken Global). length v.items) same.taken)
          (subst (λ (v : Vec Taken Global). TakesPins list v.items new.nets.taken.items) same.taken
          (subst (λ (ps : List WholePin). TakesPins ps c.is_right.new.chosen.nets.taken.items new.nets.taken.items) (w.as_slice-then-right.ensures ∙ sym c.as_slice-3.ensures) w.choose.ensures.taken))
          (subst (λ (v : Vec ℕ Global). AreCountsOf (with_chosen true (cut_of t chosen.whole.items) i) (length c.args.tables.flat.now.nets) v.items) (sym w.choose.ensures.channels)
          (subst (λ (b : Bool). AreCountsOf (with_chosen b (cut_of t chosen.whole.items) i) (length c.args.tables.flat.now.nets) c.is_right.new.chosen.nets.channels.items) w.if-right.true counted)))
      | else-right w ↦
          let right = subst (λ (b : Bool). IsRightly c.args.asked (cut_of t chosen.whole.items) blif facts i b) w.if-right.false told in
          subst (λ (x : Chosen). AreChosen c.args.asked t blif facts c.args.tables (suc i) x) (sym w.chosen-is)
          (same_chosen c.args.asked t blif facts c.args.tables (suc i) chosen c.is_right.new.chosen same.whole same.inside same.held same.taken
          (subst (λ (b : Bool). AreCountsOf (with_chosen b (cut_of t chosen.whole.items) i) (length c.args.tables.flat.now.nets) c.is_right.new.chosen.nets.channels.items) w.if-right.false counted)
          (left_out c.args.asked t blif facts c.args.tables i chosen out.has.chosen_are right))
    ]
