use Rattle.std.proofs.Common.{Bool, List, ℕ, ◌<◌, ap, length, subst, sym, ◌∙◌}
use Rattle.std.proofs.lemmas.Result.{on_ok_weaker}
use Rattle.vrt_model.specs.Lists.{mark_at}
use Rattle.substitute.proofs.UnderwayLaws.{left_inside, marked_at}
use Rattle.substitute.proofs.choice.try_whole.Goals as goal

pub returns-then-inside : goal.returns-then-inside
returns-then-inside c t blif facts i e has =
    let chosen = c.args.chosen.now in
    left_inside c.args.asked t blif facts c.args.tables i chosen has.chosen_are (subst (λ (n : ℕ). n < length c.args.tables.unrolled.now.places) e c.requires.there)
    (ap (mark_at chosen.inside.items) (sym e) ∙ sym (ap (λ (l : List Bool). mark_at l c.args.at) c.as_slice.ensures.value) ∙ sym c.is_marked-inside.ensures ∙ c.if-inside.true)

pub returns : goal.returns
returns c =
    let chosen = c.args.chosen.now in
    on_ok_weaker c.try_outside.result
    (λ gives t blif facts i e has.
    gives t blif facts i e
    (record {
      has = has;
      outside = λ p there.
          marked_at c.args.asked t blif facts c.args.tables i chosen has.chosen_are p there
          ∙ (ap (mark_at chosen.inside.items) (sym e) ∙ sym (ap (λ (l : List Bool). mark_at l c.args.at) c.as_slice.ensures.value) ∙ sym c.is_marked-inside.ensures ∙ c.if-inside.false);
    })) c.try_outside.ensures
