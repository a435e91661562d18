use Rattle.std.proofs.Common.{Bool, List, ap, ◌∙◌}
use Rattle.std.proofs.lemmas.Result.{IfOk-weaker}
use Rattle.drive_levels.proofs.OneLevelLaws.{one_level_gives}
use Rattle.output_levels.proofs.PartLevelLaws.{in_none}
use Rattle.vrt_model.specs.Lists.{mark_at}
use Rattle.drive_levels.proofs.levels.net_levels.Goals as goal

pub returns-in-Some-clause-writes : goal.returns-in-Some-clause-writes
returns-in-Some-clause-writes c = in_none c.args.out c.args.store.now c.sound.ensures.sound c.sound.ensures.within

pub returns-in-Some-clause-gives : goal.returns-in-Some-clause-gives
returns-in-Some-clause-gives c =
    let circuit = c.args.circuit.now in
    let level = c.in-Some.level in
    let bare_levels = c.write_everywhere.new.levels.items in
    let kept_levels = c.write_everywhere-in-Some.new.levels.items in
    λ phase observed setting roots seen solved of_bare of_kept n inside mark.
    one_level_gives circuit level (c.one_level.ensures.one level c.in-Some.is) phase observed setting c.args.care roots c.args.gates c.args.store.now solved bare_levels kept_levels
    (c.write_everywhere.ensures.len ∙ c.requires.levels.bare) (c.write_everywhere-in-Some.ensures.len ∙ c.requires.levels.kept) c.write_everywhere.ensures.each c.write_everywhere-in-Some.ensures.each
    n inside (seen n (c.are_observed.ensures.seen c.if-are_observed.true n (ap (λ (marks : List Bool). mark_at marks n) c.as_slice.ensures.value ∙ mark)))

pub returns-clause-gives : goal.returns-clause-gives
returns-clause-gives c =
    IfOk-weaker c.solved_levels.result _ _ (λ x told. λ phase observed setting roots seen solved of_bare of_kept n inside mark. told phase observed setting roots solved of_bare of_kept n inside mark) c.solved_levels.ensures.gives
