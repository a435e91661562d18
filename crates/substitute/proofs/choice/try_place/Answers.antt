use Rattle.std.proofs.Common.{ℕ, subst}
use Rattle.std.proofs.lemmas.Result.{on_ok_weaker}
use Rattle.vrt_model.specs.Lists.{At}
use Rattle.substitute.proofs.UnderwayLaws.{has_entry_there, left_without_entry}
use Rattle.substitute.proofs.choice.try_place.Goals as goal

pub try_whole-requires-clause-chosen : goal.try_whole-requires-clause-chosen
try_whole-requires-clause-chosen c =
    let s = c.requires.reached in
    let here = subst (λ (n : ℕ). At c.args.tables.unrolled.now.places n c.place_at.result.now) s.4 c.place_at.ensures in
    (s.0, s.1, s.2, s.3, s.4, has_entry_there c.args.asked s.0 s.1 s.2 c.args.tables s.3 c.args.chosen.now c.in-Some.own.now c.place_at.result.now s.5 here c.in-Some.ensures)

pub returns-in-Some : goal.returns-in-Some
returns-in-Some c =
    on_ok_weaker c.try_whole.result
    (λ gives t blif facts i e reached.
    gives t blif facts i e
    (has_entry_there c.args.asked t blif facts c.args.tables i c.args.chosen.now c.in-Some.own.now c.place_at.result.now reached
    (subst (λ (n : ℕ). At c.args.tables.unrolled.now.places n c.place_at.result.now) e c.place_at.ensures) c.in-Some.ensures)) c.try_whole.ensures

pub returns-in-None : goal.returns-in-None
returns-in-None c t blif facts i e reached =
    left_without_entry c.args.asked t blif facts c.args.tables i c.args.chosen.now c.place_at.result.now reached
    (subst (λ (n : ℕ). At c.args.tables.unrolled.now.places n c.place_at.result.now) e c.place_at.ensures) c.in-None.ensures
