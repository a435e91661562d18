use Rattle.std.proofs.Common.{ℕ, arith, refl, subst}
use Rattle.std.proofs.lemmas.Result.{on_ok_weaker}
use Rattle.substitute.proofs.UnderwayLaws.{suc_of}
use Rattle.substitute.specs.Underway.{AreChosen}
use Rattle.substitute.proofs.choice.try_instance.Goals as goal

pub try_place-requires-clause-reached : goal.try_place-requires-clause-reached
try_place-requires-clause-reached c =
    let s = c.requires.chosen in
    let i = suc_of c.args.at c.requires.there.0 in
    (s.0, s.1, s.2, i.0, i.1, c.in_ok-come_to.ensures c.args.asked s.0 s.1 s.2 c.args.tables i.0 i.1 refl (s.3 i.0 i.1))

pub returns : goal.returns
returns c =
    let i = suc_of c.args.at c.requires.there.0 in
    let at_is = i.1 in
    on_ok_weaker c.try_place.result
    (λ gives t blif facts below j e.
    subst (λ (n : ℕ). AreChosen c.args.asked t blif facts c.args.tables n c.try_place.new.chosen) (omega (arith, at_is, e))
    (gives t blif facts i.0 i.1 (c.in_ok-come_to.ensures c.args.asked t blif facts c.args.tables i.0 i.1 refl (below i.0 i.1)))) c.try_place.ensures
