use Rattle.std.proofs.Common.{◌≡◌, ℕ, ◌+◌, suc, arith, subst, sym}
use Rattle.std.proofs.lemmas.Result.{on_ok_weaker}
use Rattle.net_places.specs.declared.whole.Unrolled.{Unrolled}
use Rattle.whole_circuits.specs.Insides.{AreMarkedBefore, IsCutAt}
use Rattle.substitute.proofs.UnderwayLaws.{comes_to}
use Rattle.substitute.proofs.choice.come_to.Goals as goal

pub returns : goal.returns
returns c =
    let at = c.args.at in
    on_ok_weaker c.add_inside.result
    (λ gives asked t blif facts tables i e same is.
    comes_to asked t blif facts tables i c.args.chosen.now c.add_inside.new.inside.items is
    (λ cut there marked.
    (let next : at + 1 ≡ suc (suc i) = omega (arith, e) in
    subst (λ (n : ℕ). AreMarkedBefore cut n c.add_inside.new.inside.items) next
    (gives cut (subst (λ (u : Unrolled). IsCutAt cut u c.as_slice.result.now) same (subst (IsCutAt cut tables.unrolled.now) (sym c.as_slice.ensures.value) there))
    (subst (λ (n : ℕ). AreMarkedBefore cut n c.args.chosen.now.inside.items) (sym e) marked))))) c.add_inside.ensures.are
