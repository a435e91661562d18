use Rattle.std.proofs.Common.{◌≡◌, ◌&&◌, Bool, true, false, arith, ap, sym, ◌∙◌}
use Rattle.bdd_core.proofs.MakesLaws.{makes_none, makes_same}
use Rattle.bdd_core.proofs.Meaning.{meaning_zero}
use Rattle.path_fixpoint.specs.Parts.{is_on_side}
use Rattle.path_fixpoint.specs.Reaching.{offered_end, reached_end}
use Rattle.path_fixpoint.proofs.signals.offers.Goals as goal

pub returns-then-has : goal.returns-then-has
returns-then-has c =
    let d = c.args.store.now in
    let lies : true ≡ is_on_side c.args.side c.args.place = sym c.if-has.true ∙ c.has.ensures in
    makes_same d c.reached.new.store (λ v. reached_end d c.args.roots c.args.out c.args.value c.args.place c.args.net.0 v) (λ v. offered_end d c.args.roots c.args.out c.args.value c.args.side c.args.place c.args.net.0 v) c.reached.result
    (λ v. ap (λ (b : Bool). b && reached_end d c.args.roots c.args.out c.args.value c.args.place c.args.net.0 v) lies) c.reached.ensures

pub returns : goal.returns
returns c =
    let d = c.args.store.now in
    let lies : false ≡ is_on_side c.args.side c.args.place = sym c.if-has.false ∙ c.has.ensures in
    makes_none d (λ v. offered_end d c.args.roots c.args.out c.args.value c.args.side c.args.place c.args.net.0 v) _ c.sound.ensures.sound c.sound.ensures.within
    (record { live = omega (arith, c.sound.ensures.sound.ends); same = λ v. meaning_zero d.nodes v ∙ ap (λ (b : Bool). b && reached_end d c.args.roots c.args.out c.args.value c.args.place c.args.net.0 v) lies })
