use Rattle.std.proofs.Common.{ℕ, List, Option, refl, subst}
use Rattle.phase_plan.proofs.HeldLaws.{wishes_are}
use Rattle.phase_ports.specs.DontCares.{HaveBitsOf}
use Rattle.phase_terms.specs.Ready.{comparison_in}
use Rattle.phase_plan.proofs.wishes.wishes_of.Goals as goal

pub returns : goal.returns
returns c =
    let k = comparison_in c.args.compared in
    let outputs = c.in_ok-wishes.ensures in
    wishes_are k c.args.phase c.requires.ready c.in_ok-wishes.wishes (outputs.are k (record { design_is = refl; rules_are = refl; cell_is = refl; pairing_is = refl })) outputs.at_ports c.in_ok-bits.bits.items c.in_ok-bits.ensures
    (subst (λ (table : List (Option ℕ)). HaveBitsOf table c.in_ok-wishes.wishes) c.as_slice.ensures.value outputs.free) outputs.few
    c.add_holds.new.wishes c.in_ok-add_holds.ensures
