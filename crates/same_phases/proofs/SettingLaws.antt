-- Cells without holds: the settings of a valuation in two phases, and so the bits of two equal phases.
use Rattle.std.proofs.Common.{◌≡◌, ℕ, Bool, List, [], ap, refl, sym, subst, ◌∙◌}
use Rattle.std.specs.Prelude.{find, map, ◌==◌}
use Rattle.std.specs.List.{enumerate_from}
use Rattle.vrt_model.proofs.Lists.{filter_map_none}
use Rattle.vrt_model.specs.Comparison.{Comparison}
use Rattle.vrt_model.specs.Constraints.{Meets}
use Rattle.vrt_model.specs.Equal.{Agree, IsPhaseEqual}
use Rattle.vrt_model.specs.Faults.{Solves}
use Rattle.vrt_model.specs.Groups.{Placed, group_of, groups_of, holds_by_net, leaders, placed}
use Rattle.vrt_model.specs.Held.{setting_of}
use Rattle.vrt_model.specs.Reading.{Partial}
use Rattle.vrt_model.specs.State.{Setting}
use Rattle.vrt_model.specs.Variables.{variables_of}
use Rattle.vrt_model.specs.declared.circuit.Circuit.{Circuit}
use Rattle.vrt_model.specs.declared.circuit.FlatNet.{FlatNet}
use Rattle.vrt_model.specs.declared.circuit.Hold.{Hold}
use Rattle.vrt_model.specs.declared.flat_model.FlatModel.{FlatModel}
use Rattle.vrt_model.specs.declared.groups.Group.{Group as HoldGroup}
use Rattle.same_phases.proofs.PhaseLaws.{unclocked_phases_are_alike}
use Rattle.same_phases.specs.Phases.{AreAlike, IsStateless, IsTheSolution, IsUnclocked}

-- a circuit without holds has no groups
pub no_groups : (c : Circuit) (flat : FlatModel) → c.holds ≡ [] → groups_of c flat ≡ []
unfolding groups_of
no_groups c flat none =
    let make : ℕ × Hold → Placed = λ p. record { place = p.0; hold = p.1 } in
    let unplaced : placed c ≡ [] = ap (λ (hs : List Hold). map make (enumerate_from 0 hs)) none in
    let unlisted : holds_by_net c ≡ [] =
    filter_map_none (λ (p : ℕ × FlatNet). find (λ (h : Placed). h.hold.net.0 == p.0) (placed c)) (enumerate_from 0 c.nets) (λ p. ap (find (λ (h : Placed). h.hold.net.0 == p.0)) unplaced) in
    ap (λ (hs : List Placed). map (λ (h : Placed). group_of c flat h.hold.end) (leaders hs)) unlisted

-- without groups no variable depends on the phase, and no hold has a bit
setting_without : (k : Comparison) (p q : ℕ) (bits : List Bool) → setting_of (record k { groups = [] }) p bits ≡ setting_of (record k { groups = [] }) q bits
unfolding setting_of variables_of
setting_without k p q bits = refl

pub stateless_settings_are_alike : (k : Comparison) (p q : ℕ) (bits : List Bool) → IsStateless k → setting_of k p bits ≡ setting_of k q bits
stateless_settings_are_alike k p q bits none =
    let empty : k.groups ≡ [] = none.groups ∙ no_groups k.circuit k.model none.holds in
    subst (λ (gs : List HoldGroup). setting_of (record k { groups = gs }) p bits ≡ setting_of (record k { groups = gs }) q bits) (sym empty) (setting_without k p q bits)

the_solution : (k : Comparison) (phase : ℕ) (s : Setting) (a : Partial) → Agree k phase s → Solves k phase s a → IsTheSolution k phase s a
the_solution k phase s a agree solves = record { solves = solves; one = λ b other. agree.one_solution a b solves other; defined = agree.defined a solves }

pub equal_phases_are_alike : (k : Comparison) (p q : ℕ) (bits : List Bool) (a b : Partial)
    → IsUnclocked k.circuit → IsStateless k → IsPhaseEqual k p → IsPhaseEqual k q → Meets k p bits → Meets k q bits
    → Solves k p (setting_of k p bits) a → Solves k q (setting_of k q bits) b → AreAlike k p q a b
equal_phases_are_alike k p q bits a b free none equal_p equal_q meets_p meets_q solves_a solves_b =
    let one = the_solution k p (setting_of k p bits) a (equal_p.agree bits meets_p) solves_a in
    let two = the_solution k q (setting_of k q bits) b (equal_q.agree bits meets_q) solves_b in
    unclocked_phases_are_alike k p q (setting_of k p bits) a b free one
    (subst (λ (s : Setting). IsTheSolution k q s b) (sym (stateless_settings_are_alike k p q bits none)) two)
