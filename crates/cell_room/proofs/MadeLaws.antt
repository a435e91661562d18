-- What is made of a planned cell is all that its phases need.
use Rattle.cell_room.specs.Checked.{over}
use Rattle.cell_room.specs.Compared.{comparison}
use Rattle.cell_room.specs.Made.{ArePlansOf, IsMade, IsSearched, made_from}
use Rattle.cell_room.specs.Planned.{IsPlannedCell}
use Rattle.cell_room.specs.Works.{ArePlans}
use Rattle.cell_room.specs.declared.checked.Searched.{Searched}
use Rattle.cell_room.specs.declared.lone.Outputs.{Outputs}
use Rattle.cell_room.specs.declared.planned.Planned.{Planned}
use Rattle.lone_outputs.specs.Lone.{AreLoneBefore, AreOutputNets}
use Rattle.phase_terms.specs.declared.plan.PhasePlan.{PhasePlan}
use Rattle.std.proofs.Common.{List, None, Option, Some, length, map, subst, sym, ℕ, ◌<◌, ◌≡◌}
use Rattle.std.specs.Prelude.{All, unwrap_or}
use Rattle.vrt_model.specs.Comparison.{Comparison}
use Rattle.vrt_model.specs.declared.blif.Blif.{Blif}
use Rattle.vrt_model.specs.declared.circuit.Circuit.{Circuit}
use Rattle.vrt_model.specs.declared.circuit.FlatNet.{FlatNet}
use Rattle.vrt_model.specs.declared.design.Design.{Design}
use Rattle.vrt_model.specs.declared.ids.Net.{Net}
use Rattle.vrt_model.specs.declared.rules.Rules.{Rules}

-- the plans are those of the circuit that is looked through
plans_by : (k : Comparison) (flat : List PhasePlan) → ArePlans k (length k.rules.phases) flat → (checked : Option Circuit) (own : Option (List PhasePlan)) → ArePlansOf k checked own
    → ArePlans (over k (unwrap_or checked k.circuit)) (length k.rules.phases) (unwrap_or own flat)
plans_by k flat are None None of = are
plans_by k flat are (Some c) (Some plans) of = of
plans_by k flat are (Some c) None of = absurd of
plans_by k flat are None (Some plans) of = absurd of

pub made_is : (design : Design) (blif : Blif) (rules : Rules) (cell n : ℕ) (p : Planned) (s : Searched) (o : Outputs) → IsPlannedCell design blif rules cell n p
    → IsSearched (comparison design rules cell p.flattened) p.vars s → (unwrap_or s.checked p.flattened.circuit).nets ≡ p.flattened.circuit.nets
    → AreOutputNets (comparison design rules cell p.flattened) o.nets → All (λ (n : Net). n.0 < length p.flattened.circuit.nets) o.nets
    → AreLoneBefore (comparison design rules cell p.flattened) (length rules.phases) (map (λ (n : Net). n.0) o.nets) o.lone.items → IsMade design blif rules cell (made_from p s o)
made_is design blif rules cell n p s o is found same outputs there lone = record {
  flattened = (n, is.flattened);
  planned = is.planned;
  ready = found.ready;
  wholes = found.wholes;
  vars = found.vars;
  plans = plans_by (comparison design rules cell p.flattened) p.plans is.plans s.checked s.plans found.plans;
  words = found.words;
  few = found.few;
  outputs = outputs;
  there = subst (λ (nets : List FlatNet). All (λ (n : Net). n.0 < length nets) o.nets) (sym same) there;
  lone = lone;
}
