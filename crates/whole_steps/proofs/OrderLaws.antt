-- The orders of the models of whole instances, one more; and with the outputs by net all that is made of the instances.
use Rattle.std.proofs.Common.{◌≡◌, ℕ, ◌+◌, List, [], ◌∷◌, ◌++◌, length, arith, subst, sym, ◌∙◌, inl, inr}
use Rattle.std.proofs.lemmas.Bool.{cases_eq}
use Rattle.std.proofs.lemmas.List.{length-append}
use Rattle.std.proofs.lemmas.Option.{slice_get_within}
use Rattle.blif_eval.specs.Plans.{IsPlan}
use Rattle.blif_eval.specs.declared.plan.ModelPlan.{ModelPlan}
use Rattle.vrt_model.proofs.Lists.{at_front, at_last, one_at}
use Rattle.vrt_model.specs.Lists.{Among, At}
use Rattle.vrt_model.specs.State.{output_pins}
use Rattle.vrt_model.specs.declared.circuit.Circuit.{Circuit}
use Rattle.vrt_model.specs.declared.whole.Whole.{Whole}
use Rattle.whole_steps.specs.Logic.{IsLogicWhole, nothing_known}
use Rattle.whole_steps.specs.Tables.{AreDrivers, AreOrders, IsWholeTable}
use Rattle.whole_steps.specs.declared.table.OutputPlace.{OutputPlace}
use Rattle.std.specs.Prelude.{Option}

pub orders_more : (wholes : List Whole) (number : ℕ) (orders : List ModelPlan) (w : Whole) (order : ModelPlan) → At wholes number w → IsPlan w.model (nothing_known w.model) order
    → AreOrders wholes number orders → AreOrders wholes (number + 1) (orders ++ order ∷ [])
orders_more wholes number orders w order here is before = record {
  size = (let more = length-append orders (order ∷ []) in let size = before.size in omega (arith, more, size));
  each = λ k x lt at. elim (cases_eq k number) [
    | inl e ↦
        let same : w ≡ x = one_at wholes number w x here (subst (λ (i : ℕ). At wholes i x) e at) in
        let last : At (orders ++ order ∷ []) k order = subst (λ (i : ℕ). At (orders ++ order ∷ []) i order) (before.size ∙ sym e) (at_last orders order) in
        (order, last, subst (λ (y : Whole). IsPlan y.model (nothing_known y.model) order) same is)
    | inr ne ↦ let there = before.each k x (omega (arith, lt, ne)) at in (there.0, at_front orders (order ∷ []) k there.0 there.1, there.2)
  ];
}

-- the outputs by net and the orders are the table of the whole instances
pub whole_table : (c : Circuit) (drivers : List (Option OutputPlace)) (orders : List ModelPlan) → AreDrivers c (output_pins c) drivers → AreOrders c.wholes (length c.wholes) orders
    → ((w : Whole) → Among c.wholes w → IsLogicWhole w) → IsWholeTable c drivers orders
whole_table c drivers orders outputs plans logic = record {
  outputs = outputs;
  plans = λ k w at. plans.each k w (slice_get_within c.wholes k w at) at;
  logic = logic;
}
