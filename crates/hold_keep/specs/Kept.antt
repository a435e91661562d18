-- The faults of a net in the kept circuit, by which values reach it.
use Rattle.std.specs.Prelude.{◌≡◌, Bool, true, false, cond, not, ◌&&◌, ◌||◌, length, Result, IfOk, IfErr}
use Rattle.bdd_core.specs.Diagram.{Function}
use Rattle.bdd_core.specs.Store.{AddsNodes, Diagrams, Means}
use Rattle.bdd_core.specs.declared.handle.Spent.{Spent}
use Rattle.vrt_model.specs.Lists.{differ}
use Rattle.vrt_model.specs.Response.{Fight, Float, Response, Shows}
use Rattle.vrt_model.specs.Signals.{response_by}
use Rattle.hold_keep.specs.declared.kept.KeptFaults.{KeptFaults}

abbrev pub is_fight : Response → Bool
is_fight Fight = true
is_fight Float = false
is_fight (Shows v) = false

-- the response is this bit
abbrev pub is_bit : Bool → Response → Bool
is_bit wanted Fight = false
is_bit wanted Float = false
is_bit wanted (Shows v) = not (differ wanted v)

-- where there is care and the response is fight
abbrev pub fight_of : Function → Function → Function → Function
fight_of care zero one = λ v. care v && is_fight (response_by (zero v) (one v))

-- where there is care and the response is not the wanted bit
abbrev pub unsettled_of : Function → Function → Function → Function → Function
unsettled_of care wanted zero one = λ v. care v && not (is_bit (wanted v) (response_by (zero v) (one v)))

-- where the wanted value does not reach the net or the other one does
abbrev pub fails_of : Function → Function → Function → Function
fails_of wanted zero one = λ v. not (cond (wanted v) (one v) (zero v)) || cond (wanted v) (zero v) (one v)

-- nodes were added, and nothing else; the answer has these two functions, or the budget is used up
pub record KeptGive (old new : Diagrams) (fight unsettled : Function) (result : Result KeptFaults Spent) : Type 0 where
  pub adds : AddsNodes old new
  pub ok : IfOk result (λ k. Means new k.fight fight × Means new k.unsettled unsettled)
  pub spent : IfErr result (λ s. (s.nodes ≡ new.budget) × (length new.nodes ≡ new.budget))
