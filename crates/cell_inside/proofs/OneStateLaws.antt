-- One state says all, where each observed net has a bit.
use Rattle.std.proofs.Common.{◌≡◌, ℕ, Bool, true, false, Option, Some, subst, sym, ◌∙◌, ap, inl, inr}
use Rattle.std.specs.Prelude.{◌↔◌}
use Rattle.cell_inside.proofs.OutputPins.{pin_found}
use Rattle.cell_inside.specs.OneState.{IsTotal, OneStateSaysAll}
use Rattle.vrt_model.proofs.Filtered.{device_among}
use Rattle.vrt_model.proofs.GatesGiven.{given_once}
use Rattle.vrt_model.proofs.Laws.{one_response}
use Rattle.vrt_model.proofs.SameNetwork.{IsPartOf, response_same}
use Rattle.vrt_model.specs.Reading.{conducts_at}
use Rattle.vrt_model.specs.Response.{IsResponse, Response, Shows}
use Rattle.vrt_model.specs.Solution.{Agrees, AlwaysResponds}
use Rattle.vrt_model.specs.State.{IsState, Setting, State, network_of}
use Rattle.vrt_model.specs.declared.circuit.Circuit.{Circuit}
use Rattle.vrt_model.specs.declared.rules.Phase.{Phase}

shows_same : (v u : Bool) → Shows v ≡ Shows u → v ≡ u
shows_same v u e = ap value e
  where
    value : Response → Bool
    value (Shows x) = x
    value other = false

module _ (c : Circuit) (phase : Phase) (observed : ℕ → Bool) (setting : Setting) (a : ℕ → Option Bool) (total : IsTotal c phase observed setting a) where
  part_of : (bare : Bool) (s t : State) → IsState c phase setting.inputs s → IsState c phase setting.inputs t → Agrees observed a s.reading → Agrees observed a t.reading
      → IsPartOf (network_of c bare setting.held s) (network_of c bare setting.held t)
  part_of bare s t is it as' at' = record {
    roots = λ root r. elim r [
      | inl g ↦ inl (g.0, g.1, g.2, g.3, g.4 ∙ given_once phase setting.inputs g.0.kind root.net (s.reading root.net) (t.reading root.net) g.2 (is.reading root.net g.0 g.1) (it.reading root.net g.0 g.1))
      | inr other ↦ elim other [
        | inl h ↦ inr (inl h)
        | inr o ↦
            let out = pin_found c o.0 o.1 o.2 in
            inr (inr (o.0, o.1, o.2, o.3, o.4, o.5 ∙ total.pins s t is it as' at' o.0 out.0 out.1))
      ]
    ];
    devices = λ d on.
        let gate = total.gates d (device_among bare c d on.0).0 in
        let bit = total.bits d.gate.0 gate in
        let same : s.reading d.gate.0 ≡ t.reading d.gate.0 = as' d.gate.0 bit.0 gate bit.1 ∙ sym (at' d.gate.0 bit.0 gate bit.1) in
        (on.0, subst (λ (b : Bool). conducts_at d.kind b ≡ true) same on.1);
  }

  pub always : (s : State) → IsState c phase setting.inputs s → Agrees observed a s.reading → (bare : Bool) (n : ℕ) (r : Response)
      → AlwaysResponds c phase observed setting a bare n r ↔ IsResponse (network_of c bare setting.held s) n r
  always s is agrees bare n r = (
    λ h. h s is agrees,
    λ h t it agrees_t. response_same (network_of c bare setting.held s) (network_of c bare setting.held t)
        (part_of bare s t is it agrees agrees_t) (part_of bare t s it is agrees_t agrees) n r h,
  )

pub one_state_says_all : OneStateSaysAll
one_state_says_all c phase observed setting a s total is agrees = (
  always c phase observed setting a total s is agrees,
  (
    λ solves n v seen e. (always c phase observed setting a total s is agrees true n (Shows v)).0 ((solves n v seen).0 e),
    λ shows n v seen. (
      λ e. (always c phase observed setting a total s is agrees true n (Shows v)).1 (shows n v seen e),
      λ h.
          let bit = total.bits n seen in
          let here = shows n bit.0 seen bit.1 in
          let there = (always c phase observed setting a total s is agrees true n (Shows v)).0 h in
          let same = shows_same bit.0 v (one_response (network_of c true setting.held s) n (Shows bit.0) (Shows v) here there) in
          bit.1 ∙ ap (λ (x : Bool). Some x) same,
    ),
  ),
)
