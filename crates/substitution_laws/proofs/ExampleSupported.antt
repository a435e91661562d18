-- The two cells of the example are supported.
use Rattle.std.proofs.Common.{◌≡◌, ◌⊎◌, ℕ, zero, suc, ◌<◌, Bool, true, false, List, [], ◌∷◌, Option, None, refl, ap, sym, ◌∙◌, subst, arith, inl, inr}
use Rattle.std.specs.Prelude.{codes}
use Rattle.std.proofs.lemmas.Bool.{false≢true}
use Rattle.std.proofs.lemmas.Option.{none-some, same_Some}
use Rattle.substitution_laws.proofs.ExampleArcs.{flat_acyclic, inverter_acyclic}
use Rattle.substitution_laws.proofs.ExampleCells.{blif, buffer_is, design, inverter_is, model}
use Rattle.substitution_laws.proofs.LoneNets.{rising_arcs_are_acyclic}
use Rattle.vrt_model.proofs.Cells.{base, cover}
use Rattle.vrt_model.specs.Comparison.{Comparison, default_clock_bit, phase_at}
use Rattle.vrt_model.specs.FlatBlif.{all_models, flat_model_of, signals_of, network_names, unrolled_of}
use Rattle.vrt_model.specs.FlatCircuit.{flat_circuit_of}
use Rattle.vrt_model.specs.Groups.{groups_of}
use Rattle.vrt_model.specs.Lists.{At}
use Rattle.vrt_model.specs.ModelArcs.{HasModelArc, carried_bits}
use Rattle.vrt_model.specs.PairedPorts.{Missing, Model, Paired, Skipped, paired_model, pairing_of, ports_fault}
use Rattle.vrt_model.specs.Unrolled.{all_places, global_nets, net_at, own_nets}
use Rattle.vrt_model.specs.Unsupported.{CircuitArc, IsAcyclic, IsSupported, ModelArc, why_paired}
use Rattle.vrt_model.specs.Variables.{variables_of}
use Rattle.vrt_model.specs.declared.flat_model.Cover.{Cover}

-- ---- which cells pair

number_of : Paired → ℕ
number_of (Model m) = m
number_of Skipped = 2
number_of Missing = 2

has_model : Paired → Bool
has_model (Model m) = true
has_model Skipped = false
has_model Missing = false

-- each cell pairs with the model of its own number, and no other cell with any
pub own_model : (cell m : ℕ) → paired_model design blif base cell ≡ Model m → ((cell ≡ 0) × (m ≡ 0)) ⊎ ((cell ≡ 1) × (m ≡ 1))
unfolding number_of has_model
own_model zero m e = inl (refl, ap number_of (sym e))
own_model (suc zero) m e = inr (refl, ap number_of (sym e))
own_model (suc (suc cell)) m e = absurd (false≢true (ap has_model e))

inverter_early : why_paired design blif base 0 0 ≡ None
unfolding flat_circuit_of all_places net_at own_nets global_nets flat_model_of unrolled_of network_names all_models signals_of pairing_of groups_of variables_of ports_fault
inverter_early = refl

buffer_early : why_paired design blif base 1 1 ≡ None
unfolding flat_circuit_of all_places net_at own_nets global_nets flat_model_of unrolled_of network_names all_models signals_of pairing_of groups_of variables_of ports_fault
buffer_early = refl

-- ---- nothing stands in the way of them

model_acyclic : (row : List ℕ) (given : ℕ → Option Bool) (default_clock : Option Bool) → IsAcyclic (HasModelArc (model row) given default_clock)
model_acyclic row given default_clock = rising_arcs_are_acyclic (HasModelArc (model row) given default_clock) (λ n. n) rises
  where
    at_input : (n m j : ℕ) → At (0 ∷ []) j n → m ≡ 1 → n < m
    at_input n m zero f to = (let same = same_Some 0 n f in omega (arith, same, to))
    at_input n m (suc j) f to = absurd (none-some n f)

    at_cover : (n m i j : ℕ) (cover : Cover) → At (model row).covers i cover → At cover.inputs j n → m ≡ cover.output → n < m
    at_cover n m zero j cover e f to = at_input n m j (subst (λ (ns : List ℕ). At ns j n) (ap (λ (c : Cover). c.inputs) (sym (same_Some _ cover e))) f) (to ∙ ap (λ (c : Cover). c.output) (sym (same_Some _ cover e)))
    at_cover n m (suc i) j cover e f to = absurd (none-some cover e)

    rises : (n m : ℕ) → HasModelArc (model row) given default_clock n m → n < m
    rises n m (inl (cover, on, there, to)) = at_cover n m on.0 there.0 cover on.1 there.1 to
    rises n m (inr (inl latched)) = absurd (none-some latched.0 latched.1.1)
    rises n m (inr (inr (inl latched))) = absurd (none-some latched.0 latched.1.1)
    rises n m (inr (inr (inr latched))) = absurd (none-some latched.0 latched.1.1)

pub inverter_supported : IsSupported design blif base 0 0
inverter_supported = record {
  paired = refl;
  early = inverter_early;
  acyclic = λ p lt.
      subst (λ (k : Comparison). IsAcyclic (CircuitArc k p) × IsAcyclic (ModelArc k p)) (sym inverter_is)
      (inverter_acyclic (phase_at base p), model_acyclic (codes "0") (carried_bits (phase_at base p) []) (default_clock_bit base (phase_at base p)));
}

pub buffer_supported : IsSupported design blif base 1 1
buffer_supported = record {
  paired = refl;
  early = buffer_early;
  acyclic = λ p lt.
      subst (λ (k : Comparison). IsAcyclic (CircuitArc k p) × IsAcyclic (ModelArc k p)) (sym buffer_is)
      (flat_acyclic (phase_at base p), model_acyclic (codes "1") (carried_bits (phase_at base p) []) (default_clock_bit base (phase_at base p)));
}
