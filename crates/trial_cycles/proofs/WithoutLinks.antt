-- The arcs of a circuit with its links and without them.
use Rattle.std.proofs.Common.{ℕ, List, subst, sym}
use Rattle.checked_chain.proofs.GateArcs.{gate_there, known_there, together_there, without, without_is}
use Rattle.vrt_model.specs.Checked.{IsCircuitWith, circuit_with}
use Rattle.vrt_model.specs.Cut.{Cut}
use Rattle.vrt_model.specs.Known.{HasGateArc, IsTogether, itself, onward}
use Rattle.vrt_model.specs.Reading.{bare}
use Rattle.vrt_model.specs.declared.blif.Blif.{Blif}
use Rattle.vrt_model.specs.declared.circuit.Circuit.{Circuit}
use Rattle.vrt_model.specs.declared.rules.Phase.{Phase}
use Rattle.vrt_model.specs.declared.whole.CellFacts.{CellFacts}

module _ (c : Circuit) (phase : Phase) where
  together_linked : {n m : ℕ} → IsTogether (without c) phase bare n m → IsTogether c phase bare n m
  together_linked (itself p) = itself p
  together_linked (onward d t channel joins p) = onward d (together_linked t) (channel.0, λ v known. channel.1 v (known_there c phase known)) joins p

  gate_back : (a b : ℕ) → HasGateArc (without c) phase a b → HasGateArc c phase a b
  gate_back a b h =
      (h.0, (h.1.0, h.1.1, together_linked h.1.2, (h.1.3.0, λ v known. h.1.3.1 v (known_there c phase known)), h.1.4), h.2, λ v known. h.3 v (known_there c phase known))

module _ (cut : Cut) (blif : Blif) (facts : List CellFacts) (c : Circuit) (h : IsCircuitWith cut blif facts c) (phase : Phase) where
  pub gate_in : (a b : ℕ) → HasGateArc (circuit_with cut blif facts) phase a b → HasGateArc c phase a b
  gate_in a b arc = gate_back c phase a b (subst (λ (d : Circuit). HasGateArc d phase a b) (sym (without_is cut blif facts c h)) arc)

  pub gate_out : (a b : ℕ) → HasGateArc c phase a b → HasGateArc (circuit_with cut blif facts) phase a b
  gate_out a b arc = subst (λ (d : Circuit). HasGateArc d phase a b) (without_is cut blif facts c h) (gate_there c phase a b arc)

  pub together_in : (a b : ℕ) → IsTogether (circuit_with cut blif facts) phase bare a b → IsTogether c phase bare a b
  together_in a b t = together_linked c phase (subst (λ (d : Circuit). IsTogether d phase bare a b) (sym (without_is cut blif facts c h)) t)

  pub together_out : (a b : ℕ) → IsTogether c phase bare a b → IsTogether (circuit_with cut blif facts) phase bare a b
  together_out a b t = subst (λ (d : Circuit). IsTogether d phase bare a b) (without_is cut blif facts c h) (together_there c phase t)
