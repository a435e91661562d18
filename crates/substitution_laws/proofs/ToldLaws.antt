-- The circuits of a chain, and those of supported cells, are such that it can be told what is known in them.
use Rattle.std.proofs.Common.{◌≡◌, ℕ, suc, ◌<◌, not, true, List, length, Option, Some, None, refl, ap, sym, ◌∙◌, inl, inr}
use Rattle.std.specs.Prelude.{option_map, slice_get, unwrap_or}
use Rattle.std.proofs.lemmas.Bool.{cases_Bool, false≢true}
use Rattle.checked_chain.specs.Holds.{AreEndsShown, IsEndShown}
use Rattle.known_nets.proofs.WiredLaws.{flat_wired}
use Rattle.known_nets.specs.Wired.{IsWired}
use Rattle.substitution_laws.proofs.EndsLaws.{chosen_ends_are_shown}
use Rattle.substitution_laws.proofs.FormedCells.{formed_cell}
use Rattle.substitution_laws.proofs.WholeCells.{inside_of_all, wholes_are_determined}
use Rattle.substitution_laws.proofs.WholeRanges.{circuits_have_ranges}
use Rattle.substitution_laws.specs.Agreement.{IsCheckedByFacts}
use Rattle.substitution_laws.specs.Chosen.{IsChoiceByFacts}
use Rattle.vrt_model.specs.Checked.{IsCircuitWith, before, with_circuit}
use Rattle.vrt_model.specs.Comparison.{Comparison, is_observed, phase_at}
use Rattle.vrt_model.specs.Cut.{Cut, is_inside_whole, is_instance_shown}
use Rattle.vrt_model.specs.FlatCircuit.{flat_circuit_of}
use Rattle.vrt_model.specs.Unrolled.{Place, all_places}
use Rattle.vrt_model.specs.Unsupported.{IsSupported, comparison_of}
use Rattle.vrt_model.specs.declared.blif.Blif.{Blif}
use Rattle.vrt_model.specs.declared.circuit.Circuit.{Circuit}
use Rattle.vrt_model.specs.declared.circuit.HoldEnd.{HoldEnd}
use Rattle.vrt_model.specs.declared.circuit.HoldEnd.TheVariants.{Own, Latch}
use Rattle.vrt_model.specs.declared.whole.CellFacts.{CellFacts}
use Rattle.whole_ranks.proofs.SolvedLaws.{determined_wired}

-- ---- ends

-- what is shown where more instances are whole is shown where fewer are
shown_before : (cut : Cut) (n i : ℕ) → is_instance_shown cut i ≡ true → is_instance_shown (before cut n) i ≡ true
shown_before cut n i e = by_place (slice_get (all_places cut.top) (suc i)) e
  where
    by_place : (o : Option Place) → unwrap_or (option_map (λ (at : Place). not (is_inside_whole cut at)) o) true ≡ true → unwrap_or (option_map (λ (at : Place). not (is_inside_whole (before cut n) at)) o) true ≡ true
    by_place None f = refl
    by_place (Some at) f =
        elim (cases_Bool (is_inside_whole (before cut n) at)) [
          | inr out ↦ ap not out
          | inl inside ↦ absurd (false≢true (sym (ap not (inside_of_all cut n at inside)) ∙ f))
        ]

pub ends_before : (cut : Cut) (n : ℕ) → AreEndsShown cut → AreEndsShown (before cut n)
ends_before cut n ends hold on = by_end hold.end (ends hold on)
  where
    by_end : (e : HoldEnd) → IsEndShown cut e → IsEndShown (before cut n) e
    by_end (Own net) there = tt
    by_end (Latch None element) there = tt
    by_end (Latch (Some i) element) there = shown_before cut n i there

-- ---- outputs at plain nets

-- the outputs of whole instances are at plain nets in each circuit of the chain
pub chain_wired : (k : Comparison) (cut : Cut) (blif : Blif) (facts : List CellFacts) (c : Circuit) → IsCheckedByFacts k cut blif facts c
    → (n phase : ℕ) (d : Circuit) → IsCircuitWith (before cut n) blif facts d → phase < length cut.top.rules.phases → IsWired d
chain_wired k cut blif facts c h n phase d circuit lt =
    determined_wired d (phase_at cut.top.rules phase) (is_observed (with_circuit k d) phase)
    (circuits_have_ranges cut blif facts n d h.choice h.formed (ends_before cut n (chosen_ends_are_shown cut blif facts h.choice)) circuit)
    (wholes_are_determined k cut blif facts phase n d h.top h.choice lt circuit)

-- and in each supported cell, which has none
pub cell_wired : (cut : Cut) (blif : Blif) (facts : List CellFacts) (cell m : ℕ) → IsChoiceByFacts cut blif facts → IsSupported cut.top.design blif cut.top.rules cell m
    → IsWired (comparison_of cut.top.design blif cut.top.rules cell m).circuit
unfolding flat_circuit_of
cell_wired cut blif facts cell m h supported =
    let formed = (formed_cell cut blif facts cell m h supported).circuit in
    flat_wired (comparison_of cut.top.design blif cut.top.rules cell m).circuit (record { wholes = refl; devices = formed.devices; holds = formed.holds })
