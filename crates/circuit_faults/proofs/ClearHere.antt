-- A clear circuit, in the store as the search over its steps leaves it.
use Rattle.std.proofs.Common.{◌≡◌, ℕ, ◌<◌, Bool, List, Option, length, sym, ◌∙◌}
use Rattle.std.proofs.lemmas.Option.{slice_get_within}
use Rattle.node_pool.specs.declared.region.Span.{Span}
use Rattle.bdd_core.specs.Diagram.{Valuation}
use Rattle.bdd_core.specs.Store.{Diagrams, IsLive, function_of}
use Rattle.bdd_core.specs.Words.{shows}
use Rattle.bdd_core.specs.declared.handle.H.{H}
use Rattle.channel_parts.specs.declared.part.Part.{Part}
use Rattle.circuit_faults.proofs.CircuitLaws.{net_roots_kept}
use Rattle.circuit_faults.specs.Faults.{IsSettingAt, IsSolvedAt}
use Rattle.circuit_faults.specs.Results.{HasCircuitSpans, IsClearCircuit, WritesThree, output_span, root_at}
use Rattle.vrt_model.proofs.Members.{all_among}
use Rattle.vrt_model.specs.Circuits.{IsHold}
use Rattle.vrt_model.specs.Networks.{HasRanges}
use Rattle.vrt_model.specs.State.{Setting}
use Rattle.vrt_model.specs.declared.circuit.Circuit.{Circuit}
use Rattle.vrt_model.specs.declared.rules.Phase.{Phase}

module _ (c : Circuit) (phase : Phase) (observed : ℕ → Bool) (ranges : HasRanges c) (parts : List Part) (care : H) (roots gates out : Span) (first now : Diagrams)
    (writes : WritesThree (output_span c roots) gates out first now) (spans : HasCircuitSpans c parts roots gates out first) (live : IsLive first care) where
  care_kept : (v : Valuation) → function_of now care v ≡ function_of first care v
  care_kept v = writes.adds.kept care.0 live v

  roots_kept : (n : ℕ) (v : Valuation) → n < length c.nets → shows now roots n v ≡ shows first roots n v
  roots_kept n v lt = net_roots_kept c parts roots gates out first now writes spans n v lt

  setting_before : (v : Valuation) (setting : Setting) → IsSettingAt c (root_at now roots v) setting → IsSettingAt c (root_at first roots v) setting
  setting_before v setting s = record {
    inputs = λ n net e is. s.inputs n net e is ∙ roots_kept n v (slice_get_within c.nets n net e);
    held = λ at hold e plain. s.held at hold e plain ∙ roots_kept hold.net.0 v (all_among (IsHold c) c.holds hold ranges.holds (at, e)).net;
  }

  solved_before : (v : Valuation) (setting : Setting) (a : ℕ → Option Bool) → IsSolvedAt c phase observed (root_at now roots v) setting a
      → IsSolvedAt c phase observed (root_at first roots v) setting a
  solved_before v setting a at = record { given = setting_before v setting at.given; solves = at.solves }

  pub clear_here : IsClearCircuit c phase observed care roots gates first now → IsClearCircuit c phase observed care roots gates now now
  clear_here clear = record {
    bits = λ v setting a met at. clear.bits v setting a (sym (care_kept v) ∙ met) (solved_before v setting a at);
    clear = λ v setting a met at. clear.clear v setting a (sym (care_kept v) ∙ met) (solved_before v setting a at);
    driven = λ v setting a met at. clear.driven v setting a (sym (care_kept v) ∙ met) (solved_before v setting a at);
  }
