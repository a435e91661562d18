-- The marks of ports that are alone, at the start and after one phase more.
use Rattle.std.proofs.Common.{◌≡◌, ℕ, ◌+◌, true, false, get_or, Bool, List, length, map, arith, ap, sym, subst, ◌∙◌}
use Rattle.std.specs.Prelude.{replicate}
use Rattle.std.proofs.lemmas.List.{get_or-replicate, length-map, length-replicate}
use Rattle.std.proofs.lemmas.Option.{slice_get_within}
use Rattle.lone_outputs.proofs.LoneLaws.{lone_kept}
use Rattle.lone_outputs.specs.Lone.{AreKept, AreLone, AreLoneBefore}
use Rattle.known_nets.specs.KnownTables.{IsKnownTable, known_at}
use Rattle.phase_terms.specs.declared.plan.PhasePlan.{PhasePlan}
use Rattle.port_drives.specs.Ports.{AreLonePorts}
use Rattle.vrt_model.specs.Comparison.{phase_at}
use Rattle.vrt_model.specs.Lists.{At}
use Rattle.vrt_model.specs.declared.circuit.Circuit.{Circuit}
use Rattle.vrt_model.specs.declared.ids.Net.{Net}
use Rattle.vrt_model.specs.declared.rules.Phase.{Phase}

module _ (c : Circuit) (plans : List PhasePlan) (nets : List Net) where
  -- at the start all are marked
  pub all_alone : (lone : List Bool) → lone ≡ replicate (length nets) true → AreLonePorts c plans nets 0 lone
  all_alone lone is k same known = record {
    count = ap (λ (xs : List Bool). length xs) is ∙ length-replicate (length nets) true ∙ sym (length-map nets (λ (n : Net). n.0));
    each = λ j n at. (
      λ e phase lt. absurd (omega (arith, lt)),
      λ all.
          let within = slice_get_within (map (λ (n : Net). n.0) nets) j n at in
          let size = length-map nets (λ (n : Net). n.0) in
          ap (λ (xs : List Bool). get_or xs j false) is ∙ get_or-replicate (length nets) j true false (omega (arith, within, size)),
    );
  }

  -- those that a phase has too
  pub more_alone : (phase : ℕ) (plan : PhasePlan) (more old new : List Bool) → At plans phase plan
      → ((at : Phase) → IsKnownTable c at (known_at plan.parts.known) → AreLone c at (map (λ (n : Net). n.0) nets) more)
      → AreKept more old new → AreLonePorts c plans nets phase old → AreLonePorts c plans nets (phase + 1) new
  more_alone phase plan more old new there here kept before k same known =
      let table = subst (λ (x : Circuit). IsKnownTable x (phase_at k.rules phase) (known_at plan.parts.known)) same (known phase plan there) in
      subst (λ (upto : ℕ). AreLoneBefore k upto (map (λ (n : Net). n.0) nets) new) (omega arith)
      (lone_kept k phase (map (λ (n : Net). n.0) nets) more old new (before k same known)
      (subst (λ (x : Circuit). AreLone x (phase_at k.rules phase) (map (λ (n : Net). n.0) nets) more) (sym same) (here (phase_at k.rules phase) table)) kept)

  -- after the last phase that is said of all
  pub all_phases : (upto : ℕ) (lone : List Bool) → AreLonePorts c plans nets upto lone → upto ≡ length plans → AreLonePorts c plans nets (length plans) lone
  all_phases upto lone are all = subst (λ (n : ℕ). AreLonePorts c plans nets n lone) all are
