-- The words of a phase are taken, behind those that are there.
use Rattle.std.proofs.Common.{◌≡◌, ℕ, ◌≤◌, length, arith, ap, refl, subst, sym}
use Rattle.bdd_core.proofs.Frames.{adds_rewritten, adds_then}
use Rattle.bdd_core.specs.Diagram.{IsReduced}
use Rattle.bdd_core.specs.Store.{Adds, Diagrams}
use Rattle.phase_laws.proofs.Work.{used_words}
use Rattle.phase_terms.specs.Stores.{HasPhaseWords, IsPhaseStore, IsUsed, counts_of}
use Rattle.phase_terms.specs.declared.words.PhaseWords.{PhaseWords}
use Rattle.phase_terms.specs.declared.words.WordCounts.{WordCounts}
use Rattle.vrt_model.specs.Comparison.{Comparison}
use Rattle.vrt_model.specs.Held.{sources_of}

module _ (k : Comparison) (phase made : ℕ) (counts : WordCounts) (w : PhaseWords) (old mid : Diagrams) (rest : mid ≡ record old { words = mid.words }) (is : counts ≡ counts_of k old.vars)
    (words : HasPhaseWords counts w mid) (few : length (sources_of k phase) ≤ old.vars) (used : IsUsed old.budget (length (sources_of k phase)) made old) where
  vars_same : mid.vars ≡ old.vars
  vars_same = ap (λ (d : Diagrams). d.vars) rest

  used_mid : IsUsed old.budget (length (sources_of k phase)) made mid
  used_mid = used_words old.budget (length (sources_of k phase)) made old mid rest used

  -- the phase has its words, and as many operations were made
  pub taken_store : IsPhaseStore k phase mid.budget made w mid
  taken_store = record {
    words = subst (λ (v : ℕ). HasPhaseWords (counts_of k v) w mid) (sym vars_same) (subst (λ (c : WordCounts). HasPhaseWords c w mid) is words);
    vars = omega (arith, few, vars_same);
    used = record { budget_is = refl; few = used_mid.few; within = used_mid.within };
  }

-- what is added once the words are there is added in all
pub taken_adds : (old mid new : Diagrams) → mid ≡ record old { words = mid.words } → IsReduced old.vars old.nodes → length old.nodes ≤ old.budget → Adds mid new new.words → Adds old new new.words
taken_adds old mid new rest sound within adds = adds_then old mid new mid.words new.words (adds_rewritten old mid rest sound within) adds
