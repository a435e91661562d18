-- The arcs at each place of a chain have no cycle.
use Rattle.std.proofs.Common.{◌≡◌, ℕ, zero, suc, ◌<◌, ◌&&◌, Bool, true, false, List, [], ◌∷◌, length, arith, subst, sym, refl, ◌∙◌, inl, inr}
use Rattle.std.specs.Prelude.{filter_map, nat_lt}
use Rattle.std.specs.List.{AllZip, enumerate_from}
use Rattle.std.proofs.lemmas.Bool.{and_right}
use Rattle.std.proofs.lemmas.Bool.Decides.{nat_tests}
use Rattle.std.proofs.lemmas.List.{length-map}
use Rattle.std.proofs.lemmas.List.FromFn.{length-enumerate_from}
use Rattle.checked_chain.proofs.ChoiceLaws.{numbered}
use Rattle.checked_chain.proofs.EndLaws.{chain_begins_flat}
use Rattle.checked_chain.proofs.StepLaws.{none_more_is_same, one_more_is_next}
use Rattle.checked_chain.specs.Arcs.{ChainIsAcyclic}
use Rattle.vrt_model.proofs.Lists.{at_there, filter_none}
use Rattle.vrt_model.proofs.Members.{at_none}
use Rattle.vrt_model.specs.Checked.{HasArcWith, IsChoice, IsCircuitWith, before, circuit_with}
use Rattle.vrt_model.specs.Comparison.{phase_at}
use Rattle.vrt_model.specs.Cut.{Cut, NumberedPlace, is_whole, numbered_places, whole_places}
use Rattle.vrt_model.specs.FlatCircuit.{flat_circuit_of}
use Rattle.vrt_model.specs.Known.{HasArc, HasGateArc, IsWalk}
use Rattle.vrt_model.specs.Lists.{Among}
use Rattle.vrt_model.specs.Unrolled.{Top, all_places}
use Rattle.vrt_model.specs.Unsupported.{IsAcyclic}
use Rattle.vrt_model.specs.WholeInstances.{IsWholeAt, whole_at}
use Rattle.vrt_model.specs.declared.blif.Blif.{Blif}
use Rattle.vrt_model.specs.declared.circuit.Circuit.{Circuit}
use Rattle.vrt_model.specs.declared.whole.CellFacts.{CellFacts}

-- ---- fewer arcs

walk_kept : (A B : ℕ → ℕ → Type 0) → ((n m : ℕ) → A n m → B n m) → (n : ℕ) (nets : List ℕ) (last : ℕ) → IsWalk A n nets last → IsWalk B n nets last
walk_kept A B f n [] last w = w
walk_kept A B f n (m ∷ nets) last w = (f n m w.0, walk_kept A B f m nets last w.1)

pub acyclic_kept : (A B : ℕ → ℕ → Type 0) → ((n m : ℕ) → A n m → B n m) → IsAcyclic B → IsAcyclic A
acyclic_kept A B f free [] cycle = cycle
acyclic_kept A B f free (n ∷ nets) cycle = free (n ∷ nets) (cycle.0, walk_kept A B f n nets cycle.0 cycle.1, f cycle.0 n cycle.2)

-- ---- before the first instance

none_first : (choice : ℕ → Bool) (n : ℕ) → is_whole (λ j. choice j && nat_lt j 0) n ≡ false
none_first choice zero = refl
none_first choice (suc k) = let late : nat_lt k 0 ≡ false = grind (arith, nat_tests) in and_right (choice k) (nat_lt k 0) late

pub no_place : (cut : Cut) → whole_places (before cut 0) ≡ []
no_place cut = filter_none (λ (p : NumberedPlace). is_whole (before cut 0).choice p.number) (numbered_places cut.top) (λ p. none_first cut.choice p.number)

without_links : (cut : Cut) (blif : Blif) (facts : List CellFacts) → IsCircuitWith (before cut 0) blif facts (circuit_with (before cut 0) blif facts)
unfolding circuit_with
without_links cut blif facts = record {
  nets = refl;
  devices = refl;
  holds = refl;
  instances = refl;
  wholes =
      subst (λ (ps : List NumberedPlace). AllZip (IsWholeAt (before cut 0) blif facts) ps (filter_map (whole_at (before cut 0) blif facts) ps)) (sym (no_place cut)) tt;
  source = refl;
}

flat_arc : (cut : Cut) (blif : Blif) (facts : List CellFacts) (phase n m : ℕ) → HasArcWith (before cut 0) blif facts phase n m
    → HasArc (flat_circuit_of cut.top) (phase_at cut.top.rules phase) n m
flat_arc cut blif facts phase n m (inl gate) =
    let same = (chain_begins_flat cut blif facts (circuit_with (before cut 0) blif facts)).0 (without_links cut blif facts) in
    inl (subst (λ (c : Circuit). HasGateArc c (phase_at cut.top.rules phase) n m) same gate)
flat_arc cut blif facts phase n m (inr link) =
    let among = subst (λ (ps : List NumberedPlace). Among ps link.0) (no_place cut) link.4 in
    absurd (at_none among.0 link.0 among.1)

-- ---- place by place

as_many : (t : Top) → length (numbered_places t) ≡ length (all_places t)
as_many t = length-map (enumerate_from 0 (all_places t)) numbered ∙ length-enumerate_from 0 (all_places t)

module _ (cut : Cut) (blif : Blif) (facts : List CellFacts) (phase : ℕ) (choice : IsChoice cut blif facts) (lt : phase < length cut.top.rules.phases)
    (free : IsAcyclic (HasArc (flat_circuit_of cut.top) (phase_at cut.top.rules phase))) where
  abbrev IsFree : Cut → Type 0
  IsFree one = IsAcyclic (HasArcWith one blif facts phase)

  next_free : (i : ℕ) (b : Bool) → cut.choice i ≡ b → suc i < length (all_places cut.top) → IsFree (before cut i) → IsFree (before cut (suc i))
  next_free i true e low before_it =
      let p = at_there (numbered_places cut.top) (suc i) (subst (λ (n : ℕ). suc i < n) (sym (as_many cut.top)) low) in
      let may = ((choice i p.0 p.1).0 e).1 in
      subst IsFree (one_more_is_next cut i e) (may.1.acyclic phase lt)
  next_free i false e low before_it = subst IsFree (sym (none_more_is_same cut i e)) before_it

  all_free : (i : ℕ) → i < length (all_places cut.top) → IsFree (before cut i)
  all_free zero low =
      acyclic_kept (HasArcWith (before cut 0) blif facts phase) (HasArc (flat_circuit_of cut.top) (phase_at cut.top.rules phase)) (flat_arc cut blif facts phase) free
  all_free (suc i) low = next_free i (cut.choice i) refl low (all_free i (omega (arith, low)))

pub chain_is_acyclic : ChainIsAcyclic
chain_is_acyclic cut blif facts i phase choice lt low free = all_free cut blif facts phase choice lt free i low
