-- A model without latches whose covers read inputs alone has exactly one assignment.
use Rattle.std.proofs.Common.{◌≡◌, ℕ, ◌<◌, Bool, false, eqb, List, Option, Some, None, length, arith, ap, subst, sym, refl, ◌∙◌, inl, inr}
use Rattle.std.specs.Prelude.{find, option_map, unwrap_or}
use Rattle.std.proofs.lemmas.Bool.{eq-eqb, eqb-true, false≢true}
use Rattle.vrt_model.proofs.Members.{at_none, find_among, find_none}
use Rattle.vrt_model.specs.Assignment.{Assignment, IsAssignment, Surroundings, Tied}
use Rattle.vrt_model.specs.Covers.{cover_bit}
use Rattle.vrt_model.specs.Elements.{Numbered, element_names, numbered_from}
use Rattle.vrt_model.specs.Lists.{Among, At}
use Rattle.vrt_model.specs.declared.flat_model.Cover.{Cover}
use Rattle.vrt_model.specs.declared.flat_model.FlatLatch.{FlatLatch}
use Rattle.vrt_model.specs.declared.flat_model.FlatModel.{FlatModel}
use Rattle.vrt_model.specs.declared.pairing.ClockedSignal.{ClockedSignal}
use Rattle.model_laws.specs.Logic.{IsLogic, IsTied}
use Rattle.vrt_model.proofs.Assignments.{cover_same}

module _ (flat : FlatModel) (around : Surroundings) (logic : IsLogic flat around) where
  no_numbered : (l : Numbered) → Among (numbered_from 0 flat.latches) l → ⊥
  no_numbered l m = at_none m.0 l (subst (λ (ls : List FlatLatch). At (numbered_from 0 ls) m.0 l) logic.latches m.1)

  -- ---- there is at most one

  tied_same : (g h : Assignment) → IsAssignment flat around g → IsAssignment flat around h → (s : ℕ) → IsTied around.tied s → g.signal s ≡ h.signal s
  tied_same g h one two s t =
      subst (λ (n : ℕ). g.signal n ≡ h.signal n) t.2 (one.inputs t.0 t.1 ∙ sym (two.inputs t.0 t.1))

  pub one_signal : (g h : Assignment) → IsAssignment flat around g → IsAssignment flat around h → (s : ℕ) → s < length flat.signals → g.signal s ≡ h.signal s
  one_signal g h one two s lt =
      elim (logic.driven s lt) [
        | inl t ↦ tied_same g h one two s t
        | inr c ↦
            subst (λ (n : ℕ). g.signal n ≡ h.signal n) c.2
            (one.obeys.covers c.0 c.1 ∙ (cover_same g.signal h.signal c.0 (λ i m. tied_same g h one two i (logic.reads c.0 i c.1 m)) ∙ sym (two.obeys.covers c.0 c.1)))
      ]

  pub one_element : (g h : Assignment) (e : ℕ) → e < length (element_names flat) → g.next e ≡ h.next e
  one_element g h e lt =
      absurd (none e (subst (λ (ls : List FlatLatch). e < length (element_names (record flat { latches = ls }))) logic.latches lt))
    where
      none : (n : ℕ) → n < 0 → ⊥
      none n below = omega (arith, below)

  -- ---- there is one

  tied_bit : ℕ → Bool
  tied_bit s = unwrap_or (option_map (λ (t : Tied). around.nets t.net) (find (λ (t : Tied). eqb t.signal s) around.tied)) false

  tied_bit_is : (t : Tied) → Among around.tied t → tied_bit t.signal ≡ around.nets t.net
  unfolding tied_bit
  tied_bit_is t m = by_search (find (λ (u : Tied). eqb u.signal t.signal) around.tied) refl
    where
      by_search : (o : Option Tied) → find (λ (u : Tied). eqb u.signal t.signal) around.tied ≡ o → unwrap_or (option_map (λ (u : Tied). around.nets u.net) o) false ≡ around.nets t.net
      by_search None e = absurd (false≢true (sym (find_none (λ (u : Tied). eqb u.signal t.signal) around.tied t e m) ∙ eq-eqb t.signal t.signal refl))
      by_search (Some u) e =
          let h = find_among (λ (x : Tied). eqb x.signal t.signal) around.tied u e in
          ap around.nets (logic.ties u t h.0 m (eqb-true u.signal t.signal h.1))

  signal_bit : ℕ → Bool
  signal_bit s = unwrap_or (option_map (cover_bit tied_bit) (find (λ (c : Cover). eqb c.output s) flat.covers)) (tied_bit s)

  signal_tied : (s : ℕ) → IsTied around.tied s → signal_bit s ≡ tied_bit s
  unfolding signal_bit
  signal_tied s t = by_search (find (λ (c : Cover). eqb c.output s) flat.covers) refl
    where
      by_search : (o : Option Cover) → find (λ (c : Cover). eqb c.output s) flat.covers ≡ o → unwrap_or (option_map (cover_bit tied_bit) o) (tied_bit s) ≡ tied_bit s
      by_search None e = refl
      by_search (Some c) e =
          let h = find_among (λ (x : Cover). eqb x.output s) flat.covers c e in
          absurd (logic.apart c h.0 (t.0, t.1, t.2 ∙ sym (eqb-true c.output s h.1)))

  signal_covered : (cover : Cover) → Among flat.covers cover → signal_bit cover.output ≡ cover_bit tied_bit cover
  unfolding signal_bit
  signal_covered cover m = by_search (find (λ (c : Cover). eqb c.output cover.output) flat.covers) refl
    where
      by_search : (o : Option Cover) → find (λ (c : Cover). eqb c.output cover.output) flat.covers ≡ o → unwrap_or (option_map (cover_bit tied_bit) o) (tied_bit cover.output) ≡ cover_bit tied_bit cover
      by_search None e = absurd (false≢true (sym (find_none (λ (c : Cover). eqb c.output cover.output) flat.covers cover e m) ∙ eq-eqb cover.output cover.output refl))
      by_search (Some c) e =
          let h = find_among (λ (x : Cover). eqb x.output cover.output) flat.covers c e in
          ap (cover_bit tied_bit) (logic.once c cover h.0 m (eqb-true c.output cover.output h.1))

  pub the_assignment : Assignment
  the_assignment = record { signal = signal_bit; next = λ e. false }

  pub the_assignment_is : IsAssignment flat around the_assignment
  unfolding the_assignment
  the_assignment_is = record {
    clocks = λ c m. absurd (at_none m.0 c (subst (λ (cs : List ClockedSignal). At cs m.0 c) logic.clocked m.1));
    inputs = λ t m. signal_tied t.signal (t, m, refl) ∙ tied_bit_is t m;
    obeys = record {
      covers = λ cover m. signal_covered cover m ∙ cover_same tied_bit signal_bit cover (λ s i. sym (signal_tied s (logic.reads cover s m i)));
      latches = λ l m. absurd (no_numbered l m);
    };
  }

pub some_assignment : (flat : FlatModel) (around : Surroundings) → IsLogic flat around → (g : Assignment) × IsAssignment flat around g
some_assignment flat around logic = (the_assignment flat around logic, the_assignment_is flat around logic)
