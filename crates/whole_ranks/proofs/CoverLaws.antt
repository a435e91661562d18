-- The signals of a model without latches and cycles, by ranks that rise along its covers.
use Rattle.std.proofs.Common.{◌≡◌, ℕ, zero, suc, ◌<◌, ◌&&◌, Bool, true, List, [], ◌∷◌, eqb, ltb, length, arith, ap, subst, sym, refl, ◌∙◌, inl, inr}
use Rattle.std.specs.List.{list_any}
use Rattle.std.proofs.lemmas.Bool.{and_from, and_parts, eq-eqb, eqb-true, lt-ltb, ltb-true}
use Rattle.known_nets.proofs.ShutLaws.{has_number_is}
use Rattle.vrt_model.proofs.Assignments.{cover_same}
use Rattle.vrt_model.proofs.Members.{any_among, among_any}
use Rattle.vrt_model.specs.Assignment.{Assignment, IsAssignment, Surroundings, Tied}
use Rattle.vrt_model.specs.Lists.{Among, has_number}
use Rattle.vrt_model.specs.WholeInstances.{CoverArc}
use Rattle.vrt_model.specs.declared.flat_model.Cover.{Cover}
use Rattle.vrt_model.specs.declared.flat_model.FlatModel.{FlatModel}
use Rattle.vrt_model.specs.declared.pairing.ClockedSignal.{ClockedSignal}
use Rattle.whole_ranks.proofs.ChainRanks.{AreChainRanks, chain_ranks, highest, highest_above}
use Rattle.whole_ranks.specs.Logic.{IsLogicModel, LeadsTo, SignalsFollowCovers}

module _ (flat : FlatModel) (clocked : List ClockedSignal) (tied : List Tied) (logic : IsLogicModel flat clocked tied) where
  -- a cover leads from one signal to another
  leads : ℕ → ℕ → Bool
  leads from to = list_any (λ (c : Cover). eqb c.output to && has_number c.inputs from) flat.covers

  leads_arc : (from to : ℕ) → leads from to ≡ true → CoverArc flat from to
  unfolding leads
  leads_arc from to e =
      let found = any_among (λ (c : Cover). eqb c.output to && has_number c.inputs from) flat.covers e in
      let both = and_parts (eqb found.0.output to) (has_number found.0.inputs from) found.2 in
      (found.0, found.1, (has_number_is found.0.inputs from).0 both.1, sym (eqb-true found.0.output to both.0))

  arc_leads : (c : Cover) (from : ℕ) → Among flat.covers c → Among c.inputs from → leads from c.output ≡ true
  unfolding leads
  arc_leads c from m i =
      among_any (λ (x : Cover). eqb x.output c.output && has_number x.inputs from) flat.covers c m
      (and_from (eqb c.output c.output) (has_number c.inputs from) (eq-eqb c.output c.output refl) ((has_number_is c.inputs from).1 i))

  cover_ranks : (rank : ℕ → ℕ) × AreChainRanks leads (λ s. ltb s (length flat.signals)) (length flat.signals) rank
  cover_ranks =
      chain_ranks leads (λ s. ltb s (length flat.signals)) (length flat.signals) (λ s e. ltb-true s (length flat.signals) e) (CoverArc flat) leads_arc logic.acyclic

  pub rank_of : ℕ → ℕ
  rank_of = cover_ranks.0

  -- the rank of a signal is above 0
  pub rank_next : (s : ℕ) → s < length flat.signals → (r : ℕ) × (rank_of s ≡ suc r)
  unfolding rank_of
  rank_next s lt = (highest (λ n. leads n s) cover_ranks.0 (length flat.signals), cover_ranks.1.next s (lt-ltb s (length flat.signals) lt))

  -- and above those of the inputs of its cover
  pub rank_rises : (c : Cover) (from : ℕ) → Among flat.covers c → Among c.inputs from → rank_of from < rank_of c.output
  unfolding rank_of
  rank_rises c from m i =
      let is = cover_ranks.1.next c.output (lt-ltb c.output (length flat.signals) (logic.outputs c m)) in
      let le = highest_above (λ n. leads n c.output) cover_ranks.0 (length flat.signals) from (logic.inputs c from m i) (arc_leads c from m i) in
      omega (arith, is, le)

-- ---- what a signal follows from

-- an input of a cover leads where its output does
leads_on : (flat : FlatModel) (c : Cover) (from to : ℕ) → Among flat.covers c → Among c.inputs from → LeadsTo flat c.output to → LeadsTo flat from to
leads_on flat c from to m i (inl e) = inr (c.output, [], (c, m, i, refl), e)
leads_on flat c from to m i (inr chain) = inr (c.output, chain.0 ∷ chain.1, (c, m, i, refl), (chain.2, chain.3))

module _ (flat : FlatModel) (around : Surroundings) (nets : ℕ → Bool) (g h : Assignment) (to : ℕ) (logic : IsLogicModel flat around.clocked around.tied)
    (one : IsAssignment flat around g) (two : IsAssignment flat (record around { nets = nets }) h)
    (same : (t : Tied) → Among around.tied t → LeadsTo flat t.signal to → around.nets t.net ≡ nets t.net) where
  abbrev rank : ℕ → ℕ
  rank = rank_of flat around.clocked around.tied logic

  follows : (k s : ℕ) → rank s < k → s < length flat.signals → LeadsTo flat s to → g.signal s ≡ h.signal s
  follows zero s lt within path = absurd (omega (arith, lt))
  follows (suc k) s lt within path =
      elim (logic.driven s within) [
        | inl c ↦ subst (λ (x : ℕ). g.signal x ≡ h.signal x) c.2 (one.clocks c.0 c.1 ∙ sym (two.clocks c.0 c.1))
        | inr other ↦ elim other [
          | inl t ↦ subst (λ (x : ℕ). g.signal x ≡ h.signal x) t.2
              (one.inputs t.0 t.1 ∙ same t.0 t.1 (subst (λ (x : ℕ). LeadsTo flat x to) (sym t.2) path) ∙ sym (two.inputs t.0 t.1))
          | inr c ↦
              let here : LeadsTo flat c.0.output to = subst (λ (x : ℕ). LeadsTo flat x to) (sym c.2) path in
              let out = ap rank c.2 in
              subst (λ (x : ℕ). g.signal x ≡ h.signal x) c.2
              (one.obeys.covers c.0 c.1
              ∙ cover_same g.signal h.signal c.0
              (λ i m. let less = rank_rises flat around.clocked around.tied logic c.0 i c.1 m in
              follows k i (omega (arith, lt, less, out)) (logic.inputs c.0 i c.1 m) (leads_on flat c.0 i to c.1 m here))
              ∙ sym (two.obeys.covers c.0 c.1))
        ]
      ]

pub signals_follow_covers : SignalsFollowCovers
signals_follow_covers flat around nets g h s logic one two within same =
    follows flat around nets g h s logic one two same (suc (rank_of flat around.clocked around.tied logic s)) s (omega arith) within (inl refl)
