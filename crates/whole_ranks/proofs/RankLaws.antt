-- Nets have ranks exactly where arcs have no cycle.
use Rattle.std.proofs.Common.{◌≡◌, ◌↔◌, ℕ, suc, ◌<◌, ◌⊎◌, Bool, true, length, arith, subst, ◌∙◌, ap, inl, inr}
use Rattle.std.proofs.lemmas.Bool.{cases_Bool}
use Rattle.std.proofs.lemmas.Option.{slice_get_within}
use Rattle.channel_parts.proofs.Acyclic.{ranks_acyclic}
use Rattle.channel_parts.proofs.ArcLaws.{arc_to_plain, counts_arc}
use Rattle.channel_parts.proofs.PartLaws.{ranks_even}
use Rattle.known_nets.proofs.NetKinds.{is_plain_is, plain_is}
use Rattle.told_circuits.proofs.ToldLaws.{rank_arcs_have_test}
use Rattle.vrt_model.proofs.Filtered.{device_among}
use Rattle.vrt_model.proofs.Members.{all_among}
use Rattle.vrt_model.proofs.Ranked.{plain_not_given}
use Rattle.vrt_model.specs.Circuits.{IsDevice, IsNet, IsWhole}
use Rattle.vrt_model.specs.Known.{HasArc, HasRankArc, IsPlain, IsRanking, is_plain_at}
use Rattle.vrt_model.specs.Networks.{HasRanges}
use Rattle.vrt_model.specs.declared.circuit.Circuit.{Circuit}
use Rattle.vrt_model.specs.declared.rules.Phase.{Phase}
use Rattle.vrt_model.specs.declared.whole.Link.{Link}
use Rattle.whole_ranks.proofs.ChainRanks.{AreChainRanks, chain_ranks, highest, highest_above, highest_reached}
use Rattle.whole_ranks.specs.Ranks.{AcyclicNetsHaveRanks, PartsHaveOneRank, RankedNetsAreAcyclic}

-- ---- arcs

-- from a net of the circuit
arc_from_net : (c : Circuit) (phase : Phase) (n m : ℕ) → HasRanges c → HasArc c phase n m → n < length c.nets
arc_from_net c phase n m ranges (inl (d, part, e, unknown)) =
    let there = (device_among true c d part.3.0).0 in
    subst (λ (x : ℕ). x < length c.nets) e (all_among (IsDevice c) c.devices d ranges.devices there).gate
arc_from_net c phase n m ranges (inr (w, link, leads)) =
    let whole = all_among (IsWhole c) c.wholes w ranges.wholes leads.0 in
    let fits = all_among (λ (l : Link). IsNet c l.from × (l.output < length w.outputs)) w.links link whole.links leads.1 in
    subst (λ (x : ℕ). x < length c.nets) leads.3 fits.0

-- ---- ranks from arcs without a cycle

module _ (c : Circuit) (phase : Phase) (test : ℕ → ℕ → Bool) (ranges : HasRanges c) (tests : (n m : ℕ) → (test n m ≡ true) ↔ HasRankArc c phase n m) (rank : ℕ → ℕ)
    (are : AreChainRanks test (is_plain_at c) (length c.nets) rank) where
  plain_rank : (m : ℕ) → IsPlain c m → rank m ≡ suc (highest (λ n. test n m) rank (length c.nets))
  plain_rank m p = are.next m (is_plain_is c m p)

  rises : (n m : ℕ) → HasRankArc c phase n m → rank n < rank m
  rises n m arc =
      let from = arc_from_net c phase n m ranges (counts_arc c phase n m arc) in
      let is = plain_rank m (arc_to_plain c phase n m (counts_arc c phase n m arc)) in
      let le = highest_above (λ x. test x m) rank (length c.nets) n from ((tests n m).1 arc) in
      omega (arith, is, le)

  reaches : (m : ℕ) → IsPlain c m → (rank m ≡ 1) ⊎ ((n : ℕ) × HasRankArc c phase n m × (rank m ≡ suc (rank n)))
  reaches m p =
      let is = plain_rank m p in
      elim (highest_reached (λ n. test n m) rank (length c.nets)) [
        | inl z ↦ inl (is ∙ ap suc z)
        | inr n ↦ inr (n.0, (tests n.0 m).0 n.1, is ∙ ap suc n.2)
      ]

  pub chain_ranking : IsRanking c phase rank
  chain_ranking = record {
    given = λ n net e g. elim (cases_Bool (is_plain_at c n)) [
      | inl t ↦ absurd (plain_not_given c n (plain_is c n t) (net, e, g))
      | inr f ↦ are.none n f
    ];
    above = rises;
    reached = reaches;
  }

pub acyclic_nets_have_ranks : AcyclicNetsHaveRanks
acyclic_nets_have_ranks c phase wired acyclic =
    let arcs = rank_arcs_have_test c phase wired in
    let found = chain_ranks arcs.0 (is_plain_at c) (length c.nets) (λ m t. let p = plain_is c m t in slice_get_within c.nets m p.0 p.1)
    (HasArc c phase) (λ n m t. counts_arc c phase n m ((arcs.1 n m).0 t)) acyclic in
    (found.0, chain_ranking c phase arcs.0 wired.ranges arcs.1 found.0 found.1)

-- ---- where there are ranks

pub ranked_nets_are_acyclic : RankedNetsAreAcyclic
ranked_nets_are_acyclic c phase rank ranks nets cycle = ranks_acyclic c phase rank ranks nets cycle

pub parts_have_one_rank : PartsHaveOneRank
parts_have_one_rank c phase rank ranks n m together = ranks_even c phase rank ranks n m together
