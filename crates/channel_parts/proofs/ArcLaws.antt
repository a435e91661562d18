-- Arcs, and those that count for ranks: they lead to plain nets, and the same lead to all nets of a part.
use Rattle.std.proofs.Common.{ℕ, true, inl, inr}
use Rattle.channel_parts.proofs.Labels.{together_further}
use Rattle.channel_parts.proofs.RankLaws.{together_back}
use Rattle.vrt_model.proofs.Ranked.{together_first}
use Rattle.vrt_model.specs.Known.{HasArc, HasRankArc, IsPlain, IsTogether, Leads}
use Rattle.vrt_model.specs.declared.circuit.Circuit.{Circuit}
use Rattle.vrt_model.specs.declared.rules.Phase.{Phase}
use Rattle.vrt_model.specs.declared.whole.Link.{Link}
use Rattle.vrt_model.specs.declared.whole.Whole.{Whole}

-- an arc that counts is an arc
pub counts_arc : (c : Circuit) (phase : Phase) (n m : ℕ) → HasRankArc c phase n m → HasArc c phase n m
counts_arc c phase n m (inl arc) = arc.0
counts_arc c phase n m (inr named) = inr (named.0, named.1, named.3)

-- an arc leads to a plain net
pub arc_to_plain : (c : Circuit) (phase : Phase) (n m : ℕ) → HasArc c phase n m → IsPlain c m
arc_to_plain c phase n m (inl (d, part, e, unknown)) = together_first c phase true m part.0 part.2
arc_to_plain c phase n m (inr (w, link, leads)) = together_first c phase true m leads.4.0.net.0 leads.4.2

module _ (c : Circuit) (phase : Phase) (m l : ℕ) (together : IsTogether c phase true m l) where
  -- what is in the part of the one net is in that of the other
  part_moves : (n : ℕ) → IsTogether c phase true m n → IsTogether c phase true l n
  part_moves n t = together_further c phase true l m n (together_back c phase true m l together) t

  leads_moves : (w : Whole) (link : Link) (n : ℕ) → Leads c phase w link n m → Leads c phase w link n l
  leads_moves w link n leads = (leads.0, leads.1, leads.2, leads.3, (leads.4.0, leads.4.1, part_moves leads.4.0.net.0 leads.4.2))

  arc_moves : (n : ℕ) → HasArc c phase n m → HasArc c phase n l
  arc_moves n (inl (d, part, e, unknown)) = inl (d, (part.0, part.1, part_moves part.0 part.2, part.3, part.4), e, unknown)
  arc_moves n (inr (w, link, leads)) = inr (w, link, leads_moves w link n leads)

  -- an arc that counts leads to the one where it leads to the other
  pub rank_arc_moves : (n : ℕ) → HasRankArc c phase n m → HasRankArc c phase n l
  rank_arc_moves n (inl (arc, unknown)) = inl (arc_moves n arc, unknown)
  rank_arc_moves n (inr (w, link, named, leads)) = inr (w, link, named, leads_moves w link n leads)
