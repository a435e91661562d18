-- Where arcs have no cycle, there is no set of nets of which each is behind another; and where there are ranks, arcs have
-- no cycle.
use Rattle.std.proofs.Common.{ℕ, List, [], ◌∷◌, length, subst, inl}
use Rattle.std.proofs.lemmas.Option.{slice_get_within}
use Rattle.channel_parts.proofs.ArcsToKnown.{no_arcs_to_known_nets}
use Rattle.graphs.proofs.Acyclic.{none_behind}
use Rattle.graphs.proofs.Walks.{rises_acyclic}
use Rattle.vrt_model.specs.Known.{HasArc, HasRankArc, IsCycle, IsPlain, IsRanking, IsUnknown, IsWalk}
use Rattle.vrt_model.specs.declared.circuit.Circuit.{Circuit}
use Rattle.vrt_model.specs.declared.rules.Phase.{Phase}

-- plain nets, of which each is behind another, are none where the arcs have no cycle
pub none_plain : (c : Circuit) (phase : Phase) (P : ℕ → Type 0) → ((m : ℕ) → P m → IsPlain c m) → ((m : ℕ) → P m → (n : ℕ) × P n × HasArc c phase n m)
    → ((nets : List ℕ) → ¬ IsCycle (HasArc c phase) nets) → (m : ℕ) → P m → ⊥
none_plain c phase P plain back acyclic =
    none_behind (HasArc c phase) (length c.nets) acyclic P (λ m p. let own = plain m p in slice_get_within c.nets m own.0 own.1) back

-- a walk from a net that is not known counts for ranks, and leads to such a net
unknown_walk : (c : Circuit) (phase : Phase) (nets : List ℕ) (n last : ℕ) → IsUnknown c phase n → IsWalk (HasArc c phase) n nets last → IsWalk (HasRankArc c phase) n nets last × IsUnknown c phase last
unknown_walk c phase [] n last unknown e = (e, subst (IsUnknown c phase) e unknown)
unknown_walk c phase (m ∷ nets) n last unknown walk =
    let rest = unknown_walk c phase nets m last (no_arcs_to_known_nets c phase n m walk.0) walk.1 in
    ((inl (walk.0, unknown), rest.0), rest.1)

-- a cycle counts for ranks, since no arc leads to a known net
counts_cycle : (c : Circuit) (phase : Phase) (nets : List ℕ) → IsCycle (HasArc c phase) nets → IsCycle (HasRankArc c phase) nets
counts_cycle c phase [] cycle = cycle
counts_cycle c phase (n ∷ nets) cycle =
    let around = unknown_walk c phase nets n cycle.0 (no_arcs_to_known_nets c phase cycle.0 n cycle.2) cycle.1 in
    (cycle.0, around.0, inl (cycle.2, around.1))

-- where there are ranks, arcs have no cycle
pub ranks_acyclic : (c : Circuit) (phase : Phase) (rank : ℕ → ℕ) → IsRanking c phase rank → (nets : List ℕ) → ¬ IsCycle (HasArc c phase) nets
ranks_acyclic c phase rank ranks nets cycle = rises_acyclic (HasRankArc c phase) rank ranks.above nets (counts_cycle c phase nets cycle)
