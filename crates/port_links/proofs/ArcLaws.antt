-- Chains of the graph of nets and parts are chains of arcs.
use Rattle.std.proofs.Common.{◌≡◌, ℕ, ◌+◌, ◌<◌, Bool, true, false, List, [], ◌∷◌, length, Option, slice_index, arith, ap, subst, sym, refl, ◌∙◌, inl, inr}
use Rattle.std.proofs.lemmas.Bool.{false≢true}
use Rattle.channel_parts.proofs.ArcLaws.{arc_to_plain}
use Rattle.channel_parts.proofs.NetGraphLaws.{HasTurns, graph_has_turns, graph_inside}
use Rattle.channel_parts.proofs.PartLaws.{same_least_net}
use Rattle.channel_parts.proofs.RankLaws.{same_part}
use Rattle.channel_parts.specs.Labels.{AreBelow}
use Rattle.channel_parts.specs.NetGraphs.{IsNetGraph}
use Rattle.channel_parts.specs.Ranks.{AreLeast}
use Rattle.graphs.specs.Graphs.{ArcIn}
use Rattle.known_nets.proofs.NetKinds.{is_plain_is, plain_is}
use Rattle.known_nets.specs.KnownTables.{IsKnownTable, known_at}
use Rattle.port_links.specs.PhaseArcs.{AreArcs, AreChainMarks, IsPartChain, part_of}
use Rattle.port_links.specs.Reached.{AreReaching}
use Rattle.vrt_model.proofs.Filtered.{device_among}
use Rattle.vrt_model.proofs.Members.{all_among, at_none}
use Rattle.vrt_model.proofs.Networks.{flat_ranges}
use Rattle.vrt_model.proofs.Ranked.{together_first, together_plain}
use Rattle.vrt_model.specs.Circuits.{IsDevice, IsFlat}
use Rattle.vrt_model.specs.Known.{HasArc, HasGateArc, IsPlain, IsTogether, IsWalk, is_plain_at}
use Rattle.vrt_model.specs.Lists.{At, Among, mark_at}
use Rattle.vrt_model.specs.WholeInstances.{IsChain}
use Rattle.vrt_model.specs.declared.circuit.Circuit.{Circuit}
use Rattle.vrt_model.specs.declared.rules.Phase.{Phase}
use Rattle.vrt_model.specs.declared.whole.Whole.{Whole}

-- ---- arcs of a circuit without whole instances

no_whole : (c : Circuit) → IsFlat c → (w : Whole) → Among c.wholes w → ⊥
no_whole c flat w m = at_none m.0 w (subst (λ (ws : List Whole). At ws m.0 w) flat.wholes m.1)

-- all arcs are from gates
arc_gate : (c : Circuit) (phase : Phase) → IsFlat c → (m n : ℕ) → HasArc c phase m n → HasGateArc c phase m n
arc_gate c phase flat m n (inl gate) = gate
arc_gate c phase flat m n (inr (w, link, leads)) = absurd (no_whole c flat w leads.0)

-- an arc leads from a net of the circuit
arc_from : (c : Circuit) (phase : Phase) → IsFlat c → (m n : ℕ) → HasArc c phase m n → m < length c.nets
arc_from c phase flat m n arc =
    let gate = arc_gate c phase flat m n arc in
    let there = device_among true c gate.0 gate.1.3.0 in
    let inside = (all_among (IsDevice c) c.devices gate.0 flat.devices there.0).gate in
    let same = gate.2 in
    omega (arith, inside, same)

-- a chain leads to a plain net
walk_plain : (c : Circuit) (phase : Phase) (nets : List ℕ) (m n to : ℕ) → HasArc c phase m n → IsWalk (HasArc c phase) n nets to → IsPlain c to
walk_plain c phase [] m n to arc same = subst (IsPlain c) same (arc_to_plain c phase m n arc)
walk_plain c phase (l ∷ nets) m n to arc walk = walk_plain c phase nets n l to walk.0 walk.1

-- ---- chains

module _ (c : Circuit) (phase : Phase) (known : List (Option Bool)) (least : List ℕ) (graph : List (List ℕ)) (flat : IsFlat c) (table : IsKnownTable c phase (known_at known)) (are : AreLeast c phase least)
    (len : length least ≡ length c.nets) (below : AreBelow least) (is : IsNetGraph c phase known least graph) where
  -- nets and parts in turn
  turns : HasTurns c phase least graph
  turns = graph_has_turns c phase known least graph (flat_ranges c flat) table are len below is

  -- a chain of the graph from a net to the part of a plain net, without its parts, and with that net
  down : (nodes : List ℕ) (m x to : ℕ) → IsPlain c to → m < length least → ArcIn graph m x → IsWalk (ArcIn graph) x nodes (part_of least to) → IsChain (HasArc c phase) m to
  down [] m x to p lt arc same = (to, [], turns.over_part m x to arc (subst (λ (y : ℕ). ArcIn graph y to) (sym same) (turns.own_part to p)) lt, refl)
  down (n ∷ []) m x to p lt arc walk =
      let low = turns.from_part x n walk.0 (turns.from_net m x arc lt) in
      let end = walk.1 in
      absurd (omega (arith, low, end))
  down (n ∷ y ∷ nodes) m x to p lt arc walk =
      let low = turns.from_part x n walk.0 (turns.from_net m x arc lt) in
      let rest = down nodes n y to p low walk.1.0 walk.1.1 in
      (n, rest.0 ∷ rest.1, turns.over_part m x n arc walk.0 lt, (rest.2, rest.3))

  -- and a chain of arcs with the parts between its nets
  up : (nets : List ℕ) (m n to : ℕ) → HasArc c phase m n → IsWalk (HasArc c phase) n nets to → IsChain (ArcIn graph) m (part_of least to)
  up [] m n to arc same = (part_of least n, [], turns.by_part m n arc, ap (part_of least) same)
  up (l ∷ nets) m n to arc walk =
      let rest = up nets n l to walk.0 walk.1 in
      (part_of least n, n ∷ rest.0 ∷ rest.1, turns.by_part m n arc, (turns.own_part n (arc_to_plain c phase m n arc), (rest.2, rest.3)))

  down_part : (nodes : List ℕ) (from x to : ℕ) → IsPlain c from → IsPlain c to → ArcIn graph (part_of least from) x → IsWalk (ArcIn graph) x nodes (part_of least to) → IsPartChain c phase from to
  down_part [] from x to pf pt arc end =
      let low = turns.from_part (part_of least from) x arc (omega arith) in
      absurd (omega (arith, low, end))
  down_part (y ∷ nodes) from x to pf pt arc walk =
      let low = turns.from_part (part_of least from) x arc (omega arith) in
      let net = turns.to_net (part_of least from) x arc low in
      let part = net.part in
      let same : slice_index least from ≡ slice_index least x = omega (arith, part) in
      (x, same_part c phase least from x are pf (plain_is c x net.plain) same, down nodes x y to pt low walk.0 walk.1)

  up_part : (from m to : ℕ) → IsTogether c phase true from m → IsChain (HasArc c phase) m to → IsChain (ArcIn graph) (part_of least from) (part_of least to)
  up_part from m to together chain =
      let same = same_least_net c phase known least true table are from m together in
      let arc = subst (λ (k : ℕ). ArcIn graph (length least + k) m) (sym same) (turns.own_part m (together_plain c phase true from m together)) in
      let rest = up chain.1 m chain.0 to chain.2 chain.3 in
      (m, rest.0 ∷ rest.1, arc, (rest.2, rest.3))

  pub graph_has_arcs : AreArcs c phase least graph
  graph_has_arcs = record {
    count = len;
    inside = graph_inside c phase known least graph (flat_ranges c flat) len below is;
    nets = λ from to lt p. (
      λ chain. down chain.1 from chain.0 to p (omega (arith, lt, len)) chain.2 chain.3,
      λ chain. up chain.1 from chain.0 to chain.2 chain.3,
    );
    parts = λ from to pf pt. (
      λ chain. down_part chain.1 from chain.0 to pf pt chain.2 chain.3,
      λ chain. up_part from chain.0 to chain.1 chain.2,
    );
  }

-- ---- marks

pub chain_marks : (c : Circuit) (phase : Phase) (least : List ℕ) (graph : List (List ℕ)) (to : ℕ) (marks : List Bool) → is_plain_at c to ≡ true → AreReaching graph (part_of least to) marks
    → AreArcs c phase least graph → AreChainMarks c phase least to marks
chain_marks c phase least graph to marks plain reach arcs = record {
  nets = λ from lt. (
    λ e. (arcs.nets from to lt p).0 ((reach from).0 e),
    λ chain. (reach from).1 ((arcs.nets from to lt p).1 chain),
  );
  parts = λ from pf. (
    λ e. (arcs.parts from to pf p).0 ((reach (part_of least from)).0 e),
    λ chain. (reach (part_of least from)).1 ((arcs.parts from to pf p).1 chain),
  );
} where
  p : IsPlain c to
  p = plain_is c to plain

-- no chain leads to a net that is not plain
pub no_chain_marks : (c : Circuit) (phase : Phase) (least : List ℕ) (to : ℕ) → IsFlat c → is_plain_at c to ≡ false → AreChainMarks c phase least to []
no_chain_marks c phase least to flat other = record {
  nets = λ from lt. (λ e. absurd (false≢true e), λ chain. absurd (none from chain));
  parts = λ from pf. (λ e. absurd (false≢true e), λ chain. absurd (none chain.0 chain.2));
} where
  none : (from : ℕ) → ¬ IsChain (HasArc c phase) from to
  none from chain = false≢true (sym other ∙ is_plain_is c to (walk_plain c phase chain.1 from chain.0 to chain.2 chain.3))

pub net_chain : (c : Circuit) (phase : Phase) (least : List ℕ) (from to : ℕ) (marks : List Bool) → IsFlat c → AreChainMarks c phase least to marks → IsChain (HasArc c phase) from to
    → (from < length c.nets) × (mark_at marks from ≡ true)
net_chain c phase least from to marks flat are chain = let lt = arc_from c phase flat from chain.0 chain.2 in (lt, (are.nets from lt).1 chain)

pub part_chain : (c : Circuit) (phase : Phase) (least : List ℕ) (from to : ℕ) (marks : List Bool) → AreChainMarks c phase least to marks → IsPartChain c phase from to
    → (is_plain_at c from ≡ true) × (mark_at marks (part_of least from) ≡ true)
part_chain c phase least from to marks are chain =
    let p = together_first c phase true from chain.0 chain.1 in
    (is_plain_is c from p, (are.parts from p).1 chain)
