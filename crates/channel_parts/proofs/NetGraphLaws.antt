-- The graph of nets and parts grows arc by arc, two of its arcs in turn are one between nets, and its cycles are those of the
-- arcs between nets.
use Rattle.std.proofs.Common.{◌≡◌, ℕ, ◌+◌, ◌<◌, ◌≤◌, ◌⊎◌, Bool, true, List, [], ◌∷◌, ◌++◌, length, None, Option, Some, slice_index, arith, ap, subst, sym, refl, ◌∙◌, inl, inr}
use Rattle.std.specs.Prelude.{bytes_eq, filter, is_none, nat_lt}
use Rattle.std.proofs.lemmas.Bool.{and_from, cases_lt, cond-false, cond-true, le-ltb, lt-ltb}
use Rattle.std.proofs.lemmas.Option.{none-some, same_Some, slice_get_within}
use Rattle.std.proofs.lemmas.Slice.Eq.{bytes_eq-Decides}
use Rattle.channel_parts.proofs.AddsLaws.{more_adds, same_adds}
use Rattle.channel_parts.proofs.ArcLaws.{arc_to_plain}
use Rattle.channel_parts.proofs.Labels.{together_further}
use Rattle.channel_parts.proofs.LinkLaws.{leads_target, link_inside, target_leads}
use Rattle.channel_parts.proofs.PartLaws.{device_inside, inside_device, same_least_net}
use Rattle.channel_parts.proofs.RankLaws.{together_back, unknown_entry, unknown_gate, unknown_parts}
use Rattle.channel_parts.specs.Groups.{device_owner}
use Rattle.channel_parts.specs.Labels.{AreBelow}
use Rattle.channel_parts.specs.Links.{link_target}
use Rattle.channel_parts.specs.NetGraphs.{IsDeviceArc, IsDeviceArcBelow, IsLinkArc, IsNetArc, IsNetArcBelow, IsNetGraph, IsOneNetArc, IsWholeArcBelow}
use Rattle.channel_parts.specs.Ranks.{AreLeast, has_unknown_gate}
use Rattle.graphs.proofs.Walks.{walk_further}
use Rattle.graphs.specs.Graphs.{ArcIn, AreInside}
use Rattle.known_nets.proofs.NetKinds.{is_plain_is, plain_is}
use Rattle.known_nets.proofs.PlaceLaws.{arc_row, below_or_at}
use Rattle.known_nets.specs.Conduction.{is_plain_at}
use Rattle.known_nets.specs.KnownTables.{IsKnownTable, known_at}
use Rattle.known_nets.specs.Placed.{Adds, IsArc}
use Rattle.vrt_model.proofs.Filtered.{device_among}
use Rattle.vrt_model.proofs.Members.{all_among}
use Rattle.vrt_model.proofs.Ranked.{together_first}
use Rattle.vrt_model.specs.Circuits.{IsDevice}
use Rattle.vrt_model.specs.Known.{HasArc, IsCycle, IsFirstCycle, IsInPart, IsPlain, IsUnknown, IsWalk, Leads}
use Rattle.vrt_model.specs.Lists.{At}
use Rattle.vrt_model.specs.Networks.{HasRanges}
use Rattle.vrt_model.specs.Reading.{is_in}
use Rattle.vrt_model.specs.declared.circuit.Circuit.{Circuit}
use Rattle.vrt_model.specs.declared.circuit.Device.{Device}
use Rattle.vrt_model.specs.declared.rules.Phase.{Phase}
use Rattle.vrt_model.specs.declared.whole.Link.{Link}
use Rattle.vrt_model.specs.declared.whole.Whole.{Whole}

-- ---- arcs that are added

pub one_net : (c : Circuit) (least : List ℕ) (net from : ℕ) (old new : List (List ℕ)) → is_plain_at c net ≡ true → from ≡ length least + slice_index least net → Adds (IsArc from net) old new
    → Adds (IsOneNetArc c least net) old new
one_net c least net from old new plain part =
    same_adds (IsArc from net) (IsOneNetArc c least net) old new
    (λ f t arc. (
      arc.1,
      record { plain = ap (is_plain_at c) arc.1 ∙ plain; part = arc.0 ∙ part ∙ ap (λ (x : ℕ). length least + slice_index least x) (sym arc.1) },
    ))
    (λ f t arc. (arc.1.part ∙ ap (λ (x : ℕ). length least + slice_index least x) arc.0 ∙ sym part, arc.0))

pub more_nets : (c : Circuit) (least : List ℕ) (net : ℕ) (old mid new : List (List ℕ)) → Adds (IsNetArcBelow c least net) old mid → Adds (IsOneNetArc c least net) mid new
    → Adds (IsNetArcBelow c least (net + 1)) old new
more_nets c least net old mid new =
    more_adds (IsNetArcBelow c least net) (IsOneNetArc c least net) (IsNetArcBelow c least (net + 1)) old mid new
    (λ f t arc. (let lt = arc.0 in omega (arith, lt), arc.1))
    (λ f t arc. (let e = arc.0 in omega (arith, e), arc.1))
    (λ f t arc. elim (below_or_at net t arc.0) [ inl low ↦ inl (low, arc.1) | inr e ↦ inr (e, arc.1) ])

pub one_device : (c : Circuit) (known : List (Option Bool)) (least : List ℕ) (d : Device) (owner to : ℕ) (old new : List (List ℕ)) → has_unknown_gate known d ≡ true
    → device_owner c known least true d ≡ Some owner → to ≡ length least + owner → Adds (IsArc d.gate.0 to) old new → Adds (IsDeviceArc c known least d) old new
one_device c known least d owner to old new unknown owned part =
    same_adds (IsArc d.gate.0 to) (IsDeviceArc c known least d) old new
    (λ f t arc. record { unknown = unknown; gate = sym arc.0; owner = owner; owned = owned; part = arc.1 ∙ part })
    (λ f t arc. (
      sym arc.gate,
      arc.part ∙ ap (λ (x : ℕ). length least + x) (same_Some arc.owner owner (sym arc.owned ∙ owned)) ∙ sym part,
    ))

pub one_link : (c : Circuit) (phase : Phase) (least : List ℕ) (w : Whole) (link : Link) (owner to : ℕ) (old new : List (List ℕ)) → bytes_eq link.phase phase.name ≡ true
    → link_target c least w link ≡ Some owner → to ≡ length least + owner → Adds (IsArc link.from.0 to) old new → Adds (IsLinkArc c phase least w link) old new
one_link c phase least w link owner to old new stands owned part =
    same_adds (IsArc link.from.0 to) (IsLinkArc c phase least w link) old new
    (λ f t arc. record { stands = stands; net = sym arc.0; owner = owner; owned = owned; part = arc.1 ∙ part })
    (λ f t arc. (
      sym arc.net,
      arc.part ∙ ap (λ (x : ℕ). length least + x) (same_Some arc.owner owner (sym arc.owned ∙ owned)) ∙ sym part,
    ))

-- the arcs to nets and to parts, added to a graph without arcs
pub adds_graph : (c : Circuit) (phase : Phase) (known : List (Option Bool)) (least : List ℕ) (none mid next graph : List (List ℕ)) → length none ≡ length least + length least
    → ((k : ℕ) (row : List ℕ) → At none k row → row ≡ []) → Adds (IsNetArcBelow c least (length least)) none mid → Adds (IsDeviceArcBelow c known least (length c.devices)) mid next
    → Adds (IsWholeArcBelow c phase least (length c.wholes)) next graph → IsNetGraph c phase known least graph
adds_graph c phase known least none mid next graph size empty first second third = record {
  size = third.count ∙ second.count ∙ first.count ∙ size;
  only = λ f t arc. elim (third.only f t arc) [
    | inr whole ↦ inr (inr whole)
    | inl later ↦ elim (second.only f t later) [
      | inr device ↦ inr (inl device)
      | inl before ↦ elim (first.only f t before) [
        | inl o ↦ (let at = arc_row none f t o in absurd (none-some f (subst (λ (r : List ℕ). At r at.2.0 f) (empty t at.0 at.1) at.2.1)))
        | inr a ↦ inl a
      ]
    ]
  ];
  nets = λ f t arc. third.stays f t (second.stays f t (first.joined f t arc (let lt = arc.0 in omega (arith, lt, size))));
  devices = λ f t arc lt. third.stays f t (second.joined f t arc (let one = second.count in let two = third.count in omega (arith, lt, one, two)));
  wholes = λ f t arc lt. third.joined f t arc (let count = third.count in omega (arith, lt, count));
}

-- ---- nets and parts in turn

-- the net from which an arc leads to a part
part_inside : (c : Circuit) (phase : Phase) (known : List (Option Bool)) (least : List ℕ) (from to : ℕ) → HasRanges c → length least ≡ length c.nets
    → IsDeviceArcBelow c known least (length c.devices) from to ⊎ IsWholeArcBelow c phase least (length c.wholes) from to → from < length least
part_inside c phase known least from to ranges len (inl device) =
    let inside = (all_among (IsDevice c) c.devices device.1 ranges.devices (device.0, device.3)).gate in
    let gate = device.4.gate in
    omega (arith, inside, gate, len)
part_inside c phase known least from to ranges len (inr whole) =
    let inside = link_inside c whole.1 whole.4.1 ranges (whole.0, whole.3) (whole.4.0, whole.4.3) in
    let net = whole.4.4.net in
    omega (arith, inside, net, len)

-- the part to which it leads
part_owner : (c : Circuit) (phase : Phase) (known : List (Option Bool)) (least : List ℕ) (from to : ℕ)
    → IsDeviceArcBelow c known least (length c.devices) from to ⊎ IsWholeArcBelow c phase least (length c.wholes) from to → (owner : ℕ) × (to ≡ length least + owner)
part_owner c phase known least from to (inl device) = (device.4.owner, device.4.part)
part_owner c phase known least from to (inr whole) = (whole.4.4.owner, whole.4.4.part)

pub graph_inside : (c : Circuit) (phase : Phase) (known : List (Option Bool)) (least : List ℕ) (graph : List (List ℕ)) → HasRanges c → length least ≡ length c.nets → AreBelow least → IsNetGraph c phase known least graph → AreInside graph
graph_inside c phase known least graph ranges len below is from to arc =
    let size = is.size in
    elim (is.only from to arc) [
      | inl net ↦ (let part = net.1.part in let lt = net.0 in let low = below to in omega (arith, part, lt, low, size))
      | inr other ↦ (let lt = part_inside c phase known least from to ranges len other in omega (arith, lt, size))
    ]

-- an arc to a net comes from its part; from a net arcs lead to parts, and from a part to nets; over a part an arc of the circuit
-- leads from net to net; and each arc of the circuit leads to the part of its net, from which one leads to that net
pub record HasTurns (c : Circuit) (phase : Phase) (least : List ℕ) (graph : List (List ℕ)) : Type 0 where
  pub to_net : (from to : ℕ) → ArcIn graph from to → to < length least → IsNetArc c least from to
  pub from_net : (from to : ℕ) → ArcIn graph from to → from < length least → length least ≤ to
  pub from_part : (from to : ℕ) → ArcIn graph from to → length least ≤ from → to < length least
  pub over_part : (m x n : ℕ) → ArcIn graph m x → ArcIn graph x n → m < length least → HasArc c phase m n
  pub by_part : (m n : ℕ) → HasArc c phase m n → ArcIn graph m (length least + slice_index least n)
  pub own_part : (n : ℕ) → IsPlain c n → ArcIn graph (length least + slice_index least n) n

module _ (c : Circuit) (phase : Phase) (known : List (Option Bool)) (least : List ℕ) (graph : List (List ℕ)) (ranges : HasRanges c) (table : IsKnownTable c phase (known_at known)) (are : AreLeast c phase least)
    (len : length least ≡ length c.nets) (below : AreBelow least) (is : IsNetGraph c phase known least graph) where
  abbrev IsPartArc : ℕ → ℕ → Type 0
  IsPartArc from to = IsDeviceArcBelow c known least (length c.devices) from to ⊎ IsWholeArcBelow c phase least (length c.wholes) from to

  -- an arc to a net comes from its part
  to_net : (from to : ℕ) → ArcIn graph from to → to < length least → IsNetArc c least from to
  to_net from to arc lt = elim (is.only from to arc) [ inl net ↦ net.1 | inr other ↦ (let part = (part_owner c phase known least from to other).1 in absurd (omega (arith, part, lt))) ]

  -- an arc to a part comes from a gate or from the net of a link
  to_part : (from to : ℕ) → ArcIn graph from to → length least ≤ to → IsPartArc from to
  to_part from to arc le = elim (is.only from to arc) [ inl net ↦ (let lt = net.0 in absurd (omega (arith, lt, le))) | inr other ↦ other ]

  gate_net : (from to : ℕ) → IsPartArc from to → from < length least
  gate_net from to arc = part_inside c phase known least from to ranges len arc

  -- from a net arcs lead to parts
  from_net : (from to : ℕ) → ArcIn graph from to → from < length least → length least ≤ to
  from_net from to arc lt =
      elim (cases_lt to (length least)) [ inl low ↦ (let part = (to_net from to arc low).part in absurd (omega (arith, part, lt))) | inr le ↦ le ]

  -- and from a part to nets
  from_part : (from to : ℕ) → ArcIn graph from to → length least ≤ from → to < length least
  from_part from to arc le =
      elim (cases_lt to (length least)) [ inl low ↦ low | inr high ↦ (let low = gate_net from to (to_part from to arc high) in absurd (omega (arith, low, le))) ]

  over_device : (m x n : ℕ) → IsDeviceArcBelow c known least (length c.devices) m x → IsNetArc c least x n → HasArc c phase m n
  over_device m x n device net =
      let p = plain_is c n net.plain in
      let d : Device = device.1 in
      let one = net.part in
      let two = device.4.part in
      let same : device.4.owner ≡ slice_index least n = omega (arith, one, two) in
      let owned : device_owner c known least true d ≡ Some (slice_index least n) = device.4.owned ∙ ap (λ (k : ℕ). Some k) same in
      let inside = device_inside c phase known least true table are (slice_index least n) d (device.0, device.3) owned in
      let here : IsInPart c phase true n d = (inside.0, inside.1, together_further c phase true n (slice_index least n) inside.0 (are n p).together inside.2, inside.3, inside.4) in
      inl (d, here, device.4.gate, subst (IsUnknown c phase) device.4.gate (unknown_gate c phase known d.gate.0 table (unknown_parts known d device.4.unknown).1))

  over_link : (m x n : ℕ) → IsWholeArcBelow c phase least (length c.wholes) m x → IsNetArc c least x n → HasArc c phase m n
  over_link m x n whole net =
      let p = plain_is c n net.plain in
      let w : Whole = whole.1 in
      let link : Link = whole.4.1 in
      let by : IsLinkArc c phase least w link m x = whole.4.4 in
      let one = net.part in
      let two = by.part in
      let same : by.owner ≡ slice_index least n = omega (arith, one, two) in
      let leads = target_leads c phase least n w link are p (whole.0, whole.3) (whole.4.0, whole.4.3) by.stands (by.owned ∙ ap (λ (k : ℕ). Some k) same) in
      inr (w, link, subst (λ (k : ℕ). Leads c phase w link k n) by.net leads)

  -- over a part an arc of the circuit leads from net to net
  over_part : (m x n : ℕ) → ArcIn graph m x → ArcIn graph x n → m < length least → HasArc c phase m n
  over_part m x n up down lt =
      let high = from_net m x up lt in
      let net = to_net x n down (from_part x n down high) in
      elim (to_part m x up high) [ inl device ↦ over_device m x n device net | inr whole ↦ over_link m x n whole net ]

  -- and each arc of the circuit is one over a part
  part_arc : (m n : ℕ) → HasArc c phase m n → IsPartArc m (length least + slice_index least n)
  part_arc m n (inl gate) =
      let d : Device = gate.0 in
      let inside = gate.1 in
      let p = together_first c phase true n inside.0 inside.2 in
      let k = slice_index least n in
      let own : slice_index least k ≡ k = sym (same_least_net c phase known least true table are n k (are n p).together) in
      let here : IsInPart c phase true k d = (inside.0, inside.1, together_further c phase true k n inside.0 (together_back c phase true n k (are n p).together) inside.2, inside.3, inside.4) in
      let owner : device_owner c known least true d ≡ Some k = inside_device c phase known least true table are k d own here in
      let there = device_among true c d inside.3.0 in
      let none : known_at known d.gate.0 ≡ None = unknown_entry c phase known d.gate.0 table (known_at known d.gate.0) refl (subst (IsUnknown c phase) (sym gate.2) gate.3) in
      let unknown : has_unknown_gate known d ≡ true = and_from (is_in true d) (is_none (known_at known d.gate.0)) there.1 (ap is_none none) in
      inl (there.0.0, d, slice_get_within c.devices there.0.0 d there.0.1, there.0.1, record { unknown = unknown; gate = gate.2; owner = k; owned = owner; part = refl })
  part_arc m n (inr (w, link, leads)) =
      let target = leads_target c phase known least w link m n table are leads in
      let by : IsLinkArc c phase least w link m (length least + slice_index least n) =
      record { stands = (bytes_eq-Decides link.phase phase.name).1 leads.2; net = leads.3; owner = slice_index least n; owned = target; part = refl } in
      inr (leads.0.0, w, slice_get_within c.wholes leads.0.0 w leads.0.1, leads.0.1, (leads.1.0, link, slice_get_within w.links leads.1.0 link leads.1.1, leads.1.1, by))

  -- it leads to the part of its net
  by_part : (m n : ℕ) → HasArc c phase m n → ArcIn graph m (length least + slice_index least n)
  by_part m n arc =
      let k = slice_index least n in
      let p = arc_to_plain c phase m n arc in
      let low = below n in
      let net = slice_get_within c.nets n p.0 p.1 in
      let size = is.size in
      let inside : length least + k < length graph = omega (arith, low, net, size, len) in
      elim (part_arc m n arc) [ inl device ↦ is.devices m (length least + k) device inside | inr whole ↦ is.wholes m (length least + k) whole inside ]

  -- and from the part of a plain net an arc leads to that net
  own_part : (n : ℕ) → IsPlain c n → ArcIn graph (length least + slice_index least n) n
  own_part n p =
      let net = slice_get_within c.nets n p.0 p.1 in
      is.nets (length least + slice_index least n) n (omega (arith, net, len), record { plain = is_plain_is c n p; part = refl })

  pub graph_has_turns : HasTurns c phase least graph
  graph_has_turns = record { to_net = to_net; from_net = from_net; from_part = from_part; over_part = over_part; by_part = by_part; own_part = own_part }

  -- ---- cycles

  abbrev is_net : ℕ → Bool
  is_net x = nat_lt x (length least)

  net_kept : (x : ℕ) (xs : List ℕ) → x < length least → filter is_net (x ∷ xs) ≡ x ∷ filter is_net xs
  net_kept x xs lt = cond-true (is_net x) (x ∷ filter is_net xs) (filter is_net xs) (lt-ltb x (length least) lt)

  part_dropped : (x : ℕ) (xs : List ℕ) → length least ≤ x → filter is_net (x ∷ xs) ≡ filter is_net xs
  part_dropped x xs le = cond-false (is_net x) (x ∷ filter is_net xs) (filter is_net xs) (le-ltb x (length least) le)

  -- a walk from a net to a part, without its parts
  record NetWalk (m last : ℕ) (nets : List ℕ) : Type 0 where
    end : ℕ
    walk : IsWalk (HasArc c phase) m nets end
    net : end < length least
    arc : ArcIn graph end last

  net_walk : (nodes : List ℕ) (m last : ℕ) → m < length least → length least ≤ last → IsWalk (ArcIn graph) m nodes last → NetWalk m last (filter is_net nodes)
  net_walk [] m last lt le walk = absurd (omega (arith, lt, le, walk))
  net_walk (x ∷ []) m last lt le walk =
      let high = from_net m x walk.0 lt in
      subst (NetWalk m last) (sym (part_dropped x [] high)) (record { end = m; walk = refl; net = lt; arc = subst (ArcIn graph m) walk.1 walk.0 })
  net_walk (x ∷ n ∷ nodes) m last lt le walk =
      let high = from_net m x walk.0 lt in
      let low = from_part x n walk.1.0 high in
      let rest = net_walk nodes n last low le walk.1.1 in
      subst (NetWalk m last) (sym (part_dropped x (n ∷ nodes) high ∙ net_kept n nodes low))
      (record { end = rest.end; walk = (over_part m x n walk.0 walk.1.0 lt, rest.walk); net = rest.net; arc = rest.arc })

  -- a cycle of the graph, without its parts, is one of the circuit
  net_cycle : (m : ℕ) (nodes : List ℕ) → m < length least → IsCycle (ArcIn graph) (m ∷ nodes) → IsCycle (HasArc c phase) (m ∷ filter is_net nodes)
  net_cycle m nodes lt cycle =
      let part = (to_net cycle.0 m cycle.2 lt).part in
      let walk = net_walk nodes m cycle.0 lt (omega (arith, part)) cycle.1 in
      (walk.end, walk.walk, over_part walk.end cycle.0 m walk.arc cycle.2 walk.net)

  -- and a walk of the circuit one of the graph
  graph_walk : (nets : List ℕ) (m last : ℕ) → IsWalk (HasArc c phase) m nets last → (nodes : List ℕ) × IsWalk (ArcIn graph) m nodes last
  graph_walk [] m last walk = ([], walk)
  graph_walk (n ∷ nets) m last walk =
      let rest = graph_walk nets n last walk.1 in
      ((length least + slice_index least n) ∷ n ∷ rest.0, (by_part m n walk.0, (own_part n (arc_to_plain c phase m n walk.0), rest.1)))

  graph_cycle : (m : ℕ) (nets : List ℕ) → IsCycle (HasArc c phase) (m ∷ nets) → (nodes : List ℕ) × IsCycle (ArcIn graph) (m ∷ nodes)
  graph_cycle m nets cycle =
      let walk = graph_walk nets m cycle.0 cycle.1 in
      let part = length least + slice_index least m in
      let up = by_part cycle.0 m cycle.2 in
      (walk.0 ++ part ∷ [], (part, walk_further (ArcIn graph) walk.0 m cycle.0 part walk.1 up, own_part m (arc_to_plain c phase cycle.0 m cycle.2)))

  -- the least number on any cycle is that of a net
  first_net : (m : ℕ) (nodes : List ℕ) → IsCycle (ArcIn graph) (m ∷ nodes) → ((k : ℕ) (others : List ℕ) → IsCycle (ArcIn graph) (k ∷ others) → m ≤ k) → m < length least
  first_net m nodes cycle least_of = elim (cases_lt m (length least)) [
    | inl lt ↦ lt
    | inr le ↦ absurd (turned nodes cycle le)
  ]
    where
      turned : (nodes : List ℕ) → IsCycle (ArcIn graph) (m ∷ nodes) → length least ≤ m → ⊥
      turned [] cycle le =
          let same = cycle.1 in
          let low = from_part m m (subst (λ (x : ℕ). ArcIn graph x m) (sym same) cycle.2) le in
          omega (arith, low, le)
      turned (n ∷ rest) cycle le =
          let low = from_part m n cycle.1.0 le in
          let first = least_of n (rest ++ m ∷ []) (m, walk_further (ArcIn graph) rest n cycle.0 m cycle.1.1 cycle.2, cycle.1.0) in
          omega (arith, low, le, first)

  -- the first cycle of the graph, without its parts, is the first of the circuit
  pub first_nets : (nodes : List ℕ) → IsFirstCycle (ArcIn graph) nodes → IsFirstCycle (HasArc c phase) (filter is_net nodes)
  first_nets [] first = absurd first.0
  first_nets (m ∷ nodes) first =
      let lt = first_net m nodes first.0 first.1 in
      subst (IsFirstCycle (HasArc c phase)) (sym (net_kept m nodes lt)) (
        net_cycle m nodes lt first.0,
        λ k others cycle. let around = graph_cycle k others cycle in first.1 k around.0 around.1,
      )

  pub none_nets : ((nodes : List ℕ) → ¬ IsCycle (ArcIn graph) nodes) → (nets : List ℕ) → ¬ IsCycle (HasArc c phase) nets
  none_nets none [] cycle = cycle
  none_nets none (m ∷ nets) cycle = let around = graph_cycle m nets cycle in none (m ∷ around.0) around.1
