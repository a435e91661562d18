-- Levels over the sources of parts are the ranks; where a part has none, arcs lead around.
use Rattle.std.proofs.Common.{◌≡◌, ℕ, ◌<◌, Bool, true, false, cond, List, [], length, None, Option, Some, slice_index, arith, ap, subst, sym, refl, ◌∙◌, inl, inr}
use Rattle.std.specs.Prelude.{is_none}
use Rattle.std.proofs.lemmas.Bool.{and_from, cases_Bool, cond-false, cond-true, false≢true, or_cases, or_left, or_right}
use Rattle.std.proofs.lemmas.Option.{none-some, slice_get_within}
use Rattle.std.proofs.lemmas.Slice.Eq.{bytes_eq-Decides}
use Rattle.channel_parts.proofs.Acyclic.{none_plain}
use Rattle.channel_parts.proofs.ArcLaws.{arc_to_plain, counts_arc}
use Rattle.channel_parts.proofs.Labels.{together_further}
use Rattle.channel_parts.proofs.LinkLaws.{leads_target, target_leads}
use Rattle.channel_parts.proofs.PartLaws.{device_inside, inside_device, owner_plain, plain_owner, same_least_net}
use Rattle.channel_parts.proofs.RankLaws.{rank_given, rank_plain, together_back, unknown_entry, unknown_gate, unknown_parts}
use Rattle.channel_parts.specs.Groups.{device_owner, net_owner}
use Rattle.channel_parts.specs.Labels.{AreBelow}
use Rattle.channel_parts.specs.Links.{is_counted}
use Rattle.channel_parts.specs.NetGraphs.{ArcsBelow}
use Rattle.channel_parts.specs.Ranks.{AreLeast, IsAcyclicArcs, has_unknown_gate, rank_by}
use Rattle.channel_parts.specs.Sources.{AreSources, IsBetween, IsLinkBetween, IsSource, IsWholeBetween, device_source}
use Rattle.graphs.specs.Graphs.{ArcIn, AreInside}
use Rattle.graphs.specs.Levels.{AreLevels, AreStuck}
use Rattle.known_nets.proofs.NetKinds.{plain_is}
use Rattle.known_nets.proofs.PlaceLaws.{arc_row}
use Rattle.known_nets.specs.Conduction.{is_plain_at}
use Rattle.known_nets.specs.KnownTables.{IsKnownTable, known_at}
use Rattle.known_nets.specs.Placed.{Adds}
use Rattle.vrt_model.proofs.Filtered.{device_among}
use Rattle.vrt_model.proofs.Ranked.{together_first}
use Rattle.vrt_model.specs.Known.{HasArc, HasGateArc, HasRankArc, IsInPart, IsPlain, IsRanking, IsUnknown, Leads}
use Rattle.vrt_model.specs.Lists.{At}
use Rattle.vrt_model.specs.Reading.{is_in}
use Rattle.vrt_model.specs.declared.circuit.Circuit.{Circuit}
use Rattle.vrt_model.specs.declared.circuit.Device.{Device}
use Rattle.vrt_model.specs.declared.rules.Phase.{Phase}
use Rattle.vrt_model.specs.declared.whole.Link.{Link}
use Rattle.vrt_model.specs.declared.whole.Whole.{Whole}

-- ---- the table of sources

-- the arcs of the devices and those of the links, added to a table without arcs
pub adds_sources : (c : Circuit) (phase : Phase) (known : List (Option Bool)) (least : List ℕ) (none mid table : List (List ℕ)) → length none ≡ length least
    → ((k : ℕ) (row : List ℕ) → At none k row → row ≡ []) → Adds (ArcsBelow c.devices (IsBetween c known least) (length c.devices)) none mid
    → Adds (ArcsBelow c.wholes (IsWholeBetween c phase known least) (length c.wholes)) mid table → AreSources c phase known least table
adds_sources c phase known least none mid table size empty first second = record {
  count = second.count ∙ first.count ∙ size;
  only = λ f t arc. elim (second.only f t arc) [
    | inr whole ↦ inr whole
    | inl before ↦ elim (first.only f t before) [
      | inl o ↦ (let at = arc_row none f t o in absurd (none-some f (subst (λ (r : List ℕ). At r at.2.0 f) (empty t at.0 at.1) at.2.1)))
      | inr device ↦ inl device
    ]
  ];
  all = λ f t arc lt. let count = second.count in elim arc [
    | inl device ↦ second.stays f t (first.joined f t device (let one = first.count in omega (arith, lt, count, one)))
    | inr whole ↦ second.joined f t whole (omega (arith, lt, count))
  ];
}

-- ---- what is in the table

source_parts : (c : Circuit) (known : List (Option Bool)) (least : List ℕ) (d : Device) (q : ℕ) → device_source c known least d ≡ Some q → (has_unknown_gate known d ≡ true) × IsPlain c d.gate.0 × (slice_index least d.gate.0 ≡ q)
source_parts c known least d q e = pick (has_unknown_gate known d) refl e
  where
    pick : (b : Bool) → has_unknown_gate known d ≡ b → cond b (net_owner c least d.gate.0) None ≡ Some q → (has_unknown_gate known d ≡ true) × IsPlain c d.gate.0 × (slice_index least d.gate.0 ≡ q)
    pick true u e = (let own = owner_plain c least d.gate.0 q e in (u, own.0, own.1))
    pick false u e = absurd (none-some q e)

-- a source of a part is the least net of a plain net from which a device or a link leads
source_net : (c : Circuit) (phase : Phase) (known : List (Option Bool)) (least : List ℕ) (from to : ℕ) → IsSource c phase known least from to → (n : ℕ) × IsPlain c n × (slice_index least n ≡ from)
source_net c phase known least from to (inl device) =
    let own = source_parts c known least device.1 from device.4.0 in
    (device.1.gate.0, own.1, own.2)
source_net c phase known least from to (inr whole) =
    let link : Link = whole.4.1 in
    let own = owner_plain c least link.from.0 from whole.4.4.between.0 in
    (link.from.0, own.0, own.1)

pub sources_inside : (c : Circuit) (phase : Phase) (known : List (Option Bool)) (least : List ℕ) (table : List (List ℕ)) → length least ≡ length c.nets → AreBelow least → AreSources c phase known least table → AreInside table
sources_inside c phase known least table len below so from to arc =
    let net = source_net c phase known least from to (so.only from to arc) in
    let inside = slice_get_within c.nets net.0 net.1.0 net.1.1 in
    let low = below net.0 in
    let count = so.count in
    let same = net.2 in
    omega (arith, inside, low, count, same, len)

-- a link that counts for ranks where it leads
rank_arc_by : (c : Circuit) (phase : Phase) (known : List (Option Bool)) (w : Whole) (link : Link) (n m : ℕ) → IsKnownTable c phase (known_at known) → link.from.0 ≡ n → is_counted known link ≡ true
    → Leads c phase w link n m → HasRankArc c phase n m
rank_arc_by c phase known w link n m table e counted leads =
    elim (or_cases link.named (is_none (known_at known link.from.0)) counted) [
      | inl named ↦ inr (w, link, named, leads)
      | inr none ↦ inl (inr (w, link, leads), subst (IsUnknown c phase) e (unknown_gate c phase known link.from.0 table (entry (known_at known link.from.0) none)))
    ]
  where
    entry : (o : Option Bool) → is_none o ≡ true → o ≡ None
    entry None t = refl
    entry (Some v) t = absurd (false≢true t)

-- ---- the ranks

module _ (c : Circuit) (phase : Phase) (known : List (Option Bool)) (least : List ℕ) (table : IsKnownTable c phase (known_at known)) (are : AreLeast c phase least)
    (len : length least ≡ length c.nets) (below : AreBelow least) (sources : List (List ℕ)) (so : AreSources c phase known least sources) (levels : List ℕ) where
  -- a source of a part leads an arc that counts to each net of the part
  device_arc : (m q : ℕ) → IsPlain c m → ArcsBelow c.devices (IsBetween c known least) (length c.devices) q (slice_index least m) → (n : ℕ) × IsPlain c n × (slice_index least n ≡ q) × HasRankArc c phase n m
  device_arc m q p from =
      let d : Device = from.1 in
      let own = source_parts c known least d q from.4.0 in
      let inside = device_inside c phase known least true table are (slice_index least m) d (from.0, from.3) from.4.1 in
      let here : IsInPart c phase true m d = (inside.0, inside.1, together_further c phase true m (slice_index least m) inside.0 (are m p).together inside.2, inside.3, inside.4) in
      let unknown = unknown_gate c phase known d.gate.0 table (unknown_parts known d own.0).1 in
      (d.gate.0, own.1, own.2, inl (inl (d, here, refl, unknown), unknown))

  link_arc : (m q : ℕ) → IsPlain c m → ArcsBelow c.wholes (IsWholeBetween c phase known least) (length c.wholes) q (slice_index least m) → (n : ℕ) × IsPlain c n × (slice_index least n ≡ q) × HasRankArc c phase n m
  link_arc m q p from =
      let w : Whole = from.1 in
      let link : Link = from.4.1 in
      let by : IsLinkBetween c phase known least w link q (slice_index least m) = from.4.4 in
      let own = owner_plain c least link.from.0 q by.between.0 in
      let leads = target_leads c phase least m w link are p (from.0, from.3) (from.4.0, from.4.3) by.stands by.between.1 in
      (link.from.0, own.0, own.1, rank_arc_by c phase known w link link.from.0 m table refl by.counted leads)

  source_arc : (m q : ℕ) → IsPlain c m → ArcIn sources q (slice_index least m) → (n : ℕ) × IsPlain c n × (slice_index least n ≡ q) × HasRankArc c phase n m
  source_arc m q p arc = elim (so.only q (slice_index least m) arc) [ inl device ↦ device_arc m q p device | inr whole ↦ link_arc m q p whole ]

  level_in : (m : ℕ) → IsPlain c m → slice_index least m < length sources
  level_in m p = let low = below m in let inside = slice_get_within c.nets m p.0 p.1 in let count = so.count in omega (arith, low, inside, count, len)

  -- and an arc that counts from a plain net comes from a source
  gate_source : (n m : ℕ) → IsPlain c n → HasGateArc c phase n m → ArcIn sources (slice_index least n) (slice_index least m)
  gate_source n m p gate =
      let d : Device = gate.0 in
      let inside = gate.1 in
      let pm = together_first c phase true m inside.0 inside.2 in
      let k = slice_index least m in
      let own : slice_index least k ≡ k = sym (same_least_net c phase known least true table are m k (are m pm).together) in
      let here : IsInPart c phase true k d = (inside.0, inside.1, together_further c phase true k m inside.0 (together_back c phase true m k (are m pm).together) inside.2, inside.3, inside.4) in
      let owner : device_owner c known least true d ≡ Some k = inside_device c phase known least true table are k d own here in
      let there = device_among true c d inside.3.0 in
      let none : known_at known d.gate.0 ≡ None = unknown_entry c phase known d.gate.0 table (known_at known d.gate.0) refl (subst (IsUnknown c phase) (sym gate.2) gate.3) in
      let unknown : has_unknown_gate known d ≡ true = gate_unknown d there.1 none in
      let source : device_source c known least d ≡ Some (slice_index least n) =
      cond-true (has_unknown_gate known d) (net_owner c least d.gate.0) None unknown ∙ ap (net_owner c least) gate.2 ∙ plain_owner c least n (slice_index least n) p refl in
      so.all (slice_index least n) k (inl (there.0.0, d, slice_get_within c.devices there.0.0 d there.0.1, there.0.1, (source, owner))) (level_in m pm)
    where
      gate_unknown : (d : Device) → is_in true d ≡ true → known_at known d.gate.0 ≡ None → has_unknown_gate known d ≡ true
      gate_unknown d bare none = and_from (is_in true d) (is_none (known_at known d.gate.0)) bare (ap is_none none)

  link_source : (n m : ℕ) (w : Whole) (link : Link) → IsPlain c n → Leads c phase w link n m → is_counted known link ≡ true → ArcIn sources (slice_index least n) (slice_index least m)
  link_source n m w link p leads counted =
      let pm = together_first c phase true m leads.4.0.net.0 leads.4.2 in
      let target = leads_target c phase known least w link n m table are leads in
      let source : net_owner c least link.from.0 ≡ Some (slice_index least n) = ap (net_owner c least) leads.3 ∙ plain_owner c least n (slice_index least n) p refl in
      let by : IsLinkBetween c phase known least w link (slice_index least n) (slice_index least m) =
      record { stands = (bytes_eq-Decides link.phase phase.name).1 leads.2; counted = counted; between = (source, target) } in
      so.all (slice_index least n) (slice_index least m)
      (inr (leads.0.0, w, slice_get_within c.wholes leads.0.0 w leads.0.1, leads.0.1, (leads.1.0, link, slice_get_within w.links leads.1.0 link leads.1.1, leads.1.1, by)))
      (level_in m pm)

  arc_source : (n m : ℕ) → IsPlain c n → HasRankArc c phase n m → ArcIn sources (slice_index least n) (slice_index least m)
  arc_source n m p (inl (inl gate, unknown)) = gate_source n m p gate
  arc_source n m p (inl (inr (w, link, leads), unknown)) =
      let none : known_at known link.from.0 ≡ None = unknown_entry c phase known link.from.0 table (known_at known link.from.0) refl (subst (IsUnknown c phase) (sym leads.3) unknown) in
      link_source n m w link p leads (or_right link.named (is_none (known_at known link.from.0)) (ap is_none none))
  arc_source n m p (inr (w, link, named, leads)) = link_source n m w link p leads (or_left link.named (is_none (known_at known link.from.0)) named)

  pub levels_rank : AreLevels sources levels → ((n : ℕ) → n < length sources → 0 < slice_index levels n) → IsRanking c phase (rank_by c least levels)
  levels_rank are_levels all = record {
    given = λ n net e g. rank_given c least levels n (net, e, g);
    above = above;
    reached = λ m p.
        let m_rank = rank_plain c least levels m p in
        elim (are_levels.reached (slice_index least m) (all (slice_index least m) (level_in m p))) [
          | inl one ↦ inl (m_rank ∙ one)
          | inr from ↦
              let arc = source_arc m from.0 p from.1 in
              let n_rank : rank_by c least levels arc.0 ≡ slice_index levels from.0 = rank_plain c least levels arc.0 arc.1 ∙ ap (slice_index levels) arc.2 in
              let up = from.2 in
              inr (arc.0, arc.3, omega (arith, m_rank, n_rank, up))
        ];
  }
    where
      above : (n m : ℕ) → HasRankArc c phase n m → rank_by c least levels n < rank_by c least levels m
      above n m arc =
          let pm = arc_to_plain c phase n m (counts_arc c phase n m arc) in
          let m_rank = rank_plain c least levels m pm in
          let some = all (slice_index least m) (level_in m pm) in
          elim (cases_Bool (is_plain_at c n)) [
            | inl e ↦
                let p = plain_is c n e in
                let n_rank = rank_plain c least levels n p in
                let less = (are_levels.above (slice_index least m) (slice_index least n) (arc_source n m p arc) some).1 in
                omega (arith, m_rank, n_rank, less)
            | inr f ↦ (let z = cond-false (is_plain_at c n) (slice_index levels (slice_index least n)) 0 f in omega (arith, m_rank, some, z))
          ]

  -- a net of a part without a level is behind another
  stuck_back : AreStuck sources levels → (m : ℕ) → IsPlain c m → slice_index levels (slice_index least m) ≡ 0 → (n : ℕ) × IsPlain c n × HasArc c phase n m × (slice_index levels (slice_index least n) ≡ 0)
  stuck_back stuck m p none =
      let from = stuck (slice_index least m) (level_in m p) none in
      let arc = source_arc m from.0 p from.1 in
      (arc.0, arc.1, counts_arc c phase arc.0 m arc.3, ap (slice_index levels) arc.2 ∙ from.2)

  -- and where any part has none, some net's part has none
  stuck_net : AreStuck sources levels → (k : ℕ) → k < length sources → slice_index levels k ≡ 0 → (m : ℕ) × IsPlain c m × (slice_index levels (slice_index least m) ≡ 0)
  stuck_net stuck k lt none =
      let from = stuck k lt none in
      let net = source_net c phase known least from.0 k (so.only from.0 k from.1) in
      (net.0, net.1, ap (slice_index levels) net.2 ∙ from.2)

  -- so the arcs have a cycle
  pub stuck_around : AreStuck sources levels → (k : ℕ) → k < length sources → slice_index levels k ≡ 0 → IsAcyclicArcs c phase → ⊥
  stuck_around stuck k lt none acyclic =
      let first = stuck_net stuck k lt none in
      none_plain c phase (λ (m : ℕ). IsPlain c m × (slice_index levels (slice_index least m) ≡ 0)) (λ m p. p.0)
      (λ m p. let next = stuck_back stuck m p.0 p.1 in (next.0, (next.1, next.3), next.2)) acyclic first.0 (first.1, first.2)
