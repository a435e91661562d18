-- The parts of the kept circuit, one after the other: what their words say stays.
use Rattle.std.proofs.Common.{◌≡◌, ℕ, zero, suc, ◌+◌, ◌<◌, Bool, true, List, [], ◌∷◌, Option, None, ◌⊎◌, length, arith, ap, sym, subst, ◌∙◌, inl, inr}
use Rattle.std.specs.Prelude.{is_some, slice_get}
use Rattle.std.proofs.lemmas.Bool.{cases_eq, false≢true}
use Rattle.std.proofs.lemmas.Option.{same_Some, slice_get_within}
use Rattle.bdd_core.specs.Diagram.{IsWithin, Valuation, meaning}
use Rattle.bdd_core.specs.Store.{Diagrams}
use Rattle.bdd_core.specs.Words.{shows, word_at}
use Rattle.bdd_ops.proofs.WithinLaws.{within_same}
use Rattle.channel_parts.specs.declared.part.Part.{Part}
use Rattle.circuit_faults.proofs.CircuitLaws.{inside_or_not}
use Rattle.circuit_faults.proofs.KeptWords.{gates_shown, inside_range, roots_shown}
use Rattle.circuit_faults.specs.KeptResults.{HasKeptSpans, WritesKept}
use Rattle.circuit_faults.specs.KeptScans.{IsInSolved, IsPartReached, IsReached, IsReachedIn, ReadWithin, reach_span}
use Rattle.circuit_faults.specs.Scans.{IsInside, free_part}
use Rattle.circuit_faults.specs.declared.spans.KeptSpans.{KeptSpans}
use Rattle.node_pool.specs.declared.region.Span.{Span}
use Rattle.path_fixpoint.proofs.Spreading.{device_ranges}
use Rattle.path_fixpoint.specs.Parts.{IsPart, pins_of}
use Rattle.path_fixpoint.specs.Solved.{net_of, network_at}
use Rattle.vrt_model.proofs.Members.{all_among, at_none}
use Rattle.vrt_model.specs.Networks.{HasRanges}
use Rattle.vrt_model.proofs.SameNetwork.{IsPartOf, reaches_same}
use Rattle.vrt_model.specs.Circuits.{IsHold}
use Rattle.vrt_model.specs.Lists.{At, Among}
use Rattle.vrt_model.specs.Reading.{conducts_at}
use Rattle.vrt_model.specs.Response.{Reaches}
use Rattle.vrt_model.specs.declared.circuit.Circuit.{Circuit}
use Rattle.vrt_model.specs.declared.circuit.Hold.{Hold}
use Rattle.whole_steps.specs.declared.table.OutputPlace.{OutputPlace}

-- ---- networks of a part in two stores

-- where the handles at all nets of the circuit show the same bits, the one network has what the other has
module _ (c : Circuit) (part : Part) (ranges : HasRanges c) (gates roots : Span) (one two : Diagrams) (v : Valuation)
    (same_gates : (n : ℕ) → n < length c.nets → shows one gates n v ≡ shows two gates n v)
    (same_roots : (n : ℕ) → n < length c.nets + length (pins_of c) → shows one roots n v ≡ shows two roots n v) where
  held_same : (at : ℕ) (hold : Hold) → At c.holds at hold → shows one roots (net_of (slice_get c.holds at)) v ≡ shows two roots (net_of (slice_get c.holds at)) v
  held_same at hold e =
      subst (λ (o : Option Hold). shows one roots (net_of o) v ≡ shows two roots (net_of o) v) (sym e)
      (same_roots hold.net.0 (let lt = (all_among (IsHold c) c.holds hold ranges.holds (at, e)).net in omega (arith, lt)))

  pub network_part : IsPartOf (network_at one c part gates roots v) (network_at two c part gates roots v)
  network_part = record {
    roots = λ root r. elim r [
      | inl g ↦ inl (g.0, g.1, g.2, g.3, g.4 ∙ same_roots root.net (let lt = slice_get_within c.nets root.net g.0 g.1 in omega (arith, lt)))
      | inr other ↦ elim other [
        | inl h ↦ inr (inl (h.0, h.1, h.2, h.3, h.4, h.5 ∙ held_same h.0 h.1 h.2))
        | inr o ↦ inr (inr (o.0, o.1, o.2, o.3, o.4, o.5 ∙ same_roots (length c.nets + o.0) (let lt = slice_get_within (pins_of c) o.0 o.1 o.2 in omega (arith, lt))))
      ]
    ];
    devices = λ d on.
        (on.0, subst (λ (b : Bool). conducts_at d.kind b ≡ true) (same_gates d.gate.0 (device_ranges c part d ranges on.0).gate) on.1);
  }

pub network_reaches : (c : Circuit) (part : Part) (ranges : HasRanges c) (gates roots : Span) (one two : Diagrams) (v : Valuation)
    → ((n : ℕ) → n < length c.nets → shows one gates n v ≡ shows two gates n v) → ((n : ℕ) → n < length c.nets + length (pins_of c) → shows one roots n v ≡ shows two roots n v)
    → (n : ℕ) (value : Bool) → Reaches (network_at one c part gates roots v) n value → Reaches (network_at two c part gates roots v) n value
network_reaches c part ranges gates roots one two v same_gates same_roots n value r =
    reaches_same (network_at one c part gates roots v) (network_at two c part gates roots v)
    (network_part c part ranges gates roots one two v same_gates same_roots)
    (network_part c part ranges gates roots two one v (λ m lt. sym (same_gates m lt)) (λ m lt. sym (same_roots m lt))) n value r

-- ---- one part more

-- a list of one part that is among others
pub one_part : (parts : List Part) (part : Part) → Among parts part → (other : Part) → Among (part ∷ []) other → Among parts other
one_part parts part m other (zero, e) = subst (Among parts) (same_Some part other e) m
one_part parts part m other (suc i, e) = absurd (at_none i other e)

-- the nets of parts are nets of the circuit
pub solved_range : (c : Circuit) (drivers : List (Option OutputPlace)) (parts : List Part) → ((part : Part) → Among parts part → IsPart c part) → (k n : ℕ) → IsInSolved drivers parts k n → n < length c.nets
solved_range c drivers parts are k n e = inside_range c e.1 (are e.1 (e.0, e.3)) n e.4

-- a net of a part before the next place that is solved is in one before this place, or in the one here
pub solved_or_last : (drivers : List (Option OutputPlace)) (parts : List Part) (k : ℕ) (part : Part) → At parts k part → (n : ℕ) → IsInSolved drivers parts (k + 1) n
    → IsInSolved drivers parts k n ⊎ (IsInside part n × (free_part drivers part ≡ None))
solved_or_last drivers parts k part here n e =
    elim (cases_eq e.0 k) [
      | inl same ↦ inr (
          let p : e.1 ≡ part = same_Some e.1 part (sym e.3 ∙ ap (slice_get parts) same ∙ here) in
          subst (λ (q : Part). IsInside q n × (free_part drivers q ≡ None)) p (e.4, e.5)
          )
      | inr ne ↦ inl (e.0, e.1, (let lt = e.2 in omega (arith, lt, ne)), e.3, e.4, e.5)
    ]

-- where the part here is not solved, nothing is added
pub solved_skipped : (drivers : List (Option OutputPlace)) (parts : List Part) (k : ℕ) (part : Part) → At parts k part → is_some (free_part drivers part) ≡ true
    → (n : ℕ) → IsInSolved drivers parts (k + 1) n → IsInSolved drivers parts k n
solved_skipped drivers parts k part here some n e =
    elim (solved_or_last drivers parts k part here n e) [ inl low ↦ low | inr last ↦ absurd (false≢true (sym (ap (λ (o : Option OutputPlace). is_some o) last.1) ∙ some)) ]

module _ (c : Circuit) (drivers : List (Option OutputPlace)) (parts : List Part) (spans : KeptSpans) (ranges : HasRanges c) (first now new : Diagrams) (has : HasKeptSpans c parts spans first)
    (before : WritesKept spans first now) (step : WritesKept spans now new) (k : ℕ) (part : Part) (here : At parts k part)
    (in_range : (n : ℕ) → IsInSolved drivers parts k n → n < length c.nets)
    (reached : (n : ℕ) → IsInSolved drivers parts k n → IsReachedIn c parts spans k first now n) (solved : IsPartReached c part spans now new) where
  -- at a net of the part, as the first store has it
  net_first : (n : ℕ) → IsInside part n → IsReached c part spans n first new
  net_first n inside =
      let r = solved.nets n inside in
      record {
        live = r.live;
        reaches = λ value v.
            let gates = λ (m : ℕ) (lt : m < length c.nets). gates_shown c parts spans first has now before m v lt in
            let roots = λ (m : ℕ) (lt : m < length c.nets + length (pins_of c)). roots_shown c parts spans first has now before m v lt in
            let t = r.reaches value v in (
              λ e. network_reaches c part ranges spans.gates spans.roots now first v gates roots n value (t.0 e),
              λ q. t.1 (network_reaches c part ranges spans.gates spans.roots first now v (λ m lt. sym (gates m lt)) (λ m lt. sym (roots m lt)) n value q),
            );
      }

  -- a net of a part before it that is not in this one
  net_stays : (n : ℕ) (old_part : Part) → n < length c.nets → (¬ IsInside part n) → IsReached c old_part spans n first now → IsReached c old_part spans n first new
  net_stays n old_part lt away r = record {
    live = λ value. (let same = solved.others n value lt away in let live = r.live value in omega (arith, same, live, step.adds.longer));
    reaches = λ value v.
        let same : shows new (reach_span spans value) n v ≡ shows now (reach_span spans value) n v =
        ap (λ (h : ℕ). meaning new.nodes h v) (solved.others n value lt away) ∙ step.adds.kept (word_at now (reach_span spans value) n) (r.live value) v in
        let t = r.reaches value v in
        (λ e. t.0 (sym same ∙ e), λ q. same ∙ t.1 q);
  }

  pub reached_more : (n : ℕ) → IsInSolved drivers parts (k + 1) n → IsReachedIn c parts spans (k + 1) first new n
  reached_more n e =
      elim (inside_or_not part n) [
        | inl inside ↦ (k, part, omega arith, here, inside, net_first n inside)
        | inr away ↦ elim (solved_or_last drivers parts k part here n e) [
          | inl low ↦ (let r = reached n low in (r.0, r.1, (let lt = r.2 in omega (arith, lt)), r.3, r.4, net_stays n r.1 (in_range n low) away r.5))
          | inr last ↦ absurd (away last.0)
        ]
      ]

  -- the handles of these nets
  pub within_more : (u : ℕ) → ReadWithin u spans (IsInSolved drivers parts k) now → ReadWithin u spans (IsInside part) new → ReadWithin u spans (IsInSolved drivers parts (k + 1)) new
  within_more u low inside n value e =
      elim (inside_or_not part n) [
        | inl i ↦ inside n value i
        | inr away ↦ elim (solved_or_last drivers parts k part here n e) [
          | inl m ↦
              let same : word_at new (reach_span spans value) n ≡ word_at now (reach_span spans value) n = solved.others n value (in_range n m) away in
              let r = reached n m in
              subst (λ (h : ℕ). IsWithin u (meaning new.nodes h)) (sym same)
              (within_same u (meaning now.nodes (word_at now (reach_span spans value) n)) (meaning new.nodes (word_at now (reach_span spans value) n))
              (step.adds.kept (word_at now (reach_span spans value) n) (r.5.live value)) (low n value m))
          | inr last ↦ absurd (away last.0)
        ]
      ]
