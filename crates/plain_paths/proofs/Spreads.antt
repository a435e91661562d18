-- The steps of the rounds over marks.
use Rattle.std.proofs.Common.{◌≡◌, ℕ, ◌≤◌, ◌⊎◌, min, Bool, true, false, List, length, replicate, ap, slice_index, arith, sym, subst, refl, ◌∙◌, inl, inr}
use Rattle.std.specs.Prelude.{◌↔◌}
use Rattle.std.proofs.lemmas.Bool.{false≢true, cases_lt}
use Rattle.std.proofs.lemmas.List.{get_or-replicate, get_or_past, length-replicate}
use Rattle.vrt_model.proofs.Clear.{HopFits, RootFits, arrives-reaches, reaches-arrives}
use Rattle.vrt_model.proofs.Marks.{HasMarksWithin, HasRootMarks, HasSpread, marks_all, marks_closed}
use Rattle.vrt_model.proofs.Members.{at_none}
use Rattle.vrt_model.proofs.PathKinds.{Arrives, arrives_on, arrives_root}
use Rattle.vrt_model.proofs.ShortPaths.{path_short}
use Rattle.vrt_model.specs.Levels.{source_level}
use Rattle.vrt_model.specs.Lists.{At, Among, mark_at}
use Rattle.vrt_model.specs.Path.{Hop, IsOn, IsPath, Joins, Network, Root}
use Rattle.vrt_model.specs.Reading.{is_given}
use Rattle.vrt_model.specs.Response.{IsStrength, Reaches}
use Rattle.vrt_model.specs.declared.circuit.Circuit.{Circuit}
use Rattle.vrt_model.specs.declared.circuit.Device.{Device}
use Rattle.vrt_model.specs.declared.circuit.FlatNet.{FlatNet}
use Rattle.vrt_model.specs.declared.circuit.Hold.{Hold}
use Rattle.vrt_model.specs.declared.whole.WholePin.{WholePin}
use Rattle.plain_paths.specs.Channels.{HasChannels, IsOver, channel_of}
use Rattle.plain_paths.specs.Marks.{Marked, MarksPass}
use Rattle.plain_paths.specs.declared.channels.Channel.{Channel}
use Rattle.vrt_model.specs.Networks.{HasBound}

-- a mark spread over one device, in one direction
pub spread_marked : (w : Network) (s : List ℕ) (v : Bool) (d : Device) (from to level : ℕ) (t u : List Bool) → IsOn w d → Joins d from to → d.level ≡ level
    → (fits : Bool) → (fits ≡ true → min (slice_index s from) level ≡ slice_index s to)
    → ((n : ℕ) → mark_at u n ≡ true → (mark_at t n ≡ true) ⊎ ((n ≡ to) × (fits ≡ true) × (mark_at t from ≡ true)))
    → Marked w s v t → Marked w s v u
spread_marked w s v d from to level t u on j same fits f only m n e =
    elim (only n e) [
      | inl o ↦ m n o
      | inr q ↦
          let over : HopFits (slice_index s) from d to = subst (λ (l : ℕ). min (slice_index s from) l ≡ slice_index s to) (sym same) (f q.1) in
          subst (Arrives w (RootFits (slice_index s) v) (HopFits (slice_index s))) (sym q.0)
          (arrives_on w (RootFits (slice_index s) v) (HopFits (slice_index s)) from to d (m from q.2) on j over)
    ]

-- a mark at a root by the kind of its net
pub given_marked : (c : Circuit) (w : Network) (s : List ℕ) (v : Bool) (at : ℕ) (net : FlatNet) (t u : List Bool) → IsOver c w → At c.nets at net
    → (fits : Bool) → (fits ≡ true → (is_given net.kind ≡ true) × (source_level c ≡ slice_index s at) × (w.given at ≡ v))
    → ((n : ℕ) → mark_at u n ≡ true → (mark_at t n ≡ true) ⊎ ((n ≡ at) × (fits ≡ true)))
    → Marked w s v t → Marked w s v u
given_marked c w s v at net t u over e fits f only m n h =
    elim (only n h) [
      | inl o ↦ m n o
      | inr q ↦
          let g = f q.1 in
          let root : Root = record { net = at; level = source_level c; value = w.given at } in
          let there : At w.nets at net = subst (λ (ns : List FlatNet). At ns at net) (sym over.nets) e in
          subst (Arrives w (RootFits (slice_index s) v) (HopFits (slice_index s))) (sym q.0)
          (arrives_root w (RootFits (slice_index s) v) (HopFits (slice_index s)) root (inl (net, there, g.0, sym over.source, refl)) (g.1, g.2))
    ]

-- a mark at a hold
pub hold_marked : (c : Circuit) (w : Network) (s : List ℕ) (v : Bool) (at : ℕ) (hold : Hold) (t u : List Bool) → IsOver c w → At c.holds at hold
    → (fits : Bool) → (fits ≡ true → (hold.size ≡ slice_index s hold.net.0) × (w.held at ≡ v))
    → ((n : ℕ) → mark_at u n ≡ true → (mark_at t n ≡ true) ⊎ ((n ≡ hold.net.0) × (fits ≡ true)))
    → Marked w s v t → Marked w s v u
hold_marked c w s v at hold t u over e fits f only m n h =
    elim (only n h) [
      | inl o ↦ m n o
      | inr q ↦
          let g = f q.1 in
          let root : Root = record { net = hold.net.0; level = hold.size; value = w.held at } in
          let there : At w.holds at hold = subst (λ (hs : List Hold). At hs at hold) (sym over.holds) e in
          subst (Arrives w (RootFits (slice_index s) v) (HopFits (slice_index s))) (sym q.0)
          (arrives_root w (RootFits (slice_index s) v) (HopFits (slice_index s)) root (inr (inl (at, hold, there, refl, refl, refl))) (g.0, g.1))
    ]

-- no mark is set
pub none_marked : (w : Network) (s : List ℕ) (v : Bool) (count : ℕ) → Marked w s v (replicate count false)
none_marked w s v count n e =
    elim (cases_lt n count) [
      | inl lt ↦ absurd (false≢true (sym (get_or-replicate count n false false lt) ∙ e))
      | inr ge ↦ absurd (false≢true (sym (get_or_past (replicate count false) n false (omega (arith, ge, length-replicate count false))) ∙ e))
    ]

-- the marks at the nets' own roots and at the holds are those of all roots
pub roots_marked : (c : Circuit) (w : Network) (s : List ℕ) (v : Bool) (u : List Bool) → IsOver c w
    → ((at : ℕ) (net : FlatNet) → At c.nets at net → is_given net.kind ≡ true → slice_index s at ≡ source_level c → w.given at ≡ v → mark_at u at ≡ true)
    → ((at : ℕ) (hold : Hold) → At c.holds at hold → hold.size ≡ slice_index s hold.net.0 → w.held at ≡ v → mark_at u hold.net.0 ≡ true)
    → HasRootMarks w (RootFits (slice_index s) v) (HopFits (slice_index s)) (mark_at u)
roots_marked c w s v u over given holds root r k =
    elim r [
      | inl q ↦
          let there : At c.nets root.net q.0 = subst (λ (ns : List FlatNet). At ns root.net q.0) over.nets q.1 in
          given root.net q.0 there q.2 (sym k.0 ∙ (q.3 ∙ over.source)) (sym q.4 ∙ k.1)
      | inr other ↦ elim other [
        | inl q ↦
            let there : At c.holds q.0 q.1 = subst (λ (hs : List Hold). At hs q.0 q.1) over.holds q.2 in
            subst (λ (x : ℕ). mark_at u x ≡ true) (sym q.3)
            (holds q.0 q.1 there (sym q.4 ∙ (k.0 ∙ ap (slice_index s) q.3)) (sym q.5 ∙ k.1))
        | inr o ↦ absurd (at_none o.0 o.1 (subst (λ (ps : List WholePin). At ps o.0 o.1) over.outputs o.2))
      ]
    ]

-- what the channels pass on is what the devices pass on
pub channels_spread : (w : Network) (channels : List Channel) (s : List ℕ) (v : Bool) (t u : List Bool) → HasChannels w channels
    → ((ch : Channel) → Among channels ch → MarksPass s ch t u)
    → HasSpread w (RootFits (slice_index s) v) (HopFits (slice_index s)) (mark_at t) (mark_at u)
channels_spread w channels s v t u has pass m n d on j fits marked = pass (channel_of d) (has.all d on) m n j fits marked

module _ (w : Network) (s : List ℕ) (v : Bool) (strong : (n : ℕ) → IsStrength w n (slice_index s n)) where
  -- after as many rounds as there are nets the marks are at exactly the nets that the value reaches
  pub reach_within : (bound : ℕ) (t : List Bool) → HasBound w bound → HasMarksWithin w (RootFits (slice_index s) v) (HopFits (slice_index s)) bound (mark_at t)
      → Marked w s v t → (n : ℕ) → (mark_at t n ≡ true) ↔ Reaches w n v
  reach_within bound t bounded b m n =
      let short : (root : Root) (hops : List Hop) → IsPath w root hops → length hops ≤ bound =
      λ root hops p. let h = path_short w bound bounded root hops p in omega (arith, h) in (
        λ e. arrives-reaches w (slice_index s) strong v n (m n e),
        λ r. marks_all w (RootFits (slice_index s) v) (HopFits (slice_index s)) bound (mark_at t) short b n (reaches-arrives w (slice_index s) strong v n r),
      )

  -- so they are where nothing changes any more
  pub reach_closed : (t : List Bool) → HasRootMarks w (RootFits (slice_index s) v) (HopFits (slice_index s)) (mark_at t)
      → HasSpread w (RootFits (slice_index s) v) (HopFits (slice_index s)) (mark_at t) (mark_at t)
      → Marked w s v t → (n : ℕ) → (mark_at t n ≡ true) ↔ Reaches w n v
  reach_closed t h p m n = (
    λ e. arrives-reaches w (slice_index s) strong v n (m n e),
    λ r. marks_closed w (RootFits (slice_index s) v) (HopFits (slice_index s)) (mark_at t) h p n (reaches-arrives w (slice_index s) strong v n r),
  )
