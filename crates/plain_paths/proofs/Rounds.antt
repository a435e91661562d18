-- The steps of the rounds over a table of levels.
use Rattle.std.proofs.Common.{◌≡◌, ℕ, ◌+◌, ◌≤◌, min, ◌⊎◌, Bool, cond, List, [], ◌∷◌, slice_index, arith, ap, sym, subst, refl, ◌∙◌, inl, inr}
use Rattle.std.specs.Prelude.{map, option_map}
use Rattle.std.proofs.lemmas.Bool.{cases_Bool}
use Rattle.std.proofs.lemmas.List.{get_or_past, length-map}
use Rattle.std.proofs.lemmas.Option.{slice_get-map, get_or_from_slice_get, slice_get_cases}
use Rattle.vrt_model.proofs.Members.{at_none}
use Rattle.vrt_model.proofs.PathKinds.{arrives_root}
use Rattle.vrt_model.proofs.ShortPaths.{path_short}
use Rattle.vrt_model.proofs.Strength.{AtLeast, HopHas, RootHas, at_least_on, level_le, strength_of}
use Rattle.vrt_model.specs.Levels.{source_level}
use Rattle.vrt_model.specs.Lists.{At, Among}
use Rattle.vrt_model.specs.Path.{IsOn, Joins, Network, Root, end_of}
use Rattle.vrt_model.specs.Reading.{is_given}
use Rattle.vrt_model.specs.Response.{IsStrength}
use Rattle.vrt_model.specs.declared.circuit.Circuit.{Circuit}
use Rattle.vrt_model.specs.declared.circuit.Device.{Device}
use Rattle.vrt_model.specs.declared.circuit.FlatNet.{FlatNet}
use Rattle.vrt_model.specs.declared.circuit.Hold.{Hold}
use Rattle.vrt_model.specs.declared.whole.WholePin.{WholePin}
use Rattle.plain_paths.specs.Channels.{HasChannels, IsOver, channel_of}
use Rattle.plain_paths.specs.Tables.{HasGrown, HasHolds, HasPassed, HasRoots, HasWithin, IsAttained, level_of_net}
use Rattle.plain_paths.specs.declared.channels.Channel.{Channel}
use Rattle.vrt_model.specs.Networks.{HasBound}

-- a step over one device, in one direction, keeps what is attained
pub pass_attained : (w : Network) (d : Device) (from to level : ℕ) (t u : List ℕ) → IsOn w d → Joins d from to → d.level ≡ level
    → ((n : ℕ) → (slice_index u n ≡ slice_index t n) ⊎ ((n ≡ to) × (slice_index u n ≡ min (slice_index t from) level)))
    → IsAttained w t → IsAttained w u
pass_attained w d from to level t u on j same h a n =
    elim (h n) [
      | inl e ↦ elim (a n) [ inl z ↦ inl (e ∙ z) | inr r ↦ inr (subst (λ (x : ℕ). AtLeast w x n) (sym e) r) ]
      | inr q ↦ elim (a from) [
        | inl z ↦ inl (omega (arith, q.1, z))
        | inr r ↦
            let there : AtLeast w (min (slice_index t from) level) to = subst (λ (l : ℕ). AtLeast w (min (slice_index t from) l) to) same (at_least_on w (slice_index t from) from to d r on j) in
            inr (subst (λ (x : ℕ). AtLeast w x n) (sym q.1) (subst (λ (x : ℕ). AtLeast w (min (slice_index t from) level) x) (sym q.0) there))
      ]
    ]

-- the net of a hold that gets at least the hold's size keeps what is attained
pub raise_attained : (w : Network) (k : ℕ) (hold : Hold) (t u : List ℕ) → At w.holds k hold
    → ((n : ℕ) → (slice_index u n ≡ slice_index t n) ⊎ ((n ≡ hold.net.0) × (slice_index u n ≡ hold.size)))
    → IsAttained w t → IsAttained w u
raise_attained w k hold t u e h a n =
    elim (h n) [
      | inl s ↦ elim (a n) [ inl z ↦ inl (s ∙ z) | inr r ↦ inr (subst (λ (x : ℕ). AtLeast w x n) (sym s) r) ]
      | inr q ↦
          let root : Root = record { net = hold.net.0; level = hold.size; value = w.held k } in
          let r : AtLeast w hold.size hold.net.0 = arrives_root w (RootHas hold.size) (HopHas hold.size) root (inr (inl (k, hold, e, refl, refl, refl))) (omega arith) in
          inr (subst (λ (x : ℕ). AtLeast w x n) (sym q.1) (subst (λ (x : ℕ). AtLeast w hold.size x) (sym q.0) r))
    ]

pub at_given : (source : ℕ) (nets : List FlatNet) (n : ℕ) (net : FlatNet) → At nets n net → slice_index (map (level_of_net source) nets) n ≡ level_of_net source net
at_given source nets n net e =
    get_or_from_slice_get (map (level_of_net source) nets) n (level_of_net source net) 0 (slice_get-map (level_of_net source) nets n ∙ ap (option_map (level_of_net source)) e)

-- the levels by the nets' kinds are attained
pub given_attained : (w : Network) → IsAttained w (map (level_of_net w.source) w.nets)
given_attained w n =
    elim (slice_get_cases w.nets n).1 [
      | inl h ↦
          let net : FlatNet = h.0 in
          let at : slice_index (map (level_of_net w.source) w.nets) n ≡ level_of_net w.source net = at_given w.source w.nets n net h.2 in
          elim (cases_Bool (is_given net.kind)) [
            | inl t ↦
                let root : Root = record { net = n; level = w.source; value = w.given n } in
                let r : AtLeast w w.source n = arrives_root w (RootHas w.source) (HopHas w.source) root (inl (net, h.2, t, refl, refl)) (omega arith) in
                inr (subst (λ (x : ℕ). AtLeast w x n) (sym (at ∙ ap (λ (b : Bool). cond b w.source 0) t)) r)
            | inr f ↦ inl (at ∙ ap (λ (b : Bool). cond b w.source 0) f)
          ]
      | inr h ↦ inl (get_or_past (map (level_of_net w.source) w.nets) n 0 (omega (arith, h.0, length-map w.nets (level_of_net w.source))))
    ]

-- a table that has the nets' own levels and the holds' sizes has all roots
pub roots_from : (c : Circuit) (w : Network) (u : List ℕ) → IsOver c w → HasGrown (map (level_of_net (source_level c)) c.nets) u → HasHolds c.holds u → HasRoots w u
roots_from c w u over g h root r =
    elim r [
      | inl q ↦
          let there : At c.nets root.net q.0 = subst (λ (ns : List FlatNet). At ns root.net q.0) over.nets q.1 in
          omega (arith, g root.net, at_given (source_level c) c.nets root.net q.0 there, ap {B = ℕ} (λ (b : Bool). cond b (source_level c) 0) q.2, q.3, over.source)
      | inr other ↦ elim other [
        | inl q ↦
            let there : At c.holds q.0 q.1 = subst (λ (hs : List Hold). At hs q.0 q.1) over.holds q.2 in
            subst (λ (x : ℕ). root.level ≤ slice_index u x) (sym q.3) (subst (λ (x : ℕ). x ≤ slice_index u q.1.net.0) (sym q.4) (h q.0 q.1 there))
        | inr o ↦ absurd (at_none o.0 o.1 (subst (λ (ps : List WholePin). At ps o.0 o.1) over.outputs o.2))
      ]
    ]

pub roots_grown : (w : Network) (t u : List ℕ) → HasGrown t u → HasRoots w t → HasRoots w u
roots_grown w t u g h root r = omega (arith, g root.net, h root r)

pub within_none : (w : Network) (t : List ℕ) → HasRoots w t → HasWithin w 0 t
within_none w t h root [] p le = h root p
within_none w t h root (hop ∷ hops) p le = absurd (omega arith)

pub within_more : (w : Network) (channels : List Channel) (i : ℕ) (t u : List ℕ) → HasChannels w channels → HasRoots w u
    → ((ch : Channel) → Among channels ch → HasPassed ch t u) → HasWithin w i t → HasWithin w (i + 1) u
within_more w channels i t u has h pass b root [] p le = h root p
within_more w channels i t u has h pass b root (hop ∷ hops) p le =
    let k = b root hops p.0 (omega arith) in
    let s = pass (channel_of hop.device) (has.all hop.device p.1) (end_of root hops) hop.to p.2 in
    omega arith

-- after as many rounds as there are nets the table has the strengths
pub strength_within : (w : Network) (bound : ℕ) (t : List ℕ) → HasBound w bound → HasWithin w bound t → IsAttained w t → (n : ℕ) → IsStrength w n (slice_index t n)
strength_within w bound t bounded b a n =
    strength_of w (slice_index t) (λ root hops p. b root hops p (let s = path_short w bound bounded root hops p in omega (arith, s))) n (a n)

-- so it has where nothing changes any more
pub strength_closed : (w : Network) (channels : List Channel) (t : List ℕ) → HasChannels w channels → HasRoots w t
    → ((ch : Channel) → Among channels ch → HasPassed ch t t) → IsAttained w t → (n : ℕ) → IsStrength w n (slice_index t n)
strength_closed w channels t has h p a n =
    strength_of w (slice_index t) (level_le w (slice_index t) h (λ m k d on j. p (channel_of d) (has.all d on) m k j)) n (a n)
