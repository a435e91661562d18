-- The arcs from gates of a circuit in which a cell is opened: each is one of the circuit in which the cell is whole, or one inside the cell. A
-- part of the circuit goes into the cell, and comes out of it, at one exposed net alone.
use Rattle.std.proofs.Common.{◌≡◌, ◌⊎◌, ℕ, Bool, true, subst, sym, refl, ◌∙◌, inl, inr}
use Rattle.cell_inside.proofs.Copies.{touched}
use Rattle.cell_inside.specs.LeftWhole.{IsLeftDevice}
use Rattle.cell_inside.specs.Placed.{IsImage}
use Rattle.channel_parts.proofs.Labels.{together_further}
use Rattle.channel_parts.proofs.RankLaws.{together_back}
use Rattle.trial_cycles.proofs.OpenedNets.{IsOpenedIn, IsOwnJoin, end_plain, gate_below, known_above, known_below, known_stays, outer_device, own_device, plain_up}
use Rattle.trial_cycles.proofs.SharedSets.{image_joins}
use Rattle.vrt_model.proofs.Filtered.{device_among}
use Rattle.vrt_model.proofs.Ranked.{together_plain}
use Rattle.vrt_model.specs.Known.{HasGateArc, IsChannel, IsFixed, IsKnown, IsPlain, IsTogether, IsUnknown, itself, onward}
use Rattle.vrt_model.specs.Lists.{Among}
use Rattle.vrt_model.specs.Path.{Joins}
use Rattle.vrt_model.specs.Reading.{conducts_at, devices_of}
use Rattle.vrt_model.specs.State.{OutputPin, output_pins}
use Rattle.vrt_model.specs.declared.circuit.Circuit.{Circuit}
use Rattle.vrt_model.specs.declared.circuit.Device.{Device}
use Rattle.vrt_model.specs.declared.design.Kind.{Kind}
use Rattle.vrt_model.specs.declared.rules.Phase.{Phase}

module _ (cell low high : Circuit) (phase : Phase) (at place fresh : ℕ → ℕ) (remaining compared exposed : ℕ → Bool) (drive : ℕ → ℕ)
    (o : IsOpenedIn cell low high phase at place fresh remaining compared exposed drive) (clocks : (n : ℕ) (v : Bool) → IsFixed cell phase n v → IsKnown low phase (at n) v) where
  -- ---- channels

  channel_up : (e f : Device) → IsLeftDevice (λ n. n) remaining compared e f → IsChannel low phase true e → Among (devices_of true high) f → IsChannel high phase true f
  channel_up e f left channel on = (
    on,
    λ v known.
        subst (λ (k : Kind). conducts_at k v ≡ true) (sym left.image.kind)
        (channel.1 v (gate_below cell low high phase at place fresh remaining compared exposed drive o e f v left known
        (λ c. known_below cell low high phase at place fresh remaining compared exposed drive o known c))),
  )

  channel_inside : (d e : Device) → IsImage at d e → IsChannel low phase true e → Among (devices_of true cell) d → IsChannel cell phase true d
  channel_inside d e image channel on = (
    on,
    λ v known.
        subst (λ (k : Kind). conducts_at k v ≡ true) image.kind
        (channel.1 v (subst (λ (x : ℕ). IsKnown low phase x v) (sym image.gate) (known_above cell low high phase at place fresh remaining compared exposed drive o clocks known))),
  )

  -- the far end of a device of the cell is plain where it is at a plain net
  far_plain : (d : Device) (n k m : ℕ) → Among (devices_of true cell) d → Joins d n k → m ≡ at k → IsPlain low m → IsPlain cell k
  far_plain d n k m a j e p = end_plain cell low high phase at place fresh remaining compared exposed drive o d k m (device_among true cell d a).0 (touched d n k j) (sym e) p

  -- ---- parts of compared nets

  -- the net is compared, and in the part of b with the cell whole
  abbrev pub IsOuterOf : ℕ → ℕ → Type 0
  IsOuterOf b m = (compared m ≡ true) × IsTogether high phase true b m

  -- the net is inside, in the part of an exposed net which is in that of b
  abbrev pub IsInnerOf : ℕ → ℕ → Type 0
  IsInnerOf b m = (n : ℕ) × (l : ℕ) × (m ≡ at l) × (exposed n ≡ true) × IsTogether cell phase true n l × IsTogether high phase true b (at n)

  -- an exposed net there is that one
  met_again : (b n l : ℕ) → exposed n ≡ true → exposed l ≡ true → IsTogether cell phase true n l → IsTogether high phase true b (at n) → IsOuterOf b (at l)
  met_again b n l e f t out =
      let same : n ≡ l =
      o.alone n l e (o.placed.exposed_plain l f) (o.whole.compared_remaining (at l) (o.whole.exposed_compared l f)) t in
      (o.whole.exposed_compared l f, subst (λ (x : ℕ). IsTogether high phase true b (at x)) same out)

  from_outside : (b m k : ℕ) (e : Device) → IsOuterOf b m → IsChannel low phase true e → Joins e m k → IsPlain low m → IsPlain low k → IsOuterOf b k ⊎ IsInnerOf b k
  from_outside b m k e at_m channel j p q =
      elim (outer_device cell low high phase at place fresh remaining compared exposed drive o e m k channel.0 j at_m.0 p) [
        | inl f ↦ inl (
          f.2.channels k (touched e m k j),
          onward f.0 at_m.1 (channel_up e f.0 f.2 channel f.1) (image_joins e f.0 m k f.2.image j) (plain_up cell low high phase at place fresh remaining compared exposed drive o k q),
        )
        | inr x ↦
            let n : ℕ = x.0 in
            let own : IsOwnJoin cell low high phase at place fresh remaining compared exposed drive o e n k = x.3 in
            let l : ℕ = own.3.0 in
            inr (
              n,
              l,
              own.3.1,
              x.2,
              onward own.0 (itself (o.placed.exposed_plain n x.2)) (channel_inside own.0 e own.2 channel own.1) own.3.2 (far_plain own.0 n l k own.1 own.3.2 own.3.1 q),
              subst (λ (y : ℕ). IsTogether high phase true b y) x.1 at_m.1,
            )
      ]

  from_inside : (b m k : ℕ) (e : Device) → IsInnerOf b m → IsChannel low phase true e → Joins e m k → IsPlain low m → IsPlain low k → IsOuterOf b k ⊎ IsInnerOf b k
  from_inside b m k e (n, l, here, out, t, above) channel j p q =
      elim (own_device cell low high phase at place fresh remaining compared exposed drive o e l k channel.0 (together_plain cell phase true n l t) (subst (λ (x : ℕ). Joins e x k) here j)) [
        | inl own ↦ inr (
          n,
          own.3.0,
          own.3.1,
          out,
          onward own.0 t (channel_inside own.0 e own.2 channel own.1) own.3.2 (far_plain own.0 l own.3.0 k own.1 own.3.2 own.3.1 q),
          above,
        )
        | inr also ↦ from_outside b m k e (subst (IsOuterOf b) (sym here) (met_again b n l out also t above)) channel j p q
      ]

  pub together_up : {b m : ℕ} → IsTogether low phase true b m → compared b ≡ true → IsOuterOf b m ⊎ IsInnerOf b m
  together_up {b} {m} (itself p) c = inl (c, itself (plain_up cell low high phase at place fresh remaining compared exposed drive o b p))
  together_up {b} {m} (onward {l = l} e t channel j p) c =
      elim (together_up t c) [
        | inl outer ↦ from_outside b l m e outer channel j (together_plain low phase true b l t) p
        | inr inner ↦ from_inside b l m e inner channel j (together_plain low phase true b l t) p
      ]

  -- an output pin is at a compared net of the part, if at any
  pub pin_up : (b m : ℕ) (out : OutputPin) → Among (output_pins low) out → out.pin.net.0 ≡ m → IsOuterOf b m ⊎ IsInnerOf b m → IsOuterOf b m
  pin_up b m out on e (inl outer) = outer
  pin_up b m out on e (inr (n, l, here, exits, t, above)) =
      subst (IsOuterOf b) (sym here) (met_again b n l exits (o.placed.pins out l on (together_plain cell phase true n l t) (e ∙ here)).0 t above)

  -- ---- parts of nets inside

  -- in the cell and in the circuit the part of the net has an exposed one
  abbrev pub LeadsOut : ℕ → ℕ → Type 0
  LeadsOut n l = (exposed l ≡ true) × IsTogether cell phase true n l × IsTogether low phase true (at n) (at l)

  -- the part of a net of the cell is one of the cell, or it leads out
  pub together_inside : {b m : ℕ} → IsTogether low phase true b m → (n : ℕ) → IsPlain cell n → b ≡ at n
      → ((l : ℕ) × (m ≡ at l) × IsTogether cell phase true n l) ⊎ ((l : ℕ) × LeadsOut n l)
  together_inside {b} {m} (itself p) n plain e = inl (n, e, itself plain)
  together_inside {b} {m} (onward {l = k} e t channel j p) n plain same =
      elim (together_inside t n plain same) [
        | inr out ↦ inr out
        | inl (l, here, inside) ↦
            elim (own_device cell low high phase at place fresh remaining compared exposed drive o e l m channel.0 (together_plain cell phase true n l inside) (subst (λ (x : ℕ). Joins e x m) here j)) [
              | inl own ↦ inl (
                own.3.0,
                own.3.1,
                onward own.0 inside (channel_inside own.0 e own.2 channel own.1) own.3.2 (far_plain own.0 l own.3.0 m own.1 own.3.2 own.3.1 p),
              )
              | inr exits ↦ inr (l, (exits, inside, subst (λ (x : ℕ). IsTogether low phase true x (at l)) same (subst (λ (x : ℕ). IsTogether low phase true b x) here t)))
            ]
      ]

  -- an output pin there is at an exposed net
  pub pin_inside : (n b m : ℕ) (out : OutputPin) → Among (output_pins low) out → out.pin.net.0 ≡ m → IsTogether low phase true b m → IsPlain cell n → b ≡ at n → (l : ℕ) × LeadsOut n l
  pin_inside n b m out on e t plain same =
      elim (together_inside t n plain same) [
        | inr exits ↦ exits
        | inl (l, here, inside) ↦ (
          l,
          (
            (o.placed.pins out l on (together_plain cell phase true n l inside) (e ∙ here)).0,
            inside,
            subst (λ (x : ℕ). IsTogether low phase true x (at l)) same (subst (λ (x : ℕ). IsTogether low phase true b x) here t),
          ),
        )
      ]

  -- ---- arcs

  -- what is not known with the cell opened is not known with it whole
  unknown_up : (n : ℕ) → remaining n ≡ true → IsUnknown low phase n → IsUnknown high phase n
  unknown_up n there unknown v known = unknown v (known_stays cell low high phase at place fresh remaining compared exposed drive o n v there known)

  -- nor is it in the cell
  unknown_inside : (g n : ℕ) → n ≡ at g → IsUnknown low phase n → IsUnknown cell phase g
  unknown_inside g n e unknown v known =
      unknown v (subst (λ (y : ℕ). IsKnown low phase y v) (sym e) (known_above cell low high phase at place fresh remaining compared exposed drive o clocks known))

  -- an arc of the circuit with the cell whole, from a net that remains
  abbrev pub IsArcOutside : ℕ → ℕ → Type 0
  IsArcOutside a b = (remaining a ≡ true) × HasGateArc high phase a b

  -- an arc inside, to an exposed net that is in the part of b
  abbrev pub IsArcAcross : ℕ → ℕ → Type 0
  IsArcAcross a b = (g : ℕ) × (n : ℕ) × (a ≡ at g) × (exposed n ≡ true) × HasGateArc cell phase g n × IsTogether high phase true b (at n)

  across_outside : (a b m l : ℕ) (e : Device) → IsOuterOf b m → IsChannel low phase true e → Joins e m l → IsPlain low m → e.gate.0 ≡ a → IsUnknown low phase a → IsArcOutside a b ⊎ IsArcAcross a b
  across_outside a b m l e at_m channel j p gate unknown =
      elim (outer_device cell low high phase at place fresh remaining compared exposed drive o e m l channel.0 j at_m.0 p) [
        | inl f ↦
            let there : remaining a ≡ true = subst (λ (x : ℕ). remaining x ≡ true) gate f.2.gate in
            inl (there, (f.0, (m, l, at_m.1, channel_up e f.0 f.2 channel f.1, image_joins e f.0 m l f.2.image j), f.2.image.gate ∙ gate, unknown_up a there unknown))
        | inr x ↦
            let n : ℕ = x.0 in
            let own : IsOwnJoin cell low high phase at place fresh remaining compared exposed drive o e n l = x.3 in
            let d : Device = own.0 in
            let from : a ≡ at d.gate.0 = sym gate ∙ own.2.gate in
            inr (
              d.gate.0,
              n,
              from,
              x.2,
              (d, (n, own.3.0, itself (o.placed.exposed_plain n x.2), channel_inside d e own.2 channel own.1, own.3.2), refl, unknown_inside d.gate.0 a from unknown),
              subst (λ (y : ℕ). IsTogether high phase true b y) x.1 at_m.1,
            )
      ]

  across_inside : (a b m l : ℕ) (e : Device) → IsInnerOf b m → IsChannel low phase true e → Joins e m l → IsPlain low m → e.gate.0 ≡ a → IsUnknown low phase a → IsArcOutside a b ⊎ IsArcAcross a b
  across_inside a b m l e (n, k, here, out, t, above) channel j p gate unknown =
      elim (own_device cell low high phase at place fresh remaining compared exposed drive o e k l channel.0 (together_plain cell phase true n k t) (subst (λ (x : ℕ). Joins e x l) here j)) [
        | inl own ↦
            let d : Device = own.0 in
            let from : a ≡ at d.gate.0 = sym gate ∙ own.2.gate in
            inr (
              d.gate.0,
              n,
              from,
              out,
              (d, (k, own.3.0, t, channel_inside d e own.2 channel own.1, own.3.2), refl, unknown_inside d.gate.0 a from unknown),
              above,
            )
        | inr also ↦ across_outside a b m l e (subst (IsOuterOf b) (sym here) (met_again b n k out also t above)) channel j p gate unknown
      ]

  -- an arc to a compared net
  pub outer_arc : (a b : ℕ) → HasGateArc low phase a b → compared b ≡ true → IsArcOutside a b ⊎ IsArcAcross a b
  outer_arc a b (e, (m, l, t, channel, j), gate, unknown) c =
      elim (together_up t c) [
        | inl outer ↦ across_outside a b m l e outer channel j (together_plain low phase true b m t) gate unknown
        | inr inner ↦ across_inside a b m l e inner channel j (together_plain low phase true b m t) gate unknown
      ]

  -- an arc to a net inside
  pub inner_arc : (a b : ℕ) → HasGateArc low phase a b → (n : ℕ) → b ≡ at n → IsPlain cell n
      → ((g : ℕ) × (a ≡ at g) × HasGateArc cell phase g n) ⊎ ((l : ℕ) × LeadsOut n l)
  inner_arc a b (e, (m, l, t, channel, j), gate, unknown) n same plain =
      elim (together_inside t n plain same) [
        | inr exits ↦ inr exits
        | inl (k, here, inside) ↦
            elim (own_device cell low high phase at place fresh remaining compared exposed drive o e k l channel.0 (together_plain cell phase true n k inside) (subst (λ (x : ℕ). Joins e x l) here j)) [
              | inr exits ↦ inr (k, (exits, inside, subst (λ (x : ℕ). IsTogether low phase true x (at k)) same (subst (λ (x : ℕ). IsTogether low phase true b x) here t)))
              | inl own ↦
                  let d : Device = own.0 in
                  let from : a ≡ at d.gate.0 = sym gate ∙ own.2.gate in
                  inl (
                    d.gate.0,
                    from,
                    (d, (k, own.3.0, inside, channel_inside d e own.2 channel own.1, own.3.2), refl, unknown_inside d.gate.0 a from unknown),
                  )
            ]
      ]

  -- what leads to a net inside leads to the exposed net of its part
  pub gate_moves : (n l a : ℕ) → LeadsOut n l → HasGateArc low phase a (at n) → HasGateArc low phase a (at l)
  gate_moves n l a out (e, (m, k, t, channel, j), gate, unknown) =
      (e, (m, k, together_further low phase true (at l) (at n) m (together_back low phase true (at n) (at l) out.2) t, channel, j), gate, unknown)
