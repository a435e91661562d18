-- A net at which any path ends is reached by a clear path.
use Rattle.std.proofs.Common.{◌≡◌, ℕ, ◌+◌, zero, suc, ◌≤◌, ◌<◌, min, ◌⊎◌, Bool, true, false, List, [], ◌∷◌, arith, subst, sym, refl, ◌∙◌, inl, inr, ap}
use Rattle.std.proofs.lemmas.Bool.{cases_lt}
use Rattle.vrt_model.specs.Path.{Network, Root, Hop, IsRoot, IsPath, IsOn, Joins, end_of, level_of}
use Rattle.vrt_model.specs.Response.{IsStrength, Reaches}
use Rattle.vrt_model.specs.declared.circuit.Device.{Device}
use Rattle.vrt_model.proofs.Clear.{RootFits, HopFits, arrives-reaches}
use Rattle.vrt_model.proofs.PathKinds.{Arrives, arrives_on, arrives_root}
use Rattle.vrt_model.proofs.Strength.{at_least_on, at_least-strength, strength-at_least}

module _ (w : Network) (s : ℕ → ℕ) (strong : (n : ℕ) → IsStrength w n (s n)) where
  abbrev IsReached : ℕ → Type 0
  IsReached n = (v : Bool) × Arrives w (RootFits s v) (HopFits s) n

  -- over a device that gives a net its strength
  onward : (m n : ℕ) (d : Device) → 0 < s m → IsOn w d → Joins d m n → s n ≤ min (s m) d.level → IsReached m → IsReached n
  onward m n d some on j le r =
      let up = at_least-strength w n (s n) (min (s m) d.level) (strong n) (at_least_on w (s m) m n d (strength-at_least w m (s m) (s m) some (strong m) (omega arith)) on j) in
      (r.0, arrives_on w (RootFits s r.0) (HopFits s) m n d r.1 on j (omega (arith, up, le)))

  -- along a path that has the strength of its end, where each stronger net is reached
  along : (l : ℕ) → 0 < l → ((m : ℕ) → l < s m → IsReached m) → (root : Root) (hops : List Hop) → IsPath w root hops
      → level_of root hops ≡ l → s (end_of root hops) ≡ l → IsReached (end_of root hops)
  along l some higher root [] p e t = (root.value, arrives_root w (RootFits s root.value) (HopFits s) root p (e ∙ sym t, refl))
  along l some higher root (hop ∷ hops) p e t =
      let m : ℕ = end_of root hops in
      let low : level_of root hops ≤ s m = (strong m).0 root hops p.0 refl in
      let most : s hop.to ≤ min (s m) hop.device.level = omega (arith, low, e, t) in
      onward m hop.to hop.device (omega (arith, low, e, some)) p.1 p.2 most
      (elim (cases_lt l (s m)) [
        | inl lt ↦ higher m lt
        | inr ge ↦ along l some higher root hops p.0 (omega (arith, low, e, ge)) (omega (arith, low, e, ge))
      ])

  module _ (top : ℕ) (most : (root : Root) → IsRoot w root → root.level ≤ top) where
    below : (root : Root) (hops : List Hop) → IsPath w root hops → level_of root hops ≤ top
    below root [] p = most root p
    below root (hop ∷ hops) p = let h = below root hops p.0 in omega (arith, h)

    attained : (n : ℕ) → 0 < s n → (root : Root) × (hops : List Hop) × IsPath w root hops × (end_of root hops ≡ n) × (level_of root hops ≡ s n)
    attained n some = elim (strong n).1 [ inl none ↦ absurd (omega (arith, none, some)) | inr q ↦ q ]

    -- by how much room there is above the strength
    reached : (room n : ℕ) → top < s n + room → 0 < s n → IsReached n
    reached zero n under some = let q = attained n some in absurd (let le = below q.0 q.1 q.2 in let is = q.4 in omega (arith, le, under, is))
    reached (suc room) n under some =
        let q = attained n some in
        subst IsReached q.3 (along (s n) some (λ m lt. reached room m (omega (arith, under, lt)) (omega (arith, some, lt))) q.0 q.1 q.2 q.4 (ap s q.3))

    by_value : (n : ℕ) (v : Bool) → Reaches w n v → Reaches w n true ⊎ Reaches w n false
    by_value n true r = inl r
    by_value n false r = inr r

    pub strong_reached : (n : ℕ) → 0 < s n → Reaches w n true ⊎ Reaches w n false
    strong_reached n some = let r = reached (suc top) n (omega arith) some in by_value n r.0 (arrives-reaches w s strong r.0 n r.1)
