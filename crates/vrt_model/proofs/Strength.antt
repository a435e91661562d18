-- The strength of a net, by the levels that paths keep.
use Rattle.std.proofs.Common.{◌≡◌, ℕ, ◌≤◌, ◌<◌, min, ◌⊎◌, List, [], ◌∷◌, arith, subst, inl, inr}
use Rattle.vrt_model.specs.Path.{Network, Root, Hop, IsRoot, IsOn, Joins, IsPath, end_of, level_of}
use Rattle.vrt_model.specs.Response.{IsStrength}
use Rattle.vrt_model.specs.declared.circuit.Device.{Device}
use Rattle.vrt_model.proofs.PathKinds.{Keeps, Arrives, arrives_on}

-- roots and devices of at least one level
abbrev pub RootHas : ℕ → Root → Type 0
RootHas l root = l ≤ root.level

abbrev pub HopHas : ℕ → ℕ → Device → ℕ → Type 0
HopHas l m d n = l ≤ d.level

-- a path of at least this level ends at n
abbrev pub AtLeast : Network → ℕ → ℕ → Type 0
AtLeast w l n = Arrives w (RootHas l) (HopHas l) n

pub keeps-level : (l : ℕ) (root : Root) (hops : List Hop) → l ≤ level_of root hops → Keeps (RootHas l) (HopHas l) root hops
keeps-level l root [] h = h
keeps-level l root (hop ∷ hops) h = (keeps-level l root hops (omega arith), omega arith)

pub level-keeps : (l : ℕ) (root : Root) (hops : List Hop) → Keeps (RootHas l) (HopHas l) root hops → l ≤ level_of root hops
level-keeps l root [] k = k
level-keeps l root (hop ∷ hops) k = let h = level-keeps l root hops k.0 in omega arith

module _ (w : Network) where
  pub at_least_weaker : (l k n : ℕ) → k ≤ l → AtLeast w l n → AtLeast w k n
  at_least_weaker l k n le r = let h = level-keeps l r.0 r.1 r.3 in (r.0, r.1, r.2, keeps-level k r.0 r.1 (omega arith), r.4)

  -- one device further
  pub at_least_on : (l m n : ℕ) (d : Device) → AtLeast w l m → IsOn w d → Joins d m n → AtLeast w (min l d.level) n
  at_least_on l m n d r on j =
      arrives_on w (RootHas (min l d.level)) (HopHas (min l d.level)) m n d (at_least_weaker l (min l d.level) m (omega arith) r) on j (omega arith)

  -- a table bounds all paths where it bounds the roots and does not grow over a device
  pub level_le : (t : ℕ → ℕ)
      → ((root : Root) → IsRoot w root → root.level ≤ t root.net)
      → ((m n : ℕ) (d : Device) → IsOn w d → Joins d m n → min (t m) d.level ≤ t n)
      → (root : Root) (hops : List Hop) → IsPath w root hops → level_of root hops ≤ t (end_of root hops)
  level_le t base step root [] p = base root p
  level_le t base step root (hop ∷ hops) p =
      let h = level_le t base step root hops p.0 in
      let s = step (end_of root hops) hop.to hop.device p.1 p.2 in
      omega arith

  -- a table has the strengths where no path is above it and each of its entries is 0 or the level of some path
  pub strength_of : (t : ℕ → ℕ)
      → ((root : Root) (hops : List Hop) → IsPath w root hops → level_of root hops ≤ t (end_of root hops))
      → (n : ℕ) → (t n ≡ 0) ⊎ AtLeast w (t n) n → IsStrength w n (t n)
  strength_of t up n (inl z) = (λ root hops p e. subst (λ (x : ℕ). level_of root hops ≤ t x) e (up root hops p), inl z)
  strength_of t up n (inr r) =
      let most : (root : Root) (hops : List Hop) → IsPath w root hops → end_of root hops ≡ n → level_of root hops ≤ t n = λ root hops p e. subst (λ (x : ℕ). level_of root hops ≤ t x) e (up root hops p) in
      let low = level-keeps (t n) r.0 r.1 r.3 in
      let high = most r.0 r.1 r.2 r.4 in
      (most, inr (r.0, r.1, r.2, r.4, omega arith))

  -- the strength is at least l exactly where a path of at least that level ends there
  pub at_least-strength : (n s l : ℕ) → IsStrength w n s → AtLeast w l n → l ≤ s
  at_least-strength n s l h r = let k = level-keeps l r.0 r.1 r.3 in let u = h.0 r.0 r.1 r.2 r.4 in omega arith

  pub strength-at_least : (n s l : ℕ) → 0 < l → IsStrength w n s → l ≤ s → AtLeast w l n
  strength-at_least n s l pos (up, inl z) le = absurd (omega arith)
  strength-at_least n s l pos (up, inr q) le = (q.0, q.1, q.2, keeps-level l q.0 q.1 (omega arith), q.3)
