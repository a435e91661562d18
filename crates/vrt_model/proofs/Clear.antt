-- Clear paths are those over which the strength of each net gives that of the next.
use Rattle.std.proofs.Common.{◌≡◌, ℕ, min, Bool, List, [], ◌∷◌, arith, sym, subst}
use Rattle.vrt_model.specs.Path.{Network, Root, Hop, end_of, level_of}
use Rattle.vrt_model.specs.Response.{IsStrength, IsClear, Reaches}
use Rattle.vrt_model.specs.declared.circuit.Device.{Device}
use Rattle.vrt_model.proofs.Laws.{one_strength}
use Rattle.vrt_model.proofs.PathKinds.{Keeps, Arrives}

-- a root of value v that is as strong as its net
abbrev pub RootFits : (ℕ → ℕ) → Bool → Root → Type 0
RootFits s v root = (root.level ≡ s root.net) × (root.value ≡ v)

-- a device over which the strength of the one net gives that of the other
abbrev pub HopFits : (ℕ → ℕ) → ℕ → Device → ℕ → Type 0
HopFits s m d n = min (s m) d.level ≡ s n

module _ (w : Network) (s : ℕ → ℕ) (strong : (n : ℕ) → IsStrength w n (s n)) where
  pub clear_level_is : (root : Root) (hops : List Hop) → IsClear w root hops → level_of root hops ≡ s (end_of root hops)
  clear_level_is root [] c = one_strength w root.net root.level (s root.net) c (strong root.net)
  clear_level_is root (hop ∷ hops) c = one_strength w hop.to (level_of root (hop ∷ hops)) (s hop.to) c.1 (strong hop.to)

  pub clear-keeps : (v : Bool) (root : Root) (hops : List Hop) → root.value ≡ v → IsClear w root hops → Keeps (RootFits s v) (HopFits s) root hops
  clear-keeps v root [] e c = (clear_level_is root [] c, e)
  clear-keeps v root (hop ∷ hops) e c =
      let h = clear_level_is root hops c.0 in
      let k = clear_level_is root (hop ∷ hops) c in
      (clear-keeps v root hops e c.0, omega arith)

  pub keeps-level_is : (v : Bool) (root : Root) (hops : List Hop) → Keeps (RootFits s v) (HopFits s) root hops → level_of root hops ≡ s (end_of root hops)
  keeps-level_is v root [] k = k.0
  keeps-level_is v root (hop ∷ hops) k = let h = keeps-level_is v root hops k.0 in omega arith

  pub keeps-value : (v : Bool) (root : Root) (hops : List Hop) → Keeps (RootFits s v) (HopFits s) root hops → root.value ≡ v
  keeps-value v root [] k = k.1
  keeps-value v root (hop ∷ hops) k = keeps-value v root hops k.0

  pub keeps-clear : (v : Bool) (root : Root) (hops : List Hop) → Keeps (RootFits s v) (HopFits s) root hops → IsClear w root hops
  keeps-clear v root [] k = subst (λ (x : ℕ). IsStrength w root.net x) (sym k.0) (strong root.net)
  keeps-clear v root (hop ∷ hops) k =
      (keeps-clear v root hops k.0, subst (λ (x : ℕ). IsStrength w hop.to x) (sym (keeps-level_is v root (hop ∷ hops) k)) (strong hop.to))

  -- a net is reached by a clear path exactly where it is reached over devices that fit
  pub reaches-arrives : (v : Bool) (n : ℕ) → Reaches w n v → Arrives w (RootFits s v) (HopFits s) n
  reaches-arrives v n r = (r.0, r.1, r.2, clear-keeps v r.0 r.1 r.5 r.3, r.4)

  pub arrives-reaches : (v : Bool) (n : ℕ) → Arrives w (RootFits s v) (HopFits s) n → Reaches w n v
  arrives-reaches v n r = (r.0, r.1, r.2, keeps-clear v r.0 r.1 r.3, r.4, keeps-value v r.0 r.1 r.3)
