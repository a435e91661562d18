-- Marks on nets, spread by rounds over the devices: they end as the nets at which paths of one kind end.
use Rattle.std.proofs.Common.{◌≡◌, ℕ, ◌+◌, ◌≤◌, Bool, true, List, [], ◌∷◌, length, arith, subst}
use Rattle.vrt_model.specs.Path.{Network, Root, Hop, IsRoot, IsOn, Joins, IsPath, end_of}
use Rattle.vrt_model.specs.declared.circuit.Device.{Device}
use Rattle.vrt_model.proofs.PathKinds.{Keeps, Arrives, closed_end}

module _ (w : Network) (R : Root → Type 0) (H : ℕ → Device → ℕ → Type 0) where
  -- a path of this kind ends at each marked net
  abbrev pub IsMarked : (ℕ → Bool) → Type 0
  IsMarked t = (n : ℕ) → t n ≡ true → Arrives w R H n

  -- the nets of the roots are marked
  abbrev pub HasRootMarks : (ℕ → Bool) → Type 0
  HasRootMarks t = (root : Root) → IsRoot w root → R root → t root.net ≡ true

  -- the second marks have what one device more makes of the first
  abbrev pub HasSpread : (ℕ → Bool) → (ℕ → Bool) → Type 0
  HasSpread t u = (m n : ℕ) (d : Device) → IsOn w d → Joins d m n → H m d n → t m ≡ true → u n ≡ true

  -- a path of at most so many devices ends at a marked net
  abbrev pub HasMarksWithin : ℕ → (ℕ → Bool) → Type 0
  HasMarksWithin count t = (root : Root) (hops : List Hop) → IsPath w root hops → Keeps R H root hops → length hops ≤ count → t (end_of root hops) ≡ true

  pub marks_none : (t : ℕ → Bool) → HasRootMarks t → HasMarksWithin 0 t
  marks_none t h root [] p k le = h root p k
  marks_none t h root (hop ∷ hops) p k le = absurd (omega arith)

  pub marks_more : (i : ℕ) (t u : ℕ → Bool) → HasRootMarks u → HasSpread t u → HasMarksWithin i t → HasMarksWithin (i + 1) u
  marks_more i t u h s b root [] p k le = h root p k
  marks_more i t u h s b root (hop ∷ hops) p k le =
      s (end_of root hops) hop.to hop.device p.1 p.2 k.1 (b root hops p.0 k.0 (omega arith))

  -- where all paths are that short, the marks are at all nets where such a path ends
  pub marks_all : (count : ℕ) (t : ℕ → Bool) → ((root : Root) (hops : List Hop) → IsPath w root hops → length hops ≤ count) → HasMarksWithin count t → (n : ℕ) → Arrives w R H n → t n ≡ true
  marks_all count t short b n r = subst (λ (x : ℕ). t x ≡ true) r.4 (b r.0 r.1 r.2 r.3 (short r.0 r.1 r.2))

  -- so they are where nothing changes any more
  pub marks_closed : (t : ℕ → Bool) → HasRootMarks t → HasSpread t t → (n : ℕ) → Arrives w R H n → t n ≡ true
  marks_closed t h s n r = subst (λ (x : ℕ). t x ≡ true) r.4 (closed_end w R H (λ x. t x ≡ true) h s r.0 r.1 r.2 r.3)
