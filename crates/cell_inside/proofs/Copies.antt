-- Copies of devices, strengths by one path, and sources of one value.
use Rattle.std.proofs.Common.{◌≡◌, ℕ, ◌≤◌, ◌⊎◌, ◌&&◌, Bool, List, [], ◌∷◌, eqb, arith, subst, sym, refl, ◌∙◌, ap, inl, inr}
use Rattle.std.proofs.lemmas.Bool.{cases_Bool, false≢true, and_from, and_parts, eqb-true, eq-eqb}
use Rattle.std.specs.List.{list_any}
use Rattle.cell_inside.specs.Inside.{IsCopy, IsOutside, IsSourceOf, Touches}
use Rattle.vrt_model.proofs.Clear.{HopFits, RootFits, keeps-level_is}
use Rattle.vrt_model.proofs.GivenNets.{level_after, source_strength}
use Rattle.vrt_model.proofs.Laws.{one_strength}
use Rattle.vrt_model.proofs.Members.{among_any, any_among}
use Rattle.vrt_model.proofs.PathKinds.{Arrives, Keeps, arrives_root}
use Rattle.vrt_model.proofs.Strength.{AtLeast, level-keeps}
use Rattle.vrt_model.specs.Networks.{HasLevels, IsSource}
use Rattle.vrt_model.specs.Path.{Hop, IsOn, IsPath, Joins, Network, Root, end_of, level_of}
use Rattle.vrt_model.specs.Reading.{conducts}
use Rattle.vrt_model.specs.Response.{IsStrength}
use Rattle.vrt_model.specs.declared.circuit.Device.{Device}

-- ---- copies

-- a copy joins what the device joins
pub copy_joins : (at : ℕ → ℕ) (d e : Device) (m n : ℕ) → IsCopy at d e → Joins d m n → Joins e (at m) (at n)
copy_joins at d e m n c (inl j) = inl (c.1 ∙ ap at j.0, c.2 ∙ ap at j.1)
copy_joins at d e m n c (inr j) = inr (c.1 ∙ ap at j.0, c.2 ∙ ap at j.1)

-- what a copy joins, the device joins
pub record Joined (at : ℕ → ℕ) (d : Device) (a b : ℕ) : Type 0 where
  pub from : ℕ
  pub to : ℕ
  pub joins : Joins d from to
  pub from_is : at from ≡ a
  pub to_is : at to ≡ b

pub joined : (at : ℕ → ℕ) (d e : Device) (a b : ℕ) → IsCopy at d e → Joins e a b → Joined at d a b
joined at d e a b c (inl j) = record { from = d.left.0; to = d.right.0; joins = inl (refl, refl); from_is = sym c.1 ∙ j.0; to_is = sym c.2 ∙ j.1 }
joined at d e a b c (inr j) = record { from = d.right.0; to = d.left.0; joins = inr (refl, refl); from_is = sym c.2 ∙ j.1; to_is = sym c.1 ∙ j.0 }

-- the nets that a device joins are touched
pub touched : (d : Device) (m n : ℕ) → Joins d m n → Touches d n
touched d m n (inl j) = inr j.1
touched d m n (inr j) = inl j.0

pub touched_from : (d : Device) (m n : ℕ) → Joins d m n → Touches d m
touched_from d m n (inl j) = inl j.0
touched_from d m n (inr j) = inr j.1

-- whether a device is a copy of one that conducts
abbrev copies : (ℕ → Bool) → (ℕ → ℕ) → Device → Device → Bool
copies reading at e d = conducts reading d && (eqb e.level d.level && (eqb e.left.0 (at d.left.0) && eqb e.right.0 (at d.right.0)))

pub copied_or_not : (cell : Network) (at : ℕ → ℕ) (e : Device) → ((d : Device) × IsOn cell d × IsCopy at d e) ⊎ IsOutside cell at e
copied_or_not cell at e =
    elim (cases_Bool (list_any (copies cell.reading at e) cell.devices)) [
      | inl t ↦
          let h = any_among (copies cell.reading at e) cell.devices t in
          let d : Device = h.0 in
          let p = and_parts (conducts cell.reading d) (eqb e.level d.level && (eqb e.left.0 (at d.left.0) && eqb e.right.0 (at d.right.0))) h.2 in
          let q = and_parts (eqb e.level d.level) (eqb e.left.0 (at d.left.0) && eqb e.right.0 (at d.right.0)) p.1 in
          let r = and_parts (eqb e.left.0 (at d.left.0)) (eqb e.right.0 (at d.right.0)) q.1 in
          inl (d, (h.1, p.0), (eqb-true e.level d.level q.0, eqb-true e.left.0 (at d.left.0) r.0, eqb-true e.right.0 (at d.right.0) r.1))
      | inr f ↦ inr (λ d on c.
          let r = and_from (eqb e.left.0 (at d.left.0)) (eqb e.right.0 (at d.right.0)) (eq-eqb e.left.0 (at d.left.0) c.1) (eq-eqb e.right.0 (at d.right.0) c.2) in
          let q = and_from (eqb e.level d.level) (eqb e.left.0 (at d.left.0) && eqb e.right.0 (at d.right.0)) (eq-eqb e.level d.level c.0) r in
          let p = and_from (conducts cell.reading d) (eqb e.level d.level && (eqb e.left.0 (at d.left.0) && eqb e.right.0 (at d.right.0))) on.1 q in
          false≢true (sym f ∙ among_any (copies cell.reading at e) cell.devices d on.0 p))
    ]

-- ---- strengths

-- an upper bound that some path has is the strength
pub strength_by : (w : Network) (n s : ℕ) → ((root : Root) (hops : List Hop) → IsPath w root hops → end_of root hops ≡ n → level_of root hops ≤ s)
    → (s ≡ 0) ⊎ AtLeast w s n → IsStrength w n s
strength_by w n s up (inl none) = (up, inl none)
strength_by w n s up (inr r) =
    let low = level-keeps s r.0 r.1 r.3 in
    let high = up r.0 r.1 r.2 r.4 in
    (up, inr (r.0, r.1, r.2, r.4, omega (arith, low, high)))

-- ---- sources

module _ (w : Network) (levels : HasLevels w) (s : ℕ → ℕ) (strong : (n : ℕ) → IsStrength w n (s n)) (n : ℕ) (v : Bool) (is : IsSourceOf w n v) where
  pub is_source : IsSource w n
  is_source = (is.root, is.is, is.net, is.level)

  pub source_level_is : s n ≡ w.source
  source_level_is = one_strength w n (s n) w.source (strong n) (source_strength w levels n is_source)

  -- the source is a path that fits
  pub source_arrives : Arrives w (RootFits s v) (HopFits s) n
  source_arrives =
      let net = is.net in
      let fits : is.root.level ≡ s is.root.net = is.level ∙ sym source_level_is ∙ ap s (sym net) in
      subst (Arrives w (RootFits s v) (HopFits s)) net (arrives_root w (RootFits s v) (HopFits s) is.root is.is (fits, is.value))

  -- a path that fits and ends there has no device, and its value
  pub source_only : (u : Bool) (root : Root) (hops : List Hop) → IsPath w root hops → Keeps (RootFits s u) (HopFits s) root hops → end_of root hops ≡ n → u ≡ v
  source_only u root [] p k e =
      let full : root.level ≡ w.source = k.0 ∙ ap s e ∙ source_level_is in
      sym k.1 ∙ is.only root p e full
  source_only u root (hop ∷ hops) p k e =
      let level = keeps-level_is w s strong u root (hop ∷ hops) k in
      let after = level_after w levels root hop hops p in
      let full : s hop.to ≡ w.source = ap s e ∙ source_level_is in
      absurd (omega (arith, level, after, full))
