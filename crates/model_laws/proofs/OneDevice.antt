-- A net that one device pulls to supply 0: its response, in a network of which the nets and the device alone are fixed.
use Rattle.std.proofs.Common.{◌≡◌, ℕ, zero, suc, ◌≤◌, Bool, true, false, List, [], ◌∷◌, sym, subst, refl, ◌∙◌, ap, inl, inr, arith}
use Rattle.std.specs.Prelude.{codes}
use Rattle.std.proofs.lemmas.Bool.{false≢true}
use Rattle.std.proofs.lemmas.Option.{same_Some, none-some}
use Rattle.vrt_model.proofs.Laws.{avoids_end, level_below_root, path_root}
use Rattle.vrt_model.proofs.Members.{at_none}
use Rattle.model_laws.proofs.PathValues.{no_root_at, root_level, from_gnd, from_vdd}
use Rattle.vrt_model.specs.Lists.{Among}
use Rattle.vrt_model.specs.Path.{Avoids, Hop, IsPath, IsRoot, Joins, Network, Root, end_of, level_of}
use Rattle.vrt_model.specs.Response.{IsResponse, Reaches, Shows}
use Rattle.vrt_model.specs.declared.circuit.Device.{Device}
use Rattle.vrt_model.specs.declared.circuit.FlatNet.{FlatNet}
use Rattle.vrt_model.specs.declared.circuit.NetKind.TheVariants.{Supply, Plain}
use Rattle.vrt_model.specs.declared.design.Kind.TheVariants.{N}

abbrev pub the_device : Device
the_device = record { name = codes "m1"; kind = N; gate = record { 0 = 1 }; left = record { 0 = 2 }; right = record { 0 = 0 }; level = 6; keeper = false }

abbrev pub the_nets : List FlatNet
the_nets =
    record { name = codes "gnd"; kind = Supply false } ∷ record { name = codes "vdd"; kind = Supply true } ∷ record { name = codes "y"; kind = Plain } ∷ []

abbrev pub network : (ℕ → Bool) → (ℕ → Bool) → (ℕ → Bool) → Network
network reading held driven = record {
  nets = the_nets;
  holds = [];
  outputs = [];
  devices = the_device ∷ [];
  source = 8;
  reading = reading;
  given = reading;
  held = held;
  driven = driven;
}

pub the_only : (d : Device) → Among (the_device ∷ []) d → the_device ≡ d
the_only d (zero, e) = same_Some the_device d e
the_only d (suc n, e) = absurd (none-some d e)

module _ (reading held driven : ℕ → Bool) (low : reading 0 ≡ false) (high : reading 1 ≡ true) where
  -- how the device joins
  joins : (d : Device) (n to : ℕ) → Among (the_device ∷ []) d → Joins d n to → Joins the_device n to
  joins d n to m j = subst (λ (x : Device). Joins x n to) (sym (the_only d m)) j

  -- a root at a net has its bit
  root_bit : (root : Root) (n : ℕ) → IsRoot (network reading held driven) root → root.net ≡ n → root.value ≡ reading n
  root_bit root n r e =
      elim r [
        | inl g ↦ g.4 ∙ ap reading e
        | inr other ↦ elim other [ inl h ↦ absurd (at_none h.0 h.1 h.2) | inr o ↦ absurd (at_none o.0 o.1 o.2) ]
      ]

  most : (root : Root) (hops : List Hop) → IsPath (network reading held driven) root hops → level_of root hops ≤ 8
  most root hops p =
      let is : root.level ≡ 8 = root_level (network reading held driven) refl refl root (path_root (network reading held driven) root hops p) in
      let le = level_below_root root hops in
      omega (arith, le, is)

  -- a path that ends at vdd begins there
  at_vdd : (root : Root) (hops : List Hop) → IsPath (network reading held driven) root hops → end_of root hops ≡ 1 → root.value ≡ true
  at_vdd root [] p e = root_bit root 1 p e ∙ high
  at_vdd root (hop ∷ hops) p e =
      elim (joins hop.device (end_of root hops) hop.to p.1.0 p.2) [ inl j ↦ absurd (apart (j.1 ∙ e)) | inr j ↦ absurd (other (j.0 ∙ e)) ]
    where
      apart : ◌≡◌ {A = ℕ} 0 1 → ⊥
      apart x = omega (arith, x)

      other : ◌≡◌ {A = ℕ} 2 1 → ⊥
      other x = omega (arith, x)

  -- a path that ends at gnd begins there, where it does not pass y
  at_gnd : (root : Root) (hops : List Hop) → IsPath (network reading held driven) root hops → end_of root hops ≡ 0 → Avoids root hops 2 → root.value ≡ false
  at_gnd root [] p e avoids = root_bit root 0 p e ∙ low
  at_gnd root (hop ∷ hops) p e avoids =
      elim (joins hop.device (end_of root hops) hop.to p.1.0 p.2) [
        | inl j ↦ absurd (avoids_end root hops 2 avoids.1 (sym j.0))
        | inr j ↦ absurd (apart (j.0 ∙ e))
      ]
    where
      apart : ◌≡◌ {A = ℕ} 2 0 → ⊥
      apart x = omega (arith, x)

  -- a path that ends at y brings 0
  at_y : (root : Root) (hops : List Hop) → IsPath (network reading held driven) root hops → end_of root hops ≡ 2 → root.value ≡ false
  at_y root [] p e = absurd (no_root_at (network reading held driven) 2 refl refl refl root p e)
  at_y root (hop ∷ hops) p e =
      elim (joins hop.device (end_of root hops) hop.to p.1.0 p.2) [
        | inl j ↦ absurd (apart (j.1 ∙ e))
        | inr j ↦ at_gnd root hops p.0 (sym j.1) (subst (λ (n : ℕ). Avoids root hops n) e p.3)
      ]
    where
      apart : ◌≡◌ {A = ℕ} 0 2 → ⊥
      apart x = omega (arith, x)

  most_at_y : (root : Root) (hops : List Hop) → IsPath (network reading held driven) root hops → end_of root hops ≡ 2 → level_of root hops ≤ 6
  most_at_y root [] p e = absurd (no_root_at (network reading held driven) 2 refl refl refl root p e)
  most_at_y root (hop ∷ hops) p e = let six : 6 ≡ hop.device.level = ap (λ (d : Device). d.level) (the_only hop.device p.1.0) in omega (arith, six)

  pull : List Hop
  pull = record { device = the_device; to = 2 } ∷ []

  gnd_root : IsRoot (network reading held driven) from_gnd
  gnd_root = inl (_, refl, refl, refl, sym low)

  vdd_root : IsRoot (network reading held driven) from_vdd
  vdd_root = inl (_, refl, refl, refl, sym high)

  pull_is_path : IsPath (network reading held driven) from_gnd pull
  unfolding pull
  pull_is_path = (gnd_root, ((0, refl), high), inr (refl, refl), λ e. omega (arith, e))

  reaches_y : Reaches (network reading held driven) 2 false
  unfolding pull
  reaches_y = (
    from_gnd,
    pull,
    pull_is_path,
    ((λ root hops p e. most root hops p, inr (from_gnd, [], gnd_root, refl, refl)), (most_at_y, inr (from_gnd, pull, pull_is_path, refl, refl))),
    refl,
    refl,
  )

  -- y shows 0, and vdd shows 1
  pub y_shows : IsResponse (network reading held driven) 2 (Shows false)
  y_shows = (reaches_y, λ r. false≢true (sym (at_y r.0 r.1 r.2 r.4) ∙ r.5))

  pub vdd_shows : IsResponse (network reading held driven) 1 (Shows true)
  vdd_shows = (
    (from_vdd, [], vdd_root, (λ root hops p e. most root hops p, inr (from_vdd, [], vdd_root, refl, refl)), refl, refl),
    λ r. false≢true (sym r.5 ∙ at_vdd r.0 r.1 r.2 r.4),
  )
