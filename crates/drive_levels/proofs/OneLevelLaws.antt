-- Where all devices are of one level and given nets alone are roots, each path that ends at a plain net has that level.
use Rattle.std.proofs.Common.{◌≡◌, ℕ, ◌<◌, ◌≤◌, Bool, true, false, cond, Option, Some, List, [], ◌∷◌, length, map, arith, refl, ap, ap₂, sym, subst, ◌∙◌, inl, inr}
use Rattle.std.specs.Prelude.{flat_map}
use Rattle.std.proofs.lemmas.Bool.{false≢true}
use Rattle.std.proofs.lemmas.Option.{none-some}
use Rattle.bdd_core.specs.Diagram.{Valuation}
use Rattle.bdd_core.specs.Store.{Diagrams, function_of}
use Rattle.bdd_core.specs.Words.{shows}
use Rattle.bdd_core.specs.declared.handle.H.{H}
use Rattle.drive_levels.proofs.CaseLevels.{given_level}
use Rattle.drive_levels.proofs.NetLevelLaws.{same_as_itself}
use Rattle.drive_levels.specs.NetLevels.{HasLevelIn, IsSolvedPhase, NetGives, level_by, same_level}
use Rattle.drive_levels.specs.OneLevel.{HasOneLevel}
use Rattle.known_nets.proofs.NetKinds.{given_or_plain, is_plain_is, plain_is}
use Rattle.node_pool.specs.declared.region.Span.{Span}
use Rattle.output_levels.specs.PartLevels.{level_at}
use Rattle.vrt_model.proofs.Filtered.{among_devices, device_among}
use Rattle.vrt_model.proofs.GatesGiven.{IsGiven}
use Rattle.vrt_model.proofs.Members.{all_among}
use Rattle.vrt_model.proofs.Ranked.{plain_not_given}
use Rattle.vrt_model.proofs.SameNetwork.{IsPartOf, path_more}
use Rattle.vrt_model.specs.Circuits.{IsDevice}
use Rattle.vrt_model.specs.Known.{IsPlain, is_plain_at}
use Rattle.vrt_model.specs.Lists.{Among, At}
use Rattle.vrt_model.specs.Networks.{HasRanges}
use Rattle.vrt_model.specs.Path.{Hop, IsPath, IsRoot, Network, Root, end_of, level_of}
use Rattle.vrt_model.specs.Reading.{bare, is_in}
use Rattle.vrt_model.specs.Response.{IsResponse, IsStrength, Shows}
use Rattle.vrt_model.specs.State.{OutputPin, Setting, State, network_of}
use Rattle.vrt_model.specs.declared.circuit.Circuit.{Circuit}
use Rattle.vrt_model.specs.declared.circuit.Device.{Device}
use Rattle.vrt_model.specs.declared.rules.Phase.{Phase}
use Rattle.vrt_model.specs.declared.whole.Whole.{Whole}
use Rattle.vrt_model.specs.Levels.{source_level}
use Rattle.path_fixpoint.proofs.SourceLevels.{device_below}
use Rattle.vrt_model.specs.declared.whole.WholePin.{WholePin}

-- nothing stands in an empty list
nothing_at : {X : Type 0} (xs : List X) (i : ℕ) (x : X) → xs ≡ [] → At xs i x → ⊥
nothing_at {X} xs i x none there = none-some x (subst (λ (ys : List X). At ys i x) none there)

-- ---- paths of a network of the circuit

module _ (c : Circuit) (ranges : HasRanges c) (level : ℕ) (one : HasOneLevel c level) (which : Bool) (held : ℕ → Bool) (s : State) where
  abbrev w : Network
  w = network_of c which held s

  no_outputs : w.outputs ≡ []
  no_outputs = ap (λ (wholes : List Whole). map (λ (out : OutputPin). out.pin) (flat_map (λ (x : Whole). map (λ (p : WholePin). let pin : OutputPin = record { whole = x; pin = p } in pin) x.outputs) wholes)) one.wholes

  -- a path begins at a given net
  root_given : (root : Root) → IsRoot w root → IsGiven c root.net × (root.level ≡ source_level c)
  root_given root (inl g) = ((g.0, g.1, g.2), g.3)
  root_given root (inr (inl h)) = absurd (nothing_at c.holds h.0 h.1 one.holds h.2)
  root_given root (inr (inr o)) = absurd (nothing_at w.outputs o.0 o.1 no_outputs o.2)

  device_level : (hop : Hop) → Among w.devices hop.device → hop.device.level ≡ level
  device_level hop on = one.devices hop.device (device_among which c hop.device on).0

  low : (hop : Hop) → Among w.devices hop.device → level ≤ source_level c
  low hop on =
      let most = (device_below c hop.device.level (all_among (IsDevice c) c.devices hop.device ranges.devices (device_among which c hop.device on).0).level).1 in
      let is = device_level hop on in
      omega (arith, most, is)

  -- and has the level of its devices, if it has any
  path_level : (root : Root) (hop : Hop) (hops : List Hop) → IsPath w root (hop ∷ hops) → level_of root (hop ∷ hops) ≡ level
  path_level root hop [] path =
      let top = (root_given root path.0).1 in
      let is = device_level hop path.1.0 in
      let most = low hop path.1.0 in
      omega (arith, top, is, most)
  path_level root hop (more ∷ hops) path =
      let before = path_level root more hops path.0 in
      let is = device_level hop path.1.0 in
      omega (arith, before, is)

  -- so that is its level where it ends at a net that is not given
  plain_level : (n : ℕ) → IsPlain c n → (root : Root) (hops : List Hop) → IsPath w root hops → end_of root hops ≡ n → level_of root hops ≡ level
  plain_level n plain root [] path ends = (let g = (root_given root path).0 in absurd (plain_not_given c n plain (g.0, subst (λ (m : ℕ). At c.nets m g.0) ends g.1, g.2)))
  plain_level n plain root (hop ∷ hops) path ends = path_level root hop hops path

  plain_strength : (n : ℕ) → IsPlain c n → (root : Root) (hops : List Hop) → IsPath w root hops → end_of root hops ≡ n → IsStrength w n level
  plain_strength n plain root hops path ends = (
    λ r hs p e. (let is = plain_level n plain r hs p e in omega (arith, is)),
    inr (root, hops, path, ends, plain_level n plain root hops path ends),
  )

-- ---- an observed net in a solved phase

module _ (c : Circuit) (level : ℕ) (one : HasOneLevel c level) (phase : Phase) (observed : ℕ → Bool) (setting : Valuation → Setting) (care : H) (roots gates : Span) (d : Diagrams)
    (solved : IsSolvedPhase c phase observed setting care roots gates d) where
  -- a path to a net that shows a bit
  shown_path : (w : Network) (n : ℕ) (b : Bool) → IsResponse w n (Shows b) → (root : Root) × (hops : List Hop) × IsPath w root hops × (end_of root hops ≡ n)
  shown_path w n true h = (h.0.0, h.0.1, h.0.2, h.0.4)
  shown_path w n false h = (h.0.0, h.0.1, h.0.2, h.0.4)

  -- each device of the bare circuit is one of both
  in_both : (which : Bool) (held : ℕ → Bool) (s : State) → IsPartOf (network_of c bare held s) (network_of c which held s)
  in_both which held s = record {
    roots = λ root r. r;
    devices = λ x on. (let there = device_among bare c x on.0 in (among_devices which c x there.0 (still_in which x there.1), on.1));
  }
    where
      still_in : (which : Bool) (x : Device) → is_in bare x ≡ true → is_in which x ≡ true
      still_in true x e = e
      still_in false x e = refl

  seen_level : (n : ℕ) → IsPlain c n → observed n ≡ true → HasLevelIn c phase observed setting (function_of d care) n level
  seen_level n plain seen which v a s here solves is agrees =
      let held = (setting v).held in
      let bit = shows d gates n v in
      let path = shown_path (network_of c bare held s) n bit ((solves n bit seen).0 (solved.bits v a here solves n seen) s is agrees) in
      plain_strength c solved.wholes.ranges level one which held s n plain path.0 path.1 (path_more (network_of c bare held s) (network_of c which held s) (in_both which held s) path.0 path.1 path.2) path.3

  -- by tables in which that level stands everywhere
  pub one_level_gives : (bare_levels kept_levels : List (Option ℕ)) → length bare_levels ≡ length c.nets → length kept_levels ≡ length c.nets
      → ((n : ℕ) → n < length bare_levels → level_at bare_levels n ≡ Some level) → ((n : ℕ) → n < length kept_levels → level_at kept_levels n ≡ Some level)
      → (n : ℕ) → n < length c.nets → observed n ≡ true → NetGives c phase observed setting (function_of d care) n (level_by c bare_levels kept_levels n)
  one_level_gives bare_levels kept_levels bare_len kept_len in_bare in_kept n inside seen = by_kind (is_plain_at c n) refl
    where
      both : same_level (level_at bare_levels n) (level_at kept_levels n) ≡ Some level
      both =
          ap₂ same_level (in_bare n (omega (arith, inside, bare_len))) (in_kept n (omega (arith, inside, kept_len)))
          ∙ same_as_itself (Some level)

      by_kind : (b : Bool) → is_plain_at c n ≡ b → NetGives c phase observed setting (function_of d care) n (cond b (same_level (level_at bare_levels n) (level_at kept_levels n)) (Some (source_level c)))
      by_kind true plain = subst (NetGives c phase observed setting (function_of d care) n) (sym both) (seen_level n (plain_is c n plain) seen)
      by_kind false other =
          elim (given_or_plain c n inside) [
            | inl g ↦ λ which. given_level c phase observed setting care roots gates d solved which n g
            | inr p ↦ absurd (false≢true (sym other ∙ is_plain_is c n p))
          ]
