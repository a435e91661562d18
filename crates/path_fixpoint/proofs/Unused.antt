-- A level that no device and no root has: the strengths are at least it where they are at least the next one.
use Rattle.std.proofs.Common.{◌≡◌, ◌≢◌, ℕ, ◌+◌, ◌<◌, List, length, arith, ap, sym, subst, ◌∙◌, inl, inr}
use Rattle.node_pool.specs.declared.region.Span.{Span}
use Rattle.bdd_core.specs.Diagram.{Valuation, meaning}
use Rattle.bdd_core.specs.Store.{Diagrams}
use Rattle.bdd_core.specs.Words.{Writes}
use Rattle.vrt_model.proofs.PathKinds.{arrives_on, arrives_root, closed_end}
use Rattle.vrt_model.proofs.Strength.{AtLeast, HopHas, RootHas, at_least_weaker}
use Rattle.vrt_model.specs.Levels.{source_level}
use Rattle.vrt_model.specs.Lists.{At, Among}
use Rattle.vrt_model.specs.Path.{IsRoot, Network, Root, level_of_drive}
use Rattle.vrt_model.specs.declared.circuit.Circuit.{Circuit}
use Rattle.vrt_model.specs.declared.circuit.Device.{Device}
use Rattle.vrt_model.specs.declared.circuit.Hold.{Hold}
use Rattle.vrt_model.specs.declared.whole.WholePin.{WholePin}
use Rattle.channel_parts.specs.declared.part.Part.{Part}
use Rattle.path_fixpoint.specs.Openings.{IsUnused, TakesAbove, mark_of}
use Rattle.path_fixpoint.specs.Parts.{pins_of}
use Rattle.path_fixpoint.specs.Strengths.{HasLevel, HasWords, StandsAt, strong, word_of}
use Rattle.path_fixpoint.proofs.Places.{place_in, word_in}
use Rattle.path_fixpoint.specs.declared.words.NetWords.{NetWords}

-- a path of this level is one of the next
at_least_above : (w : Network) (level : ℕ) → ((root : Root) → IsRoot w root → root.level ≢ level) → ((d : Device) → Among w.devices d → d.level ≢ level)
    → (n : ℕ) → AtLeast w level n → AtLeast w (level + 1) n
at_least_above w level roots devices n r =
    subst (AtLeast w (level + 1)) r.4
    (closed_end w (RootHas level) (HopHas level) (AtLeast w (level + 1))
    (λ root is le. arrives_root w (RootHas (level + 1)) (HopHas (level + 1)) root is (let other = roots root is in omega (arith, le, other)))
    (λ m k d on j le q. arrives_on w (RootHas (level + 1)) (HopHas (level + 1)) m k d q on j (let other = devices d on.0 in omega (arith, le, other))) r.0 r.1 r.2 r.3)

module _ (c : Circuit) (part : Part) (gates : Span) (out : NetWords) (level : ℕ) (unused : IsUnused c part level) where
  -- no root of the network has the level
  other_roots : (d : Diagrams) (v : Valuation) (w : Network) → StandsAt c part gates d v w → (root : Root) → IsRoot w root → root.level ≢ level
  other_roots d v w st root is same =
      elim is [
        | inl g ↦ (let greatest : root.level ≡ w.source = g.3 in omega (arith, greatest, st.source, same, unused.0))
        | inr other ↦ elim other [
          | inl h ↦
              let there : At c.holds h.0 h.1 = subst (λ (hs : List Hold). At hs h.0 h.1) st.holds h.2 in
              let size : root.level ≡ h.1.size = h.4 in
              unused.2 h.0 h.1 there (sym size ∙ same)
          | inr o ↦
              let there : At (pins_of c) o.0 o.1 = subst (λ (ps : List WholePin). At ps o.0 o.1) st.outputs o.2 in
              let size : root.level ≡ level_of_drive (source_level c) o.1.drive = o.4 ∙ ap (λ (s : ℕ). level_of_drive s o.1.drive) st.source in
              unused.3 o.1 (o.0, there) (sym size ∙ same)
        ]
      ]

  -- the marks of the level above tell the level too
  pub level_above : (old new : Diagrams) (v : Valuation) (w : Network) → HasWords c part gates out old → Writes out.span old new
      → ((i : ℕ) → i < length part.nets → TakesAbove out level old new i) → StandsAt c part gates old v w → HasLevel part out (level + 1) old v w → HasLevel part out level new v w
  level_above old new v w words wr taken st is i n p =
      let below : level < out.source = omega (arith, unused.0, words.source) in
      let same : mark_of new out level i ≡ mark_of old out (level + 1) i = (taken i (place_in part i n p)).0 below in
      let live : mark_of old out (level + 1) i < length old.nodes = words.out_live (word_of out (level + 1) i) (word_in c part gates out old (level + 1) i words (omega arith) (omega (arith, below)) (place_in part i n p)) in
      let shown : strong new out level i v ≡ strong old out (level + 1) i v = ap (λ (h : ℕ). meaning new.nodes h v) same ∙ wr.adds.kept (mark_of old out (level + 1) i) live v in (
        λ e. at_least_weaker w (level + 1) level n (omega arith) ((is i n p).0 (sym shown ∙ e)),
        λ r. shown ∙ (is i n p).1 (at_least_above w level (other_roots old v w st)
            (λ d among. unused.1 d (subst (λ (ds : List Device). Among ds d) st.devices among)) n r),
      )
