-- Where the marks of a level begin: paths end at them, and the roots have them.
use Rattle.std.proofs.Common.{◌≡◌, ℕ, ◌+◌, ◌<◌, ◌≤◌, true, List, length, arith, ap, refl, sym, subst, ◌∙◌, inl, inr}
use Rattle.std.proofs.lemmas.Bool.{cases_lt, false≢true}
use Rattle.node_pool.specs.declared.region.Span.{Span}
use Rattle.bdd_core.specs.Diagram.{Valuation, meaning}
use Rattle.bdd_core.specs.Store.{Diagrams}
use Rattle.bdd_core.proofs.Meaning.{meaning_one, meaning_zero}
use Rattle.vrt_model.proofs.PathKinds.{arrives_root}
use Rattle.vrt_model.proofs.Strength.{AtLeast, HopHas, RootHas, at_least_weaker}
use Rattle.vrt_model.specs.Lists.{At}
use Rattle.vrt_model.specs.Path.{Network, Root, level_of_drive}
use Rattle.vrt_model.specs.declared.circuit.Circuit.{Circuit}
use Rattle.vrt_model.specs.declared.circuit.FlatNet.{FlatNet}
use Rattle.vrt_model.specs.declared.circuit.Hold.{Hold}
use Rattle.vrt_model.specs.declared.whole.WholePin.{WholePin}
use Rattle.channel_parts.specs.declared.part.Part.{Part}
use Rattle.path_fixpoint.specs.Openings.{IsGivenAt, IsHoldAt, IsPinAt, OnlyBy, TakesAbove, mark_of}
use Rattle.path_fixpoint.specs.Parts.{IsPlace, pins_of}
use Rattle.path_fixpoint.specs.Strengths.{HasLevel, HasPaths, HasRoots, HasWords, StandsAt, strong, word_of}
use Rattle.bdd_core.specs.Words.{Writes}
use Rattle.path_fixpoint.proofs.Passing.{given_path}
use Rattle.path_fixpoint.proofs.Places.{place_in, place_once, word_in}
use Rattle.path_fixpoint.specs.declared.words.NetWords.{NetWords}

-- one cause after another
pub only_then : (out : NetWords) (level : ℕ) (P Q : ℕ → Type 0) (a b c : Diagrams) → ((i : ℕ) → Q i → P i) → OnlyBy out level P a b → OnlyBy out level Q b c → OnlyBy out level P a c
only_then out level P Q a b c more first second i =
    elim (second i) [
      | inr one ↦ inr (one.0, more i one.1)
      | inl same ↦ elim (first i) [ inl same' ↦ inl (same ∙ same') | inr one ↦ inr (same ∙ one.0, one.1) ]
    ]

-- a mark of the constant 1 stays
pub one_stays : (out : NetWords) (level : ℕ) (Q : ℕ → Type 0) (b c : Diagrams) (i : ℕ) → OnlyBy out level Q b c → mark_of b out level i ≡ 1 → mark_of c out level i ≡ 1
one_stays out level Q b c i only e = elim (only i) [ inl same ↦ same ∙ e | inr one ↦ one.0 ]

module _ (c : Circuit) (part : Part) (gates : Span) (out : NetWords) (level : ℕ) (low : 1 ≤ level) (high : level ≤ out.source) (old a b d new : Diagrams) (words : HasWords c part gates out old)
    (whole : Writes out.span old new)
    (taken : (i : ℕ) → i < length part.nets → TakesAbove out level old a i)
    (given : (i : ℕ) → IsGivenAt c part i → mark_of b out level i ≡ 1) (given_only : OnlyBy out level (IsGivenAt c part) a b)
    (holds : (i : ℕ) → IsHoldAt c part level i → mark_of d out level i ≡ 1) (holds_only : OnlyBy out level (IsHoldAt c part level) b d)
    (pins : (i : ℕ) → IsPinAt out.source part (pins_of c) level i → mark_of new out level i ≡ 1) (pins_only : OnlyBy out level (IsPinAt out.source part (pins_of c) level) d new) where
  -- a mark of the constant 1 stands at each valuation
  one_stands : (i : ℕ) (v : Valuation) → mark_of new out level i ≡ 1 → strong new out level i v ≡ true
  one_stands i v e = ap (λ (h : ℕ). meaning new.nodes h v) e ∙ meaning_one new.nodes v

  given_stays : (i : ℕ) → IsGivenAt c part i → mark_of new out level i ≡ 1
  given_stays i g = one_stays out level (IsPinAt out.source part (pins_of c) level) d new i pins_only (one_stays out level (IsHoldAt c part level) b d i holds_only (given i g))

  hold_stays : (i : ℕ) → IsHoldAt c part level i → mark_of new out level i ≡ 1
  hold_stays i h = one_stays out level (IsPinAt out.source part (pins_of c) level) d new i pins_only (holds i h)

  pub open_roots : (v : Valuation) (w : Network) → StandsAt c part gates old v w → HasRoots part out level new v w
  open_roots v w st root r le i p =
      elim r [
        | inl g ↦
            let there : At c.nets root.net g.0 = subst (λ (ns : List FlatNet). At ns root.net g.0) st.nets g.1 in
            one_stands i v (given_stays i (root.net, p, (g.0, there, g.2)))
        | inr other ↦ elim other [
          | inl h ↦
              let there : At c.holds h.0 h.1 = subst (λ (hs : List Hold). At hs h.0 h.1) st.holds h.2 in
              let size : root.level ≡ h.1.size = h.4 in
              one_stands i v (hold_stays i (h.0, h.1, there, omega (arith, le, size), subst (IsPlace part i) h.3 p))
          | inr o ↦
              let there : At (pins_of c) o.0 o.1 = subst (λ (ps : List WholePin). At ps o.0 o.1) st.outputs o.2 in
              let size : root.level ≡ level_of_drive out.source o.1.drive = o.4 ∙ ap (λ (s : ℕ). level_of_drive s o.1.drive) (st.source ∙ sym words.source) in
              one_stands i v (pins i (o.1, (o.0, there), omega (arith, le, size), subst (IsPlace part i) o.3 p))
        ]
      ]

  -- a mark that is that of the level above
  from_above : (v : Valuation) (w : Network) → (level < out.source → HasLevel part out (level + 1) old v w) → (i n : ℕ) → IsPlace part i n
      → mark_of new out level i ≡ mark_of a out level i → strong new out level i v ≡ true → AtLeast w level n
  from_above v w upper i n p same e =
      elim (cases_lt level out.source) [
        | inl lt ↦
            let is : mark_of new out level i ≡ mark_of old out (level + 1) i = same ∙ (taken i (place_in part i n p)).0 lt in
            let live : mark_of old out (level + 1) i < length old.nodes = words.out_live (word_of out (level + 1) i) (word_in c part gates out old (level + 1) i words (omega arith) (omega (arith, lt)) (place_in part i n p)) in
            let on : strong old out (level + 1) i v ≡ true = sym (whole.adds.kept (mark_of old out (level + 1) i) live v) ∙ sym (ap (λ (h : ℕ). meaning new.nodes h v) is) ∙ e in
            at_least_weaker w (level + 1) level n (omega arith) ((upper lt i n p).0 on)
        | inr ge ↦
            let is : mark_of new out level i ≡ 0 = same ∙ (taken i (place_in part i n p)).1 (omega (arith, ge, high)) in
            absurd (false≢true (sym (meaning_zero new.nodes v) ∙ sym (ap (λ (h : ℕ). meaning new.nodes h v) is) ∙ e))
      ]

  pub open_paths : (v : Valuation) (w : Network) → StandsAt c part gates old v w → (level < out.source → HasLevel part out (level + 1) old v w) → HasPaths part out level new v w
  open_paths v w st upper i n p e =
      elim (pins_only i) [
        | inr one ↦
            let pin = one.1.0 in
            let root : Root = record { net = pin.net.0; level = level_of_drive w.source pin.drive; value = w.driven one.1.1.0 } in
            let there : At w.outputs one.1.1.0 pin = subst (λ (ps : List WholePin). At ps one.1.1.0 pin) (sym st.outputs) one.1.1.1 in
            let size : level ≤ level_of_drive w.source pin.drive = subst (λ (s : ℕ). level ≤ level_of_drive s pin.drive) (words.source ∙ sym st.source) one.1.2 in
            let at : AtLeast w level pin.net.0 = arrives_root w (RootHas level) (HopHas level) root (inr (inr (one.1.1.0, pin, there, refl, refl, refl))) size in
            subst (AtLeast w level) (place_once part i pin.net.0 n one.1.3 p) at
        | inl late ↦ elim (holds_only i) [
          | inr one ↦
              let h = one.1 in
              let root : Root = record { net = h.1.net.0; level = h.1.size; value = w.held h.0 } in
              let there : At w.holds h.0 h.1 = subst (λ (hs : List Hold). At hs h.0 h.1) (sym st.holds) h.2 in
              let at : AtLeast w level h.1.net.0 = arrives_root w (RootHas level) (HopHas level) root (inr (inl (h.0, h.1, there, refl, refl, refl))) h.3 in
              subst (AtLeast w level) (place_once part i h.1.net.0 n h.4 p) at
          | inl same ↦ elim (given_only i) [
            | inl same' ↦ from_above v w upper i n p (late ∙ same ∙ same') e
            | inr one ↦
                let g = one.1 in
                subst (AtLeast w level) (place_once part i g.0 n g.1 p) (given_path c w level g.0 st.nets (omega (arith, high, st.source, words.source)) g.2)
          ]
        ]
      ]
