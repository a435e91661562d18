-- The graph of a model's signals grows cover by cover.
use Rattle.std.proofs.Common.{◌≡◌, ℕ, zero, suc, ◌+◌, ◌<◌, ◌++◌, ◌∷◌, [], List, length, get_or, take, Some, arith, ap, subst, sym, refl, inl, inr}
use Rattle.std.proofs.lemmas.List.{take_more}
use Rattle.std.proofs.lemmas.Option.{none-some, same_Some}
use Rattle.channel_parts.proofs.AddsLaws.{more_adds}
use Rattle.graphs.specs.Graphs.{AreInside, HasArcs}
use Rattle.known_nets.proofs.PlaceLaws.{arc_row}
use Rattle.known_nets.specs.Placed.{Adds, IsArc}
use Rattle.port_links.specs.CoverGraphs.{IsCoverArc, IsInputArc}
use Rattle.vrt_model.proofs.Lists.{take_one}
use Rattle.vrt_model.proofs.Members.{all_among, among_either, among_left, among_right}
use Rattle.vrt_model.specs.FlatModels.{IsCover, IsFlatModel}
use Rattle.vrt_model.specs.Lists.{At, Among}
use Rattle.vrt_model.specs.WholeInstances.{CoverArc}
use Rattle.vrt_model.specs.declared.flat_model.Cover.{Cover}
use Rattle.vrt_model.specs.declared.flat_model.FlatModel.{FlatModel}

pub the_item : {X : Type 0} (x y : X) → Among (x ∷ []) y → x ≡ y
the_item x y (zero, e) = same_Some x y e
the_item x y (suc i, e) = absurd (none-some y e)

-- ---- the inputs of a cover

one_input : (inputs : List ℕ) (output x : ℕ) (old mid new : List (List ℕ)) → Adds (IsInputArc inputs output) old mid → Adds (IsArc x output) mid new
    → Adds (IsInputArc (inputs ++ x ∷ []) output) old new
one_input inputs output x old mid new =
    more_adds (IsInputArc inputs output) (IsArc x output) (IsInputArc (inputs ++ x ∷ []) output) old mid new
    (λ f t arc. (among_left inputs (x ∷ []) f arc.0, arc.1))
    (λ f t arc. (among_right inputs (x ∷ []) f (0, ap (λ (k : ℕ). Some k) (sym arc.0)), arc.1))
    (λ f t arc. elim (among_either inputs (x ∷ []) f arc.0) [ inl m ↦ inl (m, arc.1) | inr m ↦ inr (sym (the_item x f m), arc.1) ])

pub input_turn : (inputs : List ℕ) (output i : ℕ) (old mid new : List (List ℕ)) → i < length inputs → Adds (IsInputArc (take i inputs) output) old mid
    → Adds (IsArc (get_or inputs i 0) output) mid new → Adds (IsInputArc (take (i + 1) inputs) output) old new
input_turn inputs output i old mid new lt one two =
    subst (λ (xs : List ℕ). Adds (IsInputArc xs output) old new) (sym (take_more inputs i 0 lt)) (one_input (take i inputs) output (get_or inputs i 0) old mid new one two)

-- ---- the covers

pub cover_turn : (covers : List Cover) (cover : Cover) (i : ℕ) (old mid new : List (List ℕ)) → At covers i cover → Adds (IsCoverArc (take i covers)) old mid
    → Adds (IsInputArc cover.inputs cover.output) mid new → Adds (IsCoverArc (take (i + 1) covers)) old new
cover_turn covers cover i old mid new there one two =
    subst (λ (xs : List Cover). Adds (IsCoverArc xs) old new) (sym (take_one covers i cover there))
    (more_adds (IsCoverArc (take i covers)) (IsInputArc cover.inputs cover.output) (IsCoverArc (take i covers ++ cover ∷ [])) old mid new
    (λ f t arc. (arc.0, among_left (take i covers) (cover ∷ []) arc.0 arc.1, arc.2, arc.3))
    (λ f t arc. (cover, among_right (take i covers) (cover ∷ []) cover (0, refl), arc.0, arc.1))
    (λ f t arc. elim (among_either (take i covers) (cover ∷ []) arc.0 arc.1) [
      | inl m ↦ inl (arc.0, m, arc.2, arc.3)
      | inr m ↦
          let same = the_item cover arc.0 m in
          inr (subst (λ (c : Cover). IsInputArc c.inputs c.output f t) (sym same) (arc.2, arc.3))
    ]) one two)

-- ---- the graph

pub has_cover_arcs : (model : FlatModel) (none graph : List (List ℕ)) → IsFlatModel model → length none ≡ length model.signals
    → ((k : ℕ) (row : List ℕ) → At none k row → row ≡ []) → Adds (IsCoverArc model.covers) none graph → HasArcs (CoverArc model) graph
has_cover_arcs model none graph flat len empty adds from to = (
  λ arc. elim (adds.only from to arc) [
    | inl o ↦ (let at = arc_row none from to o in absurd (none-some from (subst (λ (r : List ℕ). At r at.2.0 from) (empty to at.0 at.1) at.2.1)))
    | inr a ↦ a
  ],
  λ arc.
      let cover = all_among (IsCover (length model.signals)) model.covers arc.0 flat.covers arc.1 in
      let output = cover.output in
      let same = arc.3 in
      adds.joined from to arc (omega (arith, output, same, len)),
)

pub covers_inside : (model : FlatModel) (graph : List (List ℕ)) → IsFlatModel model → length graph ≡ length model.signals → HasArcs (CoverArc model) graph → AreInside graph
covers_inside model graph flat len arcs from to arc =
    let by = (arcs from to).0 arc in
    let cover = all_among (IsCover (length model.signals)) model.covers by.0 flat.covers by.1 in
    let input = all_among (λ (s : ℕ). s < length model.signals) by.0.inputs from cover.inputs by.2 in
    omega (arith, input, len)
