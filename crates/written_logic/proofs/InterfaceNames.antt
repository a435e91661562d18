-- The signals of a model's interface have the names and the numbers that they have in a written model with this interface.
use Rattle.std.proofs.Common.{◌≡◌, ℕ, true, false, not, List, [], ◌∷◌, ◌++◌, Option, map, ap, sym, subst, ◌∙◌, inl, inr}
use Rattle.std.specs.Prelude.{bytes_eq, filter, flat_map, slice_get, unwrap_or}
use Rattle.std.proofs.lemmas.Bool.{false_from_ne_true}
use Rattle.names.proofs.NameLaws.{once_has_same}
use Rattle.names.proofs.PlaceLaws.{any_placed, placed_at}
use Rattle.paired_ports.proofs.GivenLists.{number_among}
use Rattle.plain_models.proofs.FlatLaws.{driven_models_are_flat}
use Rattle.plain_models.proofs.InterfaceLaws.{interfaces_are_kept}
use Rattle.plain_models.specs.Flat.{flat_form, number_in, signal_names}
use Rattle.plain_models.specs.Interfaces.{IsInterfaceOf, SameInterface}
use Rattle.plain_models.specs.Texts.{PlainCover, PlainModel}
use Rattle.vrt_model.proofs.Filtered.{among_kept}
use Rattle.vrt_model.proofs.Members.{among_either, among_left, among_map, among_right}
use Rattle.vrt_model.proofs.Tests.{some_of}
use Rattle.vrt_model.specs.Elements.{signal_name}
use Rattle.vrt_model.specs.FlatBlif.{flat_model_of, model_at}
use Rattle.vrt_model.specs.Lists.{Among, At, has_name, has_number, place_of}
use Rattle.vrt_model.specs.declared.blif.Blif.{Blif}
use Rattle.vrt_model.specs.declared.flat_model.FlatModel.{FlatModel}
use Rattle.written_models.proofs.Covers.{at_named}
use Rattle.written_models.proofs.WrittenNames.{drivers, named_left, named_right}
use Rattle.written_models.specs.Written.{IsWritable, Logic, other_clocks, written_model}

module _ (blif : Blif) (m : ℕ) (l : Logic) (good : IsWritable l) (is : IsInterfaceOf (model_at blif m) (written_model l)) where
  abbrev written : PlainModel
  written = written_model l

  abbrev flat : FlatModel
  flat = flat_model_of blif m

  abbrev given : List (List ℕ)
  given = l.inputs ++ other_clocks l

  pub same : SameInterface (flat_model_of blif m) (flat_form (written_model l))
  same = subst (SameInterface (flat_model_of blif m)) (driven_models_are_flat (written_model l) (drivers l good)) (interfaces_are_kept blif m (written_model l) (drivers l good) is)

  -- the number of a name is that of a signal with this name
  number_named : (name : List ℕ) → has_name (given ++ l.outputs) name ≡ true → signal_name (flat_form written) (number_in written name) ≡ name
  number_named name t =
      let mentioned : List (List ℕ) = flat_map (λ (c : PlainCover). c.inputs ++ c.output ∷ []) written.covers in
      let there : has_name (signal_names written) name ≡ true =
      once_has_same ((given ++ l.outputs) ++ mentioned) name ∙ named_left (given ++ l.outputs) mentioned name t in
      let p = some_of (place_of (signal_names written) name) (sym (any_placed (bytes_eq name) (signal_names written)) ∙ there) in
      ap (λ (o : Option ℕ). unwrap_or (slice_get (signal_names written) (unwrap_or o 0)) []) p.1
      ∙ ap (λ (o : Option (List ℕ)). unwrap_or o []) (placed_at (signal_names written) name p.0 p.1)

  -- an input or a clock has the name of one
  pub input_named : (s : ℕ) → Among ((flat_model_of blif m).inputs ++ (flat_model_of blif m).clocks) s
      → (name : List ℕ) × (has_name (l.inputs ++ other_clocks l) name ≡ true) × (signal_name (flat_model_of blif m) s ≡ name) × (number_in (written_model l) name ≡ s)
  input_named s there =
      elim (among_either flat.inputs flat.clocks s there) [
        | inl a ↦ from l.inputs flat.inputs same.inputs (λ name t. named_left l.inputs (other_clocks l) name t) a
        | inr c ↦ from (other_clocks l) flat.clocks same.clocks (λ name t. named_right l.inputs (other_clocks l) name t) c
      ]
    where
      from : (names : List (List ℕ)) (signals : List ℕ) → signals ≡ map (number_in (written_model l)) names
          → ((name : List ℕ) → has_name names name ≡ true → has_name (l.inputs ++ other_clocks l) name ≡ true) → Among signals s
          → (name : List ℕ) × (has_name (l.inputs ++ other_clocks l) name ≡ true) × (signal_name (flat_model_of blif m) s ≡ name) × (number_in (written_model l) name ≡ s)
      from names signals e inside a =
          let found = among_map (number_in (written_model l)) names s (subst (λ (ss : List ℕ). Among ss s) e a) in
          let t : has_name (l.inputs ++ other_clocks l) found.0 ≡ true = inside found.0 (at_named names found.1.0 found.0 found.1.1) in
          let kept : signal_name (flat_model_of blif m) s ≡ signal_name (flat_form (written_model l)) s =
          same.names s (among_left (flat.inputs ++ flat.clocks) (filter (λ n. not (has_number (flat.inputs ++ flat.clocks) n)) flat.outputs) s there) in (
            found.0,
            t,
            kept ∙ ap (signal_name (flat_form (written_model l))) (sym found.2) ∙ number_named found.0 (named_left (l.inputs ++ other_clocks l) l.outputs found.0 t),
            found.2,
          )

  -- an output that is no input has the name of one
  pub output_named : (s : ℕ) → Among (flat_model_of blif m).outputs s → ¬ Among ((flat_model_of blif m).inputs ++ (flat_model_of blif m).clocks) s
      → (i : ℕ) × (name : List ℕ) × At l.outputs i name × (signal_name (flat_model_of blif m) s ≡ name) × (number_in (written_model l) name ≡ s)
  output_named s there other =
      let found = among_map (number_in (written_model l)) l.outputs s (subst (λ (ss : List ℕ). Among ss s) same.outputs there) in
      let apart : has_number (flat.inputs ++ flat.clocks) s ≡ false =
      false_from_ne_true (has_number (flat.inputs ++ flat.clocks) s) (λ t. other (number_among (flat.inputs ++ flat.clocks) s t)) in
      let kept : signal_name (flat_model_of blif m) s ≡ signal_name (flat_form (written_model l)) s =
      same.names s
      (among_right (flat.inputs ++ flat.clocks) (filter (λ n. not (has_number (flat.inputs ++ flat.clocks) n)) flat.outputs) s
      (among_kept (λ n. not (has_number (flat.inputs ++ flat.clocks) n)) flat.outputs s there (ap not apart))) in (
        found.1.0,
        found.0,
        found.1.1,
        kept ∙ ap (signal_name (flat_form (written_model l))) (sym found.2)
            ∙ number_named found.0 (named_right (l.inputs ++ other_clocks l) l.outputs found.0 (at_named l.outputs found.1.0 found.0 found.1.1)),
        found.2,
      )
