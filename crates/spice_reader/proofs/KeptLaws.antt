-- Cards of which the design does not tell can be left out.
use Rattle.std.proofs.Common.{◌≡◌, ◌++◌, ◌∷◌, ◌&&◌, ◌||◌, not, [], List, Bool, true, false, cond, is_some, map, flat_map, Option, Some, None, option_map, refl, ap, ap₂, sym, ◌∙◌, append_assoc}
use Rattle.std.specs.Prelude.{codes, filter, option_to_list}
use Rattle.std.specs.List.{list_any}
use Rattle.text_lines.specs.Groups.{groups, up_to}
use Rattle.text_lines.specs.Words.{behind}
use Rattle.vrt_model.specs.Lists.{distinct}
use Rattle.names.specs.Names.{distinct_by}
use Rattle.spice_reader.specs.Cards.{has_first}
use Rattle.spice_reader.specs.Learned.{is_told, with_card}
use Rattle.spice_reader.specs.Netlist.{begins_cell, cell_of, design_of, device_of, ends_cell, globals_in, instance_of, is_device, is_element, is_instance, is_model, model_kind, model_of, models_in}
use Rattle.spice_reader.specs.Refused.{is_inside, known_by, open_cell}
use Rattle.spice_reader.proofs.KnownLaws.{was_open}
use Rattle.spice_reader.specs.declared.card.Card.{Card}
use Rattle.spice_reader.specs.declared.known.OpenCell.{OpenCell}
use Rattle.vrt_model.specs.declared.design.Cell.{Cell}
use Rattle.vrt_model.specs.declared.design.Design.{Design}
use Rattle.vrt_model.specs.declared.design.ModelCard.{ModelCard}

abbrev cells_in : List Card → List Cell
cells_in cards = map cell_of (groups begins_cell ends_cell cards)

-- what passes a test before the end of a cell, with a card left out that does not pass
same_before_end : (p : Card → Bool) (card : Card) → p card ≡ false → ends_cell card ≡ false → (before rest : List Card)
    → filter p (up_to ends_cell (before ++ card ∷ rest)) ≡ filter p (up_to ends_cell (before ++ rest))
same_before_end p card h e [] rest =
    ap (λ b. filter p (cond b [] (card ∷ up_to ends_cell rest))) e ∙ ap (λ b. cond b (card ∷ filter p (up_to ends_cell rest)) (filter p (up_to ends_cell rest))) h
same_before_end p card h e (x ∷ xs) rest = by_test (ends_cell x) (same_before_end p card h e xs rest) where
  by_test : (b : Bool) → filter p (up_to ends_cell (xs ++ card ∷ rest)) ≡ filter p (up_to ends_cell (xs ++ rest))
      → filter p (cond b [] (x ∷ up_to ends_cell (xs ++ card ∷ rest))) ≡ filter p (cond b [] (x ∷ up_to ends_cell (xs ++ rest)))
  by_test true e = refl
  by_test false e = ap (λ ys. cond (p x) (x ∷ ys) ys) e

same_cell : (first : Card) (a b : List Card) → filter is_device a ≡ filter is_device b → filter is_instance a ≡ filter is_instance b → cell_of (first, a) ≡ cell_of (first, b)
same_cell first a b d i =
    ap (λ ds. let c : Cell = record (cell_of (first, a)) { devices = map device_of ds } in c) d
    ∙ ap (λ is. let c : Cell = record (cell_of (first, b)) { instances = map instance_of is } in c) i

same_head : (b : Bool) (g h : Card × List Card) (gs hs : List (Card × List Card)) → cell_of g ≡ cell_of h → map cell_of gs ≡ map cell_of hs
    → map cell_of (cond b (g ∷ gs) gs) ≡ map cell_of (cond b (h ∷ hs) hs)
same_head true g h gs hs e es = ap₂ (λ c cs. c ∷ cs) e es
same_head false g h gs hs e es = es

no_head : (card : Card) (rest : List Card) → begins_cell card ≡ false → cells_in (card ∷ rest) ≡ cells_in rest
no_head card rest h =
    ap (λ b. map cell_of (cond b ((card, up_to ends_cell rest) ∷ groups begins_cell ends_cell rest) (groups begins_cell ends_cell rest))) h

-- a card that is no transistor and no instance
no_element : (card : Card) → begins_cell card ≡ false → ends_cell card ≡ false → is_device card ≡ false → is_instance card ≡ false → (before rest : List Card)
    → cells_in (before ++ card ∷ rest) ≡ cells_in (before ++ rest)
no_element card h e d i [] rest = no_head card rest h
no_element card h e d i (x ∷ xs) rest =
    same_head (begins_cell x) _ _ _ _
    (same_cell x (up_to ends_cell (xs ++ card ∷ rest)) (up_to ends_cell (xs ++ rest)) (same_before_end is_device card d e xs rest) (same_before_end is_instance card i e xs rest))
    (no_element card h e d i xs rest)

-- what stands before an end, whatever comes behind
ends_within : (xs ys zs : List Card) → list_any ends_cell xs ≡ true → up_to ends_cell (xs ++ ys) ≡ up_to ends_cell (xs ++ zs)
ends_within [] ys zs e = cc
ends_within (x ∷ xs) ys zs e = by_test (ends_cell x) e (ends_within xs ys zs) where
  by_test : (b : Bool) → (b || list_any ends_cell xs) ≡ true → (list_any ends_cell xs ≡ true → up_to ends_cell (xs ++ ys) ≡ up_to ends_cell (xs ++ zs))
      → cond b [] (x ∷ up_to ends_cell (xs ++ ys)) ≡ cond b [] (x ∷ up_to ends_cell (xs ++ zs))
  by_test true e f = refl
  by_test false e f = ap (λ ys. x ∷ ys) (f e)

none_first : (b : Bool) {Y : Type 0} (y : Y) (o : Option Y) → cond b (Some y) o ≡ None → (b ≡ false) × (o ≡ None)
none_first true y o e = cc
none_first false y o e = (refl, e)

-- a card outside a cell
outside : (card : Card) → begins_cell card ≡ false → (before rest : List Card) → open_cell before ≡ None → cells_in (before ++ card ∷ rest) ≡ cells_in (before ++ rest)
outside card h [] rest none = no_head card rest h
outside card h (x ∷ xs) rest none =
    let two = none_first (begins_cell x && not (list_any ends_cell xs)) (x, xs) (open_cell xs) none in
    by_test (begins_cell x) two.0 (ends_within xs (card ∷ rest) rest) (outside card h xs rest two.1) where
      no_more : (a : Bool) → not a ≡ false → a ≡ true
      no_more true e = refl
      no_more false e = cc

      by_test : (b : Bool) → (b && not (list_any ends_cell xs)) ≡ false → (list_any ends_cell xs ≡ true → up_to ends_cell (xs ++ card ∷ rest) ≡ up_to ends_cell (xs ++ rest))
          → cells_in (xs ++ card ∷ rest) ≡ cells_in (xs ++ rest)
          → map cell_of (cond b ((x, up_to ends_cell (xs ++ card ∷ rest)) ∷ groups begins_cell ends_cell (xs ++ card ∷ rest)) (groups begins_cell ends_cell (xs ++ card ∷ rest)))
          ≡ map cell_of (cond b ((x, up_to ends_cell (xs ++ rest)) ∷ groups begins_cell ends_cell (xs ++ rest)) (groups begins_cell ends_cell (xs ++ rest)))
      by_test true e f rest_is = ap₂ (λ body cs. cell_of (x, body) ∷ cs) (f (no_more (list_any ends_cell xs) e)) rest_is
      by_test false e f rest_is = rest_is

no_part : {Y : Type 0} (f : Card → List Y) (card : Card) → f card ≡ [] → (before rest : List Card) → flat_map f (before ++ card ∷ rest) ≡ flat_map f (before ++ rest)
no_part f card e [] rest = ap (λ ys. ys ++ flat_map f rest) e
no_part f card e (x ∷ xs) rest = ap (λ ys. f x ++ ys) (no_part f card e xs rest)

same_design : (a b : List Card) → cells_in a ≡ cells_in b → flat_map globals_in a ≡ flat_map globals_in b → flat_map models_in a ≡ flat_map models_in b → design_of a ≡ design_of b
unfolding design_of
same_design a b c g m =
    ap (λ cells. let d : Design = record (design_of a) { cells = cells } in d) c
    ∙ ap₂ (λ names models. let d : Design = record (design_of b) { globals = distinct names; models = distinct_by (λ (x : ModelCard). x.name) models } in d) g m

none_told : (a b c d e : Bool) → (a || b || c || d || e) ≡ false → ((a ≡ false) × (b ≡ false)) × ((c ≡ false) × (d ≡ false)) × (e ≡ false)
none_told true b c d e h = cc
none_told false true c d e h = cc
none_told false false true d e h = cc
none_told false false false true e h = cc
none_told false false false false e h = ((refl, refl), (refl, refl), h)

none_inside : (o : Option OpenCell) → is_some o ≡ false → o ≡ None
none_inside None e = refl
none_inside (Some x) e = cc

neither : (a b : Bool) → (a || b) ≡ false → (a ≡ false) × (b ≡ false)
neither true b e = cc
neither false b e = (refl, e)

-- a card of which the design does not tell, behind cards of which this is known
pub left_out : (before : List Card) (card : Card) → is_told (known_by before) card ≡ false → (more : List Card) → design_of (before ++ card ∷ more) ≡ design_of (before ++ more)
left_out before card e more =
    let parts = none_told (begins_cell card) (ends_cell card) (is_model card) (has_first (codes ".global") card) (is_inside (known_by before) && is_element card) e in
    same_design (before ++ card ∷ more) (before ++ more)
    (by_inside (is_inside (known_by before)) refl parts.2 parts.0.0 parts.0.1)
    (no_part globals_in card (ap (λ b. cond b (behind card.words) []) parts.1.1) before more)
    (no_part models_in card (ap (λ b. cond b (option_to_list (option_map (model_of card) (model_kind card))) []) parts.1.0) before more) where
      by_inside : (b : Bool) → is_inside (known_by before) ≡ b → (is_inside (known_by before) && is_element card) ≡ false → begins_cell card ≡ false → ends_cell card ≡ false
          → cells_in (before ++ card ∷ more) ≡ cells_in (before ++ more)
      by_inside false is none h e = outside card h before more (was_open before (none_inside (known_by before).inside is))
      by_inside true is none h e =
          let two = neither (is_device card) (is_instance card) (ap (λ b. b && is_element card) (sym is) ∙ none) in
          no_element card h e two.0 two.1 before more

-- one card more, kept if the design tells of it
pub kept_more : (before kept : List Card) (card : Card) → ((more : List Card) → design_of (kept ++ more) ≡ design_of (before ++ more))
    → (more : List Card) → design_of (with_card (is_told (known_by before) card) kept card ++ more) ≡ design_of ((before ++ card ∷ []) ++ more)
kept_more before kept card same more = by_test (is_told (known_by before) card) refl where
  by_test : (b : Bool) → is_told (known_by before) card ≡ b → design_of (with_card b kept card ++ more) ≡ design_of ((before ++ card ∷ []) ++ more)
  by_test true e = ap design_of (append_assoc kept (card ∷ []) more) ∙ same (card ∷ more) ∙ ap design_of (sym (append_assoc before (card ∷ []) more))
  by_test false e = same more ∙ sym (left_out before card e more) ∙ ap design_of (sym (append_assoc before (card ∷ []) more))
