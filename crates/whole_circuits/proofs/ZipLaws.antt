-- Whole instances in the order of their places.
use Rattle.std.proofs.Common.{◌≡◌, ℕ, ◌+◌, ◌<◌, ◌≤◌, ◌++◌, Bool, true, false, List, [], ◌∷◌, length, take, ap, subst, sym, ◌∙◌}
use Rattle.std.specs.Prelude.{cond, filter}
use Rattle.std.specs.List.{AllZip, enumerate_from}
use Rattle.std.proofs.lemmas.List.{append-nil, length-map, take_all}
use Rattle.std.proofs.lemmas.List.Elements.{filter-append}
use Rattle.std.proofs.lemmas.List.FromFn.{length-enumerate_from}
use Rattle.checked_chain.proofs.ChoiceLaws.{numbered, numbered_at}
use Rattle.net_places.specs.Links.{Bare, bare, shown}
use Rattle.net_places.specs.declared.whole.Unrolled.{Unrolled}
use Rattle.whole_circuits.specs.Insides.{IsCutAt}
use Rattle.whole_circuits.specs.WholeCells.{GrowsTo, wholes_before}
use Rattle.vrt_model.proofs.Lists.{at_there, take_one}
use Rattle.vrt_model.specs.Cut.{Cut, NumberedPlace, is_whole, numbered_places, whole_places}
use Rattle.vrt_model.specs.Lists.{At, mark_at}
use Rattle.vrt_model.specs.Unrolled.{all_places}
use Rattle.vrt_model.specs.WholeInstances.{IsWholeAt}
use Rattle.vrt_model.specs.declared.blif.Blif.{Blif}
use Rattle.vrt_model.specs.declared.whole.CellFacts.{CellFacts}
use Rattle.vrt_model.specs.declared.whole.Whole.{Whole}

-- one more item in both lists
pub zip_more : {X Y : Type 0} (R : X → Y → Type 0) (xs : List X) (ys : List Y) (x : X) (y : Y) → AllZip R xs ys → R x y → AllZip R (xs ++ x ∷ []) (ys ++ y ∷ [])
zip_more R [] [] x y all one = (one, all)
zip_more R [] (b ∷ ys) x y all one = absurd all
zip_more R (a ∷ xs) [] x y all one = absurd all
zip_more R (a ∷ xs) (b ∷ ys) x y all one = (all.0, zip_more R xs ys x y all.1 one)

module _ (cut : Cut) (unrolled : Unrolled) (whole : List Bool) (is : IsCutAt cut unrolled whole) where
  -- as many places
  as_many : length unrolled.places ≡ length (numbered_places cut.top)
  as_many =
      sym (length-map unrolled.places shown) ∙ ap (λ (bs : List Bare). length bs) is.unrolled_is.places_are ∙ length-map (all_places cut.top) bare
      ∙ sym (length-map (enumerate_from 0 (all_places cut.top)) numbered ∙ length-enumerate_from 0 (all_places cut.top))

  abbrev test : NumberedPlace → Bool
  test p = is_whole cut.choice p.number

  -- the places before the next, by whether this one is whole
  pub next_before : (n : ℕ) (p : NumberedPlace) → At (numbered_places cut.top) n p → (b : Bool) → mark_at whole n ≡ b → wholes_before cut (n + 1) ≡ wholes_before cut n ++ cond b (p ∷ []) []
  next_before n p here b e =
      ap (filter test) (take_one (numbered_places cut.top) n p here) ∙ filter-append test (take n (numbered_places cut.top)) (p ∷ [])
      ∙ ap (λ (t : Bool). wholes_before cut n ++ cond t (p ∷ []) []) (ap (is_whole cut.choice) (numbered_at cut.top n p here).0 ∙ sym (is.marks n) ∙ e)

  pub place_there : (n : ℕ) → n < length unrolled.places → (p : NumberedPlace) × At (numbered_places cut.top) n p
  place_there n lt = at_there (numbered_places cut.top) n (subst (λ (k : ℕ). n < k) as_many lt)

  -- where a place is not whole nothing is added
  pub none_more : (blif : Blif) (facts : List CellFacts) (n : ℕ) (wholes : List Whole) → n < length unrolled.places → mark_at whole n ≡ false → GrowsTo cut blif facts n wholes wholes
  none_more blif facts n wholes lt e all =
      let p = place_there n lt in
      subst (λ (ps : List NumberedPlace). AllZip (IsWholeAt cut blif facts) ps wholes) (sym (next_before n p.0 p.1 false e ∙ append-nil (wholes_before cut n))) all

  -- where it is, the instance there is
  pub one_more : (blif : Blif) (facts : List CellFacts) (n : ℕ) (p : NumberedPlace) (old new : List Whole) → At (numbered_places cut.top) n p → mark_at whole n ≡ true
      → (AllZip (IsWholeAt cut blif facts) (wholes_before cut n) old → AllZip (IsWholeAt cut blif facts) (wholes_before cut n ++ p ∷ []) new) → GrowsTo cut blif facts n old new
  one_more blif facts n p old new here e grown all =
      subst (λ (ps : List NumberedPlace). AllZip (IsWholeAt cut blif facts) ps new) (sym (next_before n p here true e)) (grown all)

  pub all_before : (n : ℕ) → length unrolled.places ≤ n → wholes_before cut n ≡ whole_places cut
  all_before n le = ap (filter test) (take_all n (numbered_places cut.top) (subst (λ (k : ℕ). k ≤ n) as_many le))
