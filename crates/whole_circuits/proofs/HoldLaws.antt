-- The numbers of instances that are shown, and the holds that name them.
use Rattle.std.proofs.Common.{◌≡◌, ℕ, zero, suc, ◌+◌, ◌<◌, Bool, true, false, not, List, [], ◌∷◌, length, map, Option, Some, None, arith, subst, sym, refl, ◌∙◌, ap}
use Rattle.std.specs.Prelude.{All, cond, drop, option_map, unwrap_or}
use Rattle.std.proofs.lemmas.List.{length-map}
use Rattle.std.proofs.lemmas.Option.{get_or_from_slice_get, slice_get_within}
use Rattle.whole_circuits.specs.MovedHolds.{AreMoved, end_by, hold_by, moved_by}
use Rattle.whole_circuits.specs.Shown.{AreMarks}
use Rattle.whole_circuits.specs.declared.marks.Marks.{Marks}
use Rattle.vrt_model.proofs.Lists.{at_there, map_same}
use Rattle.vrt_model.proofs.Members.{all_among}
use Rattle.vrt_model.specs.CheckedParts.{checked_holds, moved_end}
use Rattle.vrt_model.specs.Circuits.{IsEnd, IsHold}
use Rattle.vrt_model.specs.Cut.{Cut, count_below, is_inside_whole, is_instance_shown}
use Rattle.vrt_model.specs.FlatCircuit.{flat_holds, flat_instance, flat_instances}
use Rattle.vrt_model.specs.Lists.{At, mark_at}
use Rattle.vrt_model.specs.Unrolled.{Place, all_places}
use Rattle.vrt_model.specs.declared.circuit.Circuit.{Circuit}
use Rattle.vrt_model.specs.declared.circuit.FlatInstance.{FlatInstance}
use Rattle.vrt_model.specs.declared.circuit.Hold.{Hold}
use Rattle.vrt_model.specs.declared.circuit.HoldEnd.{HoldEnd}
use Rattle.vrt_model.specs.declared.circuit.HoldEnd.TheVariants.{Own, Latch}

-- ---- numbers

-- the numbers count the places before each whose test passes
numbers_are : (test : ℕ → Bool) (marks : List Bool) (k n : ℕ) → n ≡ count_below test k → ((i : ℕ) (m : Bool) → At marks i m → test (k + i) ≡ not m)
    → (i : ℕ) → i < length marks → At (moved_by n marks) i (count_below test (k + i))
numbers_are test [] k n e tests i lt = absurd (omega (arith, lt))
numbers_are test (m ∷ marks) k n e tests zero lt = let number : k ≡ k + 0 = omega arith in ap Some (e ∙ ap (count_below test) number)
numbers_are test (m ∷ marks) k n e tests (suc i) lt =
    let number : suc k + i ≡ k + suc i = omega arith in
    subst (λ (j : ℕ). At (moved_by (cond m n (n + 1)) marks) i (count_below test j)) number
    (numbers_are test marks (suc k) (cond m n (n + 1)) next (λ j b here. let place : suc k + j ≡ k + suc j = omega arith in ap test place ∙ tests (suc j) b here) i (omega (arith, lt)))
  where
    here : test k ≡ not m
    here = let place : k ≡ k + 0 = omega arith in ap test place ∙ tests 0 m refl

    next : cond m n (n + 1) ≡ count_below test (suc k)
    next = by_mark m ∙ sym (ap (λ (b : Bool). cond b (suc (count_below test k)) (count_below test k)) here)
      where
        by_mark : (b : Bool) → cond b n (n + 1) ≡ cond (not b) (suc (count_below test k)) (count_below test k)
        by_mark true = e
        by_mark false = let more : n + 1 ≡ suc n = omega arith in more ∙ ap suc e

module _ (cut : Cut) (marks : Marks) (are : AreMarks cut marks) where
  -- an instance is shown where its place has no mark
  shown_is : (first : Bool) (inside : List Bool) → marks.inside.items ≡ first ∷ inside → (i : ℕ) (m : Bool) → At inside i m → is_instance_shown cut (0 + i) ≡ not m
  shown_is first inside same i m here =
      let number : 0 + i ≡ i = omega arith in
      let long = ap (λ (ms : List Bool). length ms) same in
      let within = slice_get_within inside i m here in
      let count = are.count in
      let at = at_there (all_places cut.top) (suc i) (omega (arith, long, within, count)) in
      let mark : mark_at marks.inside.items (suc i) ≡ m = ap (λ (ms : List Bool). mark_at ms (suc i)) same ∙ get_or_from_slice_get inside i m false here in
      let is = are.inside (suc i) at.0 (omega (arith, long, within)) at.1 in
      ap (is_instance_shown cut) number
      ∙ ap (λ (o : Option Place). unwrap_or (option_map (λ (q : Place). not (is_inside_whole cut q)) o) true) at.1
      ∙ ap not (sym is ∙ mark)

  pub moved_are : (first : Bool) (inside : List Bool) → marks.inside.items ≡ first ∷ inside → AreMoved cut (moved_by 0 inside)
  moved_are first inside same i lt =
      let long = ap (λ (ms : List Bool). length ms) same in
      let count = are.count in
      let number : 0 + i ≡ i = omega arith in
      subst (λ (j : ℕ). At (moved_by 0 inside) i (count_below (is_instance_shown cut) j)) number
      (numbers_are (is_instance_shown cut) inside 0 0 refl (shown_is first inside same) i (omega (arith, long, count, lt)))

-- ---- holds

module _ (cut : Cut) (moved : List ℕ) (are : AreMoved cut moved) (c : Circuit) (instances : c.instances ≡ flat_instances cut.top) where
  as_many : {X : Type 0} (xs : List X) (i : ℕ) → i < length (drop 1 xs) → suc i < length xs
  as_many [] i lt = absurd (omega (arith, lt))
  as_many (x ∷ xs) i lt = omega (arith, lt)

  end_is : (end : HoldEnd) → IsEnd c end → end_by moved end ≡ moved_end cut end
  end_is (Own n) is = refl
  end_is (Latch None element) is = refl
  end_is (Latch (Some i) element) is =
      let count = ap (λ (xs : List FlatInstance). length xs) instances ∙ length-map (drop 1 (all_places cut.top)) flat_instance in
      let lt = as_many (all_places cut.top) i (omega (arith, is, count)) in
      ap (λ (o : Option ℕ). Latch (Some (unwrap_or o 0)) element) (are i lt)

  pub holds_are : All (IsHold c) c.holds → c.holds ≡ flat_holds cut.top → map (hold_by moved) c.holds ≡ checked_holds cut
  holds_are is same =
      map_same (hold_by moved) (λ (h : Hold). let one : Hold = record h { end = moved_end cut h.end } in one) c.holds
      (λ i h here. ap (λ (e : HoldEnd). let one : Hold = record h { end = e } in one) (end_is h.end (all_among (IsHold c) c.holds h is (i, here)).end))
      ∙ ap (map (λ (h : Hold). let one : Hold = record h { end = moved_end cut h.end } in one)) same
