-- No two output pins of the whole places have the numbers of one instance and of one output.
use Rattle.std.proofs.Common.{◌≡◌, ◌⊎◌, ◌∷◌, [], ℕ, zero, suc, ◌+◌, Bool, List, length, map, cond, true, false, arith, refl, ap, sym, ◌∙◌, inl, inr}
use Rattle.std.specs.Prelude.{filter, flat_map}
use Rattle.std.specs.List.{enumerate_from}
use Rattle.std.proofs.lemmas.Option.{none-some, same_Some}
use Rattle.vrt_model.proofs.Lists.{at_either, at_map}
use Rattle.vrt_model.proofs.Members.{among_filter, among_flat_map}
use Rattle.vrt_model.specs.Cut.{Cut, NumberedPlace, is_whole, numbered_places, whole_places}
use Rattle.vrt_model.specs.Lists.{At}
use Rattle.vrt_model.specs.PairedPorts.{Missing, Model, Paired, Skipped, paired_model}
use Rattle.vrt_model.specs.Unrolled.{Place, Top, all_places}
use Rattle.vrt_model.specs.Unsupported.{comparison_of}
use Rattle.vrt_model.specs.WholeInstances.{OutputAt, all_outputs, driven_pins, outputs_of_place}
use Rattle.vrt_model.specs.declared.blif.Blif.{Blif}
use Rattle.vrt_model.specs.declared.whole.CellFacts.{CellFacts}
use Rattle.vrt_model.specs.declared.whole.WholePin.{WholePin}

-- ---- numbers

-- what stands at a place of a numbered list has the number of the place
enumerated : {X : Type 0} (n : ℕ) (xs : List X) (i : ℕ) (q : ℕ × X) → At (enumerate_from n xs) i q → q.0 ≡ n + i
enumerated n [] i q e = absurd (none-some q e)
enumerated n (x ∷ xs) zero q e = sym (ap (λ (p : ℕ × _). p.0) (same_Some (n, x) q e)) ∙ omega arith
enumerated n (x ∷ xs) (suc i) q e = enumerated (n + 1) xs i q e ∙ omega arith

-- places whose numbers are those of different places of a list
abbrev HaveOwnNumbers : List NumberedPlace → Type 0
HaveOwnNumbers ps = (i j : ℕ) (p q : NumberedPlace) → At ps i p → At ps j q → p.number ≡ q.number → i ≡ j

own_behind : (p : NumberedPlace) (ps : List NumberedPlace) → HaveOwnNumbers (p ∷ ps) → HaveOwnNumbers ps
own_behind p ps own i j x y e f same = (let is = own (suc i) (suc j) x y e f same in omega (arith, is))

all_own : (t : Top) → HaveOwnNumbers (numbered_places t)
all_own t i j p q e f same =
    let one = at_map (λ (x : ℕ × Place). let at : NumberedPlace = record { number = x.0; at = x.1 } in at) (enumerate_from 0 (all_places t)) i p e in
    let two = at_map (λ (x : ℕ × Place). let at : NumberedPlace = record { number = x.0; at = x.1 } in at) (enumerate_from 0 (all_places t)) j q f in
    let first = enumerated 0 (all_places t) i one.0 one.1 in
    let second = enumerated 0 (all_places t) j two.0 two.1 in
    let left = ap (λ (x : NumberedPlace). x.number) one.2 in
    let right = ap (λ (x : NumberedPlace). x.number) two.2 in
    omega (arith, first, second, left, right, same)

-- also of those that pass a test
own_filtered : (test : NumberedPlace → Bool) (ps : List NumberedPlace) → HaveOwnNumbers ps → HaveOwnNumbers (filter test ps)
own_filtered test [] own i j p q e f same = absurd (none-some p e)
own_filtered test (z ∷ zs) own i j p q e f same = pick (own_filtered test zs (own_behind z zs own)) (test z) i j e f
  where
    later : (x : NumberedPlace) (at : ℕ) → z ≡ x → (y : NumberedPlace) → At (filter test zs) at y → x.number ≡ y.number → ⊥
    later x at is y there numbers =
        let among = among_filter test zs y (at, there) in
        let apart = own 0 (suc among.0) z y refl among.1 (ap (λ (w : NumberedPlace). w.number) is ∙ numbers) in
        omega (arith, apart)

    pick : ((i j : ℕ) (p q : NumberedPlace) → At (filter test zs) i p → At (filter test zs) j q → p.number ≡ q.number → i ≡ j) → (b : Bool) (i j : ℕ)
        → At (cond b (z ∷ filter test zs) (filter test zs)) i p → At (cond b (z ∷ filter test zs) (filter test zs)) j q → i ≡ j
    pick below true zero zero e f = refl
    pick below true zero (suc j) e f = absurd (later p j (same_Some z p e) q f same)
    pick below true (suc i) zero e f = absurd (later q i (same_Some z q f) p e (sym same))
    pick below true (suc i) (suc j) e f = ap suc (below i j p q e f same)
    pick below false i j e f = below i j p q e f same

-- ---- outputs

-- no two outputs of a list have the same numbers
abbrev pub AreKeyed : List OutputAt → Type 0
AreKeyed xs = (i j : ℕ) (a b : OutputAt) → At xs i a → At xs j b → a.instance ≡ b.instance → a.output ≡ b.output → i ≡ j

module _ (cut : Cut) (blif : Blif) (facts : List CellFacts) where
  abbrev outputs_at : NumberedPlace → List OutputAt
  outputs_at p = outputs_of_place cut.top blif facts p

  -- an output of a place has the number of the place and its own
  numbers_at : (p : NumberedPlace) (i : ℕ) (o : OutputAt) → At (outputs_at p) i o → (o.instance ≡ p.number) × (o.output ≡ i)
  numbers_at p i o e = by_paired (paired_model cut.top.design blif cut.top.rules p.at.cell) e
    where
      by_paired : (paired : Paired)
          → At {X = OutputAt} (elim paired [
            | Model m ↦
                map (λ (q : ℕ × WholePin). let one : OutputAt = record { instance = p.number; output = q.0; pin = q.1 } in one)
                (enumerate_from 0 (driven_pins facts (comparison_of cut.top.design blif cut.top.rules p.at.cell m) p.at))
            | _ ↦ []
          ]) i o
          → (o.instance ≡ p.number) × (o.output ≡ i)
      by_paired Skipped e = absurd (none-some o e)
      by_paired Missing e = absurd (none-some o e)
      by_paired (Model m) e =
          let pins = driven_pins facts (comparison_of cut.top.design blif cut.top.rules p.at.cell m) p.at in
          let from = at_map (λ (q : ℕ × WholePin). let one : OutputAt = record { instance = p.number; output = q.0; pin = q.1 } in one) (enumerate_from 0 pins) i o e in
          let place = enumerated 0 pins i from.0 from.1 in
          (sym (ap (λ (x : OutputAt). x.instance) from.2), (let is = ap (λ (x : OutputAt). x.output) from.2 in omega (arith, is, place)))

  keyed_places : (ps : List NumberedPlace) → HaveOwnNumbers ps → AreKeyed (flat_map outputs_at ps)
  keyed_places [] own i j a b e f instances outputs = absurd (none-some a e)
  keyed_places (p ∷ ps) own i j a b e f instances outputs =
      by_sides (keyed_places ps (own_behind p ps own)) (at_either (outputs_at p) (flat_map outputs_at ps) i a e) (at_either (outputs_at p) (flat_map outputs_at ps) j b f)
    where
      elsewhere : (x y : OutputAt) (l m : ℕ) → At (outputs_at p) l x → At (flat_map outputs_at ps) m y → x.instance ≡ y.instance → ⊥
      elsewhere x y l m at there same =
          let from = among_flat_map outputs_at ps y (m, there) in
          let here = (numbers_at p l x at).0 in
          let other = (numbers_at from.0 from.2.0 y from.2.1).0 in
          let apart = own 0 (suc from.1.0) p from.0 refl from.1.1 (sym here ∙ same ∙ other) in
          omega (arith, apart)

      by_sides : AreKeyed (flat_map outputs_at ps) → At (outputs_at p) i a ⊎ ((n : ℕ) × (i ≡ length (outputs_at p) + n) × At (flat_map outputs_at ps) n a)
          → At (outputs_at p) j b ⊎ ((n : ℕ) × (j ≡ length (outputs_at p) + n) × At (flat_map outputs_at ps) n b) → i ≡ j
      by_sides rest (inl x) (inl y) = sym (numbers_at p i a x).1 ∙ outputs ∙ (numbers_at p j b y).1
      by_sides rest (inl x) (inr y) = absurd (elsewhere a b i y.0 x y.2 instances)
      by_sides rest (inr x) (inl y) = absurd (elsewhere b a j x.0 y x.2 (sym instances))
      by_sides rest (inr x) (inr y) = x.1 ∙ ap (λ (n : ℕ). length (outputs_at p) + n) (rest x.0 y.0 a b x.2 y.2 instances outputs) ∙ sym y.1

  pub all_keyed : AreKeyed (all_outputs cut blif facts)
  all_keyed = keyed_places (whole_places cut) (own_filtered (λ (p : NumberedPlace). is_whole cut.choice p.number) (numbered_places cut.top) (all_own cut.top))
