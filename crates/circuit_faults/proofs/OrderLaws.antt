-- The first net of a part is its least.
use Rattle.std.proofs.Common.{◌≡◌, ℕ, ◌<◌, ◌≤◌, Bool, true, arith, ap, sym, ◌∙◌, inl, inr}
use Rattle.std.specs.Prelude.{slice_get}
use Rattle.std.proofs.lemmas.Bool.{cases_eq}
use Rattle.std.proofs.lemmas.Option.{same_Some}
use Rattle.circuit_faults.proofs.WholeParts.{inside, inside_number, together}
use Rattle.circuit_faults.specs.Scans.{IsInside}
use Rattle.channel_parts.specs.PartLists.{IsPartOf, least_of, net_numbers}
use Rattle.channel_parts.specs.declared.part.Part.{Part}
use Rattle.vrt_model.proofs.Laws.{turned}
use Rattle.vrt_model.specs.Known.{IsChannel, IsLeastOfPart, IsPlain, IsTogether, itself, onward}
use Rattle.vrt_model.specs.Networks.{HasRanges}
use Rattle.vrt_model.specs.Path.{Joins}
use Rattle.vrt_model.specs.declared.circuit.Circuit.{Circuit}
use Rattle.vrt_model.specs.declared.circuit.Device.{Device}
use Rattle.vrt_model.specs.declared.rules.Phase.{Phase}

-- ---- one part

module _ (c : Circuit) (phase : Phase) (which : Bool) where
  -- ways along channels, one after the other and turned round
  pub together_on : (l n m : ℕ) → IsTogether c phase which l n → IsTogether c phase which n m → IsTogether c phase which l m
  together_on l n m t (itself p) = t
  together_on l n m t (onward {l = x} d u ch j p) = onward d (together_on l n x t u) ch j p

  step_back : (x y z : ℕ) (d : Device) → IsPlain c x → IsChannel c phase which d → Joins d x y → IsTogether c phase which y z → IsTogether c phase which x z
  step_back x y z d px ch j (itself p) = onward d (itself px) ch j p
  step_back x y z d px ch j (onward {l = l} e u ch' j' p) = onward e (step_back x y l d px ch j u) ch' j' p

  pub together_back : (x y : ℕ) → IsTogether c phase which x y → IsTogether c phase which y x
  together_back x y (itself p) = itself p
  together_back x y (onward {l = l} d u ch j p) = step_back y l x d p ch (turned d l y j) (together_back x l u)

module _ (c : Circuit) (phase : Phase) (which : Bool) (rank : ℕ → ℕ) (ranges : HasRanges c) (part : Part) (of : IsPartOf c phase which rank part) where
  -- two nets of the part are together
  pub inside_together : (m n : ℕ) → IsInside part m → IsInside part n → IsTogether c phase which m n
  inside_together m n i j = together_on c phase which m (least_of part) n (together_back c phase which (least_of part) m (together c phase which rank ranges part of m i)) (together c phase which rank ranges part of n j)

module _ (c : Circuit) (phase : Phase) (rank : ℕ → ℕ) (ranges : HasRanges c) (part : Part) (of : IsPartOf c phase true rank part) where
  -- the first net of the part is the least
  first_below : (m : ℕ) → IsInside part m → least_of part ≤ m
  first_below m i =
      let at_m = inside_number part m i in
      elim (cases_eq at_m.0 0) [
        | inl e ↦ (let same : least_of part ≡ m = same_Some (least_of part) m (sym of.first ∙ ap (slice_get (net_numbers part.nets)) (sym e) ∙ at_m.1) in omega (arith, same))
        | inr ne ↦ (let less : least_of part < m = of.net_order 0 at_m.0 (least_of part) m of.first at_m.1 (omega (arith, ne)) in omega (arith, less))
      ]

  pub is_least : (n : ℕ) → IsInside part n → IsLeastOfPart c phase n (least_of part)
  is_least n i = record {
    together = together_back c phase true (least_of part) n (together c phase true rank ranges part of n i);
    lowest = λ m t. first_below m (inside c phase true rank ranges part of m (together_on c phase true (least_of part) n m (together c phase true rank ranges part of n i) t));
  }
