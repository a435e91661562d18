-- Outputs of whole instances counted at their nets, place by place.
use Rattle.std.proofs.Common.{◌≡◌, ℕ, ◌+◌, ◌<◌, ◌==◌, ◌++◌, Bool, true, false, cond, List, [], ◌∷◌, length, length-append, map, arith, ap, refl, subst, sym, ◌∙◌}
use Rattle.std.specs.Prelude.{filter, flat_map}
use Rattle.std.specs.List.{enumerate_from}
use Rattle.std.proofs.lemmas.Grind.{flat_map-append}
use Rattle.std.proofs.lemmas.List.{append-nil}
use Rattle.std.proofs.lemmas.List.Elements.{filter-append}
use Rattle.net_places.specs.declared.whole.Unrolled.{Unrolled}
use Rattle.whole_circuits.proofs.ZipLaws.{next_before}
use Rattle.whole_circuits.specs.Ends.{AreOutputCounts, CountsOf, GrowsBy, outputs_at, outputs_before}
use Rattle.whole_circuits.specs.Insides.{IsCutAt}
use Rattle.whole_circuits.specs.Outputs.{output_at, own_outputs}
use Rattle.whole_circuits.specs.WholeCells.{wholes_before}
use Rattle.vrt_model.specs.Cut.{Cut, NumberedPlace, numbered_places}
use Rattle.vrt_model.specs.Lists.{At, mark_at}
use Rattle.vrt_model.specs.PairedPorts.{Model, Paired, paired_model}
use Rattle.vrt_model.specs.Unrolled.{Top}
use Rattle.vrt_model.specs.Unsupported.{comparison_of}
use Rattle.vrt_model.specs.WholeInstances.{OutputAt, driven_pins, outputs_of_place}
use Rattle.vrt_model.specs.declared.blif.Blif.{Blif}
use Rattle.vrt_model.specs.declared.whole.CellFacts.{CellFacts}
use Rattle.vrt_model.specs.declared.whole.WholePin.{WholePin}

-- the pins at a net are the outputs there
pins_at : (n number from : ℕ) (pins : List WholePin) → length (outputs_at (map (output_at number) (enumerate_from from pins)) n) ≡ length (filter (λ (p : WholePin). p.net.0 == n) pins)
pins_at n number from [] = refl
pins_at n number from (p ∷ pins) = by_test (p.net.0 == n) (pins_at n number (from + 1) pins)
  where
    by_test : (b : Bool) → length (outputs_at (map (output_at number) (enumerate_from (from + 1) pins)) n) ≡ length (filter (λ (q : WholePin). q.net.0 == n) pins)
        → length (cond b (output_at number (from, p) ∷ outputs_at (map (output_at number) (enumerate_from (from + 1) pins)) n) (outputs_at (map (output_at number) (enumerate_from (from + 1) pins)) n))
        ≡ length (cond b (p ∷ filter (λ (q : WholePin). q.net.0 == n) pins) (filter (λ (q : WholePin). q.net.0 == n) pins))
    by_test true rest = let same = rest in omega (arith, same)
    by_test false rest = rest

abbrev outputs_by : Top → Blif → List CellFacts → NumberedPlace → Paired → List OutputAt
outputs_by t blif facts p paired =
    elim paired [ Model m ↦ own_outputs p.number (driven_pins facts (comparison_of t.design blif t.rules p.at.cell m) p.at) | _ ↦ [] ]

-- the pins of one more instance counted
pub counted_more : (t : Top) (blif : Blif) (facts : List CellFacts) (p : NumberedPlace) (m : ℕ) (before : List OutputAt) (pins : List WholePin) (old new : List ℕ)
    → paired_model t.design blif t.rules p.at.cell ≡ Model m → pins ≡ driven_pins facts (comparison_of t.design blif t.rules p.at.cell m) p.at
    → CountsOf pins old new → AreOutputCounts before old → AreOutputCounts (before ++ outputs_of_place t blif facts p) new
counted_more t blif facts p m before pins old new paired pins_are counts are n lt =
    let was = are n (subst (λ (k : ℕ). n < k) counts.len lt) in
    let now = counts.is n (subst (λ (k : ℕ). n < k) counts.len lt) in
    let own = ap (λ (x : Paired). length (outputs_at (outputs_by t blif facts p x) n)) paired ∙ ap (λ (ps : List WholePin). length (outputs_at (own_outputs p.number ps) n)) (sym pins_are) ∙ pins_at n p.number 0 pins in
    let all = ap (λ (os : List OutputAt). length os) (filter-append (λ (o : OutputAt). o.pin.net.0 == n) before (outputs_of_place t blif facts p))
    ∙ length-append (outputs_at before n) (outputs_at (outputs_of_place t blif facts p) n) in
    omega (arith, was, now, own, all)

module _ (cut : Cut) (unrolled : Unrolled) (whole : List Bool) (is : IsCutAt cut unrolled whole) (blif : Blif) (facts : List CellFacts) where
  -- where a place is not whole nothing is added
  pub none_counted : (n : ℕ) (p : NumberedPlace) (counts : List ℕ) → At (numbered_places cut.top) n p → mark_at whole n ≡ false → GrowsBy cut blif facts n counts counts
  none_counted n p counts here e are =
      subst (λ (ps : List NumberedPlace). AreOutputCounts (flat_map (outputs_of_place cut.top blif facts) ps) counts)
      (sym (next_before cut unrolled whole is n p here false e ∙ append-nil (wholes_before cut n))) are

  -- where it is, the outputs of the instance there are
  pub one_counted : (n : ℕ) (p : NumberedPlace) (old new : List ℕ) → At (numbered_places cut.top) n p → mark_at whole n ≡ true
      → (AreOutputCounts (outputs_before cut blif facts n) old → AreOutputCounts (outputs_before cut blif facts n ++ outputs_of_place cut.top blif facts p) new) → GrowsBy cut blif facts n old new
  one_counted n p old new here e grown are =
      subst (λ (os : List OutputAt). AreOutputCounts os new)
      (sym (ap (flat_map (outputs_of_place cut.top blif facts)) (next_before cut unrolled whole is n p here true e)
      ∙ flat_map-append (outputs_of_place cut.top blif facts) (wholes_before cut n) (p ∷ [])
      ∙ ap (λ (os : List OutputAt). outputs_before cut blif facts n ++ os) (append-nil (outputs_of_place cut.top blif facts p)))) (grown are)
