-- What the drivers of a model say of its inputs, covers and latches.
use Rattle.std.proofs.Common.{◌≡◌, ℕ, ◌+◌, ◌<◌, ◌++◌, List, length, arith, ap, subst, sym, ◌∙◌}
use Rattle.std.proofs.lemmas.Option.{get_or_from_slice_get, slice_get-get_or}
use Rattle.blif_eval.proofs.Drivers.{apart, cover_latch, covered_below, interface_below, latch_apart, latch_is, one_cover, one_latch, same_at}
use Rattle.blif_eval.proofs.LatchLaws.{latch_among, latch_of, part_ranges}
use Rattle.blif_eval.specs.Drivers.{AreDrivers, IsDriver, node_count}
use Rattle.blif_eval.specs.Settled.{driver_at}
use Rattle.blif_eval.specs.declared.driver_table.Driver.{Driver}
use Rattle.blif_eval.specs.declared.driver_table.Driver.TheVariants.{Given, Covered, Stored, Element}
use Rattle.blif_eval.specs.declared.driver_table.Storage.{Storage}
use Rattle.vrt_model.specs.Elements.{Numbered, numbered_latches}
use Rattle.vrt_model.specs.FlatModels.{IsFlatModel}
use Rattle.vrt_model.specs.Lists.{At, Among}
use Rattle.vrt_model.specs.ModelArcs.{last_by}
use Rattle.vrt_model.specs.declared.flat_model.Cover.{Cover}
use Rattle.vrt_model.specs.declared.flat_model.FlatModel.{FlatModel}

module _ (flat : FlatModel) (model : IsFlatModel flat) (drivers : List Driver) (are : AreDrivers flat drivers) where
  pub driver_there : (n : ℕ) → n < node_count flat → At drivers n (driver_at drivers n)
  driver_there n lt = slice_get-get_or drivers n Given (let size = are.size in omega (arith, size, lt))

  pub driver_is : (n : ℕ) (d : Driver) → At drivers n d → driver_at drivers n ≡ d
  driver_is n d e = get_or_from_slice_get drivers n d Given e

  below : (s : ℕ) → s < length flat.signals → s < node_count flat
  below s lt = omega (arith, lt)

  -- an element is no signal
  no_element : (s : ℕ) (storage : Storage) → s < length flat.signals → ¬ IsDriver flat s (Element storage)
  no_element s storage lt d = let r = part_ranges flat model d.0 d.1 in let number = r.number in let is = d.2 in omega (arith, number, is, lt)

  -- an input or a clock has no driver
  pub given_at : (s : ℕ) → Among (flat.inputs ++ flat.clocks) s → At drivers s Given
  given_at s m =
      let lt = interface_below flat model s m in
      let there = driver_there s (below s lt) in
      by_driver lt (driver_at drivers s) there (are.each s (driver_at drivers s) there)
    where
      by_driver : s < length flat.signals → (d : Driver) → At drivers s d → IsDriver flat s d → At drivers s Given
      by_driver lt Given there d = there
      by_driver lt (Covered place) there d = absurd (apart flat model d.0 (place, d.1) (subst (Among (flat.inputs ++ flat.clocks)) (sym d.2) m))
      by_driver lt (Stored number) there d = absurd (latch_apart flat model d.0.latch (latch_among flat d.0 d.1) (subst (Among (flat.inputs ++ flat.clocks)) (sym d.2) m))
      by_driver lt (Element storage) there d = absurd (no_element s storage lt d)

  -- the output of a cover has the cover
  pub cover_at : (c : Cover) → Among flat.covers c → (place : ℕ) × At drivers c.output (Covered place) × At flat.covers place c
  cover_at c m =
      let lt = covered_below flat model c m in
      let there = driver_there c.output (below c.output lt) in
      by_driver lt (driver_at drivers c.output) there (are.each c.output (driver_at drivers c.output) there)
    where
      by_driver : c.output < length flat.signals → (d : Driver) → At drivers c.output d → IsDriver flat c.output d → (place : ℕ) × At drivers c.output (Covered place) × At flat.covers place c
      by_driver lt Given there d = absurd (apart flat model c m d)
      by_driver lt (Covered place) there d = (place, there, subst (At flat.covers place) (one_cover flat model d.0 c (place, d.1) m d.2) d.1)
      by_driver lt (Stored number) there d = absurd (cover_latch flat model c d.0.latch m (latch_among flat d.0 d.1) (sym d.2))
      by_driver lt (Element storage) there d = absurd (no_element c.output storage lt d)

  -- the output of a latch has its last element
  pub stored_at : (l : Numbered) → Among (numbered_latches flat) l → At drivers l.latch.output (Stored (length flat.signals + last_by l.first l.latch.kind))
  stored_at l m =
      let lt = (latch_is flat model l.latch (latch_among flat l m)).output in
      let there = driver_there l.latch.output (below l.latch.output lt) in
      by_driver lt (driver_at drivers l.latch.output) there (are.each l.latch.output (driver_at drivers l.latch.output) there)
    where
      by_driver : l.latch.output < length flat.signals → (d : Driver) → At drivers l.latch.output d → IsDriver flat l.latch.output d
          → At drivers l.latch.output (Stored (length flat.signals + last_by l.first l.latch.kind))
      by_driver lt Given there d = absurd (latch_apart flat model l.latch (latch_among flat l m) d)
      by_driver lt (Covered place) there d = absurd (cover_latch flat model d.0 l.latch (place, d.1) (latch_among flat l m) d.2)
      by_driver lt (Stored number) there d =
          let place = one_latch flat model d.1.0 m.0 d.0.latch l.latch (latch_of flat d.1.0 d.0 d.1.1) (latch_of flat m.0 l m.1) d.2 in
          let same : d.0 ≡ l = same_at (numbered_latches flat) d.1.0 m.0 d.0 l d.1.1 m.1 place in
          subst (λ (n : ℕ). At drivers l.latch.output (Stored n)) (d.3 ∙ ap (λ (k : Numbered). length flat.signals + last_by k.first k.latch.kind) same) there
      by_driver lt (Element storage) there d = absurd (no_element l.latch.output storage lt d)
