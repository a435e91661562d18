-- The value of a number of a model looks only at what stands before it in a plan.
use Rattle.std.proofs.Common.{◌≡◌, ℕ, ◌<◌, ◌++◌, Bool, true, false, not, List, Option, Some, None, length, arith, ap, ap₂, subst, sym, refl, ◌∙◌, inl, inr}
use Rattle.std.specs.Prelude.{option_map, slice_get, unwrap_or}
use Rattle.blif_eval.proofs.Drivers.{input_below}
use Rattle.blif_eval.proofs.FixedLaws.{IsLocal}
use Rattle.blif_eval.proofs.FoundDrivers.{cover_at, driver_is, driver_there, given_at}
use Rattle.blif_eval.proofs.LatchLaws.{part_ranges}
use Rattle.blif_eval.specs.Drivers.{AreDrivers, IsDriver, node_count}
use Rattle.blif_eval.specs.Plans.{AreBehind, AreOutside, IsBefore, IsBehind, entry_of}
use Rattle.blif_eval.specs.Settled.{Agree, AreFixed, control_value, cover_value, driver_at, stored, value_by, value_of}
use Rattle.blif_eval.specs.declared.driver_table.Driver.{Driver}
use Rattle.blif_eval.specs.declared.driver_table.Driver.TheVariants.{Given, Covered, Stored, Element}
use Rattle.blif_eval.specs.declared.driver_table.Storage.{Storage}
use Rattle.vrt_model.proofs.Assignments.{cover_same}
use Rattle.vrt_model.specs.Covers.{cover_bit}
use Rattle.vrt_model.specs.FlatModels.{IsControl, IsFlatModel}
use Rattle.vrt_model.specs.Lists.{At, Among}
use Rattle.vrt_model.specs.ModelArcs.{IsKnownControl, IsKnownSignal, carries, covered}
use Rattle.vrt_model.specs.declared.flat_model.Cover.{Cover}
use Rattle.vrt_model.specs.declared.flat_model.FlatModel.{FlatModel}

-- an element that is shut keeps its bit
pub stored_shut : (open_at source held : Bool) → stored open_at (not open_at) source held ≡ held
stored_shut true source held = refl
stored_shut false source held = refl

-- the value of a cover by the bits that it reads
pub cover_is_value : (covers : List Cover) (place : ℕ) (c : Cover) (bits : ℕ → Bool) → At covers place c → cover_value covers place bits ≡ cover_bit bits c
cover_is_value covers place c bits at = ap (λ (o : Option Cover). unwrap_or (option_map (cover_bit bits) o) false) at

module _ (flat : FlatModel) (model : IsFlatModel flat) (drivers : List Driver) (are : AreDrivers flat drivers) (known : List (Option Bool)) (outside : AreOutside flat known) (steps : List ℕ)
    (low : (n : ℕ) → Among steps n → n < node_count flat) (behind : AreBehind flat known drivers steps) (default_clock : Bool) (held inputs : ℕ → Bool)
    (as_known : (s : ℕ) (v : Bool) → s < length flat.signals → entry_of known s ≡ Some v → inputs s ≡ v)
    (clock : (v : Bool) → entry_of known (length flat.signals) ≡ Some v → default_clock ≡ v) where
  abbrev value : (ℕ → Bool) → ℕ → Bool
  value bits n = value_of flat drivers default_clock held inputs bits n

  abbrev of_driver : Driver → ℕ → (ℕ → Bool) → Bool
  of_driver d n bits = value_by flat d n bits default_clock held inputs

  value_as : (n : ℕ) (d : Driver) (bits : ℕ → Bool) → At drivers n d → value bits n ≡ of_driver d n bits
  value_as n d bits e = ap (λ (x : Driver). of_driver x n bits) (driver_is flat model drivers are n d e)

  -- a known signal that is settled has its bit
  module _ (all_outside : (s : ℕ) (v : Bool) → s < length flat.signals → entry_of known s ≡ Some v → Among (flat.inputs ++ flat.clocks) s)
      (k : ℕ) (bits : ℕ → Bool) (fixed : AreFixed steps value k bits) where
    known_bit : (s : ℕ) (v : Bool) → IsKnownSignal flat (entry_of known) s v → s < length flat.signals → (j : ℕ) → j < k → At steps j s → bits s ≡ v
    known_bit s v (carries e) lt j less there =
        fixed j s less there ∙ (value_as s Given bits (given_at flat model drivers are s (all_outside s v lt e)) ∙ as_known s v lt e)
    known_bit s v (covered c of_inputs m reads is_output is_bit) lt j less there =
        let place = cover_at flat model drivers are c m in
        let here : At drivers s (Covered place.0) = subst (λ (x : ℕ). At drivers x (Covered place.0)) (sym is_output) place.1 in
        let before = behind j s (Covered place.0) there here in
        fixed j s less there
        ∙ (value_as s (Covered place.0) bits here
        ∙ (cover_is_value flat.covers place.0 c bits place.2
        ∙ (cover_same bits of_inputs c
        (λ i a.
        let b = before c i place.2 a in
        known_bit i (of_inputs i) (reads i a) (input_below flat model c i m a) b.0 (let one = b.1 in omega (arith, one, less)) b.2)
        ∙ sym is_bit)))

    known_control : (control : Option ℕ) (v : Bool) → IsControl (length flat.signals) control
        → IsKnownControl flat (entry_of known) (entry_of known (length flat.signals)) control v → ((from : ℕ) → control ≡ Some from → IsBefore steps k from)
        → control_value bits default_clock control ≡ v
    known_control None v range is before = clock v is
    known_control (Some s) v range is before = let b = before s refl in known_bit s v is range b.0 b.1 b.2

  module _ (k n : ℕ) (bits others : ℕ → Bool) (there : At steps k n) (fixed : AreFixed steps value k bits) (agree : Agree steps k bits others) where
    before_same : (from : ℕ) → IsBefore steps k from → bits from ≡ others from
    before_same from b = agree b.0 from b.1 b.2

    cover_part : (place : ℕ) → IsBehind flat known steps k (Covered place) → cover_value flat.covers place bits ≡ cover_value flat.covers place others
    cover_part place back = by_get (slice_get flat.covers place) refl
      where
        by_get : (o : Option Cover) → slice_get flat.covers place ≡ o → unwrap_or (option_map (cover_bit bits) o) false ≡ unwrap_or (option_map (cover_bit others) o) false
        by_get None e = refl
        by_get (Some c) e = cover_same bits others c (λ i m. before_same i (back c i e m))

    control_part : (control : Option ℕ) → ((from : ℕ) → control ≡ Some from → IsBefore steps k from) → control_value bits default_clock control ≡ control_value others default_clock control
    control_part None before = refl
    control_part (Some from) before = before_same from (before from refl)

    element_part : (storage : Storage) → IsDriver flat n (Element storage) → IsBehind flat known steps k (Element storage) → of_driver (Element storage) n bits ≡ of_driver (Element storage) n others
    element_part storage is back =
        let same = control_part storage.control back.0 in
        let with_control : Bool → Bool → Bool = λ c source. stored storage.open_at c source (held storage.element) in
        elim back.1 [
          | inl b ↦ ap₂ with_control same (before_same storage.source b)
          | inr shut ↦
              let ranges = part_ranges flat model is.0 is.1 in
              let range = subst (IsControl (length flat.signals)) (sym is.3.control) ranges.control in
              let one : control_value bits default_clock storage.control ≡ not storage.open_at =
              known_control (outside is.0.latch ranges.latch) k bits fixed storage.control (not storage.open_at) range shut back.0 in
              ap (λ (c : Bool). with_control c (bits storage.source)) one
              ∙ (stored_shut storage.open_at (bits storage.source) (held storage.element)
              ∙ (sym (stored_shut storage.open_at (others storage.source) (held storage.element)) ∙ ap (λ (c : Bool). with_control c (others storage.source)) (sym one ∙ same)))
        ]

    by_driver : (d : Driver) → IsDriver flat n d → IsBehind flat known steps k d → of_driver d n bits ≡ of_driver d n others
    by_driver Given is back = refl
    by_driver (Covered place) is back = cover_part place back
    by_driver (Stored number) is back = before_same number back
    by_driver (Element storage) is back = element_part storage is back

    same_value : value bits n ≡ value others n
    same_value =
        let here = driver_there flat model drivers are n (low n (k, there)) in
        let d : Driver = driver_at drivers n in
        by_driver d (are.each n d here) (behind k n d there here)

  pub value_local : IsLocal steps (value_of flat drivers default_clock held inputs)
  value_local k n bits others there fixed agree = same_value k n bits others there fixed agree
