-- The outputs of the chosen instances: each pin stands at one place of their list, and each is still allowed where more instances are whole.
use Rattle.std.proofs.Common.{◌≡◌, ◌⊎◌, ℕ, zero, suc, ◌+◌, ◌<◌, ◌≤◌, ◌&&◌, ◌||◌, ◌++◌, not, Bool, true, false, List, length, refl, ap, sym, subst, ◌∙◌, arith, inl, inr}
use Rattle.std.specs.Prelude.{nat_lt, ◌==◌}
use Rattle.std.specs.List.{list_any}
use Rattle.std.proofs.lemmas.Bool.{and_from, and_parts, cases_Bool, eq-eqb, eqb-true, false≢true, ltb-true, or_cases}
use Rattle.cell_inside.specs.Inside.{Touches}
use Rattle.checked_chain.proofs.DriveLaws.{devices_less, is_nothing, last_there, other_instance, outputs_or_last}
use Rattle.checked_chain.proofs.StepLaws.{none_more_is_same, one_more_is_next}
use Rattle.checked_chain.proofs.ThereLaws.{chain_is_there}
use Rattle.replaced_instances.proofs.Exposures.{channel_low, no_channel_at, no_other_at, other_at, other_drive, touches_by}
use Rattle.replaced_instances.proofs.StepOutputs.{outputs_behind}
use Rattle.replaced_instances.proofs.StepPlaced.{other_there}
use Rattle.replaced_instances.proofs.StepPorts.{may, port_of_output}
use Rattle.substitution_laws.proofs.ChainLaws.{step_at}
use Rattle.substitution_laws.specs.Agreement.{IsCheckedByFacts}
use Rattle.substitution_laws.specs.Steps.{IsStepOf}
use Rattle.vrt_model.proofs.Filtered.{among_kept, filter_among}
use Rattle.vrt_model.proofs.Lists.{at_either, one_at}
use Rattle.vrt_model.proofs.Members.{among_any, among_flat_map, any_among}
use Rattle.vrt_model.specs.Checked.{IsCircuitWith, before}
use Rattle.vrt_model.specs.CheckedParts.{checked_devices}
use Rattle.vrt_model.specs.Comparison.{Comparison}
use Rattle.vrt_model.specs.Cut.{Cut, NumberedPlace, is_whole, numbered_places, whole_places}
use Rattle.vrt_model.specs.Lists.{Among, At, is_empty}
use Rattle.vrt_model.specs.Unrolled.{Place, Top, all_places}
use Rattle.vrt_model.specs.WholeInstances.{OutputAt, all_outputs, channels_at, fits_drive, is_output_allowed, meets_gates_only, others_at, outputs_of_place}
use Rattle.vrt_model.specs.declared.blif.Blif.{Blif}
use Rattle.vrt_model.specs.declared.circuit.Circuit.{Circuit}
use Rattle.vrt_model.specs.declared.circuit.Device.{Device}
use Rattle.vrt_model.specs.declared.whole.CellFacts.{CellFacts}
use Rattle.vrt_model.specs.declared.whole.Drive.{Drive}
use Rattle.vrt_model.specs.declared.whole.Drive.TheVariants.{Soft, Level}

-- ---- pins at places of their own

-- the two are one output of one instance
abbrev pub IsSameOutput : OutputAt → OutputAt → Type 0
IsSameOutput a b = (a.instance ≡ b.instance) × (a.output ≡ b.output)

-- which stands at one place of the list
abbrev pub AreApart : List OutputAt → Type 0
AreApart xs = (j l : ℕ) (a b : OutputAt) → At xs j a → At xs l b → IsSameOutput a b → j ≡ l

-- so it is in two lists together where none of the one is of the other
together_apart : (xs ys : List OutputAt) → AreApart xs → AreApart ys → ((a b : OutputAt) → Among xs a → Among ys b → IsSameOutput a b → ⊥) → AreApart (xs ++ ys)
together_apart xs ys left right none j l a b e f same = by_sides (at_either xs ys j a e) (at_either xs ys l b f)
  where
    by_sides : At xs j a ⊎ ((n : ℕ) × (j ≡ length xs + n) × At ys n a) → At xs l b ⊎ ((n : ℕ) × (l ≡ length xs + n) × At ys n b) → j ≡ l
    by_sides (inl x) (inl y) = left j l a b x y same
    by_sides (inl x) (inr y) = absurd (none a b (j, x) (y.0, y.2) same)
    by_sides (inr x) (inl y) = absurd (none b a (l, y) (x.0, x.2) (sym same.0, sym same.1))
    by_sides (inr x) (inr y) = x.1 ∙ ap (λ (n : ℕ). length xs + n) (right x.0 y.0 a b x.2 y.2 same) ∙ sym y.1

-- ---- what an output meets

module _ (devices : List Device) (outputs : List OutputAt) where
  -- its drive is a level, and besides gates it meets devices of at most that level and outputs of that very drive alone
  pub record Fits (o : OutputAt) (level : ℕ) : Type 0 where
    pub drive : o.pin.drive ≡ Level level
    pub channels : (e : Device) → Among devices e → Touches e o.pin.net.0 → e.level ≤ level
    pub others : (x : OutputAt) → Among (others_at outputs o) x → x.pin.drive ≡ Level level

  -- it meets gates alone, or fits so
  abbrev pub IsAllowed : OutputAt → Type 0
  IsAllowed o = (meets_gates_only devices outputs o ≡ true) ⊎ ((level : ℕ) × Fits o level)

  fits_by : (o : OutputAt) (d : Drive) → o.pin.drive ≡ d → fits_drive devices outputs o d ≡ true → (level : ℕ) × Fits o level
  fits_by o Soft is e = absurd (false≢true e)
  fits_by o (Level level) is e = (
    level,
    record { drive = is; channels = λ x on touch. channel_low devices outputs o level e x on touch; others = λ x on. other_drive devices outputs o level e x on },
  )

  pub allowed_is : (o : OutputAt) → is_output_allowed devices outputs o ≡ true → IsAllowed o
  allowed_is o e =
      elim (or_cases (meets_gates_only devices outputs o) (fits_drive devices outputs o o.pin.drive) e) [
        | inl alone ↦ inl alone
        | inr fits ↦ inr (fits_by o o.pin.drive refl fits)
      ]

  -- two outputs at one net are one, or each is another one for the other
  pub same_or_other : (o x : OutputAt) → Among outputs x → x.pin.net.0 ≡ o.pin.net.0 → IsSameOutput x o ⊎ Among (others_at outputs o) x
  same_or_other o x on same = by_test (cases_Bool ((x.instance == o.instance) && (x.output == o.output)))
    where
      by_test : (((x.instance == o.instance) && (x.output == o.output)) ≡ true) ⊎ (((x.instance == o.instance) && (x.output == o.output)) ≡ false) → IsSameOutput x o ⊎ Among (others_at outputs o) x
      by_test (inl one) = (let both = and_parts (x.instance == o.instance) (x.output == o.output) one in inl (eqb-true x.instance o.instance both.0, eqb-true x.output o.output both.1))
      by_test (inr apart) = inr (other_at devices outputs o x on same apart)

  -- where one that is not alone at a net fits, each other one there does
  pub fits_beside : AreApart outputs → (x o : OutputAt) (level : ℕ) → Among outputs x → Fits x level → Among (others_at outputs x) o → o.pin.net.0 ≡ x.pin.net.0 → Fits o level
  fits_beside apart x o level there fits on same = record {
    drive = fits.others o on;
    channels = λ e listed touch. fits.channels e listed (subst (λ (n : ℕ). Touches e n) same touch);
    others = λ y other.
        (let from = filter_among (λ (z : OutputAt). (z.pin.net.0 == o.pin.net.0) && not ((z.instance == o.instance) && (z.output == o.output))) outputs y other in
        let net = eqb-true y.pin.net.0 o.pin.net.0 (and_parts (y.pin.net.0 == o.pin.net.0) (not ((y.instance == o.instance) && (y.output == o.output))) from.1).0 in
        elim (same_or_other x y from.0 (net ∙ same)) [
          | inl one ↦
              let place = apart from.0.0 there.0 y x from.0.1 there.1 one in
              let is : y ≡ x = one_at outputs there.0 y x (subst (λ (j : ℕ). At outputs j y) place from.0.1) there.1 in
              ap (λ (z : OutputAt). z.pin.drive) is ∙ fits.drive
          | inr more ↦ fits.others y more
        ]);
  }

-- what an output meets where devices go, and no output comes to its net
module _ (devices fewer : List Device) (outputs more : List OutputAt) (o : OutputAt) (less : (e : Device) → Among fewer e → Among devices e)
    (none_new : (x : OutputAt) → Among (others_at more o) x → Among (others_at outputs o) x) where
  alone_still : meets_gates_only devices outputs o ≡ true → meets_gates_only fewer more o ≡ true
  alone_still alone =
      and_from (is_empty (channels_at fewer o.pin.net.0)) (is_empty (others_at more o))
      (is_nothing (channels_at fewer o.pin.net.0) (λ e on.
      let from = filter_among (λ (d : Device). (d.left.0 == o.pin.net.0) || (d.right.0 == o.pin.net.0)) fewer e on in
      no_channel_at devices outputs o e alone (less e from.0) (touches_by e o.pin.net.0 from.1)))
      (is_nothing (others_at more o) (λ x on. no_other_at devices outputs o x alone (none_new x on)))

  pub allowed_still : IsAllowed devices outputs o → IsAllowed fewer more o
  allowed_still (inl alone) = inl (alone_still alone)
  allowed_still (inr (level, fits)) =
      inr (level, record { drive = fits.drive; channels = λ e on touch. fits.channels e (less e on) touch; others = λ x on. fits.others x (none_new x on) })

-- ---- the chain

module _ (k : Comparison) (cut : Cut) (blif : Blif) (facts : List CellFacts) (c : Circuit) (h : IsCheckedByFacts k cut blif facts c) where
  abbrev t : Top
  t = cut.top

  abbrev pub outputs_at : ℕ → List OutputAt
  outputs_at n = all_outputs (before cut n) blif facts

  abbrev pub devices_at : ℕ → List Device
  devices_at n = checked_devices (before cut n)

  -- none is at first
  pub none_first : (o : OutputAt) → Among (outputs_at 0) o → ⊥
  none_first o on =
      let from = among_flat_map (outputs_of_place t blif facts) (whole_places (before cut 0)) o on in
      by_number from.0.number (filter_among (λ (q : NumberedPlace). is_whole (before cut 0).choice q.number) (numbered_places t) from.0 from.1).1
    where
      by_number : (number : ℕ) → is_whole (before cut 0).choice number ≡ true → ⊥
      by_number zero whole = false≢true whole
      by_number (suc i) whole = (let lt = ltb-true i 0 (and_parts (cut.choice i) (nat_lt i 0) whole).1 in absurd (omega (arith, lt)))

  -- the step at a chosen instance
  module _ (i : ℕ) (low : suc i < length (all_places t)) (chosen : cut.choice i ≡ true) where
    abbrev there : (d : Circuit) × IsCircuitWith (before cut i) blif facts d
    there = chain_is_there cut blif facts c i h.circuit

    abbrev next : (d : Circuit) × IsCircuitWith (before cut (suc i)) blif facts d
    next = chain_is_there cut blif facts c (suc i) h.circuit

    abbrev s : (p : NumberedPlace) × (m : ℕ) × (depth : ℕ) × (front : List Place) × (back : List Place) × IsStepOf k cut blif facts i p m depth front back there.0 next.0
    s = step_at k cut blif facts c h i there.0 next.0 low chosen there.1 next.1

    abbrev outs : List OutputAt
    outs = outputs_of_place t blif facts s.0

    step_apart : AreApart (outputs_at i) → AreApart (outputs_at (suc i))
    step_apart rest =
        let p = s.0 in
        let step = s.5.step.chosen in
        subst AreApart (sym (outputs_behind cut i p step.place chosen blif facts))
        (together_apart (outputs_at i) outs rest
        (λ j l a b e f same. sym (port_of_output cut blif facts i p s.1 step j a e).3 ∙ same.1 ∙ (port_of_output cut blif facts i p s.1 step l b f).3)
        (λ a b on off same. false≢true (sym (other_instance cut blif facts i p step.place chosen b a off on) ∙ eq-eqb b.instance a.instance (sym same.0))))

    own_allowed : (o : OutputAt) → Among outs o → IsAllowed (devices_at (suc i)) (outputs_at (suc i)) o
    own_allowed o on =
        allowed_is (devices_at (suc i)) (outputs_at (suc i)) o
        (subst (λ (x : Cut). is_output_allowed (checked_devices x) (all_outputs x blif facts) o ≡ true) (one_more_is_next cut i chosen) ((may cut blif facts i s.0 s.1 s.5.step.chosen).allowed o on))

    -- an output that was there is allowed still
    old_allowed : AreApart (outputs_at (suc i)) → (o : OutputAt) → Among (outputs_at i) o → IsAllowed (devices_at i) (outputs_at i) o → IsAllowed (devices_at (suc i)) (outputs_at (suc i)) o
    old_allowed apart o on was = by_new (cases_Bool (list_any at_net outs))
      where
        at_net : OutputAt → Bool
        at_net x = x.pin.net.0 == o.pin.net.0

        beside : (x : OutputAt) → Among outs x → x.pin.net.0 ≡ o.pin.net.0 → IsAllowed (devices_at (suc i)) (outputs_at (suc i)) x → IsAllowed (devices_at (suc i)) (outputs_at (suc i)) o
        beside x new same (inl alone) =
            absurd (no_other_at (devices_at (suc i)) (outputs_at (suc i)) x o alone
            (other_there cut blif facts i s.0 s.1 s.5.step.chosen s.2 s.3 s.4 s.5.step.split there.0 there.1 x o new on (sym same)))
        beside x new same (inr (level, fits)) =
            inr (
              level,
              fits_beside (devices_at (suc i)) (outputs_at (suc i)) apart x o level (last_there cut blif facts i s.0 s.5.step.chosen.place chosen x new) fits
                  (other_there cut blif facts i s.0 s.1 s.5.step.chosen s.2 s.3 s.4 s.5.step.split there.0 there.1 x o new on (sym same)) (sym same),
            )

        by_new : (list_any at_net outs ≡ true) ⊎ (list_any at_net outs ≡ false) → IsAllowed (devices_at (suc i)) (outputs_at (suc i)) o
        by_new (inl some) = (let x = any_among at_net outs some in beside x.0 x.1 (eqb-true x.0.pin.net.0 o.pin.net.0 x.2) (own_allowed x.0 x.1))
        by_new (inr none) =
            allowed_still (devices_at i) (devices_at (suc i)) (outputs_at i) (outputs_at (suc i)) o
            (λ e on. devices_less cut blif facts i s.0 s.5.step.chosen.place chosen e on)
            (λ x on.
            let from = filter_among (λ (z : OutputAt). (z.pin.net.0 == o.pin.net.0) && not ((z.instance == o.instance) && (z.output == o.output))) (outputs_at (suc i)) x on in
            let both = and_parts (x.pin.net.0 == o.pin.net.0) (not ((x.instance == o.instance) && (x.output == o.output))) from.1 in
            elim (outputs_or_last cut blif facts i s.0 s.5.step.chosen.place chosen x from.0) [
              | inl old ↦ among_kept (λ (z : OutputAt). (z.pin.net.0 == o.pin.net.0) && not ((z.instance == o.instance) && (z.output == o.output))) (outputs_at i) x old from.1
              | inr new ↦ absurd (false≢true (sym none ∙ among_any at_net outs x new both.0))
            ])
            was

  pub apart_at : (n : ℕ) → n < length (all_places t) → AreApart (outputs_at n)
  apart_at zero low = λ j l a b e f same. absurd (none_first a (j, e))
  apart_at (suc i) low =
      elim (cases_Bool (cut.choice i)) [
        | inr not_chosen ↦ subst (λ (x : Cut). AreApart (all_outputs x blif facts)) (sym (none_more_is_same cut i not_chosen)) (apart_at i (omega (arith, low)))
        | inl chosen ↦ step_apart i low chosen (apart_at i (omega (arith, low)))
      ]

  pub allowed_at : (n : ℕ) → n < length (all_places t) → (o : OutputAt) → Among (outputs_at n) o → IsAllowed (devices_at n) (outputs_at n) o
  allowed_at zero low o on = absurd (none_first o on)
  allowed_at (suc i) low o on =
      elim (cases_Bool (cut.choice i)) [
        | inr not_chosen ↦
            let same = none_more_is_same cut i not_chosen in
            subst (λ (x : Cut). IsAllowed (checked_devices x) (all_outputs x blif facts) o) (sym same)
            (allowed_at i (omega (arith, low)) o (subst (λ (x : Cut). Among (all_outputs x blif facts) o) same on))
        | inl chosen ↦ elim (outputs_or_last cut blif facts i (s i low chosen).0 (s i low chosen).5.step.chosen.place chosen o on) [
          | inl old ↦ old_allowed i low chosen (apart_at (suc i) low) o old (allowed_at i (omega (arith, low)) o old)
          | inr new ↦ own_allowed i low chosen o new
        ]
      ]
