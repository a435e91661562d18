-- The values with which a fault is printed, with the instance whole and in the circuit.
use Rattle.std.proofs.Common.{◌≡◌, ℕ, Bool, true, List, Option, subst, sym, refl, ◌∙◌, inl, inr}
use Rattle.std.proofs.lemmas.Bool.{cases_Bool}
use Rattle.replaced_cells.proofs.MissedLaws.{apart_wanted, differs_wanted, enter_wanted, next_wanted}
use Rattle.replaced_cells.proofs.SharedFaults.{always_whole, bit_same, hold_back, hold_bits, hold_bits_back, hold_there, keeps_inside, out, port_bits, port_bits_back}
use Rattle.replaced_cells.proofs.SolvedAlike.{always, never_here}
use Rattle.replaced_cells.specs.Faults.{IsSameIn, PrintedValuesAreSame}
use Rattle.replaced_cells.specs.OneMoreWhole.{AreSolvedAlike, IsOneMoreWhole, all_bits}
use Rattle.vrt_model.specs.Assignment.{Assignment}
use Rattle.vrt_model.specs.Checked.{with_circuit}
use Rattle.vrt_model.specs.Comparison.{Comparison}
use Rattle.vrt_model.specs.Faults.{IsPrintedWith, Stands}
use Rattle.vrt_model.specs.Reading.{kept}
use Rattle.vrt_model.specs.Response.{Shows}
use Rattle.vrt_model.specs.State.{Setting, State}
use Rattle.vrt_model.specs.declared.circuit.Circuit.{Circuit}
use Rattle.vrt_model.specs.declared.verdict.FaultKind.{FaultKind}
use Rattle.vrt_model.specs.declared.verdict.FaultKind.TheVariants.{Fight, FightKept, Float, Unsettled, Constraint, Differs, Next, Apart, Enter}

module _ (k q : Comparison) (phase : ℕ) (whole_circuit : Circuit) (at place fresh : ℕ → ℕ) (remaining compared exposed : ℕ → Bool) (drive : ℕ → ℕ)
    (setting : Setting) (s r : State) (bits : List Bool)
    (one : IsOneMoreWhole k q phase whole_circuit at place fresh remaining compared exposed drive)
    (alike : AreSolvedAlike k q phase whole_circuit at place fresh remaining setting s r bits) where
  abbrev there : Comparison
  there = with_circuit k whole_circuit

  -- a net that is unsettled with the instance whole is not hidden
  unsettled_compared : (g : Assignment) (n : ℕ) → Stands there phase setting (all_bits r.reading) g Unsettled n → compared n ≡ true
  unsettled_compared g n (o, never) =
      elim (cases_Bool (compared n)) [
        | inl t ↦ t
        | inr f ↦ absurd (never_here there phase setting r alike.whole_state one.whole_determined n never (keeps_inside k q phase whole_circuit at place fresh remaining compared exposed drive setting s r bits one alike n f o))
      ]

  abbrev PrintedThere : Assignment → FaultKind → ℕ → Option Bool → Option Bool → Type 0
  PrintedThere g kind n circuit wanted = IsPrintedWith there phase setting (all_bits r.reading) g kind n circuit wanted

  abbrev PrintedHere : Assignment → FaultKind → ℕ → Option Bool → Option Bool → Type 0
  PrintedHere g kind n circuit wanted = IsPrintedWith k phase setting (all_bits s.reading) g kind n circuit wanted

  unsettled_printed : (g : Assignment) (n : ℕ) (circuit wanted : Option Bool) → compared n ≡ true → PrintedThere g Unsettled n circuit wanted → PrintedHere g Unsettled n circuit wanted
  unsettled_printed g n circuit wanted c (inl (x, (net, want), (bit, is, responds))) =
      let there_too : compared x ≡ true = subst (λ (y : ℕ). compared y ≡ true) net c in
      inl (
        x,
        (net, want ∙ bit_same k q phase whole_circuit at place fresh remaining compared exposed drive setting s r bits one alike x (one.whole.compared_remaining x there_too)),
        (bit, is, (always k phase setting s alike.state one.determined kept x (Shows bit)).1 ((out k q phase whole_circuit at place fresh remaining compared exposed drive setting s r bits one alike kept x (Shows bit) there_too).1 (always_whole k q phase whole_circuit at place fresh remaining compared exposed drive setting s r bits one alike kept x (Shows bit) responds))),
      )
  unsettled_printed g n circuit wanted c (inr (none, no_value, no_want)) = absurd (none n (all_bits r.reading n) (refl, refl))

  pub differs_printed : (g : Assignment) (n : ℕ) (circuit wanted : Option Bool) → PrintedThere g Differs n circuit wanted → PrintedHere g Differs n circuit wanted
  differs_printed g n circuit wanted (inl (x, want, value)) =
      let same = differs_wanted k phase whole_circuit k.circuit there.groups k.groups (all_bits r.reading) (all_bits s.reading) one.held_groups (hold_back k q phase whole_circuit at place fresh remaining compared exposed drive setting s r bits one alike) (λ next i. sym (one.enters next i)) (hold_bits_back k q phase whole_circuit at place fresh remaining compared exposed drive setting s r bits one alike) (port_bits_back k q phase whole_circuit at place fresh remaining compared exposed drive setting s r bits one alike) g n x wanted want in
      inl (x, same.0, value ∙ same.1)
  differs_printed g n circuit wanted (inr (none, no_value, no_want)) =
      inr (
        λ x w want.
            none x w (differs_wanted k phase k.circuit whole_circuit k.groups there.groups (all_bits s.reading) (all_bits r.reading) (sym one.held_groups) (hold_there k q phase whole_circuit at place fresh remaining compared exposed drive setting s r bits one alike) one.enters (hold_bits k q phase whole_circuit at place fresh remaining compared exposed drive setting s r bits one alike) (port_bits k q phase whole_circuit at place fresh remaining compared exposed drive setting s r bits one alike) g n x w want).0,
        no_value,
        no_want,
      )

  pub next_printed : (g : Assignment) (n : ℕ) (circuit wanted : Option Bool) → PrintedThere g Next n circuit wanted → PrintedHere g Next n circuit wanted
  next_printed g n circuit wanted (inl (x, want, value)) =
      let same = next_wanted k phase whole_circuit k.circuit there.groups k.groups (all_bits r.reading) (all_bits s.reading) one.held_groups (hold_back k q phase whole_circuit at place fresh remaining compared exposed drive setting s r bits one alike) (λ next i. sym (one.enters next i)) (hold_bits_back k q phase whole_circuit at place fresh remaining compared exposed drive setting s r bits one alike) (port_bits_back k q phase whole_circuit at place fresh remaining compared exposed drive setting s r bits one alike) g n x wanted want in
      inl (x, same.0, value ∙ same.1)
  next_printed g n circuit wanted (inr (none, no_value, no_want)) =
      inr (
        λ x w want.
            none x w (next_wanted k phase k.circuit whole_circuit k.groups there.groups (all_bits s.reading) (all_bits r.reading) (sym one.held_groups) (hold_there k q phase whole_circuit at place fresh remaining compared exposed drive setting s r bits one alike) one.enters (hold_bits k q phase whole_circuit at place fresh remaining compared exposed drive setting s r bits one alike) (port_bits k q phase whole_circuit at place fresh remaining compared exposed drive setting s r bits one alike) g n x w want).0,
        no_value,
        no_want,
      )

  pub apart_printed : (g : Assignment) (n : ℕ) (circuit wanted : Option Bool) → PrintedThere g Apart n circuit wanted → PrintedHere g Apart n circuit wanted
  apart_printed g n circuit wanted (inl (x, want, value)) =
      let same = apart_wanted k phase whole_circuit k.circuit there.groups k.groups (all_bits r.reading) (all_bits s.reading) one.held_groups (hold_back k q phase whole_circuit at place fresh remaining compared exposed drive setting s r bits one alike) (λ next i. sym (one.enters next i)) (hold_bits_back k q phase whole_circuit at place fresh remaining compared exposed drive setting s r bits one alike) (port_bits_back k q phase whole_circuit at place fresh remaining compared exposed drive setting s r bits one alike) g n x wanted want in
      inl (x, same.0, value ∙ same.1)
  apart_printed g n circuit wanted (inr (none, no_value, no_want)) =
      inr (
        λ x w want.
            none x w (apart_wanted k phase k.circuit whole_circuit k.groups there.groups (all_bits s.reading) (all_bits r.reading) (sym one.held_groups) (hold_there k q phase whole_circuit at place fresh remaining compared exposed drive setting s r bits one alike) one.enters (hold_bits k q phase whole_circuit at place fresh remaining compared exposed drive setting s r bits one alike) (port_bits k q phase whole_circuit at place fresh remaining compared exposed drive setting s r bits one alike) g n x w want).0,
        no_value,
        no_want,
      )

  pub enter_printed : (g : Assignment) (n : ℕ) (circuit wanted : Option Bool) → PrintedThere g Enter n circuit wanted → PrintedHere g Enter n circuit wanted
  enter_printed g n circuit wanted (inl (x, want, value)) =
      let same = enter_wanted k phase whole_circuit k.circuit there.groups k.groups (all_bits r.reading) (all_bits s.reading) one.held_groups (hold_back k q phase whole_circuit at place fresh remaining compared exposed drive setting s r bits one alike) (λ next i. sym (one.enters next i)) (hold_bits_back k q phase whole_circuit at place fresh remaining compared exposed drive setting s r bits one alike) (port_bits_back k q phase whole_circuit at place fresh remaining compared exposed drive setting s r bits one alike) g n x wanted want in
      inl (x, same.0, value ∙ same.1)
  enter_printed g n circuit wanted (inr (none, no_value, no_want)) =
      inr (
        λ x w want.
            none x w (enter_wanted k phase k.circuit whole_circuit k.groups there.groups (all_bits s.reading) (all_bits r.reading) (sym one.held_groups) (hold_there k q phase whole_circuit at place fresh remaining compared exposed drive setting s r bits one alike) one.enters (hold_bits k q phase whole_circuit at place fresh remaining compared exposed drive setting s r bits one alike) (port_bits k q phase whole_circuit at place fresh remaining compared exposed drive setting s r bits one alike) g n x w want).0,
        no_value,
        no_want,
      )

  pub printed_below : (g : Assignment) (kind : FaultKind) (m n : ℕ) (circuit wanted : Option Bool) → IsSameIn k.circuit whole_circuit kind m n
      → Stands there phase setting (all_bits r.reading) g kind n → PrintedThere g kind n circuit wanted → PrintedHere g kind m circuit wanted
  printed_below g Fight m n circuit wanted e h (inl p) = absurd p.1
  printed_below g Fight m n circuit wanted e h (inr p) = inr (λ x w none. none, p.1, p.2)
  printed_below g FightKept m n circuit wanted e h (inl p) = absurd p.1
  printed_below g FightKept m n circuit wanted e h (inr p) = inr (λ x w none. none, p.1, p.2)
  printed_below g Float m n circuit wanted e h (inl p) = absurd p.1
  printed_below g Float m n circuit wanted e h (inr p) = inr (λ x w none. none, p.1, p.2)
  printed_below g Constraint m n circuit wanted e h (inl p) = absurd p.1
  printed_below g Constraint m n circuit wanted e h (inr p) = inr (λ x w none. none, p.1, p.2)
  printed_below g Unsettled m n circuit wanted e h p =
      subst (λ (x : ℕ). PrintedHere g Unsettled x circuit wanted) (sym e) (unsettled_printed g n circuit wanted (unsettled_compared g n h) p)
  printed_below g Differs m n circuit wanted e h p = subst (λ (x : ℕ). PrintedHere g Differs x circuit wanted) (sym e) (differs_printed g n circuit wanted p)
  printed_below g Next m n circuit wanted e h p = subst (λ (x : ℕ). PrintedHere g Next x circuit wanted) (sym e) (next_printed g n circuit wanted p)
  printed_below g Apart m n circuit wanted e h p = subst (λ (x : ℕ). PrintedHere g Apart x circuit wanted) (sym e) (apart_printed g n circuit wanted p)
  printed_below g Enter m n circuit wanted e h p = subst (λ (x : ℕ). PrintedHere g Enter x circuit wanted) (sym e) (enter_printed g n circuit wanted p)

pub printed_values_are_same : PrintedValuesAreSame
printed_values_are_same k q phase whole_circuit at place fresh remaining compared exposed drive setting s r bits g one alike kind m n e h circuit wanted p =
    printed_below k q phase whole_circuit at place fresh remaining compared exposed drive setting s r bits one alike g kind m n circuit wanted e h p
