-- What is told of a cell after its verdict is true of its flat circuit: strengths go down the chain from the checked circuit to the flat one.
use Rattle.std.proofs.Common.{◌≡◌, ◌⊎◌, ℕ, zero, suc, ◌<◌, ◌≤◌, ◌&&◌, Bool, true, false, List, length, refl, arith, ap, sym, subst, ◌∙◌, inl, inr}
use Rattle.std.specs.Prelude.{is_some, nat_lt}
use Rattle.std.proofs.lemmas.Bool.{cases_Bool, false≢true}
use Rattle.std.proofs.lemmas.Bool.Decides.{nat_tests}
use Rattle.std.proofs.lemmas.Option.{none-some}
use Rattle.checked_cells.proofs.AllowedOutputs.{none_first, outputs_at}
use Rattle.checked_cells.proofs.GivenLaws.{checked_cells_are_by_facts}
use Rattle.checked_cells.proofs.StepLevels.{comes_from_cell, compared, goes_down, hidden_output, step, still_alone, was_alone}
use Rattle.checked_cells.specs.Given.{AreTrueFacts, IsReadCell}
use Rattle.checked_cells.specs.ToldFacts.{ToldDrivesAreTrue, ToldFactsAreTrue}
use Rattle.checked_chain.proofs.ChoiceLaws.{outputs_same}
use Rattle.checked_chain.proofs.DriveLaws.{last_there, outputs_more, outputs_or_last}
use Rattle.checked_chain.proofs.EndLaws.{chain_begins_flat, chain_ends_checked}
use Rattle.checked_chain.proofs.StepLaws.{none_more_is_same}
use Rattle.checked_chain.proofs.ThereLaws.{chain_is_there}
use Rattle.replaced_instances.proofs.ChosenSteps.{told_drive}
use Rattle.replaced_instances.proofs.Exposures.{no_other_at}
use Rattle.replaced_instances.proofs.StepInstances.{zip_at_right}
use Rattle.replaced_instances.proofs.StepPlaced.{other_there}
use Rattle.replaced_instances.proofs.StepPorts.{output_drive, port_of_output}
use Rattle.substitution_laws.proofs.ChainLaws.{is_itself, some_place}
use Rattle.substitution_laws.specs.Agreement.{IsCheckedByFacts}
use Rattle.vrt_model.proofs.Filtered.{filter_among}
use Rattle.vrt_model.proofs.Lists.{one_at}
use Rattle.vrt_model.specs.Checked.{IsCircuitWith, before, with_circuit}
use Rattle.vrt_model.specs.CheckedParts.{checked_devices}
use Rattle.vrt_model.specs.Comparison.{CellPort, Comparison, output_signal, ports_of}
use Rattle.vrt_model.specs.Cut.{Cut}
use Rattle.vrt_model.specs.Equal.{IsEqual}
use Rattle.vrt_model.specs.Facts.{AreFacts, HasLevel, IsDriveAt, IsDriveOf, IsTrueDrive, IsTrueFor, output_ports}
use Rattle.vrt_model.specs.Lists.{Among, At}
use Rattle.vrt_model.specs.PairedPorts.{Model, Paired, Missing, Skipped}
use Rattle.vrt_model.specs.Unrolled.{Top, all_places}
use Rattle.vrt_model.specs.Unsupported.{IsSupported, comparison_of}
use Rattle.vrt_model.specs.WholeInstances.{OutputAt, all_outputs, meets_gates_only}
use Rattle.vrt_model.specs.declared.blif.Blif.{Blif}
use Rattle.vrt_model.specs.declared.circuit.Circuit.{Circuit}
use Rattle.vrt_model.specs.declared.circuit.Device.{Device}
use Rattle.vrt_model.specs.declared.design.Design.{Design}
use Rattle.vrt_model.specs.declared.rules.Rules.{Rules}
use Rattle.vrt_model.specs.declared.verdict.Verdict.{Verdict}
use Rattle.vrt_model.specs.declared.verdict.Verdict.TheVariants.{Equal}
use Rattle.vrt_model.specs.declared.whole.CellFacts.{CellFacts}
use Rattle.vrt_model.specs.declared.whole.Drive.{Drive}
use Rattle.vrt_model.specs.declared.whole.Drive.TheVariants.{Soft, Level}

module _ (k : Comparison) (cut : Cut) (blif : Blif) (facts : List CellFacts) (c : Circuit) (h : IsCheckedByFacts k cut blif facts c) (equal : IsEqual k) where
  abbrev t : Top
  t = cut.top

  -- ---- the checked circuit as the last of its chain, with the outputs of all chosen instances

  earlier : (n i : ℕ) → length (all_places t) ≤ suc n → suc i < length (all_places t) → (before cut n).choice i ≡ cut.choice i
  earlier n i long lt =
      let low : i < n = omega (arith, long, lt) in
      let yes : nat_lt i n ≡ true = grind (arith, nat_tests, low) in
      ap (λ (b : Bool). cut.choice i && b) yes ∙ and_true (cut.choice i)
    where
      and_true : (b : Bool) → (b && true) ≡ b
      and_true true = refl
      and_true false = refl

  pub final : (n : ℕ) × (n < length (all_places t)) × IsCircuitWith (before cut n) blif facts c × (all_outputs (before cut n) blif facts ≡ all_outputs cut blif facts)
  final =
      let last = by_count (length (all_places t)) (some_place t) in
      let is = last.1 in
      let long : length (all_places t) ≤ suc last.0 = omega (arith, is) in (
        last.0,
        omega (arith, is),
        (chain_ends_checked cut blif facts c last.0 long).1 h.circuit,
        outputs_same t (before cut last.0).choice cut.choice (λ i lt. earlier last.0 i long lt) blif facts,
      )
    where
      by_count : (m : ℕ) → 0 < m → (n : ℕ) × (suc n ≡ m)
      by_count zero lt = absurd (omega (arith, lt))
      by_count (suc n) lt = (n, refl)

  -- ---- down the chain

  -- the output meets gates alone where the instances of a choice are whole
  abbrev IsAloneIn : Cut → OutputAt → Type 0
  IsAloneIn x o = meets_gates_only (checked_devices x) (all_outputs x blif facts) o ≡ true

  -- no output at the net does
  abbrev NoneAlone : Cut → ℕ → Type 0
  NoneAlone x n = (o : OutputAt) → Among (all_outputs x blif facts) o → o.pin.net.0 ≡ n → IsAloneIn x o → ⊥

  module _ (port : CellPort) (on : Among (ports_of k) port) (level : ℕ) where
    -- the strength of the port's net in a circuit of the chain is that in the flat one
    down : (n : ℕ) (d : Circuit) → n < length (all_places t) → IsCircuitWith (before cut n) blif facts d → NoneAlone (before cut n) port.net → HasLevel (with_circuit k d) port.net level → HasLevel k port.net level
    down zero d low circuit none has =
        subst (λ (x : Comparison). HasLevel x port.net level) (sym (is_itself k cut blif facts c h d ((chain_begins_flat cut blif facts d).0 circuit ∙ sym h.flat))) has
    down (suc i) d low circuit none has =
        elim (cases_Bool (cut.choice i)) [
          | inr not_chosen ↦
              let same = none_more_is_same cut i not_chosen in
              down i d (omega (arith, low)) (subst (λ (x : Cut). IsCircuitWith x blif facts d) same circuit) (subst (λ (x : Cut). NoneAlone x port.net) same none) has
          | inl chosen ↦
              let first = chain_is_there cut blif facts c i h.circuit in
              let s = step k cut blif facts c h i first.0 d low chosen first.1 circuit in
              let place = s.5.step.chosen.place in
              down i first.0 (omega (arith, low)) first.1
              (λ o there net alone. none o (outputs_more cut blif facts i s.0 place chosen o there) net (still_alone k cut blif facts c h i first.0 d low chosen first.1 circuit o there alone))
              (goes_down k cut blif facts c h i first.0 d low chosen first.1 circuit equal port.net level
              (elim (cases_Bool (compared k cut blif facts c h i first.0 d low chosen first.1 circuit port.net)) [
                | inl out ↦ out
                | inr hidden ↦
                    let o = hidden_output k cut blif facts c h i first.0 d low chosen first.1 circuit port on hidden in
                    absurd (none o.0 (last_there cut blif facts i s.0 place chosen o.0 o.1) o.2 o.3)
              ]) has)
        ]

    -- so is the level of an output of an instance that meets gates alone there
    from_output : (n : ℕ) → n < length (all_places t) → (o : OutputAt) → Among (outputs_at k cut blif facts c h n) o → o.pin.net.0 ≡ port.net → IsAloneIn (before cut n) o → o.pin.drive ≡ Level level → HasLevel k port.net level
    from_output zero low o there net alone is = absurd (none_first k cut blif facts c h o there)
    from_output (suc i) low o there net alone is =
        elim (cases_Bool (cut.choice i)) [
          | inr not_chosen ↦
              let same = none_more_is_same cut i not_chosen in
              from_output i (omega (arith, low)) o (subst (λ (x : Cut). Among (all_outputs x blif facts) o) same there) net (subst (λ (x : Cut). IsAloneIn x o) same alone) is
          | inl chosen ↦
              let first = chain_is_there cut blif facts c i h.circuit in
              let next = chain_is_there cut blif facts c (suc i) h.circuit in
              let s = step k cut blif facts c h i first.0 next.0 low chosen first.1 next.1 in
              let chosen_is = s.5.step.chosen in
              elim (outputs_or_last cut blif facts i s.0 chosen_is.place chosen o there) [
                | inl old ↦ from_output i (omega (arith, low)) o old net (was_alone k cut blif facts c h i first.0 next.0 low chosen first.1 next.1 o old alone) is
                | inr new ↦
                    let own = port_of_output cut blif facts i s.0 s.1 chosen_is new.0 o new.1 in
                    let any = chosen_is in
                    let is_told = told_drive cut blif facts i s.0 s.1 any new.0 own.0 level own.1 (sym (output_drive cut blif facts i s.0 s.1 chosen_is new.0 o new.1) ∙ is) in
                    down i first.0 (omega (arith, low)) first.1
                    (λ x on_x net_x alone_x.
                    no_other_at (checked_devices (before cut (suc i))) (all_outputs (before cut (suc i)) blif facts) o x alone
                    (other_there cut blif facts i s.0 s.1 chosen_is s.2 s.3 s.4 s.5.step.split first.0 first.1 o x new on_x (net_x ∙ sym net)))
                    (subst (λ (n : ℕ). HasLevel (with_circuit k first.0) n level) (sym own.2 ∙ net)
                    (comes_from_cell k cut blif facts c h i first.0 next.0 low chosen first.1 next.1 equal own.0 level (new.0, own.1) is_told.0))
              ]
        ]

    -- ---- the level that is told

    -- the devices and outputs of the checked circuit are those of the last one
    alone_same : (o : OutputAt) → meets_gates_only c.devices (all_outputs cut blif facts) o ≡ meets_gates_only (checked_devices (before cut final.0)) (all_outputs (before cut final.0) blif facts) o
    alone_same o =
        ap (λ (devices : List Device). meets_gates_only devices (all_outputs cut blif facts) o) final.2.devices
        ∙ ap (λ (outputs : List OutputAt). meets_gates_only (checked_devices (before cut final.0)) outputs o) (sym final.3)

    pub told_level : IsDriveAt (with_circuit k c) (all_outputs cut blif facts) port (Level level) → HasLevel k port.net level
    told_level (inl (o, there, net, gates, is)) =
        from_output final.0 final.1 o (subst (λ (xs : List OutputAt). Among xs o) (sym final.3) there) net (sym (alone_same o) ∙ gates) (sym is)
    told_level (inr (none, own)) =
        down final.0 c final.1 final.2
        (λ o there net alone. none o.pin.drive (o, subst (λ (xs : List OutputAt). Among xs o) final.3 there, net, alone_same o ∙ alone, refl)) own

-- ---- the laws

pub told_drives_are_true : ToldDrivesAreTrue
told_drives_are_true k cut blif facts c port drive h equal on is = by_drive drive is
  where
    by_drive : (d : Drive) → IsDriveOf k (with_circuit k c) (all_outputs cut blif facts) port d → IsTrueDrive k port d
    by_drive Soft is_told = tt
    by_drive (Level level) (inl (alone, at)) =
        (told_level k cut blif facts c h equal port (filter_among (λ (x : CellPort). is_some (output_signal x.role)) (ports_of k) port on).0 level at, alone)
    by_drive (Level level) (inr (shared, soft)) = absurd (false≢true (ap is_soft soft))
      where
        is_soft : Drive → Bool
        is_soft Soft = true
        is_soft (Level l) = false

module _ (design : Design) (blif : Blif) (rules : Rules) (cell m : ℕ) (below : List CellFacts) (verdict : Verdict) (f : CellFacts) (read : IsReadCell design blif rules cell)
    (supported : IsSupported design blif rules cell m) (facts_are : AreTrueFacts design blif rules below) where
  abbrev k : Comparison
  k = comparison_of design blif rules cell m

  true_for : (verdict ≡ Equal → IsEqual k) → AreFacts k blif below verdict f → IsTrueFor k f
  true_for equal told = record {
    equal = λ e. equal (told.equal.0 e);
    stateless = λ e. (let all = told.stateless.0 e in (all.1, all.2));
    drives = λ j port drive on at. by_equal (cases_Bool f.equal) j port drive on at;
  }
    where
      by_equal : (f.equal ≡ true) ⊎ (f.equal ≡ false) → (j : ℕ) (port : CellPort) (drive : Drive) → At (output_ports k) j port → At f.drives j drive → IsTrueDrive k port drive
      by_equal (inr no_fact) j port drive on at = absurd (none-some drive (subst (λ (xs : List Drive). At xs j drive) (told.no_drives no_fact) at))
      by_equal (inl is) j port drive on at =
          let over = told.drives (told.equal.0 is) in
          let from = zip_at_right (IsDriveOf k (with_circuit k over.1) (all_outputs over.0 blif below)) (output_ports k) f.drives j drive over.4 at in
          told_drives_are_true k over.0 blif below over.1 port drive
          (checked_cells_are_by_facts design blif rules cell m below over.0 over.1 read supported facts_are over.2 over.3) (equal (told.equal.0 is)) (j, on)
          (subst (λ (x : CellPort). IsDriveOf k (with_circuit k over.1) (all_outputs over.0 blif below) x drive) (one_at (output_ports k) j from.0 port from.1 on) from.2)

pub told_facts_are_true : ToldFactsAreTrue
told_facts_are_true design blif rules cell m below verdict f read supported facts_are equal told = record {
  supported = λ e. (m, supported);
  compared = λ n paired.
      (let model : Paired → ℕ = λ x. elim x [ Model j ↦ j | Skipped ↦ 0 | Missing ↦ 0 ] in
      let same : m ≡ n = ap model (sym supported.paired ∙ paired) in
      subst (λ (j : ℕ). IsTrueFor (comparison_of design blif rules cell j) f) same (true_for design blif rules cell m below verdict f read supported facts_are equal told));
}
