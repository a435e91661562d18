-- What is on firm ground with a cell whole is on firm ground with the cell in the circuit.
use Rattle.std.proofs.Common.{◌≡◌, ◌⊎◌, ℕ, Bool, true, false, List, [], Some, ap, subst, sym, refl, ◌∙◌, inl, inr}
use Rattle.std.proofs.lemmas.Bool.{cases_Bool, false≢true}
use Rattle.cell_inside.proofs.OutputPins.{pin_there}
use Rattle.constraints.proofs.NamedLaws.{breaks_same}
use Rattle.firm_faults.proofs.InnerRegions.{pin_among}
use Rattle.firm_faults.proofs.RegionDown.{IsDown, given_goes, hidden_own, left_goes, output_goes, reaching_pin, s, s_is}
use Rattle.firm_faults.proofs.StepBits.{HasStepBits, step_bits}
use Rattle.firm_faults.proofs.StepStates.{plain_below}
use Rattle.firm_faults.specs.FirmGround.{IsFirmIn, IsOnFirmGround}
use Rattle.firm_faults.specs.Settled.{IsLinkedOutput, IsSettled, given, nets_named_at, within}
use Rattle.firm_faults.specs.StepDown.{FirmGroundGoesDown, HasOneMoreOriginal, IsCellRanked, IsSamePlaceIn, IsStepDown}
use Rattle.vrt_model.proofs.GivenNets.{source_strength}
use Rattle.vrt_model.proofs.Networks.{network_levels}
use Rattle.vrt_model.specs.Checked.{with_circuit}
use Rattle.vrt_model.specs.Comparison.{Comparison, phase_at}
use Rattle.vrt_model.specs.Levels.{source_level}
use Rattle.vrt_model.specs.Lists.{Among, At}
use Rattle.vrt_model.specs.Path.{IsPath, Network, Root, level_of_drive}
use Rattle.vrt_model.specs.Response.{Fight as FightResponse, Float as FloatResponse, IsResponse, Reaches}
use Rattle.vrt_model.specs.State.{IsState, OutputPin, Setting, State, network_of, output_pins}
use Rattle.vrt_model.specs.declared.circuit.Circuit.{Circuit}
use Rattle.vrt_model.specs.declared.circuit.FlatInstance.{FlatInstance}
use Rattle.vrt_model.specs.declared.rules.Phase.{Phase}
use Rattle.vrt_model.specs.declared.verdict.FaultKind.{FaultKind}
use Rattle.vrt_model.specs.declared.verdict.FaultKind.TheVariants.{Fight, FightKept, Float, Unsettled, Constraint, Differs, Next, Apart, Enter}
use Rattle.vrt_model.specs.declared.whole.Whole.{Whole}

module _ (k : Comparison) (phase : ℕ) (setting : Setting) (cell whole_circuit : Circuit) (at place fresh : ℕ → ℕ) (remaining compared cell_observed exposed known : ℕ → Bool)
    (together : ℕ → ℕ → Bool) (drive rank : ℕ → ℕ) (x : Whole) (i : FlatInstance) (originals whole_originals : List FlatInstance)
    (p : IsStepDown k phase setting cell whole_circuit at place fresh remaining compared cell_observed exposed drive x i)
    (more : HasOneMoreOriginal (phase_at k.rules phase) k.circuit whole_circuit originals whole_originals x i)
    (own : IsCellRanked cell (phase_at k.rules phase) cell_observed known together rank)
    (r : State) (is : IsState whole_circuit (phase_at k.rules phase) setting.inputs r) (sr bits : ℕ → Bool)
    (q : HasStepBits k phase cell whole_circuit at fresh cell_observed exposed drive x i r sr bits) where
  abbrev here : Phase
  here = phase_at k.rules phase

  -- the comparison with the cell whole
  abbrev above : Comparison
  above = with_circuit k whole_circuit

  abbrev view : Network
  view = network_of whole_circuit true setting.held r

  abbrev below_state : State
  below_state = s k phase setting cell whole_circuit at place fresh remaining compared cell_observed exposed known together drive rank x i originals whole_originals p more own r is sr bits q

  abbrev IsDownTo : ℕ → Type 0
  IsDownTo n = IsDown k phase setting cell whole_circuit at place fresh remaining compared cell_observed exposed known together drive rank x i originals whole_originals p more own r is sr bits q n

  abbrev IsFirm : ℕ → Type 0
  IsFirm n = IsSettled above whole_originals phase setting r n

  -- an output that is linked to another remains
  linked_remains : (region : ℕ → Bool) (m : ℕ) → IsLinkedOutput whole_circuit here region m → remaining m ≡ true
  linked_remains region m l =
      let there = pin_among whole_circuit l.0 l.3 l.4 l.7 in
      elim (p.whole.pins_back there.0 (record { whole = l.0; pin = l.3 }) there.1) [
        | inl old ↦ subst (λ (y : ℕ). remaining y ≡ true) (sym old.4.net ∙ l.9) old.4.stays
        | inr new ↦ subst (λ (y : ℕ). remaining y ≡ true) (sym new.2.net ∙ l.9) new.2.stays
      ]

  -- ---- all settled nets that remain

  goes_down : (n : ℕ) → IsFirm n → remaining n ≡ true → IsDownTo n
  goes_down n (given g) rem =
      given_goes k phase setting cell whole_circuit at place fresh remaining compared cell_observed exposed known together drive rank x i originals whole_originals p more own r is sr bits q n g
  goes_down n (within region base reg backed ins shows firm calm linked) rem =
      elim (cases_Bool (compared n)) [
        | inl c ↦
            left_goes k phase setting cell whole_circuit at place fresh remaining compared cell_observed exposed known together drive rank x i originals whole_originals p more own r is sr bits q
            region base reg backed shows (λ m b. goes_down m (firm m b) (p.seen m (shows m b).0).0) calm (λ m l. goes_down m (linked m l) (linked_remains region m l)) n ins c
        | inr f ↦
            let inner = p.hidden n f in
            output_goes k phase setting cell whole_circuit at place fresh remaining compared cell_observed exposed known together drive rank x i originals whole_originals p more own r is sr bits q
            region base reg backed shows (λ m b. goes_down m (firm m b) (p.seen m (shows m b).0).0) calm (λ m l. goes_down m (linked m l) (linked_remains region m l))
            n inner.0 inner.1 inner.2 ins rem f
      ]

  -- a hidden output fights nowhere
  hidden_none : (n : ℕ) (f : compared n ≡ false) → exposed (p.hidden n f).0 ≡ true → ⊥
  hidden_none n f e =
      hidden_own k phase setting cell whole_circuit at place fresh remaining compared cell_observed exposed known together drive rank x i originals whole_originals p more own r is sr bits q
      n (p.hidden n f).0 f (p.hidden n f).1 e

  no_fight : (n : ℕ) → compared n ≡ false → IsResponse view n FightResponse → ⊥
  no_fight n f fight =
      let inner = p.hidden n f in
      let reaching : (u : Bool) → Reaches view n u → r.driven (fresh inner.0) ≡ u =
      λ u reaches.
      reaching_pin k phase setting cell whole_circuit at place fresh remaining compared cell_observed exposed known together drive rank x i originals whole_originals p more own r is sr bits q
      inner.0 u inner.2 (hidden_none n f) (subst (λ (y : ℕ). Reaches view y u) inner.1 reaches) in
      false≢true (sym (reaching false fight.1) ∙ reaching true fight.0)

  -- nor does one float that is driven
  driven_reaches : (n j : ℕ) (pin : OutputPin) → level_of_drive (source_level whole_circuit) pin.pin.drive ≡ source_level whole_circuit → At (output_pins whole_circuit) j pin → pin.pin.net.0 ≡ n → Reaches view n (r.driven j)
  driven_reaches n j pin soft e net = (
    root,
    [],
    is_root,
    source_strength view (network_levels whole_circuit true setting.held r p.whole_ranges) n (root, is_root, refl, refl),
    refl,
    refl,
  )
    where
      root : Root
      root = record { net = n; level = source_level whole_circuit; value = r.driven j }

      is_root : IsPath view root []
      is_root = inr (inr (j, pin.pin, pin_there whole_circuit j pin e, sym net, sym soft, refl))

  -- ---- faults

  abbrev IsGround : FaultKind → ℕ → Type 0
  IsGround kind n = (m : ℕ) × IsSamePlaceIn whole_circuit k.circuit kind n m × IsOnFirmGround k originals phase setting kind m

  on_ground : (kind : FaultKind) (m : ℕ) → IsFirmIn k originals phase setting below_state kind m → IsOnFirmGround k originals phase setting kind m
  on_ground kind m firm = record {
    state = below_state;
    is = s_is k phase setting cell whole_circuit at place fresh remaining compared cell_observed exposed known together drive rank x i originals whole_originals p more own r is sr bits q;
    firm = firm;
  }

  fight_goes : (n : ℕ) → IsFirmIn above whole_originals phase setting r Fight n → IsGround Fight n
  fight_goes n firm =
      elim (cases_Bool (compared n)) [
        | inl c ↦
            let down = goes_down n firm.1 (p.whole.compared_remaining n c) in
            (n, refl, on_ground Fight n (plain_below k phase setting cell whole_circuit at place fresh remaining compared cell_observed exposed drive x i p n firm.0, down.firm, down.responds c FightResponse firm.2))
        | inr f ↦ absurd (no_fight n f firm.2)
      ]

  float_goes : (n : ℕ) → IsFirmIn above whole_originals phase setting r Float n → IsGround Float n
  float_goes n firm =
      elim (cases_Bool (compared n)) [
        | inl c ↦
            let down = goes_down n firm.1 (p.whole.compared_remaining n c) in
            (n, refl, on_ground Float n ((p.seen n firm.0).1, down.firm, down.responds c FloatResponse firm.2))
        | inr f ↦ absurd (driven_there n f)
      ]
    where
      not_exposed : {b : Bool} → (b ≡ true) ⊎ (b ≡ false) → (b ≡ true → ⊥) → b ≡ false
      not_exposed (inl t) none = absurd (none t)
      not_exposed (inr f) none = f

      floats_not : (n j : ℕ) (u : Bool) → r.driven j ≡ u → IsResponse view n FloatResponse → Reaches view n u → ⊥
      floats_not n j true e float reaches = float.0 reaches
      floats_not n j false e float reaches = float.1 reaches

      driven_there : (o : ℕ) → compared n ≡ false → ⊥
      driven_there o f =
          let inner = p.hidden n f in
          let to = p.outputs inner.0 inner.2 (subst (λ (y : ℕ). remaining y ≡ true) inner.1 (p.seen n firm.0).0) in
          let soft = to.1.4 (not_exposed (cases_Bool (exposed inner.0)) (hidden_none n f)) in
          floats_not n (fresh inner.0) (r.driven (fresh inner.0)) refl firm.2 (driven_reaches n (fresh inner.0) to.1.0 soft to.1.1 (to.1.3 ∙ sym inner.1))

  constraint_goes : (n : ℕ) → IsFirmIn above whole_originals phase setting r Constraint n → IsGround Constraint n
  constraint_goes n firm =
      let y : FlatInstance = firm.0 in
      let there = p.instances y (n, firm.1) in
      let down : (o : ℕ) → Among (nets_named_at k phase y) o → IsDownTo o = λ o m. let has = firm.3 o m in goes_down o has.0 (p.seen o has.1.0).0 in (
        there.0,
        (y, firm.1, there.1),
        on_ground Constraint there.0 (
          y,
          there.1,
          breaks_same k.design k.rules phase y (λ o. Some (r.reading o)) (λ o. Some (sr o)) (λ o m. ap (λ (b : Bool). Some b) (sym ((down o m).own_bit (firm.3 o m).1).0)) firm.2,
          λ o m. ((down o m).firm, ((down o m).own_bit (firm.3 o m).1).1),
        ),
      )

  pub by_kind : (kind : FaultKind) (n : ℕ) → IsFirmIn above whole_originals phase setting r kind n → IsGround kind n
  by_kind Fight n firm = fight_goes n firm
  by_kind Float n firm = float_goes n firm
  by_kind Constraint n firm = constraint_goes n firm
  by_kind FightKept n firm = absurd firm
  by_kind Unsettled n firm = absurd firm
  by_kind Differs n firm = absurd firm
  by_kind Next n firm = absurd firm
  by_kind Apart n firm = absurd firm
  by_kind Enter n firm = absurd firm

pub firm_ground_goes_down : FirmGroundGoesDown
firm_ground_goes_down k phase setting cell whole_circuit at place fresh remaining compared cell_observed exposed known together drive rank x i originals whole_originals kind n p more own ground =
    let bits = step_bits k phase setting cell whole_circuit at place fresh remaining compared cell_observed exposed drive x i p ground.state ground.is in
    by_kind k phase setting cell whole_circuit at place fresh remaining compared cell_observed exposed known together drive rank x i originals whole_originals p more own ground.state ground.is bits.0 bits.1 bits.2
    kind n ground.firm
