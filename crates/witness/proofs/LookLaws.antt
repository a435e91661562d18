-- What a look at a net of a part finds is what the net shows.
use Rattle.std.proofs.Common.{◌≡◌, ℕ, Bool, true, false, cond, List, None, Option, Some, slice_get, ap, refl, sym, subst, ◌∙◌, inl, inr}
use Rattle.std.specs.Prelude.{is_none, option_map, unwrap_or}
use Rattle.std.proofs.lemmas.Bool.{cases_Bool, false≢true}
use Rattle.std.proofs.lemmas.Option.{none-some}
use Rattle.channel_parts.proofs.PhaseTableLaws.{some_there}
use Rattle.channel_parts.proofs.RankLaws.{together_back}
use Rattle.channel_parts.proofs.Labels.{together_further}
use Rattle.channel_parts.specs.PartLists.{IsPartOf, least_of, net_numbers}
use Rattle.channel_parts.specs.declared.part.Part.{Part}
use Rattle.known_nets.specs.KnownTables.{known_at}
use Rattle.vrt_model.proofs.Filtered.{device_among}
use Rattle.vrt_model.proofs.GatesGiven.{base_reading, plain_any}
use Rattle.vrt_model.proofs.Lists.{map_among, one_at}
use Rattle.vrt_model.proofs.Members.{among_any, among_map, any_among, at_none}
use Rattle.vrt_model.proofs.Ranked.{together_plain}
use Rattle.vrt_model.proofs.Tables.{signal_response}
use Rattle.vrt_model.specs.Circuits.{IsFlat}
use Rattle.vrt_model.specs.Constraints.{given_bit}
use Rattle.vrt_model.specs.Known.{IsInPart, IsTogether, itself as alone}
use Rattle.vrt_model.specs.Lists.{At, Among, bit_at}
use Rattle.vrt_model.specs.Reading.{HasGivenBit, IsReading, is_given}
use Rattle.vrt_model.specs.Response.{Fight as FightThere, Float as FloatThere, IsResponse, Response, Shows}
use Rattle.vrt_model.specs.Signals.{AreSignals, response_by}
use Rattle.vrt_model.specs.State.{IsState, OutputPin, Setting, State, network_of, output_pins}
use Rattle.vrt_model.specs.declared.circuit.Circuit.{Circuit}
use Rattle.vrt_model.specs.declared.circuit.Device.{Device}
use Rattle.vrt_model.specs.declared.ids.Dev.{Dev}
use Rattle.vrt_model.specs.declared.rules.Phase.{Phase}
use Rattle.vrt_model.specs.declared.whole.Whole.{Whole}
use Rattle.witness.proofs.PartResponses.{same_response}
use Rattle.witness.specs.Looks.{filled, is_stopped, is_stopped_at, look, seen_by}
use Rattle.witness.specs.declared.seen.Seen.TheVariants.{Blocked}
use Rattle.witness.specs.Replays.{HasGivenBits, HasKnownNets, HasSeen, IsBlocked, Responds}

-- ---- circuits without whole instances have no output pins

pub no_pin : (c : Circuit) → IsFlat c → (at : ℕ) (out : OutputPin) → At (output_pins c) at out → ⊥
no_pin c flat at out e = at_none at out (subst (λ (ws : List Whole). At (output_pins (record c { wholes = ws })) at out) flat.wholes e)

-- ---- the gates of devices

stopped_there : (c : Circuit) (bits : List (Option Bool)) (k : Dev) → is_stopped_at c bits k ≡ true → (d : Device) × At c.devices k.0 d × (known_at bits d.gate.0 ≡ None)
stopped_there c bits k t = found (slice_get c.devices k.0) refl t
  where
    none : (o : Option Bool) → is_none o ≡ true → o ≡ None
    none None e = refl
    none (Some v) e = absurd (false≢true e)

    found : (o : Option Device) → slice_get c.devices k.0 ≡ o → unwrap_or (option_map (λ (d : Device). is_none (known_at bits d.gate.0)) o) false ≡ true
        → (d : Device) × At c.devices k.0 d × (known_at bits d.gate.0 ≡ None)
    found None e t = absurd (false≢true t)
    found (Some d) e t = (d, e, none (known_at bits d.gate.0) t)

module _ (c : Circuit) (phase : Phase) (flat : IsFlat c) (setting : Setting) (which : Bool) (bits : List (Option Bool)) (given : HasGivenBits c phase setting.inputs (known_at bits))
    (known : HasKnownNets c phase (known_at bits)) where
  -- ---- the reading with the bits, and 0 where there is none

  pub filled_is : (m : ℕ) (v : Bool) → known_at bits m ≡ Some v → filled bits m ≡ v
  filled_is m v e = ap (λ (o : Option Bool). unwrap_or o false) e

  filled_reading : IsReading c phase setting.inputs (filled bits)
  filled_reading m net e =
      elim (cases_Bool (is_given net.kind)) [
        | inl g ↦ (
            let own = base_reading c phase setting.inputs m net e in
            subst (HasGivenBit phase setting.inputs net.kind m) (sym (filled_is m (given_bit c phase setting.inputs m) (given m net (given_bit c phase setting.inputs m) e g own))) own)
        | inr g ↦ plain_any phase setting.inputs net.kind m (filled bits m) g
      ]

  abbrev pub filled_state : (ℕ → Bool) → State
  filled_state driven = record { reading = filled bits; driven = driven }

  pub filled_state_is : (driven : ℕ → Bool) → IsState c phase setting.inputs (filled_state driven)
  filled_state_is driven = record { reading = filled_reading; driven = λ at out e. absurd (no_pin c flat at out e) }

  -- a part of which the net is one
  module _ (part : Part) (rank : ℕ → ℕ) (is : IsPartOf c phase which rank part) (n : ℕ) (there : Among (net_numbers part.nets) n) where
    pub linked : IsTogether c phase which (least_of part) n
    linked = (is.nets n).0 there

    to_part : (d : Device) → IsInPart c phase which n d → IsInPart c phase which (least_of part) d
    to_part d p = (p.0, p.1, together_further c phase which (least_of part) n p.0 linked p.2, p.3, p.4)

    from_part : (d : Device) → IsInPart c phase which (least_of part) d → IsInPart c phase which n d
    from_part d p = (p.0, p.1, together_further c phase which n (least_of part) p.0 (together_back c phase which (least_of part) n linked) p.2, p.3, p.4)

    pub blocked_is : is_stopped c bits part.devices ≡ true → IsBlocked c phase (known_at bits) which n
    blocked_is t =
        let some = any_among (is_stopped_at c bits) part.devices t in
        let d = stopped_there c bits some.0 some.2 in
        let own = (is.devices some.0.0).0 (map_among (λ (k : Dev). k.0) part.devices some.0 some.1) in
        (d.0, subst (IsInPart c phase which n) (one_at c.devices some.0.0 own.0 d.0 own.1 d.1) (from_part own.0 own.2), d.2)

    gate_there : is_stopped c bits part.devices ≡ false → (d : Device) → IsInPart c phase which n d → (v : Bool) × (known_at bits d.gate.0 ≡ Some v)
    gate_there f d p =
        let place = (device_among which c d p.3.0).0 in
        let from = among_map (λ (k : Dev). k.0) part.devices place.0 ((is.devices place.0).1 (d, place.1, to_part d p)) in
        elim (cases_Bool (is_none (known_at bits d.gate.0))) [
          | inl none ↦ (
              let here : At c.devices from.0.0 d = subst (λ (x : ℕ). At c.devices x d) (sym from.2) place.1 in
              let stopped : is_stopped_at c bits from.0 ≡ true = ap (λ (o : Option Device). unwrap_or (option_map (λ (x : Device). is_none (known_at bits x.gate.0)) o) false) here ∙ none in
              absurd (false≢true (sym f ∙ among_any (is_stopped_at c bits) part.devices from.0 from.1 stopped)))
          | inr some ↦ some_there (known_at bits d.gate.0) some
        ]

    responds : (driven : ℕ → Bool) → is_stopped c bits part.devices ≡ false → (r : Response) → IsResponse (network_of c which setting.held (filled_state driven)) n r
        → Responds c phase setting (known_at bits) which n r
    responds driven f r h s state has =
        same_response c phase flat setting which n (filled_state driven) s (filled_state_is driven) state (λ d m v k. filled_is d.gate.0 v (known d.gate.0 v k)) (λ d m v k. has d.gate.0 v (known d.gate.0 v k))
        (λ d p. let bit = gate_there f d p in filled_is d.gate.0 bit.0 bit.1 ∙ sym (has d.gate.0 bit.0 bit.1))
        n r (alone (together_plain c phase which (least_of part) n linked)) h

    open_is : is_stopped c bits part.devices ≡ false → ¬ IsBlocked c phase (known_at bits) which n
    open_is f b = let bit = gate_there f b.0 b.1 in none-some bit.0 (sym b.2 ∙ bit.1)

    pub seen_is : (driven : ℕ → Bool) → is_stopped c bits part.devices ≡ false → (zero one : Bool)
        → IsResponse (network_of c which setting.held (filled_state driven)) n (response_by zero one) → HasSeen c phase setting (known_at bits) which n (seen_by zero one)
    seen_is driven f true true h = (open_is f, responds driven f FightThere h)
    seen_is driven f true false h = (open_is f, responds driven f (Shows false) h)
    seen_is driven f false true h = (open_is f, responds driven f (Shows true) h)
    seen_is driven f false false h = (open_is f, responds driven f FloatThere h)

    pub look_is : (driven : ℕ → Bool) (t : List ℕ) (zeros ones : List Bool) → AreSignals (network_of c which setting.held (filled_state driven)) t zeros ones
        → HasSeen c phase setting (known_at bits) which n (look c bits part.devices zeros ones n)
    look_is driven t zeros ones signals = pick (is_stopped c bits part.devices) refl
      where
        pick : (b : Bool) → is_stopped c bits part.devices ≡ b → HasSeen c phase setting (known_at bits) which n (cond b Blocked (seen_by (bit_at zeros n) (bit_at ones n)))
        pick true e = blocked_is e
        pick false e = seen_is driven e (bit_at zeros n) (bit_at ones n) (signal_response (network_of c which setting.held (filled_state driven)) t zeros ones signals n)
