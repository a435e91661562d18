-- The bits that determined whole instances give their output pins, and on which nets they depend.
use Rattle.std.proofs.Common.{◌≡◌, ℕ, Bool, true, false, Option, Some, None, slice_get, ap, subst, sym, refl, ◌∙◌, inl, inr}
use Rattle.std.proofs.lemmas.Option.{none-some, same_Some}
use Rattle.channel_parts.specs.OneSolution.{AreDetermined, HasDrives, HasKnownBits, SameBelow}
use Rattle.known_nets.proofs.WiredLaws.{pin_of_whole}
use Rattle.vrt_model.specs.Determined.{IsLinkedTo}
use Rattle.vrt_model.specs.Known.{HasWholeArc, IsRanking, IsTogether}
use Rattle.vrt_model.specs.Lists.{Among, At}
use Rattle.vrt_model.specs.State.{ModelGives, OutputPin, output_pins}
use Rattle.vrt_model.specs.declared.circuit.Circuit.{Circuit}
use Rattle.vrt_model.specs.declared.ids.Net.{Net}
use Rattle.vrt_model.specs.declared.rules.Phase.{Phase}
use Rattle.vrt_model.specs.declared.whole.WholePin.{WholePin}

-- two bits that are not different are the same
pub same_bits : (u v : Bool) → ((u ≡ v → ⊥) → ⊥) → u ≡ v
same_bits true true h = refl
same_bits true false h = absurd (h (λ e. cc))
same_bits false true h = absurd (h (λ e. cc))
same_bits false false h = refl

module _ (c : Circuit) (phase : Phase) (observed : ℕ → Bool) (determined : AreDetermined c phase observed) where
  -- the bit of an output pin at a reading
  bit_of : (r : ℕ → Bool) (at : ℕ) (o : Option OutputPin) → slice_get (output_pins c) at ≡ o → Bool
  bit_of r at None e = false
  bit_of r at (Some out) e = ((determined out.whole (pin_of_whole c out (at, e)).0).assigned r).0.signal out.pin.signal

  gives_bit : (r : ℕ → Bool) (at : ℕ) (out : OutputPin) (o : Option OutputPin) (e : slice_get (output_pins c) at ≡ o) → o ≡ Some out → ModelGives phase out r (bit_of r at o e)
  unfolding bit_of
  gives_bit r at out None e is = absurd (none-some out is)
  gives_bit r at out (Some other) e is =
      let g = (determined other.whole (pin_of_whole c other (at, e)).0).assigned r in
      subst (λ (x : OutputPin). ModelGives phase x r (g.0.signal other.pin.signal)) (same_Some other out is) (g.0, g.1, refl)

  pub driven_by : (ℕ → Bool) → ℕ → Bool
  driven_by r at = bit_of r at (slice_get (output_pins c) at) refl

  pub driven_gives : (r : ℕ → Bool) (at : ℕ) (out : OutputPin) → At (output_pins c) at out → ModelGives phase out r (driven_by r at)
  unfolding driven_by
  driven_gives r at out e = gives_bit r at out (slice_get (output_pins c) at) refl e

  -- two readings that are the same at the observed inputs that are linked to a pin give it the same bit
  pub gives_same : (r q : ℕ → Bool) (out : OutputPin) (u v : Bool) (m : Among (output_pins c) out) → ModelGives phase out r u → ModelGives phase out q v
      → ((input : WholePin) → Among out.whole.inputs input → IsLinkedTo phase out.whole input (pin_of_whole c out m).1.0 → observed input.net.0 ≡ true → r input.net.0 ≡ q input.net.0) → u ≡ v
  gives_same r q out u v m g h same =
      let from = pin_of_whole c out m in
      sym g.2 ∙ (determined out.whole from.0).linked from.1.0 out.pin r q g.0 h.0 from.1.1 g.1 h.1 same ∙ h.2

  module _ (inputs : ℕ → Bool) (rank : ℕ → ℕ) (ranks : IsRanking c phase rank) where
    -- an observed input that is linked to a pin is known, or of lower rank than the part of the pin
    linked_same : (n : ℕ) (r q : ℕ → Bool) → HasKnownBits c phase inputs observed r → HasKnownBits c phase inputs observed q → SameBelow observed rank n r q
        → (out : OutputPin) (m : Among (output_pins c) out) → IsTogether c phase true n out.pin.net.0
        → (input : WholePin) → IsLinkedTo phase out.whole input (pin_of_whole c out m).1.0 → observed input.net.0 ≡ true → r input.net.0 ≡ q input.net.0
    linked_same n r q okr okq same out m t input linked seen =
        let from = pin_of_whole c out m in
        let net : linked.0.from.0 ≡ input.net.0 = ap (λ (x : Net). x.0) linked.3 in
        let there : At out.whole.outputs linked.0.output out.pin = subst (λ (i : ℕ). At out.whole.outputs i out.pin) (sym linked.4) from.1.1 in
        let arc : HasWholeArc c phase input.net.0 n = (out.whole, linked.0, (from.0, linked.1, linked.2, net, (out.pin, there, t))) in
        same_bits (r input.net.0) (q input.net.0)
        (λ apart. apart (same input.net.0 seen (ranks.above input.net.0 n
        (inl (inr arc, λ v k. apart (okr.1 input.net.0 v seen k ∙ sym (okq.1 input.net.0 v seen k)))))))

    drives : HasDrives c phase inputs observed rank driven_by
    drives = record {
      gives = λ r is at out e. driven_gives r at out e;
      one = λ s is at out e. gives_same s.reading s.reading out (s.driven at) (driven_by s.reading at) (at, e) (is.driven at out e) (driven_gives s.reading at out e) (λ input m linked seen. refl);
      plain = λ at out e. let from = pin_of_whole c out (at, e) in (determined out.whole from.0).plain out.pin from.1;
      below = λ n r q okr okq same at out e t.
          gives_same r q out (driven_by r at) (driven_by q at) (at, e) (driven_gives r at out e) (driven_gives q at out e)
          (λ input m linked seen. linked_same n r q okr okq same out (at, e) t input linked seen);
    }

-- so the bit of each output pin depends on observed nets of lower rank alone
pub determined_drives : (c : Circuit) (phase : Phase) (inputs observed : ℕ → Bool) (rank : ℕ → ℕ) → AreDetermined c phase observed → IsRanking c phase rank
    → (driven : (ℕ → Bool) → ℕ → Bool) × HasDrives c phase inputs observed rank driven
determined_drives c phase inputs observed rank determined ranks = (driven_by c phase observed determined, drives c phase observed determined inputs rank ranks)
