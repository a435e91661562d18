-- The plain nets of at most a rank are a region.
use Rattle.std.proofs.Common.{◌≡◌, ℕ, ◌<◌, ◌≤◌, ◌⊎◌, ◌&&◌, ◌||◌, Bool, true, false, length, leb, ltb, arith, ap, subst, sym, refl, ◌∙◌, inl, inr}
use Rattle.std.proofs.lemmas.Bool.{and_from, and_parts, cases_Bool, false≢true, le-leb, leb-true, lt-ltb, ltb-true, or_cases, or_left, or_right}
use Rattle.cell_inside.proofs.NetKinds.{is_plain_is, plain_is}
use Rattle.cell_inside.specs.Regions.{HasBits}
use Rattle.fault_places.proofs.PartRanks.{same_rank}
use Rattle.known_nets.proofs.NetKinds.{given_or_plain}
use Rattle.known_nets.proofs.WiredLaws.{pin_of_whole}
use Rattle.vrt_model.proofs.Filtered.{device_among}
use Rattle.vrt_model.proofs.GatesGiven.{IsGiven, given_once}
use Rattle.vrt_model.proofs.Laws.{turned}
use Rattle.vrt_model.proofs.Members.{all_among}
use Rattle.vrt_model.specs.Circuits.{IsDevice}
use Rattle.vrt_model.specs.Determined.{IsLinkedTo}
use Rattle.vrt_model.specs.Known.{IsChannel, IsKnown, IsPlain, IsUnknown, is_plain_at, itself, onward}
use Rattle.vrt_model.specs.Lists.{Among, At}
use Rattle.vrt_model.specs.Path.{Joins}
use Rattle.vrt_model.specs.Reading.{conducts, conducts_at, devices_of}
use Rattle.vrt_model.specs.State.{IsState, OutputPin, Setting, State, output_pins}
use Rattle.vrt_model.specs.declared.circuit.Circuit.{Circuit}
use Rattle.vrt_model.specs.declared.circuit.Device.{Device}
use Rattle.vrt_model.specs.declared.ids.Net.{Net}
use Rattle.vrt_model.specs.declared.rules.Phase.{Phase}
use Rattle.vrt_model.specs.declared.whole.WholePin.{WholePin}
use Rattle.whole_solutions.specs.Ranked.{IsRanked, RanksGiveRegions, known_or_lower, up_to}

-- in two readings a given net has the same bit
pub same_given : (c : Circuit) (phase : Phase) (inputs : ℕ → Bool) (s t : State) → IsState c phase inputs s → IsState c phase inputs t → (n : ℕ) → IsGiven c n → s.reading n ≡ t.reading n
same_given c phase inputs s t is it n g = given_once phase inputs g.0.kind n (s.reading n) (t.reading n) g.2 (is.reading n g.0 g.1) (it.reading n g.0 g.1)

module _ (c : Circuit) (phase : Phase) (setting : Setting) (observed known : ℕ → Bool) (rank : ℕ → ℕ) (p : IsRanked c phase observed known rank) where
  unknown : (n : ℕ) → known n ≡ false → IsUnknown c phase n
  unknown n f v k = false≢true (sym f ∙ (p.tested n).1 (v, k))

  -- a net of a region is plain, and not above its rank
  pub region_net : (most n : ℕ) → up_to c rank most n ≡ true → IsPlain c n × (rank n ≤ most)
  region_net most n ins = let both = and_parts (is_plain_at c n) (leb (rank n) most) ins in (plain_is c n both.0, leb-true (rank n) most both.1)

  pub net_in_region : (most n : ℕ) → IsPlain c n → rank n ≤ most → up_to c rank most n ≡ true
  net_in_region most n plain le = and_from (is_plain_at c n) (leb (rank n) most) (is_plain_is c n plain) (le-leb (rank n) most le)

  -- what is in a base
  pub in_base : (most n : ℕ) → observed n ≡ true → (known n ≡ true) ⊎ (IsPlain c n × (rank n < most)) → known_or_lower c observed known rank most n ≡ true
  in_base most n seen h =
      and_from (observed n) (known n || (is_plain_at c n && ltb (rank n) most)) seen (elim h [
        | inl k ↦ or_left (known n) (is_plain_at c n && ltb (rank n) most) k
        | inr low ↦ or_right (known n) (is_plain_at c n && ltb (rank n) most) (and_from (is_plain_at c n) (ltb (rank n) most) (is_plain_is c n low.0) (lt-ltb (rank n) most low.1))
      ])

  base_net : (most n : ℕ) → known_or_lower c observed known rank most n ≡ true → (observed n ≡ true) × ((known n ≡ true) ⊎ (IsPlain c n × (rank n < most)))
  base_net most n b =
      let both = and_parts (observed n) (known n || (is_plain_at c n && ltb (rank n) most)) b in (
        both.0,
        elim (or_cases (known n) (is_plain_at c n && ltb (rank n) most) both.1) [
          | inl k ↦ inl k
          | inr low ↦ (let q = and_parts (is_plain_at c n) (ltb (rank n) most) low in inr (plain_is c n q.0, ltb-true (rank n) most q.1))
        ],
      )

  -- an observed net is in the base, or it is given, if it is of lower rank wherever it is not known
  pub seen_in_base : (most n : ℕ) → observed n ≡ true → (IsUnknown c phase n → rank n < most) → (known_or_lower c observed known rank most n ≡ true) ⊎ IsGiven c n
  seen_in_base most n seen low =
      elim (cases_Bool (known n)) [
        | inl k ↦ inl (in_base most n seen (inl k))
        | inr f ↦ elim (given_or_plain c n (p.nets n seen)) [ inl g ↦ inr g | inr plain ↦ inl (in_base most n seen (inr (plain, low (unknown n f)))) ]
      ]

  -- an unknown gate at a net has a lower rank
  gate_below : (n m : ℕ) (d : Device) → IsPlain c n → Among (devices_of true c) d → Joins d m n → IsUnknown c phase d.gate.0 → rank d.gate.0 < rank n
  gate_below n m d plain a j free =
      p.ranking.above d.gate.0 n (inl (inl (d, (n, m, itself plain, (a, λ v k. absurd (free v k)), turned d m n j), refl, free), free))

  gate_in : (most n m : ℕ) (d : Device) → up_to c rank most n ≡ true → Among (devices_of true c) d → Joins d m n → (known_or_lower c observed known rank most d.gate.0 ≡ true) ⊎ IsGiven c d.gate.0
  gate_in most n m d ins a j =
      let at = region_net most n ins in
      seen_in_base most d.gate.0 (p.gates d a) (λ free. let lt = gate_below n m d at.0 a j free in let le = at.1 in omega (arith, lt, le))

  module _ (bits : ℕ → Bool) (known_bits : (n : ℕ) (v : Bool) → observed n ≡ true → IsKnown c phase n v → bits n ≡ v) where
    joined_in : (most n m : ℕ) (d : Device) (s : State) → up_to c rank most n ≡ true → Among (devices_of true c) d → Joins d m n → IsState c phase setting.inputs s
        → HasBits (known_or_lower c observed known rank most) bits s → conducts s.reading d ≡ true → (up_to c rank most m ≡ true) ⊎ IsGiven c m
    joined_in most n m d s ins a j is has on =
        elim (given_or_plain c m within) [
          | inl g ↦ inr g
          | inr plain ↦
              let same = same_rank c phase rank p.ranking n m (onward d (itself at.0) channel (turned d m n j) plain) in
              inl (net_in_region most m plain (let le = at.1 in omega (arith, same, le)))
        ]
      where
        at : IsPlain c n × (rank n ≤ most)
        at = region_net most n ins

        fits : IsDevice c d
        fits = all_among (IsDevice c) c.devices d p.ranges.devices (device_among true c d a).0

        within : m < length c.nets
        within = elim j [ inl e ↦ subst (λ (x : ℕ). x < length c.nets) e.0 fits.left | inr e ↦ subst (λ (x : ℕ). x < length c.nets) e.1 fits.right ]

        bit : (v : Bool) → IsKnown c phase d.gate.0 v → s.reading d.gate.0 ≡ v
        bit v k = has d.gate.0 (in_base most d.gate.0 (p.gates d a) (inl ((p.tested d.gate.0).1 (v, k)))) ∙ known_bits d.gate.0 v (p.gates d a) k

        channel : IsChannel c phase true d
        channel = (a, λ v k. subst (λ (b : Bool). conducts_at d.kind b ≡ true) (bit v k) on)

    driven_alike : (most : ℕ) (s t : State) → IsState c phase setting.inputs s → IsState c phase setting.inputs t
        → HasBits (known_or_lower c observed known rank most) bits s → HasBits (known_or_lower c observed known rank most) bits t
        → (at : ℕ) (out : OutputPin) → At (output_pins c) at out → up_to c rank most out.pin.net.0 ≡ true → s.driven at ≡ t.driven at
    driven_alike most s t is it hs ht at out e ins =
        let one = is.driven at out e in
        let two = it.driven at out e in
        sym one.2 ∙ ((p.wholes out.whole from.0).linked from.1.0 out.pin s.reading t.reading one.0 two.0 from.1.1 one.1 two.1 alike ∙ two.2)
      where
        from : Among c.wholes out.whole × Among out.whole.outputs out.pin
        from = pin_of_whole c out (at, e)

        -- an input that is linked to the output and not known has a lower rank
        input_below : (input : WholePin) → IsLinkedTo phase out.whole input from.1.0 → IsUnknown c phase input.net.0 → rank input.net.0 < most
        input_below input link free =
            let net = region_net most out.pin.net.0 ins in
            let lt = p.ranking.above input.net.0 out.pin.net.0 (inl (
              inr (
                out.whole,
                link.0,
                (
                  from.0,
                  link.1,
                  link.2,
                  ap (λ (n : Net). n.0) link.3,
                  (out.pin, subst (λ (i : ℕ). At out.whole.outputs i out.pin) (sym link.4) from.1.1, itself net.0),
                ),
              ),
              free,
            )) in
            let le = net.1 in
            omega (arith, lt, le)

        alike : (input : WholePin) → Among out.whole.inputs input → IsLinkedTo phase out.whole input from.1.0 → observed input.net.0 ≡ true → s.reading input.net.0 ≡ t.reading input.net.0
        alike input m link seen =
            elim (seen_in_base most input.net.0 seen (input_below input link)) [
              | inl b ↦ hs input.net.0 b ∙ sym (ht input.net.0 b)
              | inr g ↦ same_given c phase setting.inputs s t is it input.net.0 g
            ]

pub ranks_give_regions : RanksGiveRegions
ranks_give_regions c phase setting observed known rank bits p known_bits = record {
  each = λ most. record {
    plain = λ n ins. (region_net c phase setting observed known rank p most n ins).0;
    gates = λ n m d ins a j. gate_in c phase setting observed known rank p most n m d ins a j;
    bounded = λ n m d s ins a j is has on. joined_in c phase setting observed known rank p bits known_bits most n m d s ins a j is has on;
    pins = λ s t is it hs ht at out e ins. driven_alike c phase setting observed known rank p bits known_bits most s t is it hs ht at out e ins;
  };
  below = λ most n b.
      let at = base_net c phase setting observed known rank p most n b in (
        at.0,
        elim at.1 [
          | inl k ↦ inl k
          | inr low ↦ inr (rank n, low.1, net_in_region c phase setting observed known rank p (rank n) n low.0 (omega arith))
        ],
      );
}
