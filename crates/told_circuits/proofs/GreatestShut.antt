-- The greatest set of nets that is shut and whose gates a table knows: nets at which something opens a set are taken out of the
-- plain nets until there is none.
use Rattle.std.proofs.Common.{◌≡◌, ℕ, ◌<◌, ◌+◌, ◌⊎◌, Bool, true, false, List, length, None, Option, Some, ap, arith, refl, subst, sym, ◌∙◌, inl, inr}
use Rattle.std.specs.Prelude.{◌↔◌, filter, slice_get, unwrap_or}
use Rattle.std.specs.List.{range_with_len}
use Rattle.std.proofs.lemmas.Option.{none-some, same_Some, slice_get_within}
use Rattle.known_nets.proofs.NetKinds.{is_plain_is, plain_is}
use Rattle.known_nets.proofs.ShutLaws.{has_number_is}
use Rattle.known_nets.specs.KnownTables.{HasFixedNets, HasGateBits}
use Rattle.told_circuits.proofs.Decisions.{IsDecided, as_decided, both_decided, decided_by, either_decided, listed, none_decided, not_decided, same_number, some_end, some_in}
use Rattle.told_circuits.proofs.Falling.{left_of, left_there, number_listed, until_done, without, without_fewer}
use Rattle.vrt_model.proofs.Filtered.{among_kept, filter_among}
use Rattle.vrt_model.specs.Known.{HasFixedBit, IsDriven, IsFixed, IsHeld, IsPlain, IsShut, is_plain_at}
use Rattle.vrt_model.specs.Lists.{Among, has_number}
use Rattle.vrt_model.specs.Path.{Joins}
use Rattle.vrt_model.specs.Reading.{IsReading, HasGivenBit, clock_bit, conducts, conducts_at, devices_of}
use Rattle.vrt_model.specs.declared.circuit.Circuit.{Circuit}
use Rattle.vrt_model.specs.declared.circuit.Device.{Device}
use Rattle.vrt_model.specs.declared.circuit.FlatNet.{FlatNet}
use Rattle.vrt_model.specs.declared.circuit.Hold.{Hold}
use Rattle.vrt_model.specs.declared.circuit.NetKind.{NetKind}
use Rattle.vrt_model.specs.declared.circuit.NetKind.TheVariants.{Supply, Clock, Input, Plain}
use Rattle.vrt_model.specs.declared.rules.Phase.{Phase}
use Rattle.vrt_model.specs.declared.whole.Whole.{Whole}
use Rattle.vrt_model.specs.declared.whole.WholePin.{WholePin}

-- ---- kinds of nets

pub plain_decided : (c : Circuit) (n : ℕ) → IsDecided (IsPlain c n)
plain_decided c n = decided_by (IsPlain c n) (is_plain_at c n) (plain_is c n, is_plain_is c n)

-- the plain nets
abbrev pub plain_nets : Circuit → List ℕ
plain_nets c = filter (is_plain_at c) (range_with_len 0 (length c.nets))

pub plain_listed : (c : Circuit) (n : ℕ) → Among (plain_nets c) n ↔ IsPlain c n
plain_listed c n = (
  λ m. plain_is c n (filter_among (is_plain_at c) (range_with_len 0 (length c.nets)) n m).1,
  λ p. among_kept (is_plain_at c) (range_with_len 0 (length c.nets)) n (number_listed (length c.nets) n (slice_get_within c.nets n p.0 p.1)) (is_plain_is c n p),
)

held_decided : (c : Circuit) (n : ℕ) → IsDecided (IsHeld c n)
held_decided c n = some_in (λ (hold : Hold). hold.net.0 ≡ n) (λ hold. same_number hold.net.0 n) c.holds

driven_decided : (c : Circuit) (n : ℕ) → IsDecided (IsDriven c n)
driven_decided c n =
    as_decided ((w : Whole) × Among c.wholes w × ((pin : WholePin) × Among w.outputs pin × (pin.net.0 ≡ n))) (IsDriven c n)
    (λ h. (h.0, h.2.0, h.1, h.2.1, h.2.2)) (λ h. (h.0, h.2, (h.1, h.3, h.4)))
    (some_in (λ (w : Whole). (pin : WholePin) × Among w.outputs pin × (pin.net.0 ≡ n))
    (λ w. some_in (λ (pin : WholePin). pin.net.0 ≡ n) (λ pin. same_number pin.net.0 n) w.outputs) c.wholes)

-- a net is a supply or a clock port, or it is neither
abbrev IsOneBit : Circuit → Phase → ℕ → Type 0
IsOneBit c phase n = (v : Bool) × IsFixed c phase n v

kind_decided : (phase : Phase) (kind : NetKind) → IsDecided ((v : Bool) × HasFixedBit phase kind v)
kind_decided phase (Supply value) = inl (value, refl)
kind_decided phase (Clock clock) = inl (clock_bit phase clock, refl)
kind_decided phase Input = inr (λ h. h.1)
kind_decided phase Plain = inr (λ h. h.1)

fixed_decided : (c : Circuit) (phase : Phase) (n : ℕ) → IsDecided (IsOneBit c phase n)
fixed_decided c phase n = by_entry (slice_get c.nets n) refl
  where
    by_entry : (o : Option FlatNet) → slice_get c.nets n ≡ o → IsDecided (IsOneBit c phase n)
    by_entry None e = inr (λ h. none-some h.1.0 (sym e ∙ h.1.1))
    by_entry (Some net) e =
        as_decided ((v : Bool) × HasFixedBit phase net.kind v) (IsOneBit c phase n)
        (λ h. (h.0, (net, e, h.1)))
        (λ h. (h.0, subst (λ (x : FlatNet). HasFixedBit phase x.kind h.0) (same_Some h.1.0 net (sym h.1.1 ∙ e)) h.1.2))
        (kind_decided phase net.kind)

-- ---- readings of tables

-- the known bits, and 0 at the other nets
abbrev pub bits_of : (ℕ → Option Bool) → ℕ → Bool
bits_of known n = unwrap_or (known n) false

pub bits_read : (c : Circuit) (phase : Phase) (known : ℕ → Option Bool) → HasFixedNets c phase known → IsReading c phase (bits_of known) (bits_of known)
bits_read c phase known has n net e = by_kind net.kind refl
  where
    bit : (v : Bool) → HasFixedBit phase net.kind v → bits_of known n ≡ v
    bit v f = ap (λ (o : Option Bool). unwrap_or o false) (has n v (net, e, f))

    by_kind : (kind : NetKind) → net.kind ≡ kind → HasGivenBit phase (bits_of known) kind n (bits_of known n)
    by_kind (Supply value) k = bit value (subst (λ (x : NetKind). HasFixedBit phase x value) (sym k) refl)
    by_kind (Clock clock) k = bit (clock_bit phase clock) (subst (λ (x : NetKind). HasFixedBit phase x (clock_bit phase clock)) (sym k) refl)
    by_kind Input k = refl
    by_kind Plain k = tt

known_bit : (known : ℕ → Option Bool) (n : ℕ) (v : Bool) → known n ≡ Some v → bits_of known n ≡ v
known_bit known n v e = ap (λ (o : Option Bool). unwrap_or o false) e

-- ---- the greatest shut set

module _ (c : Circuit) (phase : Phase) (known : ℕ → Option Bool) where
  -- a device opens each set at the net: its gate is not known, or it conducts to a net that is not in the list and has no fixed bit
  abbrev Opens : List ℕ → ℕ → Device → Type 0
  Opens xs n d =
      (m : ℕ) × Joins d n m
      × ((known d.gate.0 ≡ None) ⊎ ((conducts (bits_of known) d ≡ true) × ((¬ Among xs m) × (¬ IsOneBit c phase m))))

  -- something opens each set at the net
  abbrev IsOpened : List ℕ → ℕ → Type 0
  IsOpened xs n = (IsHeld c n ⊎ IsDriven c n) ⊎ ((d : Device) × Among (devices_of true c) d × Opens xs n d)

  conducts_decided : (d : Device) → IsDecided (conducts (bits_of known) d ≡ true)
  conducts_decided d = decided_by (conducts (bits_of known) d ≡ true) (conducts (bits_of known) d) (λ e. e, λ e. e)

  opens_decided : (xs : List ℕ) (n : ℕ) (d : Device) → IsDecided (Opens xs n d)
  opens_decided xs n d =
      some_end (λ m. (known d.gate.0 ≡ None) ⊎ ((conducts (bits_of known) d ≡ true) × ((¬ Among xs m) × (¬ IsOneBit c phase m))))
      (λ m. either_decided (known d.gate.0 ≡ None) ((conducts (bits_of known) d ≡ true) × ((¬ Among xs m) × (¬ IsOneBit c phase m)))
      (none_decided (known d.gate.0))
      (both_decided (conducts (bits_of known) d ≡ true) ((¬ Among xs m) × (¬ IsOneBit c phase m)) (conducts_decided d)
      (both_decided (¬ Among xs m) (¬ IsOneBit c phase m) (not_decided (Among xs m) (listed xs m)) (not_decided (IsOneBit c phase m) (fixed_decided c phase m)))))
      d n

  opened_decided : (xs : List ℕ) (n : ℕ) → IsDecided (IsOpened xs n)
  opened_decided xs n =
      either_decided (IsHeld c n ⊎ IsDriven c n) ((d : Device) × Among (devices_of true c) d × Opens xs n d)
      (either_decided (IsHeld c n) (IsDriven c n) (held_decided c n) (driven_decided c n))
      (some_in (Opens xs n) (opens_decided xs n) (devices_of true c))

  -- the list has plain nets alone, and each net of a shut set whose gates are known
  abbrev HasShutSets : List ℕ → Type 0
  HasShutSets xs =
      ((n : ℕ) → Among xs n → IsPlain c n)
      × ((inside r : ℕ → Bool) → IsShut c phase inside r → HasGateBits c known inside r → (n : ℕ) → inside n ≡ true → Among xs n)

  -- nothing opens it
  abbrev IsUnopened : List ℕ → Type 0
  IsUnopened xs = (n : ℕ) → Among xs n → ¬ IsOpened xs n

  -- a net at which something opens the list is in no such set
  in_no_set : (xs : List ℕ) → HasShutSets xs → (n : ℕ) → IsOpened xs n → (inside r : ℕ → Bool) → IsShut c phase inside r → HasGateBits c known inside r → inside n ≡ true → ⊥
  in_no_set xs has n opened inside r shut bits ins =
      elim opened [
        | inl root ↦ (let at = shut.plain n ins in elim root [ inl held ↦ at.1 held | inr driven ↦ at.2 driven ])
        | inr by ↦
            let d = by.0 in
            let m = by.2.0 in
            let gate = bits n m d ins by.1 by.2.1 in
            elim by.2.2 [
              | inl none ↦ none-some (r d.gate.0) (sym none ∙ gate)
              | inr on ↦
                  let there : conducts_at d.kind (r d.gate.0) ≡ true = subst (λ (b : Bool). conducts_at d.kind b ≡ true) (known_bit known d.gate.0 (r d.gate.0) gate) on.0 in
                  elim (shut.joined n m d ins by.1 by.2.1 there) [ inl inside_m ↦ on.1.0 (has.1 inside r shut bits m inside_m) | inr f ↦ on.1.1 f ]
            ]
      ]

  -- so it may be taken out
  taken_out : (xs : List ℕ) → HasShutSets xs → (n : ℕ) → IsOpened xs n → HasShutSets (without n xs)
  taken_out xs has n opened = (
    λ m there. has.0 m (left_of n xs m there).0,
    λ inside r shut bits m ins.
        left_there n xs m (has.1 inside r shut bits m ins) (λ e. in_no_set xs has n opened inside r shut bits (subst (λ (x : ℕ). inside x ≡ true) e ins)),
  )

  step : (xs : List ℕ) → HasShutSets xs → IsUnopened xs ⊎ ((ys : List ℕ) × HasShutSets ys × (length ys < length xs))
  step xs has =
      elim (some_in (IsOpened xs) (opened_decided xs) xs) [
        | inl h ↦ inr (without h.0 xs, taken_out xs has h.0 h.2, without_fewer h.0 xs h.1)
        | inr none ↦ inl (λ n there opened. none (n, there, opened))
      ]

  pub greatest : (xs : List ℕ) × HasShutSets xs × IsUnopened xs
  greatest =
      until_done (λ (xs : List ℕ). length xs) HasShutSets IsUnopened step (length (plain_nets c) + 1) (plain_nets c) (omega arith) (
        λ n m. (plain_listed c n).0 m,
        λ inside r shut bits n ins. (plain_listed c n).1 (shut.plain n ins).0,
      )

  -- where nothing opens a list of plain nets, it is shut and its gates are known
  pub unopened_gates : (xs : List ℕ) → IsUnopened xs → HasGateBits c known (has_number xs) (bits_of known)
  unopened_gates xs none n m d ins there j = by_entry (known d.gate.0) refl
    where
      by_entry : (o : Option Bool) → known d.gate.0 ≡ o → known d.gate.0 ≡ Some (bits_of known d.gate.0)
      by_entry None e = absurd (none n ((has_number_is xs n).0 ins) (inr (d, there, (m, j, inl e))))
      by_entry (Some v) e = e ∙ ap (λ (b : Bool). Some b) (sym (known_bit known d.gate.0 v e))

  pub unopened_shut : (xs : List ℕ) → HasShutSets xs → IsUnopened xs → IsShut c phase (has_number xs) (bits_of known)
  unopened_shut xs has none = record {
    plain = λ n ins.
        let there = (has_number_is xs n).0 ins in
        (has.0 n there, λ held. none n there (inl (inl held)), λ driven. none n there (inl (inr driven)));
    joined = λ n m d ins there j on.
        elim (listed xs m) [
          | inl in_list ↦ inl ((has_number_is xs m).1 in_list)
          | inr out ↦ elim (fixed_decided c phase m) [
            | inl f ↦ inr f
            | inr no_bit ↦ absurd (none n ((has_number_is xs n).0 ins) (inr (d, there, (m, j, inr (on, (out, no_bit))))))
          ]
        ];
  }
