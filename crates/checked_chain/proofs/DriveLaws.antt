-- One more instance is whole: devices go, outputs come, and what meets gates alone still does.
use Rattle.std.proofs.Common.{◌≡◌, ℕ, zero, suc, ◌<◌, ◌&&◌, ◌||◌, ◌⊎◌, Bool, true, false, not, cond, List, [], ◌∷◌, map, arith, subst, sym, refl, ◌∙◌, ap, inl, inr}
use Rattle.std.specs.Prelude.{nat_lt, ◌==◌}
use Rattle.std.specs.List.{enumerate_from}
use Rattle.std.proofs.lemmas.Bool.{and_from, and_left, and_parts, cases_Bool, cases_lt, false_from_ne_true, false≢true, not-true, or_from, or_parts}
use Rattle.std.proofs.lemmas.Bool.Decides.{nat_tests}
use Rattle.checked_chain.proofs.ChoiceLaws.{numbered_at}
use Rattle.checked_chain.specs.Drives.{DrivesStay, StandsForDevices}
use Rattle.vrt_model.proofs.Filtered.{among_kept, filter_among}
use Rattle.vrt_model.proofs.Lists.{one_at}
use Rattle.vrt_model.proofs.Members.{among_any, among_flat_map, among_map, any_among, at_none, flat_map_among}
use Rattle.vrt_model.proofs.Tests.{same_tests}
use Rattle.vrt_model.specs.Checked.{before}
use Rattle.vrt_model.specs.CheckedParts.{checked_devices}
use Rattle.vrt_model.specs.Comparison.{cell_at}
use Rattle.vrt_model.specs.Cut.{Cut, NumberedPlace, is_inside, is_inside_whole, is_left_out, is_whole, numbered_places, shown, whole_places}
use Rattle.vrt_model.specs.FlatCircuit.{flat_device}
use Rattle.vrt_model.specs.Lists.{Among, At, is_empty}
use Rattle.vrt_model.specs.PairedPorts.{Paired, Model, Skipped, Missing, paired_model}
use Rattle.vrt_model.specs.Unrolled.{Top}
use Rattle.vrt_model.specs.Unsupported.{comparison_of}
use Rattle.vrt_model.specs.WholeInstances.{OutputAt, all_outputs, channels_at, driven_pins, meets_gates_only, others_at, outputs_of_place}
use Rattle.vrt_model.specs.declared.blif.Blif.{Blif}
use Rattle.vrt_model.specs.declared.circuit.Device.{Device}
use Rattle.vrt_model.specs.declared.whole.CellFacts.{CellFacts}
use Rattle.vrt_model.specs.declared.whole.Drive.TheVariants.{Soft}
use Rattle.vrt_model.specs.declared.whole.WholePin.{WholePin}

-- ---- lists

pub nothing_in : {X : Type 0} (xs : List X) (x : X) → is_empty xs ≡ true → Among xs x → ⊥
nothing_in [] x e m = at_none m.0 x m.1
nothing_in (y ∷ ys) x e m = false≢true e

pub is_nothing : {X : Type 0} (xs : List X) → ((x : X) → Among xs x → ⊥) → is_empty xs ≡ true
is_nothing [] h = refl
is_nothing (x ∷ xs) h = absurd (h x (0, refl))

-- ---- the number of an output's instance

abbrev outputs_by : Top → Blif → List CellFacts → NumberedPlace → Paired → List OutputAt
outputs_by t blif facts p paired =
    elim paired [
      | Model m ↦
          map (λ (q : ℕ × WholePin). let one : OutputAt = record { instance = p.number; output = q.0; pin = q.1 } in one)
          (enumerate_from 0 (driven_pins facts (comparison_of t.design blif t.rules p.at.cell m) p.at))
      | _ ↦ []
    ]

instance_by : (t : Top) (blif : Blif) (facts : List CellFacts) (p : NumberedPlace) (paired : Paired) (o : OutputAt) → Among (outputs_by t blif facts p paired) o → o.instance ≡ p.number
instance_by t blif facts p (Model m) o among =
    let from = among_map (λ (q : ℕ × WholePin). let one : OutputAt = record { instance = p.number; output = q.0; pin = q.1 } in one) (enumerate_from 0 (driven_pins facts (comparison_of t.design blif t.rules p.at.cell m) p.at)) o among in
    sym (ap (λ (x : OutputAt). x.instance) from.2)
instance_by t blif facts p Skipped o among = absurd (at_none among.0 o among.1)
instance_by t blif facts p Missing o among = absurd (at_none among.0 o among.1)

module _ (cut : Cut) (blif : Blif) (facts : List CellFacts) (i : ℕ) (p : NumberedPlace) (here : At (numbered_places cut.top) (suc i) p) (chosen : cut.choice i ≡ true) where
  abbrev earlier : Cut
  earlier = before cut i

  abbrev later : Cut
  later = before cut (suc i)

  -- ---- what is whole

  pub whole_more : (n : ℕ) → is_whole earlier.choice n ≡ true → is_whole later.choice n ≡ true
  whole_more zero e = e
  whole_more (suc k) e =
      let both = and_parts (cut.choice k) (nat_lt k i) e in
      let low = both.1 in
      let more : nat_lt k (suc i) ≡ true = grind (arith, nat_tests, low) in
      and_from (cut.choice k) (nat_lt k (suc i)) both.0 more

  -- a whole one is before the instance that comes in
  whole_low : (n : ℕ) → is_whole earlier.choice n ≡ true → n < suc i
  whole_low zero e = omega arith
  whole_low (suc k) e = let low = (and_parts (cut.choice k) (nat_lt k i) e).1 in let lt : k < i = grind (arith, nat_tests, low) in omega (arith, lt)

  pub whole_or_last : (n : ℕ) → is_whole later.choice n ≡ true → (is_whole earlier.choice n ≡ true) ⊎ (n ≡ suc i)
  whole_or_last zero e = absurd (false≢true e)
  whole_or_last (suc k) e =
      let both = and_parts (cut.choice k) (nat_lt k (suc i)) e in
      elim (cases_lt k i) [
        | inl lt ↦ inl (and_from (cut.choice k) (nat_lt k i) both.0 (grind (arith, nat_tests, lt)))
        | inr ge ↦ inr (let low = both.1 in let lt : k < suc i = grind (arith, nat_tests, low) in omega (arith, lt, ge))
      ]

  pub places_more : (q : NumberedPlace) → Among (whole_places earlier) q → Among (whole_places later) q
  places_more q m =
      let h = filter_among (λ (o : NumberedPlace). is_whole earlier.choice o.number) (numbered_places cut.top) q m in
      among_kept (λ (o : NumberedPlace). is_whole later.choice o.number) (numbered_places cut.top) q h.0 (whole_more q.number h.1)

  pub outputs_more : (o : OutputAt) → Among (all_outputs earlier blif facts) o → Among (all_outputs later blif facts) o
  outputs_more o m =
      let h = among_flat_map (outputs_of_place cut.top blif facts) (whole_places earlier) o m in
      flat_map_among (outputs_of_place cut.top blif facts) (whole_places later) h.0 o (places_more h.0 h.1) h.2

  pub outputs_or_last : (o : OutputAt) → Among (all_outputs later blif facts) o → Among (all_outputs earlier blif facts) o ⊎ Among (outputs_of_place cut.top blif facts p) o
  outputs_or_last o m =
      let h = among_flat_map (outputs_of_place cut.top blif facts) (whole_places later) o m in
      let q = filter_among (λ (x : NumberedPlace). is_whole later.choice x.number) (numbered_places cut.top) h.0 h.1 in
      elim (whole_or_last h.0.number q.1) [
        | inl w ↦ inl (flat_map_among (outputs_of_place cut.top blif facts) (whole_places earlier) h.0 o (among_kept (λ (x : NumberedPlace). is_whole earlier.choice x.number) (numbered_places cut.top) h.0 q.0 w) h.2)
        | inr e ↦ inr (
            let number = numbered_at cut.top q.0.0 h.0 q.0.1 in
            let same = one_at (numbered_places cut.top) (suc i) h.0 p (subst (λ (n : ℕ). At (numbered_places cut.top) n h.0) (sym number.0 ∙ e) q.0.1) here in
            subst (λ (x : NumberedPlace). Among (outputs_of_place cut.top blif facts x) o) same h.2)
      ]

  pub last_there : (o : OutputAt) → Among (outputs_of_place cut.top blif facts p) o → Among (all_outputs later blif facts) o
  last_there o m =
      let number = (numbered_at cut.top (suc i) p here).0 in
      let low : nat_lt i (suc i) ≡ true = grind (arith, nat_tests) in
      let whole : is_whole later.choice p.number ≡ true = subst (λ (n : ℕ). is_whole later.choice n ≡ true) (sym number) (and_from (cut.choice i) (nat_lt i (suc i)) chosen low) in
      flat_map_among (outputs_of_place cut.top blif facts) (whole_places later) p o (among_kept (λ (x : NumberedPlace). is_whole later.choice x.number) (numbered_places cut.top) p (suc i, here) whole) m

  -- an output of the last one is none of the others
  pub other_instance : (o one : OutputAt) → Among (outputs_of_place cut.top blif facts p) o → Among (all_outputs earlier blif facts) one → (o.instance == one.instance) ≡ false
  other_instance o one m n =
      let number = (numbered_at cut.top (suc i) p here).0 in
      let mine = instance_by cut.top blif facts p (paired_model cut.top.design blif cut.top.rules p.at.cell) o m in
      let h = among_flat_map (outputs_of_place cut.top blif facts) (whole_places earlier) one n in
      let theirs = instance_by cut.top blif facts h.0 (paired_model cut.top.design blif cut.top.rules h.0.at.cell) one h.2 in
      let low = whole_low h.0.number (filter_among (λ (x : NumberedPlace). is_whole earlier.choice x.number) (numbered_places cut.top) h.0 h.1).1 in
      apart o.instance one.instance (λ e. omega (arith, number, mine, theirs, low, e))
    where
      apart : (n m : ℕ) → (n ≡ m → ⊥) → (n == m) ≡ false
      apart n m ne = grind (arith, nat_tests, ne)

  -- ---- what is shown

  pub shown_less : (q : NumberedPlace) → is_left_out later q ≡ false → is_left_out earlier q ≡ false
  shown_less q e =
      let parts = or_parts (is_whole later.choice q.number) (is_inside_whole later q.at) e in
      or_from (is_whole earlier.choice q.number) (is_inside_whole earlier q.at)
      (false_from_ne_true (is_whole earlier.choice q.number) (λ w. false≢true (sym parts.0 ∙ whole_more q.number w)))
      (false_from_ne_true (is_inside_whole earlier q.at) (λ w.
      let h = any_among (λ (o : NumberedPlace). is_whole earlier.choice o.number && is_inside q.at o.at) (numbered_places cut.top) w in
      let both = and_parts (is_whole earlier.choice h.0.number) (is_inside q.at h.0.at) h.2 in
      false≢true (sym parts.1 ∙ among_any (λ (o : NumberedPlace). is_whole later.choice o.number && is_inside q.at o.at) (numbered_places cut.top) h.0 h.1
      (and_from (is_whole later.choice h.0.number) (is_inside q.at h.0.at) (whole_more h.0.number both.0) both.1))))

  abbrev cards : NumberedPlace → List Device
  cards q = map (flat_device cut.top q.at) (cell_at cut.top.design q.at.cell).devices

  pub devices_less : (d : Device) → Among (checked_devices later) d → Among (checked_devices earlier) d
  devices_less d m =
      let h = among_flat_map cards (shown later) d m in
      let q = filter_among (λ x. not (is_left_out later x)) (numbered_places cut.top) h.0 h.1 in
      flat_map_among cards (shown earlier) h.0 d
      (among_kept (λ x. not (is_left_out earlier x)) (numbered_places cut.top) h.0 q.0 (ap not (shown_less h.0 (not-true (is_left_out later h.0) q.1)))) h.2

  -- ---- what meets gates alone

  module _ (stands : StandsForDevices cut blif facts i p) (one : OutputAt) (there : Among (all_outputs earlier blif facts) one) where
    abbrev at_net : Device → Bool
    at_net d = (d.left.0 == one.pin.net.0) || (d.right.0 == one.pin.net.0)

    abbrev other : OutputAt → Bool
    other o = (o.pin.net.0 == one.pin.net.0) && not ((o.instance == one.instance) && (o.output == one.output))

    alone_later : meets_gates_only (checked_devices earlier) (all_outputs earlier blif facts) one ≡ true → meets_gates_only (checked_devices later) (all_outputs later blif facts) one ≡ true
    alone_later e =
        let parts = and_parts (is_empty (channels_at (checked_devices earlier) one.pin.net.0)) (is_empty (others_at (all_outputs earlier blif facts) one)) e in
        and_from (is_empty (channels_at (checked_devices later) one.pin.net.0)) (is_empty (others_at (all_outputs later blif facts) one))
        (is_nothing (channels_at (checked_devices later) one.pin.net.0) (λ d m.
        let h = filter_among at_net (checked_devices later) d m in
        nothing_in (channels_at (checked_devices earlier) one.pin.net.0) d parts.0 (among_kept at_net (checked_devices earlier) d (devices_less d h.0) h.1)))
        (is_nothing (others_at (all_outputs later blif facts) one) (λ o m.
        let h = filter_among other (all_outputs later blif facts) o m in
        elim (outputs_or_last o h.0) [
          | inl old ↦ nothing_in (others_at (all_outputs earlier blif facts) one) o parts.1 (among_kept other (all_outputs earlier blif facts) o old h.1)
          | inr new ↦ (
              let d = stands.met o new in
              let test = (and_parts (o.pin.net.0 == one.pin.net.0) (not ((o.instance == one.instance) && (o.output == one.output))) h.1).0 in
              let same : o.pin.net.0 ≡ one.pin.net.0 = grind (arith, nat_tests, test) in
              nothing_in (channels_at (checked_devices earlier) one.pin.net.0) d.0 parts.0
              (subst (λ (n : ℕ). Among (channels_at (checked_devices earlier) n) d.0) same d.1))
        ]))

    alone_earlier : meets_gates_only (checked_devices later) (all_outputs later blif facts) one ≡ true → meets_gates_only (checked_devices earlier) (all_outputs earlier blif facts) one ≡ true
    alone_earlier e =
        let parts = and_parts (is_empty (channels_at (checked_devices later) one.pin.net.0)) (is_empty (others_at (all_outputs later blif facts) one)) e in
        and_from (is_empty (channels_at (checked_devices earlier) one.pin.net.0)) (is_empty (others_at (all_outputs earlier blif facts) one))
        (is_nothing (channels_at (checked_devices earlier) one.pin.net.0) (λ d m.
        let h = filter_among at_net (checked_devices earlier) d m in
        let from = among_flat_map cards (shown earlier) d h.0 in
        elim (cases_Bool (is_left_out later from.0)) [
          | inr kept ↦ (
              let q = filter_among (λ x. not (is_left_out earlier x)) (numbered_places cut.top) from.0 from.1 in
              nothing_in (channels_at (checked_devices later) one.pin.net.0) d parts.0
              (among_kept at_net (checked_devices later) d
              (flat_map_among cards (shown later) from.0 d (among_kept (λ x. not (is_left_out later x)) (numbered_places cut.top) from.0 q.0 (ap not kept)) from.2) h.1))
          | inl gone ↦ (
              let card = among_map (flat_device cut.top from.0.at) (cell_at cut.top.design from.0.at.cell).devices d from.2 in
              let o = stands.stays from.0 card.0 one from.1 gone card.1 there (subst (λ (x : Device). at_net x ≡ true) (sym card.2) h.1) in
              let net = o.2 in
              let test : (o.0.pin.net.0 == one.pin.net.0) ≡ true = grind (arith, nat_tests, net) in
              nothing_in (others_at (all_outputs later blif facts) one) o.0 parts.1
              (among_kept other (all_outputs later blif facts) o.0 (last_there o.0 o.1)
              (and_from (o.0.pin.net.0 == one.pin.net.0) (not ((o.0.instance == one.instance) && (o.0.output == one.output))) test
              (ap not (and_left (o.0.instance == one.instance) (o.0.output == one.output) (other_instance o.0 one o.1 there))))))
        ]))
        (is_nothing (others_at (all_outputs earlier blif facts) one) (λ o m.
        let h = filter_among other (all_outputs earlier blif facts) o m in
        nothing_in (others_at (all_outputs later blif facts) one) o parts.1 (among_kept other (all_outputs later blif facts) o (outputs_more o h.0) h.1)))

    alone_same : meets_gates_only (checked_devices earlier) (all_outputs earlier blif facts) one ≡ meets_gates_only (checked_devices later) (all_outputs later blif facts) one
    alone_same =
        same_tests (meets_gates_only (checked_devices earlier) (all_outputs earlier blif facts) one) (meets_gates_only (checked_devices later) (all_outputs later blif facts) one) alone_later alone_earlier

pub drives_stay : DrivesStay
drives_stay cut blif facts i p one here chosen stands there =
    ap (λ (b : Bool). let pin : WholePin = record { net = one.pin.net; signal = one.pin.signal; drive = cond b Soft one.pin.drive; observed = one.pin.observed } in pin)
    (alone_same cut blif facts i p here chosen stands one there)
