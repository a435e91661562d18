-- Over a circuit with some instances left whole, what is found at a net is the drive of the whole output there that meets gates alone.
use Rattle.std.proofs.Common.{◌≡◌, ◌≢◌, ◌&&◌, ◌||◌, [], ◌∷◌, ℕ, Bool, true, false, cond, not, List, length, map, None, arith, refl, ap, sym, subst, ◌∙◌, inl, inr}
use Rattle.std.specs.Prelude.{◌==◌, filter}
use Rattle.std.proofs.lemmas.Bool.{and_from, and_parts, cases_Bool, cases_eq, eq-eqb, eqb-true, false≢true}
use Rattle.checked_chain.proofs.DriveLaws.{is_nothing, nothing_in}
use Rattle.drive_levels.specs.PortLevels.{IsWholeOutput}
use Rattle.lone_outputs.proofs.FilterCounts.{one_counts, other_passes, two_count}
use Rattle.port_drives.proofs.OutputKeys.{all_keyed}
use Rattle.port_drives.proofs.ToldLaws.{shown, told_are}
use Rattle.port_drives.specs.Outputs.{WholeDrivesAreFound, is_at, meets_channel, one_drive, only_of, whole_drive}
use Rattle.port_drives.specs.declared.outputs.ToldOutput.{ToldOutput}
use Rattle.vrt_model.proofs.Filtered.{among_kept, filter_among}
use Rattle.vrt_model.proofs.Lists.{at_map, map_at, one_at}
use Rattle.vrt_model.proofs.Members.{among_any, any_among}
use Rattle.vrt_model.specs.Comparison.{CellPort, Comparison}
use Rattle.vrt_model.specs.Cut.{Cut}
use Rattle.vrt_model.specs.Lists.{Among, At}
use Rattle.vrt_model.specs.WholeInstances.{OutputAt, all_outputs, channels_at, others_at}
use Rattle.vrt_model.specs.declared.blif.Blif.{Blif}
use Rattle.vrt_model.specs.declared.circuit.Device.{Device}
use Rattle.vrt_model.specs.declared.whole.CellFacts.{CellFacts}

module _ (k : Comparison) (cut : Cut) (blif : Blif) (facts : List CellFacts) (port : CellPort) where
  abbrev n : ℕ
  n = port.net

  abbrev outputs : List OutputAt
  outputs = all_outputs cut blif facts

  abbrev told : List ToldOutput
  told = map shown outputs

  -- ---- what meets the net

  no_channels : meets_channel k.circuit.devices n ≡ false → (m : ℕ) → m ≡ n → (d : Device) → Among (channels_at k.circuit.devices m) d → ⊥
  no_channels none m same d on =
      let from = filter_among (λ (x : Device). x.left.0 == m || x.right.0 == m) k.circuit.devices d on in
      let test = subst (λ (i : ℕ). (d.left.0 == i || d.right.0 == i) ≡ true) same from.1 in
      false≢true (sym none ∙ among_any (λ (x : Device). x.left.0 == n || x.right.0 == n) k.circuit.devices d from.0 test)

  some_channel : meets_channel k.circuit.devices n ≡ true → (o : OutputAt) → o.pin.net.0 ≡ n → (d : Device) × Among (channels_at k.circuit.devices o.pin.net.0) d
  some_channel some o net =
      let found = any_among (λ (x : Device). x.left.0 == n || x.right.0 == n) k.circuit.devices some in
      let m = o.pin.net.0 in (
        found.0,
        among_kept (λ (x : Device). x.left.0 == m || x.right.0 == m) k.circuit.devices found.0 found.1
            (subst (λ (i : ℕ). (found.0.left.0 == i || found.0.right.0 == i) ≡ true) (sym net) found.2),
      )

  -- ---- outputs at the net

  told_at : (i : ℕ) (o : OutputAt) → At outputs i o → At told i (shown o)
  told_at i o e = map_at shown outputs i o e

  passes : (o : OutputAt) → o.pin.net.0 ≡ n → is_at n (shown o) ≡ true
  passes o net = eq-eqb o.pin.net.0 n net

  abbrev SameKey : OutputAt → OutputAt → Bool
  SameKey x o = (x.instance == o.instance) && (x.output == o.output)

  -- an output at the net besides one is among its others
  other_there : (i j : ℕ) (o x : OutputAt) → At outputs i o → At outputs j x → j ≢ i → o.pin.net.0 ≡ n → x.pin.net.0 ≡ n → Among (others_at outputs o) x
  other_there i j o x here there apart net other =
      among_kept (λ (y : OutputAt). (y.pin.net.0 == o.pin.net.0) && not (SameKey y o)) outputs x (j, there)
      (and_from (x.pin.net.0 == o.pin.net.0) (not (SameKey x o)) (eq-eqb x.pin.net.0 o.pin.net.0 (other ∙ sym net))
      (elim (cases_Bool (SameKey x o)) [
        | inl same ↦
            let both = and_parts (x.instance == o.instance) (x.output == o.output) same in
            absurd (apart (all_keyed cut blif facts j i x o there here (eqb-true x.instance o.instance both.0) (eqb-true x.output o.output both.1)))
        | inr differs ↦ ap not differs
      ]))

  -- ---- by what stands there

  none_by_channel : meets_channel k.circuit.devices n ≡ true → IsWholeOutput k outputs port None
  none_by_channel some drive whole =
      let o = whole.0 in
      let parts = and_parts _ _ whole.3 in
      let met = some_channel some o whole.2 in
      nothing_in (channels_at k.circuit.devices o.pin.net.0) met.0 parts.0 met.1

  by_list : meets_channel k.circuit.devices n ≡ false → (ys : List ToldOutput) → filter (is_at n) told ≡ ys → IsWholeOutput k outputs port (only_of None ys)
  by_list none [] e = λ drive whole.
      let o = whole.0 in
      let m = whole.1 in
      let some = one_counts (is_at n) told m.0 (shown o) (told_at m.0 o m.1) (passes o whole.2) in
      let empty = ap (λ (xs : List ToldOutput). length xs) e in
      absurd (omega (arith, some, empty))
  by_list none (y ∷ []) e =
      let count = ap (λ (xs : List ToldOutput). length xs) e in
      let from = filter_among (is_at n) told y (subst (λ (xs : List ToldOutput). Among xs y) (sym e) (0, refl)) in
      let i : ℕ = from.0.0 in
      let there = at_map shown outputs i y from.0.1 in
      let o : OutputAt = there.0 in
      let here : At outputs i o = there.1 in
      let net : o.pin.net.0 ≡ n = ap (λ (t : ToldOutput). t.net.0) there.2 ∙ eqb-true y.net.0 n from.1 in (
        o,
        (i, here),
        net,
        and_from _ _ (is_nothing (channels_at k.circuit.devices o.pin.net.0) (λ d on. no_channels none o.pin.net.0 net d on))
            (is_nothing (others_at outputs o) (λ x on.
            let other = filter_among (λ (z : OutputAt). (z.pin.net.0 == o.pin.net.0) && not (SameKey z o)) outputs x on in
            let test = and_parts (x.pin.net.0 == o.pin.net.0) (not (SameKey x o)) other.1 in
            let at_net : x.pin.net.0 ≡ n = eqb-true x.pin.net.0 o.pin.net.0 test.0 ∙ net in
            elim (cases_eq other.0.0 i) [
              | inl same ↦
                  let one : x ≡ o = one_at outputs i x o (subst (λ (j : ℕ). At outputs j x) same other.0.1) here in
                  let key : SameKey x o ≡ true = subst (λ (z : OutputAt). SameKey z o ≡ true) (sym one) (and_from (o.instance == o.instance) (o.output == o.output) (eq-eqb o.instance o.instance refl) (eq-eqb o.output o.output refl)) in
                  absurd (false≢true (sym (ap not key) ∙ test.1))
              | inr apart ↦
                  let two = two_count (is_at n) told other.0.0 i (shown x) (shown o) (told_at other.0.0 x other.0.1) (told_at i o here) (passes x at_net) (passes o net) apart in
                  absurd (omega (arith, two, count))
            ])),
        sym (ap (λ (t : ToldOutput). t.drive) there.2),
      )
  by_list none (y ∷ z ∷ rest) e = λ drive whole.
      let o = whole.0 in
      let m = whole.1 in
      let count = ap (λ (xs : List ToldOutput). length xs) e in
      let found = other_passes (is_at n) told m.0 (omega (arith, count)) in
      let there = at_map shown outputs found.of.place found.of.item found.of.there in
      let net : there.0.pin.net.0 ≡ n = ap (λ (t : ToldOutput). t.net.0) there.2 ∙ eqb-true found.of.item.net.0 n found.of.passes in
      let parts = and_parts _ _ whole.3 in
      nothing_in (others_at outputs o) there.0 parts.1 (other_there m.0 found.of.place o there.0 m.1 there.1 found.beside whole.2 net)

  found_there : (b : Bool) → meets_channel k.circuit.devices n ≡ b → IsWholeOutput k outputs port (cond b None (one_drive told n))
  found_there true some = none_by_channel some
  found_there false none = by_list none (filter (is_at n) told) refl

pub drives_found : WholeDrivesAreFound
drives_found k cut blif facts port circuit =
    subst (λ (ts : List ToldOutput). IsWholeOutput k (all_outputs cut blif facts) port (whole_drive k.circuit ts port.net)) (sym (told_are cut blif facts k.circuit circuit))
    (found_there k cut blif facts port (meets_channel k.circuit.devices port.net) refl)
