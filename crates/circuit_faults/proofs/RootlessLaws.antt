-- Nets at which no path begins, by the table of outputs and the list of holds.
use Rattle.std.proofs.Common.{◌≡◌, ◌==◌, ℕ, Bool, true, false, List, Option, None, length, subst, sym, ◌∙◌, inl, inr}
use Rattle.std.specs.List.{list_any}
use Rattle.std.proofs.lemmas.Bool.{cases_Bool, eq-eqb, eqb-true, false≢true}
use Rattle.std.proofs.lemmas.Option.{slice_get_within}
use Rattle.circuit_faults.proofs.DrivenAlone.{pin_among}
use Rattle.circuit_faults.specs.Undriven.{IsRootless}
use Rattle.known_nets.proofs.NetKinds.{plain_is}
use Rattle.vrt_model.proofs.Members.{among_any, any_among}
use Rattle.vrt_model.specs.Known.{IsPlain, is_plain_at}
use Rattle.vrt_model.specs.State.{output_pins}
use Rattle.vrt_model.specs.declared.circuit.Circuit.{Circuit}
use Rattle.vrt_model.specs.declared.circuit.Hold.{Hold}
use Rattle.whole_steps.specs.Tables.{AreDrivers, IsLast, driver_at}
use Rattle.whole_steps.specs.declared.table.OutputPlace.{OutputPlace}

module _ (c : Circuit) (n : ℕ) where
  abbrev at_net : Hold → Bool
  at_net hold = hold.net.0 == n

  pub rootless : (drivers : List (Option OutputPlace)) → AreDrivers c (output_pins c) drivers → is_plain_at c n ≡ true → driver_at drivers n ≡ None → list_any at_net c.holds ≡ false → IsRootless c n
  rootless drivers are plain none free =
      let p : IsPlain c n = plain_is c n plain in
      let last : IsLast c (output_pins c) n (length (output_pins c)) None =
      subst (IsLast c (output_pins c) n (length (output_pins c))) none (are.last n (slice_get_within c.nets n p.0 p.1)) in
      record {
        plain = p;
        held = λ h. false≢true (sym free ∙ among_any at_net c.holds h.0 h.1 (eq-eqb h.0.net.0 n h.2));
        driven = λ d.
            let there = pin_among c d.0 d.1 d.2 d.3 in
            last there.0 (record { whole = d.0; pin = d.1 }) there.1 (slice_get_within (output_pins c) there.0 (record { whole = d.0; pin = d.1 }) there.1) d.4;
      }

  pub rootless_free : IsRootless c n → list_any at_net c.holds ≡ false
  rootless_free is = elim (cases_Bool (list_any at_net c.holds)) [
    | inl some ↦ (let h = any_among at_net c.holds some in absurd (is.held (h.0, h.1, eqb-true h.0.net.0 n h.2)))
    | inr none ↦ none
  ]
