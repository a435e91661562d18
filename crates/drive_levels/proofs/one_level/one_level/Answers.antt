use Rattle.std.proofs.Common.{◌≡◌, ℕ, not, true, Some, List, length, sym, subst, ap, ◌∙◌, inl, inr}
use Rattle.std.specs.Prelude.{◌==◌}
use Rattle.std.proofs.lemmas.Bool.{cases_Bool, eq-eqb, eqb-true, false≢true}
use Rattle.std.proofs.lemmas.Option.{same_Some}
use Rattle.std.specs.List.{list_any}
use Rattle.vrt_model.proofs.Lists.{no_items}
use Rattle.vrt_model.proofs.Members.{among_any, any_among}
use Rattle.vrt_model.specs.Lists.{At}
use Rattle.vrt_model.specs.declared.circuit.Device.{Device}
use Rattle.drive_levels.proofs.one_level.one_level.Goals as goal

pub returns-clause-one : goal.returns-clause-one
returns-clause-one c = λ level e. record {
  devices = λ d m.
      elim (cases_Bool (d.level == c.in-Some.first.now.level)) [
        | inl same ↦ eqb-true d.level c.in-Some.first.now.level same ∙ same_Some c.in-Some.first.now.level level e
        | inr apart ↦
            absurd (false≢true (sym c.if-has_other.false ∙ c.has_other.ensures
            ∙ subst (λ (ds : List Device). list_any (λ (x : Device). not (x.level == c.in-Some.first.now.level)) ds ≡ true) (sym c.as_slice-devices.ensures)
            (among_any (λ (x : Device). not (x.level == c.in-Some.first.now.level)) c.args.circuit.now.devices d m (ap not apart))))
      ];
  holds = no_items c.args.circuit.now.holds (eqb-true (length c.args.circuit.now.holds) 0 (sym c.is_empty.ensures ∙ c.if-not-is_empty.false));
  wholes = no_items c.args.circuit.now.wholes (eqb-true (length c.args.circuit.now.wholes) 0 (sym c.is_empty-2.ensures ∙ c.if-not-is_empty-2.false));
}

-- a device of another level stands beside the first one, so not all are of one
pub returns-then-has_other-clause-all : goal.returns-then-has_other-clause-all
returns-then-has_other-clause-all c d among is =
    let devices = c.args.circuit.now.devices in
    let first = c.in-Some.first.now in
    let here : At devices 0 first = subst (λ (ds : List Device). At ds 0 first) c.as_slice-devices.ensures (sym (c.in-Some.ensures).value) in
    let other =
    any_among (λ (x : Device). not (x.level == first.level)) devices
    (subst (λ (ds : List Device). list_any (λ (x : Device). not (x.level == first.level)) ds ≡ true) c.as_slice-devices.ensures (sym c.has_other.ensures ∙ c.if-has_other.true)) in
    let same = eq-eqb other.0.level first.level (is.devices other.0 other.1 ∙ sym (is.devices first (0, here))) in
    absurd (false≢true (ap not (sym same) ∙ other.2))

-- the first has the level of all
pub returns-clause-all : goal.returns-clause-all
returns-clause-all c d among is =
    let first = c.in-Some.first.now in
    let here : At c.args.circuit.now.devices 0 first = subst (λ (ds : List Device). At ds 0 first) c.as_slice-devices.ensures (sym (c.in-Some.ensures).value) in
    ap Some (is.devices first (0, here))
