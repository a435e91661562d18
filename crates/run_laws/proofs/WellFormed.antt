-- A well-formed comparison has all that the law of runs asks, so the law holds of each.
use Rattle.std.proofs.Common.{◌≡◌, ℕ, suc, ◌+◌, ◌<◌, Bool, true, false, cond, [], Option, Some, None, length, arith, ap, ap₂, refl, sym, subst, ◌∙◌, inl, inr}
use Rattle.std.specs.Prelude.{◌&&◌, ◌==◌, find, option_map, slice_get, unwrap_or}
use Rattle.std.specs.List.{AllPass, enumerate_from}
use Rattle.std.proofs.lemmas.Bool.{cases_lt}
use Rattle.std.proofs.lemmas.Bool.Decides.{eqb_tells}
use Rattle.std.proofs.lemmas.List.FromFn.{get_or-enumerate_from, length-enumerate_from}
use Rattle.std.proofs.lemmas.List.Sums.{list_all-from_AllPass}
use Rattle.std.proofs.lemmas.Option.{none-some, slice_get_within}
use Rattle.run_laws.proofs.GroupFacts.{first_member, group_element, hold_member, member_hold}
use Rattle.run_laws.proofs.HeldBits.{held_is}
use Rattle.run_laws.proofs.MemoryBits.{bits_count, bits_of, element_bit, input_bit, members_have}
use Rattle.run_laws.proofs.RunsFromEqual.{runs}
use Rattle.run_laws.proofs.SameSettings.{AreAlike, assigns_moves, assumes_same, solves_moves}
use Rattle.run_laws.specs.Supported.{IsSound}
use Rattle.run_laws.specs.WellFormed.{IsWellFormed}
use Rattle.vrt_model.proofs.Lists.{at_there}
use Rattle.vrt_model.specs.Comparison.{Comparison}
use Rattle.vrt_model.specs.Constraints.{Meets, is_entered, meets_assumes, meets_enters}
use Rattle.vrt_model.specs.Equal.{IsEqual}
use Rattle.vrt_model.specs.Held.{setting_of, sources_of}
use Rattle.vrt_model.specs.Lists.{At, same_bit}
use Rattle.vrt_model.specs.Runs.{IsRelated, Memory, RunsMatch, with_inputs}
use Rattle.vrt_model.specs.Variables.{enter_of}
use Rattle.vrt_model.specs.declared.circuit.Enter.{Enter}
use Rattle.vrt_model.specs.declared.circuit.Hold.{Hold}

-- ---- phases and `enter` lines

next_below : (phase count : ℕ) → phase < count → cond (suc phase == count) 0 (suc phase) < count
next_below phase count lt =
    elim (eqb_tells (suc phase) count) [
      | inl h ↦ subst (λ (b : Bool). cond b 0 (suc phase) < count) (sym h.0) (omega (arith, lt))
      | inr h ↦ subst (λ (b : Bool). cond b 0 (suc phase) < count) (sym h.0) (elim (cases_lt (suc phase) count) [ inl less ↦ less | inr ge ↦ absurd (h.1 (omega (arith, lt, ge))) ])
    ]

-- a place with an `enter` line is that of a hold
entered_hold : (k : Comparison) (phase place : ℕ) (v : Bool) → enter_of k.circuit phase place ≡ Some v → (h : Hold) × At k.circuit.holds place h
entered_hold k phase place v entered = by_hold (slice_get k.circuit.holds place) refl entered
  where
    by_hold : (o : Option Hold) → slice_get k.circuit.holds place ≡ o
        → option_map (λ (e : Enter). e.value) (find (λ (e : Enter). e.phase == phase) (unwrap_or (option_map (λ (h : Hold). h.enters) o) [])) ≡ Some v
        → (h : Hold) × At k.circuit.holds place h
    by_hold None there e = absurd (none-some v e)
    by_hold (Some h) there e = (h, there)

same_bits : (a b : Bool) → a ≡ b → same_bit a b ≡ true
same_bits true b e = ap (same_bit true) (sym e)
same_bits false b e = ap (same_bit false) (sym e)

-- ---- the valuation of a related memory

module _ (k : Comparison) (good : IsWellFormed k) (phase : ℕ) (m : Memory) (inputs : ℕ → Bool) (related : IsRelated k phase m) where
  alike : AreAlike k (with_inputs m inputs) (setting_of k phase (bits_of k phase m inputs))
  unfolding setting_of
  alike = record {
    inputs = λ n net there kind. sym (input_bit k phase m inputs n net there kind);
    held = λ place h there.
        let member = hold_member k good place (slice_get_within k.circuit.holds place h there) in
        let one = member.2 in
        sym (held_is k.circuit phase (sources_of k phase) (bits_of k phase m inputs) m.held 0 k.groups (members_have k phase m inputs related (group_element k good))
        place member.0 one.group one.member one.there (member.1, one.joined) one.is);
    elements = λ e lt. sym (element_bit k phase m inputs e lt);
  }

  abbrev held : ℕ → Bool
  held place = (setting_of k phase (bits_of k phase m inputs)).held place

  entered_at : (place : ℕ) (h : Hold) → At k.circuit.holds place h → (o : Option Bool) → enter_of k.circuit phase place ≡ o → is_entered o (held place) ≡ true
  entered_at place h there None e = refl
  entered_at place h there (Some v) e = same_bits (held place) v (sym (alike.held place h there) ∙ related.enters place v e)

  enters : meets_enters k.circuit phase held ≡ true
  enters = list_all-from_AllPass (λ (p : ℕ × Hold). is_entered (enter_of k.circuit phase p.0) (held p.0)) (enumerate_from 0 k.circuit.holds) each
    where
      each : AllPass (λ (p : ℕ × Hold). is_entered (enter_of k.circuit phase p.0) (held p.0)) (enumerate_from 0 k.circuit.holds)
      each i d lt =
          let len = length-enumerate_from 0 k.circuit.holds in
          let low : i < length k.circuit.holds = omega (arith, lt, len) in
          let there = at_there k.circuit.holds i low in
          let same : 0 + i ≡ i = omega arith in
          ap (λ (n : ℕ). is_entered (enter_of k.circuit phase n) (held n)) (ap (λ (p : ℕ × Hold). p.0) (get_or-enumerate_from 0 k.circuit.holds i d low) ∙ same)
          ∙ entered_at i there.0 there.1 (enter_of k.circuit phase i) refl

  meets_bits : meets_assumes k.design k.rules k.cell k.circuit phase inputs ≡ true → Meets k phase (bits_of k phase m inputs)
  meets_bits assumes = record {
    valuation = bits_count k phase m inputs;
    constraints =
        ap₂ (λ (a b : Bool). a && b) (sym (assumes_same k phase (with_inputs m inputs) (setting_of k phase (bits_of k phase m inputs)) alike) ∙ assumes) enters;
  }

-- ---- the law

pub sound : (k : Comparison) → IsWellFormed k → IsSound k
sound k good = record {
  valuation = λ phase m inputs related assumes.
      let same = alike k good phase m inputs related in
      let setting = setting_of k phase (bits_of k phase m inputs) in (
        bits_of k phase m inputs,
        meets_bits k good phase m inputs related assumes,
        solves_moves k phase (with_inputs m inputs) setting same,
        assigns_moves k good phase (with_inputs m inputs) setting same,
      );
  follows = λ phase lt. next_below phase (length k.rules.phases) lt;
  member = member_hold k good;
  least = first_member k good;
  entered = entered_hold k;
}

pub equal_runs : (k : Comparison) → IsWellFormed k → IsEqual k → RunsMatch k
equal_runs k good equal = runs k (sound k good) equal
