-- In each phase that observes an output the solution has the bit of the output's function there, and so has a written model.
use Rattle.std.proofs.Common.{◌≡◌, ℕ, ◌<◌, Bool, true, false, List, Some, length, map, ap, refl, sym, subst, ◌∙◌}
use Rattle.std.proofs.lemmas.Bool.{false≢true}
use Rattle.std.proofs.lemmas.Option.{same_Some}
use Rattle.std.proofs.lemmas.Simd.{map-map}
use Rattle.plain_models.specs.Flat.{flat_form, number_in}
use Rattle.same_phases.proofs.SettingLaws.{equal_phases_are_alike}
use Rattle.same_phases.specs.Phases.{IsStateless, IsUnclocked}
use Rattle.vrt_model.proofs.Lists.{map_same}
use Rattle.vrt_model.proofs.Observed.{output_observed}
use Rattle.vrt_model.proofs.Tests.{some_of}
use Rattle.vrt_model.specs.Assignment.{Tied}
use Rattle.vrt_model.specs.Comparison.{CellPort, Comparison, is_observed, tied_inputs}
use Rattle.vrt_model.specs.Constraints.{Meets}
use Rattle.vrt_model.specs.Equal.{IsEqual}
use Rattle.vrt_model.specs.Faults.{Assigns, Solves, surroundings_of}
use Rattle.vrt_model.specs.Held.{setting_of}
use Rattle.vrt_model.specs.Reading.{Partial}
use Rattle.vrt_model.specs.State.{Setting}
use Rattle.written_cells.proofs.ExchangeLaws.{meets_own, setting_same, solves_own}
use Rattle.written_cells.specs.Exchanged.{GivesOutputs, HasNoState, IsSeen, exchanged}
use Rattle.written_cells.specs.Outputs.{IsFunctionOf, IsWrittenOf}
use Rattle.written_models.proofs.WrittenBits.{written_outputs_show}
use Rattle.written_models.specs.Functions.{Function}
use Rattle.written_models.specs.Written.{Logic, written_model}
use Rattle.written_models.specs.WrittenLaws.{variable_bits}

-- ---- functions

module _ (k : Comparison) (port : CellPort) (signal : ℕ) (f : Function) (free : IsUnclocked k.circuit) (none : IsStateless k) (equal : IsEqual k) (is : IsFunctionOf k port signal f)
    (phase : ℕ) (bits : List Bool) (a : Partial) (within : phase < length k.rules.phases) (met : Meets k phase bits) (solves : Solves k phase (setting_of k phase bits) a)
    (seen : IsSeen k phase port signal) where
  observed : is_observed k phase port.net ≡ true
  observed = output_observed k phase seen.there.0 port signal seen.there.1 seen.output seen.observed

  -- a phase that gives 1 makes all of them give 1
  never_zero : f bits ≡ true → a port.net ≡ Some false → ⊥
  never_zero t e =
      let one = (is phase bits met.valuation).0 t in
      let there = output_observed k one.phase one.seen.there.0 port signal one.seen.there.1 one.seen.output one.seen.observed in
      let same = equal_phases_are_alike k phase one.phase bits a one.solution free none (equal phase within) (equal one.phase one.within) met one.meets solves one.solves port.net observed there in
      false≢true (same_Some false true (sym e ∙ same ∙ one.one))

  by_bit : (v : Bool) → a port.net ≡ Some v → v ≡ f bits
  by_bit true e = sym ((is phase bits met.valuation).1 (record { phase = phase; within = within; seen = seen; meets = met; solution = a; solves = solves; one = e }))
  by_bit false e = by_function (f bits) refl
    where
      by_function : (b : Bool) → f bits ≡ b → false ≡ b
      by_function false t = refl
      by_function true t = absurd (never_zero t e)

  shown : a port.net ≡ Some (f bits)
  shown = (let v = some_of (a port.net) (((equal phase within).agree bits met).defined a solves port.net observed) in v.1 ∙ ap Some (by_bit v.0 v.1))

pub functions_are_shown : (k : Comparison) (port : CellPort) (signal : ℕ) (f : Function) → IsUnclocked k.circuit → IsStateless k → IsEqual k → IsFunctionOf k port signal f
    → (phase : ℕ) (bits : List Bool) (a : Partial) → phase < length k.rules.phases → Meets k phase bits → Solves k phase (setting_of k phase bits) a
    → IsSeen k phase port signal → a port.net ≡ Some (f bits)
functions_are_shown k port signal f free none equal is phase bits a within met solves seen = shown k port signal f free none equal is phase bits a within met solves seen

-- ---- written models

pub outputs_are_shown : (k : Comparison) (l : Logic) (number : ℕ)
    → IsUnclocked k.circuit → HasNoState k → IsEqual k → IsWrittenOf k l → GivesOutputs (exchanged k (flat_form (written_model l)) number)
outputs_are_shown k l number free none equal w phase bits a g port signal within met solves assigns seen =
    let flat = flat_form (written_model l) in
    let out = w.outputs port signal seen.there seen.output in
    let f : Function = out.2 in
    let own : Meets k phase bits = meets_own k flat number none refl phase bits met in
    let here : Setting = setting_of k phase bits in
    let shows : a port.net ≡ Some (f bits) =
    functions_are_shown k port signal f free (record { holds = none.holds; groups = none.groups }) equal out.6 phase bits a within own (solves_own k flat number none refl phase bits a solves)
    (record { there = seen.there; output = seen.output; observed = seen.observed }) in
    let has : Assigns (exchanged k flat number) phase here g = subst (λ (s : Setting). Assigns (exchanged k flat number) phase s g) (setting_same k flat number none refl phase bits) assigns in
    let read : variable_bits l g ≡ bits =
    sym (map-map g.signal (number_in (written_model l)) l.variables) ∙ ap (map g.signal) w.variables ∙ map-map g.signal (λ (t : Tied). t.signal) (tied_inputs k)
    ∙ map_same (λ (t : Tied). g.signal t.signal) (λ (t : Tied). here.inputs t.net) (tied_inputs k) (λ i t at. has.inputs t (i, at))
    ∙ w.valuations phase bits own.valuation in
    let around = surroundings_of (exchanged k flat number) phase here in
    let bit : g.signal (number_in (written_model l) out.1) ≡ f (variable_bits l g) = written_outputs_show l around.default_clock around.held g has.obeys out.0 out.1 f out.3 out.4 in
    shows ∙ ap Some (sym (ap g.signal out.5 ∙ bit ∙ ap f read))
