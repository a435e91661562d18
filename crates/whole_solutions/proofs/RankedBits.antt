-- Where nothing fights or floats, a solution has a bit at each observed net.
use Rattle.std.proofs.Common.{◌≡◌, ℕ, zero, suc, ◌<◌, ◌≤◌, Bool, true, false, cond, Option, Some, None, length, slice_get, arith, ap, subst, sym, refl, ◌∙◌, inl, inr}
use Rattle.std.specs.Prelude.{unwrap_or}
use Rattle.std.proofs.lemmas.Bool.{cases_Bool, cond-false, cond-true, false≢true}
use Rattle.std.proofs.lemmas.Option.{none-some, same_Some}
use Rattle.cell_inside.proofs.NetKinds.{is_plain_is, plain_is}
use Rattle.cell_inside.proofs.RegionLaws.{region_is_local}
use Rattle.cell_inside.specs.Regions.{ArePinsPlain, AreRegions}
use Rattle.known_nets.proofs.NetKinds.{given_or_plain}
use Rattle.known_nets.proofs.WiredLaws.{pin_of_whole}
use Rattle.vrt_model.proofs.Decidable.{some_response}
use Rattle.vrt_model.proofs.GatesGiven.{IsGiven, base_reading, given_once, plain_any}
use Rattle.vrt_model.proofs.Networks.{network_finite}
use Rattle.vrt_model.specs.Constraints.{given_bit}
use Rattle.vrt_model.specs.Known.{IsKnown, IsPlain, is_plain_at}
use Rattle.vrt_model.specs.Levels.{source_level}
use Rattle.vrt_model.specs.Reading.{HasGivenBit, IsReading, is_given}
use Rattle.vrt_model.specs.Response.{Fight, Float, IsResponse, Response, Shows}
use Rattle.vrt_model.specs.Solution.{Agrees, AlwaysResponds, IsSolution}
use Rattle.vrt_model.specs.State.{IsState, ModelGives, OutputPin, Setting, State, network_of, output_pins}
use Rattle.vrt_model.specs.declared.circuit.Circuit.{Circuit}
use Rattle.vrt_model.specs.declared.circuit.FlatNet.{FlatNet}
use Rattle.vrt_model.specs.declared.rules.Phase.{Phase}
use Rattle.whole_solutions.proofs.GivenShow.{given_shows}
use Rattle.whole_solutions.proofs.RankedRegions.{net_in_region, ranks_give_regions, region_net}
use Rattle.whole_solutions.specs.Ranked.{IsRanked, RankedSolutionsHaveBits, known_or_lower, up_to}

module _ (c : Circuit) (phase : Phase) (setting : Setting) (observed known : ℕ → Bool) (rank : ℕ → ℕ) (a : ℕ → Option Bool)
    (p : IsRanked c phase observed known rank) (solves : IsSolution c phase observed setting a)
    (known_bits : (n : ℕ) (v : Bool) → observed n ≡ true → IsKnown c phase n v → a n ≡ Some v) where
  pins_plain : ArePinsPlain c
  pins_plain out m = let from = pin_of_whole c out m in (p.wholes out.whole from.0).plain out.pin from.1

  -- a given net that is observed has its bit
  given_has : (n : ℕ) → observed n ≡ true → IsGiven c n → a n ≡ Some (given_bit c phase setting.inputs n)
  given_has n seen g =
      (solves n (given_bit c phase setting.inputs n) seen).1
      (λ t it agrees. subst (λ (v : Bool). IsResponse (network_of c true setting.held t) n (Shows v)) (same t it) (given_shows c p.ranges pins_plain true setting.held t n g))
    where
      same : (t : State) → IsState c phase setting.inputs t → t.reading n ≡ given_bit c phase setting.inputs n
      same t it = given_once phase setting.inputs g.0.kind n (t.reading n) (given_bit c phase setting.inputs n) g.2 (it.reading n g.0 g.1) (base_reading c phase setting.inputs n g.0 g.1)

  -- ---- a state that agrees with the solution

  abbrev filled : ℕ → Bool
  filled n = cond (is_plain_at c n) (unwrap_or (a n) false) (given_bit c phase setting.inputs n)

  filled_reads : IsReading c phase setting.inputs filled
  filled_reads n net e =
      elim (cases_Bool (is_given net.kind)) [
        | inl g ↦ subst (HasGivenBit phase setting.inputs net.kind n) (sym (cond-false (is_plain_at c n) (unwrap_or (a n) false) (given_bit c phase setting.inputs n) (not_plain g))) (base_reading c phase setting.inputs n net e)
        | inr f ↦ plain_any phase setting.inputs net.kind n (filled n) f
      ]
    where
      not_plain : is_given net.kind ≡ true → is_plain_at c n ≡ false
      not_plain g =
          elim (cases_Bool (is_plain_at c n)) [
            | inl t ↦
                let plain = plain_is c n t in
                absurd (false≢true (sym (ap is_given plain.2) ∙ (ap (λ (x : FlatNet). is_given x.kind) (same_Some plain.0 net (sym plain.1 ∙ e)) ∙ g)))
            | inr f ↦ f
          ]

  filled_agrees : Agrees observed a filled
  filled_agrees n v seen e =
      elim (given_or_plain c n (p.nets n seen)) [
        | inl g ↦
            let is = same_Some (given_bit c phase setting.inputs n) v (sym (given_has n seen g) ∙ e) in
            elim (cases_Bool (is_plain_at c n)) [
              | inl t ↦ with_bit t
              | inr f ↦ cond-false (is_plain_at c n) (unwrap_or (a n) false) (given_bit c phase setting.inputs n) f ∙ is
            ]
        | inr plain ↦ with_bit (is_plain_is c n plain)
      ]
    where
      with_bit : is_plain_at c n ≡ true → filled n ≡ v
      with_bit t = cond-true (is_plain_at c n) (unwrap_or (a n) false) (given_bit c phase setting.inputs n) t ∙ ap (λ (o : Option Bool). unwrap_or o false) e

  -- what the models give the pins there
  abbrev drive : (at : ℕ) (o : Option OutputPin) → slice_get (output_pins c) at ≡ o → Bool
  drive at None e = false
  drive at (Some out) e = ((p.wholes out.whole (pin_of_whole c out (at, e)).0).assigned filled).0.signal out.pin.signal

  drive_given : (at : ℕ) (o : Option OutputPin) (e : slice_get (output_pins c) at ≡ o) (out : OutputPin) → o ≡ Some out → ModelGives phase out filled (drive at o e)
  drive_given at None e out there = absurd (none-some out there)
  drive_given at (Some one) e out there =
      let g = (p.wholes one.whole (pin_of_whole c one (at, e)).0).assigned filled in
      subst (λ (o : OutputPin). ModelGives phase o filled (g.0.signal one.pin.signal)) (same_Some one out there) (g.0, g.1, refl)

  abbrev state : State
  state = record { reading = filled; driven = λ at. drive at (slice_get (output_pins c) at) refl }

  state_is : IsState c phase setting.inputs state
  state_is = record { reading = filled_reads; driven = λ at out e. drive_given at (slice_get (output_pins c) at) refl out e }

  -- so some state agrees with the solution
  pub agreeing_state : (s : State) × IsState c phase setting.inputs s × Agrees observed a s.reading
  agreeing_state = (state, state_is, filled_agrees)

  -- ---- rank by rank

  regions : AreRegions c phase setting observed known (up_to c rank) (known_or_lower c observed known rank) filled
  regions = ranks_give_regions c phase setting observed known rank filled p (λ n v seen k. filled_agrees n v seen (known_bits n v seen k))

  -- a net of a region always responds as in the state, where the observed nets of lower rank have bits
  always : (n : ℕ) → IsPlain c n → ((m : ℕ) → observed m ≡ true → rank m < rank n → (v : Bool) × (a m ≡ Some v))
      → (r : Response) → IsResponse (network_of c true setting.held state) n r → AlwaysResponds c phase observed setting a true n r
  always n plain lower r h t it agrees =
      region_is_local c phase setting (up_to c rank (rank n)) (known_or_lower c observed known rank (rank n)) filled state t p.ranges pins_plain (regions.each (rank n)) state_is it
      (λ m b. refl) (λ m b. same m b) n r (net_in_region c phase setting observed known rank p (rank n) n plain (omega arith)) h
    where
      with_bit : (m : ℕ) → observed m ≡ true → (v : Bool) × (a m ≡ Some v) → t.reading m ≡ filled m
      with_bit m seen has = agrees m has.0 seen has.1 ∙ sym (filled_agrees m has.0 seen has.1)

      same : (m : ℕ) → known_or_lower c observed known rank (rank n) m ≡ true → t.reading m ≡ filled m
      same m b =
          let at = regions.below (rank n) m b in
          elim at.1 [
            | inl k ↦ (let is = (p.tested m).0 k in with_bit m at.0 (is.0, known_bits m is.0 at.0 is.1))
            | inr low ↦
                let le = (region_net c phase setting observed known rank p low.0 m low.2).1 in
                let lt = low.1 in
                with_bit m at.0 (lower m at.0 (omega (arith, le, lt)))
          ]

  module _ (top : ℕ) (clear : (n : ℕ) → observed n ≡ true → rank n < top → IsPlain c n
      → (¬ AlwaysResponds c phase observed setting a true n Fight) × (¬ AlwaysResponds c phase observed setting a true n Float)) where
    by_response : (n : ℕ) → observed n ≡ true → rank n < top → IsPlain c n → (r : Response) → AlwaysResponds c phase observed setting a true n r → (v : Bool) × (a n ≡ Some v)
    by_response n seen lt plain Fight h = absurd ((clear n seen lt plain).0 h)
    by_response n seen lt plain Float h = absurd ((clear n seen lt plain).1 h)
    by_response n seen lt plain (Shows v) h = (v, (solves n v seen).1 h)

    bits_below : (bound : ℕ) → bound ≤ top → (n : ℕ) → observed n ≡ true → rank n < bound → (v : Bool) × (a n ≡ Some v)
    bits_below zero le n seen lt = absurd (omega (arith, lt))
    bits_below (suc bound) le n seen lt =
        elim (given_or_plain c n (p.nets n seen)) [
          | inl g ↦ (given_bit c phase setting.inputs n, given_has n seen g)
          | inr plain ↦
              let q = some_response (network_of c true setting.held state) (length c.nets) (source_level c) (network_finite c true setting.held state p.ranges) n in
              by_response n seen (omega (arith, le, lt)) plain q.0
              (always n plain (λ m om under. bits_below bound (omega (arith, le)) m om (omega (arith, under, lt))) q.0 q.1)
        ]

pub ranked_solutions_have_bits : RankedSolutionsHaveBits
ranked_solutions_have_bits c phase setting observed known rank a top p solves known_bits clear n seen lt =
    bits_below c phase setting observed known rank a p solves known_bits top clear top (omega arith) n seen lt
