-- The first fault of a list of places is the first of its phase.
use Rattle.std.proofs.Common.{◌<◌, ◌≡◌, ℕ, ◌+◌, Bool, false, true, List, ◌++◌, length, arith, subst, sym, ◌∙◌, inl, inr, ap}
use Rattle.std.specs.Prelude.{slice_get}
use Rattle.std.proofs.lemmas.Bool.{cases_lt, cases_eq}
use Rattle.vrt_model.specs.Comparison.{Comparison}
use Rattle.vrt_model.specs.Places.{Finding, IsFinding, IsFirstInPhase, IsNoLater, comes_before, standing}
use Rattle.fault_places.specs.Searches.{AreSpots, Case, HasCases, IsCare, IsClearOf, IsFoundAt, IsFoundFirst, IsFoundIn, IsLeastOf, Spot, StandsIn, finding_at}
use Rattle.vrt_model.specs.Held.{IsValuation}
use Rattle.vrt_model.proofs.Lists.{at_back, at_either, at_front}
use Rattle.vrt_model.specs.Variables.{is_less}
use Rattle.vrt_model.specs.declared.verdict.FaultKind.{FaultKind}
use Rattle.std.proofs.lemmas.Option.{same_Some, slice_get_within}

-- a finding at a place, in other words
moved : (k : Comparison) (phase : ℕ) (y : Spot) (other : Finding) → IsFinding k other → other.phase ≡ phase → y.kind ≡ other.kind → y.at ≡ other.at → IsFinding k (finding_at phase y other.bits)
moved k phase y other g same kind at =
    subst (λ (q : FaultKind). IsFinding k (record { phase = phase; kind = q; at = y.at; bits = other.bits })) (sym kind)
    (subst (λ (n : ℕ). IsFinding k (record { phase = phase; kind = other.kind; at = n; bits = other.bits })) (sym at)
    (subst (λ (p : ℕ). IsFinding k (record { phase = p; kind = other.kind; at = other.at; bits = other.bits })) same g))

pub first_spot : (k : Comparison) (phase : ℕ) (rank least : ℕ → ℕ) (spots : List Spot) (x : Spot) (bits : List Bool)
    → AreSpots k phase rank least spots → IsFoundFirst k phase spots x bits → IsFirstInPhase k (finding_at phase x bits)
first_spot k phase rank least spots x bits are f = record { found = f.found; first = (rank, least, are.order, λ other g same. no_later other g same) }
  where
    no_later : (other : Finding) → IsFinding k other → other.phase ≡ phase → IsNoLater k phase rank least (finding_at phase x bits) other
    no_later other g same =
        let there = are.all other g same in
        let y : Spot = there.1 in
        let here : IsFinding k (finding_at phase y other.bits) = moved k phase y other g same there.3 there.4 in
        elim (cases_lt there.0 f.place) [
          | inl lt ↦ absurd (f.before there.0 y other.bits lt there.2 here)
          | inr ge ↦ elim (cases_eq f.place there.0) [
            | inl e ↦
                let one : x ≡ y = same_Some x y (sym f.stands ∙ ap (slice_get spots) e ∙ there.2) in
                inr (
                  ap (λ (z : Spot). z.kind) one ∙ there.3,
                  ap (λ (z : Spot). z.at) one ∙ there.4,
                  f.least other.bits (subst (λ (z : Spot). IsFinding k (finding_at phase z other.bits)) (sym one) here),
                )
            | inr ne ↦ inl (
                subst (λ (q : FaultKind). comes_before (standing k phase rank least x.kind x.at) (standing k phase rank least q other.at) ≡ true) there.3
                (subst (λ (n : ℕ). comes_before (standing k phase rank least x.kind x.at) (standing k phase rank least y.kind n) ≡ true) there.4
                (are.sorted f.place there.0 x y f.stands there.2 (omega (arith, ge, ne))))
                )
          ]
        ]

-- what is found at its least valuation
pub least_found : (k : Comparison) (phase : ℕ) (care f : List Bool → Bool) (spots : List Spot) (x : Spot) (bits : List Bool)
    → IsFoundIn (IsFoundAt k phase) care f spots x → ((y : Spot) (more : List Bool) → IsFoundAt k phase y more → care more ≡ true)
    → f bits ≡ true → ((more : List Bool) → IsFoundAt k phase x more → f more ≡ true → is_less more bits ≡ false) → IsFoundFirst k phase spots x bits
least_found k phase care f spots x bits found covers holds least = record {
  place = found.place;
  stands = found.stands;
  found = ((found.exact bits).0 holds).1;
  least = λ more g. least more g ((found.exact more).1 (covers x more g, g));
  before = λ i y more lt e g. found.before i y more lt e (covers y more g) g;
}

-- what is found over cases, at its least valuation
pub case_found : (k : Comparison) (phase : ℕ) (care f : List Bool → Bool) (spots : List Spot) (x : Spot) (bits : List Bool) → phase < length k.rules.phases
    → IsCare k phase care → HasCases k phase → IsFoundIn (StandsIn k phase) (λ (v : Case k phase). care v.bits) (λ (v : Case k phase). f v.bits) spots x
    → IsLeastOf k phase f bits → IsFoundFirst k phase spots x bits
case_found k phase care f spots x bits range is_care cases found least = record {
  place = found.place;
  stands = found.stands;
  found = found_here;
  least = λ more g. least.least more g.meets.valuation ((found.exact (case_of x more g)).1 (cared x more g, g.stands.4));
  before = λ i y more lt e g. found.before i y (case_of y more g) lt e (cared y more g) g.stands.4;
}
  where
    -- the case of a finding
    case_of : (y : Spot) (more : List Bool) → IsFoundAt k phase y more → Case k phase
    case_of y more g = record { bits = more; solution = g.stands.0; assignment = g.stands.1; solves = g.stands.2; assigns = g.stands.3 }

    cared : (y : Spot) (more : List Bool) → IsFoundAt k phase y more → care more ≡ true
    cared y more g = (is_care more g.meets.valuation).1 g.meets

    found_in : (v : Case k phase) → v.bits ≡ bits → IsFoundAt k phase x v.bits
    found_in v same =
        let width : IsValuation k phase v.bits = subst (IsValuation k phase) (sym same) least.width in
        let there = (found.exact v).0 (ap f same ∙ least.holds) in
        record {
          phase = range;
          meets = (is_care v.bits width).0 there.0;
          stands = (v.solution, v.assignment, v.solves, v.assigns, there.1);
        }

    found_here : IsFoundAt k phase x bits
    found_here = (let v = cases bits least.width in subst (IsFoundAt k phase x) v.1 (found_in v.0 v.1))

-- ---- stages

pub later_stage : (W : Type 0) (Fault : Spot → W → Type 0) (care f : W → Bool) (xs ys : List Spot) (x : Spot)
    → IsClearOf Fault care xs → IsFoundIn Fault care f ys x → IsFoundIn Fault care f (xs ++ ys) x
later_stage W Fault care f xs ys x clear found = record {
  place = length xs + found.place;
  stands = at_back xs ys found.place x found.stands;
  exact = found.exact;
  before = λ i y v lt e met.
      elim (at_either xs ys i y e) [
        | inl a ↦ clear i y v a met
        | inr b ↦ found.before b.0 y v (let is = b.1 in omega (arith, is, lt)) b.2 met
      ];
}

pub earlier_stage : (W : Type 0) (Fault : Spot → W → Type 0) (care f : W → Bool) (xs ys : List Spot) (x : Spot)
    → IsFoundIn Fault care f xs x → IsFoundIn Fault care f (xs ++ ys) x
earlier_stage W Fault care f xs ys x found = record {
  place = found.place;
  stands = at_front xs ys found.place x found.stands;
  exact = found.exact;
  before = λ i y v lt e met.
      elim (at_either xs ys i y e) [
        | inl a ↦ found.before i y v lt a met
        | inr b ↦ absurd (let within = slice_get_within xs found.place x found.stands in let is = b.1 in omega (arith, within, is, lt))
      ];
}

pub clear_stages : (W : Type 0) (Fault : Spot → W → Type 0) (care : W → Bool) (xs ys : List Spot)
    → IsClearOf Fault care xs → IsClearOf Fault care ys → IsClearOf Fault care (xs ++ ys)
clear_stages W Fault care xs ys one two i y v e met =
    elim (at_either xs ys i y e) [ inl a ↦ one i y v a met | inr b ↦ two b.0 y v b.2 met ]
