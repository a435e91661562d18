-- The don't-care bits of signals by a table, and what they say of the wishes for the signals.
use Rattle.std.proofs.Common.{◌≡◌, ℕ, ◌<◌, Bool, true, false, not, ◌&&◌, ◌||◌, ◌==◌, cond, All, List, [], ◌∷◌, replicate, length, Option, Some, None, arith, ap, refl, subst, sym, ◌⊎◌, ◌∙◌, inl, inr}
use Rattle.std.specs.Prelude.{get_or, option_map, unwrap_or}
use Rattle.std.specs.List.{list_any}
use Rattle.std.proofs.lemmas.Bool.{cases_Bool, cases_lt, eqb-true}
use Rattle.std.proofs.lemmas.Option.{same_Some}
use Rattle.std.proofs.lemmas.List.{get_or-replicate, get_or_past, length-replicate}
use Rattle.phase_ports.specs.DontCares.{AreDontCareBits, HaveBitsOf, bit_of, bit_with}
use Rattle.phase_wishes.specs.Wishes.{AreFreeBits}
use Rattle.phase_wishes.specs.declared.wishes.Wish.{Wish}
use Rattle.vrt_model.proofs.Members.{all_among, all_by, among_later}
use Rattle.vrt_model.specs.Assignment.{Assignment}
use Rattle.vrt_model.specs.Comparison.{Comparison}
use Rattle.vrt_model.specs.FlatModels.{HasOneBitEach, IsFlatModel}
use Rattle.vrt_model.specs.Lists.{Among}
use Rattle.vrt_model.specs.declared.flat_model.DontCare.{DontCare}
use Rattle.vrt_model.specs.declared.flat_model.FlatModel.{FlatModel}

-- ---- the table

-- in a table without entries no signal has a bit
pub no_bit : (count n : ℕ) → get_or {A = Option ℕ} (replicate count None) n None ≡ None
no_bit count n = elim (cases_lt n count) [
  | inl lt ↦ get_or-replicate count n None None lt
  | inr ge ↦ get_or_past (replicate count None) n None (let len = length-replicate {A = Option ℕ} count None in omega (arith, ge, len))
]

-- what is put so far, and those that are left
pub record IsPutting (all : List DontCare) (first : List (Option ℕ)) (rest : List DontCare) (table : List (Option ℕ)) : Type 0 where
  pub within : All (λ (d : DontCare). d.output < length table) rest
  pub is : (n : ℕ) → bit_of rest n (get_or table n None) ≡ bit_of all n (get_or first n None)

module _ (all : List DontCare) (first : List (Option ℕ)) (rest : List DontCare) (table : List (Option ℕ)) (so_far : IsPutting all first rest table) where
  -- the next one is in the table
  pub putting_within : (d : DontCare) (behind : List DontCare) → rest ≡ d ∷ behind → d.output < length table
  putting_within d behind e =
      all_among (λ (x : DontCare). x.output < length table) rest d so_far.within (subst (λ (xs : List DontCare). Among xs d) (sym e) (0, refl))

  pub putting_step : (d : DontCare) (behind : List DontCare) (new : List (Option ℕ)) → rest ≡ d ∷ behind → length new ≡ length table
      → ((n : ℕ) → get_or new n None ≡ bit_with d n (get_or table n None)) → IsPutting all first behind new
  putting_step d behind new e len put = record {
    within = all_by (λ (x : DontCare). x.output < length new) behind
        (λ x m.
        let lt = all_among (λ (y : DontCare). y.output < length table) rest x so_far.within (subst (λ (xs : List DontCare). Among xs x) (sym e) (among_later d behind x m)) in
        omega (arith, lt, len));
    is = λ n. ap (bit_of behind n) (put n) ∙ ap (λ (xs : List DontCare). bit_of xs n (get_or table n None)) (sym e) ∙ so_far.is n;
  }

-- a table of the model's signals, none of which has a bit yet
module _ (model : FlatModel) (slice : List DontCare) (table : List (Option ℕ)) (count : ℕ) (listed : slice ≡ model.dontcares) (bare : table ≡ replicate count None) where
  -- the outputs of don't cares are among the signals
  pub bits_within : IsFlatModel model → count ≡ length model.signals → All (λ (d : DontCare). d.output < length table) slice
  bits_within is len =
      all_by (λ (d : DontCare). d.output < length table) slice
      (λ d m.
      let lt =
      (all_among (λ (x : DontCare). (x.output < length model.signals) × (x.bit < length model.signals)) model.dontcares d is.dontcares (subst (λ (ds : List DontCare). Among ds d) listed m)).0
      in
      let all : length table ≡ count = ap (λ (t : List (Option ℕ)). length t) bare ∙ length-replicate {A = Option ℕ} count None in
      omega (arith, lt, len, all))

  -- all of them are put
  pub bits_put : (new : List (Option ℕ)) → ((n : ℕ) → get_or new n None ≡ bit_of slice n (get_or table n None)) → AreDontCareBits model new
  bits_put new put n =
      put n ∙ ap (λ (ds : List DontCare). bit_of ds n (get_or table n None)) listed
      ∙ ap (λ (o : Option ℕ). bit_of model.dontcares n o) (ap (λ (t : List (Option ℕ)). get_or t n None) bare ∙ no_bit count n)

-- a bit that the table has is that of a don't care
pub bit_among : (ds : List DontCare) (n bit : ℕ) (o : Option ℕ) → bit_of ds n o ≡ Some bit → (o ≡ Some bit) ⊎ ((d : DontCare) × Among ds d × (d.bit ≡ bit))
bit_among [] n bit o e = inl e
bit_among (d ∷ ds) n bit o e =
    elim (bit_among ds n bit (bit_with d n o) e) [
      | inl here ↦ by_test (d.output == n) here
      | inr m ↦ inr (m.0, among_later d ds m.0 m.1, m.2)
    ]
  where
    by_test : (b : Bool) → cond b (Some d.bit) o ≡ Some bit → (o ≡ Some bit) ⊎ ((x : DontCare) × Among (d ∷ ds) x × (x.bit ≡ bit))
    by_test true is = inr (d, (0, refl), same_Some d.bit bit is)
    by_test false is = inl is

-- ---- where a wish is asked for

module _ (g : Assignment) (n : ℕ) where
  abbrev asked : Option ℕ → Bool
  asked o = unwrap_or (option_map (λ (bit : ℕ). not (g.signal bit)) o) true

  abbrev is_one : DontCare → Bool
  is_one d = (d.output == n) && g.signal d.bit

  -- the bit so far is that of each don't care of the signal, if there is one
  abbrev Fits : Option ℕ → List DontCare → Type 0
  Fits o ds = (d : DontCare) → Among ds d → (d.output == n) ≡ true → (o ≡ None) ⊎ (o ≡ Some d.bit)

  abbrev OneEach : List DontCare → Type 0
  OneEach ds = (d e : DontCare) → Among ds d → Among ds e → d.output ≡ e.output → d.bit ≡ e.bit

  none_so_far : (bit any : Bool) → (not bit && not any) ≡ not (bit || any)
  none_so_far true any = refl
  none_so_far false any = refl

  one_so_far : (bit any : Bool) → (not bit && not any) ≡ (not bit && not (bit || any))
  one_so_far true any = refl
  one_so_far false any = refl

  and_all : (b : Bool) → b ≡ (b && not false)
  and_all true = refl
  and_all false = refl

  asked_by : (ds : List DontCare) (o : Option ℕ) → Fits o ds → OneEach ds → asked (bit_of ds n o) ≡ (asked o && not (list_any is_one ds))
  asked_by [] o fits one = and_all (asked o)
  asked_by (d ∷ ds) o fits one =
      elim (cases_Bool (d.output == n)) [
        | inl here ↦
            ap (λ (b : Bool). asked (bit_of ds n (cond b (Some d.bit) o))) here
            ∙ (asked_by ds (Some d.bit) (λ e m at. inr (ap Some (one d e (0, refl) (among_later d ds e m) (eqb-true d.output n here ∙ sym (eqb-true e.output n at))))) behind
            ∙ (elim (fits d (0, refl) here) [
              | inl none ↦ none_so_far (g.signal d.bit) (list_any is_one ds) ∙ ap (λ (x : Option ℕ). asked x && not (g.signal d.bit || list_any is_one ds)) (sym none)
              | inr same ↦ one_so_far (g.signal d.bit) (list_any is_one ds) ∙ ap (λ (x : Option ℕ). asked x && not (g.signal d.bit || list_any is_one ds)) (sym same)
            ]
            ∙ ap (λ (b : Bool). asked o && not ((b && g.signal d.bit) || list_any is_one ds)) (sym here)))
        | inr other ↦
            ap (λ (b : Bool). asked (bit_of ds n (cond b (Some d.bit) o))) other
            ∙ (asked_by ds o (λ e m at. fits e (among_later d ds e m) at) behind
            ∙ ap (λ (b : Bool). asked o && not ((b && g.signal d.bit) || list_any is_one ds)) (sym other))
      ]
    where
      behind : OneEach ds
      behind a b p q e = one a b (among_later d ds a p) (among_later d ds b q) e

-- wishes with the don't-care bits of a model are asked for where their signals are not free
pub free_bits : (k : Comparison) (table : List (Option ℕ)) (wishes : List Wish) → HasOneBitEach k.model → AreDontCareBits k.model table → HaveBitsOf table wishes → AreFreeBits k wishes
free_bits k table wishes one are have wish signal g m wanted =
    ap (asked g signal) (have wish signal m wanted ∙ are signal) ∙ asked_by g signal k.model.dontcares None (λ d among at. inl refl) one
