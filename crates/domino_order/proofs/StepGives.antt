-- The roots of a step give its settings, and what is found at the settings says whether the step holds.
use Rattle.std.proofs.Common.{◌+◌, arith, length-append, ◌≡◌, ℕ, ◌<◌, Bool, true, cond, List, ◌++◌, ap, drop, eqb, length, subst, sym, take, ◌∙◌, inl, inr}
use Rattle.std.proofs.Math.Seq.{drop-append_seam, take-append_seam}
use Rattle.std.proofs.lemmas.Bool.{cases_Bool, eqb-true, false≢true}
use Rattle.std.proofs.lemmas.Option.{same_Some, slice_get_within}
use Rattle.node_pool.specs.declared.region.Span.{Span}
use Rattle.arrival_laws.specs.Orders.{and_now}
use Rattle.arrival_laws.specs.Steps.{StepHolds}
use Rattle.bdd_core.specs.Diagram.{Valuation}
use Rattle.bdd_core.specs.Store.{Diagrams}
use Rattle.bdd_core.specs.Words.{shows}
use Rattle.circuit_faults.specs.Results.{root_at}
use Rattle.domino_order.proofs.BegunLaws.{begun_setting}
use Rattle.domino_order.proofs.StepRoots.{fixed_other, risen_setting, taken_setting}
use Rattle.domino_order.proofs.ThreeSettings.{not_holds, thrice_holds}
use Rattle.domino_order.specs.StepBits.{FailsAt, HoldsAt, IsStepAt, arrived, rise_to}
use Rattle.domino_order.specs.StepSettings.{GivesSettings, after_at, begun, begun_at, net_bits, rise_at, risen_at, start_at, together_at}
use Rattle.domino_order.specs.StepWords.{AreInputs}
use Rattle.domino_order.specs.ThreeSettings.{SettlesNot, SettlesThrice}
use Rattle.phase_terms.specs.Opened.{AreRootsOpen}
use Rattle.step_roots.specs.Roots.{IsPlainHold}
use Rattle.vrt_model.specs.Comparison.{Comparison, phase_at}
use Rattle.vrt_model.specs.Held.{sources_of}
use Rattle.vrt_model.specs.Known.{HasFixedBit, IsFixed, IsPlain}
use Rattle.vrt_model.specs.Lists.{has_number}
use Rattle.vrt_model.specs.declared.circuit.Circuit.{Circuit}
use Rattle.vrt_model.specs.declared.circuit.FlatNet.{FlatNet}
use Rattle.vrt_model.specs.declared.circuit.NetKind.{NetKind}
use Rattle.vrt_model.specs.declared.circuit.NetKind.TheVariants.{Plain}
use Rattle.vrt_model.specs.declared.rules.Phase.{Phase}

plain_not_fixed : (phase : Phase) (kind : NetKind) (v : Bool) → kind ≡ Plain → HasFixedBit phase kind v → ⊥
plain_not_fixed phase kind v e h = subst (λ (q : NetKind). HasFixedBit phase q v) e h

-- a net whose bit is fixed has no hold at a plain net
fixed_no_hold : (c : Circuit) (phase : Phase) (n : ℕ) (v : Bool) → IsFixed c phase n v → ¬ IsPlainHold c n
fixed_no_hold c phase n v fixed hold =
    let plain : IsPlain c n = hold.4 in
    plain_not_fixed phase fixed.0.kind v (ap (λ (x : FlatNet). x.kind) (same_Some fixed.0 plain.0 (sym fixed.1 ∙ plain.1)) ∙ plain.2) fixed.2

module _ (k : Comparison) (phase : ℕ) (nets : List ℕ) (n : ℕ) where
  abbrev c : Circuit
  c = k.circuit

  abbrev count : ℕ
  count = length (sources_of k phase)

  -- ---- the bits of a step

  pub end_is : (bits : List Bool) (at : IsStepAt k phase nets n bits) → take count bits ≡ at.end
  end_is bits at =
      ap (take count) at.is ∙ ap (λ (m : ℕ). take m (at.end ++ at.arrivals)) (sym at.meets.valuation) ∙ take-append_seam at.end at.arrivals

  pub arrivals_is : (bits : List Bool) (at : IsStepAt k phase nets n bits) → drop count bits ≡ at.arrivals
  arrivals_is bits at =
      ap (drop count) at.is ∙ ap (λ (m : ℕ). drop m (at.end ++ at.arrivals)) (sym at.meets.valuation) ∙ drop-append_seam at.end at.arrivals

  pub arrivals_len : (bits : List Bool) → IsStepAt k phase nets n bits → length (drop count bits) ≡ length nets
  arrivals_len bits at = ap (λ (xs : List Bool). length xs) (arrivals_is bits at) ∙ at.all

  pub bits_len : (bits : List Bool) → IsStepAt k phase nets n bits → length bits ≡ count + length nets
  bits_len bits at =
      let whole : length bits ≡ length at.end + length at.arrivals = ap (λ (xs : List Bool). length xs) at.is ∙ length-append at.end at.arrivals in
      let first = at.meets.valuation in
      let last = at.all in omega (arith, whole, first, last)

  module _ (bits : List Bool) (at : IsStepAt k phase nets n bits) where
    pub fails_at : SettlesNot (rise_at k phase nets bits) (risen_at k phase nets bits) n → FailsAt k phase nets n bits
    fails_at never = record {
      at = at;
      fails = λ holds.
          not_holds (rise_at k phase nets bits) (risen_at k phase nets bits) n never
          (subst (λ (xs : List Bool). StepHolds (rise_to k phase nets xs) (risen_at k phase nets bits) n) (sym (end_is bits at))
          (subst (λ (xs : List Bool). StepHolds (rise_to k phase nets at.end) (arrived nets xs) n) (sym (arrivals_is bits at)) holds));
    }

    pub holds_at : SettlesThrice (rise_at k phase nets bits) (risen_at k phase nets bits) n → HoldsAt k phase nets n bits
    holds_at thrice = record {
      at = at;
      holds =
          subst (λ (xs : List Bool). StepHolds (rise_to k phase nets at.end) (arrived nets xs) n) (arrivals_is bits at)
          (subst (λ (xs : List Bool). StepHolds (rise_to k phase nets xs) (risen_at k phase nets bits) n) (end_is bits at)
          (thrice_holds (rise_at k phase nets bits) (risen_at k phase nets bits) n thrice));
    }

  -- ---- the roots

  module _ (inputs : AreInputs k.circuit nets) where
    -- the roots of the phase are those where the step begins
    pub start_gives : (given setting : Span) (old new : Diagrams) → AreRootsOpen k phase given old → ((m : ℕ) (v : Valuation) → m < length c.nets → shows new setting m v ≡ shows old given m v)
        → GivesSettings k phase nets n (start_at k phase nets) setting new
    start_gives given setting old new opened shown = record {
      given = λ bits at.
          let u = begun_at k phase nets bits in
          let here = begun_setting k phase nets inputs bits (ap (λ (xs : List Bool). length xs) (end_is bits at) ∙ at.meets.valuation) (root_at old given u) (opened.setting (begun k phase nets bits)) in
          record {
            inputs = λ m net e kind. here.inputs m net e kind ∙ sym (shown m u (slice_get_within c.nets m net e));
            held = λ place hold e plain. here.held place hold e plain ∙ sym (shown hold.net.0 u (slice_get_within c.nets hold.net.0 plain.0 plain.1));
          };
      fixed = λ v m b f. shown m v (slice_get_within c.nets m f.0 f.1) ∙ opened.fixed v m b f;
    }

    -- the net rises too
    pub together_gives : has_number nets n ≡ true → (setting : Span) (old new : Diagrams) → GivesSettings k phase nets n (start_at k phase nets) setting old
        → ((m : ℕ) (v : Valuation) → m < length c.nets → shows new setting m v ≡ cond (eqb n m) true (shows old setting m v))
        → GivesSettings k phase nets n (together_at k phase nets n) setting new
    together_gives there setting old new start shown = record {
      given = λ bits at.
          risen_setting (rise_at k phase nets bits) inputs (root_at old setting (begun_at k phase nets bits)) (root_at new setting (begun_at k phase nets bits)) (risen_at k phase nets bits) (rise_at k phase nets bits).end.held n there
          (start.given bits at) (λ m net e. shown m (begun_at k phase nets bits) (slice_get_within c.nets m net e));
      fixed = λ v m b f. shown m v (slice_get_within c.nets m f.0 f.1) ∙ elim (cases_Bool (eqb n m)) [
        | inl e ↦ absurd (
            false≢true (sym (fixed_other c nets inputs (phase_at k.rules phase) m b f) ∙ subst (λ (x : ℕ). has_number nets x ≡ true) (eqb-true n m e) there)
            )
        | inr e ↦ ap (λ (t : Bool). cond t true (shows old setting m v)) e ∙ start.fixed v m b f
      ];
    }

    -- the holds take the bits of their nets
    pub after_gives : (setting rose : Span) (old new : Diagrams) → GivesSettings k phase nets n (together_at k phase nets n) setting old
        → ((m : ℕ) (v : Valuation) → m < length c.nets → IsPlainHold c m → shows new setting m v ≡ shows old rose m v)
        → ((m : ℕ) (v : Valuation) → m < length c.nets → ¬ IsPlainHold c m → shows new setting m v ≡ shows old setting m v)
        → GivesSettings k phase nets n (after_at k phase nets n (net_bits k phase nets old rose)) setting new
    after_gives setting rose old new together taken others = record {
      given = λ bits at.
          taken_setting (rise_at k phase nets bits) inputs (root_at old setting (begun_at k phase nets bits)) (root_at new setting (begun_at k phase nets bits)) (and_now (risen_at k phase nets bits) n) (rise_at k phase nets bits).end.held
          (net_bits k phase nets old rose bits) (together.given bits at)
          (λ m hold. (let plain : IsPlain c m = hold.4 in taken m (begun_at k phase nets bits) (slice_get_within c.nets m plain.0 plain.1) hold))
          (λ m net e never. others m (begun_at k phase nets bits) (slice_get_within c.nets m net e) never);
      fixed = λ v m b f.
          others m v (slice_get_within c.nets m f.0 f.1) (fixed_no_hold c (phase_at k.rules phase) m b f) ∙ together.fixed v m b f;
    }
