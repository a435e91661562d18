-- What is found of a step, from store to store and from setting to setting.
use Rattle.std.proofs.Common.{◌≡◌, ◌≢◌, ℕ, ◌+◌, ◌<◌, ◌≤◌, Bool, true, cond, List, Option, Some, None, Result, Ok, Err, ap, arith, eqb, length, subst, sym, ◌∙◌, inl, inr}
use Rattle.std.specs.Prelude.{IfOk}
use Rattle.std.proofs.lemmas.Bool.{cases_Bool, eq-eqb, eqb-true, false≢true}
use Rattle.std.proofs.lemmas.Option.{slice_get_within}
use Rattle.node_pool.specs.declared.region.Span.{Span}
use Rattle.arrival_laws.specs.Orders.{Settles}
use Rattle.bdd_core.proofs.Frames.{adds_then, shows_kept}
use Rattle.bdd_core.specs.Diagram.{Valuation, meaning}
use Rattle.bdd_core.specs.Store.{Adds, Diagrams, function_of}
use Rattle.bdd_core.specs.Words.{IsFilled, Writes, shows, word_at}
use Rattle.bdd_core.specs.declared.handle.H.{H}
use Rattle.bdd_core.specs.declared.handle.Spent.{Spent}
use Rattle.bdd_ops.proofs.CountingLaws.{counted_same, counts_err, counts_more, counts_then, counts_value}
use Rattle.bdd_ops.specs.Counting.{Counts}
use Rattle.domino_order.proofs.StepGives.{fails_at, holds_at}
use Rattle.domino_order.specs.StepBits.{FailsAt, IsStepAt}
use Rattle.domino_order.specs.StepSettings.{GivesSettings, IsSettledTwice, IsSomewhere, SettlesAt, StepGives, TwiceGives, after_at, begun_at, net_bits, start_at, together_at}
use Rattle.domino_order.specs.StepWords.{KeepsWords, StaysFilled}
use Rattle.domino_order.specs.ThreeSettings.{NotAfter, NotAlike, NotAtOnce, NotBefore, SettlesTo}
use Rattle.bdd_core.proofs.Meaning.{meaning_one}
use Rattle.setting_faults.specs.Differences.{AreAlike, DifferGives, IsDifference}
use Rattle.vrt_model.specs.Comparison.{Comparison, is_observed}
use Rattle.vrt_model.specs.State.{Setting}

-- ---- from store to store

pub keeps_then : (a b c : Diagrams) → KeepsWords a b → KeepsWords b c → KeepsWords a c
keeps_then a b c f s = record { adds = adds_then a b c b.words c.words f.adds s.adds; len = s.len ∙ f.len }

pub same_vars : (old new : Diagrams) (words : List ℕ) → Adds old new words → new.vars ≡ old.vars
same_vars old new words adds = ap (λ (d : Diagrams). d.vars) adds.rest

-- operations after words were written
pub counts_after : {A : Type 0} (n : ℕ) (old mid new : Diagrams) (r : Result A Spent) → mid ≡ record old { words = mid.words } → Counts mid.vars n mid new r → Counts old.vars n old new r
counts_after {A} n old mid new r rest counts =
    let vars : mid.vars ≡ old.vars = ap (λ (d : Diagrams). d.vars) rest in
    let budget : mid.budget ≡ old.budget = ap (λ (d : Diagrams). d.budget) rest in
    let nodes : mid.nodes ≡ old.nodes = ap (λ (d : Diagrams). d.nodes) rest in
    let here : Counts {A = A} old.vars n mid new r = subst (λ (u : ℕ). Counts {A = A} u n mid new r) vars counts in
    counts_more old.vars (0 + n) n old new r (omega arith) (counts_then old.vars 0 n old mid new r (counted_same old.vars old mid budget nodes) here)

-- more operations are allowed, and another answer
pub counts_first : {A B : Type 0} (u a b : ℕ) (old new : Diagrams) (x : A) (y : B) → a ≤ b → Counts u a old new (Ok x) → Counts u b old new (Ok y)
counts_first u a b old new x y le counts = counts_more u a b old new (Ok y) le (counts_value u a old new x y counts)

pub refused_first : {A B : Type 0} (u a b : ℕ) (old new : Diagrams) (e : Spent) → a ≤ b → Counts {A = A} u a old new (Err e) → Counts {A = B} u b old new (Err e)
refused_first {A} {B} u a b old new e le counts = counts_more u a b old new (Err e) le (counts_err u a old new e counts)

-- operations at all variables of the store, and then others
pub counts_both : {A B : Type 0} (a b all : ℕ) (old mid new : Diagrams) (x : A) (r : Result B Spent) → a + b ≤ all → mid.vars ≡ old.vars → Counts old.vars a old mid (Ok x)
    → Counts mid.vars b mid new r → Counts old.vars all old new r
counts_both {A} {B} a b all old mid new x r le vars first second =
    let here : Counts {A = B} old.vars b mid new r = subst (λ (u : ℕ). Counts {A = B} u b mid new r) vars second in
    counts_more old.vars (a + b) all old new r le (counts_then old.vars a b old mid new r first.added here)

module _ (k : Comparison) (phase : ℕ) (nets : List ℕ) (n : ℕ) (care : H) (old mid new : Diagrams) (same : (v : Valuation) → function_of mid care v ≡ function_of old care v) where
  pub somewhere_from : (So : List Bool → Type 0) (at : H) → IsSomewhere k phase nets n So care at mid new → IsSomewhere k phase nets n So care at old new
  somewhere_from So at is = record { live = is.live; some = is.some; within = λ v e. sym (same v) ∙ is.within v e; so = is.so }

  pub settles_from : (settings : List Bool → Setting) (gates : Span) (found : Option H) → SettlesAt k phase nets n settings care gates mid new found
      → SettlesAt k phase nets n settings care gates old new found
  settles_from settings gates None is = λ bits at met. is bits at (same (begun_at k phase nets bits) ∙ met)
  settles_from settings gates (Some at) is = somewhere_from (λ bits. ¬ Settles k phase (settings bits)) at is

  pub step_from : (found : Option H) → StepGives k phase nets n care mid new found → StepGives k phase nets n care old new found
  step_from None is = λ bits at met. is bits at (same (begun_at k phase nets bits) ∙ met)
  step_from (Some at) is = somewhere_from (FailsAt k phase nets n) at is

  pub settles_all : (settings : List Bool → Setting) (setting gates : Span) → GivesSettings k phase nets n settings setting mid → (result : Result (Option H) Spent)
      → IfOk result (λ found. (m : ℕ) (all : List Bool → Setting) → GivesSettings k phase nets m all setting mid → SettlesAt k phase nets m all care gates mid new found)
      → IfOk result (SettlesAt k phase nets n settings care gates old new)
  settles_all settings setting gates gives (Ok found) is = settles_from settings gates found (is n settings gives)
  settles_all settings setting gates gives (Err e) is = tt

  pub steps_from : (result : Result (Option H) Spent) → IfOk result (StepGives k phase nets n care mid new) → IfOk result (StepGives k phase nets n care old new)
  steps_from (Ok found) is = step_from found is
  steps_from (Err e) is = tt

-- steps of which something is so fail
somewhere_fails : (k : Comparison) (phase : ℕ) (nets : List ℕ) (n : ℕ) (care : H) (old new : Diagrams) (So : List Bool → Type 0) (at : H) → ((bits : List Bool) → IsStepAt k phase nets n bits → So bits → FailsAt k phase nets n bits)
    → IsSomewhere k phase nets n So care at old new → IsSomewhere k phase nets n (FailsAt k phase nets n) care at old new
somewhere_fails k phase nets n care old new So at to is = record { live = is.live; some = is.some; within = is.within; so = λ bits step e. to bits step (is.so bits step e) }

-- ---- a net that rose in the roots

pub raised_shown : (setting : Span) (net : ℕ) (old new : Diagrams) → Writes setting old new → word_at new setting net ≡ 1 → ((m : ℕ) → m ≢ net → word_at new setting m ≡ word_at old setting m)
    → IsFilled old setting → (m : ℕ) (v : Valuation) → m < setting.len → shows new setting m v ≡ cond (eqb net m) true (shows old setting m v)
raised_shown setting net old new writes here apart filled m v lt =
    elim (cases_Bool (eqb net m)) [
      | inl e ↦
          subst (λ (x : ℕ). shows new setting x v ≡ true) (eqb-true net m e) (ap (λ (h : ℕ). meaning new.nodes h v) here ∙ meaning_one new.nodes v)
          ∙ sym (ap (λ (t : Bool). cond t true (shows old setting m v)) e)
      | inr e ↦
          shows_kept setting setting old new m v writes (apart m (λ x. false≢true (sym e ∙ eq-eqb net m (sym x)))) (filled m lt)
          ∙ sym (ap (λ (t : Bool). cond t true (shows old setting m v)) e)
    ]

-- roots that stay give the same settings
pub gives_stay : (k : Comparison) (phase : ℕ) (nets : List ℕ) (n : ℕ) (settings : List Bool → Setting) (roots : Span) (old new : Diagrams) → roots.len ≡ length k.circuit.nets → StaysFilled roots old new
    → GivesSettings k phase nets n settings roots old → GivesSettings k phase nets n settings roots new
gives_stay k phase nets n settings roots old new len stays gives = record {
  given = λ bits at. record {
    inputs = λ m net e kind.
        (gives.given bits at).inputs m net e kind ∙ sym (stays.shown m (begun_at k phase nets bits) (let lt = slice_get_within k.circuit.nets m net e in omega (arith, lt, len)));
    held = λ place hold e plain.
        (gives.given bits at).held place hold e plain
        ∙ sym (stays.shown hold.net.0 (begun_at k phase nets bits) (let lt = slice_get_within k.circuit.nets hold.net.0 plain.0 plain.1 in omega (arith, lt, len)));
  };
  fixed = λ v m b f. stays.shown m v (let lt = slice_get_within k.circuit.nets m f.0 f.1 in omega (arith, lt, len)) ∙ gives.fixed v m b f;
}

pub stays_then : (span : Span) (old mid new : Diagrams) → StaysFilled span old mid → StaysFilled span mid new → StaysFilled span old new
stays_then span old mid new f s = record { live = s.live; shown = λ n v lt. s.shown n v lt ∙ f.shown n v lt }

-- ---- the bits of observed nets

settles_same : (k : Comparison) (phase : ℕ) (s : Setting) (f g : ℕ → Bool) → ((m : ℕ) → is_observed k phase m ≡ true → f m ≡ g m) → SettlesTo k phase s f → SettlesTo k phase s g
settles_same k phase s f g same to = record { settles = to.settles; shown = λ a solves m seen. to.shown a solves m seen ∙ ap (λ (b : Bool). Some b) (same m seen) }

-- ---- two settings

module _ (k : Comparison) (phase : ℕ) (nets : List ℕ) (n : ℕ) (care : H) (seen : (m : ℕ) → is_observed k phase m ≡ true → m < length k.circuit.nets) where
  module _ (old mid new : Diagrams) (cared : (v : Valuation) → function_of mid care v ≡ function_of old care v) (care_new : (v : Valuation) → function_of new care v ≡ function_of old care v) where
    -- it does not settle where the step begins
    pub fails_before : (gates : Span) (at : H) → SettlesAt k phase nets n (start_at k phase nets) care gates old mid (Some at) → IsSomewhere k phase nets n (FailsAt k phase nets n) care at old mid
    fails_before gates at is =
        somewhere_fails k phase nets n care old mid (λ bits. ¬ Settles k phase (start_at k phase nets bits)) at (λ bits step never. fails_at k phase nets n bits step (NotBefore never)) is

    -- nor with the net risen at once
    pub fails_together : (gates : Span) (at : H) → SettlesAt k phase nets n (together_at k phase nets n) care gates mid new (Some at) → IsSomewhere k phase nets n (FailsAt k phase nets n) care at old new
    fails_together gates at is =
        somewhere_from k phase nets n care old mid new cared (FailsAt k phase nets n) at
        (somewhere_fails k phase nets n care mid new (λ bits. ¬ Settles k phase (together_at k phase nets n bits)) at (λ bits step never. fails_at k phase nets n bits step (NotAtOnce never)) is)

    pub settled_twice : (setting rose together : Span) → rose.len ≡ length k.circuit.nets → SettlesAt k phase nets n (start_at k phase nets) care rose old mid None → StaysFilled rose mid new
        → SettlesAt k phase nets n (together_at k phase nets n) care together mid new None → GivesSettings k phase nets n (together_at k phase nets n) setting new
        → IsSettledTwice k phase nets n care setting rose together new
    settled_twice setting rose together len before stays risen gives = record {
      gives = gives;
      before = λ bits step met.
          settles_same k phase (start_at k phase nets bits) (net_bits k phase nets mid rose bits) (net_bits k phase nets new rose bits)
          (λ m o. sym (stays.shown m (begun_at k phase nets bits) (let lt = seen m o in omega (arith, lt, len)))) (before bits step (sym (care_new (begun_at k phase nets bits)) ∙ met));
      risen = λ bits step met. risen bits step (cared (begun_at k phase nets bits) ∙ sym (care_new (begun_at k phase nets bits)) ∙ met);
    }

    pub twice_gives : (setting rose together : Span) → rose.len ≡ length k.circuit.nets → SettlesAt k phase nets n (start_at k phase nets) care rose old mid None → StaysFilled rose mid new
        → GivesSettings k phase nets n (together_at k phase nets n) setting new → (result : Result (Option H) Spent)
        → IfOk result (SettlesAt k phase nets n (together_at k phase nets n) care together mid new) → IfOk result (TwiceGives k phase nets n care setting rose together old new)
    twice_gives setting rose together len before stays gives (Ok None) risen = settled_twice setting rose together len before stays risen gives
    twice_gives setting rose together len before stays gives (Ok (Some at)) is = fails_together together at is
    twice_gives setting rose together len before stays gives (Err e) is = tt

  -- ---- the third

  -- from the first store the holds took their bits, then the circuit settled, and then the bits were compared
  module _ (setting rose together : Span) (first old mid new : Diagrams) (twice : IsSettledTwice k phase nets n care setting rose together first)
      (care_old : (v : Valuation) → function_of old care v ≡ function_of first care v) (care_mid : (v : Valuation) → function_of mid care v ≡ function_of first care v) where
    abbrev after : List Bool → Setting
    after = after_at k phase nets n (net_bits k phase nets first rose)

    pub fails_after : (gates : Span) (at : H) → SettlesAt k phase nets n after care gates old mid (Some at) → IsSomewhere k phase nets n (FailsAt k phase nets n) care at first mid
    fails_after gates at is = record {
      live = is.live;
      some = is.some;
      within = λ v e. sym (care_old v) ∙ is.within v e;
      so = λ bits step e.
          let met = sym (care_old (begun_at k phase nets bits)) ∙ is.within (begun_at k phase nets bits) e in
          fails_at k phase nets n bits step (NotAfter (net_bits k phase nets first rose bits) (twice.before bits step met) (is.so bits step e));
    }

    module _ (len : together.len ≡ length k.circuit.nets) (settled : SettlesAt k phase nets n after care rose old mid None) (stays : StaysFilled together old mid) (kept : StaysFilled together first old)
        (observed : ℕ → Bool) (same : observed ≡ is_observed k phase) where
      -- the bits with all risen at once are there still
      together_stays : (m : ℕ) (v : Valuation) → is_observed k phase m ≡ true → shows mid together m v ≡ shows first together m v
      together_stays m v o =
          let lt = seen m o in let below : m < together.len = omega (arith, lt, len) in stays.shown m v below ∙ kept.shown m v below

      pub all_hold : AreAlike observed (function_of mid care) rose together mid → StepGives k phase nets n care first new None
      all_hold alike bits step met = holds_at k phase nets n bits step (record {
        first = net_bits k phase nets first rose bits;
        after = net_bits k phase nets mid rose bits;
        once = net_bits k phase nets first together bits;
        start = twice.before bits step met;
        rose = settled bits step (care_old (begun_at k phase nets bits) ∙ met);
        together = twice.risen bits step met;
        alike = λ m o. alike m (begun_at k phase nets bits) (ap (λ (f : ℕ → Bool). f m) same ∙ o) (care_mid (begun_at k phase nets bits) ∙ met) ∙ together_stays m (begun_at k phase nets bits) o;
      })

      pub fails_alike : (at : H) → IsDifference observed (function_of mid care) rose together at mid new → IsSomewhere k phase nets n (FailsAt k phase nets n) care at first new
      fails_alike at is =
          let o : is_observed k phase is.net ≡ true = sym (ap (λ (f : ℕ → Bool). f is.net) same) ∙ is.seen in
          record {
            live = is.live;
            some = is.some;
            within = λ v e. sym (care_mid v) ∙ ((is.exact v).0 e).0;
            so = λ bits step e.
                let there = (is.exact (begun_at k phase nets bits)).0 e in
                let met = sym (care_mid (begun_at k phase nets bits)) ∙ there.0 in
                fails_at k phase nets n bits step
                (NotAlike (net_bits k phase nets first rose bits) (net_bits k phase nets mid rose bits) (net_bits k phase nets first together bits) is.net (twice.before bits step met) (settled bits step (care_old (begun_at k phase nets bits) ∙ met))
                (twice.risen bits step met) o (λ x. there.1 (x ∙ sym (together_stays is.net (begun_at k phase nets bits) o))));
          }

      pub step_gives : (result : Result (Option H) Spent) → IfOk result (DifferGives observed (function_of mid care) rose together mid new)
          → IfOk result (StepGives k phase nets n care first new)
      step_gives (Ok None) is = all_hold is
      step_gives (Ok (Some at)) is = fails_alike at is
      step_gives (Err e) is = tt
