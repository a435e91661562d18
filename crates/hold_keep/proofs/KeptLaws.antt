-- The faults of a net in the kept circuit, operation by operation.
use Rattle.std.proofs.Common.{◌≡◌, ℕ, ◌&&◌, ◌||◌, Bool, true, false, cond, not, Result, Ok, Err, ap, ap₂, refl, ◌∙◌}
use Rattle.bdd_core.specs.Diagram.{Function, IsSame, IsWithin, Valuation, choice}
use Rattle.bdd_core.specs.Store.{Diagrams, IsLive, function_of, Gives}
use Rattle.bdd_core.specs.declared.handle.H.{H}
use Rattle.bdd_core.specs.declared.handle.Spent.{Spent}
use Rattle.bdd_ops.proofs.WithinLaws.{within_choice, within_implies, within_same}
use Rattle.bdd_ops.specs.Ops.{and_of, implies_of}
use Rattle.bdd_core.proofs.Frames.{gives_next, gives_refused, handle_stays}
use Rattle.hold_keep.specs.Kept.{KeptGive, fails_of, fight_of, is_bit, is_fight, unsettled_of}
use Rattle.vrt_model.specs.Signals.{response_by}

-- ---- bits

fights : (zero one : Bool) → (zero && one) ≡ is_fight (response_by zero one)
fights true true = refl
fights true false = refl
fights false true = refl
fights false false = refl

fails_bit : (wanted zero one : Bool) → (not (cond wanted one zero) || cond wanted zero one) ≡ not (is_bit wanted (response_by zero one))
fails_bit true true true = refl
fails_bit true true false = refl
fails_bit true false true = refl
fails_bit true false false = refl
fails_bit false true true = refl
fails_bit false true false = refl
fails_bit false false true = refl
fails_bit false false false = refl

-- ---- handles after an operation

module _ (a b : Diagrams) (f : Function) (r : Result H Spent) (first : Gives a b f r) (u : ℕ) (h : H) (live : IsLive a h) where
  pub reads_after : IsWithin u (function_of a h) → IsWithin u (function_of b h)
  reads_after reads = within_same u (function_of a h) (function_of b h) (first.adds.kept h.0 live) reads

-- ---- fights

module _ (a b c : Diagrams) (care zero one both : H) (r : Result H Spent) (care_live : IsLive a care)
    (first : Gives a b (and_of (function_of a zero) (function_of a one)) (Ok both)) where
  pub fight_last : Gives b c (and_of (function_of b care) (function_of b both)) r → Gives a c (fight_of (function_of a care) (function_of a zero) (function_of a one)) r
  fight_last last =
      gives_next a b c (and_of (function_of a zero) (function_of a one)) (and_of (function_of b care) (function_of b both))
      (fight_of (function_of a care) (function_of a zero) (function_of a one)) both r first last
      (λ v. ap₂ (λ (x y : Bool). x && y) (first.adds.kept care.0 care_live v) (first.ok.same v ∙ fights (function_of a zero v) (function_of a one v)))

-- ---- what is not settled

module _ (a b c d : Diagrams) (wanted zero one right other : H) (r : Result H Spent) (wanted_live : IsLive a wanted) (zero_live : IsLive a zero) (one_live : IsLive a one)
    (first : Gives a b (choice (function_of a wanted) (function_of a one) (function_of a zero)) (Ok right))
    (second : Gives b c (choice (function_of b wanted) (function_of b zero) (function_of b one)) (Ok other)) where
  right_is : (v : Valuation) → function_of c right v ≡ cond (function_of a wanted v) (function_of a one v) (function_of a zero v)
  right_is v = second.adds.kept right.0 first.ok.live v ∙ first.ok.same v

  other_first : (v : Valuation)
      → cond (function_of b wanted v) (function_of b zero v) (function_of b one v) ≡ cond (function_of a wanted v) (function_of a zero v) (function_of a one v)
  other_first v =
      ap (λ (x : Bool). cond x (function_of b zero v) (function_of b one v)) (first.adds.kept wanted.0 wanted_live v)
      ∙ ap₂ (λ (x y : Bool). cond (function_of a wanted v) x y) (first.adds.kept zero.0 zero_live v) (first.adds.kept one.0 one_live v)

  other_is : (v : Valuation) → function_of c other v ≡ cond (function_of a wanted v) (function_of a zero v) (function_of a one v)
  other_is v = second.ok.same v ∙ other_first v

  pub fails_last : Gives c d (implies_of (function_of c right) (function_of c other)) r → Gives a d (fails_of (function_of a wanted) (function_of a zero) (function_of a one)) r
  fails_last last =
      gives_next a c d (choice (function_of a wanted) (function_of a zero) (function_of a one)) (implies_of (function_of c right) (function_of c other))
      (fails_of (function_of a wanted) (function_of a zero) (function_of a one)) other r
      (gives_next a b c (choice (function_of a wanted) (function_of a one) (function_of a zero)) (choice (function_of b wanted) (function_of b zero) (function_of b one))
      (choice (function_of a wanted) (function_of a zero) (function_of a one)) right (Ok other) first second other_first)
      last (λ v. ap₂ (λ (x y : Bool). not x || y) (right_is v) (other_is v))

  module _ (u : ℕ) (wanted_reads : IsWithin u (function_of a wanted)) (zero_reads : IsWithin u (function_of a zero)) (one_reads : IsWithin u (function_of a one)) where
    pub right_reads : IsWithin u (function_of c right)
    right_reads =
        within_same u (choice (function_of a wanted) (function_of a one) (function_of a zero)) (function_of c right) right_is
        (within_choice u (function_of a wanted) (function_of a one) (function_of a zero) wanted_reads one_reads zero_reads)

    pub other_reads : IsWithin u (function_of c other)
    other_reads =
        within_same u (choice (function_of a wanted) (function_of a zero) (function_of a one)) (function_of c other) other_is
        (within_choice u (function_of a wanted) (function_of a zero) (function_of a one) wanted_reads zero_reads one_reads)

pub fails_within : (u : ℕ) (w f g : Function) → IsWithin u w → IsWithin u f → IsWithin u g → IsWithin u (fails_of w f g)
fails_within u w f g wanted zero one = within_implies u (choice w g f) (choice w f g) (within_choice u w g f wanted one zero) (within_choice u w f g wanted zero one)

pub unsettled_last : (a b c : Diagrams) (care wanted zero one fails : H) (r : Result H Spent) → IsLive a care
    → Gives a b (fails_of (function_of a wanted) (function_of a zero) (function_of a one)) (Ok fails) → Gives b c (and_of (function_of b care) (function_of b fails)) r
    → Gives a c (unsettled_of (function_of a care) (function_of a wanted) (function_of a zero) (function_of a one)) r
unsettled_last a b c care wanted zero one fails r live first last =
    gives_next a b c (fails_of (function_of a wanted) (function_of a zero) (function_of a one)) (and_of (function_of b care) (function_of b fails))
    (unsettled_of (function_of a care) (function_of a wanted) (function_of a zero) (function_of a one)) fails r first last
    (λ v. ap₂ (λ (x y : Bool). x && y) (first.adds.kept care.0 live v) (first.ok.same v ∙ fails_bit (function_of a wanted v) (function_of a zero v) (function_of a one v)))

-- ---- both

-- a first refusal
pub kept_refused : (a b : Diagrams) (f fight unsettled : Function) (s : Spent) → Gives a b f (Err s) → KeptGive a b fight unsettled (Err s)
kept_refused a b f fight unsettled s first = record { adds = first.adds; ok = tt; spent = first.spent }

-- the same function of handles that stay
unsettled_same : (care care' wanted wanted' zero zero' one one' : Function) → IsSame care' care → IsSame wanted' wanted → IsSame zero' zero → IsSame one' one
    → IsSame (unsettled_of care' wanted' zero' one') (unsettled_of care wanted zero one)
unsettled_same care care' wanted wanted' zero zero' one one' p q s t v =
    ap₂ (λ (x y : Bool). x && y) (p v)
    (ap (λ (x : Bool). not (is_bit x (response_by (zero' v) (one' v)))) (q v) ∙ ap₂ (λ (x y : Bool). not (is_bit (wanted v) (response_by x y))) (s v) (t v))

module _ (a b c : Diagrams) (care wanted zero one fight : H) (f : Function) (care_live : IsLive a care) (wanted_live : IsLive a wanted) (zero_live : IsLive a zero) (one_live : IsLive a one)
    (first : Gives a b f (Ok fight)) where
  same : IsSame (unsettled_of (function_of b care) (function_of b wanted) (function_of b zero) (function_of b one))
      (unsettled_of (function_of a care) (function_of a wanted) (function_of a zero) (function_of a one))
  same = unsettled_same (function_of a care) (function_of b care) (function_of a wanted) (function_of b wanted) (function_of a zero) (function_of b zero) (function_of a one) (function_of b one)
      (first.adds.kept care.0 care_live) (first.adds.kept wanted.0 wanted_live) (first.adds.kept zero.0 zero_live) (first.adds.kept one.0 one_live)

  pub second_refused : (s : Spent) → Gives b c (unsettled_of (function_of b care) (function_of b wanted) (function_of b zero) (function_of b one)) (Err s)
      → KeptGive a c f (unsettled_of (function_of a care) (function_of a wanted) (function_of a zero) (function_of a one)) (Err s)
  second_refused s second =
      kept_refused a c f f (unsettled_of (function_of a care) (function_of a wanted) (function_of a zero) (function_of a one)) s
      (gives_refused a b c f (unsettled_of (function_of b care) (function_of b wanted) (function_of b zero) (function_of b one)) f fight s first second)

  pub both_given : (unsettled : H) → Gives b c (unsettled_of (function_of b care) (function_of b wanted) (function_of b zero) (function_of b one)) (Ok unsettled)
      → KeptGive a c f (unsettled_of (function_of a care) (function_of a wanted) (function_of a zero) (function_of a one)) (Ok (record { fight = fight; unsettled = unsettled }))
  both_given unsettled second =
      let all = gives_next a b c f (unsettled_of (function_of b care) (function_of b wanted) (function_of b zero) (function_of b one))
      (unsettled_of (function_of a care) (function_of a wanted) (function_of a zero) (function_of a one)) fight (Ok unsettled) first second same in
      let stays = handle_stays b c b.words second.adds fight first.ok.live in
      record {
        adds = all.adds;
        ok = (record { live = stays.0; same = λ v. stays.1 v ∙ first.ok.same v }, all.ok);
        spent = tt;
      }
