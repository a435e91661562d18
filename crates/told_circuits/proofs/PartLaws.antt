-- Which nets are in one part can be told: nets that a channel joins to the part are taken out of the others until there is none.
use Rattle.std.proofs.Common.{◌≡◌, ℕ, ◌<◌, ◌+◌, ◌⊎◌, Bool, true, List, length, None, Option, Some, arith, refl, subst, sym, ◌∙◌, inl, inr}
use Rattle.std.proofs.lemmas.Bool.{cases_eq}
use Rattle.std.proofs.lemmas.Option.{none-some, same_Some}
use Rattle.known_nets.specs.KnownTables.{IsKnownTable}
use Rattle.told_circuits.proofs.Decisions.{IsDecided, as_decided, both_decided, decided_by, listed, not_decided, some_end, some_in}
use Rattle.told_circuits.proofs.Falling.{left_of, left_there, until_done, without, without_fewer}
use Rattle.told_circuits.proofs.GreatestShut.{plain_decided, plain_listed, plain_nets}
use Rattle.vrt_model.proofs.Laws.{turned}
use Rattle.vrt_model.specs.Known.{IsKnown, IsPlain, IsTogether, IsUnknown, itself, onward}
use Rattle.vrt_model.specs.Lists.{Among}
use Rattle.vrt_model.specs.Path.{Joins}
use Rattle.vrt_model.specs.Reading.{conducts_at, devices_of}
use Rattle.vrt_model.specs.declared.circuit.Circuit.{Circuit}
use Rattle.vrt_model.specs.declared.circuit.Device.{Device}
use Rattle.vrt_model.specs.declared.rules.Phase.{Phase}

module _ (c : Circuit) (phase : Phase) (known : ℕ → Option Bool) (table : IsKnownTable c phase known) where
  -- a net is not known, or it is
  pub unknown_decided : (n : ℕ) → IsDecided (IsUnknown c phase n)
  unknown_decided n = by_entry (known n) refl
    where
      by_entry : (o : Option Bool) → known n ≡ o → IsDecided (IsUnknown c phase n)
      by_entry None e = inl (λ v is. none-some v (sym e ∙ (table n v).1 is))
      by_entry (Some v) e = inr (λ none. none v ((table n v).0 e))

  -- a gate that is known does not keep its device from conducting
  abbrev MayConduct : Device → Type 0
  MayConduct d = (v : Bool) → IsKnown c phase d.gate.0 v → conducts_at d.kind v ≡ true

  pub may_conduct_decided : (d : Device) → IsDecided (MayConduct d)
  may_conduct_decided d = by_entry (known d.gate.0) refl
    where
      by_entry : (o : Option Bool) → known d.gate.0 ≡ o → IsDecided (MayConduct d)
      by_entry None e = inl (λ v is. absurd (none-some v (sym e ∙ (table d.gate.0 v).1 is)))
      by_entry (Some u) e =
          as_decided (conducts_at d.kind u ≡ true) (MayConduct d)
          (λ on v is. subst (λ (b : Bool). conducts_at d.kind b ≡ true) (same_Some u v (sym e ∙ (table d.gate.0 v).1 is)) on)
          (λ may. may u ((table d.gate.0 u).0 e))
          (decided_by (conducts_at d.kind u ≡ true) (conducts_at d.kind u) (λ t. t, λ t. t))

  -- ---- the part of a net

  module _ (which : Bool) (n : ℕ) (plain_n : IsPlain c n) where
    -- a list of plain nets without the net has all others that are not in its part
    record HasRest (xs : List ℕ) : Type 0 where
      plain : (m : ℕ) → Among xs m → IsPlain c m
      others : ¬ Among xs n
      part : (m : ℕ) → IsPlain c m → (¬ Among xs m) → IsTogether c phase which n m

    -- a channel joins a net of the list to a plain net that is not in it
    abbrev Crosses : List ℕ → Device → ℕ → Type 0
    Crosses xs d m = MayConduct d × ((l : ℕ) × Joins d m l × (IsPlain c l × (¬ Among xs l)))

    abbrev IsCrossed : List ℕ → ℕ → Type 0
    IsCrossed xs m = (d : Device) × Among (devices_of which c) d × Crosses xs d m

    crossed_decided : (xs : List ℕ) (m : ℕ) → IsDecided (IsCrossed xs m)
    crossed_decided xs m =
        some_in (λ (d : Device). Crosses xs d m)
        (λ d. both_decided (MayConduct d) ((l : ℕ) × Joins d m l × (IsPlain c l × (¬ Among xs l))) (may_conduct_decided d)
        (some_end (λ l. IsPlain c l × (¬ Among xs l))
        (λ l. both_decided (IsPlain c l) (¬ Among xs l) (plain_decided c l) (not_decided (Among xs l) (listed xs l))) d m))
        (devices_of which c)

    -- so it is in the part
    crossed_together : (xs : List ℕ) → HasRest xs → (m : ℕ) → Among xs m → IsCrossed xs m → IsTogether c phase which n m
    crossed_together xs has m there h =
        let d = h.0 in
        let l = h.2.1.0 in
        onward d (has.part l h.2.1.2.0 h.2.1.2.1) (h.1, h.2.0) (turned d m l h.2.1.1) (has.plain m there)

    taken_out : (xs : List ℕ) → HasRest xs → (m : ℕ) → IsTogether c phase which n m → HasRest (without m xs)
    taken_out xs has m together = record {
      plain = λ l there. has.plain l (left_of m xs l there).0;
      others = λ there. has.others (left_of m xs n there).0;
      part = λ l p out. elim (cases_eq l m) [
        | inl same ↦ subst (IsTogether c phase which n) (sym same) together
        | inr other ↦ has.part l p (λ there. out (left_there m xs l there other))
      ];
    }

    abbrev IsUncrossed : List ℕ → Type 0
    IsUncrossed xs = (m : ℕ) → Among xs m → ¬ IsCrossed xs m

    step : (xs : List ℕ) → HasRest xs → IsUncrossed xs ⊎ ((ys : List ℕ) × HasRest ys × (length ys < length xs))
    step xs has =
        elim (some_in (IsCrossed xs) (crossed_decided xs) xs) [
          | inl h ↦ inr (without h.0 xs, taken_out xs has h.0 (crossed_together xs has h.0 h.1 h.2), without_fewer h.0 xs h.1)
          | inr none ↦ inl (λ m there crossed. none (m, there, crossed))
        ]

    -- at first the part has the net alone
    first : HasRest (without n (plain_nets c))
    first = record {
      plain = λ m there. (plain_listed c m).0 (left_of n (plain_nets c) m there).0;
      others = λ there. (left_of n (plain_nets c) n there).1 refl;
      part = λ m p out. elim (cases_eq m n) [
        | inl same ↦ subst (IsTogether c phase which n) (sym same) (itself plain_n)
        | inr other ↦ absurd (out (left_there n (plain_nets c) m ((plain_listed c m).1 p) other))
      ];
    }

    rest : (xs : List ℕ) × HasRest xs × IsUncrossed xs
    rest =
        until_done (λ (xs : List ℕ). length xs) HasRest IsUncrossed step (length (without n (plain_nets c)) + 1) (without n (plain_nets c)) (omega arith) first

    -- no net of the part is left
    none_left : (xs : List ℕ) → HasRest xs → IsUncrossed xs → (m : ℕ) → IsTogether c phase which n m → ¬ Among xs m
    none_left xs has uncrossed m (itself p) there = has.others there
    none_left xs has uncrossed m (onward {l = l} d earlier channel j p) there =
        uncrossed m there (d, channel.0, (channel.1, (l, turned d l m j, (plain_of l earlier, none_left xs has uncrossed l earlier))))
      where
        plain_of : (k : ℕ) → IsTogether c phase which n k → IsPlain c k
        plain_of k (itself q) = q
        plain_of k (onward e before on joins q) = q

    in_part : (m : ℕ) → IsDecided (IsPlain c m) → IsDecided (Among rest.0 m) → IsDecided (IsTogether c phase which n m)
    in_part m p (inl there) = inr (λ together. none_left rest.0 rest.1 rest.2 m together there)
    in_part m (inl p) (inr out) = inl (rest.1.part m p out)
    in_part m (inr none) (inr out) = inr (λ together. none (plain_end m together))
      where
        plain_end : (k : ℕ) → IsTogether c phase which n k → IsPlain c k
        plain_end k (itself q) = q
        plain_end k (onward e before on joins q) = q

    pub part_decided : (m : ℕ) → IsDecided (IsTogether c phase which n m)
    part_decided m = in_part m (plain_decided c m) (listed rest.0 m)

  -- two nets are in one part, or they are not
  pub together_decided : (which : Bool) (n m : ℕ) → IsDecided (IsTogether c phase which n m)
  together_decided which n m = by_plain (plain_decided c n)
    where
      plain_first : (k : ℕ) → IsTogether c phase which n k → IsPlain c n
      plain_first k (itself q) = q
      plain_first k (onward {l = l} e earlier on joins q) = plain_first l earlier

      by_plain : IsDecided (IsPlain c n) → IsDecided (IsTogether c phase which n m)
      by_plain (inl p) = part_decided which n p m
      by_plain (inr none) = inr (λ together. none (plain_first m together))
