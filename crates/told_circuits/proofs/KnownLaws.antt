-- Which nets are known can be told: nets that show a bit in the greatest shut set of a table are learned one by one, until there is none.
use Rattle.std.proofs.Common.{◌≡◌, ℕ, ◌<◌, ◌+◌, ◌⊎◌, ◌==◌, Bool, true, false, List, length, None, Option, Some, ap, arith, refl, subst, sym, ◌∙◌, inl, inr}
use Rattle.std.specs.Prelude.{cond}
use Rattle.std.proofs.lemmas.Bool.{and_parts, cases_eq, eq-eqb, ne_eqb}
use Rattle.std.proofs.lemmas.Option.{none-some, same_Some}
use Rattle.known_nets.proofs.KnownOnce.{closed_has_all, known_once, shows_there}
use Rattle.known_nets.proofs.ShutLaws.{has_number_is}
use Rattle.known_nets.proofs.TableLaws.{fixed_has, fixed_known, fixed_table}
use Rattle.known_nets.specs.KnownTables.{AreKnown, HasFixedNets, IsClosedTable, IsKnownTable, known_at}
use Rattle.known_nets.specs.Wired.{IsWired}
use Rattle.told_circuits.proofs.Decisions.{IsDecided, both_decided, listed, none_decided, some_in}
use Rattle.told_circuits.proofs.Falling.{left_there, until_done, without, without_fewer}
use Rattle.told_circuits.proofs.GreatestShut.{bits_of, bits_read, greatest, plain_listed, plain_nets, unopened_gates, unopened_shut}
use Rattle.vrt_model.proofs.Decidable.{some_response}
use Rattle.vrt_model.proofs.Laws.{one_response}
use Rattle.vrt_model.proofs.Networks.{network_finite}
use Rattle.vrt_model.specs.Known.{IsKnown, IsPlain, settled}
use Rattle.vrt_model.specs.Levels.{source_level}
use Rattle.vrt_model.specs.Lists.{Among, has_number}
use Rattle.vrt_model.specs.Path.{Network}
use Rattle.vrt_model.specs.Response.{Fight, Float, IsResponse, Response, Shows}
use Rattle.vrt_model.specs.State.{network_of}
use Rattle.vrt_model.specs.declared.circuit.Circuit.{Circuit}
use Rattle.vrt_model.specs.declared.rules.Phase.{Phase}

-- a net has one bit and no other response, or not
shows_decided : (w : Network) (n : ℕ) → (r : Response) × IsResponse w n r → IsDecided ((v : Bool) × IsResponse w n (Shows v))
shows_decided w n (Fight, is) = inr (λ h. not_shown (one_response w n Fight (Shows h.0) is h.1))
  where
    not_shown : {v : Bool} → Fight ≡ Shows v → ⊥
    not_shown e = cc
shows_decided w n (Float, is) = inr (λ h. not_shown (one_response w n Float (Shows h.0) is h.1))
  where
    not_shown : {v : Bool} → Float ≡ Shows v → ⊥
    not_shown e = cc
shows_decided w n (Shows v, is) = inl (v, is)

-- one bit more in a table
abbrev with_bit : (ℕ → Option Bool) → ℕ → Bool → ℕ → Option Bool
with_bit known n v m = cond (m == n) (Some v) (known m)

bit_there : (known : ℕ → Option Bool) (n : ℕ) (v : Bool) (m : ℕ) → m ≡ n → with_bit known n v m ≡ Some v
bit_there known n v m e = ap (λ (b : Bool). cond b (Some v) (known m)) (eq-eqb m n e)

bit_elsewhere : (known : ℕ → Option Bool) (n : ℕ) (v : Bool) (m : ℕ) → (¬ (m ≡ n)) → with_bit known n v m ≡ known m
bit_elsewhere known n v m other = ap (λ (b : Bool). cond b (Some v) (known m)) (ne_eqb m n other)

-- a table, and the plain nets that it may not know
record Table : Type 0 where
  known : ℕ → Option Bool
  left : List ℕ

module _ (c : Circuit) (phase : Phase) (wired : IsWired c) where
  -- the circuit with the known bits of a table, and 0 elsewhere
  abbrev view : (ℕ → Option Bool) → Network
  view known = network_of c true (λ k. false) (record { reading = bits_of known; driven = λ k. false })

  -- the table has the supplies and clock ports and known nets alone, and the list what it does not know
  record IsTable (t : Table) : Type 0 where
    has : HasFixedNets c phase t.known
    are : AreKnown c phase t.known
    rest : (n : ℕ) → IsPlain c n → t.known n ≡ None → Among t.left n

  -- the net is in the greatest shut set, is not known, and shows a bit
  abbrev IsLearned : (ℕ → Option Bool) → ℕ → Type 0
  IsLearned known n = Among (greatest c phase known).0 n × ((known n ≡ None) × ((v : Bool) × IsResponse (view known) n (Shows v)))

  learned_decided : (known : ℕ → Option Bool) (n : ℕ) → IsDecided (IsLearned known n)
  learned_decided known n =
      both_decided (Among (greatest c phase known).0 n) ((known n ≡ None) × ((v : Bool) × IsResponse (view known) n (Shows v)))
      (listed (greatest c phase known).0 n)
      (both_decided (known n ≡ None) ((v : Bool) × IsResponse (view known) n (Shows v)) (none_decided (known n))
      (shows_decided (view known) n
      (some_response (view known) (length c.nets) (source_level c) (network_finite c true (λ k. false) (record { reading = bits_of known; driven = λ k. false }) wired.ranges) n)))

  -- so it is known
  learned_known : (t : Table) → IsTable t → (n : ℕ) (h : IsLearned t.known n) → IsKnown c phase n h.1.1.0
  learned_known t is n h =
      let set = greatest c phase t.known in
      let gates = unopened_gates c phase t.known set.0 set.2 in
      settled (has_number set.0) (bits_of t.known) (λ k. false) (λ k. false)
      (unopened_shut c phase t.known set.0 set.1 set.2) ((has_number_is set.0 n).1 h.0) (bits_read c phase t.known is.has)
      (λ m l d ins there j. is.are d.gate.0 (bits_of t.known d.gate.0) (gates m l d ins there j)) h.1.1.1

  -- and may be put into the table
  abbrev learned : Table → ℕ → Bool → Table
  learned t n v = record { known = with_bit t.known n v; left = without n t.left }

  learned_table : (t : Table) → IsTable t → (n : ℕ) (v : Bool) → t.known n ≡ None → IsKnown c phase n v → IsTable (learned t n v)
  learned_table t is n v none known_v = record {
    has = λ m u f. stays m u (is.has m u f);
    are = λ m u e. elim (cases_eq m n) [
      | inl same ↦
          let bit : v ≡ u = same_Some v u (sym (bit_there t.known n v m same) ∙ e) in
          subst (λ (x : ℕ). IsKnown c phase x u) (sym same) (subst (IsKnown c phase n) bit known_v)
      | inr other ↦ is.are m u (sym (bit_elsewhere t.known n v m other) ∙ e)
    ];
    rest = λ m p e. elim (cases_eq m n) [
      | inl same ↦ absurd (none-some v (sym e ∙ bit_there t.known n v m same))
      | inr other ↦ left_there n t.left m (is.rest m p (sym (bit_elsewhere t.known n v m other) ∙ e)) other
    ];
  }
    where
      stays : (m : ℕ) (u : Bool) → t.known m ≡ Some u → with_bit t.known n v m ≡ Some u
      stays m u e = elim (cases_eq m n) [
        | inl same ↦ absurd (none-some u (sym none ∙ (ap t.known (sym same) ∙ e)))
        | inr other ↦ bit_elsewhere t.known n v m other ∙ e
      ]

  -- where none of the list is learned, the table is closed
  none_learned : (t : Table) → IsTable t → ((n : ℕ) → Among t.left n → ¬ IsLearned t.known n) → IsClosedTable c phase t.known
  none_learned t is none inside r held driven shut own bits n v ins shows = by_entry (t.known n) refl
    where
      in_set : Among (greatest c phase t.known).0 n
      in_set = (greatest c phase t.known).1.1 inside r shut bits n ins

      is_known : IsKnown c phase n v
      is_known = settled inside r held driven shut ins own (λ m l d i there j. is.are d.gate.0 (r d.gate.0) (bits m l d i there j)) shows

      there : IsResponse (view t.known) n (Shows v)
      there =
          let set = greatest c phase t.known in
          let gates = unopened_gates c phase t.known set.0 set.2 in
          shows_there c phase wired inside (has_number set.0) r held driven (bits_of t.known) (λ k. false) (λ k. false) n v shut
          (unopened_shut c phase t.known set.0 set.1 set.2)
          (λ m l d i among j.
          let both = and_parts (inside m) (has_number set.0 m) i in
          same_Some (r d.gate.0) (bits_of t.known d.gate.0) (sym (bits m l d both.0 among j) ∙ gates m l d both.1 among j))
          own (bits_read c phase t.known is.has) ins ((has_number_is set.0 n).1 in_set) shows

      by_entry : (o : Option Bool) → t.known n ≡ o → t.known n ≡ Some v
      by_entry None e = absurd (none n (is.rest n (shut.plain n ins).0 e) (in_set, (e, (v, there))))
      by_entry (Some u) e = e ∙ ap (λ (b : Bool). Some b) (known_once c phase wired n u v (is.are n u e) is_known)

  step : (t : Table) → IsTable t → IsClosedTable c phase t.known ⊎ ((u : Table) × IsTable u × (length u.left < length t.left))
  step t is =
      elim (some_in (IsLearned t.known) (learned_decided t.known) t.left) [
        | inl h ↦
            let known_v = learned_known t is h.0 h.2 in
            inr (learned t h.0 h.2.1.1.0, learned_table t is h.0 h.2.1.1.0 h.2.1.0 known_v, without_fewer h.0 t.left h.1)
        | inr none ↦ inl (none_learned t is (λ n there l. none (n, there, l)))
      ]

  last : (t : Table) × IsTable t × IsClosedTable c phase t.known
  last =
      until_done (λ (t : Table). length t.left) IsTable (λ (t : Table). IsClosedTable c phase t.known) step (length (plain_nets c) + 1)
      (record { known = known_at (fixed_table c phase); left = plain_nets c }) (omega arith)
      (record { has = fixed_has c phase; are = fixed_known c phase; rest = λ n p e. (plain_listed c n).1 p })

  -- so a table has exactly the known nets
  pub told_table : (known : ℕ → Option Bool) × IsKnownTable c phase known
  told_table =
      (last.0.known, λ n v. (last.1.are n v, closed_has_all c phase last.0.known last.1.has last.2 n v))
