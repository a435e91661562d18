-- Looking at the region of a net leaves each shut set without waiting nets settled.
use Rattle.std.proofs.Common.{◌≡◌, ℕ, ◌&&◌, Bool, true, false, not, List, [], None, Option, Some, ap, refl, subst, sym, ◌∙◌, inl, inr}
use Rattle.std.specs.Prelude.{is_some, option_map}
use Rattle.std.proofs.lemmas.Bool.{and_from, and_parts, cases_Bool, false≢true, not-true, not_from_false}
use Rattle.std.proofs.lemmas.Option.{same_Some}
use Rattle.known_nets.proofs.KnownOnce.{known_once, shows_there}
use Rattle.known_nets.proofs.NetKinds.{known_reading}
use Rattle.known_nets.proofs.RegionLaws.{region_gates, region_response, region_shut}
use Rattle.known_nets.proofs.ShutLaws.{has_number_is}
use Rattle.known_nets.proofs.TableLaws.{bit_is}
use Rattle.known_nets.specs.Conduction.{conduction_of}
use Rattle.known_nets.specs.KnownTables.{AreKnown, HasFixedNets, HasGateBits, IsClosedTable, known_at}
use Rattle.known_nets.specs.Learned.{bit_shown, shown_of}
use Rattle.known_nets.specs.Regions.{HasKept, HasMarkedEnds, IsOpenAt, IsRegion, IsSettled, IsShutAt, has_amount, known_network, reading_of}
use Rattle.known_nets.specs.Spreads.{IsKnownOn, IsSpread}
use Rattle.known_nets.specs.declared.spread.Spread.TheVariants.{Strength, Value}
use Rattle.known_nets.specs.Wired.{IsWired}
use Rattle.vrt_model.proofs.Filtered.{device_among}
use Rattle.vrt_model.specs.Known.{IsKnown, IsPlain, IsShut, settled}
use Rattle.vrt_model.specs.Lists.{Among, has_number, mark_at}
use Rattle.vrt_model.specs.Reading.{conducts_at}
use Rattle.vrt_model.specs.Response.{IsResponse, Shows}
use Rattle.vrt_model.proofs.Laws.{one_response, turned}
use Rattle.vrt_model.specs.Signals.{response_by}
use Rattle.vrt_model.specs.declared.circuit.Circuit.{Circuit}
use Rattle.vrt_model.specs.declared.rules.Phase.{Phase}

-- what is no mark of the new ones and not in the set is none of the old ones
unmarked_before : (nets : List ℕ) (old new : List Bool) (n : ℕ) → HasKept nets old new → mark_at new n ≡ false → ¬ Among nets n → mark_at old n ≡ false
unmarked_before nets old new n kept none out =
    elim (cases_Bool (mark_at old n)) [
      | inr f ↦ f
      | inl t ↦ elim (kept n t) [ inl e ↦ absurd (false≢true (sym none ∙ e)) | inr i ↦ absurd (out i) ]
    ]

-- where the nets of a region are in no shut set whose gates are known, they need not be looked at
pub settled_open : (c : Circuit) (phase : Phase) (known : List (Option Bool)) (nets : List ℕ) (old new : List Bool) → ((n : ℕ) → Among nets n → IsOpenAt c phase known n) → HasKept nets old new
    → IsSettled c phase known old → IsSettled c phase known new
settled_open c phase known nets old new opens kept before set reading held driven shut own bits none n v ins shows =
    before set reading held driven shut own bits
    (λ m i. unmarked_before nets old new m kept (none m i) (λ r. opens m r set reading shut bits i))
    n v ins shows

module _ (c : Circuit) (phase : Phase) (known more : List (Option Bool)) (wired : IsWired c) (nets : List ℕ) (region : IsRegion c known (has_number nets))
    (shut : IsShut c phase (has_number nets) (reading_of known)) (gates : HasGateBits c (known_at known) (has_number nets) (reading_of known)) (has : HasFixedNets c phase (known_at known))
    (grown : (n : ℕ) (v : Bool) → known_at known n ≡ Some v → known_at more n ≡ Some v)
    (learned : (n : ℕ) (v : Bool) → Among nets n → IsResponse (known_network c known) n (Shows v) → known_at more n ≡ Some v)
    (old new : List Bool) (kept : HasKept nets old new) (ends : HasMarkedEnds c known more new) where
  -- a shut set without waiting nets had its gates known before
  gates_before : (set reading : ℕ → Bool) → IsShut c phase set reading → HasGateBits c (known_at more) set reading → ((n : ℕ) → set n ≡ true → mark_at new n ≡ false) → HasGateBits c (known_at known) set reading
  gates_before set reading closed bits none m l d i a j = by_gate (known_at known d.gate.0) refl
    where
      by_gate : (o : Option Bool) → known_at known d.gate.0 ≡ o → known_at known d.gate.0 ≡ Some (reading d.gate.0)
      by_gate None e =
          let there = device_among true c d a in
          absurd (false≢true (sym (none m i) ∙ ends d m l there.0 j (closed.plain m i).0 e (reading d.gate.0) (bits m l d i a j)))
      by_gate (Some u) e = e ∙ (sym (grown d.gate.0 u e) ∙ bits m l d i a j)

  abbrev inside : ℕ → Bool
  inside n = has_number nets n

  abbrev outside : (ℕ → Bool) → ℕ → Bool
  outside set n = set n && not (inside n)

  -- what of a shut set is not in the region is shut
  outside_shut : (set reading : ℕ → Bool) → IsShut c phase set reading → HasGateBits c (known_at known) set reading → IsShut c phase (outside set) reading
  outside_shut set reading closed bits = record {
    plain = λ n e. closed.plain n (and_parts (set n) (not (inside n)) e).0;
    joined = λ n m d e a j on.
        let both = and_parts (set n) (not (inside n)) e in
        elim (closed.joined n m d both.0 a j on) [
          | inr f ↦ inr f
          | inl i ↦ elim (cases_Bool (inside m)) [
            | inr f ↦ inl (and_from (set m) (not (inside m)) i (not_from_false (inside m) f))
            | inl t ↦
                let there = device_among true c d a in
                let s : conduction_of known d ≡ Some true = ap (option_map (conducts_at d.kind)) (bits n m d both.0 a j) ∙ ap (λ (b : Bool). Some b) on in
                let is_on : IsKnownOn c known d = record { there = there.0; bare = there.1; on = s } in
                let back : inside n ≡ true = region.closed m n d t is_on (turned d n m j) (closed.plain n both.0).0 in
                absurd (false≢true (sym (not-true (inside n) both.1) ∙ back))
          ]
        ];
  }

  -- where the nets of a shut region are learned, and the ends of what they gate are to be looked at, it need not be
  pub settled_shut : IsSettled c phase known old → IsSettled c phase more new
  settled_shut before set reading held driven closed own bits none n v ins shows =
      elim (cases_Bool (inside n)) [
        | inr f ↦ grown n v (before (outside set) reading held driven (outside_shut set reading closed earlier) own
            (λ m l d e a j. earlier m l d (and_parts (set m) (not (inside m)) e).0 a j)
            (λ m e.
            let both = and_parts (set m) (not (inside m)) e in
            unmarked_before nets old new m kept (none m both.0) (λ r. false≢true (sym (not-true (inside m) both.1) ∙ (has_number_is nets m).1 r)))
            n v (and_from (set n) (not (inside n)) ins (not_from_false (inside n) f)) shows)
        | inl t ↦ learned n v ((has_number_is nets n).0 t)
            (shows_there c phase wired set (has_number nets) reading held driven (reading_of known) (λ k. false) (λ k. false) n v closed shut
            (λ m l d e a j.
            let both = and_parts (set m) (inside m) e in
            same_Some (reading d.gate.0) (reading_of known d.gate.0) (sym (earlier m l d both.0 a j) ∙ gates m l d both.1 a j))
            own (known_reading c phase known has) ins t shows)
      ]
    where
      earlier : HasGateBits c (known_at known) set reading
      earlier = gates_before set reading closed bits none

-- ---- what the nets of a shut region show

module _ (c : Circuit) (phase : Phase) (known : List (Option Bool)) (wired : IsWired c) (has : HasFixedNets c phase (known_at known)) (are : AreKnown c phase (known_at known))
    (nets levels zeros ones : List ℕ) (region : IsRegion c known (has_number nets)) (all_shut : (n : ℕ) → Among nets n → IsShutAt c known n)
    (strengths : IsSpread Strength c known [] nets levels) (lows : IsSpread (Value false) c known levels nets zeros) (highs : IsSpread (Value true) c known levels nets ones) where
  shut_in : (n : ℕ) → has_number nets n ≡ true → IsShutAt c known n
  shut_in n e = all_shut n ((has_number_is nets n).0 e)

  listed_in : (n : ℕ) → has_number nets n ≡ true → Among nets n
  listed_in n e = (has_number_is nets n).0 e

  gates_in : HasGateBits c (known_at known) (has_number nets) (reading_of known)
  gates_in = region_gates c phase known wired has (has_number nets) region shut_in

  set_in : IsShut c phase (has_number nets) (reading_of known)
  set_in = region_shut c phase known wired has (has_number nets) region shut_in

  response_in : (n : ℕ) → Among nets n → IsResponse (known_network c known) n (response_by (has_amount zeros n) (has_amount ones n))
  response_in n m =
      region_response c phase known wired has (has_number nets) region shut_in nets levels nets zeros nets ones listed_in strengths listed_in lows listed_in highs n ((has_number_is nets n).1 m)

  -- the bit that a net shows is known
  pub shown_known : (n : ℕ) (v : Bool) → Among nets n → shown_of zeros ones n ≡ Some v → IsKnown c phase n v
  shown_known n v m e =
      settled (has_number nets) (reading_of known) (λ k. false) (λ k. false) set_in ((has_number_is nets n).1 m)
      (known_reading c phase known has)
      (λ k l d i a j. are d.gate.0 (reading_of known d.gate.0) (gates_in k l d i a j))
      (subst (IsResponse (known_network c known) n) (bit_is (response_by (has_amount zeros n) (has_amount ones n)) v e) (response_in n m))

  -- where the bits that the nets show are learned, it need not be looked at any more
  pub shown_settled : (more : List (Option Bool)) (old new : List Bool) → ((n : ℕ) (v : Bool) → known_at known n ≡ Some v → known_at more n ≡ Some v)
      → ((n : ℕ) (v : Bool) → known_at more n ≡ Some v → IsKnown c phase n v)
      → ((n : ℕ) → Among nets n → is_some (shown_of zeros ones n) ≡ true → is_some (known_at more n) ≡ true)
      → HasKept nets old new → HasMarkedEnds c known more new → IsSettled c phase known old → IsSettled c phase more new
  shown_settled more old new grown sound found kept ends before =
      settled_shut c phase known more wired nets region set_in gates_in has grown learned old new kept ends before
    where
      learned : (n : ℕ) (v : Bool) → Among nets n → IsResponse (known_network c known) n (Shows v) → known_at more n ≡ Some v
      learned n v m shows =
          let same = one_response (known_network c known) n (response_by (has_amount zeros n) (has_amount ones n)) (Shows v) (response_in n m) shows in
          let shown : shown_of zeros ones n ≡ Some v = ap bit_shown same in
          by_entry (known_at more n) refl (found n m (ap is_some shown))
        where
          by_entry : (o : Option Bool) → known_at more n ≡ o → is_some o ≡ true → known_at more n ≡ Some v
          by_entry None e t = absurd (false≢true t)
          by_entry (Some u) e t =
              let known_v : IsKnown c phase n v =
              settled (has_number nets) (reading_of known) (λ k. false) (λ k. false) set_in ((has_number_is nets n).1 m)
              (known_reading c phase known has)
              (λ k l d i a j. are d.gate.0 (reading_of known d.gate.0) (gates_in k l d i a j)) shows in
              e ∙ ap (λ (b : Bool). Some b) (known_once c phase wired n u v (sound n u e) known_v)

-- where no net is to be looked at, the table is closed
pub settled_closed : (c : Circuit) (phase : Phase) (known : List (Option Bool)) (pending : List Bool) → ((n : ℕ) → mark_at pending n ≡ false) → IsSettled c phase known pending → IsClosedTable c phase (known_at known)
settled_closed c phase known pending none settles inside reading held driven shut own bits n v ins shows = settles inside reading held driven shut own bits (λ m i. none m) n v ins shows

-- where all plain nets are to be looked at, nothing is to be known
pub all_pending : (c : Circuit) (phase : Phase) (known : List (Option Bool)) (pending : List Bool) → ((n : ℕ) → IsPlain c n → mark_at pending n ≡ true) → IsSettled c phase known pending
all_pending c phase known pending all inside reading held driven shut own bits none n v ins shows = absurd (false≢true (sym (none n ins) ∙ all n (shut.plain n ins).0))
