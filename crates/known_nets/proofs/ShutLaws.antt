-- What keeps a region open or shut; and that devices known to conduct join the nets of a region in each shut set.
use Rattle.std.proofs.Common.{◌≡◌, ℕ, ◌<◌, ◌≤◌, ◌⊎◌, Bool, true, false, List, [], length, None, Option, Some, set, get_or-set_other, get_or-set_same, slice_get, slice_index, arith, ap, refl, subst, sym, ◌∙◌, inl, inr}
use Rattle.std.specs.Prelude.{◌↔◌, ◌==◌, option_map, unwrap_or}
use Rattle.std.proofs.lemmas.Bool.{cases_eq, eq-eqb, eqb-true, false≢true, lt-ltb, ltb-true}
use Rattle.std.proofs.lemmas.Option.{none-some, same_Some, slice_get_within}
use Rattle.graphs.specs.Graphs.{ArcIn, sources_at}
use Rattle.known_nets.proofs.KnownShow.{fixed_not_plain}
use Rattle.known_nets.proofs.NetKinds.{is_plain_is, kind_is_input, plain_is}
use Rattle.known_nets.specs.Conduction.{conduction_of, is_input_at, is_input_kind, is_plain_at}
use Rattle.known_nets.specs.Incidence.{AreRootMarks, HasEnds}
use Rattle.known_nets.specs.Regions.{GoTogether, IsInput, IsOpenAt, IsRegion, IsShutAt, KeepsOpen, KeepsShut, has_amount}
use Rattle.known_nets.specs.Spreads.{HasArrived, IsZero, IsKnownOn, IsPassedOn, before, given, onward}
use Rattle.known_nets.specs.declared.spread.Spread.TheVariants.{Joined}
use Rattle.vrt_model.proofs.Filtered.{among_devices}
use Rattle.vrt_model.proofs.Laws.{turned}
use Rattle.vrt_model.proofs.Members.{among_any, any_among}
use Rattle.vrt_model.specs.Known.{HasFixedBit, IsFixed, IsPlain}
use Rattle.vrt_model.specs.Lists.{At, Among, has_number, mark_at}
use Rattle.vrt_model.specs.Path.{Joins}
use Rattle.vrt_model.specs.Reading.{conducts_at}
use Rattle.vrt_model.specs.declared.circuit.Circuit.{Circuit}
use Rattle.vrt_model.specs.declared.circuit.Device.{Device}
use Rattle.vrt_model.specs.declared.circuit.FlatNet.{FlatNet}
use Rattle.vrt_model.specs.declared.circuit.NetKind.{NetKind}
use Rattle.vrt_model.specs.declared.circuit.NetKind.TheVariants.{Input, Plain}
use Rattle.vrt_model.specs.declared.rules.Phase.{Phase}

-- ---- inputs

pub input_is : (c : Circuit) (n : ℕ) → is_input_at c n ≡ true → IsInput c n
input_is c n t = found (slice_get c.nets n) refl t
  where
    found : (o : Option FlatNet) → slice_get c.nets n ≡ o → unwrap_or (option_map (λ (net : FlatNet). is_input_kind net.kind) o) false ≡ true → IsInput c n
    found None e t = absurd (false≢true t)
    found (Some net) e t = (net, e, kind_is_input net.kind t)

pub is_input : (c : Circuit) (n : ℕ) → IsInput c n → is_input_at c n ≡ true
is_input c n i = ap (λ (o : Option FlatNet). unwrap_or (option_map (λ (net : FlatNet). is_input_kind net.kind) o) false) i.1 ∙ ap is_input_kind i.2

-- an input is not plain, and has no fixed bit
input_not_plain : (c : Circuit) (n : ℕ) → IsInput c n → IsPlain c n → ⊥
input_not_plain c n i p =
    let same : i.0 ≡ p.0 = same_Some i.0 p.0 (sym i.1 ∙ p.1) in
    let kinds : Input ≡ Plain = sym i.2 ∙ (ap (λ (x : FlatNet). x.kind) same ∙ p.2) in
    cc

input_not_fixed : (c : Circuit) (phase : Phase) (n : ℕ) (v : Bool) → IsInput c n → IsFixed c phase n v → ⊥
input_not_fixed c phase n v i f =
    let same : f.0 ≡ i.0 = same_Some f.0 i.0 (sym f.1 ∙ i.1) in
    subst (λ (k : NetKind). HasFixedBit phase k v) (ap (λ (x : FlatNet). x.kind) same ∙ i.2) f.2

-- ---- what keeps a region open

-- a net at which a device keeps its region open is in no shut set whose gates are known
pub open_by_device : (c : Circuit) (phase : Phase) (known : List (Option Bool)) (n : ℕ) (d : Device) → Among c.devices d → KeepsOpen c known n d → IsOpenAt c phase known n
open_by_device c phase known n d there opens inside reading shut bits ins =
    let among = among_devices true c d there opens.0 in
    let m = opens.1.0 in
    let j : Joins d n m = opens.1.1 in
    let gate = bits n m d ins among j in
    let s : conduction_of known d ≡ Some (conducts_at d.kind (reading d.gate.0)) = ap (option_map (conducts_at d.kind)) gate in
    elim opens.1.2 [
      | inl none ↦ none-some (conducts_at d.kind (reading d.gate.0)) (sym none ∙ s)
      | inr on ↦
          let input = input_is c m on.1 in
          elim (shut.joined n m d ins among j (same_Some (conducts_at d.kind (reading d.gate.0)) true (sym s ∙ on.0))) [
            | inl i ↦ input_not_plain c m input (shut.plain m i).0
            | inr f ↦ input_not_fixed c phase m f.0 input f.1
          ]
    ]

-- and so is one with a hold or an output of a whole instance
pub open_by_root : (c : Circuit) (phase : Phase) (known : List (Option Bool)) (rooted : List Bool) (n : ℕ) → AreRootMarks c rooted → mark_at rooted n ≡ true → IsOpenAt c phase known n
open_by_root c phase known rooted n marks e inside reading shut bits ins =
    elim ((marks n).0 e) [ inl held ↦ (shut.plain n ins).1 held | inr driven ↦ (shut.plain n ins).2 driven ]

-- where no device, no hold and no output does, nothing keeps it open there
pub shut_there : (c : Circuit) (known : List (Option Bool)) (rooted : List Bool) (ends : List (List ℕ)) (row : List ℕ) (n : ℕ) → HasEnds c (length c.devices) ends → n < length ends → row ≡ sources_at ends n
    → AreRootMarks c rooted → mark_at rooted n ≡ false → ((k : ℕ) (d : Device) → Among row k → At c.devices k d → KeepsShut c known n d) → IsShutAt c known n
shut_there c known rooted ends row n listed inside is marks free each = record {
  free = λ h. false≢true (sym free ∙ (marks n).1 (inl h));
  idle = λ d. false≢true (sym free ∙ (marks n).1 (inr d));
  gates = λ m d there bare j. elim (keeps m d there j bare m j) [ inl on ↦ (true, on.0) | inr off ↦ (false, off) ];
  ends = λ m d on j input.
      elim (keeps m d on.there j on.bare m j) [
        | inl leads ↦ false≢true (sym leads.1 ∙ is_input c m input)
        | inr off ↦ false≢true (same_Some false true (sym off ∙ on.on))
      ];
}
  where
    keeps : (m : ℕ) (d : Device) → Among c.devices d → Joins d n m → KeepsShut c known n d
    keeps m d there j =
        let arc : ArcIn ends there.0 n = listed there.0 d (slice_get_within c.devices there.0 d there.1) there.1 m n (turned d n m j) inside in
        each there.0 d (subst (λ (r : List ℕ). Among r there.0) (sym is) arc) there.1

-- ---- nets that are joined

-- what a device known to conduct joins is in the same shut sets
pub joined_on : (c : Circuit) (phase : Phase) (known : List (Option Bool)) (m n : ℕ) (d : Device) → IsKnownOn c known d → Joins d m n → IsPlain c m → IsPlain c n → GoTogether c phase known m n
joined_on c phase known m n d on j plain_m plain_n inside reading shut bits = (
  λ ins. along m n j plain_n ins,
  λ ins. along n m (turned d m n j) plain_m ins,
)
  where
    along : (k l : ℕ) → Joins d k l → IsPlain c l → inside k ≡ true → inside l ≡ true
    along k l j plain ins =
        let among = among_devices true c d on.there on.bare in
        let s : conduction_of known d ≡ Some (conducts_at d.kind (reading d.gate.0)) = ap (option_map (conducts_at d.kind)) (bits k l d ins among j) in
        elim (shut.joined k l d ins among j (same_Some (conducts_at d.kind (reading d.gate.0)) true (sym s ∙ on.on))) [
          | inl i ↦ i
          | inr f ↦ absurd (fixed_not_plain c phase l f.0 f.1 plain)
        ]

together_then : (c : Circuit) (phase : Phase) (known : List (Option Bool)) (k m n : ℕ) → GoTogether c phase known k m → GoTogether c phase known m n → GoTogether c phase known k n
together_then c phase known k m n one two inside reading shut bits =
    let a = one inside reading shut bits in
    let b = two inside reading shut bits in
    (λ i. b.0 (a.0 i), λ i. a.1 (b.1 i))

-- two nets that go with one go together
pub among_together : (c : Circuit) (phase : Phase) (known : List (Option Bool)) (k m n : ℕ) → GoTogether c phase known k m → GoTogether c phase known k n → GoTogether c phase known m n
among_together c phase known k m n one two inside reading shut bits =
    let a = one inside reading shut bits in
    let b = two inside reading shut bits in
    (λ i. b.0 (a.1 i), λ i. a.0 (b.1 i))

-- so is what has an amount, where the first net alone had one
pub arrived_together : (c : Circuit) (phase : Phase) (known : List (Option Bool)) (levels base : List ℕ) (first n amount : ℕ) → ((k : ℕ) → 0 < slice_index base k → k ≡ first)
    → HasArrived Joined c known levels base n amount → 0 < amount → GoTogether c phase known first n
arrived_together c phase known levels base first n amount alone (before) some =
    subst (GoTogether c phase known first) (sym (alone n some)) (λ inside reading shut bits. (λ i. i, λ i. i))
arrived_together c phase known levels base first n amount alone (given m d on j given_net plain) some = absurd (omega (arith, some))
arrived_together c phase known levels base first n amount alone (onward {m = m} {amount = a} d earlier on j plain_m plain_n) some =
    together_then c phase known first m n (arrived_together c phase known levels base first m a alone earlier some)
    (joined_on c phase known m n d on j (plain_is c m plain_m) (plain_is c n plain_n))

-- a table in which one net has an amount
pub alone_in : (base : List ℕ) (first : ℕ) → IsZero base → (k : ℕ) → 0 < slice_index (set base first 1) k → k ≡ first
alone_in base first clear k some =
    elim (cases_eq k first) [
      | inl same ↦ same
      | inr other ↦ (let kept = get_or-set_other base first k 1 0 in absurd (omega (arith, some, kept, clear k)))
    ]

-- a list of one net
pub one_listed : (nets : List ℕ) (first n : ℕ) → length nets ≡ 1 → At nets 0 first → Among nets n → n ≡ first
one_listed nets first n one at m =
    let inside = slice_get_within nets m.0 n m.1 in
    let place : m.0 ≡ 0 = omega (arith, inside, one) in
    same_Some n first (sym (subst (λ (i : ℕ). At nets i n) place m.1) ∙ at)

-- the nets with an amount are those of the list, where they are at first
pub listed_from : (clear : List ℕ) (first : ℕ) (old new table : List ℕ) → IsZero clear → first < length clear → length old ≡ 1 → At old 0 first
    → ((n : ℕ) → Among old n → Among new n)
    → ((n : ℕ) → (slice_index table n ≡ slice_index (set clear first 1) n) ⊎ Among new n)
    → ((n : ℕ) → Among new n → (0 < slice_index table n) ⊎ Among old n)
    → ((n : ℕ) → slice_index (set clear first 1) n ≤ slice_index table n)
    → (n : ℕ) → (has_amount table n ≡ true) ↔ Among new n
listed_from clear first old new table none inside one at stays raised listed grown n = (
  λ e.
      let some = ltb-true 0 (slice_index table n) e in
      elim (raised n) [
        | inl same ↦
            let is : n ≡ first = alone_in clear first none n (omega (arith, some, same)) in
            subst (Among new) (sym is) (stays first (0, at))
        | inr m ↦ m
      ],
  λ m.
      elim (listed n m) [
        | inl some ↦ lt-ltb 0 (slice_index table n) some
        | inr early ↦
            let is : n ≡ first = one_listed old first n one at early in
            let has : slice_index (set clear first 1) first ≡ 1 = get_or-set_same clear first 1 0 inside in
            let more = grown first in
            subst (λ (k : ℕ). has_amount table k ≡ true) (sym is) (lt-ltb 0 (slice_index table first) (omega (arith, has, more)))
      ],
)

-- a list has a number
pub has_number_is : (nets : List ℕ) (n : ℕ) → (has_number nets n ≡ true) ↔ Among nets n
has_number_is nets n = (
  λ e. (let found = any_among (λ x. x == n) nets e in subst (Among nets) (eqb-true found.0 n found.2) found.1),
  λ m. among_any (λ x. x == n) nets n m (eq-eqb n n refl),
)

-- amounts that have come from one net, to the nets of a list, have a region
pub region_of : (c : Circuit) (known : List (Option Bool)) (nets table : List ℕ) → ((n : ℕ) → Among nets n → is_plain_at c n ≡ true) → ((n : ℕ) → (has_amount table n ≡ true) ↔ Among nets n)
    → ((n : ℕ) → Among nets n → IsPassedOn Joined c known [] table n) → IsRegion c known (has_number nets)
region_of c known nets table plain listed closed = record {
  plain = λ n e. plain_is c n (plain n ((has_number_is nets n).0 e));
  closed = λ m n d e on j p.
      let here = (has_number_is nets m).0 e in
      let crossed = closed m here d n on j in
      let some = ltb-true 0 (slice_index table m) ((listed m).1 here) in
      let more = crossed.forth (is_plain_is c n p) in
      (has_number_is nets n).1 ((listed n).0 (lt-ltb 0 (slice_index table n) (omega (arith, some, more))));
}
