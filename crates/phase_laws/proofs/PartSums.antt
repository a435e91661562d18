-- How many nets and devices all parts of the bare or of the kept circuit have, and how many outputs of whole instances stand on them.
use Rattle.std.proofs.Common.{◌≡◌, ℕ, zero, suc, ◌+◌, ◌-◌, ◌<◌, ◌≤◌, Bool, List, [], take, length, arith, ap, sym, subst, ◌∙◌, inl, inr, cond, ltb}
use Rattle.std.specs.Prelude.{slice_get, slice_index, slice_index_or, sum_by}
use Rattle.std.proofs.Math.Seq.{take-length}
use Rattle.std.proofs.lemmas.Bool.{cases_eq, cases_lt, le-ltb, lt-ltb}
use Rattle.std.proofs.lemmas.List.{length-map}
use Rattle.std.proofs.lemmas.List.Sums.{sum_by-take-le}
use Rattle.std.proofs.lemmas.Option.{same_Some, slice_get-get_or, slice_get_within}
use Rattle.bdd_core.proofs.Pigeon.{pigeon}
use Rattle.circuit_faults.proofs.CountLaws.{sum_next}
use Rattle.circuit_faults.proofs.WholeParts.{rising_once}
use Rattle.channel_parts.specs.PartLists.{AreParts, IsPartOf, device_numbers, least_of, net_numbers}
use Rattle.channel_parts.specs.declared.part.Part.{Part}
use Rattle.channel_parts.specs.declared.part.Parts.{Parts}
use Rattle.vrt_model.proofs.Laws.{turned}
use Rattle.vrt_model.proofs.Ranked.{together_plain}
use Rattle.vrt_model.specs.Known.{IsChannel, IsInPart, IsPlain, IsTogether, itself, onward}
use Rattle.vrt_model.specs.Lists.{At, Among}
use Rattle.vrt_model.specs.Path.{Joins}
use Rattle.vrt_model.specs.declared.circuit.Circuit.{Circuit}
use Rattle.vrt_model.specs.declared.circuit.Device.{Device}
use Rattle.vrt_model.specs.declared.ids.Net.{Net}
use Rattle.vrt_model.specs.declared.rules.Phase.{Phase}

-- the numbers of a list are its own at the first places, and those of another behind
abbrev joined : (ℕ → ℕ) → ℕ → (ℕ → ℕ) → ℕ → ℕ
joined f n g j = cond (ltb j n) (f j) (g (j - n))

joined_first : (f : ℕ → ℕ) (n : ℕ) (g : ℕ → ℕ) (j : ℕ) → j < n → joined f n g j ≡ f j
joined_first f n g j lt = ap {B = ℕ} (λ b. cond b (f j) (g (j - n))) (lt-ltb j n lt)

joined_behind : (f : ℕ → ℕ) (n : ℕ) (g : ℕ → ℕ) (j : ℕ) → n ≤ j → joined f n g j ≡ g (j - n)
joined_behind f n g j le = ap {B = ℕ} (λ b. cond b (f j) (g (j - n))) (le-ltb j n le)

-- ---- lists of numbers, one for each part, in which no number stands twice

record HasOwnNumbers (items : Part → List ℕ) (parts : List Part) (bound : ℕ) : Type 0 where
  below : (part : Part) (n : ℕ) → Among parts part → Among (items part) n → n < bound
  once : (part : Part) (i j n : ℕ) → Among parts part → At (items part) i n → At (items part) j n → i ≡ j
  apart : (i j : ℕ) (p q : Part) (n : ℕ) → At parts i p → At parts j q → Among (items p) n → Among (items q) n → i ≡ j

-- so many different numbers of the first parts
record IsLaidOut (items : Part → List ℕ) (parts : List Part) (k count : ℕ) : Type 0 where
  value : ℕ → ℕ
  from : (j : ℕ) → j < count → (i : ℕ) × (p : Part) × (i < k) × At parts i p × Among (items p) (value j)
  differ : (i j : ℕ) → i < count → j < count → value i ≡ value j → i ≡ j

abbrev no_part : Part
no_part = record { rank = 0; nets = []; devices = [] }

module _ (items : Part → List ℕ) (parts : List Part) (bound : ℕ) (own : HasOwnNumbers items parts bound) where
  abbrev size : Part → ℕ
  size part = length (items part)

  module _ (k count : ℕ) (part : Part) (there : At parts k part) (before : IsLaidOut items parts k count) where
    abbrev here : ℕ → ℕ
    here j = slice_index (items part) j

    abbrev more : ℕ → ℕ
    more j = joined before.value count here j

    item_here : (j : ℕ) → count ≤ j → j < count + size part → At (items part) (j - count) (more j)
    item_here j le lt =
        subst (λ (n : ℕ). At (items part) (j - count) n) (sym (joined_behind before.value count here j le))
        (slice_get-get_or (items part) (j - count) 0 (omega (arith, le, lt)))

    item_before : (j : ℕ) → j < count → (i : ℕ) × (p : Part) × (i < k) × At parts i p × Among (items p) (more j)
    item_before j lt =
        let f = before.from j lt in
        (f.0, f.1, f.2, f.3, subst (λ (n : ℕ). Among (items f.1) n) (sym (joined_first before.value count here j lt)) f.4)

    one_of_each : (i j : ℕ) → i < count → count ≤ j → j < count + size part → more i ≡ more j → ⊥
    one_of_each i j low high lt same =
        let f = item_before i low in
        let number : Among (items part) (more i) = subst (λ (n : ℕ). Among (items part) n) (sym same) (j - count, item_here j high lt) in
        let place : f.0 ≡ k = own.apart f.0 k f.1 part (more i) f.3 there f.4 number in
        let under = f.2 in
        omega (arith, place, under)

    laid_more : IsLaidOut items parts (k + 1) (count + size part)
    laid_more = record {
      value = more;
      from = λ j lt. elim (cases_lt j count) [
        | inl low ↦ (let f = item_before j low in let under = f.2 in (f.0, f.1, omega (arith, under), f.3, f.4))
        | inr high ↦ (k, part, omega arith, there, (j - count, item_here j high lt))
      ];
      differ = λ i j lti ltj same. elim (cases_lt i count) [
        | inl low ↦ elim (cases_lt j count) [
          | inl low' ↦ before.differ i j low low' (sym (joined_first before.value count here i low) ∙ same ∙ joined_first before.value count here j low')
          | inr high' ↦ absurd (one_of_each i j low high' ltj same)
        ]
        | inr high ↦ elim (cases_lt j count) [
          | inl low' ↦ absurd (one_of_each j i low' high lti (sym same))
          | inr high' ↦
              let place = own.once part (i - count) (j - count) (more i) (k, there) (item_here i high lti)
              (subst (λ (n : ℕ). At (items part) (j - count) n) (sym same) (item_here j high' ltj)) in
              omega (arith, place, high, high')
        ]
      ];
    }

  laid_none : IsLaidOut items parts 0 0
  laid_none = record {
    value = λ j. j;
    from = λ j lt. absurd (omega (arith, lt));
    differ = λ i j lt. absurd (omega (arith, lt));
  }

  abbrev upto : ℕ → ℕ
  upto k = sum_by size (take k parts)

  laid_out : (k : ℕ) → k ≤ length parts → IsLaidOut items parts k (upto k)
  laid_out zero le = laid_none
  laid_out (suc k) le =
      let part : Part = slice_index_or parts k no_part in
      let there : At parts k part = slice_get-get_or parts k no_part (omega (arith, le)) in
      let count : upto (k + 1) ≡ upto k + size part = sum_next size parts k part there in
      let next : k + 1 ≡ suc k = omega arith in
      subst (λ (m : ℕ). IsLaidOut items parts m (upto m)) next
      (subst (λ (n : ℕ). IsLaidOut items parts (k + 1) n) (sym count) (laid_more k (upto k) part there (laid_out k (omega (arith, le)))))

  -- they are no more than there are numbers
  all_few : sum_by size parts ≤ bound
  all_few =
      let all = laid_out (length parts) (omega arith) in
      let whole : upto (length parts) ≡ sum_by size parts = ap (λ (xs : List Part). sum_by size xs) (take-length parts) in
      let few : upto (length parts) ≤ bound =
      pigeon bound (upto (length parts)) all.value
      (λ j lt. let f = all.from j lt in own.below f.1 (all.value j) (f.0, f.3) f.4) all.differ in
      omega (arith, few, whole)

-- ---- nets that channels join

module _ (c : Circuit) (phase : Phase) (which : Bool) where
  -- ways along channels, one after the other and turned round
  together_on : (l n m : ℕ) → IsTogether c phase which l n → IsTogether c phase which n m → IsTogether c phase which l m
  together_on l n m t (itself p) = t
  together_on l n m t (onward {l = x} d u ch j p) = onward d (together_on l n x t u) ch j p

  step_back : (x y z : ℕ) (d : Device) → IsPlain c x → IsChannel c phase which d → Joins d x y → IsTogether c phase which y z → IsTogether c phase which x z
  step_back x y z d px ch j (itself p) = onward d (itself px) ch j p
  step_back x y z d px ch j (onward {l = l} e u ch' j' p) = onward e (step_back x y l d px ch j u) ch' j' p

  together_back : (x y : ℕ) → IsTogether c phase which x y → IsTogether c phase which y x
  together_back x y (itself p) = itself p
  together_back x y (onward {l = l} d u ch j p) = step_back y l x d p ch (turned d l y j) (together_back x l u)

-- ---- the parts of a circuit

abbrev pub nets_of : Part → List ℕ
nets_of part = net_numbers part.nets

abbrev pub devices_in : Part → List ℕ
devices_in part = device_numbers part.devices

abbrev pub net_count : Part → ℕ
net_count part = length (nets_of part)

abbrev pub device_count : Part → ℕ
device_count part = length (devices_in part)

module _ (c : Circuit) (phase : Phase) (which : Bool) (rank : ℕ → ℕ) (parts : Parts) (are : AreParts c phase which rank parts) where
  -- the first net of a part is the least
  first_below : (part : Part) → IsPartOf c phase which rank part → (m : ℕ) → Among (nets_of part) m → least_of part ≤ m
  first_below part of m at_m =
      elim (cases_eq at_m.0 0) [
        | inl e ↦ (let same : least_of part ≡ m = same_Some (least_of part) m (sym of.first ∙ ap (slice_get (nets_of part)) (sym e) ∙ at_m.1) in omega (arith, same))
        | inr ne ↦ (let less : least_of part < m = of.net_order 0 at_m.0 (least_of part) m of.first at_m.1 (omega (arith, ne)) in omega (arith, less))
      ]

  -- of two parts with a net in common, the least net of one is in the other
  least_in : (p q : Part) (n : ℕ) → IsPartOf c phase which rank p → IsPartOf c phase which rank q → Among (nets_of p) n → Among (nets_of q) n → Among (nets_of q) (least_of p)
  least_in p q n of_p of_q in_p in_q =
      (of_q.nets (least_of p)).1
      (together_on c phase which (least_of q) n (least_of p) ((of_q.nets n).0 in_q) (together_back c phase which (least_of p) n ((of_p.nets n).0 in_p)))

  -- a net is in one part
  pub one_part : (i j : ℕ) (p q : Part) (n : ℕ) → At parts.list i p → At parts.list j q → Among (nets_of p) n → Among (nets_of q) n → i ≡ j
  one_part i j p q n at_p at_q in_p in_q =
      let of_p = are.each p (i, at_p) in
      let of_q = are.each q (j, at_q) in
      let up : least_of q ≤ least_of p = first_below q of_q (least_of p) (least_in p q n of_p of_q in_p in_q) in
      let down : least_of p ≤ least_of q = first_below p of_p (least_of q) (least_in q p n of_q of_p in_q in_p) in
      let ranks : p.rank ≡ q.rank = of_p.ranked n in_p ∙ sym (of_q.ranked n in_q) in
      elim (cases_lt i j) [
        | inl lt ↦ absurd (elim (are.sorted i j p q at_p at_q lt) [ inl less ↦ omega (arith, less, ranks) | inr same ↦ (let less = same.1 in omega (arith, less, up, down)) ])
        | inr ge ↦ elim (cases_lt j i) [
          | inl lt ↦ absurd (elim (are.sorted j i q p at_q at_p lt) [ inl less ↦ omega (arith, less, ranks) | inr same ↦ (let less = same.1 in omega (arith, less, up, down)) ])
          | inr le ↦ omega (arith, ge, le)
        ]
      ]

  -- where a channel of a part ends at a net of another part, it is one part
  meets_once : (i j : ℕ) (p q : Part) → At parts.list i p → At parts.list j q → (d : Device) → IsInPart c phase which (least_of p) d → IsInPart c phase which (least_of q) d → i ≡ j
  meets_once i j p q at_p at_q d in_p in_q =
      let of_p = are.each p (i, at_p) in
      let of_q = are.each q (j, at_q) in
      let first : Among (nets_of p) in_p.0 = (of_p.nets in_p.0).1 in_p.2 in
      let second : Among (nets_of q) in_q.0 = (of_q.nets in_q.0).1 in_q.2 in
      let same : in_p.0 ≡ in_q.0 → i ≡ j = λ e. one_part i j p q in_q.0 at_p at_q (subst (λ (n : ℕ). Among (nets_of p) n) e first) second in
      let across : in_p.1 ≡ in_q.0 → i ≡ j = λ e.
      one_part i j p q in_q.0 at_p at_q
      (subst (λ (n : ℕ). Among (nets_of p) n) e
      ((of_p.nets in_p.1).1 (onward d in_p.2 in_p.3 in_p.4 (subst (IsPlain c) (sym e) (together_plain c phase which (least_of q) in_q.0 in_q.2))))) second in
      by_ends in_p.0 in_p.1 in_q.0 in_q.1 in_p.4 in_q.4 same across
    where
      by_ends : (m l x y : ℕ) → Joins d m l → Joins d x y → (m ≡ x → i ≡ j) → (l ≡ x → i ≡ j) → i ≡ j
      by_ends m l x y (inl a) (inl b) same across = same (sym a.0 ∙ b.0)
      by_ends m l x y (inl a) (inr b) same across = across (sym a.1 ∙ b.1)
      by_ends m l x y (inr a) (inl b) same across = across (sym a.0 ∙ b.0)
      by_ends m l x y (inr a) (inr b) same across = same (sym a.1 ∙ b.1)

  own_nets : HasOwnNumbers nets_of parts.list (length c.nets)
  own_nets = record {
    below = λ part n m there.
        let p = together_plain c phase which (least_of part) n (((are.each part m).nets n).0 there) in
        slice_get_within c.nets n p.0 p.1;
    once = λ part i j n m a b. rising_once (nets_of part) i j n (are.each part m).net_order a b;
    apart = one_part;
  }

  own_devices : HasOwnNumbers devices_in parts.list (length c.devices)
  own_devices = record {
    below = λ part k m there. (let d = ((are.each part m).devices k).0 there in slice_get_within c.devices k d.0 d.1);
    once = λ part i j n m a b. rising_once (devices_in part) i j n (are.each part m).device_order a b;
    apart = λ i j p q k at_p at_q in_p in_q.
        let x = ((are.each p (i, at_p)).devices k).0 in_p in
        let y = ((are.each q (j, at_q)).devices k).0 in_q in
        meets_once i j p q at_p at_q x.0 x.2
        (subst (λ (d : Device). IsInPart c phase which (least_of q) d) (same_Some y.0 x.0 (sym y.1 ∙ x.1)) y.2);
  }

  pub nets_few : sum_by net_count parts.list ≤ length c.nets
  nets_few = all_few nets_of parts.list (length c.nets) own_nets

  pub devices_few : sum_by device_count parts.list ≤ length c.devices
  devices_few = all_few devices_in parts.list (length c.devices) own_devices

  pub part_room : (part : Part) → Among parts.list part → length part.nets ≤ length c.nets
  part_room part m =
      let next = sum_next net_count parts.list m.0 part m.1 in
      let whole = sum_by-take-le net_count parts.list (m.0 + 1) in
      omega (arith, next, whole, nets_few, length-map part.nets (λ (net : Net). net.0))
