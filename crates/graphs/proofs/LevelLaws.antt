-- Looking at the waiters one by one gives levels, until each number without one has a source without one.
use Rattle.std.proofs.Common.{◌≡◌, ℕ, zero, suc, ◌+◌, ◌<◌, ◌≤◌, ◌⊎◌, true, false, cond, List, [], ◌∷◌, ◌++◌, length, get_or, replicate, slice_index, arith, ap, subst, sym, refl, ◌∙◌, inl, inr}
use Rattle.std.specs.Prelude.{◌==◌, nat_lt}
use Rattle.std.specs.List.{list_all}
use Rattle.std.proofs.Math.ListN.{set}
use Rattle.std.proofs.lemmas.Bool.{and_cases, and_parts, cases_eq, cases_lt, cond-false, false≢true, ltb-false, ltb-true, ne_eqb}
use Rattle.std.proofs.lemmas.List.{get_or-set_other, get_or-set_same, length-set}
use Rattle.std.proofs.lemmas.List.Sums.{sum_by-set}
use Rattle.std.proofs.lemmas.Option.{none-some, same_Some, slice_get_within}
use Rattle.vrt_model.proofs.Lists.{at_back, at_front, at_last}
use Rattle.graphs.specs.Graphs.{sources_at}
use Rattle.graphs.specs.Levels.{AreLevels, AreStuck, HasPassed, IsLevelled, IsLevelling, IsListed, IsWaitingAt, without_level}
use Rattle.graphs.specs.declared.levels.Waiter.{Waiter}
use Rattle.vrt_model.proofs.Members.{among_either, among_left, among_right}
use Rattle.vrt_model.specs.Lists.{At, Among}

-- ---- a level more

-- what had a level keeps it
pub level_stays : (sources : List (List ℕ)) (n : ℕ) (t u : List ℕ) → IsLevelled sources n t u → (q : ℕ) → 0 < slice_index t q → slice_index u q ≡ slice_index t q
level_stays sources n t u made q has = made.others q (λ e. let none = made.none in let same : slice_index t q ≡ slice_index t n = ap (slice_index t) e in absurd (omega (arith, none, same, has)))

settled_levels : (sources : List (List ℕ)) (n : ℕ) (t u : List ℕ) → AreLevels sources t → IsLevelled sources n t u → AreLevels sources u
settled_levels sources n t u levels made = record {
  above = λ m q a has. elim (cases_eq m n) [
    | inl e ↦
        let own = made.above q (subst (λ (k : ℕ). Among (sources_at sources k) q) e a) in
        let some = own.0 in
        let less = own.1 in
        let stays = level_stays sources n t u made q own.0 in
        let here : slice_index u m ≡ slice_index u n = ap (slice_index u) e in
        (omega (arith, stays, some), omega (arith, stays, less, here))
    | inr ne ↦
        let here = made.others m ne in
        let was = levels.above m q a (omega (arith, here, has)) in
        let some = was.0 in
        let less = was.1 in
        let stays = level_stays sources n t u made q was.0 in
        (omega (arith, stays, some), omega (arith, stays, less, here))
  ];
  reached = λ m has. elim (cases_eq m n) [
    | inl e ↦
        let here : slice_index u m ≡ slice_index u n = ap (slice_index u) e in
        elim made.reached [
          | inl one ↦ inl (here ∙ one)
          | inr from ↦
              let up = from.2 in
              let stays = level_stays sources n t u made from.0 (made.above from.0 from.1).0 in
              inr (from.0, subst (λ (k : ℕ). Among (sources_at sources k) from.0) (sym e) from.1, omega (arith, here, up, stays))
        ]
    | inr ne ↦
        let here = made.others m ne in
        let had : 0 < slice_index t m = omega (arith, here, has) in
        elim (levels.reached m had) [
          | inl one ↦ inl (here ∙ one)
          | inr from ↦
              let up = from.2 in
              let stays = level_stays sources n t u made from.0 (levels.above m from.0 from.1 had).0 in
              inr (from.0, from.1, omega (arith, here, up, stays))
        ]
  ];
}

passed_still : (sources : List (List ℕ)) (n : ℕ) (t u : List ℕ) → IsLevelled sources n t u → (waiter : Waiter) → HasPassed sources t waiter → HasPassed sources u waiter
passed_still sources n t u made waiter passed = (
  passed.0,
  λ i q lt at. let has = passed.1 i q lt at in let stays = level_stays sources n t u made q has in omega (arith, has, stays),
)

-- ---- the next place of the queue

listed_next : (queue : List Waiter) (at n : ℕ) (waiter : Waiter) → At queue at waiter → IsListed queue at n → IsListed queue (at + 1) n ⊎ (waiter.node ≡ n)
listed_next queue at n waiter here listed =
    elim (cases_lt at listed.0) [
      | inl lt ↦ inl (listed.0, listed.1, listed.2, omega (arith, lt), listed.4)
      | inr le ↦
          let ge = listed.3 in
          let place : listed.0 ≡ at = omega (arith, le, ge) in
          let same : listed.1 ≡ waiter = same_Some listed.1 waiter (sym (subst (λ (i : ℕ). At queue i listed.1) place listed.2) ∙ here) in
          inr (sym (ap (λ (w : Waiter). w.node) same) ∙ listed.4)
    ]

-- a waiter that has a level
pub look_level : (sources : List (List ℕ)) (t : List ℕ) (waiting : List (List Waiter)) (queue : List Waiter) (at : ℕ) (waiter : Waiter) → IsLevelling sources t waiting queue at → At queue at waiter
    → 0 < slice_index t waiter.node → IsLevelling sources t waiting queue (at + 1)
look_level sources t waiting queue at waiter so here has = record {
  size = so.size;
  room = so.room;
  so_far = so.so_far;
  stand = λ n lt none. elim (so.stand n lt none) [
    | inl listed ↦
        elim (listed_next queue at n waiter here listed) [
          | inl later ↦ inl later
          | inr e ↦ (let same : slice_index t waiter.node ≡ slice_index t n = ap (slice_index t) e in absurd (omega (arith, has, none, same)))
        ]
    | inr waits ↦ inr waits
  ];
  listed = so.listed;
  held = so.held;
}

-- a waiter that waits for a source
pub look_waits : (sources : List (List ℕ)) (t : List ℕ) (waiting wider : List (List Waiter)) (queue : List Waiter) (at q place : ℕ) (waiter : Waiter) → IsLevelling sources t waiting queue at → At queue at waiter
    → At (sources_at sources waiter.node) place q → slice_index t q ≡ 0
    → ((i s : ℕ) → waiter.from ≤ i → i < place → At (sources_at sources waiter.node) i s → 0 < slice_index t s)
    → IsWaitingAt q (record { node = waiter.node; from = place }) waiting wider → IsLevelling sources t wider queue (at + 1)
look_waits sources t waiting wider queue at q place waiter so here source none passed waits = record {
  size = so.size;
  room = waits.count ∙ so.room;
  so_far = so.so_far;
  stand = λ n lt bare. elim (so.stand n lt bare) [
    | inl listed ↦
        elim (listed_next queue at n waiter here listed) [
          | inl later ↦ inl later
          | inr e ↦ inr (q, waits.there.0, record { node = waiter.node; from = place }, waits.there.1, waits.there.2, e, (place, subst (λ (k : ℕ). At (sources_at sources k) place q) e source), none)
        ]
    | inr w ↦ (let more = waits.stays w.0 w.1 w.2 w.3 w.4 in inr (w.0, more.0, w.2, more.1, more.2, w.5, w.6, w.7))
  ];
  listed = so.listed;
  held = λ k row w a m. elim (waits.each k row w a m) [
    | inl e ↦ subst (HasPassed sources t) (sym e) later_passed
    | inr before ↦ so.held k before.0 w before.1 before.2
  ];
}
  where
    later_passed : HasPassed sources t (record { node = waiter.node; from = place })
    later_passed =
        let was = so.listed waiter (at, here) in (
          was.0,
          λ i s lt a. elim (cases_lt i waiter.from) [ inl before ↦ was.1 i s before a | inr after ↦ passed i s after lt a ],
        )

-- a waiter that gets its level, and what waited for it
pub look_settles : (sources : List (List ℕ)) (t u : List ℕ) (waiting : List (List Waiter)) (queue row : List Waiter) (at : ℕ) (waiter : Waiter) → IsLevelling sources t waiting queue at → At queue at waiter
    → IsLevelled sources waiter.node t u → At waiting waiter.node row → IsLevelling sources u waiting (queue ++ row) (at + 1)
look_settles sources t u waiting queue row at waiter so here made waits = record {
  size = made.size ∙ so.size;
  room = so.room;
  so_far = settled_levels sources waiter.node t u so.so_far made;
  stand = λ n lt bare.
      let apart : waiter.node ≡ n → ⊥ = λ e. (let some = made.some in let same : slice_index u waiter.node ≡ slice_index u n = ap (slice_index u) e in omega (arith, some, bare, same)) in
      elim (so.stand n lt (sym (made.others n (λ e. apart (sym e))) ∙ bare)) [
        | inl listed ↦
            elim (listed_next queue at n waiter here listed) [
              | inl later ↦ inl (later.0, later.1, at_front queue row later.0 later.1 later.2, later.3, later.4)
              | inr e ↦ absurd (apart e)
            ]
        | inr w ↦
            elim (cases_eq w.0 waiter.node) [
              | inl e ↦
                  let inside = slice_get_within queue at waiter here in
                  let same : w.1 ≡ row = same_Some w.1 row (sym (subst (λ (k : ℕ). At waiting k w.1) e w.3) ∙ waits) in
                  let place : At row w.4.0 w.2 = subst (λ (r : List Waiter). At r w.4.0 w.2) same w.4.1 in
                  inl (length queue + w.4.0, w.2, at_back queue row w.4.0 w.2 place, omega (arith, inside), w.5)
              | inr ne ↦ inr (w.0, w.1, w.2, w.3, w.4, w.5, w.6, made.others w.0 ne ∙ w.7)
            ]
      ];
  listed = λ w m. elim (among_either queue row w m) [
    | inl first ↦ passed_still sources waiter.node t u made w (so.listed w first)
    | inr second ↦ passed_still sources waiter.node t u made w (so.held waiter.node row w waits second)
  ];
  held = λ k r w a m. passed_still sources waiter.node t u made w (so.held k r w a m);
}

-- ---- the first and the last state

pub zero_level : (count n : ℕ) → slice_index (replicate count 0) n ≡ 0
zero_level zero n = refl
zero_level (suc count) zero = refl
zero_level (suc count) (suc n) = zero_level count n

pub first_look : (sources : List (List ℕ)) (t : List ℕ) (waiting : List (List Waiter)) (queue : List Waiter) → t ≡ replicate (length sources) 0 → length t ≡ length sources → length waiting ≡ length sources
    → ((k : ℕ) (row : List Waiter) → At waiting k row → row ≡ []) → ((n : ℕ) → n < length sources → (waiter : Waiter) × At queue n waiter × (waiter.node ≡ n))
    → ((waiter : Waiter) → Among queue waiter → (waiter.node < length sources) × (waiter.from ≡ 0)) → IsLevelling sources t waiting queue 0
first_look sources t waiting queue zeros size room empty all each = record {
  size = size;
  room = room;
  so_far = record {
    above = λ n q a has. (let e = none n in absurd (omega (arith, e, has)));
    reached = λ n has. (let e = none n in absurd (omega (arith, e, has)));
  };
  stand = λ n lt bare. (let there = all n lt in inl (n, there.0, there.1, omega arith, there.2));
  listed = λ w m. (let own = each w m in (own.0, λ i q lt a. (let from = own.1 in absurd (omega (arith, lt, from)))));
  held = λ k row w a m. absurd (nothing row w (empty k row a) m);
}
  where
    none : (n : ℕ) → slice_index t n ≡ 0
    none n = ap (λ (xs : List ℕ). slice_index xs n) zeros ∙ zero_level (length sources) n

    nothing : (row : List Waiter) (w : Waiter) → row ≡ [] → Among row w → ⊥
    nothing row w e m = none-some w (subst (λ (r : List Waiter). At r m.0 w) e m.1)

pub listed_more : (queue : List Waiter) (k node : ℕ) → node ≡ k → length queue ≡ k → ((n : ℕ) → n < k → (waiter : Waiter) × At queue n waiter × (waiter.node ≡ n))
    → (n : ℕ) → n < k + 1 → (waiter : Waiter) × At (queue ++ record { node = node; from = 0 } ∷ []) n waiter × (waiter.node ≡ n)
listed_more queue k node own len all n lt =
    elim (cases_lt n k) [
      | inl low ↦ (let h = all n low in (h.0, at_front queue (record { node = node; from = 0 } ∷ []) n h.0 h.1, h.2))
      | inr ge ↦ let same : n ≡ k = omega (arith, lt, ge) in (
        record { node = node; from = 0 },
        subst (λ (i : ℕ). At (queue ++ record { node = node; from = 0 } ∷ []) i (record { node = node; from = 0 })) (len ∙ sym same) (at_last queue (record { node = node; from = 0 })),
        own ∙ sym same,
      )
    ]

pub each_more : (queue : List Waiter) (k node : ℕ) → node ≡ k → ((waiter : Waiter) → Among queue waiter → (waiter.node < k) × (waiter.from ≡ 0))
    → (waiter : Waiter) → Among (queue ++ record { node = node; from = 0 } ∷ []) waiter → (waiter.node < k + 1) × (waiter.from ≡ 0)
each_more queue k node own each waiter m =
    elim (among_either queue (record { node = node; from = 0 } ∷ []) waiter m) [
      | inl first ↦ (let was = each waiter first in let lt = was.0 in (omega (arith, lt), was.1))
      | inr last ↦ the_new last
    ]
  where
    the_new : Among (record { node = node; from = 0 } ∷ []) waiter → (waiter.node < k + 1) × (waiter.from ≡ 0)
    the_new (zero, e) =
        let same : record { node = node; from = 0 } ≡ waiter = same_Some (record { node = node; from = 0 }) waiter e in
        let place : node ≡ waiter.node = ap (λ (w : Waiter). w.node) same in
        (omega (arith, place, own), sym (ap (λ (w : Waiter). w.from) same))
    the_new (suc i, e) = absurd (none-some waiter e)

pub last_look : (sources : List (List ℕ)) (t : List ℕ) (waiting : List (List Waiter)) (queue : List Waiter) (at : ℕ) → IsLevelling sources t waiting queue at → length queue ≤ at → AreStuck sources t
last_look sources t waiting queue at so end n lt none =
    elim (so.stand n lt none) [
      | inl listed ↦ (let inside = slice_get_within queue listed.0 listed.1 listed.2 in let ge = listed.3 in absurd (omega (arith, inside, ge, end)))
      | inr w ↦ (w.0, w.6, w.7)
    ]

-- ---- tables

abbrev count_without : ℕ → ℕ
count_without level = cond (level == 0) 1 0

count_some : (v : ℕ) → 0 < v → count_without v ≡ 0
count_some v lt = cond-false (v == 0) 1 0 (ne_eqb v 0 (λ e. omega (arith, e, lt)))

level_counted : (xs : List ℕ) (i v : ℕ) → i < length xs → slice_index xs i ≡ 0 → 0 < v → without_level (set xs i v) < without_level xs
level_counted xs i v lt none some =
    let e = sum_by-set count_without xs i v 0 lt in
    let was : count_without (get_or xs i 0) ≡ 1 = ap count_without none in
    let is = count_some v some in
    omega (arith, e, was, is)

pub levelled_set : (sources : List (List ℕ)) (n best : ℕ) (t : List ℕ) → n < length t → slice_index t n ≡ 0 → ((q : ℕ) → Among (sources_at sources n) q → 0 < slice_index t q)
    → ((q : ℕ) → Among (sources_at sources n) q → slice_index t q ≤ best) → (best ≡ 0) ⊎ ((q : ℕ) × Among (sources_at sources n) q × (best ≡ slice_index t q))
    → IsLevelled sources n t (set t n (best + 1))
levelled_set sources n best t lt none some most one =
    let here : slice_index (set t n (best + 1)) n ≡ best + 1 = get_or-set_same t n (best + 1) 0 lt in record {
      size = length-set t n (best + 1);
      none = none;
      others = λ m ne. get_or-set_other t n m (best + 1) 0 ne;
      above = λ q a. (some q a, let le = most q a in omega (arith, here, le));
      reached = elim one [
        | inl z ↦ inl (omega (arith, here, z))
        | inr from ↦ (let e = from.2 in inr (from.0, from.1, omega (arith, here, e)))
      ];
      some = omega (arith, here);
      fewer = level_counted t n (best + 1) lt none (omega arith);
    }

-- ---- all numbers have a level, or some number has none

pub levels_all : (levels : List ℕ) → list_all (λ l. nat_lt 0 l) levels ≡ true → (n : ℕ) → n < length levels → 0 < slice_index levels n
levels_all [] e n lt = absurd (omega (arith, lt))
levels_all (x ∷ xs) e zero lt = ltb-true 0 x (and_parts (nat_lt 0 x) (list_all (λ l. nat_lt 0 l) xs) e).0
levels_all (x ∷ xs) e (suc n) lt = levels_all xs (and_parts (nat_lt 0 x) (list_all (λ l. nat_lt 0 l) xs) e).1 n (omega (arith, lt))

pub levels_none : (levels : List ℕ) → list_all (λ l. nat_lt 0 l) levels ≡ false → (n : ℕ) × (n < length levels) × (slice_index levels n ≡ 0)
levels_none [] e = absurd (false≢true (sym e))
levels_none (x ∷ xs) e =
    elim (and_cases (nat_lt 0 x) (list_all (λ l. nat_lt 0 l) xs) e) [
      | inl f ↦ (let le = ltb-false 0 x f in (zero, omega arith, omega (arith, le)))
      | inr f ↦ (let h = levels_none xs f in let lt = h.1 in (suc h.0, omega (arith, lt), h.2))
    ]
