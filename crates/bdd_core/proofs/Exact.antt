-- `Spent` comes exactly where more nodes are missing than the budget leaves room for.
use Rattle.std.proofs.Common.{◌≡◌, ℕ, zero, suc, ◌+◌, ◌-◌, ◌<◌, ◌≤◌, Bool, true, false, cond, ltb, List, length, sym, subst, ap, refl, ◌∙◌, inl, inr, arith}
use Rattle.std.proofs.lemmas.Bool.{cases_lt, lt-ltb, le-ltb}
use Rattle.node_pool.specs.declared.region.Node.{Node}
use Rattle.bdd_core.specs.Diagram.{Function, Valuation, IsSame, IsReduced, IsSubfunction, Grows, Lacks, MissesMore, MissesMoreOf, meaning, node_at, top, splice}
use Rattle.bdd_core.proofs.Canonical.{canonical, independent, proper_node, ends_same}
use Rattle.bdd_core.proofs.Growth.{grows_keeps, grows_length, splice_early, splice_late}
use Rattle.bdd_core.proofs.Pigeon.{pigeon}

-- each subfunction of a place has a place
there_below : (vars : ℕ) (ns : List Node) (r : IsReduced vars ns) (n i k : ℕ) (u : Valuation) → i < n → i < length ns →
    (j : ℕ) × (j < length ns) × ((v : Valuation) → meaning ns j v ≡ meaning ns i (splice k u v))
there_below vars ns r zero i k u below within = absurd (omega arith)
there_below vars ns r (suc n) i k u below within = elim (cases_lt (top ns i) k) [
  | inr late ↦ (i, within, λ v. sym (independent vars ns r i within (splice k u v) v (λ x later. splice_late k u v x (omega arith))))
  | inl early ↦ elim (cases_lt i 2) [
    | inl low ↦ (i, within, λ v. sym (ends_same vars ns r i low (splice k u v) v))
    | inr high ↦
        let p = r.proper i high within in
        let go : (b : Bool) → u (top ns i) ≡ b → (j : ℕ) × (j < length ns) × ((v : Valuation) → meaning ns j v ≡ meaning ns i (splice k u v)) =
        λ b. elim b as (λ b. u (top ns i) ≡ b → (j : ℕ) × (j < length ns) × ((v : Valuation) → meaning ns j v ≡ meaning ns i (splice k u v))) [
          | true ↦ λ is.
              let t = there_below vars ns r n (node_at ns i).hi k u (omega (arith, p.hi_below)) (omega (arith, p.hi_below)) in
              (t.0, t.1, λ v. t.2 v ∙ sym (proper_node vars ns r i high within (splice k u v) ∙ rw (splice_early k u v (top ns i) early, is) refl))
          | false ↦ λ is.
              let t = there_below vars ns r n (node_at ns i).lo k u (omega (arith, p.lo_below)) (omega (arith, p.lo_below)) in
              (t.0, t.1, λ v. t.2 v ∙ sym (proper_node vars ns r i high within (splice k u v) ∙ rw (splice_early k u v (top ns i) early, is) refl))
        ] in
        go (u (top ns i)) refl
  ]
]

pub sub_there : (vars : ℕ) (ns : List Node) (i : ℕ) (g f : Function) → IsReduced vars ns → i < length ns → IsSame (meaning ns i) f → IsSubfunction g f →
    (j : ℕ) × (j < length ns) × IsSame (meaning ns j) g
sub_there vars ns i g f r within is sub =
    let t = there_below vars ns r (suc i) i sub.first sub.fixed (omega arith) within in
    (t.0, t.1, λ v. t.2 v ∙ is (splice sub.first sub.fixed v) ∙ sym (sub.is v))

-- Where nodes of some diagrams alone were added up to the budget, and one is still missing, more were missing than the
-- budget had left.
pub spent_misses_of : (vars : ℕ) (old new : List Node) (IsOf : Function → Type 0) (budget : ℕ) → IsReduced vars new → length old ≤ length new →
    ((i : ℕ) → i < length old → IsSame (meaning new i) (meaning old i)) → ((i : ℕ) → length old ≤ i → i < length new → IsOf (meaning new i)) →
    length new ≡ budget → (sub : Function) → IsOf sub → ((i : ℕ) → i < length new → IsSame (meaning new i) sub → ⊥) → MissesMoreOf old IsOf (budget - length old)
spent_misses_of vars old new IsOf budget r more keeps added full sub of absent =
    -- the added nodes, and last the one that is missing still
    let at : ℕ → ℕ = λ i. length old + i in
    let subs : ℕ → Function = λ i. cond (ltb (at i) (length new)) (meaning new (at i)) sub in
    let first : (i : ℕ) → at i < length new → subs i ≡ meaning new (at i) = λ i low. rw (lt-ltb (at i) (length new) low) refl in
    let last : (i : ℕ) → length new ≤ at i → subs i ≡ sub = λ i high. rw (le-ltb (at i) (length new) high) refl in
    record {
      subs = subs;
      of = λ i le. elim (cases_lt (at i) (length new)) [
        | inl low ↦ subst IsOf (sym (first i low)) (added (at i) (omega arith) low)
        | inr high ↦ subst IsOf (sym (last i high)) of
      ];
      absent = λ i le j in_j same. elim (cases_lt (at i) (length new)) [
        | inl low ↦ omega (arith, in_j, canonical vars new r j (at i) (omega arith) low (λ v. keeps j in_j v ∙ same v ∙ ap (λ h. h v) (first i low)))
        | inr high ↦ absent j (omega arith) (λ v. keeps j in_j v ∙ same v ∙ ap (λ h. h v) (last i high))
      ];
      differ = λ i j i_le j_le same. elim (cases_lt (at i) (length new)) [
        | inl low ↦ elim (cases_lt (at j) (length new)) [
          | inl low' ↦ omega (arith, canonical vars new r (at i) (at j) low low' (λ v. ap (λ h. h v) (sym (first i low)) ∙ same v ∙ ap (λ h. h v) (first j low')))
          | inr high' ↦ absurd (absent (at i) low (λ v. ap (λ h. h v) (sym (first i low)) ∙ same v ∙ ap (λ h. h v) (last j high')))
        ]
        | inr high ↦ elim (cases_lt (at j) (length new)) [
          | inl low' ↦ absurd (absent (at j) low' (λ v. ap (λ h. h v) (sym (first j low')) ∙ sym (same v) ∙ ap (λ h. h v) (last i high)))
          | inr high' ↦ omega arith
        ]
      ];
    }

-- Where all of some diagrams is there within the budget, no more were missing than it had left.
pub ok_misses_none_of : (vars : ℕ) (old new : List Node) (IsOf : Function → Type 0) (budget : ℕ) → IsReduced vars new → length old ≤ length new →
    ((i : ℕ) → i < length old → IsSame (meaning new i) (meaning old i)) → ((g : Function) → IsOf g → (j : ℕ) × (j < length new) × IsSame (meaning new j) g) →
    length new ≤ budget → MissesMoreOf old IsOf (budget - length old) → ⊥
ok_misses_none_of vars old new IsOf budget r more keeps has fits m =
    let n : ℕ = budget - length old in
    let place : (k : ℕ) → k ≤ n → (j : ℕ) × (j < length new) × IsSame (meaning new j) (m.subs k) = λ k le. has (m.subs k) (m.of k le) in
    let later : (k : ℕ) → (le : k ≤ n) → length old ≤ (place k le).0 = λ k le. elim (cases_lt (place k le).0 (length old)) [
      | inl low ↦ absurd (m.absent k le (place k le).0 low (λ v. sym (keeps (place k le).0 low v) ∙ (place k le).2 v))
      | inr high ↦ high
    ] in
    let found : (k : ℕ) → (j : ℕ) × (k ≤ n → (length old ≤ j) × (j < length new) × IsSame (meaning new j) (m.subs k)) = λ k. elim (cases_lt n k) [
      | inl above ↦ (0, λ le. absurd (omega (arith, above, le)))
      | inr le ↦ ((place k le).0, λ _. (later k le, (place k le).1, (place k le).2))
    ] in
    let many : n + 1 ≤ length new - length old = pigeon (length new - length old) (n + 1) (λ k. (found k).0 - length old)
    (λ k low. let p = (found k).1 (omega (arith, low)) in omega (arith, p.0, p.1))
    (λ k l low low' same.
    let p = (found k).1 (omega (arith, low)) in
    let q = (found l).1 (omega (arith, low')) in
    let one : (found k).0 ≡ (found l).0 = omega (arith, p.0, q.0, same) in
    m.differ k l (omega (arith, low)) (omega (arith, low')) (λ v. sym (p.2 v) ∙ ap (λ j. meaning new j v) one ∙ q.2 v)) in
    omega (arith, many, fits, more)

-- The two for one diagram.
pub spent_misses : (vars : ℕ) (old new : List Node) (f : Function) (budget : ℕ) → IsReduced vars new → Grows old new f → length new ≡ budget → Lacks new f → MissesMore old f (budget - length old)
spent_misses vars old new f budget r g full lacks =
    spent_misses_of vars old new (λ h. IsSubfunction h f) budget r (grows_length old new f g) (grows_keeps old new f g) g.added full lacks.sub lacks.of lacks.absent

pub ok_misses_none : (vars : ℕ) (old new : List Node) (f : Function) (budget i : ℕ) → IsReduced vars new → Grows old new f → length new ≤ budget → i < length new → IsSame (meaning new i) f → MissesMore old f (budget - length old) → ⊥
ok_misses_none vars old new f budget i r g fits within is m =
    ok_misses_none_of vars old new (λ h. IsSubfunction h f) budget r (grows_length old new f g) (grows_keeps old new f g) (λ h sub. sub_there vars new i h f r within is sub) fits m
