-- Tables of the signals of a small network are right where a test that computes says so.
use Rattle.std.proofs.Common.{◌≡◌, ℕ, zero, suc, ◌≤◌, ◌<◌, min, ◌||◌, ◌&&◌, ◌⊎◌, Bool, true, false, List, length, eqb, leb, arith, subst, sym, refl, ◌∙◌, ap, inl, inr, slice_index}
use Rattle.std.specs.Prelude.{◌↔◌, unwrap_or}
use Rattle.std.specs.List.{list_all}
use Rattle.std.proofs.lemmas.Bool.{and_parts, or_cases, eqb-true, eq-eqb, leb-true, le-leb, false≢true, cases_lt}
use Rattle.std.proofs.lemmas.List.{get_or_past}
use Rattle.std.proofs.lemmas.Option.{slice_get_past}
use Rattle.vrt_model.proofs.Clear.{HopFits, RootFits, arrives-reaches, reaches-arrives}
use Rattle.vrt_model.proofs.Decidable.{ends_within, ends_marked, same_bit_is}
use Rattle.vrt_model.proofs.Marks.{HasRootMarks, HasSpread, marks_closed}
use Rattle.vrt_model.proofs.Members.{at_all}
use Rattle.vrt_model.proofs.Roots.{root_among, roots_of}
use Rattle.vrt_model.proofs.Strength.{AtLeast, HopHas, RootHas, level_le, strength_of}
use Rattle.vrt_model.specs.Lists.{Among, bit_at, same_bit}
use Rattle.vrt_model.specs.Path.{Hop, IsPath, Joins, Network, Root, end_of, level_of}
use Rattle.vrt_model.specs.Reading.{conducts}
use Rattle.vrt_model.specs.Response.{IsResponse, IsStrength, Reaches}
use Rattle.vrt_model.specs.Signals.{AreSignals, response_by}
use Rattle.vrt_model.specs.declared.circuit.Device.{Device}

-- one bit implies another
abbrev pub implies : Bool → Bool → Bool
implies true b = b
implies false b = true

implied : (a b : Bool) → implies a b ≡ true → a ≡ true → b ≡ true
implied true b e t = e
implied false b e t = absurd (false≢true t)

-- what holds of each element by a test holds of one
pub all_at : {X : Type 0} (test : X → Bool) (xs : List X) (x : X) → list_all test xs ≡ true → Among xs x → test x ≡ true
all_at test xs x all m = at_all test xs m.0 x all m.1

-- ---- tests

abbrev pub bounds_root : List ℕ → Root → Bool
bounds_root t root = leb root.level (slice_index t root.net)

abbrev pub bounds_device : Network → List ℕ → Device → Bool
bounds_device w t d =
    implies (conducts w.reading d)
    (leb (min (slice_index t d.left.0) d.level) (slice_index t d.right.0) && leb (min (slice_index t d.right.0) d.level) (slice_index t d.left.0))

-- no path is above the table
abbrev pub bounds : Network → List ℕ → Bool
bounds w t = list_all (bounds_root t) (roots_of w) && list_all (bounds_device w t) w.devices

-- a path of the level of the entry ends at each net below a number, or the entry is 0; paths of so many devices are tried
abbrev pub attains : Network → ℕ → List ℕ → ℕ → Bool
attains w count t zero = true
attains w count t (suc n) =
    attains w count t n
    && (eqb (slice_index t n) 0 || ends_within w (λ (root : Root). leb (slice_index t n) root.level) (λ m d k. leb (slice_index t n) d.level) count n)

abbrev pub fits_root : List ℕ → Bool → Root → Bool
fits_root t v root = eqb root.level (slice_index t root.net) && same_bit root.value v

abbrev pub fits_hop : List ℕ → ℕ → Device → ℕ → Bool
fits_hop t m d n = eqb (min (slice_index t m) d.level) (slice_index t n)

abbrev pub marks_root : List ℕ → Bool → List Bool → Root → Bool
marks_root t v marks root = implies (fits_root t v root) (bit_at marks root.net)

abbrev pub marks_device : Network → List ℕ → List Bool → Device → Bool
marks_device w t marks d =
    implies (conducts w.reading d)
    (implies (bit_at marks d.left.0 && fits_hop t d.left.0 d d.right.0) (bit_at marks d.right.0)
    && implies (bit_at marks d.right.0 && fits_hop t d.right.0 d d.left.0) (bit_at marks d.left.0))

-- each net that the value reaches is marked
abbrev pub covers : Network → List ℕ → Bool → List Bool → Bool
covers w t v marks = list_all (marks_root t v marks) (roots_of w) && list_all (marks_device w t marks) w.devices

-- the value reaches each marked net below a number
abbrev pub finds : Network → ℕ → List ℕ → Bool → List Bool → ℕ → Bool
finds w count t v marks zero = true
finds w count t v marks (suc n) =
    finds w count t v marks n && implies (bit_at marks n) (ends_within w (fits_root t v) (fits_hop t) count n)

-- the tables are right, where paths of so many devices are tried
abbrev pub is_right : Network → ℕ → List ℕ → List Bool → List Bool → Bool
is_right w count t zeros ones =
    (bounds w t && attains w count t (length t))
    && ((covers w t false zeros && finds w count t false zeros (length zeros)) && (covers w t true ones && finds w count t true ones (length ones)))

-- ---- what the tests show

module _ (w : Network) (count : ℕ) (t : List ℕ) (bounded : bounds w t ≡ true) (attained : attains w count t (length t) ≡ true) where
  most : (root : Root) (hops : List Hop) → IsPath w root hops → level_of root hops ≤ slice_index t (end_of root hops)
  most =
      level_le w (slice_index t)
      (λ root r. leb-true root.level (slice_index t root.net) (all_at (bounds_root t) (roots_of w) root parts.0 (root_among w root r)))
      (λ m n d on j. joined m n d j (and_parts (leb (min (slice_index t d.left.0) d.level) (slice_index t d.right.0)) (leb (min (slice_index t d.right.0) d.level) (slice_index t d.left.0))
      (implied (conducts w.reading d) (leb (min (slice_index t d.left.0) d.level) (slice_index t d.right.0) && leb (min (slice_index t d.right.0) d.level) (slice_index t d.left.0))
      (all_at (bounds_device w t) w.devices d parts.1 on.0) on.1)))
    where
      parts : (list_all (bounds_root t) (roots_of w) ≡ true) × (list_all (bounds_device w t) w.devices ≡ true)
      parts = and_parts (list_all (bounds_root t) (roots_of w)) (list_all (bounds_device w t) w.devices) bounded

      joined : (m n : ℕ) (d : Device) → Joins d m n
          → (leb (min (slice_index t d.left.0) d.level) (slice_index t d.right.0) ≡ true) × (leb (min (slice_index t d.right.0) d.level) (slice_index t d.left.0) ≡ true)
          → min (slice_index t m) d.level ≤ slice_index t n
      joined m n d (inl j) h =
          subst (λ (x : ℕ). min (slice_index t x) d.level ≤ slice_index t n) j.0
          (subst (λ (x : ℕ). min (slice_index t d.left.0) d.level ≤ slice_index t x) j.1 (leb-true (min (slice_index t d.left.0) d.level) (slice_index t d.right.0) h.0))
      joined m n d (inr j) h =
          subst (λ (x : ℕ). min (slice_index t x) d.level ≤ slice_index t n) j.1
          (subst (λ (x : ℕ). min (slice_index t d.right.0) d.level ≤ slice_index t x) j.0 (leb-true (min (slice_index t d.right.0) d.level) (slice_index t d.left.0) h.1))

  at_least : (l n : ℕ) → ends_within w (λ (root : Root). leb l root.level) (λ m d k. leb l d.level) count n ≡ true → AtLeast w l n
  at_least l n e =
      ends_marked w (RootHas l) (HopHas l) (λ (root : Root). leb l root.level) (λ m d k. leb l d.level)
      (λ root. (λ e. leb-true l root.level e, λ h. le-leb l root.level h)) (λ m k d. (λ e. leb-true l d.level e, λ h. le-leb l d.level h)) count n e

  below : (k n : ℕ) → attains w count t k ≡ true → n < k → (slice_index t n ≡ 0) ⊎ AtLeast w (slice_index t n) n
  below zero n e lt = absurd (omega arith)
  below (suc k) n e lt =
      elim (cases_lt n k) [
        | inl less ↦ below k n (parts k e).0 less
        | inr ge ↦
            let same : k ≡ n = omega arith in
            subst (λ (x : ℕ). (slice_index t x ≡ 0) ⊎ AtLeast w (slice_index t x) x) same
            (elim (or_cases (eqb (slice_index t k) 0) (ends_within w (λ (root : Root). leb (slice_index t k) root.level) (λ m d j. leb (slice_index t k) d.level) count k) (parts k e).1) [
              | inl none ↦ inl (eqb-true (slice_index t k) 0 none)
              | inr some ↦ inr (at_least (slice_index t k) k some)
            ])
      ]
    where
      parts : (k : ℕ) → attains w count t (suc k) ≡ true
          → (attains w count t k ≡ true)
          × ((eqb (slice_index t k) 0 || ends_within w (λ (root : Root). leb (slice_index t k) root.level) (λ m d j. leb (slice_index t k) d.level) count k) ≡ true)
      parts k e = and_parts (attains w count t k) (eqb (slice_index t k) 0 || ends_within w (λ (root : Root). leb (slice_index t k) root.level) (λ m d j. leb (slice_index t k) d.level) count k) e

  strengths_right : (n : ℕ) → IsStrength w n (slice_index t n)
  strengths_right n =
      strength_of w (slice_index t) most n
      (elim (cases_lt n (length t)) [ inl less ↦ below (length t) n attained less | inr ge ↦ inl (get_or_past t n 0 ge) ])

module _ (w : Network) (count : ℕ) (t : List ℕ) (strong : (n : ℕ) → IsStrength w n (slice_index t n)) (v : Bool) (marks : List Bool)
    (covered : covers w t v marks ≡ true) (found_there : finds w count t v marks (length marks) ≡ true) where
  root_fits : (root : Root) → (fits_root t v root ≡ true) ↔ RootFits (slice_index t) v root
  root_fits root = (
    λ e. (let p = and_parts (eqb root.level (slice_index t root.net)) (same_bit root.value v) e in (eqb-true root.level (slice_index t root.net) p.0, (same_bit_is root.value v).0 p.1)),
    λ k. both (eqb root.level (slice_index t root.net)) (same_bit root.value v) (eq-eqb root.level (slice_index t root.net) k.0) ((same_bit_is root.value v).1 k.1),
  )
    where
      both : (a b : Bool) → a ≡ true → b ≡ true → (a && b) ≡ true
      both true b e f = f
      both false b e f = absurd (false≢true e)

  hop_fits : (m n : ℕ) (d : Device) → (fits_hop t m d n ≡ true) ↔ HopFits (slice_index t) m d n
  hop_fits m n d = (λ e. eqb-true (min (slice_index t m) d.level) (slice_index t n) e, λ e. eq-eqb (min (slice_index t m) d.level) (slice_index t n) e)

  parts : (list_all (marks_root t v marks) (roots_of w) ≡ true) × (list_all (marks_device w t marks) w.devices ≡ true)
  parts = and_parts (list_all (marks_root t v marks) (roots_of w)) (list_all (marks_device w t marks) w.devices) covered

  root_marks : HasRootMarks w (RootFits (slice_index t) v) (HopFits (slice_index t)) (bit_at marks)
  root_marks root r k =
      implied (fits_root t v root) (bit_at marks root.net) (all_at (marks_root t v marks) (roots_of w) root parts.0 (root_among w root r)) ((root_fits root).1 k)

  spread : HasSpread w (RootFits (slice_index t) v) (HopFits (slice_index t)) (bit_at marks) (bit_at marks)
  spread m n d on j fits marked =
      let here = and_parts (implies (bit_at marks d.left.0 && fits_hop t d.left.0 d d.right.0) (bit_at marks d.right.0)) (implies (bit_at marks d.right.0 && fits_hop t d.right.0 d d.left.0) (bit_at marks d.left.0))
      (implied (conducts w.reading d) (implies (bit_at marks d.left.0 && fits_hop t d.left.0 d d.right.0) (bit_at marks d.right.0) && implies (bit_at marks d.right.0 && fits_hop t d.right.0 d d.left.0) (bit_at marks d.left.0))
      (all_at (marks_device w t marks) w.devices d parts.1 on.0) on.1) in
      elim j [
        | inl q ↦ subst (λ (x : ℕ). bit_at marks x ≡ true) q.1
            (implied (bit_at marks d.left.0 && fits_hop t d.left.0 d d.right.0) (bit_at marks d.right.0) here.0
            (both (bit_at marks d.left.0) (fits_hop t d.left.0 d d.right.0) (subst (λ (x : ℕ). bit_at marks x ≡ true) (sym q.0) marked)
            (subst (λ (x : ℕ). fits_hop t x d d.right.0 ≡ true) (sym q.0) (subst (λ (x : ℕ). fits_hop t m d x ≡ true) (sym q.1) ((hop_fits m n d).1 fits)))))
        | inr q ↦ subst (λ (x : ℕ). bit_at marks x ≡ true) q.0
            (implied (bit_at marks d.right.0 && fits_hop t d.right.0 d d.left.0) (bit_at marks d.left.0) here.1
            (both (bit_at marks d.right.0) (fits_hop t d.right.0 d d.left.0) (subst (λ (x : ℕ). bit_at marks x ≡ true) (sym q.1) marked)
            (subst (λ (x : ℕ). fits_hop t x d d.left.0 ≡ true) (sym q.1) (subst (λ (x : ℕ). fits_hop t m d x ≡ true) (sym q.0) ((hop_fits m n d).1 fits)))))
      ]
    where
      both : (a b : Bool) → a ≡ true → b ≡ true → (a && b) ≡ true
      both true b e f = f
      both false b e f = absurd (false≢true e)

  reached_below : (k n : ℕ) → finds w count t v marks k ≡ true → n < k → bit_at marks n ≡ true → Reaches w n v
  reached_below zero n e lt marked = absurd (omega arith)
  reached_below (suc k) n e lt marked =
      elim (cases_lt n k) [
        | inl less ↦ reached_below k n (here k e).0 less marked
        | inr ge ↦
            let same : k ≡ n = omega arith in
            let there : bit_at marks k ≡ true = subst (λ (x : ℕ). bit_at marks x ≡ true) (sym same) marked in
            subst (λ (x : ℕ). Reaches w x v) same
            (arrives-reaches w (slice_index t) strong v k
            (ends_marked w (RootFits (slice_index t) v) (HopFits (slice_index t)) (fits_root t v) (fits_hop t) root_fits (λ m j d. hop_fits m j d) count k
            (implied (bit_at marks k) (ends_within w (fits_root t v) (fits_hop t) count k) (here k e).1 there)))
      ]
    where
      here : (k : ℕ) → finds w count t v marks (suc k) ≡ true
          → (finds w count t v marks k ≡ true) × (implies (bit_at marks k) (ends_within w (fits_root t v) (fits_hop t) count k) ≡ true)
      here k e = and_parts (finds w count t v marks k) (implies (bit_at marks k) (ends_within w (fits_root t v) (fits_hop t) count k)) e

  marks_right : (n : ℕ) → (bit_at marks n ≡ true) ↔ Reaches w n v
  marks_right n = (
    λ e. elim (cases_lt n (length marks)) [
      | inl less ↦ reached_below (length marks) n found_there less e
      | inr ge ↦ absurd (false≢true (sym (ap (λ o. unwrap_or o false) (slice_get_past marks n ge)) ∙ e))
    ],
    λ r. marks_closed w (RootFits (slice_index t) v) (HopFits (slice_index t)) (bit_at marks) root_marks spread n (reaches-arrives w (slice_index t) strong v n r),
  )

-- tables that pass the test are right
pub are_signals : (w : Network) (count : ℕ) (t : List ℕ) (zeros ones : List Bool) → is_right w count t zeros ones ≡ true → AreSignals w t zeros ones
are_signals w count t zeros ones e =
    let p = and_parts (bounds w t && attains w count t (length t))
    ((covers w t false zeros && finds w count t false zeros (length zeros)) && (covers w t true ones && finds w count t true ones (length ones))) e in
    let levels = and_parts (bounds w t) (attains w count t (length t)) p.0 in
    let values = and_parts (covers w t false zeros && finds w count t false zeros (length zeros)) (covers w t true ones && finds w count t true ones (length ones)) p.1 in
    let low = and_parts (covers w t false zeros) (finds w count t false zeros (length zeros)) values.0 in
    let high = and_parts (covers w t true ones) (finds w count t true ones (length ones)) values.1 in
    let strong = strengths_right w count t levels.0 levels.1 in
    record {
      strength = strong;
      reached_by_zero = marks_right w count t strong false zeros low.0 low.1;
      reached_by_one = marks_right w count t strong true ones high.0 high.1;
    }

-- the response of a net by the tables
pub response_of : (w : Network) (n : ℕ) (low high : Bool) → ((low ≡ true) ↔ Reaches w n false) → ((high ≡ true) ↔ Reaches w n true) → IsResponse w n (response_by low high)
response_of w n true true l h = (h.0 refl, l.0 refl)
response_of w n true false l h = (l.0 refl, λ r. false≢true (h.1 r))
response_of w n false true l h = (h.0 refl, λ r. false≢true (l.1 r))
response_of w n false false l h = (λ r. false≢true (h.1 r), λ r. false≢true (l.1 r))

pub signal_response : (w : Network) (t : List ℕ) (zeros ones : List Bool) → AreSignals w t zeros ones → (n : ℕ) → IsResponse w n (response_by (bit_at zeros n) (bit_at ones n))
signal_response w t zeros ones s n = response_of w n (bit_at zeros n) (bit_at ones n) (s.reached_by_zero n) (s.reached_by_one n)
