-- Whether a path of some kind ends at a net is found by a finite search. So each net has a strength, and one response.
use Rattle.std.proofs.Common.{◌≡◌, ℕ, zero, suc, ◌≤◌, ◌<◌, min, ◌||◌, ◌&&◌, ◌⊎◌, Bool, true, false, List, [], ◌∷◌, eqb, leb, arith, add-one, subst, sym, refl, ◌∙◌, inl, inr}
use Rattle.std.specs.Prelude.{◌↔◌}
use Rattle.std.specs.List.{list_any}
use Rattle.std.proofs.lemmas.Bool.{or_cases, or_left, or_right, and_parts, and_from, eqb-true, eq-eqb, leb-true, leb-false, le-leb, false≢true, cases_Bool}
use Rattle.vrt_model.proofs.Clear.{HopFits, RootFits, arrives-reaches, reaches-arrives}
use Rattle.vrt_model.proofs.Marks.{HasMarksWithin, HasRootMarks, HasSpread, IsMarked, marks_all, marks_more, marks_none}
use Rattle.vrt_model.proofs.Members.{any_among, among_any}
use Rattle.vrt_model.proofs.PathKinds.{Arrives, arrives_on, arrives_root}
use Rattle.vrt_model.proofs.Roots.{among_root, root_among, roots_of}
use Rattle.vrt_model.proofs.ShortPaths.{path_short}
use Rattle.vrt_model.proofs.Strength.{AtLeast, HopHas, RootHas, keeps-level, level-keeps}
use Rattle.vrt_model.specs.Lists.{same_bit}
use Rattle.vrt_model.specs.Path.{Hop, IsOn, IsPath, Network, Root, end_of, level_of}
use Rattle.vrt_model.specs.Reading.{conducts}
use Rattle.vrt_model.specs.Response.{Fight, Float, IsResponse, IsStrength, Reaches, Response, Shows}
use Rattle.vrt_model.specs.declared.circuit.Device.{Device}
use Rattle.vrt_model.specs.Networks.{HasBound, IsFinite}

-- a device leads from a marked net to n
abbrev pub leads : (ℕ → Bool) → (ℕ → Device → ℕ → Bool) → (ℕ → Bool) → ℕ → Device → Bool
leads reading fits marked n d =
    conducts reading d
    && ((eqb d.right.0 n && (marked d.left.0 && fits d.left.0 d n)) || (eqb d.left.0 n && (marked d.right.0 && fits d.right.0 d n)))

-- a root that passes is at n
abbrev pub starts : Network → (Root → Bool) → ℕ → Bool
starts w first n = list_any (λ (root : Root). eqb root.net n && first root) (roots_of w)

-- the nets at which paths of at most so many devices end
abbrev pub ends_within : Network → (Root → Bool) → (ℕ → Device → ℕ → Bool) → ℕ → ℕ → Bool
ends_within w first fits zero n = starts w first n
ends_within w first fits (suc i) n = ends_within w first fits i n || list_any (leads w.reading fits (ends_within w first fits i) n) w.devices

module _ (w : Network) (R : Root → Type 0) (H : ℕ → Device → ℕ → Type 0) (first : Root → Bool) (fits : ℕ → Device → ℕ → Bool)
    (first_ok : (root : Root) → (first root ≡ true) ↔ R root) (fits_ok : (m n : ℕ) (d : Device) → (fits m d n ≡ true) ↔ H m d n) where
  starts_marked : IsMarked w R H (starts w first)
  starts_marked n e =
      let h = any_among (λ (root : Root). eqb root.net n && first root) (roots_of w) e in
      let p = and_parts (eqb h.0.net n) (first h.0) h.2 in
      subst (Arrives w R H) (eqb-true h.0.net n p.0) (arrives_root w R H h.0 (among_root w h.0 h.1) ((first_ok h.0).0 p.1))

  starts_roots : HasRootMarks w R H (starts w first)
  starts_roots root r k =
      among_any (λ (other : Root). eqb other.net root.net && first other) (roots_of w) root (root_among w root r)
      (and_from (eqb root.net root.net) (first root) (eq-eqb root.net root.net refl) ((first_ok root).1 k))

  pub ends_marked : (i : ℕ) → IsMarked w R H (ends_within w first fits i)
  ends_marked zero n e = starts_marked n e
  ends_marked (suc i) n e =
      elim (or_cases (ends_within w first fits i n) (list_any (leads w.reading fits (ends_within w first fits i) n) w.devices) e) [
        | inl t ↦ ends_marked i n t
        | inr t ↦
            let g = any_among (leads w.reading fits (ends_within w first fits i) n) w.devices t in
            let d : Device = g.0 in
            let forth : Bool = eqb d.right.0 n && (ends_within w first fits i d.left.0 && fits d.left.0 d n) in
            let back : Bool = eqb d.left.0 n && (ends_within w first fits i d.right.0 && fits d.right.0 d n) in
            let h = and_parts (conducts w.reading d) (forth || back) g.2 in
            let on : IsOn w d = (g.1, h.0) in
            elim (or_cases forth back h.1) [
              | inl f ↦
                  let a = and_parts (eqb d.right.0 n) (ends_within w first fits i d.left.0 && fits d.left.0 d n) f in
                  let b = and_parts (ends_within w first fits i d.left.0) (fits d.left.0 d n) a.1 in
                  arrives_on w R H d.left.0 n d (ends_marked i d.left.0 b.0) on (inl (refl, eqb-true d.right.0 n a.0)) ((fits_ok d.left.0 n d).0 b.1)
              | inr f ↦
                  let a = and_parts (eqb d.left.0 n) (ends_within w first fits i d.right.0 && fits d.right.0 d n) f in
                  let b = and_parts (ends_within w first fits i d.right.0) (fits d.right.0 d n) a.1 in
                  arrives_on w R H d.right.0 n d (ends_marked i d.right.0 b.0) on (inr (eqb-true d.left.0 n a.0, refl)) ((fits_ok d.right.0 n d).0 b.1)
            ]
      ]

  found_spread : (i : ℕ) → HasSpread w R H (ends_within w first fits i) (ends_within w first fits (suc i))
  found_spread i m n d on j h t =
      let f = (fits_ok m n d).1 h in
      let forth : Bool = eqb d.right.0 n && (ends_within w first fits i d.left.0 && fits d.left.0 d n) in
      let back : Bool = eqb d.left.0 n && (ends_within w first fits i d.right.0 && fits d.right.0 d n) in
      let either : (forth || back) ≡ true =
      elim j [
        | inl q ↦ or_left forth back (and_from (eqb d.right.0 n) (ends_within w first fits i d.left.0 && fits d.left.0 d n) (eq-eqb d.right.0 n q.1)
            (and_from (ends_within w first fits i d.left.0) (fits d.left.0 d n) (subst (λ (x : ℕ). ends_within w first fits i x ≡ true) (sym q.0) t) (subst (λ (x : ℕ). fits x d n ≡ true) (sym q.0) f)))
        | inr q ↦ or_right forth back (and_from (eqb d.left.0 n) (ends_within w first fits i d.right.0 && fits d.right.0 d n) (eq-eqb d.left.0 n q.0)
            (and_from (ends_within w first fits i d.right.0) (fits d.right.0 d n) (subst (λ (x : ℕ). ends_within w first fits i x ≡ true) (sym q.1) t) (subst (λ (x : ℕ). fits x d n ≡ true) (sym q.1) f)))
      ] in
      or_right (ends_within w first fits i n) (list_any (leads w.reading fits (ends_within w first fits i) n) w.devices)
      (among_any (leads w.reading fits (ends_within w first fits i) n) w.devices d on.0 (and_from (conducts w.reading d) (forth || back) on.1 either))

  found_roots : (i : ℕ) → HasRootMarks w R H (ends_within w first fits i)
  found_roots zero root r k = starts_roots root r k
  found_roots (suc i) root r k = or_left (ends_within w first fits i root.net) (list_any (leads w.reading fits (ends_within w first fits i) root.net) w.devices) (found_roots i root r k)

  found_within : (i : ℕ) → HasMarksWithin w R H i (ends_within w first fits i)
  found_within zero = marks_none w R H (ends_within w first fits zero) starts_roots
  found_within (suc i) =
      subst (λ (k : ℕ). HasMarksWithin w R H k (ends_within w first fits (suc i))) (add-one i)
      (marks_more w R H i (ends_within w first fits i) (ends_within w first fits (suc i)) (found_roots (suc i)) (found_spread i) (found_within i))

  -- with as many rounds as there are nets the search finds exactly the nets where a path of this kind ends
  pub ends_all : (bound : ℕ) → HasBound w bound → (n : ℕ) → (ends_within w first fits bound n ≡ true) ↔ Arrives w R H n
  ends_all bound bounded n = (
    ends_marked bound n,
    marks_all w R H bound (ends_within w first fits bound) (λ root hops p. let short = path_short w bound bounded root hops p in omega (arith, short)) (found_within bound) n,
  )

-- ---- strengths

module _ (w : Network) (bound : ℕ) (bounded : HasBound w bound) where
  -- whether a path of at least a level ends at a net
  pub at_least_test : ℕ → ℕ → Bool
  at_least_test l = ends_within w (λ (root : Root). leb l root.level) (λ m d n. leb l d.level) bound

  pub at_least_test_ok : (l n : ℕ) → (at_least_test l n ≡ true) ↔ AtLeast w l n
  unfolding at_least_test
  at_least_test_ok l n =
      ends_all w (RootHas l) (HopHas l) (λ (root : Root). leb l root.level) (λ m d n. leb l d.level)
      (λ root. (λ e. leb-true l root.level e, λ h. le-leb l root.level h))
      (λ m n d. (λ e. leb-true l d.level e, λ h. le-leb l d.level h)) bound bounded n

  greatest_level : (n k : ℕ) → ((root : Root) (hops : List Hop) → IsPath w root hops → end_of root hops ≡ n → level_of root hops ≤ k) → (s : ℕ) × IsStrength w n s
  greatest_level n zero up = (0, (up, inl refl))
  greatest_level n (suc k) up =
      elim (cases_Bool (at_least_test (suc k) n)) [
        | inl t ↦
            let r = (at_least_test_ok (suc k) n).0 t in
            let low = level-keeps (suc k) r.0 r.1 r.3 in
            let high = up r.0 r.1 r.2 r.4 in
            (suc k, (up, inr (r.0, r.1, r.2, r.4, omega arith)))
        | inr f ↦
            greatest_level n k (λ root hops p e.
            let high = up root hops p e in
            elim (cases_le (level_of root hops) k) [
              | inl le ↦ le
              | inr gt ↦ absurd (false≢true (sym f ∙ (at_least_test_ok (suc k) n).1 (root, hops, p, keeps-level (suc k) root hops gt, e)))
            ])
      ]
    where
      cases_le : (a b : ℕ) → (a ≤ b) ⊎ (b < a)
      cases_le a b = elim (cases_Bool (leb a b)) [ inl t ↦ inl (leb-true a b t) | inr f ↦ inr (leb-false a b f) ]

module _ (w : Network) (bound top : ℕ) (finite : IsFinite w bound top) where
  below_top : (root : Root) (hops : List Hop) → IsPath w root hops → level_of root hops ≤ top
  below_top root [] p = finite.most root p
  below_top root (hop ∷ hops) p = let h = below_top root hops p.0 in omega arith

  -- no path is above the strength of a net, and some path has it
  pub strength_exists : (n : ℕ) → (s : ℕ) × IsStrength w n s
  strength_exists n = greatest_level w bound finite.bounded n top (λ root hops p e. below_top root hops p)

  pub strength_at : ℕ → ℕ
  strength_at n = (strength_exists n).0

  pub strength_at_is : (n : ℕ) → IsStrength w n (strength_at n)
  unfolding strength_at
  strength_at_is n = (strength_exists n).1

-- the test of two bits says whether they are the same
pub same_bit_is : (a b : Bool) → (same_bit a b ≡ true) ↔ (a ≡ b)
same_bit_is true true = (λ e. refl, λ e. refl)
same_bit_is true false = (λ e. absurd (false≢true e), λ e. absurd (false≢true (sym e)))
same_bit_is false true = (λ e. absurd (false≢true e), λ e. absurd (false≢true e))
same_bit_is false false = (λ e. refl, λ e. refl)

module _ (w : Network) (bound top : ℕ) (finite : IsFinite w bound top) where
  -- whether a value reaches a net
  pub reaches_test : Bool → ℕ → Bool
  reaches_test v =
      let s = strength_at w bound top finite in
      ends_within w (λ (root : Root). eqb root.level (s root.net) && same_bit root.value v) (λ m d n. eqb (min (s m) d.level) (s n)) bound

  pub reaches_test_ok : (v : Bool) (n : ℕ) → (reaches_test v n ≡ true) ↔ Reaches w n v
  unfolding reaches_test
  reaches_test_ok v n =
      let s = strength_at w bound top finite in
      let strong = strength_at_is w bound top finite in
      let h = ends_all w (RootFits s v) (HopFits s) (λ (root : Root). eqb root.level (s root.net) && same_bit root.value v) (λ m d n. eqb (min (s m) d.level) (s n))
      (λ root. (
        λ e. (let p = and_parts (eqb root.level (s root.net)) (same_bit root.value v) e in (eqb-true root.level (s root.net) p.0, (same_bit_is root.value v).0 p.1)),
        λ k. and_from (eqb root.level (s root.net)) (same_bit root.value v) (eq-eqb root.level (s root.net) k.0) ((same_bit_is root.value v).1 k.1),
      ))
      (λ m n d. (λ e. eqb-true (min (s m) d.level) (s n) e, λ e. eq-eqb (min (s m) d.level) (s n) e))
      bound finite.bounded n in
      (λ e. arrives-reaches w s strong v n (h.0 e), λ r. h.1 (reaches-arrives w s strong v n r))

  -- a value reaches a net, or it does not
  pub reaches_or_not : (n : ℕ) (v : Bool) → Reaches w n v ⊎ (¬ Reaches w n v)
  reaches_or_not n v =
      elim (cases_Bool (reaches_test v n)) [
        | inl t ↦ inl ((reaches_test_ok v n).0 t)
        | inr f ↦ inr (λ r. false≢true (sym f ∙ (reaches_test_ok v n).1 r))
      ]

  -- each net responds in some way
  pub some_response : (n : ℕ) → (r : Response) × IsResponse w n r
  some_response n =
      elim (reaches_or_not n true) [
        | inl high ↦ elim (reaches_or_not n false) [ inl low ↦ (Fight, (high, low)) | inr other ↦ (Shows true, (high, other)) ]
        | inr none ↦ elim (reaches_or_not n false) [ inl low ↦ (Shows false, (low, none)) | inr other ↦ (Float, (none, other)) ]
      ]
