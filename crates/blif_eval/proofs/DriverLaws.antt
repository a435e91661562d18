-- The table of drivers, made cover by cover and latch by latch.
use Rattle.std.proofs.Common.{◌≡◌, ℕ, zero, suc, ◌+◌, ◌<◌, ◌⊎◌, ◌++◌, ◌∷◌, [], List, Bool, true, false, not, length, length-append, set, replicate, arith, ap, subst, sym, refl, ◌∙◌, inl, inr}
use Rattle.std.proofs.lemmas.Bool.{cases_lt}
use Rattle.std.proofs.lemmas.List.Sums.{sum_by_more}
use Rattle.std.proofs.lemmas.Option.{get_or_from_slice_get, none-some, same_Some, slice_get_within}
use Rattle.std.proofs.lemmas.List.{length-set}
use Rattle.vrt_model.proofs.Lists.{at_either, at_front, one_at}
use Rattle.blif_eval.proofs.Drivers.{driven}
use Rattle.blif_eval.proofs.LatchLaws.{latch_of, latch_part, names_before, numbered_at, part_latch}
use Rattle.blif_eval.specs.Drivers.{AreDrivers, AreMade, AreNoted, HasElement, IsDriver, IsStorage, count_before, edge_elements, elements_by, level_elements}
use Rattle.blif_eval.specs.declared.driver_table.Driver.{Driver}
use Rattle.blif_eval.specs.declared.driver_table.Driver.TheVariants.{Given, Covered, Stored, Element}
use Rattle.blif_eval.specs.declared.driver_table.Storage.{Storage}
use Rattle.vrt_model.specs.Elements.{Numbered, element_count, numbered_latches}
use Rattle.vrt_model.specs.FlatModels.{IsFlatModel}
use Rattle.vrt_model.specs.Lists.{At, Among}
use Rattle.vrt_model.specs.ModelArcs.{Part, last_by, parts_by}
use Rattle.vrt_model.specs.declared.blif.LatchKind.{LatchKind}
use Rattle.vrt_model.specs.declared.blif.LatchKind.TheVariants.{Re, Fe, Ah, Al}
use Rattle.vrt_model.specs.declared.flat_model.Cover.{Cover}
use Rattle.vrt_model.specs.declared.flat_model.FlatLatch.{FlatLatch}
use Rattle.vrt_model.specs.declared.flat_model.FlatModel.{FlatModel}

-- ---- lists

-- what stands in a list with one item set is that item, or stood there before
pub at_set : {X : Type 0} (xs : List X) (i : ℕ) (x : X) (k : ℕ) (y : X) → At (set xs i x) k y → ((k ≡ i) × (y ≡ x)) ⊎ ((k ≡ i → ⊥) × At xs k y)
at_set [] i x k y e = absurd (none-some y e)
at_set (z ∷ xs) zero x zero y e = inl (refl, sym (same_Some x y e))
at_set (z ∷ xs) zero x (suc k) y e = inr (λ is. omega (arith, is), e)
at_set (z ∷ xs) (suc i) x zero y e = inr (λ is. omega (arith, is), e)
at_set (z ∷ xs) (suc i) x (suc k) y e = elim (at_set xs i x k y e) [
  | inl p ↦ inl (ap suc p.0, p.1)
  | inr p ↦ inr (λ is. p.0 (omega (arith, is)), p.1)
]

at_behind : {X : Type 0} (xs ys : List X) (j k : ℕ) (y : X) → k ≡ length xs + j → At ys j y → At (xs ++ ys) k y
at_behind {X} [] ys j k y is e = subst (λ (n : ℕ). At ys n y) (let back : j ≡ k = omega (arith, is) in back) e
at_behind (x ∷ xs) ys j zero y is e = absurd (omega (arith, is))
at_behind (x ∷ xs) ys j (suc k) y is e = at_behind xs ys j k y (omega (arith, is)) e

at_replicate : {X : Type 0} (n : ℕ) (x : X) (k : ℕ) (y : X) → At (replicate n x) k y → y ≡ x
at_replicate zero x k y e = absurd (none-some y e)
at_replicate (suc n) x zero y e = sym (same_Some x y e)
at_replicate (suc n) x (suc k) y e = at_replicate n x k y e

replicate_size : {X : Type 0} (n : ℕ) (x : X) → length (replicate n x) ≡ n
replicate_size zero x = refl
replicate_size (suc n) x = ap suc (replicate_size n x)

-- ---- the drivers of signals

abbrev pub IsGiven : Driver → Type 0
IsGiven Given = Unit {0}
IsGiven (Covered place) = ⊥
IsGiven (Stored number) = ⊥
IsGiven (Element storage) = ⊥

pub noted_none : (flat : FlatModel) (drivers : List Driver) → drivers ≡ replicate (length flat.signals) Given → AreNoted flat 0 0 drivers
noted_none flat drivers is = subst (AreNoted flat 0 0) (sym is) (record {
  size = replicate_size (length flat.signals) Given;
  each = λ n d e. inl (at_replicate (length flat.signals) Given n d e);
  of_covers = λ i c lt. absurd (omega (arith, lt));
  of_latches = λ i l lt. absurd (omega (arith, lt));
})

-- what is set is no `Given`
set_not_given : (drivers : List Driver) (signal : ℕ) (d : Driver) → ¬ IsGiven d → (n : ℕ) → At (set drivers signal d) n Given → (n ≡ signal → ⊥) × At drivers n Given
set_not_given drivers signal d not_given n e = elim (at_set drivers signal d n Given e) [
  | inl p ↦ absurd (not_given (subst IsGiven p.1 tt))
  | inr p ↦ p
]

noted_more : (flat : FlatModel) (covers latches : ℕ) (drivers : List Driver) (signal : ℕ) (d : Driver) → ¬ IsGiven d → IsDriver flat signal d → AreNoted flat covers latches drivers
    → AreNoted flat covers latches (set drivers signal d)
noted_more flat covers latches drivers signal d not_given is noted = record {
  size = length-set drivers signal d ∙ noted.size;
  each = λ n driver e. elim (at_set drivers signal d n driver e) [
    | inl p ↦ inr (subst (λ (x : Driver). IsDriver flat n x) (sym p.1) (subst (λ (k : ℕ). IsDriver flat k d) (sym p.0) is))
    | inr p ↦ noted.each n driver p.1
  ];
  of_covers = λ i c lt e there. noted.of_covers i c lt e (set_not_given drivers signal d not_given c.output there).1;
  of_latches = λ i l lt e there. noted.of_latches i l lt e (set_not_given drivers signal d not_given l.output there).1;
}

-- one cover more
pub noted_cover : (flat : FlatModel) (place : ℕ) (cover : Cover) (drivers : List Driver) → At flat.covers place cover → AreNoted flat place 0 drivers
    → AreNoted flat (place + 1) 0 (set drivers cover.output (Covered place))
noted_cover flat place cover drivers there noted =
    let more = noted_more flat place 0 drivers cover.output (Covered place) (λ g. g) (cover, there, refl) noted in
    record {
      size = more.size;
      each = more.each;
      of_covers = λ i c lt e given. elim (cases_lt i place) [
        | inl less ↦ more.of_covers i c less e given
        | inr le ↦
            let here : i ≡ place = omega (arith, lt, le) in
            let same : c ≡ cover = one_at flat.covers place c cover (subst (λ (n : ℕ). At flat.covers n c) here e) there in
            (set_not_given drivers cover.output (Covered place) (λ g. g) c.output given).0 (ap (λ (x : Cover). x.output) same)
      ];
      of_latches = more.of_latches;
    }

-- one latch more
pub noted_latch : (flat : FlatModel) (covers at number : ℕ) (l : Numbered) (drivers : List Driver) → At (numbered_latches flat) at l
    → number ≡ length flat.signals + last_by l.first l.latch.kind → AreNoted flat covers at drivers
    → AreNoted flat covers (at + 1) (set drivers l.latch.output (Stored number))
noted_latch flat covers at number l drivers there is noted =
    let more = noted_more flat covers at drivers l.latch.output (Stored number) (λ g. g) (l, (at, there), refl, is) noted in
    record {
      size = more.size;
      each = more.each;
      of_covers = more.of_covers;
      of_latches = λ i k lt e given. elim (cases_lt i at) [
        | inl less ↦ more.of_latches i k less e given
        | inr le ↦
            let here : i ≡ at = omega (arith, lt, le) in
            let same : k ≡ l.latch = one_at flat.latches at k l.latch (subst (λ (n : ℕ). At flat.latches n k) here e) (latch_of flat at l there) in
            (set_not_given drivers l.latch.output (Stored number) (λ g. g) k.output given).0 (ap (λ (x : FlatLatch). x.output) same)
      ];
    }

-- ---- the elements of one latch

first_part : ℕ → Numbered → Bool → Part
first_part signals l open_at = record { number = signals + l.first; latch = l.latch; source = l.latch.input; transparent_at = open_at }

second_part : ℕ → Numbered → Bool → Part
second_part signals l open_at = record { number = signals + l.first + 1; latch = l.latch; source = signals + l.first; transparent_at = open_at }

first_storage : Numbered → Bool → Storage
first_storage l open_at = record { element = l.first; source = l.latch.input; control = l.latch.control; open_at = open_at }

second_storage : ℕ → Numbered → Bool → Storage
second_storage signals l open_at = record { element = l.first + 1; source = signals + l.first; control = l.latch.control; open_at = open_at }

first_is : (signals : ℕ) (l : Numbered) (open_at : Bool) → IsStorage signals (first_part signals l open_at) (first_storage l open_at)
unfolding first_part first_storage
first_is signals l open_at = record { place = refl; source = refl; control = refl; transparent = refl }

second_is : (signals : ℕ) (l : Numbered) (open_at : Bool) → IsStorage signals (second_part signals l open_at) (second_storage signals l open_at)
unfolding second_part second_storage
second_is signals l open_at = record { place = omega arith; source = refl; control = refl; transparent = refl }

-- an element is one of a part, and a part has an element
abbrev IsOfPart : ℕ → Numbered → List Part → ℕ → Driver → Type 0
IsOfPart signals l parts j d =
    (part : Part) × Among parts part × (storage : Storage) × (d ≡ Element storage) × (part.number ≡ signals + (l.first + j)) × IsStorage signals part storage

abbrev HasOwn : ℕ → Numbered → List Driver → Part → Type 0
HasOwn signals l elements part = (j : ℕ) × (storage : Storage) × (part.number ≡ signals + (l.first + j)) × At elements j (Element storage) × IsStorage signals part storage

level_of_part : (signals : ℕ) (l : Numbered) (open_at : Bool) (j : ℕ) (d : Driver) → At (level_elements l.first l.latch open_at) j d
    → IsOfPart signals l (first_part signals l open_at ∷ []) j d
unfolding first_part first_storage
level_of_part signals l open_at zero d e =
    (first_part signals l open_at, (0, refl), first_storage l open_at, sym (same_Some (Element (first_storage l open_at)) d e), omega arith, first_is signals l open_at)
level_of_part signals l open_at (suc j) d e = absurd (none-some d e)

edge_of_part : (signals : ℕ) (l : Numbered) (open_at : Bool) (j : ℕ) (d : Driver) → At (edge_elements signals l.first l.latch open_at) j d
    → IsOfPart signals l (first_part signals l open_at ∷ second_part signals l (not open_at) ∷ []) j d
unfolding first_part second_part first_storage second_storage
edge_of_part signals l open_at zero d e =
    (first_part signals l open_at, (0, refl), first_storage l open_at, sym (same_Some (Element (first_storage l open_at)) d e), omega arith, first_is signals l open_at)
edge_of_part signals l open_at (suc zero) d e = (
  second_part signals l (not open_at),
  (1, refl),
  second_storage signals l (not open_at),
  sym (same_Some (Element (second_storage signals l (not open_at))) d e),
  omega arith,
  second_is signals l (not open_at),
)
edge_of_part signals l open_at (suc (suc j)) d e = absurd (none-some d e)

part_of_level : (signals : ℕ) (l : Numbered) (open_at : Bool) (part : Part) → Among (first_part signals l open_at ∷ []) part
    → HasOwn signals l (level_elements l.first l.latch open_at) part
unfolding first_part first_storage
part_of_level signals l open_at part (zero, e) =
    subst (HasOwn signals l (level_elements l.first l.latch open_at)) (same_Some (first_part signals l open_at) part e)
    (0, first_storage l open_at, omega arith, refl, first_is signals l open_at)
part_of_level signals l open_at part (suc i, e) = absurd (none-some part e)

part_of_edge : (signals : ℕ) (l : Numbered) (open_at : Bool) (part : Part)
    → Among (first_part signals l open_at ∷ second_part signals l (not open_at) ∷ []) part → HasOwn signals l (edge_elements signals l.first l.latch open_at) part
unfolding first_part second_part first_storage second_storage
part_of_edge signals l open_at part (zero, e) =
    subst (HasOwn signals l (edge_elements signals l.first l.latch open_at)) (same_Some (first_part signals l open_at) part e)
    (0, first_storage l open_at, omega arith, refl, first_is signals l open_at)
part_of_edge signals l open_at part (suc zero, e) =
    subst (HasOwn signals l (edge_elements signals l.first l.latch open_at)) (same_Some (second_part signals l (not open_at)) part e)
    (1, second_storage signals l (not open_at), omega arith, refl, second_is signals l (not open_at))
part_of_edge signals l open_at part (suc (suc i), e) = absurd (none-some part e)

element_of_part : (signals : ℕ) (l : Numbered) (kind : LatchKind) (j : ℕ) (d : Driver) → At (elements_by signals l.first l.latch kind) j d
    → IsOfPart signals l (parts_by signals l kind) j d
unfolding first_part second_part
element_of_part signals l Ah j d e = level_of_part signals l true j d e
element_of_part signals l Al j d e = level_of_part signals l false j d e
element_of_part signals l Re j d e = edge_of_part signals l false j d e
element_of_part signals l Fe j d e = edge_of_part signals l true j d e

part_of_element : (signals : ℕ) (l : Numbered) (kind : LatchKind) (part : Part) → Among (parts_by signals l kind) part
    → HasOwn signals l (elements_by signals l.first l.latch kind) part
unfolding first_part second_part
part_of_element signals l Ah part m = part_of_level signals l true part m
part_of_element signals l Al part m = part_of_level signals l false part m
part_of_element signals l Re part m = part_of_edge signals l false part m
part_of_element signals l Fe part m = part_of_edge signals l true part m

own_count : (signals first : ℕ) (latch : FlatLatch) (kind : LatchKind) → length (elements_by signals first latch kind) ≡ element_count kind
own_count signals first latch Ah = refl
own_count signals first latch Al = refl
own_count signals first latch Re = refl
own_count signals first latch Fe = refl

-- ---- the elements of all latches

-- one latch more
module _ (flat : FlatModel) (at : ℕ) (latch : FlatLatch) (elements : List Driver) (there : At flat.latches at latch) (made : AreMade flat at elements) where
  own : List Driver
  own = elements_by (length flat.signals) (length elements) latch latch.kind

  numbered : Numbered
  numbered = record { first = length elements; latch = latch }

  pub numbered_there : At (numbered_latches flat) at (record { first = length elements; latch = latch })
  numbered_there = numbered_at flat at latch there (length elements) made.count

  more_each : (k : ℕ) (d : Driver) → At (elements ++ own) k d → IsDriver flat (length flat.signals + k) d
  unfolding own numbered
  more_each k d e = elim (at_either elements own k d e) [
    | inl old ↦ made.each k d old
    | inr p ↦
        let q = element_of_part (length flat.signals) numbered latch.kind p.0 d p.2 in
        subst (IsDriver flat (length flat.signals + k)) (sym q.3) (
          q.0,
          latch_part flat numbered q.0 (at, numbered_there) q.1,
          q.4 ∙ ap (λ (x : ℕ). length flat.signals + x) (sym p.1),
          q.5,
        )
  ]

  grown : (part : Part) → HasElement (length flat.signals) elements part → HasElement (length flat.signals) (elements ++ own) part
  grown part h = (h.0, h.1, h.2, at_front elements own h.0 (Element h.1) h.3, h.4)

  own_part : (part : Part) → Among (parts_by (length flat.signals) numbered latch.kind) part → HasElement (length flat.signals) (elements ++ own) part
  unfolding own numbered
  own_part part m =
      let q = part_of_element (length flat.signals) numbered latch.kind part m in
      (length elements + q.0, q.1, q.2, at_behind elements own q.0 (length elements + q.0) (Element q.1) refl q.3, q.4)

  more_parts : (i : ℕ) (l : Numbered) (part : Part) → i < at + 1 → At (numbered_latches flat) i l → Among (parts_by (length flat.signals) l l.latch.kind) part
      → HasElement (length flat.signals) (elements ++ own) part
  unfolding numbered
  more_parts i l part lt e m = elim (cases_lt i at) [
    | inl less ↦ grown part (made.parts i l part less e m)
    | inr le ↦
        let here : i ≡ at = omega (arith, lt, le) in
        let same : l ≡ numbered = one_at (numbered_latches flat) at l numbered (subst (λ (n : ℕ). At (numbered_latches flat) n l) here e) numbered_there in
        own_part part (subst (λ (x : Numbered). Among (parts_by (length flat.signals) x x.latch.kind) part) same m)
  ]

  more_count : length (elements ++ own) ≡ count_before flat.latches (at + 1)
  unfolding own
  more_count =
      let joined = length-append elements own in
      let few = own_count (length flat.signals) (length elements) latch latch.kind in
      let before = made.count in
      let sum = sum_by_more (λ (l : FlatLatch). element_count l.kind) flat.latches at latch (slice_get_within flat.latches at latch there) in
      let is = ap (λ (l : FlatLatch). element_count l.kind) (get_or_from_slice_get flat.latches at latch latch there) in
      omega (arith, joined, few, before, sum, is)

  pub made_more : (new : List Driver) → new ≡ elements ++ elements_by (length flat.signals) (length elements) latch latch.kind → AreMade flat (at + 1) new
  unfolding own
  made_more new is = subst (AreMade flat (at + 1)) (sym is) (record { count = more_count; each = more_each; parts = more_parts })

-- ---- all drivers

pub drivers_joined : (flat : FlatModel) → IsFlatModel flat → (table elements drivers : List Driver) → drivers ≡ table ++ elements
    → AreNoted flat (length flat.covers) (length flat.latches) table → AreMade flat (length flat.latches) elements → AreDrivers flat drivers
drivers_joined flat model table elements drivers is noted made = subst (AreDrivers flat) (sym is) (record {
  size =
      let joined = length-append table elements in
      let signals = noted.size in
      let count = made.count in
      let names = names_before flat in
      omega (arith, joined, signals, count, names);
  each = λ n d e. elim (at_either table elements n d e) [
    | inl here ↦ elim (noted.each n d here) [
      | inl g ↦ subst (IsDriver flat n) (sym g) (given n (let low = slice_get_within table n d here in let size = noted.size in omega (arith, low, size)) (subst (At table n) g here))
      | inr h ↦ h
    ]
    | inr p ↦
        let place : length flat.signals + p.0 ≡ n = (let size = noted.size in let at = p.1 in omega (arith, size, at)) in
        subst (λ (k : ℕ). IsDriver flat k d) place (made.each p.0 d p.2)
  ];
  parts = λ part m.
      let q = part_latch flat part m in
      let low = slice_get_within flat.latches q.1.0 q.0.latch (latch_of flat q.1.0 q.0 q.1.1) in
      let h = made.parts q.1.0 q.0 part low q.1.1 q.2 in
      let place : part.number ≡ length table + h.0 = (let size = noted.size in let at = h.2 in omega (arith, size, at)) in
      (h.1, at_behind table elements h.0 part.number (Element h.1) place h.3, h.4);
}) where
  given : (n : ℕ) → n < length flat.signals → At table n Given → Among (flat.inputs ++ flat.clocks) n
  given n lt e = elim (driven flat model n lt) [
    | inl m ↦ m
    | inr other ↦ elim other [
      | inl c ↦ absurd (noted.of_covers c.1.0 c.0 (slice_get_within flat.covers c.1.0 c.0 c.1.1) c.1.1 (subst (λ (k : ℕ). At table k Given) (sym c.2) e))
      | inr l ↦ absurd (noted.of_latches l.1.0 l.0 (slice_get_within flat.latches l.1.0 l.0 l.1.1) l.1.1 (subst (λ (k : ℕ). At table k Given) (sym l.2) e))
    ]
  ]
