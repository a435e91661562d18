-- The global nets of a cell, by the cells that stand in it; and the counts of its flat circuit.
use Rattle.std.proofs.Common.{◌≡◌, ◌<◌, ◌≤◌, ◌+◌, ◌*◌, ◌∷◌, ◌||◌, ◌&&◌, [], ℕ, zero, suc, List, Bool, true, false, cond, nat_lt, length, filter, get_or, drop, refl, ap, ap₂, sym, ◌∙◌, arith, inl, inr}
use Rattle.std.specs.Prelude.{is_none}
use Rattle.std.specs.List.{list_any}
use Rattle.std.proofs.Math.Nat.{add-zero}
use Rattle.std.proofs.lemmas.Bool.{cases_lt}
use Rattle.std.proofs.lemmas.Bool.Decides.{nat_tests}
use Rattle.std.proofs.lemmas.List.{drop_all}
use Rattle.std.proofs.lemmas.List.Sums.{sum_by-cons, sum_by-drop_more}
use Rattle.flat_sizes.proofs.PlaceLaws.{devices_counted, nets_counted}
use Rattle.flat_sizes.specs.Totals.{AreInside, global_weight, inside, names_inside, over, stood, within}
use Rattle.flat_sizes.specs.declared.stands.Stand.{Stand}
use Rattle.vrt_model.specs.CellRules.{supply_of}
use Rattle.vrt_model.specs.Comparison.{cell_at}
use Rattle.vrt_model.specs.FlatCircuit.{flat_devices, flat_nets}
use Rattle.vrt_model.specs.Lists.{has_name}
use Rattle.vrt_model.specs.Unrolled.{cell_named, global_nets, is_global_in, mentions, names_global, own_nets}
use Rattle.vrt_model.specs.Unsupported.{carried, top_before}
use Rattle.vrt_model.specs.declared.design.Design.{Design}
use Rattle.vrt_model.specs.declared.design.InstanceCard.{InstanceCard}
use Rattle.vrt_model.specs.declared.rules.Rules.{Rules}
use Rattle.vrt_model.proofs.Sums.{carried_both, carried_once}

-- ---- whether a number is above 0

some_there : (n : ℕ) → 0 < n → nat_lt 0 n ≡ true
some_there n some = grind (arith, nat_tests, some)

none_there : (n : ℕ) → n ≡ 0 → nat_lt 0 n ≡ false
none_there n none = ap (nat_lt 0) none

abbrev or_is : Bool → Bool → Bool
or_is a b = a || b

some_sum : (m n : ℕ) → (nat_lt 0 m || nat_lt 0 n) ≡ nat_lt 0 (m + n)
some_sum m n =
    elim (cases_lt 0 m) [
      | inl some ↦ ap (λ (b : Bool). b || nat_lt 0 n) (some_there m some) ∙ sym (some_there (m + n) (omega (arith, some)))
      | inr none ↦ (let z : m ≡ 0 = omega (arith, none) in let s : n ≡ m + n = omega (arith, z) in ap (λ (b : Bool). b || nat_lt 0 n) (none_there m z) ∙ ap (nat_lt 0) s)
    ]

same_some : (a b : ℕ) → carried a ≡ carried b → nat_lt 0 a ≡ nat_lt 0 b
same_some a b e =
    elim (cases_lt 0 a) [
      | inl more ↦ some_there a more ∙ sym (some_there b (omega (arith, e, more)))
      | inr none ↦ none_there a (omega (arith, none)) ∙ sym (none_there b (omega (arith, e, none)))
    ]

one_if : (b : Bool) → b ≡ nat_lt 0 (cond b 1 0)
one_if true = refl
one_if false = refl

-- ---- global nets

module _ (design : Design) (rules : Rules) (name : List ℕ) where
  abbrev here : ℕ → Bool
  here k = is_global_in design rules (cell_at design k) name && has_name (mentions (cell_at design k)) name

  abbrev f : ℕ → ℕ
  f = global_weight design rules name

  in_cards : (depth : ℕ) → ((k : ℕ) → names_global design rules depth (cell_at design k) name ≡ nat_lt 0 (f k + within design f depth k)) → (cards : List InstanceCard)
      → list_any (λ (i : InstanceCard). names_global design rules depth (cell_at design (cell_named design i.cell)) name) cards ≡ nat_lt 0 (over design (λ m. f m + within design f depth m) cards)
  in_cards depth inner [] = refl
  in_cards depth inner (i ∷ cards) =
      let m = cell_named design i.cell in
      ap₂ or_is (inner m) (in_cards depth inner cards)
      ∙ some_sum (f m + within design f depth m) (over design (λ m. f m + within design f depth m) cards)
      ∙ ap (nat_lt 0) (sym (sum_by-cons (λ (c : InstanceCard). f (cell_named design c.cell) + within design f depth (cell_named design c.cell)) i cards))

  named_within : (depth k : ℕ) → names_global design rules depth (cell_at design k) name ≡ nat_lt 0 (f k + within design f depth k)
  named_within zero k = one_if (here k) ∙ ap (nat_lt 0) (sym (add-zero (f k)))
  named_within (suc depth) k =
      ap₂ or_is (one_if (here k)) (in_cards depth (named_within depth) (cell_at design k).instances)
      ∙ some_sum (f k) (over design (λ m. f m + within design f depth m) (cell_at design k).instances)

  pub named_is : (k : ℕ) → names_inside design rules k name ≡ (nat_lt 0 (f k) || nat_lt 0 (inside design f k))
  unfolding names_inside inside
  named_is k = named_within 32 k ∙ sym (some_sum (f k) (within design f 32 k))

  pub at_once : (k : ℕ) (b : Bool) → b ≡ nat_lt 0 (f k) → b ≡ true → b ≡ names_inside design rules k name
  at_once k b e t = t ∙ sym (named_is k ∙ ap (λ (c : Bool). c || nat_lt 0 (inside design f k)) (sym e ∙ t))

  pub further_in : (k : ℕ) (stands : List Stand) (b c : Bool) → AreInside design k stands → b ≡ nat_lt 0 (f k) → b ≡ false → c ≡ nat_lt 0 (stood f stands) → c ≡ names_inside design rules k name
  further_in k stands b c are e n g =
      g ∙ same_some (stood f stands) (inside design f k) (are f) ∙ sym (named_is k ∙ ap (λ (x : Bool). x || nat_lt 0 (inside design f k)) (sym e ∙ n))

  -- stand by stand: those that are left decide
  abbrev pub Left : List Stand → ℕ → Type 0
  Left stands i = nat_lt 0 (stood f (drop i stands)) ≡ nat_lt 0 (stood f stands)

  split : (stands : List Stand) (i : ℕ) (s d : Stand) → i < length stands → s ≡ get_or stands i d
      → nat_lt 0 (stood f (drop i stands)) ≡ (nat_lt 0 (s.count * f s.cell) || nat_lt 0 (stood f (drop (i + 1) stands)))
  split stands i s d lt is =
      ap (nat_lt 0)
      (sum_by-drop_more (λ (x : Stand). x.count * f x.cell) stands i d lt ∙ ap (λ (x : Stand). x.count * f x.cell + stood f (drop (i + 1) stands)) (sym is))
      ∙ sym (some_sum (s.count * f s.cell) (stood f (drop (i + 1) stands)))

  pub one_less : (stands : List Stand) (i : ℕ) (s d : Stand) (b : Bool) → i < length stands → s ≡ get_or stands i d → b ≡ nat_lt 0 (s.count * f s.cell) → b ≡ false → Left stands i
      → Left stands (i + 1)
  one_less stands i s d b lt is e n left =
      sym (split stands i s d lt is ∙ ap (λ (x : Bool). x || nat_lt 0 (stood f (drop (i + 1) stands))) (sym e ∙ n)) ∙ left

  pub one_found : (stands : List Stand) (i : ℕ) (s d : Stand) (b : Bool) → i < length stands → s ≡ get_or stands i d → b ≡ nat_lt 0 (s.count * f s.cell) → b ≡ true → Left stands i
      → true ≡ nat_lt 0 (stood f stands)
  one_found stands i s d b lt is e t left =
      sym (split stands i s d lt is ∙ ap (λ (x : Bool). x || nat_lt 0 (stood f (drop (i + 1) stands))) (sym e ∙ t)) ∙ left

  pub none_left : (stands : List Stand) (i : ℕ) → length stands ≤ i → Left stands i → false ≡ nat_lt 0 (stood f stands)
  none_left stands i end left = ap (λ (xs : List Stand). nat_lt 0 (stood f xs)) (sym (drop_all i stands end)) ∙ left

-- ---- the counts

sums : (p g o i ports globals own inner a b c d all : ℕ) → ports ≡ p → globals ≡ g → own ≡ carried o → inner ≡ carried i
    → a ≡ carried (ports + globals) → b ≡ carried (a + own) → c ≡ carried (b + inner) → d ≡ carried (c + 2) → all ≡ p + g + o + i + 2 → d ≡ carried all
sums p g o i ports globals own inner a b c d all e f h j k l m n q = omega (arith, e, f, h, j, k, l, m, n, q)

-- the nets, summed with carrying
pub nets_summed : (design : Design) (rules : Rules) (k : ℕ) (ports globals own inner a b c d : ℕ)
    → ports ≡ length (filter (λ name. is_none (supply_of rules name)) (cell_at design k).ports)
    → globals ≡ length (filter (names_inside design rules k) design.globals)
    → own ≡ carried (length (own_nets design rules (cell_at design k)))
    → inner ≡ carried (inside design (λ m. length (own_nets design rules (cell_at design m))) k)
    → a ≡ carried (ports + globals) → b ≡ carried (a + own) → c ≡ carried (b + inner) → d ≡ carried (c + 2)
    → d ≡ carried (length (flat_nets (top_before design rules k)))
unfolding global_nets names_inside
nets_summed design rules k ports globals own inner a b c d p g o i e f h j =
    sums _ _ (length (own_nets design rules (cell_at design k))) (inside design (λ m. length (own_nets design rules (cell_at design m))) k) ports globals own inner a b c d
    (length (flat_nets (top_before design rules k))) p g o i e f h j (nets_counted (top_before design rules k))

pub devices_summed : (design : Design) (rules : Rules) (k : ℕ) (own inner : ℕ) → own ≡ carried (length (cell_at design k).devices)
    → inner ≡ carried (inside design (λ m. length (cell_at design m).devices) k) → carried (own + inner) ≡ carried (length (flat_devices (top_before design rules k)))
devices_summed design rules k own inner o i =
    carried_both own inner (length (cell_at design k).devices) (inside design (λ m. length (cell_at design m).devices) k)
    (ap carried o ∙ carried_once (length (cell_at design k).devices)) (ap carried i ∙ carried_once (inside design (λ m. length (cell_at design m).devices) k))
    ∙ ap carried (sym (devices_counted (top_before design rules k)))
