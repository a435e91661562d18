-- A list with the numbers of its nodes: at first, and with one node more.
use Rattle.std.proofs.Common.{◌≡◌, ℕ, ◌+◌, ◌-◌, ◌<◌, ◌≤◌, ◌≢◌, List, [], ◌∷◌, length, get_or, sym, ap, ◌∙◌, subst, inl, inr, arith}
use Rattle.std.proofs.lemmas.Bool.{cases_eq}
use Rattle.std.proofs.lemmas.List.{get_or-set_other, get_or-set_same, length-set}
use Rattle.std.proofs.lemmas.Option.{slice_get-get_or}
use Rattle.bdd_core.proofs.Pigeon.{pigeon}
use Rattle.bdd_core.specs.declared.handle.H.{H}
use Rattle.diagram_lists.specs.Listed.{number_at}
use Rattle.diagram_lists.specs.Numbered.{HasAdded, IsNumbered}
use Rattle.diagram_lists.specs.declared.list.NodeList.{NodeList}
use Rattle.vrt_model.proofs.Lists.{at_front, at_last, at_split}
use Rattle.vrt_model.specs.Lists.{At}

-- there are fewer nodes than places, by the two constants at least
pub few_nodes : (count : ℕ) (list : NodeList) → IsNumbered count list → length list.nodes.items + 2 ≤ count
few_nodes count list s =
    let hs : List H = list.nodes.items in
    let none : H = record { 0 = 0 } in
    let at : (i : ℕ) → i < length hs → At hs i (get_or hs i none) = λ i lt. slice_get-get_or hs i none lt in
    let fewer : length hs ≤ count - 2 =
    pigeon (count - 2) (length hs) (λ i. (get_or hs i none).0 - 2)
    (λ i lt. let p = s.listed i (get_or hs i none) (at i lt) in omega (arith, p.0, p.1))
    (λ i j lt lt' same.
    let p = s.listed i (get_or hs i none) (at i lt) in
    let q = s.listed j (get_or hs j none) (at j lt') in
    let e : (get_or hs i none).0 ≡ (get_or hs j none).0 = omega (arith, p.0, q.0, same) in omega (arith, p.2, q.2, ap (number_at list) e)) in
    omega (arith, fewer, s.some)

-- one node more, with the next number
pub numbered_more : (count : ℕ) (f : H) (old new : NodeList) → IsNumbered count old → 2 ≤ f.0 → f.0 < count → number_at old f.0 ≡ 0 → HasAdded f old new → IsNumbered count new
numbered_more count f old new s high within free a =
    let nodes = a.nodes in
    let numbers = a.numbers in
    let xs : List ℕ = old.numbers.items in
    let v : ℕ = 2 + length old.nodes.items in
    let here : number_at new f.0 ≡ v = ap (λ (ys : List ℕ). get_or ys f.0 0) numbers ∙ get_or-set_same xs f.0 v 0 (omega (arith, s.places, within)) in
    let other : (k : ℕ) → k ≢ f.0 → number_at new k ≡ number_at old k = λ k apart. ap (λ (ys : List ℕ). get_or ys k 0) numbers ∙ get_or-set_other xs f.0 k v 0 apart in
    let old_at : (i : ℕ) (h : H) → At old.nodes.items i h → (2 ≤ h.0) × (h.0 < count) × (number_at new h.0 ≡ 2 + i) =
    λ i h at. (let p = s.listed i h at in (p.0, p.1, other h.0 (λ e. omega (arith, p.2, free, ap (number_at old) e)) ∙ p.2)) in
    record {
      places = ap (λ (ys : List ℕ). length ys) numbers ∙ length-set xs f.0 v ∙ s.places;
      some = s.some;
      few = s.few;
      nought = other 0 (omega (arith, high)) ∙ s.nought;
      one = other 1 (omega (arith, high)) ∙ s.one;
      listed = λ i h at. elim (at_split old.nodes.items f i h (subst (λ (hs : List H). At hs i h) nodes at)) [
        | inl before ↦ old_at i h before
        | inr last ↦ subst (λ (g : H). (2 ≤ g.0) × (g.0 < count) × (number_at new g.0 ≡ 2 + i)) (sym last.1) (high, within, here ∙ ap (λ (n : ℕ). 2 + n) (sym last.0))
      ];
      others = λ k up some_number. elim (cases_eq k f.0) [
        | inl same ↦ (length old.nodes.items, f, subst (λ (hs : List H). At hs (length old.nodes.items) f) (sym nodes) (at_last old.nodes.items f), sym same)
        | inr apart ↦ (let p = s.others k up (λ z. some_number (other k apart ∙ z)) in (p.0, p.1, subst (λ (hs : List H). At hs p.0 p.1) (sym nodes) (at_front old.nodes.items (f ∷ []) p.0 p.1 p.2), p.3))
      ];
    }
