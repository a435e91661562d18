-- Cells by their names.
use Rattle.std.proofs.Common.{◌≡◌, ◌<◌, [], ℕ, cond, List, Bool, true, false, length, Option, Some, None, refl, ap, sym, ◌∙◌, subst, arith, get_or, inl, inr}
use Rattle.std.specs.Prelude.{bytes_eq, nat_lt, position, unwrap_or}
use Rattle.std.proofs.lemmas.Bool.{cases_Bool, lt-ltb}
use Rattle.std.proofs.lemmas.Slice.Eq.{bytes_eq-Decides}
use Rattle.std.proofs.lemmas.List.Quantifiers.{position-Some}
use Rattle.std.proofs.lemmas.List.Sums.{position_or_len_is}
use Rattle.std.proofs.lemmas.Option.{get_or_from_slice_get, slice_get-get_or, slice_get_within}
use Rattle.vrt_model.proofs.Lists.{at_there}
use Rattle.vrt_model.proofs.Members.{among_map}
use Rattle.vrt_model.specs.Comparison.{cell_at}
use Rattle.vrt_model.specs.Hierarchy.{cells_in}
use Rattle.vrt_model.specs.Inputs.{IsDesign}
use Rattle.vrt_model.specs.Lists.{Among, At}
use Rattle.vrt_model.specs.Unrolled.{cell_named}
use Rattle.vrt_model.specs.declared.design.Cell.{Cell}
use Rattle.vrt_model.specs.declared.design.Design.{Design}
use Rattle.vrt_model.specs.declared.design.InstanceCard.{InstanceCard}

-- the first that passes
pub position_is : {X : Type 0} (test : X → Bool) (xs : List X) (i : ℕ) (x : X) → At xs i x → test x ≡ true → ((j : ℕ) (y : X) → j < i → At xs j y → test y ≡ false) → position test xs ≡ Some i
position_is {X} test xs i x here passes before =
    let lt = slice_get_within xs i x here in
    let first = position_or_len_is test xs i x (omega (arith, lt))
    (λ k less. before k (get_or xs k x) less (slice_get-get_or xs k x (omega (arith, less, lt))))
    (λ under. ap test (get_or_from_slice_get xs i x x here) ∙ passes) in
    ap (λ (n : ℕ). cond (nat_lt n (length xs)) (Some n) None) first ∙ ap (λ (b : Bool). cond b (Some i) None) (lt-ltb i (length xs) lt)

-- the name of a cell names that cell
pub cell_of_name : (design : Design) → IsDesign design → (k : ℕ) → k < length design.cells → (name : List ℕ) → bytes_eq name (cell_at design k).name ≡ true → cell_named design name ≡ k
cell_of_name design is k lt name same =
    ap (λ (o : Option ℕ). unwrap_or o 0)
    (position_is (λ (c : Cell). bytes_eq c.name name) design.cells k here.0 here.1 ((bytes_eq-Decides here.0.name name).1 (sym name_is))
    (λ j y less there. elim (cases_Bool (bytes_eq y.name name)) [
      | inl alike ↦ (
          let e = is.names j k y here.0 there here.1 ((bytes_eq-Decides y.name here.0.name).1 ((bytes_eq-Decides y.name name).0 alike ∙ name_is)) in
          absurd (omega (arith, e, less)))
      | inr differs ↦ differs
    ])) where
      here : (c : Cell) × At design.cells k c
      here = at_there design.cells k lt

      name_is : name ≡ here.0.name
      name_is =
          (bytes_eq-Decides name (cell_at design k).name).0 same
          ∙ ap (λ (o : Option Cell). (let c : Cell = unwrap_or o (record { line = 0; name = []; ports = []; devices = []; instances = [] }) in c).name) here.1

-- the cell of a name is there, where some cell is
pub named_inside : (design : Design) (name : List ℕ) → 0 < length design.cells → cell_named design name < length design.cells
named_inside design name some = by_place (position (λ (c : Cell). bytes_eq c.name name) design.cells) refl
  where
    by_place : (o : Option ℕ) → position (λ (c : Cell). bytes_eq c.name name) design.cells ≡ o → unwrap_or o 0 < length design.cells
    by_place None e = some
    by_place (Some k) e =
        let none : Cell = record { line = 0; name = []; ports = []; devices = []; instances = [] } in
        let found = position-Some (λ (c : Cell). bytes_eq c.name name) design.cells k none e in
        found.0

-- and so are those that stand in one
pub inner_inside : (design : Design) → 0 < length design.cells → (n m : ℕ) → Among (cells_in design n) m → m < length design.cells
inner_inside design some n m a =
    let found = among_map (λ (i : InstanceCard). cell_named design i.cell) (cell_at design n).instances m a in
    subst (λ (k : ℕ). k < length design.cells) found.2 (named_inside design found.0.cell some)
