-- Cells that stand in one another, by lists of the numbers of those that stand directly in each.
use Rattle.std.proofs.Common.{◌≡◌, ◌<◌, ◌≤◌, ◌∷◌, inl, inr, [], ℕ, zero, suc, List, map, length, get_or, Option, Some, None, refl, ap, ap₂, sym, ◌∙◌, subst, arith}
use Rattle.std.specs.Prelude.{◌⊎◌, bytes_eq, position, slice_get, unwrap_or}
use Rattle.std.proofs.Math.Path.{fun_ext}
use Rattle.std.proofs.lemmas.Bool.{cases_lt}
use Rattle.std.proofs.lemmas.List.{get_or_past, length-map}
use Rattle.nesting.specs.Depths.{AreInside, in_list}
use Rattle.nesting.specs.First.{IsFirstFault, IsFirstItself}
use Rattle.nesting.specs.declared.first.NestingFault.{NestingFault}
use Rattle.nesting.specs.declared.first.NestingFault.TheVariants.{Depth as DepthFault}
use Rattle.vrt_model.specs.Comparison.{cell_at}
use Rattle.vrt_model.specs.Hierarchy.{cells_in}
use Rattle.vrt_model.specs.Lists.{Among, At}
use Rattle.vrt_model.specs.Nesting.{IsRecursion}
use Rattle.vrt_model.specs.Unrolled.{cell_named}
use Rattle.vrt_model.specs.declared.design.Cell.{Cell}
use Rattle.vrt_model.specs.declared.design.Design.{Design}
use Rattle.vrt_model.specs.declared.design.InstanceCard.{InstanceCard}
use Rattle.hierarchy.proofs.CardLaws.{place_is}
use Rattle.place_paths.proofs.CellNames.{inner_inside}
use Rattle.hierarchy.specs.Nested.{AreInner, AreNested, IsNestingFault, numbers_in}
use Rattle.hierarchy.specs.Tables.{AreNames}
use Rattle.hierarchy.specs.declared.faults.HierFault.TheVariants.{Recursion, Depth, NoMemory}

-- ---- which cells stand directly in one

pub inner_is : (design : Design) (names : List (List ℕ)) (all : List (List ℕ)) (cells : List Cell) → AreNames design names → cells ≡ design.cells → all ≡ map (numbers_in names) cells → AreInner design all
inner_is design names all cells are same e = e ∙ ap (map (numbers_in names)) same ∙ each design.cells where
  cards : (is : List InstanceCard) → map (λ (i : InstanceCard). unwrap_or (position (bytes_eq i.cell) names) 0) is ≡ map (λ (i : InstanceCard). cell_named design i.cell) is
  cards [] = refl
  cards (i ∷ is) = ap₂ ◌∷◌ (ap (λ (o : Option ℕ). unwrap_or o 0) (place_is design names i.cell are)) (cards is)

  each : (cs : List Cell) → map (numbers_in names) cs ≡ map (λ (c : Cell). map (λ (i : InstanceCard). cell_named design i.cell) c.instances) cs
  each [] = refl
  each (c ∷ cs) = ap₂ ◌∷◌ (cards c.instances) (each cs)

in_list_same : (f : InstanceCard → ℕ) (cs : List Cell) (n : ℕ)
    → get_or (map (λ (c : Cell). map f c.instances) cs) n []
    ≡ map f (unwrap_or (slice_get cs n) (record { line = 0; name = []; ports = []; devices = []; instances = [] })).instances
in_list_same f [] n = refl
in_list_same f (c ∷ cs) zero = refl
in_list_same f (c ∷ cs) (suc n) = in_list_same f cs n

in_list_is : (design : Design) (all : List (List ℕ)) → AreInner design all → (n : ℕ) → in_list all n ≡ cells_in design n
in_list_is design all inner n = ap (λ (xs : List (List ℕ)). get_or xs n []) inner ∙ in_list_same (λ (i : InstanceCard). cell_named design i.cell) design.cells n

pub count_is : (design : Design) (all : List (List ℕ)) → AreInner design all → length all ≡ length design.cells
count_is design all inner = ap length inner ∙ length-map design.cells (λ (c : Cell). map (λ (i : InstanceCard). cell_named design i.cell) c.instances)

none_among : (i n : ℕ) → At [] i n → ⊥
none_among i n e = cc

pub inside_is : (design : Design) (all : List (List ℕ)) → AreInner design all → AreInside all
inside_is design all inner m n among = elim (cases_lt 0 (length design.cells)) [
  | inl some ↦
      let here : Among (cells_in design m) n = subst (λ (xs : List ℕ). Among xs n) (in_list_is design all inner m) among in
      let lt : n < length design.cells = inner_inside design some m n here in
      omega (arith, count_is design all inner, lt)
  | inr none ↦
      let nothing : in_list all m ≡ [] = get_or_past all m [] (omega (arith, count_is design all inner)) in
      let here : Among [] n = subst (λ (xs : List ℕ). Among xs n) nothing among in
      absurd (none_among here.0 n here.1)
]

pub few : (design : Design) (all : List (List ℕ)) → AreInner design all → length design.cells ≤ 4096 → length all ≤ 4096
few design all inner le = omega (arith, le, count_is design all inner)

-- ---- what is said of the lists, said of the cells

children_are : (design : Design) (all : List (List ℕ)) → AreInner design all → in_list all ≡ cells_in design
children_are design all inner = fun_ext (in_list_is design all inner)

-- whatever holds of the lists holds of the cells, and back
pub of_cells : (P : (ℕ → List ℕ) → ℕ → Type 0) (design : Design) (all : List (List ℕ)) → AreInner design all → P (in_list all) (length all) → P (cells_in design) (length design.cells)
of_cells P design all inner holds =
    subst (λ (children : ℕ → List ℕ). P children (length design.cells)) (children_are design all inner) (subst (λ (count : ℕ). P (in_list all) count) (count_is design all inner) holds)

pub of_lists : (P : (ℕ → List ℕ) → ℕ → Type 0) (design : Design) (all : List (List ℕ)) → AreInner design all → P (cells_in design) (length design.cells) → P (in_list all) (length all)
of_lists P design all inner holds =
    subst (λ (children : ℕ → List ℕ). P children (length all)) (sym (children_are design all inner)) (subst (λ (count : ℕ). P (cells_in design) count) (sym (count_is design all inner)) holds)

pub fault_is : (design : Design) (all : List (List ℕ)) (fault : Option NestingFault) → AreInner design all → IsFirstFault (in_list all) (length all) 32 fault
    → IsFirstFault (cells_in design) (length design.cells) 32 fault
fault_is design all fault inner is = of_cells (λ children count. IsFirstFault children count 32 fault) design all inner is

pub first_is : (design : Design) (all : List (List ℕ)) (n : ℕ) → AreInner design all → IsFirstItself (cells_in design) (length design.cells) (Some n) → IsFirstItself (in_list all) (length all) (Some n)
first_is design all n inner is = of_lists (λ children count. IsFirstItself children count (Some n)) design all inner is

pub chain_is : (design : Design) (all : List (List ℕ)) (n : ℕ) (chain : List ℕ) → AreInner design all → IsRecursion (in_list all) n chain → IsRecursion (cells_in design) n chain
chain_is design all n chain inner is = of_cells (λ children count. IsRecursion children n chain) design all inner is

pub nested : (design : Design) → IsFirstFault (cells_in design) (length design.cells) 32 None → AreNested design
nested design is = record { well_founded = is.founded; shallow = is.within }

-- ---- faults as they are told

pub recursion_told : (design : Design) (n line : ℕ) (chain : List ℕ) → IsFirstItself (cells_in design) (length design.cells) (Some n) → IsRecursion (cells_in design) n chain → line ≡ (cell_at design n).line
    → (Recursion line chain ≡ NoMemory) ⊎ IsNestingFault design (Recursion line chain)
recursion_told design n line chain first is l = inr (inl (n, chain, (first.0, first.1, λ m lt. first.2 m lt), is, ap (λ k. Recursion k chain) l))

pub depth_told : (design : Design) (n line depth : ℕ) → IsFirstFault (cells_in design) (length design.cells) 32 (Some (DepthFault n depth)) → line ≡ (cell_at design n).line
    → (Depth line depth ≡ NoMemory) ⊎ IsNestingFault design (Depth line depth)
depth_told design n line depth fault l =
    inr (inr (fault.0, (n, (fault.1.there, fault.1.deep, λ m lt deep. absurd (let low = fault.1.first m lt in omega (arith, low, deep))), ap₂ Depth l fault.2)))
