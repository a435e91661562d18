-- What is kept of cells: nothing, one entry more, and where other facts are known of one cell.
use Rattle.std.proofs.Common.{◌≡◌, ◌≢◌, ◌<◌, ◌≤◌, ◌⊎◌, ◌&&◌, ℕ, zero, suc, Bool, true, false, List, [], ◌∷◌, length, Option, Some, None, arith, ap, refl, subst, sym, ◌∙◌, inl, inr}
use Rattle.std.specs.Prelude.{option_and_then, option_map, set, slice_get, unwrap_or}
use Rattle.std.proofs.lemmas.Bool.{cases_eq, false≢true}
use Rattle.std.proofs.lemmas.List.{get_or-set_other, get_or-set_same, length-set}
use Rattle.std.proofs.lemmas.Option.{none-some, same_Some, slice_get_within}
use Rattle.whole_circuits.specs.declared.whole_cell.WholeCell.{WholeCell}
use Rattle.vrt_model.specs.Checked.{keeps_inputs_free, names_no_global, observes_outputs}
use Rattle.vrt_model.specs.Lists.{At, mark_at}
use Rattle.vrt_model.specs.Unsupported.{comparison_of, top_before}
use Rattle.vrt_model.specs.declared.blif.Blif.{Blif}
use Rattle.vrt_model.specs.declared.design.Design.{Design}
use Rattle.vrt_model.specs.declared.rules.Rules.{Rules}
use Rattle.vrt_model.specs.declared.whole.CellFacts.{CellFacts}
use Rattle.vrt_model.specs.declared.whole.Drive.TheVariants.{Soft}
use Rattle.whole_cells.specs.Entries.{IsEntry}
use Rattle.whole_cells.specs.Kept.{AreKept}
use Rattle.whole_cells.specs.declared.kept.KeptCells.{KeptCells}

-- ---- lists with one item set

-- what stands there is this item, or stood there before
at_set : {X : Type 0} (xs : List X) (i : ℕ) (x : X) (k : ℕ) (y : X) → At (set xs i x) k y → ((k ≡ i) × (y ≡ x)) ⊎ ((k ≢ i) × At xs k y)
at_set [] i x k y e = absurd (none-some y e)
at_set (z ∷ xs) zero x zero y e = inl (refl, sym (same_Some x y e))
at_set (z ∷ xs) zero x (suc k) y e = inr (λ is. omega (arith, is), e)
at_set (z ∷ xs) (suc i) x zero y e = inr (λ is. omega (arith, is), e)
at_set (z ∷ xs) (suc i) x (suc k) y e = elim (at_set xs i x k y e) [
  | inl p ↦ inl (ap suc p.0, p.1)
  | inr p ↦ inr (λ is. p.0 (omega (arith, is)), p.1)
]

-- the other items stay
same_other : {X : Type 0} (xs : List X) (i k : ℕ) (x : X) → k ≢ i → slice_get xs k ≡ slice_get (set xs i x) k
same_other [] i k x other = refl
same_other (y ∷ xs) zero zero x other = absurd (other refl)
same_other (y ∷ xs) zero (suc k) x other = refl
same_other (y ∷ xs) (suc i) zero x other = refl
same_other (y ∷ xs) (suc i) (suc k) x other = same_other xs i k x (λ e. other (ap suc e))

-- the marks that are left where one is taken away
left_over : (marks : List Bool) (cell n : ℕ) → cell < length marks → mark_at (set marks cell false) n ≡ true → (n ≢ cell) × (mark_at marks n ≡ true)
left_over marks cell n lt marked =
    elim (cases_eq n cell) [
      | inl same ↦ absurd (false≢true (sym (get_or-set_same marks cell false false lt) ∙ subst (λ (k : ℕ). mark_at (set marks cell false) k ≡ true) same marked))
      | inr other ↦ (other, sym (get_or-set_other marks cell n false false other) ∙ marked)
    ]

-- ---- entries

module _ (design : Design) (blif : Blif) (rules : Rules) (cell : ℕ) where
  -- instances may be left whole, by what is known of their cell
  abbrev AllowedBy : Option CellFacts → ℕ → Type 0
  AllowedBy known m =
      (unwrap_or (option_map (λ (f : CellFacts). f.equal && f.stateless) known) false && names_no_global (top_before design rules cell) cell && observes_outputs (comparison_of design blif rules cell m)
      && keeps_inputs_free (comparison_of design blif rules cell m)) ≡ true

  -- an entry says of all facts only what is known of its cell
  entry_same : (facts other : List CellFacts) (entry : Option WholeCell) → slice_get facts cell ≡ slice_get other cell → IsEntry (top_before design rules cell) blif facts cell entry
      → IsEntry (top_before design rules cell) blif other cell entry
  entry_same facts other None same is = λ m paired allowed. is m paired (subst (λ (known : Option CellFacts). AllowedBy known m) (sym same) allowed.0, allowed.1)
  entry_same facts other (Some own) same is = record {
    cell = record {
      number = is.cell.number;
      paired = is.cell.paired;
      has = is.cell.has;
      drives = λ j. ap (λ (known : Option CellFacts). unwrap_or (option_and_then (λ (f : CellFacts). slice_get f.drives j) known) Soft) (sym same) ∙ is.cell.drives j;
    };
    allowed = λ m paired. (let may = is.allowed m paired in (subst (λ (known : Option CellFacts). AllowedBy known m) same may.0, may.1));
    ports = is.ports;
  }

-- ---- tables

module _ (design : Design) (blif : Blif) (rules : Rules) (facts : List CellFacts) where
  -- one entry more
  pub one_kept : (kept new : KeptCells) (cell : ℕ) (entry : Option WholeCell) → IsEntry (top_before design rules cell) blif facts cell entry → new.cells.items ≡ set kept.cells.items cell entry
      → new.made.items ≡ set kept.made.items cell true → AreKept design blif rules facts kept → AreKept design blif rules facts new
  one_kept kept new cell entry is cells made are = record {
    each = ap (λ (xs : List (Option WholeCell)). length xs) cells ∙ length-set kept.cells.items cell entry ∙ are.each;
    marks = ap (λ (xs : List Bool). length xs) made ∙ length-set kept.made.items cell true ∙ are.marks;
    are = λ n some at marked.
        elim (at_set kept.cells.items cell entry n some (subst (λ (xs : List (Option WholeCell)). At xs n some) cells at)) [
          | inl here ↦
              subst (λ (k : ℕ). IsEntry (top_before design rules k) blif facts k some) (sym here.0)
              (subst (λ (e : Option WholeCell). IsEntry (top_before design rules cell) blif facts cell e) (sym here.1) is)
          | inr there ↦
              are.are n some there.1
              (sym (get_or-set_other kept.made.items cell n true false there.0) ∙ subst (λ (xs : List Bool). mark_at xs n ≡ true) made marked)
        ];
  }

  -- one mark is taken away, and other facts are known of its cell
  pub one_forgotten : (kept new : KeptCells) (cell : ℕ) (now : CellFacts) → cell < length kept.made.items → new.cells ≡ kept.cells → new.made.items ≡ set kept.made.items cell false
      → AreKept design blif rules facts kept → AreKept design blif rules (set facts cell now) new
  one_forgotten kept new cell now lt cells made are = record {
    each = ap (λ xs. length xs.items) cells ∙ are.each;
    marks = ap (λ (xs : List Bool). length xs) made ∙ length-set kept.made.items cell false ∙ are.marks;
    are = λ n entry at marked.
        let left = left_over kept.made.items cell n lt (subst (λ (xs : List Bool). mark_at xs n ≡ true) made marked) in
        entry_same design blif rules n facts (set facts cell now) entry (same_other facts cell n now left.0) (are.are n entry (subst (λ xs. At xs.items n entry) cells at) left.1);
  }

  -- there is no such cell
  pub none_forgotten : (kept : KeptCells) (cell : ℕ) (now : CellFacts) → length kept.made.items ≤ cell → AreKept design blif rules facts kept → AreKept design blif rules (set facts cell now) kept
  none_forgotten kept cell now past are = record {
    each = are.each;
    marks = are.marks;
    are = λ n entry at marked.
        let within = slice_get_within kept.cells.items n entry at in
        let each = are.each in
        let marks = are.marks in
        let other : n ≢ cell = λ is. omega (arith, within, each, marks, past, is) in
        entry_same design blif rules n facts (set facts cell now) entry (same_other facts cell n now other) (are.are n entry at marked);
  }
