-- The cells that are asked for.
use Rattle.std.proofs.Common.{◌≡◌, ◌<◌, ◌+◌, ◌∷◌, [], ℕ, zero, suc, List, length, get_or, Option, Some, None, Result, Ok, Err, ap, sym, ◌∙◌, subst, arith, filter}
use Rattle.std.specs.Prelude.{◌==◌, IfOk, MatchResult}
use Rattle.std.proofs.lemmas.Option.{slice_get-get_or}
use Rattle.std.specs.Str.{str_to_ascii_lowercase}
use Rattle.cells_below.specs.Below.{AreBelow, AreNumbered}
use Rattle.rule_index.specs.Firsts.{value_in}
use Rattle.rule_index.specs.Tables.{cell_numbered}
use Rattle.rule_index.specs.declared.index.RuleIndex.{RuleIndex}
use Rattle.verity_run.specs.Asked.{AreAsked, OfCellWord}
use Rattle.verity_run.specs.Messages.{no_name_line}
use Rattle.verity_run.specs.Named.{cell_asked}
use Rattle.verity_run.specs.Refusals.{Tells}
use Rattle.verity_run.specs.Reports.{AreThere}
use Rattle.verity_run.specs.declared.refusals.Refusal.{Refusal}
use Rattle.verity_run.specs.declared.refusals.Refusal.TheVariants.{Told, NoMemory}
use Rattle.vrt_model.proofs.Members.{among_filter, among_flat_map}
use Rattle.vrt_model.specs.Hierarchy.{cell_order, depth_of_cell, numbers}
use Rattle.vrt_model.specs.Lists.{At, Among}
use Rattle.vrt_model.specs.Unrolled.{deepest}
use Rattle.vrt_model.specs.Variables.{places}
use Rattle.vrt_model.specs.declared.design.Design.{Design}

-- ---- cells of the netlist

place_within : {X : Type 0} (from : ℕ) (xs : List X) (i n : ℕ) → At (places from xs) i n → n < from + length xs
place_within from [] i n e = cc
place_within from (x ∷ xs) zero n e = let is : from ≡ n = cc in omega (arith, is)
place_within from (x ∷ xs) (suc i) n e = let rest = place_within (suc from) xs i n e in omega (arith, rest)

-- all in their order
order_there : (design : Design) → AreThere design (cell_order design)
order_there design n among =
    let of_depth = among_flat_map (λ depth. filter (λ m. depth_of_cell design m == depth) (places 0 design.cells)) (numbers 1 deepest) n among in
    let place = among_filter (λ m. depth_of_cell design m == of_depth.0) (places 0 design.cells) n of_depth.2 in
    let within = place_within 0 design.cells place.0 n place.1 in
    omega (arith, within)

-- those that are asked for
pub asked_there : (design : Design) (word : Option (List ℕ)) (cells : List ℕ) → AreAsked design word cells → AreThere design cells
asked_there design None cells are n among = order_there design n (subst (λ (xs : List ℕ). Among xs n) are among)
asked_there design (Some word) cells (top, found, below) n among =
    order_there design n (among_filter below.keeps (cell_order design) n (subst (λ (xs : List ℕ). Among xs n) below.are among))

-- a cell of the list is one of the netlist
pub number_there : (design : Design) (cells : List ℕ) (i n : ℕ) → i < length cells → n ≡ get_or cells i 0 → AreThere design cells → n < length design.cells
number_there design cells i n lt is there = there n (i, slice_get-get_or cells i 0 lt ∙ ap Some (sym is))

-- ---- a cell by its name

-- the number that the tables have is that of the cell
pub asked_is : (design : Design) (index : RuleIndex) (word bytes name key : List ℕ) → AreNumbered design index → bytes ≡ word → name ≡ str_to_ascii_lowercase bytes → key ≡ name
    → value_in index.cells key ≡ cell_asked design word
asked_is design index word bytes name key are b n k =
    are key ∙ ap (λ (x : List ℕ). cell_numbered design.cells x) (k ∙ n ∙ ap str_to_ascii_lowercase b)

-- a name that is there
pub named_below : (design : Design) (index : RuleIndex) (word bytes name key : List ℕ) (top : ℕ) (order cells : List ℕ) → AreNumbered design index → order ≡ cell_order design
    → bytes ≡ word → name ≡ str_to_ascii_lowercase bytes → key ≡ name → Some top ≡ value_in index.cells key → AreBelow design top order cells → AreAsked design (Some word) cells
named_below design index word bytes name key top order cells are listed b n k found below =
    (top, sym (found ∙ asked_is design index word bytes name key are b n k), subst (λ (xs : List ℕ). AreBelow design top xs cells) listed below)

-- a name that is not there
pub named_none : {E : Type 0} (design : Design) (index : RuleIndex) (word bytes name key again : List ℕ) (line : Result (List ℕ) E) (r : Refusal) → AreNumbered design index
    → bytes ≡ word → name ≡ str_to_ascii_lowercase bytes → key ≡ name → again ≡ name → None ≡ value_in index.cells key → IfOk line (λ t. t ≡ no_name_line again)
    → MatchResult line (λ t. r ≡ Told t) (λ _. r ≡ NoMemory) → Tells (OfCellWord design (Some word)) r
named_none design index word bytes name key again (Ok text) r are b n k a found told is =
    subst (Tells (OfCellWord design (Some word))) (sym is)
    (sym (found ∙ asked_is design index word bytes name key are b n k), told ∙ ap no_name_line (a ∙ n ∙ ap str_to_ascii_lowercase b))
named_none design index word bytes name key again (Err e) r are b n k a found told is = subst (Tells (OfCellWord design (Some word))) (sym is) tt
