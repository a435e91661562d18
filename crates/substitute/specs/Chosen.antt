-- Instances that are chosen one after the other, by marks at their places.
use Rattle.std.specs.Prelude.{◌≡◌, ◌↔◌, ℕ, suc, ◌+◌, ◌<◌, ◌≤◌, ◌==◌, Bool, false, true, ◌&&◌, ◌||◌, List, ◌++◌}
use Rattle.replaced_instances.specs.Steps.{IsAllowedInstance}
use Rattle.whole_circuits.specs.Outputs.{own_outputs}
use Rattle.vrt_model.specs.Checked.{MayBeWhole, before, with_one}
use Rattle.vrt_model.specs.Cut.{Cut, NumberedPlace, is_inside_whole, numbered_places}
use Rattle.vrt_model.specs.Lists.{Among, At, mark_at}
use Rattle.vrt_model.specs.PairedPorts.{Model, paired_model}
use Rattle.vrt_model.specs.Unrolled.{Top}
use Rattle.vrt_model.specs.Unsupported.{comparison_of}
use Rattle.vrt_model.specs.WholeInstances.{OutputAt, all_outputs, driven_pins}
use Rattle.vrt_model.specs.declared.blif.Blif.{Blif}
use Rattle.vrt_model.specs.declared.whole.CellFacts.{CellFacts}

-- the instances whose places have marks
abbrev pub cut_of : Top → List Bool → Cut
cut_of t marks = record { top = t; choice = λ i. mark_at marks (suc i) }

-- no instance is chosen from a number on
abbrev pub NoneFrom : Cut → ℕ → Type 0
NoneFrom cut i = (j : ℕ) → i ≤ j → cut.choice j ≡ false

-- The law: then those before it are all.
abbrev pub FrontIsAll : Type 0
FrontIsAll = (cut : Cut) (i : ℕ) → NoneFrom cut i → before cut i ≡ cut

-- The law: then none of their outputs is of the instance there.
abbrev pub OutputsStandApart : Type 0
OutputsStandApart =
    (cut : Cut) (blif : Blif) (facts : List CellFacts) (i : ℕ) (o : OutputAt)
    → NoneFrom cut i → Among (all_outputs cut blif facts) o → (o.instance == suc i) ≡ false

-- The law: where that instance is whole too, its outputs come behind theirs.
abbrev pub OneMoreBringsItsOwn : Type 0
OneMoreBringsItsOwn =
    (cut : Cut) (blif : Blif) (facts : List CellFacts) (i m : ℕ) (p : NumberedPlace)
    → NoneFrom cut i → At (numbered_places cut.top) (suc i) p → paired_model cut.top.design blif cut.top.rules p.at.cell ≡ Model m
    → all_outputs (with_one cut i) blif facts
    ≡ all_outputs cut blif facts ++ own_outputs p.number (driven_pins facts (comparison_of cut.top.design blif cut.top.rules p.at.cell m) p.at)

-- the marks with that of one more place, where it is chosen
abbrev pub MarksOneMore : List Bool → List Bool → ℕ → Bool → Type 0
MarksOneMore old new i chosen = (n : ℕ) → mark_at new n ≡ (mark_at old n || (chosen && (n == suc i)))

-- an instance may be chosen besides those of a choice: it may be left whole; where cycles are not asked for, the other tests alone count
abbrev pub MayBeChosen : Bool → Cut → Blif → List CellFacts → ℕ → NumberedPlace → ℕ → Type 0
MayBeChosen true cut blif facts i p m = MayBeWhole cut blif facts i p m
MayBeChosen false cut blif facts i p m = IsAllowedInstance cut blif facts i p m

-- the instance at a place is rightly chosen besides those of a choice: exactly where it is not inside a whole one, and may be chosen
abbrev pub IsRightAt : Bool → Cut → Blif → List CellFacts → ℕ → Bool → NumberedPlace → Type 0
IsRightAt asked cut blif facts i chosen p =
    (chosen ≡ true) ↔ ((is_inside_whole cut p.at ≡ false) × ((m : ℕ) × MayBeChosen asked cut blif facts i p m))

abbrev pub IsRightly : Bool → Cut → Blif → List CellFacts → ℕ → Bool → Type 0
IsRightly asked cut blif facts i chosen = (p : NumberedPlace) → At (numbered_places cut.top) (suc i) p → IsRightAt asked cut blif facts i chosen p

-- so is each instance whose place is below a number, besides those before it
abbrev pub AreRightly : Bool → Cut → Blif → List CellFacts → ℕ → Type 0
AreRightly asked cut blif facts n =
    (i : ℕ) → suc i < n → (p : NumberedPlace) → At (numbered_places cut.top) (suc i) p → IsRightAt asked (before cut i) blif facts i (cut.choice i) p

-- The law: where the instances before one are rightly chosen or not by their marks, and so is this one, all up to it are.
abbrev pub OneMoreIsDecided : Type 0
OneMoreIsDecided =
    (asked : Bool) (t : Top) (blif : Blif) (facts : List CellFacts) (i : ℕ) (old new : List Bool) (chosen : Bool)
    → NoneFrom (cut_of t old) i → MarksOneMore old new i chosen → IsRightly asked (cut_of t old) blif facts i chosen
    → AreRightly asked (cut_of t old) blif facts (suc i)
    → NoneFrom (cut_of t new) (suc i) × AreRightly asked (cut_of t new) blif facts (suc i + 1)

-- The law: with its mark the instance is whole besides the others.
abbrev pub MarkedIsWithOne : Type 0
MarkedIsWithOne = (t : Top) (i : ℕ) (old new : List Bool) → MarksOneMore old new i true → cut_of t new ≡ with_one (cut_of t old) i
