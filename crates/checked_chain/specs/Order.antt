-- Which instances of a chain are whole, and which are inside: an instance stands before those inside it.
use Rattle.std.specs.Prelude.{◌≡◌, ℕ, suc, ◌<◌, true, false, List}
use Rattle.vrt_model.specs.Checked.{IsChoice, before}
use Rattle.vrt_model.specs.Cut.{Cut, NumberedPlace, is_inside, is_inside_whole, is_left_out, is_whole, numbered_places}
use Rattle.vrt_model.specs.Inputs.{IsDesign}
use Rattle.vrt_model.specs.Lists.{At, Among}
use Rattle.vrt_model.specs.Unrolled.{Place, Top, all_places}
use Rattle.vrt_model.specs.declared.blif.Blif.{Blif}
use Rattle.vrt_model.specs.declared.whole.CellFacts.{CellFacts}

-- The law: a place stands before those inside it.
abbrev pub OuterComesFirst : Type 0
OuterComesFirst =
    (t : Top) (i j : ℕ) (inner outer : Place)
    → IsDesign t.design → At (all_places t) i inner → At (all_places t) j outer → is_inside inner outer ≡ true → j < i

-- The law: so no chosen instance is inside a chosen one.
abbrev pub ChosenAreApart : Type 0
ChosenAreApart =
    (cut : Cut) (blif : Blif) (facts : List CellFacts) (i : ℕ) (p : NumberedPlace)
    → IsDesign cut.top.design → IsChoice cut blif facts → At (numbered_places cut.top) (suc i) p → cut.choice i ≡ true
    → is_inside_whole cut p.at ≡ false

-- The law: and nothing inside an instance is whole, as long as only instances before that one are.
abbrev pub NothingIsWholeInside : Type 0
NothingIsWholeInside =
    (cut : Cut) (i : ℕ) (p q : NumberedPlace)
    → IsDesign cut.top.design → At (numbered_places cut.top) (suc i) p → Among (numbered_places cut.top) q → is_inside q.at p.at ≡ true
    → is_whole (before cut i).choice q.number ≡ false

-- The law: so an instance that is not inside a whole one has nothing left out, neither itself nor what is inside.
abbrev pub NothingIsLeftOutInside : Type 0
NothingIsLeftOutInside =
    (cut : Cut) (i : ℕ) (p : NumberedPlace)
    → IsDesign cut.top.design → At (numbered_places cut.top) (suc i) p → is_inside_whole (before cut i) p.at ≡ false
    → (is_left_out (before cut i) p ≡ false)
    × ((q : NumberedPlace) → Among (numbered_places cut.top) q → is_inside q.at p.at ≡ true → is_left_out (before cut i) q ≡ false)
