-- Where the `match` lines of a hold lead to, by the places around it.
use Rattle.std.specs.Prelude.{◌≡◌, ℕ, zero, suc, Bool, false, ◌&&◌, cond, List, [], ◌∷◌, Option, Some, None, bytes_eq, find, option_and_then, slice_get}
use Rattle.std.specs.Option.{option_or}
use Rattle.flat_holds.specs.declared.elements.Element.{Element}
use Rattle.net_places.specs.Links.{IsUnrolled}
use Rattle.net_places.specs.Places.{name_at}
use Rattle.net_places.specs.Whole.{whole_of}
use Rattle.net_places.specs.declared.places.Place.{Place}
use Rattle.net_places.specs.declared.whole.Unrolled.{Unrolled}
use Rattle.vrt_model.specs.Comparison.{cell_at}
use Rattle.vrt_model.specs.FlatCircuit.{Reached, flat_hold, led_up, match_of, net_id}
use Rattle.vrt_model.specs.Lists.{At}
use Rattle.vrt_model.specs.Unrolled.{Place as FlatPlace, Top, all_places}
use Rattle.vrt_model.specs.declared.circuit.Enter.{Enter}
use Rattle.vrt_model.specs.declared.circuit.Hold.{Hold}
use Rattle.vrt_model.specs.declared.circuit.HoldEnd.{HoldEnd}
use Rattle.vrt_model.specs.declared.circuit.HoldEnd.TheVariants.{Own, Latch}
use Rattle.vrt_model.specs.declared.design.Design.{Design}
use Rattle.vrt_model.specs.declared.pairing.PortRole.{PortRole}
use Rattle.vrt_model.specs.declared.rules.EnterRule.{EnterRule}
use Rattle.vrt_model.specs.declared.rules.HoldRule.{HoldRule}
use Rattle.vrt_model.specs.declared.rules.InstanceMatchRule.{InstanceMatchRule}
use Rattle.vrt_model.specs.declared.rules.MatchRule.{MatchRule}
use Rattle.vrt_model.specs.declared.rules.Rules.{Rules}

-- ---- lines

-- an item, if it passes
abbrev pub if_passes : {X : Type 0} → (X → Bool) → Option X → Option X
if_passes test o = option_and_then (λ x. cond (test x) (Some x) None) o

-- the first that passes of the items at places
abbrev pub first_at : {X : Type 0} → (X → Bool) → List X → List ℕ → Option X
first_at test xs [] = None
first_at test xs (at ∷ places) = option_or (if_passes test (slice_get xs at)) (first_at test xs places)

abbrev pub is_match_of : HoldRule → MatchRule → Bool
is_match_of hold r = bytes_eq r.cell hold.cell && bytes_eq r.net hold.net

abbrev pub is_line_of : List ℕ → List ℕ → List ℕ → InstanceMatchRule → Bool
is_line_of cell instance element r = bytes_eq r.cell cell && bytes_eq r.instance instance && bytes_eq r.inner element

-- the line of the cell at the place around that is of an element of a place's model
abbrev pub line_from : List InstanceMatchRule → Design → Place → List ℕ → Option Place → Option InstanceMatchRule
line_from lines design p element None = None
line_from lines design p element (Some outer) = find (is_line_of (cell_at design outer.cell).name (name_at design outer.cell p.card) element) lines

abbrev pub line_above : List InstanceMatchRule → Design → Unrolled → Place → List ℕ → Option InstanceMatchRule
line_above lines design unrolled p element = line_from lines design p element (slice_get unrolled.places p.around)

abbrev pub enter_by : HoldRule → EnterRule → Option Enter
enter_by hold r = cond (bytes_eq r.cell hold.cell && bytes_eq r.net hold.net) (let one : Enter = record { phase = r.phase; value = r.value } in Some one) None

abbrev pub enter_at : HoldRule → List EnterRule → ℕ → Option Enter
enter_at hold lines at = option_and_then (enter_by hold) (slice_get lines at)

-- ---- elements

-- the place of a number, with a name and a polarity, is to where lines lead
pub record IsReached (t : Top) (reached : Reached) (number : ℕ) (name : List ℕ) (inverted : Bool) : Type 0 where
  pub place : (at : FlatPlace) × At (all_places t) number at × (at.path ≡ reached.path)
  pub name_is : name ≡ reached.element
  pub inverted_is : inverted ≡ reached.inverted

-- from an element of a place's model lines lead to an element of the model of a place, whichever cell is checked
abbrev pub AllLead : Design → Rules → Unrolled → ℕ → List ℕ → Bool → ℕ → List ℕ → Bool → Type 0
AllLead design rules unrolled place name inverted number element differs =
    (cell : ℕ) (roles : List PortRole) (at : FlatPlace) → IsUnrolled (whole_of design rules cell roles) unrolled → At (all_places (whole_of design rules cell roles)) place at
    → IsReached (whole_of design rules cell roles) (led_up rules at.path name inverted) number element differs

abbrev pub HasElement : Design → Rules → Unrolled → ℕ → HoldRule → Option Element → Type 0
HasElement design rules unrolled place hold None = match_of rules hold ≡ None
HasElement design rules unrolled place hold (Some e) =
    (line : MatchRule) × (match_of rules hold ≡ Some line) × AllLead design rules unrolled place line.latch line.inverted e.place e.name.now e.inverted

-- ---- ends

-- the instance at a place, by the number of the place
abbrev pub instance_by : ℕ → Option ℕ
instance_by zero = None
instance_by (suc k) = Some k

abbrev pub end_from : ℕ → Option Element → HoldEnd
end_from n None = Own (net_id n)
end_from n (Some e) = Latch (instance_by e.place) e.name.now

abbrev pub inverted_from : Option Element → Bool
inverted_from None = false
inverted_from (Some e) = e.inverted

-- ---- holds

-- the hold that a rule gives a net at a place, whichever cell is checked
abbrev pub IsHold : Design → Rules → Unrolled → ℕ → HoldRule → ℕ → Hold → Type 0
IsHold design rules unrolled place rule n hold =
    (cell : ℕ) (roles : List PortRole) (at : FlatPlace) → IsUnrolled (whole_of design rules cell roles) unrolled → At (all_places (whole_of design rules cell roles)) place at
    → hold ≡ flat_hold (whole_of design rules cell roles) n (record { at = at; rule = rule })
