-- Bits of variables, as they are given by a list of names with bits.
use Rattle.std.specs.Prelude.{◌≡◌, ℕ, ◌+◌, ◌==◌, Bool, true, false, cond, List, [], ◌∷◌, ◌++◌, Option, Some, None, Result, Ok, Err, bytes_eq, drop, find, map, option_and_then, option_map, take, unwrap_or, codes}
use Rattle.std.specs.List.{slice_split}
use Rattle.vrt_model.specs.Lists.{has_name}
use Rattle.vrt_model.specs.declared.groups.Valuation.{Valuation}
use Rattle.mode_lines.specs.declared.lists.AtItem.{AtItem}
use Rattle.mode_lines.specs.declared.lists.ListFault.{ListFault}
use Rattle.mode_lines.specs.declared.lists.ListFault.TheVariants.{Form, NoMemory as NoListMemory}
use Rattle.mode_lines.specs.declared.valuations.AtFault.{AtFault}
use Rattle.mode_lines.specs.declared.valuations.AtFault.TheVariants.{NoSuchName, Twice, NoMemory}

-- ---- the list

-- the last place from a number on at which a byte stands, else the place that was found before
abbrev pub last_from : ℕ → ℕ → Option ℕ → List ℕ → Option ℕ
last_from byte at found [] = found
last_from byte at found (b ∷ bs) = last_from byte (at + 1) (cond (b == byte) (Some at) found) bs

abbrev pub last_place : ℕ → List ℕ → Option ℕ
last_place byte bytes = last_from byte 0 None bytes

-- the bit that a word is
abbrev pub bit_named : List ℕ → Option Bool
bit_named word = cond (bytes_eq word (codes "0")) (Some false) (cond (bytes_eq word (codes "1")) (Some true) None)

-- an item of a name that has a byte
abbrev pub named : List ℕ → Option Bool → Option AtItem
named [] bit = None
named (b ∷ name) None = None
named (b ∷ name) (Some bit) = Some (record { name = b ∷ name; bit = bit })

-- an item is cut at its last `=`
abbrev pub item_at : List ℕ → ℕ → Option AtItem
item_at piece at = named (take at piece) (bit_named (drop (at + 1) piece))

abbrev pub item_of : List ℕ → Option AtItem
item_of piece = option_and_then (item_at piece) (last_place 61 piece)

abbrev pub ItemGives : List ℕ → Result AtItem ListFault → Type 0
ItemGives piece (Ok item) = item_of piece ≡ Some item
ItemGives piece (Err Form) = item_of piece ≡ None
ItemGives piece (Err NoListMemory) = Unit {0}

abbrev pub NamedGives : List ℕ → Option Bool → Result AtItem ListFault → Type 0
NamedGives name bit (Ok item) = named name bit ≡ Some item
NamedGives name bit (Err Form) = named name bit ≡ None
NamedGives name bit (Err NoListMemory) = Unit {0}

-- all items, where each piece is one
abbrev pub onto : Option AtItem → Option (List AtItem) → Option (List AtItem)
onto None items = None
onto (Some item) None = None
onto (Some item) (Some items) = Some (item ∷ items)

abbrev pub items_of : List (List ℕ) → Option (List AtItem)
items_of [] = Some []
items_of (piece ∷ pieces) = onto (item_of piece) (items_of pieces)

-- the pieces between commas; an empty list has none
abbrev pub cut : List ℕ → List (List ℕ)
cut list = slice_split (λ b. b == 44) list

abbrev pub pieces_of : List ℕ → List (List ℕ)
pieces_of [] = []
pieces_of (b ∷ bs) = cut (b ∷ bs)

-- the items of a list, if it has the form
abbrev pub items_in : List ℕ → Option (List AtItem)
items_in list = items_of (pieces_of list)

abbrev pub ListGives : List ℕ → Result (List AtItem) ListFault → Type 0
ListGives list (Ok items) = items_in list ≡ Some items
ListGives list (Err Form) = items_in list ≡ None
ListGives list (Err NoListMemory) = Unit {0}

-- items behind others
abbrev pub ahead : List AtItem → Option (List AtItem) → Option (List AtItem)
ahead before items = option_map (λ (more : List AtItem). before ++ more) items

-- the items of pieces were added, or some piece is none
abbrev pub AddsPieces : List AtItem → List AtItem → List (List ℕ) → Result (Unit {0}) ListFault → Type 0
AddsPieces old new pieces (Ok done) = ahead old (items_of pieces) ≡ Some new
AddsPieces old new pieces (Err Form) = ahead old (items_of pieces) ≡ None
AddsPieces old new pieces (Err NoListMemory) = Unit {0}

-- ---- the valuation

abbrev pub names_of : List AtItem → List (List ℕ)
names_of items = map (λ (item : AtItem). item.name) items

-- whether an item has this name
abbrev pub is_named : List ℕ → AtItem → Bool
is_named name item = bytes_eq name item.name

-- the fault of an item behind others: its name is none of the variables' or stands before
abbrev pub item_fault : List (List ℕ) → List (List ℕ) → List ℕ → Option AtFault
item_fault names before name = cond (has_name names name) (cond (has_name before name) (Some (Twice name)) None) (Some (NoSuchName name))

-- the first fault of items behind others
abbrev pub first_fault : Option AtFault → Option AtFault → Option AtFault
first_fault None rest = rest
first_fault (Some fault) rest = Some fault

abbrev pub fault_from : List (List ℕ) → List (List ℕ) → List AtItem → Option AtFault
fault_from names before [] = None
fault_from names before (item ∷ items) = first_fault (item_fault names before item.name) (fault_from names (before ++ item.name ∷ []) items)

abbrev pub fault_at : List (List ℕ) → List AtItem → Option AtFault
fault_at names items = fault_from names [] items

-- the bit that is given under a name, and 0 where none is
abbrev pub bit_in : List AtItem → List ℕ → Bool
bit_in items name = unwrap_or (option_map (λ (item : AtItem). item.bit) (find (is_named name) items)) false

-- the bit of each variable: of two with one name the first has what is given
abbrev pub bits_from : List (List ℕ) → List (List ℕ) → List AtItem → List Bool
bits_from before [] items = []
bits_from before (name ∷ names) items = cond (has_name before name) false (bit_in items name) ∷ bits_from (before ++ name ∷ []) names items

abbrev pub bits_at : List (List ℕ) → List AtItem → List Bool
bits_at names items = bits_from [] names items

-- a fault as it is told
abbrev pub Tells : Option AtFault → AtFault → Type 0
Tells fault (NoSuchName name) = fault ≡ Some (NoSuchName name)
Tells fault (Twice name) = fault ≡ Some (Twice name)
Tells fault NoMemory = Unit {0}

abbrev pub NamesNone : List ℕ → AtFault → Type 0
NamesNone name told = Tells (Some (NoSuchName name)) told

abbrev pub NamesTwice : List ℕ → AtFault → Type 0
NamesTwice name told = Tells (Some (Twice name)) told

abbrev pub Checks : Option AtFault → Result (Unit {0}) AtFault → Type 0
Checks fault (Ok done) = fault ≡ None
Checks fault (Err told) = Tells fault told

abbrev pub AtGives : List (List ℕ) → List AtItem → Result Valuation AtFault → Type 0
AtGives names items (Ok valuation) = (fault_at names items ≡ None) × (valuation.bits ≡ bits_at names items)
AtGives names items (Err told) = Tells (fault_at names items) told
