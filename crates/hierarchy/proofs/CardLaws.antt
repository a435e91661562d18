-- Instance cards, one by one.
use Rattle.std.proofs.Common.{◌≡◌, ◌∷◌, ◌<◌, ◌≤◌, ◌+◌, ◌&&◌, not, [], ℕ, List, Bool, true, false, cond, flat_map, length, drop, get_or, Option, Some, None, option_map, ap, sym, ◌∙◌, inl, inr}
use Rattle.std.specs.Prelude.{◌⊎◌, ◌==◌, bytes_eq, find, is_some, position, unwrap_or}
use Rattle.std.specs.Option.{option_or}
use Rattle.std.proofs.lemmas.List.{drop_all, drop_more}
use Rattle.std.proofs.lemmas.List.Folds.{find-append}
use Rattle.vrt_model.proofs.Members.{all_among, among_flat_map, among_later}
use Rattle.vrt_model.specs.Comparison.{cell_at}
use Rattle.vrt_model.specs.Hierarchy.{bad_card, is_cell, is_good_card}
use Rattle.vrt_model.specs.Inputs.{IsCell, IsDesign}
use Rattle.vrt_model.specs.Lists.{Among}
use Rattle.vrt_model.specs.Unrolled.{cell_named}
use Rattle.vrt_model.specs.declared.design.Cell.{Cell}
use Rattle.vrt_model.specs.declared.design.Design.{Design}
use Rattle.vrt_model.specs.declared.design.InstanceCard.{InstanceCard}
use Rattle.names.proofs.PlaceLaws.{any_placed, position_same}
use Rattle.hierarchy.specs.Cards.{IsCardFault, card_fault}
use Rattle.hierarchy.specs.Tables.{AreNames}
use Rattle.hierarchy.specs.declared.faults.HierFault.{HierFault}
use Rattle.hierarchy.specs.declared.faults.HierFault.TheVariants.{PortCount, UnknownCell, NoMemory}

-- ---- the cell of a name

abbrev pub by_name : List ℕ → Cell → Bool
by_name name c = bytes_eq c.name name

pub place_is : (design : Design) (names : List (List ℕ)) (name : List ℕ) → AreNames design names → position (bytes_eq name) names ≡ position (by_name name) design.cells
place_is design names name are = ap (position (bytes_eq name)) are ∙ position_same (λ (c : Cell). c.name) name design.cells

pub is_there : (design : Design) (names : List (List ℕ)) (name : List ℕ) (n : ℕ) → AreNames design names → position (bytes_eq name) names ≡ Some n → is_cell design name ≡ true
is_there design names name n are e = any_placed (by_name name) design.cells ∙ ap is_some (sym (place_is design names name are) ∙ e)

pub not_there : (design : Design) (names : List (List ℕ)) (name : List ℕ) → AreNames design names → position (bytes_eq name) names ≡ None → is_cell design name ≡ false
not_there design names name are e = any_placed (by_name name) design.cells ∙ ap is_some (sym (place_is design names name are) ∙ e)

pub number_is : (design : Design) (names : List (List ℕ)) (name : List ℕ) (n : ℕ) → AreNames design names → position (bytes_eq name) names ≡ Some n → n ≡ cell_named design name
number_is design names name n are e = ap (λ o. unwrap_or o 0) (sym e ∙ place_is design names name are)

-- ---- a card

pub good_found : (design : Design) (names : List (List ℕ)) (card : InstanceCard) (name : List ℕ) (n nets ports : ℕ) → AreNames design names → name ≡ card.cell → position (bytes_eq name) names ≡ Some n
    → nets ≡ length card.nets → ports ≡ length (cell_at design n).ports → (nets == ports) ≡ is_good_card design card
good_found design names card name n nets ports are same e is of =
    let place : position (bytes_eq card.cell) names ≡ Some n = ap (λ m. position (bytes_eq m) names) (sym same) ∙ e in
    ap (λ m. m == ports) is ∙ ap (λ m. length card.nets == m) of
    ∙ ap (λ k. length card.nets == length (cell_at design k).ports) (number_is design names card.cell n are place)
    ∙ ap (λ b. b && (length card.nets == length (cell_at design (cell_named design card.cell)).ports)) (sym (is_there design names card.cell n are place))

pub good_unknown : (design : Design) (names : List (List ℕ)) (card : InstanceCard) (name : List ℕ) → AreNames design names → name ≡ card.cell → position (bytes_eq name) names ≡ None
    → false ≡ is_good_card design card
good_unknown design names card name are same e =
    ap (λ b. b && (length card.nets == length (cell_at design (cell_named design card.cell)).ports))
    (sym (not_there design names card.cell are (ap (λ m. position (bytes_eq m) names) (sym same) ∙ e)))

pub fault_found : (design : Design) (names : List (List ℕ)) (card : InstanceCard) (name : List ℕ) (n nets ports : ℕ) → AreNames design names → name ≡ card.cell → position (bytes_eq name) names ≡ Some n
    → nets ≡ length card.nets → ports ≡ length (cell_at design n).ports → PortCount card.line nets ports ≡ card_fault design card
fault_found design names card name n nets ports are same e is of =
    let place : position (bytes_eq card.cell) names ≡ Some n = ap (λ m. position (bytes_eq m) names) (sym same) ∙ e in
    ap (λ m. PortCount card.line m ports) is ∙ ap (λ m. PortCount card.line (length card.nets) m) of
    ∙ ap (λ k. PortCount card.line (length card.nets) (length (cell_at design k).ports)) (number_is design names card.cell n are place)
    ∙ ap (λ b. cond b (PortCount card.line (length card.nets) (length (cell_at design (cell_named design card.cell)).ports)) (UnknownCell card.line card.cell))
    (sym (is_there design names card.cell n are place))

pub fault_unknown : (design : Design) (names : List (List ℕ)) (card : InstanceCard) (name told : List ℕ) → AreNames design names → name ≡ card.cell → position (bytes_eq name) names ≡ None → told ≡ card.cell
    → UnknownCell card.line told ≡ card_fault design card
fault_unknown design names card name told are same e is =
    ap (UnknownCell card.line) is
    ∙ ap (λ b. cond b (PortCount card.line (length card.nets) (length (cell_at design (cell_named design card.cell)).ports)) (UnknownCell card.line card.cell))
    (sym (not_there design names card.cell are (ap (λ m. position (bytes_eq m) names) (sym same) ∙ e)))

-- ---- the cards of cells

module _ (bad : InstanceCard → Bool) where
  abbrev pub bad_in : List Cell → Option InstanceCard
  bad_in cells = find bad (flat_map (λ (c : Cell). c.instances) cells)

  split : (cells : List Cell) (i : ℕ) (cell : Cell) → i < length cells → cell ≡ get_or cells i cell
      → bad_in (drop i cells) ≡ option_or (find bad cell.instances) (bad_in (drop (i + 1) cells))
  split cells i cell lt is =
      ap bad_in (drop_more cells i cell lt ∙ ap (λ c. c ∷ drop (i + 1) cells) (sym is)) ∙ find-append bad cell.instances (flat_map (λ (c : Cell). c.instances) (drop (i + 1) cells))

  pub card_found : (cells : List Cell) (i : ℕ) (cell : Cell) (all : Option InstanceCard) (card : InstanceCard) → i < length cells → cell ≡ get_or cells i cell
      → Some card ≡ find bad cell.instances → bad_in (drop i cells) ≡ all → Some card ≡ all
  card_found cells i cell all card lt is here so_far =
      ap (λ o. option_or o (bad_in (drop (i + 1) cells))) here ∙ sym (split cells i cell lt is) ∙ so_far

  pub card_passed : (cells : List Cell) (i : ℕ) (cell : Cell) (all : Option InstanceCard) → i < length cells → cell ≡ get_or cells i cell
      → None ≡ find bad cell.instances → bad_in (drop i cells) ≡ all → bad_in (drop (i + 1) cells) ≡ all
  card_passed cells i cell all lt is here so_far =
      ap (λ o. option_or o (bad_in (drop (i + 1) cells))) here ∙ sym (split cells i cell lt is) ∙ so_far

  pub cards_done : (cells : List Cell) (i : ℕ) (all : Option InstanceCard) → length cells ≤ i → bad_in (drop i cells) ≡ all → None ≡ all
  cards_done cells i all past so_far = sym (ap bad_in (drop_all i cells past)) ∙ so_far

  found_among : (cards : List InstanceCard) (card : InstanceCard) → find bad cards ≡ Some card → Among cards card
  found_among [] card e = cc
  found_among (x ∷ cards) card e = by_test (bad x) (λ k. found_among cards card k) e where
    by_test : (b : Bool) → (find bad cards ≡ Some card → Among cards card) → cond b (Some x) (find bad cards) ≡ Some card → Among (x ∷ cards) card
    by_test true rest e = (0, e)
    by_test false rest e = among_later x cards card (rest e)

-- a card of a netlist has few nets
pub few_nets : (design : Design) (card : InstanceCard) → IsDesign design → bad_card design ≡ Some card → length card.nets < 4294967296
few_nets design card is e =
    let at = among_flat_map (λ (c : Cell). c.instances) design.cells card (found_among (λ i. not (is_good_card design i)) (flat_map (λ (c : Cell). c.instances) design.cells) card e) in
    let cell : IsCell at.0 = all_among IsCell design.cells at.0 is.cells at.1 in
    all_among (λ (i : InstanceCard). length i.nets < 4294967296) at.0.instances card cell.nets at.2

pub fault_told : (design : Design) (card : InstanceCard) (f : HierFault) → bad_card design ≡ Some card → (f ≡ NoMemory) ⊎ (f ≡ card_fault design card) → (f ≡ NoMemory) ⊎ IsCardFault design f
fault_told design card f e (inl h) = inl h
fault_told design card f e (inr h) = inr (ap (option_map (card_fault design)) e ∙ ap Some (sym h))
