-- What a netlist without a fault keeps: names that do not repeat, and limits.
use Rattle.std.proofs.Common.{◌≡◌, ◌≤◌, ◌<◌, ◌+◌, ◌++◌, ◌∷◌, ◌&&◌, ◌||◌, ◌==◌, [], ℕ, List, Bool, true, false, cond, is_some, map, flat_map, length, nat_le, nat_lt, Option, Some, None, option_map, append-nil, append_assoc, refl, ap, sym, subst, ◌∙◌, arith}
use Rattle.std.specs.Prelude.{bytes_eq, codes, filter, All}
use Rattle.std.specs.Option.{option_map_or}
use Rattle.std.proofs.lemmas.List.{length-append, length-map}
use Rattle.std.proofs.lemmas.List.Elements.{All-append, All-cons, All-filter, All-head, All-map, All-nil, All-tail, All-weaker}
use Rattle.std.proofs.lemmas.List.Folds.{list_any-append}
use Rattle.names.proofs.ApartLaws.{NoRepeat, apart, apart_by, no_repeat_end, no_repeat_within, once_apart}
use Rattle.text_lines.proofs.FaultLaws.{CleanFrom, clean_from, none_at, when_no}
use Rattle.text_lines.proofs.GroupLaws.{goes_on, groups_behind, listed_more, open_first, open_goes_on, open_shuts, opens, passes, shut_last, shuts, with_end}
use Rattle.text_lines.specs.Bytes.{starts}
use Rattle.text_lines.specs.Groups.{groups, up_to}
use Rattle.text_lines.specs.Words.{behind, but_last, last_word}
use Rattle.vrt_model.specs.Lists.{distinct, has_name}
use Rattle.names.specs.Names.{first_again}
use Rattle.spice_reader.specs.Cards.{cards_of, first_word}
use Rattle.spice_reader.proofs.SizeLaws.{Fits, cards_fit}
use Rattle.spice_reader.specs.Netlist.{begins_cell, cell_name, cell_of, cell_ports, design_of, device_of, ends_cell, globals_in, instance_of, is_device, is_element, is_instance, is_parameter, plain_words}
use Rattle.spice_reader.specs.Refused.{begun, element_names, fault_by, fault_of, faults_on, is_cell_twice, is_element_twice, is_inside, IsNetlist, known_by, open_cell, passes_limit, port_twice}
use Rattle.spice_reader.proofs.KnownLaws.{begins_no_end, not_nested, was_open}
use Rattle.spice_reader.specs.declared.card.Card.{Card}
use Rattle.spice_reader.specs.declared.known.Known.{Known}
use Rattle.spice_reader.specs.declared.faults.SpiceFault.TheVariants.{CellTwice, ElementTwice, Limit, PortTwice}
use Rattle.vrt_model.specs.Inputs.{IsCell, IsDesign}
use Rattle.vrt_model.specs.declared.design.Cell.{Cell}
use Rattle.vrt_model.specs.declared.design.DeviceCard.{DeviceCard}
use Rattle.vrt_model.specs.declared.design.InstanceCard.{InstanceCard}
use borrow.Author.Tests.{eqb-true, leb-false, ltb-false}

-- ---- what a card without a fault keeps

third_no : (x i e m : Bool) → (x || (i && e && m)) ≡ false → i ≡ true → e ≡ true → m ≡ false
third_no true i e m h hi he = cc
third_no false true true m h hi he = h
third_no false true false m h hi he = cc
third_no false false e m h hi he = cc

first_no : (b p q z : Bool) → ((b && (p || q)) || z) ≡ false → b ≡ true → (p ≡ false) × (q ≡ false)
first_no true false false z h hb = (refl, refl)
first_no true true q z h hb = cc
first_no true false true z h hb = cc
first_no false p q z h hb = cc

none_inside : (o : Option (List ℕ)) (line : ℕ) → option_map (PortTwice line) o ≡ None → o ≡ None
none_inside None line e = refl
none_inside (Some x) line e = cc

limit_kept : (known : Known) (card : Card) → fault_by known card ≡ None → passes_limit known card ≡ false
unfolding fault_by
limit_kept known card none = when_no (passes_limit known card) (Limit card.line) (none_at (faults_on known card) none 10)

cell_is_new : (known : Known) (card : Card) → fault_by known card ≡ None → begins_cell card ≡ true → has_name known.cells (cell_name card) ≡ false
unfolding fault_by
cell_is_new known card none h =
    sym (ap (λ b. b && has_name known.cells (cell_name card)) h)
    ∙ when_no (is_cell_twice known card) (CellTwice card.line (cell_name card)) (none_at (faults_on known card) none 7)

element_is_new : (known : Known) (card : Card) → fault_by known card ≡ None → is_inside known ≡ true → is_element card ≡ true → has_name known.elements (first_word card) ≡ false
unfolding fault_by
element_is_new known card none hi he =
    third_no false (is_inside known) (is_element card) _ (when_no (is_element_twice known card) (ElementTwice card.line (first_word card)) (none_at (faults_on known card) none 8)) hi he

no_port_twice : (known : Known) (card : Card) → fault_by known card ≡ None → port_twice card ≡ None
unfolding fault_by
no_port_twice known card none = none_inside (port_twice card) card.line (none_at (faults_on known card) none 9)

cell_has_room : (known : Known) (card : Card) → fault_by known card ≡ None → begins_cell card ≡ true → (length known.cells < 4096) × (length (cell_ports card) ≤ 4096)
cell_has_room known card none h =
    let two = first_no (begins_cell card) (nat_le 4096 (length known.cells)) (nat_lt 4096 (length (cell_ports card))) _ (limit_kept known card none) h in
    (leb-false 4096 (length known.cells) two.0, ltb-false 4096 (length (cell_ports card)) two.1)

element_has_room : (known : Known) (card : Card) → fault_by known card ≡ None → is_inside known ≡ true → is_element card ≡ true → length known.elements < 40000
element_has_room known card none hi he =
    leb-false 40000 (length known.elements) (third_no _ (is_inside known) (is_element card) (nat_le 40000 (length known.elements)) (limit_kept known card none) hi he)

-- names of which none stands again do not repeat
again_none : (before names : List (List ℕ)) → NoRepeat before → first_again bytes_eq before names ≡ None → NoRepeat (before ++ names)
again_none before [] n e = rw (append-nil before) n
again_none before (x ∷ xs) n e =
    by_test (has_name before x) refl e (λ h later. again_none (before ++ x ∷ []) xs (no_repeat_end before x n h) later) where
      by_test : (b : Bool) → has_name before x ≡ b → cond b (Some x) (first_again bytes_eq (before ++ x ∷ []) xs) ≡ None
          → (has_name before x ≡ false → first_again bytes_eq (before ++ x ∷ []) xs ≡ None → NoRepeat ((before ++ x ∷ []) ++ xs)) → NoRepeat (before ++ x ∷ xs)
      by_test true h e more = cc
      by_test false h e more = rw (sym (append_assoc before (x ∷ []) xs)) (more h e)

ports_apart : (card : Card) → begins_cell card ≡ true → port_twice card ≡ None → NoRepeat (cell_ports card)
ports_apart card h e = again_none [] (cell_ports card) tt (ap (λ b. cond b (first_again bytes_eq [] (cell_ports card)) None) (sym h) ∙ e)

-- ---- cells

cells_so_far : (before : List Card) → (known_by before).cells ≡ map cell_name (filter begins_cell before)
unfolding known_by
cells_so_far before = refl

abbrev heads : List Card → List (List ℕ)
heads before = map cell_name (filter begins_cell before)

record CellNames (names : List (List ℕ)) : Type 0 where
  apart : NoRepeat names
  limit : length names ≤ 4096

one_cell_more : (before : List Card) (c : Card) (b : Bool) → begins_cell c ≡ b → fault_by (known_by before) c ≡ None → CellNames (heads before) → CellNames (map cell_name (filter begins_cell before) ++ map cell_name (cond b (c ∷ []) []))
one_cell_more before c true h none k =
    let new = ap (λ names. has_name names (cell_name c)) (sym (cells_so_far before)) ∙ cell_is_new (known_by before) c none h in
    let room = (cell_has_room (known_by before) c none h).0 in
    record {
      apart = no_repeat_end (heads before) (cell_name c) k.apart new;
      limit = omega (arith, length-append (heads before) (cell_name c ∷ []), ap length (cells_so_far before), room);
    }
one_cell_more before c false h none k = rw (append-nil (heads before)) k

cells_named : (before cards : List Card) → CellNames (heads before) → CleanFrom fault_of before cards → CellNames (heads (before ++ cards))
cells_named before [] k clean = rw (append-nil before) k
cells_named before (c ∷ cs) k clean =
    let now : CellNames (heads (before ++ c ∷ [])) = rw (listed_more begins_cell cell_name before c) (one_cell_more before c (begins_cell c) refl clean.0 k) in
    rw (sym (append_assoc before (c ∷ []) cs)) (cells_named (before ++ c ∷ []) cs now clean.1)

group_names : (cards : List Card) → map (λ (c : Cell). c.name) (map cell_of (groups begins_cell ends_cell cards)) ≡ map cell_name (filter begins_cell cards)
group_names [] = refl
group_names (c ∷ cs) = by_test (begins_cell c) (groups begins_cell ends_cell cs) (filter begins_cell cs) (group_names cs) where
  by_test : (b : Bool) (gs : List (Card × List Card)) (xs : List Card) → map (λ (c : Cell). c.name) (map cell_of gs) ≡ map cell_name xs
      → map (λ (c : Cell). c.name) (map cell_of (cond b ((c, up_to ends_cell cs) ∷ gs) gs)) ≡ map cell_name (cond b (c ∷ xs) xs)
  by_test true gs xs e = ap (λ names. cell_name c ∷ names) e
  by_test false gs xs e = e

-- ---- the cards of a cell

-- what a `.subckt` card and the cards behind it keep
record Kept (group : Card × List Card) : Type 0 where
  port_limit : length (cell_ports group.0) ≤ 4096
  ports : NoRepeat (cell_ports group.0)
  card_limit : length (element_names group) ≤ 40000
  elements : NoRepeat (element_names group)
  words : All Fits group.1

abbrev KeptOpen : Option (Card × List Card) → Type 0
KeptOpen None = Unit {0}
KeptOpen (Some group) = Kept group

kept_first : (before : List Card) (c : Card) → begins_cell c ≡ true → fault_by (known_by before) c ≡ None → Kept (c, [])
kept_first before c h none = record {
  port_limit = (cell_has_room (known_by before) c none h).1;
  ports = ports_apart c h (no_port_twice (known_by before) c none);
  card_limit = omega arith;
  elements = tt;
  words = All-nil Fits;
}

elements_so_far : (before : List Card) (g : Card × List Card) → open_cell before ≡ Some g → ((known_by before).elements ≡ element_names g) × (is_inside (known_by before) ≡ true)
unfolding known_by
elements_so_far before g is = (ap (λ o. option_map_or element_names o []) is, ap (λ o. is_some (option_map (λ (group : Card × List Card). begun group.0) o)) is)

one_element_more : (before : List Card) (g : Card × List Card) (c : Card) (b : Bool) → is_element c ≡ b → open_cell before ≡ Some g → fault_by (known_by before) c ≡ None
    → NoRepeat (element_names g) → length (element_names g) ≤ 40000
    → NoRepeat (element_names g ++ map first_word (cond b (c ∷ []) [])) × (length (element_names g ++ map first_word (cond b (c ∷ []) [])) ≤ 40000)
one_element_more before g c true h is none n limit =
    let here = elements_so_far before g is in
    let new = ap (λ names. has_name names (first_word c)) (sym here.0) ∙ element_is_new (known_by before) c none here.1 h in
    let room = element_has_room (known_by before) c none here.1 h in
    (no_repeat_end (element_names g) (first_word c) n new, omega (arith, length-append (element_names g) (first_word c ∷ []), ap length here.0, room))
one_element_more before g c false h is none n limit = (rw (append-nil (element_names g)) n, rw (append-nil (element_names g)) limit)

kept_on : (before : List Card) (g : Card × List Card) (c : Card) → open_cell before ≡ Some g → fault_by (known_by before) c ≡ None → Fits c → Kept g → Kept (with_end c g)
kept_on before g c is none fits k =
    let more = one_element_more before g c (is_element c) refl is none k.elements k.card_limit in
    record {
      port_limit = k.port_limit;
      ports = k.ports;
      card_limit = rw (listed_more is_element first_word g.1 c) more.1;
      elements = rw (listed_more is_element first_word g.1 c) more.0;
      words = All-append Fits g.1 (c ∷ []) k.words (All-cons Fits c [] fits (All-nil Fits));
    }

abbrev Behind : Option (Card × List Card) → List Card → Type 0
Behind o cards = All Kept (groups_behind begins_cell ends_cell o cards)

-- one card more, by what it is
begins_kept : (before cs : List Card) (c : Card) (o : Option (Card × List Card)) → open_cell before ≡ o → fault_by (known_by before) c ≡ None → begins_cell c ≡ true
    → ((now : Option (Card × List Card)) → open_cell (before ++ c ∷ []) ≡ now → KeptOpen now → Behind now cs) → Behind o (c ∷ cs)
begins_kept before cs c o is none h more =
    let outside = was_open before (not_nested (known_by before) c h none) in
    let same = ap (λ x. groups_behind begins_cell ends_cell x (c ∷ cs)) (sym is ∙ outside) ∙ opens begins_cell ends_cell c cs h in
    subst (All Kept) (sym same) (more (Some (c, [])) (open_first begins_cell ends_cell before c h (begins_no_end c h) outside) (kept_first before c h none))

ends_kept : (before cs : List Card) (c : Card) (o : Option (Card × List Card)) → KeptOpen o → begins_cell c ≡ false → ends_cell c ≡ true
    → ((now : Option (Card × List Card)) → open_cell (before ++ c ∷ []) ≡ now → KeptOpen now → Behind now cs) → Behind o (c ∷ cs)
ends_kept before cs c None k h e more = subst (All Kept) (sym (passes begins_cell ends_cell c cs h)) (more None (open_shuts begins_cell ends_cell before c h e) tt)
ends_kept before cs c (Some g) k h e more =
    subst (All Kept) (sym (shuts begins_cell ends_cell g c cs e))
    (All-cons Kept g _ k (subst (All Kept) (sym (passes begins_cell ends_cell c cs h)) (more None (open_shuts begins_cell ends_cell before c h e) tt)))

other_kept : (before cs : List Card) (c : Card) (o : Option (Card × List Card)) → open_cell before ≡ o → KeptOpen o → fault_by (known_by before) c ≡ None → Fits c → begins_cell c ≡ false → ends_cell c ≡ false
    → ((now : Option (Card × List Card)) → open_cell (before ++ c ∷ []) ≡ now → KeptOpen now → Behind now cs) → Behind o (c ∷ cs)
other_kept before cs c None is k none fits h e more =
    subst (All Kept) (sym (passes begins_cell ends_cell c cs h)) (more None (open_goes_on begins_cell ends_cell before c h e ∙ ap (option_map (with_end c)) is) tt)
other_kept before cs c (Some g) is k none fits h e more =
    subst (All Kept) (sym (goes_on begins_cell ends_cell g c cs h e))
    (more (Some (with_end c g)) (open_goes_on begins_cell ends_cell before c h e ∙ ap (option_map (with_end c)) is) (kept_on before g c is none fits k))

one_kept : (before cs : List Card) (c : Card) (o : Option (Card × List Card)) (b e : Bool) → begins_cell c ≡ b → ends_cell c ≡ e → open_cell before ≡ o → KeptOpen o
    → fault_by (known_by before) c ≡ None → Fits c
    → ((now : Option (Card × List Card)) → open_cell (before ++ c ∷ []) ≡ now → KeptOpen now → Behind now cs) → Behind o (c ∷ cs)
one_kept before cs c o true e h f is k none fits more = begins_kept before cs c o is none h more
one_kept before cs c o false true h f is k none fits more = ends_kept before cs c o k h f more
one_kept before cs c o false false h f is k none fits more = other_kept before cs c o is k none fits h f more

groups_kept : (before cards : List Card) (o : Option (Card × List Card)) → open_cell before ≡ o → KeptOpen o → CleanFrom fault_of before cards → All Fits cards → Behind o cards
groups_kept before [] None is k clean fits = All-nil Kept
groups_kept before [] (Some g) is k clean fits = subst (All Kept) (sym (shut_last begins_cell ends_cell g)) (All-cons Kept g [] k (All-nil Kept))
groups_kept before (c ∷ cs) o is k clean fits =
    one_kept before cs c o (begins_cell c) (ends_cell c) refl refl is k clean.0 (All-head Fits c cs fits)
    (λ now here kept. groups_kept (before ++ c ∷ []) cs now here kept clean.1 (All-tail Fits c cs fits))

-- ---- transistors and instances apart

disjoint : (word : List ℕ) → starts 109 word ≡ true → starts 120 word ≡ false
disjoint [] h = cc
disjoint (b ∷ bs) h = ap (λ c. 120 == c) (sym (eqb-true 109 b h))

abbrev Apart : Bool → Bool → Type 0
Apart d i = d ≡ true → i ≡ false

among_step : (d i : Bool) (c : Card) (n : List ℕ) (es ds is : List Card) → Apart d i
    → has_name (map first_word es) n ≡ (has_name (map first_word ds) n || has_name (map first_word is) n)
    → has_name (map first_word (cond (d || i) (c ∷ es) es)) n ≡ (has_name (map first_word (cond d (c ∷ ds) ds)) n || has_name (map first_word (cond i (c ∷ is) is)) n)
among_step true true c n es ds is off e = absurd (no (off refl)) where
  no : true ≡ false → ⊥
  no h = cc
among_step true false c n es ds is off e = ap (λ b. bytes_eq n (first_word c) || b) e ∙ or_assoc (bytes_eq n (first_word c)) _ _ where
  or_assoc : (p q r : Bool) → (p || (q || r)) ≡ ((p || q) || r)
  or_assoc true q r = refl
  or_assoc false q r = refl
among_step false true c n es ds is off e = ap (λ b. bytes_eq n (first_word c) || b) e ∙ or_swap (bytes_eq n (first_word c)) _ _ where
  or_swap : (p q r : Bool) → (p || (q || r)) ≡ (q || (p || r))
  or_swap true true r = refl
  or_swap true false r = refl
  or_swap false q r = refl
among_step false false c n es ds is off e = e

-- a name is among the elements where it is among the transistors or the instances
among_parts : (cards : List Card) (n : List ℕ)
    → has_name (map first_word (filter is_element cards)) n ≡ (has_name (map first_word (filter is_device cards)) n || has_name (map first_word (filter is_instance cards)) n)
among_parts [] n = refl
among_parts (c ∷ cs) n =
    among_step (is_device c) (is_instance c) c n (filter is_element cs) (filter is_device cs) (filter is_instance cs) (disjoint (first_word c)) (among_parts cs n)

abbrev Names : List Card → List (List ℕ)
Names cards = map first_word cards

part_step : (d i : Bool) (c : Card) (es ds is : List Card) → Apart d i
    → has_name (Names es) (first_word c) ≡ (has_name (Names ds) (first_word c) || has_name (Names is) (first_word c))
    → (NoRepeat (Names es) → NoRepeat (Names ds ++ Names is))
    → NoRepeat (Names (cond (d || i) (c ∷ es) es)) → NoRepeat (Names (cond d (c ∷ ds) ds) ++ Names (cond i (c ∷ is) is))
part_step true true c es ds is off e more n = absurd (no (off refl)) where
  no : true ≡ false → ⊥
  no h = cc
part_step true false c es ds is off e more n = (list_any-append (bytes_eq (first_word c)) (Names ds) (Names is) ∙ sym e ∙ n.0, more n.1)
part_step false true c es ds is off e more n =
    no_repeat_within (Names ds) (Names is) (first_word c) (more n.1) (list_any-append (bytes_eq (first_word c)) (Names ds) (Names is) ∙ sym e ∙ n.0)
part_step false false c es ds is off e more n = more n

-- names of elements that do not repeat do not repeat where the transistors come first
parts_apart : (cards : List Card) → NoRepeat (Names (filter is_element cards)) → NoRepeat (Names (filter is_device cards) ++ Names (filter is_instance cards))
parts_apart [] n = tt
parts_apart (c ∷ cs) n =
    part_step (is_device c) (is_instance c) c (filter is_element cs) (filter is_device cs) (filter is_instance cs) (disjoint (first_word c)) (among_parts cs (first_word c)) (parts_apart cs) n

count_step : (d i : Bool) (c : Card) (es ds is : List Card) → Apart d i → length ds + length is ≡ length es
    → length (cond d (c ∷ ds) ds) + length (cond i (c ∷ is) is) ≡ length (cond (d || i) (c ∷ es) es)
count_step true true c es ds is off e = absurd (no (off refl)) where
  no : true ≡ false → ⊥
  no h = cc
count_step true false c es ds is off e = omega (arith, e)
count_step false true c es ds is off e = omega (arith, e)
count_step false false c es ds is off e = e

count_parts : (cards : List Card) → length (filter is_device cards) + length (filter is_instance cards) ≡ length (filter is_element cards)
count_parts [] = refl
count_parts (c ∷ cs) =
    count_step (is_device c) (is_instance c) c (filter is_element cs) (filter is_device cs) (filter is_instance cs) (disjoint (first_word c)) (count_parts cs)

device_names : (cards : List Card) → map (λ (d : DeviceCard). d.name) (map device_of cards) ≡ Names cards
device_names [] = refl
device_names (c ∷ cs) = ap (λ names. first_word c ∷ names) (device_names cs)

instance_names : (cards : List Card) → map (λ (i : InstanceCard). i.name) (map instance_of cards) ≡ Names cards
instance_names [] = refl
instance_names (c ∷ cs) = ap (λ names. first_word c ∷ names) (instance_names cs)

-- ---- the nets of an instance

but_last_shorter : (xs : List (List ℕ)) → length (but_last xs) ≤ length xs
but_last_shorter [] = omega arith
but_last_shorter (x ∷ []) = omega arith
but_last_shorter (x ∷ y ∷ xs) = omega (arith, but_last_shorter (y ∷ xs))

behind_shorter : (xs : List (List ℕ)) → length (behind xs) ≤ length xs
behind_shorter [] = omega arith
behind_shorter (x ∷ xs) = omega arith

up_to_shorter : (test : List ℕ → Bool) (xs : List (List ℕ)) → length (up_to test xs) ≤ length xs
up_to_shorter test [] = omega arith
up_to_shorter test (x ∷ xs) = by_test (test x) (up_to_shorter test xs) where
  by_test : (b : Bool) → length (up_to test xs) ≤ length xs → length (cond b [] (x ∷ up_to test xs)) ≤ length (x ∷ xs)
  by_test true h = omega arith
  by_test false h = omega (arith, h)

without_slash_shorter : (b : Bool) (xs : List (List ℕ)) → length (cond b (but_last xs) xs) ≤ length xs
without_slash_shorter true xs = but_last_shorter xs
without_slash_shorter false xs = omega arith

nets_fit : (card : Card) → Fits card → length (instance_of card).nets < 4294967296
nets_fit card fits =
    let tied = behind (plain_words card.words) in
    omega (
      arith,
      without_slash_shorter (bytes_eq (last_word (but_last tied)) (codes "/")) (but_last tied),
      but_last_shorter tied,
      behind_shorter (plain_words card.words),
      up_to_shorter is_parameter card.words,
      fits,
    )

-- ---- the design

kept_cell : (group : Card × List Card) → Kept group → IsCell (cell_of group)
kept_cell group k = record {
  port_limit = k.port_limit;
  card_limit =
      omega (arith, length-map (filter is_device group.1) device_of, length-map (filter is_instance group.1) instance_of, count_parts group.1, length-map (filter is_element group.1) first_word, k.card_limit);
  ports = apart (cell_ports group.0) k.ports;
  elements = apart _ (rw (device_names (filter is_device group.1), instance_names (filter is_instance group.1)) (parts_apart group.1 k.elements));
  nets =
      All-map (λ (i : InstanceCard). length i.nets < 4294967296) instance_of (filter is_instance group.1)
      (All-weaker Fits (λ c. length (instance_of c).nets < 4294967296) nets_fit (filter is_instance group.1) (All-filter is_instance Fits group.1 k.words));
}

-- the design of cards without a fault keeps names apart, and limits
pub design_kept : (cards : List Card) → IsNetlist cards → All Fits cards → IsDesign (design_of cards)
unfolding design_of
design_kept cards netlist fits =
    let clean = clean_from fault_of cards netlist.clean in
    let named : CellNames (heads cards) = cells_named [] cards (record { apart = tt; limit = omega arith }) clean in
    let gs = groups begins_cell ends_cell cards in
    record {
      cell_limit = omega (arith, length-map (map cell_of gs) (λ (c : Cell). c.name), ap length (group_names cards), named.limit);
      names = apart_by (λ (c : Cell). c.name) (map cell_of gs) (rw (group_names cards) named.apart);
      cells = All-map IsCell cell_of gs (All-weaker Kept (λ group. IsCell (cell_of group)) kept_cell gs (groups_kept [] cards None refl tt clean fits));
      globals = apart (distinct (flat_map globals_in cards)) (once_apart (flat_map globals_in cards));
    }

-- the same of a text within the limit
pub text_kept : (text : List ℕ) → length text ≤ 16777216 → IsNetlist (cards_of text) → IsDesign (design_of (cards_of text))
text_kept text most netlist = design_kept (cards_of text) netlist (cards_fit text most)
