-- Whether a constraint of an instance is broken depends on the bits of the nets of its named ports alone.
use Rattle.std.proofs.Common.{◌≡◌, ℕ, zero, suc, ◌+◌, ◌≤◌, max, ◌&&◌, ◌||◌, Bool, true, false, cond, List, [], ◌∷◌, ◌++◌, drop, length, Option, Some, None, arith, ap, ap₂, refl, sym, subst, ◌∙◌, inl, inr}
use Rattle.std.specs.Prelude.{bytes_eq, find, is_some, option_and_then, option_map, slice_get}
use Rattle.std.specs.List.{cons_option, filter_map, list_any}
use Rattle.std.proofs.lemmas.Bool.{and_parts, or_left, or_right}
use Rattle.std.proofs.lemmas.List.{drop_all}
use Rattle.std.proofs.lemmas.List.Folds.{list_any-append}
use Rattle.std.proofs.lemmas.Option.{none-some, same_Some}
use Rattle.constraints.proofs.BreaksLaws.{at_place, names_same}
use Rattle.constraints.specs.Obliged.{is_asked, is_named_by, is_named_in, is_named_port, nets_named}
use Rattle.vrt_model.proofs.Lists.{among_filter_map, drop_one}
use Rattle.vrt_model.proofs.Members.{among_any, among_later, among_left, among_right, at_none, find_among}
use Rattle.vrt_model.specs.CellRules.{assumed, clock_of_port, is_for}
use Rattle.vrt_model.specs.Comparison.{cell_at}
use Rattle.vrt_model.specs.Expressions.{both, names_in, negated, value_by}
use Rattle.vrt_model.specs.Faults.{BreaksConstraint, port_bit}
use Rattle.vrt_model.specs.Lists.{Among, At, differ, has_name, place_of}
use Rattle.vrt_model.specs.Places.{greatest_rank, named_nets_from}
use Rattle.vrt_model.specs.Reading.{Partial}
use Rattle.vrt_model.specs.declared.circuit.FlatInstance.{FlatInstance}
use Rattle.vrt_model.specs.declared.design.Design.{Design}
use Rattle.vrt_model.specs.declared.ids.Net.{Net}
use Rattle.vrt_model.specs.declared.rules.AssumeRule.{AssumeRule}
use Rattle.vrt_model.specs.declared.rules.ClockRef.{ClockRef}
use Rattle.vrt_model.specs.declared.rules.ClockportRule.{ClockportRule}
use Rattle.vrt_model.specs.declared.rules.Expr.{Expr}
use Rattle.vrt_model.specs.declared.rules.Expr.TheVariants.{Port, Not', And', Xor', Or'}
use Rattle.vrt_model.specs.declared.rules.Rules.{Rules}

-- the net at the place of a named port is among those of the named ports
named_there : (named : List ℕ → Bool) (names : List (List ℕ)) (nets : List Net) (at : ℕ) (name : List ℕ) (net : Net)
    → At names at name → At nets at net → named name ≡ true → Among (named_nets_from named names nets) net.0
named_there named [] nets at name net e f t = absurd (at_none at name e)
named_there named (x ∷ xs) [] at name net e f t = absurd (at_none at net f)
named_there named (x ∷ xs) (y ∷ ys) zero name net e f t =
    let is : named x ≡ true = subst (λ (z : List ℕ). named z ≡ true) (sym (same_Some x name e)) t in
    subst (λ (b : Bool). Among (cond b (y.0 ∷ named_nets_from named xs ys) (named_nets_from named xs ys)) net.0) (sym is) (zero, ap (λ (n : Net). Some n.0) (same_Some y net f))
named_there named (x ∷ xs) (y ∷ ys) (suc at) name net e f t = by_test (named x) (named_there named xs ys at name net e f t)
  where
    by_test : (b : Bool) → Among (named_nets_from named xs ys) net.0 → Among (cond b (y.0 ∷ named_nets_from named xs ys) (named_nets_from named xs ys)) net.0
    by_test true m = among_later y.0 (named_nets_from named xs ys) net.0 m
    by_test false m = m

-- the value of an expression depends on the bits of its names alone
value_same : (f g : List ℕ → Option Bool) (e : Expr) → ((name : List ℕ) → Among (names_in e) name → f name ≡ g name) → value_by f e ≡ value_by g e
value_same f g (Port name) same = same name (zero, refl)
value_same f g (Not' p e) same = ap negated (value_same f g e same)
value_same f g (And' p e q h) same =
    ap₂ (λ (x y : Option Bool). both ◌&&◌ x y) (value_same f g e (λ n m. same n (among_left (names_in e) (names_in h) n m))) (value_same f g h (λ n m. same n (among_right (names_in e) (names_in h) n m)))
value_same f g (Xor' p e q h) same =
    ap₂ (λ (x y : Option Bool). both differ x y) (value_same f g e (λ n m. same n (among_left (names_in e) (names_in h) n m))) (value_same f g h (λ n m. same n (among_right (names_in e) (names_in h) n m)))
value_same f g (Or' p e q h) same =
    ap₂ (λ (x y : Option Bool). both ◌||◌ x y) (value_same f g e (λ n m. same n (among_left (names_in e) (names_in h) n m))) (value_same f g h (λ n m. same n (among_right (names_in e) (names_in h) n m)))

module _ (design : Design) (rules : Rules) (phase : ℕ) (i : FlatInstance) (a b : Partial) (same : (n : ℕ) → Among (nets_named design rules phase i) n → a n ≡ b n) where
  abbrev ports : List (List ℕ)
  ports = (cell_at design i.cell).ports

  abbrev bit_in : Partial → Option Net → Option Bool
  bit_in x o = option_and_then (λ (net : Net). x net.0) o

  abbrev net_in : Option ℕ → Option Net
  net_in o = option_and_then (λ (at : ℕ). slice_get i.ports at) o

  port_same : (name : List ℕ) → is_named_port design rules phase i name ≡ true → port_bit design a i name ≡ port_bit design b i name
  port_same name named = by_place (place_of ports name) refl
    where
      by_net : (at : ℕ) → place_of ports name ≡ Some at → (o : Option Net) → slice_get i.ports at ≡ o → bit_in a o ≡ bit_in b o
      by_net at e None f = refl
      by_net at e (Some net) f = same net.0 (named_there (is_named_port design rules phase i) ports i.ports at name net (at_place ports name at e).1 f named)

      by_place : (o : Option ℕ) → place_of ports name ≡ o → bit_in a (net_in o) ≡ bit_in b (net_in o)
      by_place None e = refl
      by_place (Some at) e = by_net at e (slice_get i.ports at) refl

  name_in : (e : Expr) → Among (assumed rules (cell_at design i.cell).name phase) e → (name : List ℕ) → Among (names_in e) name → is_named_port design rules phase i name ≡ true
  name_in e m name n =
      or_left (list_any (λ (x : Expr). has_name (names_in x) name) (assumed rules (cell_at design i.cell).name phase)) (is_some (clock_of_port rules (cell_at design i.cell).name name))
      (among_any (λ (x : Expr). has_name (names_in x) name) (assumed rules (cell_at design i.cell).name phase) e m
      (among_any (bytes_eq name) (names_in e) name n (names_same name name refl)))

  pub breaks_same : BreaksConstraint design rules phase a i → BreaksConstraint design rules phase b i
  breaks_same (inl h) =
      inl (h.0, h.1, sym (value_same (port_bit design a i) (port_bit design b i) h.0 (λ name m. port_same name (name_in h.0 h.1 name m))) ∙ h.2)
  breaks_same (inr h) =
      let named : is_named_port design rules phase i h.1 ≡ true =
      or_right (list_any (λ (x : Expr). has_name (names_in x) h.1) (assumed rules (cell_at design i.cell).name phase)) (is_some (clock_of_port rules (cell_at design i.cell).name h.1)) (ap is_some h.6) in
      inr (h.0, h.1, h.2, h.3, h.4, h.5, h.6, sym (same h.2.0 (named_there (is_named_port design rules phase i) ports i.ports h.0 h.1 h.2 h.4 h.5 named)) ∙ h.7)

-- ---- the tests of the code

or_false : (b : Bool) → (b || false) ≡ b
or_false true = refl
or_false false = refl

pub one_named : (port name : List ℕ) (b : Bool) → b ≡ bytes_eq name port → b ≡ has_name (port ∷ []) name
one_named port name b e = e ∙ sym (or_false (bytes_eq name port))

pub two_named : (xs ys : List (List ℕ)) (name : List ℕ) (a b : Bool) → a ≡ has_name xs name → b ≡ has_name ys name → (a || b) ≡ has_name (xs ++ ys) name
two_named xs ys name a b e f = ap₂ (λ (x y : Bool). x || y) e f ∙ sym (list_any-append (bytes_eq name) xs ys)

-- that some line names a port is a test on the lines
lines_name : (cell : List ℕ) (phase : ℕ) (name : List ℕ) (rules : List AssumeRule)
    → list_any (λ (e : Expr). has_name (names_in e) name) (filter_map (λ (r : AssumeRule). cond (bytes_eq r.cell cell && is_for r.phase phase) (Some r.expression) None) rules)
    ≡ list_any (is_named_by cell phase name) rules
lines_name cell phase name [] = refl
lines_name cell phase name (r ∷ rules) = by_test (is_asked cell phase r) (lines_name cell phase name rules)
  where
    by_test : (b : Bool)
        → list_any (λ (e : Expr). has_name (names_in e) name) (filter_map (λ (x : AssumeRule). cond (bytes_eq x.cell cell && is_for x.phase phase) (Some x.expression) None) rules)
        ≡ list_any (is_named_by cell phase name) rules
        → list_any (λ (e : Expr). has_name (names_in e) name)
        (cons_option (cond b (Some r.expression) None) (filter_map (λ (x : AssumeRule). cond (bytes_eq x.cell cell && is_for x.phase phase) (Some x.expression) None) rules))
        ≡ ((b && has_name (names_in r.expression) name) || list_any (is_named_by cell phase name) rules)
    by_test true rest = ap (λ (x : Bool). has_name (names_in r.expression) name || x) rest
    by_test false rest = rest

found_any : {X Y : Type 0} (p : X → Bool) (f : X → Y) (xs : List X) → is_some (option_map f (find p xs)) ≡ list_any p xs
found_any p f [] = refl
found_any p f (x ∷ xs) = by_test (p x) (found_any p f xs)
  where
    by_test : (b : Bool) → is_some (option_map f (find p xs)) ≡ list_any p xs → is_some (option_map f (cond b (Some x) (find p xs))) ≡ (b || list_any p xs)
    by_test true rest = refl
    by_test false rest = rest

pub named_is : (rules : Rules) (cell : List ℕ) (phase : ℕ) (name : List ℕ) (a b : Bool) → a ≡ list_any (is_named_by cell phase name) rules.assumes
    → b ≡ list_any (λ (r : ClockportRule). bytes_eq r.cell cell && bytes_eq r.port name) rules.clockports → (a || b) ≡ is_named_in rules cell phase name
named_is rules cell phase name a b e f =
    ap₂ (λ (x y : Bool). x || y) (e ∙ sym (lines_name cell phase name rules.assumes))
    (f ∙ sym (found_any (λ (r : ClockportRule). bytes_eq r.cell cell && bytes_eq r.port name) (λ (r : ClockportRule). r.clock) rules.clockports))

-- ---- the greatest rank, port by port

pub rank_more : (named : List ℕ → Bool) (rank : ℕ → ℕ) (names : List (List ℕ)) (nets : List Net) (at : ℕ) (name : List ℕ) (net : Net) → At names at name → At nets at net
    → greatest_rank rank (named_nets_from named (drop at names) (drop at nets))
    ≡ max (cond (named name) (rank net.0) 0) (greatest_rank rank (named_nets_from named (drop (at + 1) names) (drop (at + 1) nets)))
rank_more named rank names nets at name net e f =
    ap₂ (λ (xs : List (List ℕ)) (ns : List Net). greatest_rank rank (named_nets_from named xs ns)) (drop_one names at name e) (drop_one nets at net f)
    ∙ by_test (named name)
  where
    by_test : (b : Bool) → greatest_rank rank (cond b (net.0 ∷ named_nets_from named (drop (at + 1) names) (drop (at + 1) nets)) (named_nets_from named (drop (at + 1) names) (drop (at + 1) nets)))
        ≡ max (cond b (rank net.0) 0) (greatest_rank rank (named_nets_from named (drop (at + 1) names) (drop (at + 1) nets)))
    by_test true = refl
    by_test false = omega arith

pub rank_end : (named : List ℕ → Bool) (rank : ℕ → ℕ) (names : List (List ℕ)) (nets : List Net) (at : ℕ) → length names ≤ at → greatest_rank rank (named_nets_from named (drop at names) (drop at nets)) ≡ 0
rank_end named rank names nets at le = ap (λ (xs : List (List ℕ)). greatest_rank rank (named_nets_from named xs (drop at nets))) (drop_all at names le)

-- a net of a named port is one of a port
pub named_among : (named : List ℕ → Bool) (names : List (List ℕ)) (nets : List Net) (n : ℕ) → Among (named_nets_from named names nets) n → (net : Net) × Among nets net × (net.0 ≡ n)
named_among named [] nets n m = absurd (at_none m.0 n m.1)
named_among named (x ∷ xs) [] n m = absurd (at_none m.0 n m.1)
named_among named (x ∷ xs) (y ∷ ys) n m = by_test (λ rest. named_among named xs ys n rest) (named x) m
  where
    IsFrom : Type 0
    IsFrom = Among (named_nets_from named xs ys) n → (net : Net) × Among ys net × (net.0 ≡ n)

    later : IsFrom → Among (named_nets_from named xs ys) n → (net : Net) × Among (y ∷ ys) net × (net.0 ≡ n)
    later inner rest = (let from = inner rest in (from.0, among_later y ys from.0 from.1, from.2))

    by_test : IsFrom → (b : Bool) → Among (cond b (y.0 ∷ named_nets_from named xs ys) (named_nets_from named xs ys)) n → (net : Net) × Among (y ∷ ys) net × (net.0 ≡ n)
    by_test inner true (zero, e) = (y, (zero, refl), same_Some y.0 n e)
    by_test inner true (suc i, e) = later inner (i, e)
    by_test inner false rest = later inner rest

-- a constraint in a phase is of a line
pub assumed_line : (rules : Rules) (cell : List ℕ) (phase : ℕ) (e : Expr) → Among (assumed rules cell phase) e → list_any (is_asked cell phase) rules.assumes ≡ true
assumed_line rules cell phase e m =
    let from = among_filter_map (λ (r : AssumeRule). cond (bytes_eq r.cell cell && is_for r.phase phase) (Some r.expression) None) rules.assumes e m in
    among_any (is_asked cell phase) rules.assumes from.0 from.1 (by_test (is_asked cell phase from.0) from.0.expression from.2)
  where
    by_test : (b : Bool) (x : Expr) → cond b (Some x) None ≡ Some e → b ≡ true
    by_test true x q = refl
    by_test false x q = absurd (none-some e q)

pub clock_line : (rules : Rules) (cell name : List ℕ) (clock : ClockRef) → clock_of_port rules cell name ≡ Some clock → list_any (λ (r : ClockportRule). bytes_eq r.cell cell) rules.clockports ≡ true
clock_line rules cell name clock e = by_found (find (λ (r : ClockportRule). bytes_eq r.cell cell && bytes_eq r.port name) rules.clockports) refl e
  where
    by_found : (o : Option ClockportRule) → find (λ (r : ClockportRule). bytes_eq r.cell cell && bytes_eq r.port name) rules.clockports ≡ o → option_map (λ (r : ClockportRule). r.clock) o ≡ Some clock
        → list_any (λ (r : ClockportRule). bytes_eq r.cell cell) rules.clockports ≡ true
    by_found None q is = absurd (none-some clock is)
    by_found (Some r) q is =
        let found = find_among (λ (x : ClockportRule). bytes_eq x.cell cell && bytes_eq x.port name) rules.clockports r q in
        among_any (λ (x : ClockportRule). bytes_eq x.cell cell) rules.clockports r found.0 (and_parts (bytes_eq r.cell cell) (bytes_eq r.port name) found.1).0
