-- The names of modules stand among the tokens of their text, which are no fewer than their own signals.
use Rattle.std.proofs.Common.{◌≡◌, ◌≤◌, inl, inr, ℕ, zero, suc, ◌+◌, List, [], ◌∷◌, ◌++◌, map, flat_map, length, Option, Some, None, refl, ap, sym, subst, ◌∙◌, arith, append_assoc}
use Rattle.std.proofs.lemmas.Grind.{flat_map-append}
use Rattle.std.proofs.lemmas.List.{length-append, length-map, map-append}
use Rattle.std.proofs.lemmas.Option.{same_Some}
use Rattle.verilog_expression.specs.Grammar.{Formula, Spells}
use Rattle.verilog_expression.specs.Grammar.Formula.{a_net, a_constant, negation, conjunction, parity, disjunction, choice}
use Rattle.verilog_expression.specs.Grammar.Spells.{a_name, a_bit, in_parentheses, a_not, an_and, a_xor, an_or, a_choice, tighter}
use Rattle.verilog_meaning.specs.Nets.{nets_of}
use Rattle.verilog_meaning.proofs.Names.{entry_names, tie_names}
use Rattle.verilog_models.specs.Covers.{all_own, own, own_inside}
use Rattle.verilog_models.specs.Gates.{actual_own, actual_value, gate_own, links, ties_own}
use Rattle.verilog_models.specs.Models.{entry_own, own_in}
use Rattle.verilog_source.specs.Grammar.{ArePorts, IsAssign, IsBody, IsFormula, IsGate, IsInstance, IsName, IsPort, IsPortList, IsSource, IsStatement, IsTerminals, IsTie, Lists, actual_sign, closing, direction_sign, name, named, opening, port_entries, signs}
use Rattle.verilog_source.specs.Grammar.ArePorts.{last_port, more_ports}
use Rattle.verilog_source.specs.Grammar.IsAssign.{an_assign}
use Rattle.verilog_source.specs.Grammar.IsBody.{ends, goes_on}
use Rattle.verilog_source.specs.Grammar.IsFormula.{spelled}
use Rattle.verilog_source.specs.Grammar.IsGate.{a_gate}
use Rattle.verilog_source.specs.Grammar.IsInstance.{an_instance}
use Rattle.verilog_source.specs.Grammar.IsName.{a_name as one_name}
use Rattle.verilog_source.specs.Grammar.IsPort.{a_port, with_direction}
use Rattle.verilog_source.specs.Grammar.IsPortList.{no_ports, ports}
use Rattle.verilog_source.specs.Grammar.IsSource.{nothing, a_module}
use Rattle.verilog_source.specs.Grammar.IsStatement.{directions, wires, assigns, gates, instances}
use Rattle.verilog_source.specs.Grammar.IsTerminals.{inputs, input, output}
use Rattle.verilog_source.specs.Grammar.IsTie.{a_tie, no_tie}
use Rattle.verilog_source.specs.Grammar.Lists.{last, more}
use Rattle.verilog_source.specs.Modules.{Actual, Entry, Module, PortTie}
use Rattle.verilog_source.specs.Modules.Actual.{to_net, to_constant}
use Rattle.verilog_source.specs.Modules.Entry.{assigned, gate, instance}
use Rattle.verilog_source.specs.declared.position.Direction.{Direction}
use Rattle.verilog_tokens.specs.Signs.{Part, Sign, Token}
use Rattle.verilog_tokens.specs.Signs.Part.{Name, Bit, Tilde, Ampersand, Caret, Bar, Question, Colon, Opening, Closing}
use Rattle.verilog_tokens.specs.Signs.Sign.{Of, Comma, Semicolon, Dot, Equals, Module as ModuleSign, EndModule, Wire, Assign, Gate}
use Rattle.verilog_tokens.specs.declared.token.GateKind.{GateKind}
use Rattle.verilog_tokens.specs.declared.token.GateKind.TheVariants as G
use Rattle.vrt_model.specs.Lists.{Among}
use Rattle.vrt_model.proofs.Lists.{map_among}
use Rattle.vrt_model.proofs.Members.{among_either, among_later, among_left, among_right, at_none}

-- names stand among items, which are at least so many
pub record Yields {T : Type 0} (shown : List ℕ → T) (ts : List T) (names : List (List ℕ)) (count : ℕ) : Type 0 where
  pub there : (x : List ℕ) → Among names x → Among ts (shown x)
  pub long : count ≤ length ts

no_names : {T : Type 0} (shown : List ℕ → T) (ts : List T) → (x : List ℕ) → Among [] x → Among ts (shown x)
no_names shown ts x a = absurd (at_none a.0 x a.1)

one_there : {T : Type 0} (shown : List ℕ → T) (n : List ℕ) (ts : List T) → (x : List ℕ) → Among (n ∷ []) x → Among (shown n ∷ ts) (shown x)
one_there shown n ts x (zero, e) = (0, ap (λ y. Some (shown y)) (same_Some n x e))
one_there shown n ts x (suc i, e) = absurd (at_none i x e)

both_there : {T : Type 0} (shown : List ℕ → T) (xs ys : List T) (ns ms : List (List ℕ)) → ((x : List ℕ) → Among ns x → Among xs (shown x)) → ((x : List ℕ) → Among ms x → Among ys (shown x))
    → (x : List ℕ) → Among (ns ++ ms) x → Among (xs ++ ys) (shown x)
both_there shown xs ys ns ms p q x a = elim (among_either ns ms x a) [
  | inl l ↦ among_left xs ys (shown x) (p x l)
  | inr r ↦ among_right xs ys (shown x) (q x r)
]

-- ---- expressions

pub spells_yield : {k : ℕ} {ts : List Part} {f : Formula} → Spells k ts f → Yields Name ts (nets_of f) (own f)
spells_yield (a_name {n}) = record { there = one_there Name n []; long = omega arith }
spells_yield (a_bit {b}) = record { there = no_names Name (Bit b ∷ []); long = omega arith }
spells_yield (in_parentheses {ts} {f} s) =
    let h = spells_yield s in
    let e = length-append ts (Closing ∷ []) in record {
      there = λ x a. among_later Opening (ts ++ Closing ∷ []) (Name x) (among_left ts (Closing ∷ []) (Name x) (h.there x a));
      long = omega (arith, h.long, e);
    }
spells_yield (a_not {ts} {f} s) = let h = spells_yield s in record { there = λ x a. among_later Tilde ts (Name x) (h.there x a); long = omega (arith, h.long) }
spells_yield (an_and {xs} {ys} {f} {g} s t) =
    let p = spells_yield s in
    let q = spells_yield t in
    let e = length-append xs (Ampersand ∷ ys) in record {
      there = both_there Name xs (Ampersand ∷ ys) (nets_of f) (nets_of g) p.there (λ x a. among_later Ampersand ys (Name x) (q.there x a));
      long = omega (arith, p.long, q.long, e);
    }
spells_yield (a_xor {xs} {ys} {f} {g} s t) =
    let p = spells_yield s in
    let q = spells_yield t in
    let e = length-append xs (Caret ∷ ys) in record {
      there = both_there Name xs (Caret ∷ ys) (nets_of f) (nets_of g) p.there (λ x a. among_later Caret ys (Name x) (q.there x a));
      long = omega (arith, p.long, q.long, e);
    }
spells_yield (an_or {xs} {ys} {f} {g} s t) =
    let p = spells_yield s in
    let q = spells_yield t in
    let e = length-append xs (Bar ∷ ys) in record {
      there = both_there Name xs (Bar ∷ ys) (nets_of f) (nets_of g) p.there (λ x a. among_later Bar ys (Name x) (q.there x a));
      long = omega (arith, p.long, q.long, e);
    }
spells_yield (a_choice {cs} {xs} {ys} {c} {f} {g} r s t) =
    let o = spells_yield r in
    let p = spells_yield s in
    let q = spells_yield t in
    let later = length-append xs (Colon ∷ ys) in
    let e = length-append cs (Question ∷ (xs ++ Colon ∷ ys)) in record {
      there = λ x a. (
          let front = both_there Name cs (Question ∷ (xs ++ Colon ∷ ys)) (nets_of c) (nets_of f ++ nets_of g) o.there
          (λ y b. among_later Question (xs ++ Colon ∷ ys) (Name y) (both_there Name xs (Colon ∷ ys) (nets_of f) (nets_of g) p.there (λ z d. among_later Colon ys (Name z) (q.there z d)) y b)) in
          front x (subst (λ ns. Among ns x) (append_assoc (nets_of c) (nets_of f) (nets_of g)) a));
      long = omega (arith, o.long, p.long, q.long, e, later);
    }
spells_yield (tighter s) = spells_yield s

pub formula_yields : {ss : List Sign} {f : Formula} → IsFormula ss f → Yields name ss (nets_of f) (own f)
formula_yields (spelled {ps} {f} s) =
    let h = spells_yield s in
    let e = length-map ps Of in record { there = λ x a. map_among Of ps (Name x) (h.there x a); long = omega (arith, h.long, e) }

inside_less : (f : Formula) → own_inside f ≤ own f
inside_less (a_net x) = omega arith
inside_less (a_constant b) = omega arith
inside_less (negation f) = omega arith
inside_less (conjunction f g) = omega arith
inside_less (parity f g) = omega arith
inside_less (disjunction f g) = omega arith
inside_less (choice c f g) = omega arith

-- ---- lists

-- items of a form with what each yields, and a sign behind each
lists_yield : {X : Type 0} {Form : List Sign → X → Type 0} {end : Sign} (names : X → List (List ℕ)) (count : X → ℕ) (whole : List X → ℕ) → whole [] ≡ 0
    → ((x : X) (xs : List X) → whole (x ∷ xs) ≡ count x + whole xs) → ((ss : List Sign) (x : X) → Form ss x → Yields name ss (names x) (count x)) → {ss : List Sign} {xs : List X} → Lists Form end ss xs
    → Yields name ss (flat_map names xs) (whole xs + length xs)
lists_yield {end} names count whole none step each (last {ss} {x} h) =
    let p = each ss x h in
    let e = length-append ss (end ∷ []) in record {
      there = both_there name ss (end ∷ []) (names x) [] p.there (no_names name (end ∷ []));
      long = (let w = step x [] in omega (arith, p.long, e, w, none));
    }
lists_yield {end} names count whole none step each (more {ss} {ts} {x} {xs} h hs) =
    let p = each ss x h in
    let q = lists_yield names count whole none step each hs in
    let e = length-append ss (Comma ∷ ts) in record {
      there = both_there name ss (Comma ∷ ts) (names x) (flat_map names xs) p.there (λ y a. among_later Comma ts (name y) (q.there y a));
      long = (let w = step x xs in omega (arith, p.long, q.long, e, w));
    }

-- ---- gates

few_links : (kind : GateKind) (n : ℕ) → links kind n ≤ n
few_links G.And n = omega arith
few_links G.Nand n = omega arith
few_links G.Or n = omega arith
few_links G.Nor n = omega arith
few_links G.Xor n = omega arith
few_links G.Xnor n = omega arith
few_links G.Buf n = omega arith
few_links G.Not n = omega arith

no_link : (kind : GateKind) → links kind 1 ≡ 0
no_link G.And = refl
no_link G.Nand = refl
no_link G.Or = refl
no_link G.Nor = refl
no_link G.Xor = omega arith
no_link G.Xnor = omega arith
no_link G.Buf = refl
no_link G.Not = refl

terminals_yield : {kind : GateKind} {ss : List Sign} {os : List (List ℕ)} {fs : List Formula} → IsTerminals kind ss os fs → Yields name ss (os ++ flat_map nets_of fs) (gate_own kind fs)
terminals_yield {kind} (inputs {ss} {fs} e l) =
    let h = lists_yield nets_of own all_own refl (λ x xs. refl) (λ ss x f. formula_yields f) l in
    let few = few_links kind (length fs) in record { there = h.there; long = omega (arith, h.long, few) }
terminals_yield {kind} (input {ss} {f} e s) =
    let h = formula_yields s in
    let long = length-append ss (closing ∷ []) in
    let none = no_link kind in record {
      there = both_there name ss (closing ∷ []) (nets_of f) [] h.there (no_names name (closing ∷ []));
      long = omega (arith, h.long, long, none);
    }
terminals_yield {kind} (output {o} {ss} {os} {fs} e t) =
    let h = terminals_yield t in record {
      there = both_there name (name o ∷ Comma ∷ []) ss (o ∷ []) (os ++ flat_map nets_of fs) (one_there name o (Comma ∷ [])) h.there;
      long = omega (arith, h.long);
    }

gate_yields : (line : ℕ) (kind : GateKind) (ss : List Sign) (x : List (List ℕ) × List Formula) → IsGate kind ss x → Yields name ss (entry_names (gate line kind x.0 x.1)) (entry_own (gate line kind x.0 x.1))
gate_yields line kind _ _ (a_gate {ls} {ss} {o} {os} {fs} l t) =
    let h = terminals_yield t in
    let e = length-append ls (opening ∷ name o ∷ Comma ∷ ss) in
    let inner = both_there name (opening ∷ name o ∷ Comma ∷ []) ss (o ∷ []) (os ++ flat_map nets_of fs) (λ x a. among_later opening (name o ∷ Comma ∷ []) (name x) (one_there name o (Comma ∷ []) x a)) h.there in record {
      there = λ x a. among_right ls (opening ∷ name o ∷ Comma ∷ ss) (name x) (inner x a);
      long = omega (arith, h.long, e);
    }

-- ---- instances

actual_there : (a : Actual) (ss : List Sign) → (x : List ℕ) → Among (nets_of (actual_value a)) x → Among (actual_sign a ∷ ss) (name x)
actual_there (to_net n) ss = one_there name n ss
actual_there (to_constant b) ss = no_names name (Of (Bit b) ∷ ss)

actual_few : (a : Actual) → own (actual_value a) ≤ 1
actual_few (to_net n) = omega arith
actual_few (to_constant b) = omega arith

tie_yields : (ss : List Sign) (t : PortTie) → IsTie ss t → Yields name ss (tie_names t) (actual_own t.actual)
tie_yields _ _ (a_tie {p} {a}) = record {
  there =
      both_there name (Dot ∷ name p ∷ opening ∷ []) (actual_sign a ∷ closing ∷ []) (p ∷ []) (nets_of (actual_value a))
      (λ x b. among_later Dot (name p ∷ opening ∷ []) (name x) (one_there name p (opening ∷ []) x b)) (actual_there a (closing ∷ []));
  long = (let few = actual_few a in omega (arith, few));
}
tie_yields _ _ (no_tie {p}) = record { there = λ x b. among_later Dot (name p ∷ opening ∷ closing ∷ []) (name x) (one_there name p (opening ∷ closing ∷ []) x b); long = omega arith }

instance_yields : (line : ℕ) (m : List ℕ) (ss : List Sign) (ts : List PortTie) → IsInstance ss ts → Yields name ss (entry_names (instance line m ts)) (entry_own (instance line m ts))
instance_yields line m _ _ (an_instance {n} {ss} {ts} l) =
    let h = lists_yield tie_names (λ (t : PortTie). actual_own t.actual) ties_own refl (λ x xs. refl) tie_yields l in record {
      there = λ x a. among_later (name n) (opening ∷ ss) (name x) (among_later opening ss (name x) (h.there x a));
      long = omega (arith, h.long);
    }

-- ---- statements

abbrev all_names : List Entry → List (List ℕ)
all_names es = flat_map entry_names es

own_map : {X : Type 0} (f : X → Entry) (xs : List X) → all_names (map f xs) ≡ flat_map (λ x. entry_names (f x)) xs
own_map f [] = refl
own_map f (x ∷ xs) = ap (λ ns. entry_names (f x) ++ ns) (own_map f xs)

-- a statement of items, each of which is an entry
items_yield : {X : Type 0} {Form : List Sign → X → Type 0} {end : Sign} (f : X → Entry) → ((ss : List Sign) (x : X) → Form ss x → Yields name ss (entry_names (f x)) (entry_own (f x))) → {ss : List Sign} {xs : List X}
    → Lists Form end ss xs → Yields name ss (all_names (map f xs)) (own_in (map f xs))
items_yield f each {ss} {xs} l =
    let h = lists_yield (λ x. entry_names (f x)) (λ x. entry_own (f x)) (λ xs. own_in (map f xs)) refl (λ x xs. refl) each l in record {
      there = λ x a. h.there x (subst (λ ns. Among ns x) (own_map f xs) a);
      long = (let few = h.long in omega (arith, few));
    }

assign_yields : (line : ℕ) (ss : List Sign) (x : List ℕ × Formula) → IsAssign ss x → Yields name ss (entry_names (assigned line x.0 x.1)) (entry_own (assigned line x.0 x.1))
assign_yields line _ _ (an_assign {n} {ss} {f} s) =
    let h = formula_yields s in
    let less = inside_less f in record {
      there = both_there name (name n ∷ Equals ∷ []) ss (n ∷ []) (nets_of f) (one_there name n (Equals ∷ [])) h.there;
      long = omega (arith, h.long, less);
    }

-- the entry of a name
named_names : (line : ℕ) (d : Option Direction) (n x : List ℕ) → Among (all_names (named line d n)) x → Among (n ∷ []) x
named_names line None n x a = absurd (at_none a.0 x a.1)
named_names line (Some d) n x a = a

named_own : (line : ℕ) (d : Option Direction) (n : List ℕ) → own_in (named line d n) ≡ 0
named_own line None n = refl
named_own line (Some d) n = refl

own_join : (es fs : List Entry) → own_in (es ++ fs) ≡ own_in es + own_in fs
own_join [] fs = omega arith
own_join (e ∷ es) fs = let h = own_join es fs in omega (arith, h)

name_yields : (line : ℕ) (d : Option Direction) (ss : List Sign) (n : List ℕ) → IsName ss n → Yields name ss (all_names (named line d n)) (own_in (named line d n))
name_yields line d _ _ (one_name {n}) = record { there = λ x a. one_there name n [] x (named_names line d n x a); long = (let none = named_own line d n in omega (arith, none)) }

names_flat : (line : ℕ) (d : Option Direction) (ns : List (List ℕ)) → all_names (flat_map (named line d) ns) ≡ flat_map (λ n. all_names (named line d n)) ns
names_flat line d [] = refl
names_flat line d (n ∷ ns) = flat_map-append entry_names (named line d n) (flat_map (named line d) ns) ∙ ap (λ xs. all_names (named line d n) ++ xs) (names_flat line d ns)

names_yield : (line : ℕ) (d : Option Direction) {ss : List Sign} {ns : List (List ℕ)} → Lists IsName Semicolon ss ns → Yields name ss (all_names (flat_map (named line d) ns)) (own_in (flat_map (named line d) ns))
names_yield line d {ss} {ns} l =
    let h = lists_yield (λ n. all_names (named line d n)) (λ n. own_in (named line d n)) (λ xs. own_in (flat_map (named line d) xs)) refl (λ x xs. own_join (named line d x) (flat_map (named line d) xs)) (name_yields line d) l in record {
      there = λ x a. h.there x (subst (λ xs. Among xs x) (names_flat line d ns) a);
      long = omega (arith, h.long);
    }

later_yields : {ns : List (List ℕ)} {k : ℕ} (s : Sign) (ss : List Sign) → Yields name ss ns k → Yields name (s ∷ ss) ns k
later_yields s ss h = record { there = λ x a. among_later s ss (name x) (h.there x a); long = omega (arith, h.long) }

behind_yields : {ns : List (List ℕ)} {k : ℕ} (ws ss : List Sign) → Yields name ss ns k → Yields name (ws ++ ss) ns k
behind_yields ws ss h = let e = length-append ws ss in record { there = λ x a. among_right ws ss (name x) (h.there x a); long = omega (arith, h.long, e) }

statement_yields : {line : ℕ} {ss : List Sign} {es : List Entry} → IsStatement line ss es → Yields name ss (all_names es) (own_in es)
statement_yields {line} (directions d {ws} {ss} {ns} w l) = later_yields (direction_sign d) (ws ++ ss) (behind_yields ws ss (names_yield line (Some d) l))
statement_yields {line} (wires {ss} {ns} l) = later_yields Wire ss (names_yield line None l)
statement_yields {line} (assigns {ss} {xs} l) = later_yields Assign ss (items_yield (λ (x : List ℕ × Formula). assigned line x.0 x.1) (assign_yields line) l)
statement_yields {line} (gates {kind} {ss} {xs} l) = later_yields (Gate kind) ss (items_yield (λ (x : List (List ℕ) × List Formula). gate line kind x.0 x.1) (gate_yields line kind) l)
statement_yields {line} (instances {m} {ss} {xs} l) = later_yields (name m) ss (items_yield (instance line m) (instance_yields line m) l)

-- ---- modules

joined_yields : (xs ys : List Sign) (es fs : List Entry) → Yields name xs (all_names es) (own_in es) → Yields name ys (all_names fs) (own_in fs) → Yields name (xs ++ ys) (all_names (es ++ fs)) (own_in (es ++ fs))
joined_yields xs ys es fs p q =
    let long = length-append xs ys in
    let sum = own_join es fs in record {
      there = λ x a. both_there name xs ys (all_names es) (all_names fs) p.there q.there x (subst (λ ns. Among ns x) (flat_map-append entry_names es fs) a);
      long = omega (arith, p.long, q.long, long, sum);
    }

port_shown : (n x : List ℕ) → Among (n ∷ n ∷ []) x → Among (name n ∷ []) (name x)
port_shown n x (zero, e) = (0, ap (λ y. Some (name y)) (same_Some n x e))
port_shown n x (suc i, e) = one_there name n [] x (i, e)

entries_shown : (line : ℕ) (d : Option Direction) (n x : List ℕ) → Among (all_names (port_entries line d n)) x → Among (n ∷ n ∷ []) x
entries_shown line None n x (zero, e) = (0, e)
entries_shown line None n x (suc i, e) = absurd (at_none i x e)
entries_shown line (Some d) n x a = a

port_own : (line : ℕ) (d : Option Direction) (n : List ℕ) → own_in (port_entries line d n) ≡ 0
port_own line None n = omega arith
port_own line (Some d) n = omega arith

port_yields : (line : ℕ) {d e : Option Direction} {ss : List Sign} {n : List ℕ} → IsPort d ss n e → Yields name ss (all_names (port_entries line e n)) (own_in (port_entries line e n))
port_yields line (a_port {d} {n}) = record { there = λ x a. port_shown n x (entries_shown line d n x a); long = (let none = port_own line d n in omega (arith, none)) }
port_yields line (with_direction {d} {e} {ws} {n} w) = record {
  there = λ x a. among_later (direction_sign e) (ws ++ name n ∷ []) (name x) (among_right ws (name n ∷ []) (name x) (port_shown n x (entries_shown line (Some e) n x a)));
  long = (let none = port_own line (Some e) n in omega (arith, none));
}

front_yields : {ns : List (List ℕ)} {k : ℕ} (ss ws : List Sign) → Yields name ss ns k → Yields name (ss ++ ws) ns k
front_yields ss ws h = let e = length-append ss ws in record { there = λ x a. among_left ss ws (name x) (h.there x a); long = omega (arith, h.long, e) }

ports_yield : {line : ℕ} {d : Option Direction} {ss : List Sign} {es : List Entry} → ArePorts line d ss es → Yields name ss (all_names es) (own_in es)
ports_yield {line} (last_port {d} {e} {ss} {n} p) = front_yields ss (closing ∷ Semicolon ∷ []) (port_yields line p)
ports_yield {line} (more_ports {d} {e} {ss} {ts} {n} {es} p ps) = joined_yields ss (Comma ∷ ts) (port_entries line e n) es (port_yields line p) (later_yields Comma ts (ports_yield ps))

list_yields : {line : ℕ} {ss : List Sign} {es : List Entry} → IsPortList line ss es → Yields name ss (all_names es) (own_in es)
list_yields no_ports = record { there = no_names name (Semicolon ∷ []); long = omega arith }
list_yields (ports {ss} {es} p) = later_yields opening ss (ports_yield p)

signs_join : (ts us : List Token) → signs (ts ++ us) ≡ signs ts ++ signs us
signs_join ts us = map-append (λ (t : Token). t.sign) ts us

body_yields : {ts : List Token} {es : List Entry} → IsBody ts es → Yields name (signs ts) (all_names es) (own_in es)
body_yields (ends {line}) = record { there = no_names name (EndModule ∷ []); long = omega arith }
body_yields (goes_on t ts {rest} {es} {fs} s b) =
    subst (λ ss. Yields name ss (all_names (es ++ fs)) (own_in (es ++ fs))) (sym (signs_join (t ∷ ts) rest)) (joined_yields (signs (t ∷ ts)) (signs rest) es fs (statement_yields s) (body_yields b))

-- each module of a text
pub source_yields : {ts : List Token} {ms : List Module} → IsSource ts ms → (m : Module) → Among ms m → Yields name (signs ts) (flat_map entry_names m.entries) (own_in m.entries)
source_yields nothing m a = absurd (at_none a.0 m a.1)
source_yields (a_module {line} {named_on} {n} ts {body} {rest} {es} {fs} {ms} p b later) m (zero, e) =
    let whole : Yields name (signs (ts ++ body)) (all_names (es ++ fs)) (own_in (es ++ fs))
    = subst (λ ss. Yields name ss (all_names (es ++ fs)) (own_in (es ++ fs))) (sym (signs_join ts body)) (joined_yields (signs ts) (signs body) es fs (list_yields p) (body_yields b)) in
    let all : Yields name (signs ((ts ++ body) ++ rest)) (all_names (es ++ fs)) (own_in (es ++ fs))
    = subst (λ ss. Yields name ss (all_names (es ++ fs)) (own_in (es ++ fs))) (sym (signs_join (ts ++ body) rest)) (front_yields (signs (ts ++ body)) (signs rest) whole) in
    let put : Yields name (signs (ts ++ (body ++ rest))) (all_names (es ++ fs)) (own_in (es ++ fs))
    = subst (λ us. Yields name (signs us) (all_names (es ++ fs)) (own_in (es ++ fs))) (append_assoc ts body rest) all in
    subst (λ (x : Module). Yields name (ModuleSign ∷ name n ∷ signs (ts ++ (body ++ rest))) (all_names x.entries) (own_in x.entries)) (same_Some (record { line = line; name = n; entries = es ++ fs }) m e)
    (later_yields ModuleSign (name n ∷ signs (ts ++ (body ++ rest))) (later_yields (name n) (signs (ts ++ (body ++ rest))) put))
source_yields (a_module {line} {named_on} {n} ts {body} {rest} {es} {fs} {ms} p b later) m (suc i, e) =
    let h = source_yields later m (i, e) in
    let in_rest : Yields name (signs (ts ++ (body ++ rest))) (flat_map entry_names m.entries) (own_in m.entries)
    = subst (λ ss. Yields name ss (all_names m.entries) (own_in m.entries)) (sym (signs_join ts (body ++ rest) ∙ ap (λ ss. signs ts ++ ss) (signs_join body rest)))
    (behind_yields (signs ts) (signs body ++ signs rest) (behind_yields (signs body) (signs rest) h)) in
    later_yields ModuleSign (name n ∷ signs (ts ++ (body ++ rest))) (later_yields (name n) (signs (ts ++ (body ++ rest))) in_rest)
