-- The nets of a module are signals of its model.
use Rattle.std.proofs.Common.{◌≡◌, ◌≤◌, ◌⊎◌, inl, inr, ℕ, zero, suc, ◌+◌, Bool, true, false, List, [], ◌∷◌, ◌++◌, map, flat_map, length, All, Option, Some, None, refl, ap, sym, subst, ◌∙◌}
use Rattle.std.proofs.lemmas.List.{map-append}
use Rattle.std.proofs.lemmas.List.Elements.{All-head, All-tail}
use Rattle.std.specs.Prelude.{bytes_eq}
use Rattle.std.proofs.lemmas.Option.{same_Some}
use Rattle.std.proofs.lemmas.Slice.Eq.{bytes_eq-Decides}
use Rattle.blif_flat.proofs.RangeLaws.{cover_named, input_named, output_named, tie_named}
use Rattle.names.proofs.NameLaws.{once_has_same}
use Rattle.verilog_expression.specs.Grammar.{Formula}
use Rattle.verilog_expression.specs.Grammar.Formula.{a_net, a_constant, negation, conjunction, parity, disjunction, choice}
use Rattle.verilog_meaning.specs.Nets.{actual_nets, entry_nets, nets_in, nets_of, ties_nets}
use Rattle.verilog_meaning.proofs.Names.{entry_names, tie_names}
use Rattle.verilog_meaning.specs.Terminals.{HasTerminals, IsWhole}
use Rattle.verilog_meaning.proofs.GateLaws.{none_there}
use Rattle.verilog_models.specs.Covers.{all_covers, all_own, all_signals, assigned_covers, cover_of, inputs_of, operand_covers, outer_cover, own, own_name, signal_of, value_covers}
use Rattle.verilog_models.specs.Gates.{actual_own, chain, gate_covers, output_covers, sub_of, tie_of, ties_of}
use Rattle.verilog_models.specs.Models.{covers_in, entry_covers, entry_own, entry_subs, given_in, is_of, listed_name, model_of, ports_by, ports_in, subs_in}
use Rattle.verilog_models.specs.declared.functions.Function.TheVariants as F
use Rattle.verilog_source.specs.Modules.{Actual, Entry, Module, PortTie}
use Rattle.verilog_source.specs.Modules.Actual.{to_net, to_constant}
use Rattle.verilog_source.specs.Modules.Entry.{listed, directed, assigned, gate, instance}
use Rattle.verilog_source.specs.declared.position.Direction.{Direction}
use Rattle.verilog_source.specs.declared.position.Direction.TheVariants.{Inputs, Outputs}
use Rattle.verilog_tokens.specs.declared.token.GateKind.{GateKind}
use Rattle.verilog_tokens.specs.declared.token.GateKind.TheVariants as G
use Rattle.vrt_model.specs.FlatBlif.{cover_signals, signals_of, sub_signals}
use Rattle.vrt_model.specs.Lists.{Among, has_name}
use Rattle.vrt_model.specs.declared.blif.CoverLine.{CoverLine}
use Rattle.vrt_model.specs.declared.blif.SubLine.{SubLine}
use Rattle.vrt_model.specs.declared.blif.Tie.{Tie}
use Rattle.vrt_model.proofs.Members.{among_any, among_either, among_filter, among_flat_map, among_later, among_left, among_right, any_among, at_none, flat_map_among}

-- a cover among these mentions a name
pub record Mentions (covers : List CoverLine) (x : List ℕ) : Type 0 where
  pub cover : CoverLine
  pub there : Among covers cover
  pub named : Among (cover_signals cover) x

in_left : (xs ys : List CoverLine) (x : List ℕ) → Mentions xs x → Mentions (xs ++ ys) x
in_left xs ys x h = record { cover = h.cover; there = among_left xs ys h.cover h.there; named = h.named }

in_right : (xs ys : List CoverLine) (x : List ℕ) → Mentions ys x → Mentions (xs ++ ys) x
in_right xs ys x h = record { cover = h.cover; there = among_right xs ys h.cover h.there; named = h.named }

as_input : (c : CoverLine) (x : List ℕ) → Among c.inputs x → Mentions (c ∷ []) x
as_input c x a = record { cover = c; there = (0, refl); named = among_left c.inputs (c.output ∷ []) x a }

as_output : (c : CoverLine) → Mentions (c ∷ []) c.output
as_output c = record { cover = c; there = (0, refl); named = among_right c.inputs (c.output ∷ []) c.output (0, refl) }

-- ---- expressions

-- a net of an expression is its signal, or a cover of it mentions it
abbrev IsShown : ℕ → ℕ → Formula → List ℕ → Type 0
IsShown line n f x = (x ≡ signal_of n f) ⊎ Mentions (value_covers line n f) x

first_of_two : (x s t : List ℕ) → x ≡ s → Among (s ∷ t ∷ []) x
first_of_two x s t e = (0, ap Some (sym e))

second_of_two : (x s t : List ℕ) → x ≡ t → Among (s ∷ t ∷ []) x
second_of_two x s t e = (1, ap Some (sym e))

-- of two operands
pair_shown : (line n : ℕ) (f g : Formula) → ((x : List ℕ) → Among (nets_of f) x → IsShown line n f x) → ((x : List ℕ) → Among (nets_of g) x → IsShown line (n + own f) g x) → (x : List ℕ)
    → Among (nets_of f ++ nets_of g) x → Among (signal_of n f ∷ signal_of (n + own f) g ∷ []) x ⊎ Mentions (value_covers line n f ++ value_covers line (n + own f) g) x
pair_shown line n f g p q x a = by_side (among_either (nets_of f) (nets_of g) x a) where
  by_left : IsShown line n f x → Among (signal_of n f ∷ signal_of (n + own f) g ∷ []) x ⊎ Mentions (value_covers line n f ++ value_covers line (n + own f) g) x
  by_left (inl e) = inl (first_of_two x (signal_of n f) (signal_of (n + own f) g) e)
  by_left (inr h) = inr (in_left (value_covers line n f) (value_covers line (n + own f) g) x h)

  by_right : IsShown line (n + own f) g x → Among (signal_of n f ∷ signal_of (n + own f) g ∷ []) x ⊎ Mentions (value_covers line n f ++ value_covers line (n + own f) g) x
  by_right (inl e) = inl (second_of_two x (signal_of n f) (signal_of (n + own f) g) e)
  by_right (inr h) = inr (in_right (value_covers line n f) (value_covers line (n + own f) g) x h)

  by_side : Among (nets_of f) x ⊎ Among (nets_of g) x → Among (signal_of n f ∷ signal_of (n + own f) g ∷ []) x ⊎ Mentions (value_covers line n f ++ value_covers line (n + own f) g) x
  by_side (inl l) = by_left (p x l)
  by_side (inr r) = by_right (q x r)

-- with the cover of what is outermost, which reads the signals of the operands
with_outer : (xs : List CoverLine) (c : CoverLine) (x : List ℕ) → Among c.inputs x ⊎ Mentions xs x → Mentions (xs ++ c ∷ []) x
with_outer xs c x (inl a) = in_right xs (c ∷ []) x (as_input c x a)
with_outer xs c x (inr h) = in_left xs (c ∷ []) x h

one_shown : (line n : ℕ) (f : Formula) (x : List ℕ) → IsShown line n f x → Among (signal_of n f ∷ []) x ⊎ Mentions (value_covers line n f) x
one_shown line n f x (inl e) = inl (0, ap Some (sym e))
one_shown line n f x (inr h) = inr h

three_shown : (line n : ℕ) (c f g : Formula) → ((x : List ℕ) → Among (nets_of c) x → IsShown line n c x) → ((x : List ℕ) → Among (nets_of f) x → IsShown line (n + own c) f x)
    → ((x : List ℕ) → Among (nets_of g) x → IsShown line (n + own c + own f) g x) → (x : List ℕ) → Among (nets_of c ++ nets_of f ++ nets_of g) x
    → Among (signal_of n c ∷ signal_of (n + own c) f ∷ signal_of (n + own c + own f) g ∷ []) x ⊎ Mentions (value_covers line n c ++ value_covers line (n + own c) f ++ value_covers line (n + own c + own f) g) x
three_shown line n c f g o p q x a = by_side (among_either (nets_of c ++ nets_of f) (nets_of g) x a) where
  by_front : Among (signal_of n c ∷ signal_of (n + own c) f ∷ []) x ⊎ Mentions (value_covers line n c ++ value_covers line (n + own c) f) x
      → Among (signal_of n c ∷ signal_of (n + own c) f ∷ signal_of (n + own c + own f) g ∷ []) x ⊎ Mentions (value_covers line n c ++ value_covers line (n + own c) f ++ value_covers line (n + own c + own f) g) x
  by_front (inl b) = inl (among_left (signal_of n c ∷ signal_of (n + own c) f ∷ []) (signal_of (n + own c + own f) g ∷ []) x b)
  by_front (inr h) = inr (in_left (value_covers line n c ++ value_covers line (n + own c) f) (value_covers line (n + own c + own f) g) x h)

  by_last : IsShown line (n + own c + own f) g x
      → Among (signal_of n c ∷ signal_of (n + own c) f ∷ signal_of (n + own c + own f) g ∷ []) x ⊎ Mentions (value_covers line n c ++ value_covers line (n + own c) f ++ value_covers line (n + own c + own f) g) x
  by_last (inl e) = inl (2, ap Some (sym e))
  by_last (inr h) = inr (in_right (value_covers line n c ++ value_covers line (n + own c) f) (value_covers line (n + own c + own f) g) x h)

  by_side : Among (nets_of c ++ nets_of f) x ⊎ Among (nets_of g) x
      → Among (signal_of n c ∷ signal_of (n + own c) f ∷ signal_of (n + own c + own f) g ∷ []) x ⊎ Mentions (value_covers line n c ++ value_covers line (n + own c) f ++ value_covers line (n + own c + own f) g) x
  by_side (inl l) = by_front (pair_shown line n c f o p x l)
  by_side (inr r) = by_last (q x r)

value_shown : (line n : ℕ) (f : Formula) (x : List ℕ) → Among (nets_of f) x → IsShown line n f x
value_shown line n (a_net y) x (zero, e) = inl (sym (same_Some y x e))
value_shown line n (a_net y) x (suc i, e) = absurd (at_none i x e)
value_shown line n (a_constant b) x a = absurd (at_none a.0 x a.1)
value_shown line n (negation f) x a =
    inr (with_outer (value_covers line n f) (outer_cover line n (negation f) (signal_of n (negation f))) x (one_shown line n f x (value_shown line n f x a)))
value_shown line n (conjunction f g) x a =
    inr (with_outer (value_covers line n f ++ value_covers line (n + own f) g) (outer_cover line n (conjunction f g) (signal_of n (conjunction f g))) x
    (pair_shown line n f g (λ y b. value_shown line n f y b) (λ y b. value_shown line (n + own f) g y b) x a))
value_shown line n (parity f g) x a =
    inr (with_outer (value_covers line n f ++ value_covers line (n + own f) g) (outer_cover line n (parity f g) (signal_of n (parity f g))) x
    (pair_shown line n f g (λ y b. value_shown line n f y b) (λ y b. value_shown line (n + own f) g y b) x a))
value_shown line n (disjunction f g) x a =
    inr (with_outer (value_covers line n f ++ value_covers line (n + own f) g) (outer_cover line n (disjunction f g) (signal_of n (disjunction f g))) x
    (pair_shown line n f g (λ y b. value_shown line n f y b) (λ y b. value_shown line (n + own f) g y b) x a))
value_shown line n (choice c f g) x a =
    inr (with_outer (value_covers line n c ++ value_covers line (n + own c) f ++ value_covers line (n + own c + own f) g) (outer_cover line n (choice c f g) (signal_of n (choice c f g))) x
    (three_shown line n c f g (λ y b. value_shown line n c y b) (λ y b. value_shown line (n + own c) f y b) (λ y b. value_shown line (n + own c + own f) g y b) x a))

operands_shown : (line n : ℕ) (f : Formula) (x : List ℕ) → Among (nets_of f) x → Among (inputs_of n f) x ⊎ Mentions (operand_covers line n f) x
operands_shown line n (a_net y) x a = inl a
operands_shown line n (a_constant b) x a = absurd (at_none a.0 x a.1)
operands_shown line n (negation f) x a = one_shown line n f x (value_shown line n f x a)
operands_shown line n (conjunction f g) x a = pair_shown line n f g (value_shown line n f) (value_shown line (n + own f) g) x a
operands_shown line n (parity f g) x a = pair_shown line n f g (value_shown line n f) (value_shown line (n + own f) g) x a
operands_shown line n (disjunction f g) x a = pair_shown line n f g (value_shown line n f) (value_shown line (n + own f) g) x a
operands_shown line n (choice c f g) x a = three_shown line n c f g (value_shown line n c) (value_shown line (n + own c) f) (value_shown line (n + own c + own f) g) x a

assigned_mentions : (line n : ℕ) (net : List ℕ) (f : Formula) (x : List ℕ) → Among (net ∷ nets_of f) x → Mentions (assigned_covers line n net f) x
assigned_mentions line n net f x (zero, e) =
    subst (Mentions (assigned_covers line n net f)) (same_Some net x e) (in_right (operand_covers line n f) (outer_cover line n f net ∷ []) net (as_output (outer_cover line n f net)))
assigned_mentions line n net f x (suc i, e) = with_outer (operand_covers line n f) (outer_cover line n f net) x (operands_shown line n f x (i, e))

-- ---- gates

chain_reads : (line n : ℕ) (b : Bool) (left : List ℕ) (rest : List (List ℕ)) (output x : List ℕ) → Among (left ∷ rest) x → Mentions (chain line n b left rest output) x
chain_reads line n true left [] output x a = as_input (cover_of line F.Not (left ∷ []) output) x a
chain_reads line n false left [] output x a = as_input (cover_of line F.Same (left ∷ []) output) x a
chain_reads line n true left (right ∷ []) output x a = as_input (cover_of line F.Xnor (left ∷ right ∷ []) output) x a
chain_reads line n false left (right ∷ []) output x a = as_input (cover_of line F.Xor (left ∷ right ∷ []) output) x a
chain_reads line n b left (right ∷ next ∷ more) output x (zero, e) =
    in_left (cover_of line F.Xor (left ∷ right ∷ []) (own_name n) ∷ []) (chain line (n + 1) b (own_name n) (next ∷ more) output) x (as_input (cover_of line F.Xor (left ∷ right ∷ []) (own_name n)) x (0, e))
chain_reads line n b left (right ∷ next ∷ more) output x (suc zero, e) =
    in_left (cover_of line F.Xor (left ∷ right ∷ []) (own_name n) ∷ []) (chain line (n + 1) b (own_name n) (next ∷ more) output) x (as_input (cover_of line F.Xor (left ∷ right ∷ []) (own_name n)) x (1, e))
chain_reads line n b left (right ∷ next ∷ more) output x (suc (suc i), e) =
    in_right (cover_of line F.Xor (left ∷ right ∷ []) (own_name n) ∷ []) (chain line (n + 1) b (own_name n) (next ∷ more) output) x (chain_reads line (n + 1) b (own_name n) (next ∷ more) output x (suc i, e))

chain_drives : (line n : ℕ) (b : Bool) (left : List ℕ) (rest : List (List ℕ)) (output : List ℕ) → Mentions (chain line n b left rest output) output
chain_drives line n true left [] output = as_output (cover_of line F.Not (left ∷ []) output)
chain_drives line n false left [] output = as_output (cover_of line F.Same (left ∷ []) output)
chain_drives line n true left (right ∷ []) output = as_output (cover_of line F.Xnor (left ∷ right ∷ []) output)
chain_drives line n false left (right ∷ []) output = as_output (cover_of line F.Xor (left ∷ right ∷ []) output)
chain_drives line n b left (right ∷ next ∷ more) output =
    in_right (cover_of line F.Xor (left ∷ right ∷ []) (own_name n) ∷ []) (chain line (n + 1) b (own_name n) (next ∷ more) output) output (chain_drives line (n + 1) b (own_name n) (next ∷ more) output)

gate_reads : (line n : ℕ) (kind : GateKind) (inputs : List (List ℕ)) (output x : List ℕ) → Among inputs x → Mentions (output_covers line n kind inputs output) x
gate_reads line n G.And inputs output x a = as_input (cover_of line F.And inputs output) x a
gate_reads line n G.Nand inputs output x a = as_input (cover_of line F.Nand inputs output) x a
gate_reads line n G.Or inputs output x a = as_input (cover_of line F.Or inputs output) x a
gate_reads line n G.Nor inputs output x a = as_input (cover_of line F.Nor inputs output) x a
gate_reads line n G.Xor [] output x a = absurd (at_none a.0 x a.1)
gate_reads line n G.Xor (i ∷ is) output x a = chain_reads line n false i is output x a
gate_reads line n G.Xnor [] output x a = absurd (at_none a.0 x a.1)
gate_reads line n G.Xnor (i ∷ is) output x a = chain_reads line n true i is output x a
gate_reads line n G.Buf inputs output x a = as_input (cover_of line F.Same inputs output) x a
gate_reads line n G.Not inputs output x a = as_input (cover_of line F.Not inputs output) x a

gate_drives : (line n : ℕ) (kind : GateKind) (inputs : List (List ℕ)) (output : List ℕ) → 1 ≤ length inputs → Mentions (output_covers line n kind inputs output) output
gate_drives line n G.And inputs output some = as_output (cover_of line F.And inputs output)
gate_drives line n G.Nand inputs output some = as_output (cover_of line F.Nand inputs output)
gate_drives line n G.Or inputs output some = as_output (cover_of line F.Or inputs output)
gate_drives line n G.Nor inputs output some = as_output (cover_of line F.Nor inputs output)
gate_drives line n G.Xor [] output some = absurd (none_there some)
gate_drives line n G.Xor (i ∷ is) output some = chain_drives line n false i is output
gate_drives line n G.Xnor [] output some = absurd (none_there some)
gate_drives line n G.Xnor (i ∷ is) output some = chain_drives line n true i is output
gate_drives line n G.Buf inputs output some = as_output (cover_of line F.Same inputs output)
gate_drives line n G.Not inputs output some = as_output (cover_of line F.Not inputs output)

-- a net of one of several expressions is among their signals, or a cover of them mentions it
all_shown : (line n : ℕ) (fs : List Formula) (x : List ℕ) → Among (flat_map nets_of fs) x → Among (all_signals n fs) x ⊎ Mentions (all_covers line n fs) x
all_shown line n [] x a = absurd (at_none a.0 x a.1)
all_shown line n (f ∷ fs) x a = by_side (among_either (nets_of f) (flat_map nets_of fs) x a) (λ b. value_shown line n f x b) (λ b. all_shown line (n + own f) fs x b) where
  by_first : IsShown line n f x → Among (signal_of n f ∷ all_signals (n + own f) fs) x ⊎ Mentions (value_covers line n f ++ all_covers line (n + own f) fs) x
  by_first (inl e) = inl (0, ap Some (sym e))
  by_first (inr h) = inr (in_left (value_covers line n f) (all_covers line (n + own f) fs) x h)

  by_rest : Among (all_signals (n + own f) fs) x ⊎ Mentions (all_covers line (n + own f) fs) x → Among (signal_of n f ∷ all_signals (n + own f) fs) x ⊎ Mentions (value_covers line n f ++ all_covers line (n + own f) fs) x
  by_rest (inl b) = inl (among_later (signal_of n f) (all_signals (n + own f) fs) x b)
  by_rest (inr h) = inr (in_right (value_covers line n f) (all_covers line (n + own f) fs) x h)

  by_side : Among (nets_of f) x ⊎ Among (flat_map nets_of fs) x → (Among (nets_of f) x → IsShown line n f x) → (Among (flat_map nets_of fs) x → Among (all_signals (n + own f) fs) x ⊎ Mentions (all_covers line (n + own f) fs) x)
      → Among (signal_of n f ∷ all_signals (n + own f) fs) x ⊎ Mentions (value_covers line n f ++ all_covers line (n + own f) fs) x
  by_side (inl l) p q = by_first (p l)
  by_side (inr r) p q = by_rest (q r)

as_many_signals : (n : ℕ) (fs : List Formula) → length (all_signals n fs) ≡ length fs
as_many_signals n [] = refl
as_many_signals n (f ∷ fs) = ap suc (as_many_signals (n + own f) fs)

-- an output's covers are among those of all outputs
of_output : (each : List ℕ → List CoverLine) (os : List (List ℕ)) (o x : List ℕ) → Among os o → Mentions (each o) x → Mentions (flat_map each os) x
of_output each os o x a h = record { cover = h.cover; there = flat_map_among each os o h.cover a h.there; named = h.named }

some_output : (os : List (List ℕ)) → 1 ≤ length os → (o : List ℕ) × Among os o
some_output [] some = absurd (none_there some)
some_output (o ∷ os) some = (o, (0, refl))

gate_mentions : (line n : ℕ) (kind : GateKind) (os : List (List ℕ)) (fs : List Formula) → HasTerminals kind (length fs) → 1 ≤ length os → (x : List ℕ) → Among (os ++ flat_map nets_of fs) x
    → Mentions (gate_covers line n kind os fs) x
gate_mentions line n kind os fs t some x a = by_side (among_either os (flat_map nets_of fs) x a) where
  by_output : Among os x → Mentions (gate_covers line n kind os fs) x
  by_output b =
      in_right (all_covers line n fs) (flat_map (output_covers line (n + all_own fs) kind (all_signals n fs)) os) x
      (of_output (output_covers line (n + all_own fs) kind (all_signals n fs)) os x x b
      (gate_drives line (n + all_own fs) kind (all_signals n fs) x (subst (λ k. 1 ≤ k) (sym (as_many_signals n fs)) t.some)))

  by_input : Among (all_signals n fs) x ⊎ Mentions (all_covers line n fs) x → Mentions (gate_covers line n kind os fs) x
  by_input (inl b) =
      let o = some_output os some in
      in_right (all_covers line n fs) (flat_map (output_covers line (n + all_own fs) kind (all_signals n fs)) os) x
      (of_output (output_covers line (n + all_own fs) kind (all_signals n fs)) os o.0 x o.1 (gate_reads line (n + all_own fs) kind (all_signals n fs) o.0 x b))
  by_input (inr h) = in_left (all_covers line n fs) (flat_map (output_covers line (n + all_own fs) kind (all_signals n fs)) os) x h

  by_side : Among os x ⊎ Among (flat_map nets_of fs) x → Mentions (gate_covers line n kind os fs) x
  by_side (inl l) = by_output l
  by_side (inr r) = by_input (all_shown line n fs x r)

-- ---- ties

tie_of_net : (n : ℕ) (port : List ℕ) (a : Option Actual) (x : List ℕ) → Among (actual_nets a) x → Among (map (λ (t : Tie). t.actual) (tie_of n port a)) x
tie_of_net n port None x a = absurd (at_none a.0 x a.1)
tie_of_net n port (Some (to_net y)) x a = a
tie_of_net n port (Some (to_constant b)) x a = absurd (at_none a.0 x a.1)

ties_name : (n : ℕ) (ts : List PortTie) (x : List ℕ) → Among (ties_nets ts) x → Among (map (λ (t : Tie). t.actual) (ties_of n ts)) x
ties_name n [] x a = absurd (at_none a.0 x a.1)
ties_name n (t ∷ ts) x a =
    subst (λ ns. Among ns x) (sym (map-append (λ (t : Tie). t.actual) (tie_of n t.port t.actual) (ties_of (n + actual_own t.actual) ts)))
    (by_side (among_either (actual_nets t.actual) (ties_nets ts) x a) (λ b. ties_name (n + actual_own t.actual) ts x b)) where
      by_side : Among (actual_nets t.actual) x ⊎ Among (ties_nets ts) x → (Among (ties_nets ts) x → Among (map (λ (t : Tie). t.actual) (ties_of (n + actual_own t.actual) ts)) x)
          → Among (map (λ (t : Tie). t.actual) (tie_of n t.port t.actual) ++ map (λ (t : Tie). t.actual) (ties_of (n + actual_own t.actual) ts)) x
      by_side (inl l) later = among_left (map (λ (t : Tie). t.actual) (tie_of n t.port t.actual)) (map (λ (t : Tie). t.actual) (ties_of (n + actual_own t.actual) ts)) x (tie_of_net n t.port t.actual x l)
      by_side (inr r) later = among_right (map (λ (t : Tie). t.actual) (tie_of n t.port t.actual)) (map (λ (t : Tie). t.actual) (ties_of (n + actual_own t.actual) ts)) x (later r)

-- ---- modules

-- a cover or a sub-model among these mentions a name
pub data IsMentioned (covers : List CoverLine) (subs : List SubLine) (x : List ℕ) : Type 0 where
  by_cover : Mentions covers x → IsMentioned covers subs x
  by_sub : (s : SubLine) → Among subs s → Among (sub_signals s) x → IsMentioned covers subs x

entry_mentions : (n : ℕ) (e : Entry) → IsWhole e → (x : List ℕ) → Among (entry_nets e) x → IsMentioned (entry_covers n e) (entry_subs n e) x
entry_mentions n (listed y) w x a = absurd (at_none a.0 x a.1)
entry_mentions n (directed l d y) w x a = absurd (at_none a.0 x a.1)
entry_mentions n (assigned l y f) w x a = by_cover (assigned_mentions l n y f x a)
entry_mentions n (gate l kind os fs) w x a = by_cover (gate_mentions l n kind os fs w.0 w.1 x a)
entry_mentions n (instance l m ts) w x a = by_sub (sub_of l n m ts) (0, refl) (ties_name n ts x a)

entries_mention : (n : ℕ) (es : List Entry) → All IsWhole es → (x : List ℕ) → Among (flat_map entry_nets es) x → IsMentioned (covers_in n es) (subs_in n es) x
entries_mention n [] w x a = absurd (at_none a.0 x a.1)
entries_mention n (e ∷ es) w x a =
    by_side (among_either (entry_nets e) (flat_map entry_nets es) x a) (entry_mentions n e (All-head IsWhole e es w) x) (entries_mention (n + entry_own e) es (All-tail IsWhole e es w) x) where
      first : IsMentioned (entry_covers n e) (entry_subs n e) x → IsMentioned (covers_in n (e ∷ es)) (subs_in n (e ∷ es)) x
      first (by_cover h) = by_cover (in_left (entry_covers n e) (covers_in (n + entry_own e) es) x h)
      first (by_sub s b c) = by_sub s (among_left (entry_subs n e) (subs_in (n + entry_own e) es) s b) c

      rest : IsMentioned (covers_in (n + entry_own e) es) (subs_in (n + entry_own e) es) x → IsMentioned (covers_in n (e ∷ es)) (subs_in n (e ∷ es)) x
      rest (by_cover h) = by_cover (in_right (entry_covers n e) (covers_in (n + entry_own e) es) x h)
      rest (by_sub s b c) = by_sub s (among_right (entry_subs n e) (subs_in (n + entry_own e) es) s b) c

      by_side : Among (entry_nets e) x ⊎ Among (flat_map entry_nets es) x → (Among (entry_nets e) x → IsMentioned (entry_covers n e) (entry_subs n e) x)
          → (Among (flat_map entry_nets es) x → IsMentioned (covers_in (n + entry_own e) es) (subs_in (n + entry_own e) es) x) → IsMentioned (covers_in n (e ∷ es)) (subs_in n (e ∷ es)) x
      by_side (inl l) p q = first (p l)
      by_side (inr r) p q = rest (q r)

-- each net that the entries of a module name is a signal of its model
pub net_there : (m : Module) → All IsWhole m.entries → (x : List ℕ) → Among (flat_map entry_nets m.entries) x → has_name (signals_of (model_of m)) x ≡ true
net_there m w x a = by_kind (entries_mention 0 m.entries w x a) where
  by_kind : IsMentioned (covers_in 0 m.entries) (subs_in 0 m.entries) x → has_name (signals_of (model_of m)) x ≡ true
  by_kind (by_cover h) = cover_named (model_of m) h.cover x h.there h.named
  by_kind (by_sub s b c) = tie_named (model_of m) s x b c

-- ---- names

tie_nets_named : (ts : List PortTie) (x : List ℕ) → Among (flat_map (λ (t : PortTie). actual_nets t.actual) ts) x → Among (flat_map tie_names ts) x
tie_nets_named ts x a =
    let t = among_flat_map (λ (t : PortTie). actual_nets t.actual) ts x a in flat_map_among tie_names ts t.0 x t.1 (suc t.2.0, t.2.1)

pub nets_named : (e : Entry) (x : List ℕ) → Among (entry_nets e) x → Among (entry_names e) x
nets_named (listed n) x a = absurd (at_none a.0 x a.1)
nets_named (directed l d n) x a = absurd (at_none a.0 x a.1)
nets_named (assigned l n f) x a = a
nets_named (gate l kind os fs) x a = a
nets_named (instance l m ts) x a = tie_nets_named ts x a

-- ---- ports

listed_named : (e : Entry) (x : List ℕ) → Among (listed_name e) x → Among (entry_names e) x
listed_named (listed n) x a = a
listed_named (directed l d n) x a = absurd (at_none a.0 x a.1)
listed_named (assigned l n f) x a = absurd (at_none a.0 x a.1)
listed_named (gate l k os fs) x a = absurd (at_none a.0 x a.1)
listed_named (instance l m ts) x a = absurd (at_none a.0 x a.1)

-- a port of a direction stands in the list
port_listed : (m : Module) (d : Direction) (x : List ℕ) → Among (ports_by (given_in m.entries) d (ports_in m.entries)) x → (e : Entry) × Among m.entries e × Among (entry_names e) x
port_listed m d x a =
    let there = among_filter (λ n. is_of d (given_in m.entries n)) (ports_in m.entries) x a in
    let once : has_name (ports_in m.entries) x ≡ true = among_any (bytes_eq x) (ports_in m.entries) x there ((bytes_eq-Decides x x).1 refl) in
    let y = any_among (bytes_eq x) (flat_map listed_name m.entries) (sym (once_has_same (flat_map listed_name m.entries) x) ∙ once) in
    let e = among_flat_map listed_name m.entries y.0 y.1 in
    (e.0, e.1, listed_named e.0 x (subst (Among (listed_name e.0)) (sym ((bytes_eq-Decides x y.0).0 y.2)) e.2))

-- each net of a module is a signal of its model
pub net_signal : (m : Module) → All IsWhole m.entries → (x : List ℕ) → Among (nets_in m) x → has_name (signals_of (model_of m)) x ≡ true
net_signal m w x a = by_side (among_either ((model_of m).inputs ++ (model_of m).outputs) (flat_map entry_nets m.entries) x a) where
  by_port : Among (model_of m).inputs x ⊎ Among (model_of m).outputs x → has_name (signals_of (model_of m)) x ≡ true
  by_port (inl i) = input_named (model_of m) x i
  by_port (inr o) = output_named (model_of m) x o

  by_side : Among ((model_of m).inputs ++ (model_of m).outputs) x ⊎ Among (flat_map entry_nets m.entries) x → has_name (signals_of (model_of m)) x ≡ true
  by_side (inl p) = by_port (among_either (model_of m).inputs (model_of m).outputs x p)
  by_side (inr e) = net_there m w x e

-- and a name of one of its entries
pub net_named : (m : Module) (x : List ℕ) → Among (nets_in m) x → (e : Entry) × Among m.entries e × Among (entry_names e) x
net_named m x a = by_side (among_either ((model_of m).inputs ++ (model_of m).outputs) (flat_map entry_nets m.entries) x a) where
  by_port : Among (model_of m).inputs x ⊎ Among (model_of m).outputs x → (e : Entry) × Among m.entries e × Among (entry_names e) x
  by_port (inl i) = port_listed m Inputs x i
  by_port (inr o) = port_listed m Outputs x o

  by_entry : Among (flat_map entry_nets m.entries) x → (e : Entry) × Among m.entries e × Among (entry_names e) x
  by_entry b = let e = among_flat_map entry_nets m.entries x b in (e.0, e.1, nets_named e.0 x e.2)

  by_side : Among ((model_of m).inputs ++ (model_of m).outputs) x ⊎ Among (flat_map entry_nets m.entries) x → (e : Entry) × Among m.entries e × Among (entry_names e) x
  by_side (inl p) = by_port (among_either (model_of m).inputs (model_of m).outputs x p)
  by_side (inr e) = by_entry e
