-- The covers of a module hold where the signals that its text does not name have the bits of their expressions.
use Rattle.std.proofs.Common.{◌≡◌, inl, inr, ℕ, zero, suc, ◌+◌, Bool, true, false, not, List, [], ◌∷◌, ◌++◌, map, flat_map, length, All, Option, Some, None, refl, ap, ap₂, sym, subst, ◌∙◌, arith}
use Rattle.std.proofs.lemmas.List.Elements.{All-head, All-tail}
use Rattle.std.proofs.lemmas.Option.{same_Some}
use Rattle.verilog_expression.specs.Grammar.{Formula}
use Rattle.verilog_expression.specs.Grammar.Formula.{a_net, a_constant, negation, conjunction, parity, disjunction, choice}
use Rattle.verilog_meaning.specs.Covered.{AreCovered, IsCovered}
use Rattle.verilog_meaning.specs.Meaning.{Holds, differ, gate_bit, is_odd, value_of}
use Rattle.verilog_meaning.specs.Nets.{actual_nets, entry_nets, nets_of, ties_nets}
use Rattle.verilog_meaning.specs.Terminals.{HasTerminals, IsWhole}
use Rattle.verilog_meaning.proofs.FunctionLaws.{and_is, differ_assoc, differ_false, nand_is, nor_is, not_is, or_is, same_is, xnor_is, xor_is}
use Rattle.verilog_meaning.proofs.GateLaws.{as_many, none_there}
use Rattle.verilog_meaning.proofs.OwnBits.{HaveOwn, actual_bits, all_bits, all_long, chain_bits, entries_bits, entry_bits, entry_long, gate_bits, inside_bits, inside_long, link_bits, own_bits, own_last, own_left, own_long, own_right, ties_bits, actual_long}
use Rattle.verilog_meaning.proofs.ValueLaws.{operand_values, outer_is, two_values}
use Rattle.verilog_models.specs.Covers.{all_covers, all_own, all_signals, assigned_covers, cover_of, inputs_of, operand_covers, outer_cover, own, own_name, signal_of, value_covers}
use Rattle.verilog_models.specs.Gates.{actual_covers, actual_own, actual_value, chain, gate_covers, output_covers, ties_covers}
use Rattle.verilog_models.specs.Models.{covers_in, entry_covers, entry_own}
use Rattle.verilog_models.specs.declared.functions.Function.TheVariants as F
use Rattle.verilog_source.specs.Modules.{Actual, Entry, PortTie}
use Rattle.verilog_source.specs.Modules.Entry.{listed, directed, assigned, gate, instance}
use Rattle.verilog_tokens.specs.declared.token.GateKind.{GateKind}
use Rattle.verilog_tokens.specs.declared.token.GateKind.TheVariants as G
use Rattle.vrt_model.specs.Lists.{Among}
use Rattle.vrt_model.specs.declared.blif.CoverLine.{CoverLine}
use Rattle.vrt_model.proofs.Members.{among_either, among_flat_map, among_later, among_left, among_right, at_none}

-- ---- covers of two lists

join_covered : (values : List ℕ → Bool) (xs ys : List CoverLine) → AreCovered values xs → AreCovered values ys → AreCovered values (xs ++ ys)
join_covered values xs ys p q c a = elim (among_either xs ys c a) [
  | inl l ↦ p c l
  | inr r ↦ q c r
]

none_covered : (values : List ℕ → Bool) → AreCovered values []
none_covered values c a = absurd (at_none a.0 c a.1)

one_covered : (values : List ℕ → Bool) (x : CoverLine) → IsCovered values x → AreCovered values (x ∷ [])
one_covered values x h c (zero, e) = subst (IsCovered values) (same_Some x c e) h
one_covered values x h c (suc i, e) = absurd (at_none i c e)

first_covered : (values : List ℕ → Bool) (x : CoverLine) (xs : List CoverLine) → IsCovered values x → AreCovered values xs → AreCovered values (x ∷ xs)
first_covered values x xs h t = join_covered values (x ∷ []) xs (one_covered values x h) t

-- ---- names

-- names have their bits
abbrev pub HaveBits : (List ℕ → Bool) → (List ℕ → Bool) → List (List ℕ) → Type 0
HaveBits values bits names = (x : List ℕ) → Among names x → values x ≡ bits x

left_bits : (values bits : List ℕ → Bool) (xs ys : List (List ℕ)) → HaveBits values bits (xs ++ ys) → HaveBits values bits xs
left_bits values bits xs ys h x a = h x (among_left xs ys x a)

right_bits : (values bits : List ℕ → Bool) (xs ys : List (List ℕ)) → HaveBits values bits (xs ++ ys) → HaveBits values bits ys
right_bits values bits xs ys h x a = h x (among_right xs ys x a)

-- ---- expressions

-- the signal of an expression has its value
pub value_back : (values bits : List ℕ → Bool) (n : ℕ) (f : Formula) → HaveBits values bits (nets_of f) → HaveOwn values n (own_bits bits f) → values (signal_of n f) ≡ value_of bits f
value_back values bits n (a_net x) names h = names x (0, refl)
value_back values bits n (a_constant b) names h = ap (λ k. values (own_name k)) (plus n) ∙ h 0 b refl where
  plus : (n : ℕ) → n ≡ n + 0
  plus n = omega arith
value_back values bits n (negation f) names h = own_last values n (own f) (own_bits bits f) (value_of bits (negation f)) (own_long bits f) h
value_back values bits n (conjunction f g) names h =
    own_last values n (own f + own g) (own_bits bits f ++ own_bits bits g) (value_of bits (conjunction f g)) (inside_long bits (conjunction f g)) h
value_back values bits n (parity f g) names h = own_last values n (own f + own g) (own_bits bits f ++ own_bits bits g) (value_of bits (parity f g)) (inside_long bits (parity f g)) h
value_back values bits n (disjunction f g) names h =
    own_last values n (own f + own g) (own_bits bits f ++ own_bits bits g) (value_of bits (disjunction f g)) (inside_long bits (disjunction f g)) h
value_back values bits n (choice c f g) names h =
    own_last values n (own c + own f + own g) (own_bits bits c ++ own_bits bits f ++ own_bits bits g) (value_of bits (choice c f g)) (inside_long bits (choice c f g)) h

pair_back : (values bits : List ℕ → Bool) (n : ℕ) (f g : Formula) → HaveBits values bits (nets_of f ++ nets_of g) → HaveOwn values n (own_bits bits f ++ own_bits bits g)
    → values (signal_of n f) ∷ values (signal_of (n + own f) g) ∷ [] ≡ value_of bits f ∷ value_of bits g ∷ []
pair_back values bits n f g names h =
    two_values _ _ _ _ (value_back values bits n f (left_bits values bits (nets_of f) (nets_of g) names) (own_left values n (own_bits bits f) (own_bits bits g) h))
    (value_back values bits (n + own f) g (right_bits values bits (nets_of f) (nets_of g) names) (own_right values n (own f) (own_bits bits f) (own_bits bits g) (own_long bits f) h))

-- so have the signals that what is outermost reads
operands_back : (values bits : List ℕ → Bool) (n : ℕ) (f : Formula) → HaveBits values bits (nets_of f) → HaveOwn values n (inside_bits bits f) → map values (inputs_of n f) ≡ operand_values bits f
operands_back values bits n (a_net x) names h = ap (λ b. b ∷ []) (names x (0, refl))
operands_back values bits n (a_constant b) names h = refl
operands_back values bits n (negation f) names h = ap (λ b. b ∷ []) (value_back values bits n f names h)
operands_back values bits n (conjunction f g) names h = pair_back values bits n f g names h
operands_back values bits n (parity f g) names h = pair_back values bits n f g names h
operands_back values bits n (disjunction f g) names h = pair_back values bits n f g names h
operands_back values bits n (choice c f g) names h =
    let front = left_bits values bits (nets_of c ++ nets_of f) (nets_of g) names in
    let before = own_left values n (own_bits bits c ++ own_bits bits f) (own_bits bits g) h in
    let two = pair_back values bits n c f front before in
    let last = value_back values bits (n + own c + own f) g (right_bits values bits (nets_of c ++ nets_of f) (nets_of g) names)
    (subst (λ k. HaveOwn values k (own_bits bits g)) (plus n (own c) (own f))
    (own_right values n (own c + own f) (own_bits bits c ++ own_bits bits f) (own_bits bits g) (inside_long bits (conjunction c f)) h)) in
    ap₂ (λ xs b. xs ++ b ∷ []) two last where
      plus : (n a b : ℕ) → n + (a + b) ≡ n + a + b
      plus n a b = omega arith

-- the cover of what is outermost
outer_back : (values bits : List ℕ → Bool) (line n : ℕ) (f : Formula) (output : List ℕ) → HaveBits values bits (nets_of f) → HaveOwn values n (inside_bits bits f) → values output ≡ value_of bits f
    → IsCovered values (outer_cover line n f output)
outer_back values bits line n f output names h e = e ∙ sym (outer_is values bits line n f output (operands_back values bits n f names h))

-- the covers of an expression
pub covers_back : (values bits : List ℕ → Bool) (line n : ℕ) (f : Formula) → HaveBits values bits (nets_of f) → HaveOwn values n (own_bits bits f) → AreCovered values (value_covers line n f)
covers_back values bits line n (a_net x) names h = none_covered values
covers_back values bits line n (a_constant b) names h =
    one_covered values (outer_cover line n (a_constant b) (signal_of n (a_constant b)))
    (outer_back values bits line n (a_constant b) (signal_of n (a_constant b)) names (λ j c e. absurd (at_none j c e)) (value_back values bits n (a_constant b) names h))
covers_back values bits line n (negation f) names h =
    let inner = own_left values n (own_bits bits f) (value_of bits (negation f) ∷ []) h in
    join_covered values (value_covers line n f) (outer_cover line n (negation f) (signal_of n (negation f)) ∷ []) (covers_back values bits line n f names inner)
    (one_covered values (outer_cover line n (negation f) (signal_of n (negation f)))
    (outer_back values bits line n (negation f) (signal_of n (negation f)) names inner (value_back values bits n (negation f) names h)))
covers_back values bits line n (conjunction f g) names h =
    let inner = own_left values n (own_bits bits f ++ own_bits bits g) (value_of bits (conjunction f g) ∷ []) h in
    join_covered values (value_covers line n f ++ value_covers line (n + own f) g) (outer_cover line n (conjunction f g) (signal_of n (conjunction f g)) ∷ [])
    (join_covered values (value_covers line n f) (value_covers line (n + own f) g)
    (covers_back values bits line n f (left_bits values bits (nets_of f) (nets_of g) names) (own_left values n (own_bits bits f) (own_bits bits g) inner))
    (covers_back values bits line (n + own f) g (right_bits values bits (nets_of f) (nets_of g) names) (own_right values n (own f) (own_bits bits f) (own_bits bits g) (own_long bits f) inner)))
    (one_covered values (outer_cover line n (conjunction f g) (signal_of n (conjunction f g)))
    (outer_back values bits line n (conjunction f g) (signal_of n (conjunction f g)) names inner (value_back values bits n (conjunction f g) names h)))
covers_back values bits line n (parity f g) names h =
    let inner = own_left values n (own_bits bits f ++ own_bits bits g) (value_of bits (parity f g) ∷ []) h in
    join_covered values (value_covers line n f ++ value_covers line (n + own f) g) (outer_cover line n (parity f g) (signal_of n (parity f g)) ∷ [])
    (join_covered values (value_covers line n f) (value_covers line (n + own f) g)
    (covers_back values bits line n f (left_bits values bits (nets_of f) (nets_of g) names) (own_left values n (own_bits bits f) (own_bits bits g) inner))
    (covers_back values bits line (n + own f) g (right_bits values bits (nets_of f) (nets_of g) names) (own_right values n (own f) (own_bits bits f) (own_bits bits g) (own_long bits f) inner)))
    (one_covered values (outer_cover line n (parity f g) (signal_of n (parity f g)))
    (outer_back values bits line n (parity f g) (signal_of n (parity f g)) names inner (value_back values bits n (parity f g) names h)))
covers_back values bits line n (disjunction f g) names h =
    let inner = own_left values n (own_bits bits f ++ own_bits bits g) (value_of bits (disjunction f g) ∷ []) h in
    join_covered values (value_covers line n f ++ value_covers line (n + own f) g) (outer_cover line n (disjunction f g) (signal_of n (disjunction f g)) ∷ [])
    (join_covered values (value_covers line n f) (value_covers line (n + own f) g)
    (covers_back values bits line n f (left_bits values bits (nets_of f) (nets_of g) names) (own_left values n (own_bits bits f) (own_bits bits g) inner))
    (covers_back values bits line (n + own f) g (right_bits values bits (nets_of f) (nets_of g) names) (own_right values n (own f) (own_bits bits f) (own_bits bits g) (own_long bits f) inner)))
    (one_covered values (outer_cover line n (disjunction f g) (signal_of n (disjunction f g)))
    (outer_back values bits line n (disjunction f g) (signal_of n (disjunction f g)) names inner (value_back values bits n (disjunction f g) names h)))
covers_back values bits line n (choice c f g) names h =
    let inner = own_left values n (own_bits bits c ++ own_bits bits f ++ own_bits bits g) (value_of bits (choice c f g) ∷ []) h in
    let front = left_bits values bits (nets_of c ++ nets_of f) (nets_of g) names in
    let before = own_left values n (own_bits bits c ++ own_bits bits f) (own_bits bits g) inner in
    join_covered values (value_covers line n c ++ value_covers line (n + own c) f ++ value_covers line (n + own c + own f) g) (outer_cover line n (choice c f g) (signal_of n (choice c f g)) ∷ [])
    (join_covered values (value_covers line n c ++ value_covers line (n + own c) f) (value_covers line (n + own c + own f) g)
    (join_covered values (value_covers line n c) (value_covers line (n + own c) f)
    (covers_back values bits line n c (left_bits values bits (nets_of c) (nets_of f) front) (own_left values n (own_bits bits c) (own_bits bits f) before))
    (covers_back values bits line (n + own c) f (right_bits values bits (nets_of c) (nets_of f) front) (own_right values n (own c) (own_bits bits c) (own_bits bits f) (own_long bits c) before)))
    (covers_back values bits line (n + own c + own f) g (right_bits values bits (nets_of c ++ nets_of f) (nets_of g) names)
    (subst (λ k. HaveOwn values k (own_bits bits g)) (plus n (own c) (own f))
    (own_right values n (own c + own f) (own_bits bits c ++ own_bits bits f) (own_bits bits g) (inside_long bits (conjunction c f)) inner))))
    (one_covered values (outer_cover line n (choice c f g) (signal_of n (choice c f g)))
    (outer_back values bits line n (choice c f g) (signal_of n (choice c f g)) names inner (value_back values bits n (choice c f g) names h))) where
      plus : (n a b : ℕ) → n + (a + b) ≡ n + a + b
      plus n a b = omega arith

plus_two : (n a b : ℕ) → n + (a + b) ≡ n + a + b
plus_two n a b = omega arith

pair_covered : (values bits : List ℕ → Bool) (line n : ℕ) (f g : Formula) → HaveBits values bits (nets_of f ++ nets_of g) → HaveOwn values n (own_bits bits f ++ own_bits bits g)
    → AreCovered values (value_covers line n f ++ value_covers line (n + own f) g)
pair_covered values bits line n f g names h =
    join_covered values (value_covers line n f) (value_covers line (n + own f) g)
    (covers_back values bits line n f (left_bits values bits (nets_of f) (nets_of g) names) (own_left values n (own_bits bits f) (own_bits bits g) h))
    (covers_back values bits line (n + own f) g (right_bits values bits (nets_of f) (nets_of g) names) (own_right values n (own f) (own_bits bits f) (own_bits bits g) (own_long bits f) h))

operand_covers_back : (values bits : List ℕ → Bool) (line n : ℕ) (f : Formula) → HaveBits values bits (nets_of f) → HaveOwn values n (inside_bits bits f) → AreCovered values (operand_covers line n f)
operand_covers_back values bits line n (a_net x) names h = none_covered values
operand_covers_back values bits line n (a_constant b) names h = none_covered values
operand_covers_back values bits line n (negation f) names h = covers_back values bits line n f names h
operand_covers_back values bits line n (conjunction f g) names h = pair_covered values bits line n f g names h
operand_covers_back values bits line n (parity f g) names h = pair_covered values bits line n f g names h
operand_covers_back values bits line n (disjunction f g) names h = pair_covered values bits line n f g names h
operand_covers_back values bits line n (choice c f g) names h =
    join_covered values (value_covers line n c ++ value_covers line (n + own c) f) (value_covers line (n + own c + own f) g)
    (pair_covered values bits line n c f (left_bits values bits (nets_of c ++ nets_of f) (nets_of g) names) (own_left values n (own_bits bits c ++ own_bits bits f) (own_bits bits g) h))
    (covers_back values bits line (n + own c + own f) g (right_bits values bits (nets_of c ++ nets_of f) (nets_of g) names)
    (subst (λ k. HaveOwn values k (own_bits bits g)) (plus_two n (own c) (own f))
    (own_right values n (own c + own f) (own_bits bits c ++ own_bits bits f) (own_bits bits g) (inside_long bits (conjunction c f)) h)))

-- those of an expression that is assigned to a net
assigned_back : (values bits : List ℕ → Bool) (line n : ℕ) (net : List ℕ) (f : Formula) → HaveBits values bits (net ∷ nets_of f) → HaveOwn values n (inside_bits bits f) → bits net ≡ value_of bits f
    → AreCovered values (assigned_covers line n net f)
assigned_back values bits line n net f names h e =
    let inner : HaveBits values bits (nets_of f) = λ x a. names x (among_later net (nets_of f) x a) in
    join_covered values (operand_covers line n f) (outer_cover line n f net ∷ []) (operand_covers_back values bits line n f inner h)
    (one_covered values (outer_cover line n f net) (outer_back values bits line n f net inner h (names net (0, refl) ∙ e)))

-- ---- several expressions

signals_back : (values bits : List ℕ → Bool) (n : ℕ) (fs : List Formula) → HaveBits values bits (flat_map nets_of fs) → HaveOwn values n (all_bits bits fs)
    → map values (all_signals n fs) ≡ map (value_of bits) fs
signals_back values bits n [] names h = refl
signals_back values bits n (f ∷ fs) names h =
    ap₂ (λ b bs. b ∷ bs) (value_back values bits n f (left_bits values bits (nets_of f) (flat_map nets_of fs) names) (own_left values n (own_bits bits f) (all_bits bits fs) h))
    (signals_back values bits (n + own f) fs (right_bits values bits (nets_of f) (flat_map nets_of fs) names) (own_right values n (own f) (own_bits bits f) (all_bits bits fs) (own_long bits f) h))

all_back : (values bits : List ℕ → Bool) (line n : ℕ) (fs : List Formula) → HaveBits values bits (flat_map nets_of fs) → HaveOwn values n (all_bits bits fs) → AreCovered values (all_covers line n fs)
all_back values bits line n [] names h = none_covered values
all_back values bits line n (f ∷ fs) names h =
    join_covered values (value_covers line n f) (all_covers line (n + own f) fs)
    (covers_back values bits line n f (left_bits values bits (nets_of f) (flat_map nets_of fs) names) (own_left values n (own_bits bits f) (all_bits bits fs) h))
    (all_back values bits line (n + own f) fs (right_bits values bits (nets_of f) (flat_map nets_of fs) names) (own_right values n (own f) (own_bits bits f) (all_bits bits fs) (own_long bits f) h))

-- ---- gates

chain_back : (values : List ℕ → Bool) (line n : ℕ) (complements : Bool) (left : List ℕ) (rest : List (List ℕ)) (output : List ℕ) → HaveOwn values n (chain_bits (values left) (map values rest))
    → values output ≡ differ complements (is_odd (map values (left ∷ rest))) → AreCovered values (chain line n complements left rest output)
chain_back values line n true left [] output h e =
    one_covered values (cover_of line F.Not (left ∷ []) output) (e ∙ ap not (differ_false (values left)) ∙ sym (not_is values left output))
chain_back values line n false left [] output h e = one_covered values (cover_of line F.Same (left ∷ []) output) (e ∙ differ_false (values left) ∙ sym (same_is values left output))
chain_back values line n true left (right ∷ []) output h e =
    one_covered values (cover_of line F.Xnor (left ∷ right ∷ []) output)
    (e ∙ ap (λ b. not (differ (values left) b)) (differ_false (values right)) ∙ sym (xnor_is values left right output))
chain_back values line n false left (right ∷ []) output h e =
    one_covered values (cover_of line F.Xor (left ∷ right ∷ []) output) (e ∙ ap (λ b. differ (values left) b) (differ_false (values right)) ∙ sym (xor_is values left right output))
chain_back values line n complements left (right ∷ next ∷ more) output h e =
    let b = differ (values left) (values right) in
    let here : values (own_name n) ≡ b = ap (λ k. values (own_name k)) (plus_none n) ∙ h 0 b refl in
    let later : HaveOwn values (n + 1) (chain_bits (values (own_name n)) (map values (next ∷ more)))
    = subst (λ c. HaveOwn values (n + 1) (chain_bits c (map values (next ∷ more)))) (sym here) (own_right values n 1 (b ∷ []) (chain_bits b (map values (next ∷ more))) refl h) in
    first_covered values (cover_of line F.Xor (left ∷ right ∷ []) (own_name n)) (chain line (n + 1) complements (own_name n) (next ∷ more) output) (here ∙ sym (xor_is values left right (own_name n)))
    (chain_back values line (n + 1) complements (own_name n) (next ∷ more) output later
    (e ∙ ap (differ complements) (sym (differ_assoc (values left) (values right) (is_odd (map values (next ∷ more)))))
    ∙ ap (λ c. differ complements (differ c (is_odd (map values (next ∷ more))))) (sym here))) where
      plus_none : (n : ℕ) → n ≡ n + 0
      plus_none n = omega arith

output_back : (values : List ℕ → Bool) (line n : ℕ) (kind : GateKind) (inputs : List (List ℕ)) (output : List ℕ) → HasTerminals kind (length inputs) → HaveOwn values n (link_bits kind (map values inputs))
    → values output ≡ gate_bit kind (map values inputs) → AreCovered values (output_covers line n kind inputs output)
output_back values line n G.And inputs output t h e = one_covered values (cover_of line F.And inputs output) (e ∙ sym (and_is values inputs output))
output_back values line n G.Nand inputs output t h e = one_covered values (cover_of line F.Nand inputs output) (e ∙ sym (nand_is values inputs output))
output_back values line n G.Or inputs output t h e = one_covered values (cover_of line F.Or inputs output) (e ∙ sym (or_is values inputs output))
output_back values line n G.Nor inputs output t h e = one_covered values (cover_of line F.Nor inputs output) (e ∙ sym (nor_is values inputs output))
output_back values line n G.Xor [] output t h e = absurd (none_there t.some)
output_back values line n G.Xor (x ∷ xs) output t h e = chain_back values line n false x xs output h e
output_back values line n G.Xnor [] output t h e = absurd (none_there t.some)
output_back values line n G.Xnor (x ∷ xs) output t h e = chain_back values line n true x xs output h e
output_back values line n G.Buf [] output t h e = absurd (none_there t.some)
output_back values line n G.Buf (x ∷ []) output t h e = one_covered values (cover_of line F.Same (x ∷ []) output) (e ∙ differ_false (values x) ∙ sym (same_is values x output))
output_back values line n G.Buf (x ∷ y ∷ more) output t h e = absurd (too_many (length more) (t.one refl)) where
  too_many : (n : ℕ) → suc (suc n) ≡ 1 → ⊥
  too_many n e = omega (arith, e)
output_back values line n G.Not [] output t h e = absurd (none_there t.some)
output_back values line n G.Not (x ∷ []) output t h e = one_covered values (cover_of line F.Not (x ∷ []) output) (e ∙ ap not (differ_false (values x)) ∙ sym (not_is values x output))
output_back values line n G.Not (x ∷ y ∷ more) output t h e = absurd (too_many (length more) (t.one refl)) where
  too_many : (n : ℕ) → suc (suc n) ≡ 1 → ⊥
  too_many n e = omega (arith, e)

outputs_back : (values : List ℕ → Bool) (line n : ℕ) (kind : GateKind) (inputs outputs : List (List ℕ)) → HasTerminals kind (length inputs) → HaveOwn values n (link_bits kind (map values inputs))
    → ((o : List ℕ) → Among outputs o → values o ≡ gate_bit kind (map values inputs)) → AreCovered values (flat_map (output_covers line n kind inputs) outputs)
outputs_back values line n kind inputs outputs t h e c a =
    let o = among_flat_map (output_covers line n kind inputs) outputs c a in output_back values line n kind inputs o.0 t h (e o.0 o.1) c o.2

gate_back : (values bits : List ℕ → Bool) (line n : ℕ) (kind : GateKind) (os : List (List ℕ)) (fs : List Formula) → HasTerminals kind (length fs) → HaveBits values bits (os ++ flat_map nets_of fs)
    → HaveOwn values n (gate_bits bits kind fs) → ((o : List ℕ) → Among os o → bits o ≡ gate_bit kind (map (value_of bits) fs)) → AreCovered values (gate_covers line n kind os fs)
gate_back values bits line n kind os fs t names h e =
    let inner = right_bits values bits os (flat_map nets_of fs) names in
    let first = own_left values n (all_bits bits fs) (link_bits kind (map (value_of bits) fs)) h in
    let last = own_right values n (all_own fs) (all_bits bits fs) (link_bits kind (map (value_of bits) fs)) (all_long bits fs) h in
    let same : map values (all_signals n fs) ≡ map (value_of bits) fs = signals_back values bits n fs inner first in
    join_covered values (all_covers line n fs) (flat_map (output_covers line (n + all_own fs) kind (all_signals n fs)) os) (all_back values bits line n fs inner first)
    (outputs_back values line (n + all_own fs) kind (all_signals n fs) os (subst (HasTerminals kind) (sym (as_many n fs)) t)
    (subst (λ bs. HaveOwn values (n + all_own fs) (link_bits kind bs)) (sym same) last)
    (λ o a. names o (among_left os (flat_map nets_of fs) o a) ∙ e o a ∙ ap (gate_bit kind) (sym same)))

-- ---- entries

actual_back : (values bits : List ℕ → Bool) (line n : ℕ) (a : Option Actual) → HaveBits values bits (actual_nets a) → HaveOwn values n (actual_bits bits a) → AreCovered values (actual_covers line n a)
actual_back values bits line n None names h = none_covered values
actual_back values bits line n (Some a) names h = covers_back values bits line n (actual_value a) names h

ties_back : (values bits : List ℕ → Bool) (line n : ℕ) (ts : List PortTie) → HaveBits values bits (ties_nets ts) → HaveOwn values n (ties_bits bits ts) → AreCovered values (ties_covers line n ts)
ties_back values bits line n [] names h = none_covered values
ties_back values bits line n (t ∷ ts) names h =
    join_covered values (actual_covers line n t.actual) (ties_covers line (n + actual_own t.actual) ts)
    (actual_back values bits line n t.actual (left_bits values bits (actual_nets t.actual) (ties_nets ts) names) (own_left values n (actual_bits bits t.actual) (ties_bits bits ts) h))
    (ties_back values bits line (n + actual_own t.actual) ts (right_bits values bits (actual_nets t.actual) (ties_nets ts) names)
    (own_right values n (actual_own t.actual) (actual_bits bits t.actual) (ties_bits bits ts) (actual_long bits t.actual) h))

entry_back : (values bits : List ℕ → Bool) (n : ℕ) (e : Entry) → IsWhole e → HaveBits values bits (entry_nets e) → HaveOwn values n (entry_bits bits e) → Holds bits e → AreCovered values (entry_covers n e)
entry_back values bits n (listed x) w names h e = none_covered values
entry_back values bits n (directed l d x) w names h e = none_covered values
entry_back values bits n (assigned l x f) w names h e = assigned_back values bits l n x f names h e
entry_back values bits n (gate l kind os fs) w names h e = gate_back values bits l n kind os fs w.0 names h e
entry_back values bits n (instance l m ts) w names h e = ties_back values bits l n ts names h

-- the covers of a module hold where its entries do
pub entries_back : (values bits : List ℕ → Bool) (n : ℕ) (es : List Entry) → All IsWhole es → HaveBits values bits (flat_map entry_nets es) → HaveOwn values n (entries_bits bits es)
    → ((e : Entry) → Among es e → Holds bits e) → AreCovered values (covers_in n es)
entries_back values bits n [] w names h e = none_covered values
entries_back values bits n (x ∷ es) w names h e =
    join_covered values (entry_covers n x) (covers_in (n + entry_own x) es)
    (entry_back values bits n x (All-head IsWhole x es w) (left_bits values bits (entry_nets x) (flat_map entry_nets es) names) (own_left values n (entry_bits bits x) (entries_bits bits es) h) (e x (0, refl)))
    (entries_back values bits (n + entry_own x) es (All-tail IsWhole x es w) (right_bits values bits (entry_nets x) (flat_map entry_nets es) names)
    (own_right values n (entry_own x) (entry_bits bits x) (entries_bits bits es) (entry_long bits x) h) (λ y a. e y (among_later x es y a)))
