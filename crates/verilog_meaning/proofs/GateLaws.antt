-- What the covers of gates and of the constants in ties say of bits.
use Rattle.std.proofs.Common.{◌≡◌, ◌≤◌, ℕ, suc, ◌+◌, Bool, true, false, not, List, [], ◌∷◌, map, flat_map, length, refl, ap, sym, subst, ◌∙◌, arith}
use Rattle.verilog_expression.specs.Grammar.{Formula}
use Rattle.verilog_expression.specs.Grammar.Formula.{a_net, a_constant}
use Rattle.verilog_meaning.specs.Covered.{AreCovered}
use Rattle.verilog_meaning.specs.Meaning.{actual_bit, differ, gate_bit, is_odd, value_of}
use Rattle.verilog_meaning.specs.Terminals.{HasTerminals}
use Rattle.verilog_meaning.proofs.FunctionLaws.{and_is, differ_assoc, differ_false, nand_is, nor_is, not_is, or_is, same_is, xnor_is, xor_is}
use Rattle.verilog_meaning.proofs.ValueLaws.{left_covered, last_covered, right_covered, value_covered, values_covered}
use Rattle.verilog_models.specs.Covers.{all_covers, all_own, all_signals, cover_of, own, own_name, signal_of, value_covers}
use Rattle.verilog_models.specs.Gates.{actual_value, chain, gate_covers, output_covers}
use Rattle.verilog_models.specs.declared.functions.Function.TheVariants as F
use Rattle.verilog_source.specs.Modules.{Actual}
use Rattle.verilog_source.specs.Modules.Actual.{to_net, to_constant}
use Rattle.verilog_tokens.specs.declared.token.GateKind.{GateKind}
use Rattle.verilog_tokens.specs.declared.token.GateKind.TheVariants as G
use Rattle.vrt_model.specs.Lists.{Among}
use Rattle.vrt_model.proofs.Members.{among_later, flat_map_among}

-- ---- chains

-- a chain gives whether an odd number is 1, or its complement
chain_covered : (bits : List ℕ → Bool) (line n : ℕ) (complements : Bool) (left : List ℕ) (rest : List (List ℕ)) (output : List ℕ)
    → AreCovered bits (chain line n complements left rest output) → bits output ≡ differ complements (is_odd (map bits (left ∷ rest)))
chain_covered bits line n true left [] output h =
    last_covered bits [] (cover_of line F.Not (left ∷ []) output) h ∙ not_is bits left output ∙ ap not (sym (differ_false (bits left)))
chain_covered bits line n false left [] output h =
    last_covered bits [] (cover_of line F.Same (left ∷ []) output) h ∙ same_is bits left output ∙ sym (differ_false (bits left))
chain_covered bits line n true left (right ∷ []) output h =
    last_covered bits [] (cover_of line F.Xnor (left ∷ right ∷ []) output) h ∙ xnor_is bits left right output
    ∙ ap (λ b. not (differ (bits left) b)) (sym (differ_false (bits right)))
chain_covered bits line n false left (right ∷ []) output h =
    last_covered bits [] (cover_of line F.Xor (left ∷ right ∷ []) output) h ∙ xor_is bits left right output
    ∙ ap (λ b. differ (bits left) b) (sym (differ_false (bits right)))
chain_covered bits line n complements left (right ∷ next ∷ more) output h =
    let link = cover_of line F.Xor (left ∷ right ∷ []) (own_name n) in
    let first = h link (0, refl) ∙ xor_is bits left right (own_name n) in
    let later = chain_covered bits line (n + 1) complements (own_name n) (next ∷ more) output
    (λ c a. h c (among_later link (chain line (n + 1) complements (own_name n) (next ∷ more) output) c a)) in
    later ∙ ap (λ b. differ complements (differ b (is_odd (map bits (next ∷ more))))) first
    ∙ ap (differ complements) (differ_assoc (bits left) (bits right) (is_odd (map bits (next ∷ more))))

-- ---- gates

pub none_there : 1 ≤ 0 → ⊥
none_there h = omega (arith, h)

-- an output of a gate is the function of its inputs
output_covered : (bits : List ℕ → Bool) (line n : ℕ) (kind : GateKind) (inputs : List (List ℕ)) (output : List ℕ) → HasTerminals kind (length inputs)
    → AreCovered bits (output_covers line n kind inputs output) → bits output ≡ gate_bit kind (map bits inputs)
output_covered bits line n G.And inputs output t h = last_covered bits [] (cover_of line F.And inputs output) h ∙ and_is bits inputs output
output_covered bits line n G.Nand inputs output t h = last_covered bits [] (cover_of line F.Nand inputs output) h ∙ nand_is bits inputs output
output_covered bits line n G.Or inputs output t h = last_covered bits [] (cover_of line F.Or inputs output) h ∙ or_is bits inputs output
output_covered bits line n G.Nor inputs output t h = last_covered bits [] (cover_of line F.Nor inputs output) h ∙ nor_is bits inputs output
output_covered bits line n G.Xor [] output t h = absurd (none_there t.some)
output_covered bits line n G.Xor (x ∷ xs) output t h = chain_covered bits line n false x xs output h
output_covered bits line n G.Xnor [] output t h = absurd (none_there t.some)
output_covered bits line n G.Xnor (x ∷ xs) output t h = chain_covered bits line n true x xs output h
output_covered bits line n G.Buf [] output t h = absurd (none_there t.some)
output_covered bits line n G.Buf (x ∷ []) output t h =
    last_covered bits [] (cover_of line F.Same (x ∷ []) output) h ∙ same_is bits x output ∙ sym (differ_false (bits x))
output_covered bits line n G.Buf (x ∷ y ∷ more) output t h = absurd (too_many (length more) (t.one refl)) where
  too_many : (n : ℕ) → suc (suc n) ≡ 1 → ⊥
  too_many n e = omega (arith, e)
output_covered bits line n G.Not [] output t h = absurd (none_there t.some)
output_covered bits line n G.Not (x ∷ []) output t h =
    last_covered bits [] (cover_of line F.Not (x ∷ []) output) h ∙ not_is bits x output ∙ ap not (sym (differ_false (bits x)))
output_covered bits line n G.Not (x ∷ y ∷ more) output t h = absurd (too_many (length more) (t.one refl)) where
  too_many : (n : ℕ) → suc (suc n) ≡ 1 → ⊥
  too_many n e = omega (arith, e)

pub as_many : (n : ℕ) (fs : List Formula) → length (all_signals n fs) ≡ length fs
as_many n [] = refl
as_many n (f ∷ fs) = ap suc (as_many (n + own f) fs)

pub gate_covered : (bits : List ℕ → Bool) (line n : ℕ) (kind : GateKind) (os : List (List ℕ)) (fs : List Formula) → HasTerminals kind (length fs)
    → AreCovered bits (gate_covers line n kind os fs) → (o : List ℕ) → Among os o → bits o ≡ gate_bit kind (map (value_of bits) fs)
gate_covered bits line n kind os fs t h o a =
    let signals = all_signals n fs in
    let each = output_covers line (n + all_own fs) kind signals in
    let outputs = right_covered bits (all_covers line n fs) (flat_map each os) h in
    output_covered bits line (n + all_own fs) kind signals o (subst (HasTerminals kind) (sym (as_many n fs)) t) (λ c b. outputs c (flat_map_among each os o c a b))
    ∙ ap (gate_bit kind) (values_covered bits line n fs (left_covered bits (all_covers line n fs) (flat_map each os) h))

-- ---- ties

-- the signal of what a port is tied to has its bit
pub actual_covered : (bits : List ℕ → Bool) (line n : ℕ) (a : Actual) → AreCovered bits (value_covers line n (actual_value a))
    → bits (signal_of n (actual_value a)) ≡ actual_bit bits a
actual_covered bits line n (to_net x) h = value_covered bits line n (a_net x) h
actual_covered bits line n (to_constant b) h = value_covered bits line n (a_constant b) h
