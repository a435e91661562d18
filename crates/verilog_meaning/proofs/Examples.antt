-- What small modules mean.
use Rattle.std.proofs.Common.{◌≡◌, ℕ, zero, suc, Bool, false, not, List, [], ◌∷◌, Some, refl, ap, sym, subst, ◌∙◌}
use Rattle.std.specs.Prelude.{codes}
use Rattle.std.proofs.lemmas.Option.{same_Some}
use Rattle.verilog_expression.specs.Grammar.Formula.{a_net}
use Rattle.verilog_meaning.specs.Meaning.{Holds, Instance, IsMeaning, StandsAt, differ, instances_in}
use Rattle.verilog_meaning.specs.Meaning.StandsAt.{itself, inside}
use Rattle.verilog_meaning.proofs.FunctionLaws.{differ_false}
use Rattle.verilog_source.specs.Modules.{Entry, Module, PortTie}
use Rattle.verilog_source.specs.Modules.Actual.{to_net}
use Rattle.verilog_source.specs.Modules.Entry.{listed, directed, gate, instance}
use Rattle.verilog_source.specs.declared.position.Direction.TheVariants.{Inputs, Outputs}
use Rattle.verilog_tokens.specs.declared.token.GateKind.TheVariants as G
use Rattle.vrt_model.specs.Lists.{At}
use Rattle.vrt_model.proofs.Members.{at_none}

-- `module inv(input a, output y); not (y, a); endmodule`
abbrev inv : Module
inv = record {
  line = 1;
  name = codes "inv";
  entries = listed (codes "a") ∷ directed 1 Inputs (codes "a") ∷ listed (codes "y") ∷ directed 1 Outputs (codes "y") ∷ gate 1 G.Not (codes "y" ∷ []) (a_net (codes "a") ∷ []) ∷ [];
}

-- its output is the complement of its input
inverts : (bits : List ℕ → List ℕ → Bool) → IsMeaning (inv ∷ []) inv bits → bits [] (codes "y") ≡ not (bits [] (codes "a"))
inverts bits m = m.entries [] inv itself (gate 1 G.Not (codes "y" ∷ []) (a_net (codes "a") ∷ [])) (4, refl) (codes "y") (0, refl) ∙ ap not (differ_false (bits [] (codes "a")))

-- and it means nothing else
inverter_holds : (bits : List ℕ → List ℕ → Bool) → bits [] (codes "y") ≡ not (bits [] (codes "a")) → (i : ℕ) (e : Entry) → At inv.entries i e → Holds (bits []) e
inverter_holds bits h zero e a = subst (Holds (bits [])) (same_Some (listed (codes "a")) e a) tt
inverter_holds bits h (suc zero) e a = subst (Holds (bits [])) (same_Some (directed 1 Inputs (codes "a")) e a) tt
inverter_holds bits h (suc (suc zero)) e a = subst (Holds (bits [])) (same_Some (listed (codes "y")) e a) tt
inverter_holds bits h (suc (suc (suc zero))) e a = subst (Holds (bits [])) (same_Some (directed 1 Outputs (codes "y")) e a) tt
inverter_holds bits h (suc (suc (suc (suc zero)))) e a = subst (Holds (bits [])) (same_Some (gate 1 G.Not (codes "y" ∷ []) (a_net (codes "a") ∷ [])) e a) output where
  output : Holds (bits []) (gate 1 G.Not (codes "y" ∷ []) (a_net (codes "a") ∷ []))
  output o (zero, f) = subst (λ n. bits [] n ≡ not (differ (bits [] (codes "a")) false)) (same_Some (codes "y") o f) (h ∙ ap not (sym (differ_false (bits [] (codes "a")))))
  output o (suc j, f) = absurd (at_none j o f)
inverter_holds bits h (suc (suc (suc (suc (suc i))))) e a = absurd (at_none i e a)

alone : (path : List ℕ) (m : Module) → StandsAt (inv ∷ []) inv path m → (path ≡ []) × (m ≡ inv)
alone _ _ itself = (refl, refl)
alone _ _ (inside k i a found later) = absurd (at_none k i a)

inverter_meant : (bits : List ℕ → List ℕ → Bool) → bits [] (codes "y") ≡ not (bits [] (codes "a")) → IsMeaning (inv ∷ []) inv bits
inverter_meant bits h = record {
  entries = λ path m stands e a. (
      let only = alone path m stands in
      subst (λ p. Holds (bits p) e) (sym only.0) (inverter_holds bits h a.0 e (subst (λ (x : Module). At x.entries a.0 e) only.1 a.1)));
  ties = λ path m stands k i at t a. absurd (at_none k i (subst (λ (x : Module). At (instances_in x.entries) k i) (alone path m stands).1 at));
}

-- `module top(input p, output q); inv u(.a(p), .y(q)); endmodule`, with the ports in `top`'s list passed over
abbrev tied : List PortTie
tied = record { port = codes "a"; actual = Some (to_net (codes "p")) } ∷ record { port = codes "y"; actual = Some (to_net (codes "q")) } ∷ []

abbrev top : Module
top = record { line = 2; name = codes "top"; entries = instance 2 (codes "inv") tied ∷ [] }

abbrev the_inverter : Instance
the_inverter = record { module_name = codes "inv"; ties = tied }

-- the instance inverts what its input is tied to
inverts_inside : (bits : List ℕ → List ℕ → Bool) → IsMeaning (top ∷ inv ∷ []) top bits → bits [] (codes "q") ≡ not (bits [] (codes "p"))
inverts_inside bits m =
    sym (m.ties [] top itself 0 the_inverter refl (record { port = codes "y"; actual = Some (to_net (codes "q")) }) (1, refl))
    ∙ m.entries (0 ∷ []) inv (inside 0 the_inverter refl refl itself) (gate 1 G.Not (codes "y" ∷ []) (a_net (codes "a") ∷ [])) (4, refl) (codes "y") (0, refl)
    ∙ ap not (differ_false (bits (0 ∷ []) (codes "a"))) ∙ ap not (m.ties [] top itself 0 the_inverter refl (record { port = codes "a"; actual = Some (to_net (codes "p")) }) (0, refl))
