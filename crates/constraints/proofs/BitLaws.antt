-- A function, where besides that of a handle is a wanted bit.
use Rattle.std.proofs.Common.{◌≡◌, ℕ, ◌≤◌, ◌&&◌, Bool, true, false, not, cond, Result, length, ap, refl, sym, ◌∙◌}
use Rattle.bdd_core.proofs.Frames.{gives_made}
use Rattle.bdd_core.proofs.Meaning.{meaning_zero}
use Rattle.bdd_core.specs.Diagram.{Function, IsWithin, choice, meaning}
use Rattle.bdd_core.specs.Store.{Diagrams, Gives, Makes, function_of}
use Rattle.bdd_core.specs.declared.handle.H.{H}
use Rattle.bdd_core.specs.declared.handle.Spent.{Spent}
use Rattle.bdd_ops.proofs.CountingLaws.{counts_made}
use Rattle.bdd_ops.proofs.WithinLaws.{within_choice, within_zero}
use Rattle.bdd_ops.specs.Counting.{Counts}
use Rattle.vrt_model.specs.Lists.{differ}

wanted_one : (bit all : Bool) → cond bit all false ≡ (all && not (differ true bit))
wanted_one true true = refl
wanted_one true false = refl
wanted_one false true = refl
wanted_one false false = refl

wanted_zero : (bit all : Bool) → cond bit false all ≡ (all && not (differ false bit))
wanted_zero true true = refl
wanted_zero true false = refl
wanted_zero false true = refl
wanted_zero false false = refl

module _ (old new : Diagrams) (bit all : H) (wanted : Bool) (r : Result H Spent) where
  abbrev one : Function
  one = choice (function_of old bit) (function_of old all) (meaning old.nodes 0)

  abbrev zero : Function
  zero = choice (function_of old bit) (meaning old.nodes 0) (function_of old all)

  abbrev target : Bool → Function
  target b = λ v. function_of old all v && not (differ b (function_of old bit v))

  pub one_gives : wanted ≡ true → Makes old new one r → Gives old new (target wanted) r
  one_gives e makes =
      gives_made old new one (target wanted) r
      (λ v.
      ap (λ (z : Bool). cond (function_of old bit v) (function_of old all v) z) (meaning_zero old.nodes v)
      ∙ wanted_one (function_of old bit v) (function_of old all v)
      ∙ ap (λ (b : Bool). target b v) (sym e)) makes

  pub zero_gives : wanted ≡ false → Makes old new zero r → Gives old new (target wanted) r
  zero_gives e makes =
      gives_made old new zero (target wanted) r
      (λ v.
      ap (λ (z : Bool). cond (function_of old bit v) z (function_of old all v)) (meaning_zero old.nodes v)
      ∙ wanted_zero (function_of old bit v) (function_of old all v)
      ∙ ap (λ (b : Bool). target b v) (sym e)) makes

  module _ (u : ℕ) (two : 2 ≤ length old.nodes) (bit_in : IsWithin u (function_of old bit)) (all_in : IsWithin u (function_of old all)) where
    pub one_counts : Makes old new one r → Counts u 1 old new r
    one_counts makes = counts_made u old new two one r makes (within_choice u (function_of old bit) (function_of old all) (meaning old.nodes 0) bit_in all_in (within_zero u old))

    pub zero_counts : Makes old new zero r → Counts u 1 old new r
    zero_counts makes = counts_made u old new two zero r makes (within_choice u (function_of old bit) (meaning old.nodes 0) (function_of old all) bit_in (within_zero u old) all_in)
