-- The bits of some variables, variable by variable.
use Rattle.std.proofs.Common.{◌≡◌, ℕ, ◌+◌, ◌-◌, ◌*◌, ◌≤◌, Bool, true, false, cond, not, List, [], ◌∷◌, Result, Ok, Err, ap, arith, drop, length, refl, subst, sym, ◌∙◌}
use Rattle.std.proofs.lemmas.Bool.{false≢true}
use Rattle.bdd_core.proofs.Frames.{adds_none, gives_made, gives_next, nodes_then}
use Rattle.bdd_core.proofs.Meaning.{meaning_one, meaning_zero}
use Rattle.bdd_core.specs.Diagram.{Function, IsReduced, Valuation, bit_of, choice}
use Rattle.bdd_core.specs.Store.{AddsNodes, Diagrams, Gives, IsLive, Makes, function_of}
use Rattle.bdd_core.specs.declared.handle.H.{H}
use Rattle.bdd_core.specs.declared.handle.Spent.{Spent}
use Rattle.bdd_ops.proofs.CountingLaws.{counted_more, counted_none, counted_then, counts_more, counts_then}
use Rattle.bdd_ops.specs.Counting.{Counts, IsCounted}
use Rattle.step_roots.proofs.CareCounts.{counts_later}
use Rattle.step_roots.specs.Bits.{compares}
use Rattle.vrt_model.proofs.Lists.{drop_one}
use Rattle.vrt_model.specs.Lists.{At}

-- the handle of a bit as a constant
abbrev pub constant : Bool → H
constant bit = record { 0 = cond bit 1 0 }

pub constant_is : (d : Diagrams) (bit : Bool) (v : Valuation) → function_of d (constant bit) v ≡ bit
constant_is d true v = meaning_one d.nodes v
constant_is d false v = meaning_zero d.nodes v

pub constant_live : (d : Diagrams) (bit : Bool) → 2 ≤ length d.nodes → IsLive d (constant bit)
constant_live d true two = omega (arith, two)
constant_live d false two = omega (arith, two)

-- by a variable, where the rest follows
abbrev compares_by : Bool → ℕ → Bool → Function → Function
compares_by lesser x bit rest v = cond (v x) (cond bit (rest v) false) (cond bit lesser (rest v))

high_bit : (bit test here lesser : Bool) (rest other : Bool) → bit ≡ true → rest ≡ other → here ≡ lesser → cond test rest here ≡ cond test (cond bit other false) (cond bit lesser other)
high_bit true true here lesser rest other e f g = f
high_bit true false here lesser rest other e f g = g
high_bit false test here lesser rest other e f g = absurd (false≢true e)

low_bit : (bit test here lesser : Bool) (rest other : Bool) → bit ≡ false → rest ≡ other → here ≡ false → cond test here rest ≡ cond test (cond bit other false) (cond bit lesser other)
low_bit false true here lesser rest other e f g = g
low_bit false false here lesser rest other e f g = f
low_bit true test here lesser rest other e f g = absurd (false≢true (sym e))

module _ (lesser : Bool) (old mid new : Diagrams) (x : ℕ) (bit : Bool) (rest test : H) (r : Result H Spent) where
  pub compared_high : (other : H) → other ≡ constant lesser → bit ≡ true → IsLive old rest → Makes old mid (bit_of x) (Ok test)
      → Makes mid new (choice (function_of mid test) (function_of mid rest) (function_of mid other)) r → Gives old new (compares_by lesser x bit (function_of old rest)) r
  compared_high other is e live first second =
      let next = choice (function_of mid test) (function_of mid rest) (function_of mid other) in
      gives_next old mid new (bit_of x) next (compares_by lesser x bit (function_of old rest)) test r (gives_made old mid (bit_of x) (bit_of x) (Ok test) (λ v. refl) first)
      (gives_made mid new next next r (λ v. refl) second)
      (λ v.
      ap (λ (t : Bool). cond t (function_of mid rest v) (function_of mid other v)) (first.ok.same v)
      ∙ high_bit bit (v x) (function_of mid other v) lesser (function_of mid rest v) (function_of old rest v) e (first.adds.kept rest.0 live v)
      (ap (λ (h : H). function_of mid h v) is ∙ constant_is mid lesser v))

  pub compared_low : bit ≡ false → IsLive old rest → Makes old mid (bit_of x) (Ok test) → Makes mid new (choice (function_of mid test) (function_of mid (constant false)) (function_of mid rest)) r
      → Gives old new (compares_by lesser x bit (function_of old rest)) r
  compared_low e live first second =
      let next = choice (function_of mid test) (function_of mid (constant false)) (function_of mid rest) in
      gives_next old mid new (bit_of x) next (compares_by lesser x bit (function_of old rest)) test r (gives_made old mid (bit_of x) (bit_of x) (Ok test) (λ v. refl) first)
      (gives_made mid new next next r (λ v. refl) second)
      (λ v.
      ap (λ (t : Bool). cond t (function_of mid (constant false) v) (function_of mid rest v)) (first.ok.same v)
      ∙ low_bit bit (v x) (function_of mid (constant false) v) lesser (function_of mid rest v) (function_of old rest v) e (first.adds.kept rest.0 live v) (constant_is mid false v))

-- ---- the variables so far

-- the handle has the valuations by the variables from a place on
pub record IsBehind (lesser : Bool) (variables : List ℕ) (bits : List Bool) (left : ℕ) (rest : H) (first now : Diagrams) : Type 0 where
  pub fits : left ≤ length variables
  pub adds : AddsNodes first now
  pub live : IsLive now rest
  pub is : (v : Valuation) → function_of now rest v ≡ compares lesser (drop left variables) (drop left bits) v
  pub counted : IsCounted first.vars (2 * (length variables - left)) first now

none_left : {A : Type 0} (xs : List A) → drop (length xs) xs ≡ []
none_left [] = refl
none_left (x ∷ xs) = none_left xs

pub behind_none : (lesser : Bool) (variables : List ℕ) (bits : List Bool) (rest : H) (d : Diagrams) → IsReduced d.vars d.nodes → length d.nodes ≤ d.budget → rest ≡ constant (not lesser)
    → IsBehind lesser variables bits (length variables) rest d d
behind_none lesser variables bits rest d sound within e = record {
  fits = omega arith;
  adds = adds_none d sound within;
  live = subst (IsLive d) (sym e) (constant_live d (not lesser) sound.ends);
  is = λ v.
      ap (λ (h : H). function_of d h v) e ∙ constant_is d (not lesser) v ∙ ap (λ (xs : List ℕ). compares lesser xs (drop (length variables) bits) v) (sym (none_left variables));
  counted = counted_more d.vars 0 (2 * (length variables - length variables)) d d (omega arith) (counted_none d.vars d);
}

module _ (lesser : Bool) (variables : List ℕ) (bits : List Bool) (left x : ℕ) (bit : Bool) (rest next : H) (first now new : Diagrams) (variable : At variables left x) (there : At bits left bit)
    (before : IsBehind lesser variables bits (left + 1) rest first now) (gives : Gives now new (compares_by lesser x bit (function_of now rest)) (Ok next)) (counts : Counts now.vars 2 now new (Ok next)) where
  cut : (v : Valuation) → compares lesser (drop left variables) (drop left bits) v ≡ compares_by lesser x bit (λ w. compares lesser (drop (left + 1) variables) (drop (left + 1) bits) w) v
  cut v =
      ap (λ (xs : List ℕ). compares lesser xs (drop left bits) v) (drop_one variables left x variable)
      ∙ ap (λ (bs : List Bool). compares lesser (x ∷ drop (left + 1) variables) bs v) (drop_one bits left bit there)

  pub behind_one : IsBehind lesser variables bits left next first new
  behind_one = record {
    fits = (let fits = before.fits in omega (arith, fits));
    adds = nodes_then first now new before.adds gives.adds;
    live = gives.ok.live;
    is = λ v. gives.ok.same v ∙ ap (λ (b : Bool). cond (v x) (cond bit b false) (cond bit lesser b)) (before.is v) ∙ sym (cut v);
    counted =
        let fits = before.fits in
        let here = counts_later first now first.words before.adds 2 new (Ok next) counts in
        counted_more first.vars (2 * (length variables - (left + 1)) + 2) (2 * (length variables - left)) first new (omega (arith, fits))
        (counted_then first.vars (2 * (length variables - (left + 1))) 2 first now new before.counted here.added);
  }

pub behind_refused : (lesser : Bool) (variables : List ℕ) (bits : List Bool) (left : ℕ) (rest : H) (first now new : Diagrams) (e : Spent) → IsBehind lesser variables bits (left + 1) rest first now
    → Counts {A = H} now.vars 2 now new (Err e) → Counts {A = H} first.vars (2 * length variables) first new (Err e)
behind_refused lesser variables bits left rest first now new e before counts =
    let fits = before.fits in
    let here = counts_later first now first.words before.adds 2 new (Err e) counts in
    counts_more first.vars (2 * (length variables - (left + 1)) + 2) (2 * length variables) first new (Err e) (omega (arith, fits))
    (counts_then first.vars (2 * (length variables - (left + 1))) 2 first now new (Err e) before.counted here)
