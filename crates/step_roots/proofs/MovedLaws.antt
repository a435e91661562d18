-- Functions of which variables are moved, variable by variable; and from which valuations they are reached.
use Rattle.std.proofs.Common.{◌≡◌, ℕ, suc, ◌+◌, ◌-◌, ◌*◌, ◌≤◌, ◌||◌, Bool, true, List, [], ◌∷◌, Result, Ok, Err, ap, ap₂, arith, eqb, length, refl, sym, ◌∙◌, inl, inr}
use Rattle.std.proofs.Math.Path.{fun_ext}
use Rattle.std.proofs.lemmas.Bool.{cases_eq, eq-eqb, eqb-true, false≢true, or_cases, or_left, or_right}
use Rattle.bdd_core.proofs.Canonical.{with_bit_here, with_bit_other}
use Rattle.bdd_core.proofs.Frames.{gives_made, gives_next, nodes_then}
use Rattle.bdd_core.specs.Diagram.{Function, Valuation, fixed, with_bit}
use Rattle.bdd_core.specs.Store.{AddsNodes, Diagrams, Gives, IsLive, Makes, function_of}
use Rattle.bdd_core.specs.declared.handle.H.{H}
use Rattle.bdd_core.specs.declared.handle.Spent.{Spent}
use Rattle.bdd_ops.proofs.CountingLaws.{counted_more, counted_then, counts_more, counts_then}
use Rattle.bdd_ops.specs.Counting.{Counts, IsCounted}
use Rattle.bdd_ops.specs.Ops.{or_of}
use Rattle.step_roots.proofs.CareCounts.{counts_later}
use Rattle.step_roots.specs.Moved.{Moves, moved_by, moved_of}
use Rattle.vrt_model.specs.Lists.{has_number}

-- ---- one variable

pub moves_one : (old mid new : Diagrams) (x : ℕ) (bit : Bool) (f there : H) (r : Result H Spent) → IsLive old f → Makes old mid (fixed (function_of old f) x bit) (Ok there)
    → Makes mid new (or_of (function_of mid f) (function_of mid there)) r → Gives old new (moved_by x bit (function_of old f)) r
moves_one old mid new x bit f there r live first second =
    let one = fixed (function_of old f) x bit in
    let two = or_of (function_of mid f) (function_of mid there) in
    gives_next old mid new one two (moved_by x bit (function_of old f)) there r (gives_made old mid one one (Ok there) (λ v. refl) first) (gives_made mid new two two r (λ v. refl) second)
    (λ v. ap₂ {C = Bool} (λ (a b : Bool). a || b) (first.adds.kept f.0 live v) (first.ok.same v))

-- ---- the variables so far

module _ (variables : List ℕ) (bit : Bool) (f : H) (first : Diagrams) where
  -- what is reached so far, with the variables that are left, is all
  pub record IsMoving (left : List ℕ) (reached : H) (now : Diagrams) : Type 0 where
    pub few : length left ≤ length variables
    pub adds : AddsNodes first now
    pub live : IsLive now reached
    pub is : moved_of left bit (function_of now reached) ≡ moved_of variables bit (function_of first f)
    pub counted : IsCounted first.vars (2 * (length variables - length left)) first now

  pub moving_more : (x : ℕ) (behind : List ℕ) (reached next : H) (now new : Diagrams) → IsMoving (x ∷ behind) reached now → Gives now new (moved_by x bit (function_of now reached)) (Ok next)
      → Counts now.vars 2 now new (Ok next) → IsMoving behind next new
  moving_more x behind reached next now new moving gives counts = record {
    few = (let few = moving.few in omega (arith, few));
    adds = nodes_then first now new moving.adds gives.adds;
    live = gives.ok.live;
    is = ap (λ (g : Function). moved_of behind bit g) (fun_ext (λ v. gives.ok.same v)) ∙ moving.is;
    counted =
        let few = moving.few in
        let so_far : ℕ = length variables - suc (length behind) in
        let later = counts_later first now first.words moving.adds 2 new (Ok next) counts in
        counted_more first.vars (2 * so_far + 2) (2 * (length variables - length behind)) first new (omega (arith, few)) (counted_then first.vars (2 * so_far) 2 first now new moving.counted later.added);
  }

  pub moving_refused : (left : List ℕ) (x : ℕ) (behind : List ℕ) (reached : H) (now new : Diagrams) (e : Spent) → left ≡ x ∷ behind → IsMoving left reached now → Counts {A = H} now.vars 2 now new (Err e)
      → Counts {A = H} first.vars (2 * length variables) first new (Err e)
  moving_refused left x behind reached now new e is moving counts =
      let few = moving.few in
      let same : length left ≡ length (x ∷ behind) = ap (λ (xs : List ℕ). length xs) is in
      let later = counts_later first now first.words moving.adds 2 new (Err e) counts in
      counts_more first.vars (2 * (length variables - length left) + 2) (2 * length variables) first new (Err e) (omega (arith, few, same))
      (counts_then first.vars (2 * (length variables - length left)) 2 first now new (Err e) moving.counted later)

-- ---- from which valuations some are reached

-- a valuation with its own bit at a variable is itself
same_bit : (v : Valuation) (x : ℕ) (bit : Bool) → v x ≡ bit → with_bit v x bit ≡ v
same_bit v x bit e = fun_ext (λ y. elim (cases_eq y x) [
  | inl here ↦ ap (with_bit v x bit) here ∙ with_bit_here v x bit ∙ sym e ∙ ap v (sym here)
  | inr other ↦ with_bit_other v x y bit other
])

-- from each valuation from which the function is reached it is 1
pub moved_from : (xs : List ℕ) (bit : Bool) (f : Function) (v w : Valuation) → Moves xs bit v w → f w ≡ true → moved_of xs bit f v ≡ true
moved_from [] bit f v w moves e = ap f (fun_ext (λ i. elim (moves i) [ inl same ↦ same | inr moved ↦ absurd (false≢true moved.0) ])) ∙ e
moved_from (x ∷ xs) bit f v w moves e = moved_from xs bit (moved_by x bit f) v back before here
  where
    -- the valuation before the first variable was moved
    back : Valuation
    back = with_bit w x (v x)

    before : Moves xs bit v back
    before i = elim (cases_eq i x) [
      | inl at ↦ inl (ap v at ∙ sym (ap back at ∙ with_bit_here w x (v x)))
      | inr other ↦
          let same : back i ≡ w i = with_bit_other w x i (v x) other in
          elim (moves i) [
            | inl is ↦ inl (is ∙ sym same)
            | inr moved ↦ elim (or_cases (eqb x i) (has_number xs i) moved.0) [
              | inl here ↦ absurd (other (sym (eqb-true x i here)))
              | inr later ↦ inr (later, same ∙ moved.1)
            ]
          ]
    ]

    there : w x ≡ bit → with_bit back x bit ≡ w
    there is = fun_ext (λ y. elim (cases_eq y x) [
      | inl at ↦ ap (with_bit back x bit) at ∙ with_bit_here back x bit ∙ sym is ∙ ap w (sym at)
      | inr other ↦ with_bit_other back x y bit other ∙ with_bit_other w x y (v x) other
    ])

    here : moved_by x bit f back ≡ true
    here = elim (moves x) [
      | inl same ↦ or_left (f back) (fixed f x bit back) (ap f (same_bit w x (v x) (sym same)) ∙ e)
      | inr moved ↦ or_right (f back) (fixed f x bit back) (ap f (there moved.1) ∙ e)
    ]

-- and where it is 1, some valuation is reached at which the function is
pub moved_to : (xs : List ℕ) (bit : Bool) (f : Function) (v : Valuation) → moved_of xs bit f v ≡ true → (w : Valuation) × Moves xs bit v w × (f w ≡ true)
moved_to [] bit f v e = (v, λ i. inl refl, e)
moved_to (x ∷ xs) bit f v e =
    let last = moved_to xs bit (moved_by x bit f) v e in
    elim (or_cases (f last.0) (fixed f x bit last.0) last.2) [
      | inl here ↦ (
        last.0,
        λ i. elim (last.1 i) [
          | inl same ↦ inl same
          | inr moved ↦ inr (or_right (eqb x i) (has_number xs i) moved.0, moved.1)
        ],
        here,
      )
      | inr there ↦ (
        with_bit last.0 x bit,
        λ i. elim (cases_eq i x) [
          | inl at ↦ inr (or_left (eqb x i) (has_number xs i) (eq-eqb x i (sym at)), ap (with_bit last.0 x bit) at ∙ with_bit_here last.0 x bit)
          | inr other ↦
              let same : with_bit last.0 x bit i ≡ last.0 i = with_bit_other last.0 x i bit other in
              elim (last.1 i) [
                | inl is ↦ inl (is ∙ sym same)
                | inr moved ↦ inr (or_right (eqb x i) (has_number xs i) moved.0, same ∙ moved.1)
              ]
        ],
        there,
      )
    ]
