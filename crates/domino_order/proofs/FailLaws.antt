-- From where steps begin that fail to the bits of one.
use Rattle.std.proofs.Common.{◌≡◌, ◌≢◌, ℕ, ◌<◌, ◌++◌, ◌⊎◌, All, Bool, true, false, List, Option, Result, Ok, Err, ap, arith, length, map, subst, sym, ◌∙◌, inl, inr}
use Rattle.std.specs.Prelude.{◌↔◌, IfOk, IsTrue}
use Rattle.std.proofs.lemmas.Bool.{cases_eq, false≢true}
use Rattle.node_pool.specs.declared.region.Span.{Span}
use Rattle.bdd_core.specs.Diagram.{Function, Valuation}
use Rattle.bdd_core.specs.Store.{Diagrams, Gives, function_of}
use Rattle.bdd_core.specs.declared.handle.H.{H}
use Rattle.bdd_core.specs.declared.handle.Spent.{Spent}
use Rattle.bdd_ops.specs.Counting.{Counts}
use Rattle.bdd_ops.specs.Ops.{IsLeast, bits_in, bits_of}
use Rattle.domino_order.proofs.BeginLaws.{found_gives, order_len}
use Rattle.domino_order.proofs.LookLaws.{arrivals_there, order_there}
use Rattle.domino_order.proofs.RunLaws.{asked_passes, least_holds, there_len}
use Rattle.domino_order.proofs.StartLaws.{used_words}
use Rattle.domino_order.proofs.StepFound.{same_vars}
use Rattle.domino_order.specs.Beginnings.{near_of}
use Rattle.domino_order.specs.Runs.{EndIs, FailsSomewhere, IsAsked, IsBound, IsLooked, MayPass, RunGives, asked_variables, bits_there, first_bits, look_operations, near_operations, of_asked, phase_variables, run_operations}
use Rattle.domino_order.specs.declared.found.NetFound.TheVariants.{Fails}
use Rattle.domino_order.specs.declared.prepared.Asked.{Asked}
use Rattle.domino_order.specs.declared.runs.Looked.{Looked}
use Rattle.phase_terms.specs.Stores.{IsUsed}
use Rattle.vrt_model.specs.Lists.{has_number}
use Rattle.vrt_model.specs.declared.NoMemory.{NoMemory}
use Rattle.vrt_model.specs.declared.groups.Valuation.{Valuation as Found}

-- those of the least, where the handle is not that of the constant 0
pub least_end : (old new : Diagrams) (near : H) (words : Span) (count : ℕ) (bound : Option Found) (r : Result (List Bool) NoMemory) → words.len ≡ old.vars
    → IsLeast old.vars (function_of old near) (bits_in new.words words.start) → IfOk r (λ bits. bits ≡ bits_there new words) → IfOk r (λ bits. EndIs old near count bound bits)
least_end old new near words count bound (Err e) len least read = tt
least_end old new near words count bound (Ok bits) len least read =
    let here = least_holds new words (function_of old near) (subst (λ (x : ℕ). IsLeast x (function_of old near) (bits_in new.words words.start)) (sym len) least) in
    inl (
      ap (λ (xs : List Bool). function_of old near (bits_of xs)) read ∙ here,
      ap (λ (xs : List Bool). length xs) read ∙ there_len new words ∙ len,
    )

-- those of the bound, where it is
pub bound_end : (old : Diagrams) (near : H) (count : ℕ) (bound : Option Found) (stands : Bool) (r : Result (List Bool) NoMemory) → stands ≡ false → (IsTrue stands ↔ (near.0 ≢ 0))
    → IfOk r (λ bits. bits ≡ first_bits count bound) → IfOk r (λ bits. EndIs old near count bound bits)
bound_end old near count bound stands (Err e) none zero first = tt
bound_end old near count bound stands (Ok bits) none zero first = by_zero (cases_eq near.0 0)
  where
    by_zero : (near.0 ≡ 0) ⊎ (near.0 ≢ 0) → EndIs old near count bound bits
    by_zero (inl same) = inr (same, first)
    by_zero (inr other) = absurd (false≢true (sym none ∙ zero.1 other))

module _ (s : Asked) (is : IsAsked s) (n : ℕ) (listed : has_number s.rising.nets.now n ≡ true) (bound : Option Found) (bounded : IsBound (of_asked s) s.rising.phase s.rising.nets.now n bound) (looked : Looked) (at : H)
    (d0 d1 : Diagrams) (look : IsLooked s n bound looked d0) (found : FailsSomewhere s n bound looked.ends at d0) (rest : d1 ≡ record d0 { words = d1.words }) where
  vars_one : d1.vars ≡ phase_variables s
  vars_one = ap (λ (d : Diagrams). d.vars) rest ∙ look.vars

  budget_one : d1.budget ≡ d0.budget
  budget_one = ap (λ (d : Diagrams). d.budget) rest

  ends_same : function_of d1 looked.ends ≡ function_of d0 looked.ends
  ends_same = ap (λ (d : Diagrams). function_of d looked.ends) rest

  pub order_here : All (λ (x : ℕ). x < d1.vars) s.order.now
  order_here = order_there s is n listed d1.vars vars_one

  -- a refusal while the ends are looked for
  pub near_passes : {A : Type 0} (d2 : Diagrams) (e : Spent) → Counts {A = A} d1.vars (near_operations s) d1 d2 (Err e) → MayPass (asked_variables s) d0.budget (run_operations s)
  near_passes {A} d2 e counts =
      let used : IsUsed d1.budget d1.vars (look_operations s) d1 =
      subst (λ (x : ℕ). IsUsed x d1.vars (look_operations s) d1) (sym budget_one)
      (subst (λ (x : ℕ). IsUsed d0.budget x (look_operations s) d1) (sym (ap (λ (d : Diagrams). d.vars) rest)) (used_words d0.budget d0.vars (look_operations s) d0 d1 rest look.used)) in
      asked_passes {A = A} s (look_operations s) (near_operations s) (run_operations s) d0.budget d1 d2 e vars_one budget_one used (let least = look.budget in let same = budget_one in omega (arith, least, same)) (omega arith) counts

  module _ (us : List Bool) (us_are : us ≡ bits_there d1 looked.least) where
    us_len : length us ≡ phase_variables s
    us_len = ap (λ (xs : List Bool). length xs) us_are ∙ there_len d1 looked.least ∙ look.least.1 ∙ look.vars

    pub us_many : length us ≡ length s.order.now
    us_many = (let a = us_len in let b = order_len s is n listed in omega (arith, a, b))

    pub arrivals_here : All (λ (x : ℕ). x < length us) s.arrivals.now
    arrivals_here = arrivals_there s is n listed (length us) us_len

    module _ (stands : Bool) (one : IsTrue stands ↔ (at.0 ≢ 0)) (least : IsTrue stands → IsLeast d0.vars (function_of d0 at) (bits_in d1.words looked.least.start)) where
      at_us : function_of d0 at (bits_of us) ≡ true
      at_us =
          ap (λ (xs : List Bool). function_of d0 at (bits_of xs)) us_are
          ∙ least_holds d1 looked.least (function_of d0 at)
          (subst (λ (x : ℕ). IsLeast x (function_of d0 at) (bits_in d1.words looked.least.start)) (sym look.least.1) (least (one.1 found.some)))

      -- the bits of a step
      pub step_found : (d2 : Diagrams) (near : H) → Gives d1 d2 (near_of s.order.now s.arrivals.now us (function_of d1 looked.ends)) (Ok near) → (end bits : List Bool)
          → EndIs d2 near (length s.order.now) bound end → bits ≡ end ++ map (bits_of us) s.arrivals.now → RunGives s n bound d0.budget (Fails (record { bits = bits }))
      step_found d2 near gives end bits there made =
          let begins = found.begins us at_us in
          subst (λ (xs : List Bool). RunGives s n bound d0.budget (Fails (record { bits = xs }))) (sym made)
          (found_gives s is n listed (function_of d0 looked.ends) us us_len begins.0
          (λ more step same. found.fails more step (ap (λ (v : Valuation). function_of d0 at v) same ∙ at_us)) d0.budget bound bounded look.ends begins.1 near d2
          (λ w. gives.ok.same w ∙ ap (λ (f : Function). near_of s.order.now s.arrivals.now us f w) ends_same)
          (same_vars d1 d2 d1.words gives.adds ∙ vars_one) end there)
