-- What a table by net has, as a list.
use Rattle.std.proofs.Common.{◌≡◌, ℕ, zero, suc, ◌+◌, ◌<◌, ◌≤◌, ◌∷◌, List, [], replicate, Option, Some, None, arith, ap, ap₂, refl, sym, subst, ◌∙◌, inl, inr}
use Rattle.std.proofs.lemmas.Bool.{cases_lt}
use Rattle.std.proofs.lemmas.List.{get_or-replicate, get_or_past, length-replicate}
use Rattle.std.proofs.lemmas.Option.{none-some, same_Some}
use Rattle.phase_wishes.specs.Held.{Puts, entry, wishes_from}
use Rattle.phase_wishes.specs.declared.wishes.Wanted.{Wanted}
use Rattle.phase_wishes.specs.declared.wishes.Wish.{Wish}
use Rattle.vrt_model.proofs.Members.{among_later, at_none}
use Rattle.vrt_model.specs.Lists.{Among, At}
use Rattle.vrt_model.specs.declared.ids.Net.{Net}
use Rattle.vrt_model.specs.declared.verdict.FaultKind.{FaultKind}

-- ---- the entries as a list

module _ (kind : FaultKind) where
  abbrev pub wish_at : ℕ → Wanted → Wish
  wish_at n w = let net : Net = record { 0 = n } in let wish : Wish = record { kind = kind; place = n; net = net; wanted = w; free = None } in wish

  from_among : (n : ℕ) (t : List (Option Wanted)) (wish : Wish) → Among (wishes_from kind n t) wish → (i : ℕ) × (w : Wanted) × (entry t i ≡ Some w) × (wish ≡ wish_at (n + i) w)
  from_among n [] wish m = absurd (at_none m.0 wish m.1)
  from_among n (None ∷ xs) wish m =
      let r = from_among (n + 1) xs wish m in (suc r.0, r.1, r.2, r.3 ∙ ap (λ (j : ℕ). wish_at j r.1) (omega arith))
  from_among n (Some w ∷ xs) wish (zero, e) = (0, w, refl, sym (same_Some (wish_at n w) wish e) ∙ ap (λ (j : ℕ). wish_at j w) (omega arith))
  from_among n (Some w ∷ xs) wish (suc i, e) =
      let r = from_among (n + 1) xs wish (i, e) in (suc r.0, r.1, r.2, r.3 ∙ ap (λ (j : ℕ). wish_at j r.1) (omega arith))

  pub among_from : (n : ℕ) (t : List (Option Wanted)) (i : ℕ) (w : Wanted) → entry t i ≡ Some w → Among (wishes_from kind n t) (wish_at (n + i) w)
  among_from n [] i w e = absurd (none-some w e)
  among_from n (None ∷ xs) zero w e = absurd (none-some w e)
  among_from n (None ∷ xs) (suc i) w e = subst (λ (j : ℕ). Among (wishes_from kind (n + 1) xs) (wish_at j w)) (omega arith) (among_from (n + 1) xs i w e)
  among_from n (Some x ∷ xs) zero w e = (0, ap₂ (λ (j : ℕ) (y : Wanted). Some (wish_at j y)) (omega arith) (same_Some x w e))
  among_from n (Some x ∷ xs) (suc i) w e =
      subst (λ (j : ℕ). Among (wish_at n x ∷ wishes_from kind (n + 1) xs) (wish_at j w)) (omega arith)
      (among_later (wish_at n x) (wishes_from kind (n + 1) xs) (wish_at (n + 1 + i) w) (among_from (n + 1) xs i w e))

  from_low : (n : ℕ) (t : List (Option Wanted)) (wish : Wish) → Among (wishes_from kind n t) wish → n ≤ wish.place
  from_low n t wish m = let r = from_among n t wish m in let is = ap (λ (x : Wish). x.place) r.3 in omega (arith, is)

  pub rises : (n : ℕ) (t : List (Option Wanted)) (i j : ℕ) (x y : Wish) → At (wishes_from kind n t) i x → At (wishes_from kind n t) j y → i < j → x.place < y.place
  rises n [] i j x y here there lt = absurd (at_none i x here)
  rises n (None ∷ xs) i j x y here there lt = rises (n + 1) xs i j x y here there lt
  rises n (Some w ∷ xs) i zero x y here there lt = absurd (omega (arith, lt))
  rises n (Some w ∷ xs) zero (suc j) x y here there lt =
      let is = ap (λ (z : Wish). z.place) (same_Some (wish_at n w) x here) in let low = from_low (n + 1) xs y (j, there) in omega (arith, is, low)
  rises n (Some w ∷ xs) (suc i) (suc j) x y here there lt = rises (n + 1) xs i j x y here there (omega (arith, lt))

-- ---- a table into which these were put

module _ (Is : ℕ → Wanted → Type 0) (count : ℕ) (table : List (Option Wanted)) (puts : Puts Is (replicate count None) table) where
  no_entry : (n : ℕ) → entry (replicate (count) None) n ≡ None
  no_entry n = elim (cases_lt n (count)) [
    | inl lt ↦ get_or-replicate (count) n None None lt
    | inr ge ↦ get_or_past (replicate (count) None) n None (let len = length-replicate {A = Option Wanted} (count) None in omega (arith, ge, len))
  ]

  pub entry_is : (n : ℕ) (x : Wanted) → entry table n ≡ Some x → Is n x
  entry_is n x e = elim (puts.kept n x e) [ inl old ↦ absurd (none-some x (sym (no_entry n) ∙ old)) | inr is ↦ is ]

module _ (kind : FaultKind) (Is : ℕ → Wanted → Type 0) (count : ℕ) (table : List (Option Wanted)) (puts : Puts Is (replicate count None) table) where
  pub from_table : (wish : Wish) → Among (wishes_from kind 0 table) wish → (n : ℕ) × (x : Wanted) × Is n x × (wish ≡ wish_at kind n x)
  from_table wish m =
      let r = from_among kind 0 table wish m in
      (r.0, r.1, entry_is Is count table puts r.0 r.1 r.2, r.3 ∙ ap (λ (j : ℕ). wish_at kind j r.1) (omega arith))

  pub kind_in : (wish : Wish) → Among (wishes_from kind 0 table) wish → wish.kind ≡ kind
  kind_in wish m = ap (λ (x : Wish). x.kind) (from_table wish m).3
