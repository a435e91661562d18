-- Level by level: what counts the cells in the cells of a level. A tally says what cells count that stand so often, by what each counts of its own.
use Rattle.std.proofs.Common.{◌≡◌, ◌<◌, ◌≤◌, ◌+◌, ◌*◌, ◌∷◌, ℕ, suc, List, length, get_or, drop, refl, ap, sym, ◌∙◌, arith}
use Rattle.std.proofs.Math.Nat.{add-mul, mul-add}
use Rattle.std.proofs.lemmas.List.{drop_more}
use Rattle.std.proofs.lemmas.List.Sums.{sum_by-cons}
use Rattle.flat_sizes.proofs.Carried.{carried_times}
use Rattle.flat_sizes.specs.Totals.{below, over, within}
use Rattle.vrt_model.proofs.Sums.{carried_both}
use Rattle.vrt_model.specs.Unrolled.{cell_named}
use Rattle.vrt_model.specs.Unsupported.{carried}
use Rattle.vrt_model.specs.declared.design.Design.{Design}
use Rattle.vrt_model.specs.declared.design.InstanceCard.{InstanceCard}

abbrev pub Tally : Type 0
Tally = (ℕ → ℕ) → ℕ

-- what two weights count together is what each counts
pub record IsTally (tally : Tally) : Type 0 where
  pub sum : (f g : ℕ → ℕ) → tally (λ k. f k + g k) ≡ tally f + tally g
  pub none : tally (λ k. 0) ≡ 0

-- ---- arithmetic

pub four : (a b c d : ℕ) → a + b + (c + d) ≡ a + c + (b + d)
four a b c d = omega arith

pub none_more : (a b : ℕ) → a ≡ 0 → b ≡ 0 → a + b ≡ 0
none_more a b e f = omega (arith, e, f)

pub later : (a b c d : ℕ) → carried b ≡ carried (c + d) → carried (a + b) ≡ carried (a + c + d)
later a b c d e = omega (arith, e)

here : (x count r w n : ℕ) → n ≡ (x + count) * w → n + r ≡ x * w + r + count * w
here x count r w n e = let d = add-mul x count w in omega (arith, d, e)

-- a cell that stands so often more, with what the others count
pub more_there : (x count new w r : ℕ) → new ≡ carried (x + count) → carried (new * w + r) ≡ carried (x * w + r + count * w)
more_there x count new w r e =
    ap (λ (n : ℕ). carried (n * w + r)) e ∙ carried_both (carried (x + count) * w) r ((x + count) * w) r (carried_times (x + count) w) refl ∙ ap carried (here x count r w ((x + count) * w) refl)

pub card_step : (a b n p q r : ℕ) → carried b ≡ carried (a + p) → n ≡ p + q → carried (a + n) ≡ carried r → carried (b + q) ≡ carried r
card_step a b n p q r e f g = omega (arith, e, f, g)

-- ---- the cells of instances

-- what is added, with what the rest adds, is what all add
abbrev pub Adding : Design → List InstanceCard → ℕ → Tally → Tally → List InstanceCard → Type 0
Adding design cards count old now left =
    (weight : ℕ → ℕ) → carried (now weight + count * over design weight left) ≡ carried (old weight + count * over design weight cards)

pub card_added : (design : Design) (cards : List InstanceCard) (count i : ℕ) (card : InstanceCard) (first old new : Tally) → i < length cards → card ≡ get_or cards i card
    → ((weight : ℕ → ℕ) → carried (new weight) ≡ carried (old weight + count * weight (cell_named design card.cell)))
    → Adding design cards count first old (drop i cards) → Adding design cards count first new (drop (i + 1) cards)
card_added design cards count i card first old new lt is adds so_far weight =
    let rest = drop (i + 1) cards in
    let w : InstanceCard → ℕ = λ (c : InstanceCard). weight (cell_named design c.cell) in
    let n : count * over design weight (drop i cards) ≡ count * w card + count * over design weight rest =
    ap (λ (cs : List InstanceCard). count * over design weight cs) (drop_more cards i card lt)
    ∙ ap (λ (c : InstanceCard). count * over design weight (c ∷ rest)) (sym is)
    ∙ ap (λ (m : ℕ). count * m) (sum_by-cons w card rest) ∙ mul-add count (w card) (over design weight rest) in
    card_step (old weight) (new weight) (count * over design weight (drop i cards)) (count * w card) (count * over design weight rest) _ (adds weight) n (so_far weight)

-- ---- level by level

-- what is counted so far, with what stands in a level at most so deep, is all
abbrev pub IsDown : Design → ℕ → Tally → Tally → Tally → Type 0
IsDown design depth total all level = (weight : ℕ → ℕ) → carried (all weight + level (within design weight depth)) ≡ carried (total weight)

level_step : (a b n x y l t : ℕ) → carried y ≡ carried (a + b) → carried n ≡ carried b → carried (n + x) ≡ carried l → carried (a + l) ≡ carried t → carried (y + x) ≡ carried t
level_step a b n x y l t e f g h = omega (arith, e, f, g, h)

-- one level further down
pub level_down : (design : Design) (depth below_it : ℕ) (total all new level next : Tally) → depth ≡ suc below_it → IsTally next
    → ((weight : ℕ → ℕ) → carried (next weight) ≡ carried (level (below design weight))) → ((weight : ℕ → ℕ) → carried (new weight) ≡ carried (all weight + level (below design weight)))
    → IsDown design depth total all level → IsDown design below_it total new next
level_down design depth d total all new level next e tally nexts news down weight =
    let f : ℕ → ℕ = λ m. weight m + within design weight d m in
    let deep : carried (all weight + level (below design f)) ≡ carried (total weight) = ap (λ (n : ℕ). carried (all weight + level (within design weight n))) (sym e) ∙ down weight in
    let split : carried (next weight + next (within design weight d)) ≡ carried (level (below design f)) = ap carried (sym (tally.sum weight (within design weight d))) ∙ nexts f in
    level_step (all weight) (level (below design weight)) (next weight) (next (within design weight d)) (new weight) (level (below design f)) (total weight) (news weight) (nexts weight) split deep

-- nothing stands below a level that counts nothing
pub level_done : (design : Design) (depth : ℕ) (total all level : Tally) → ((weight : ℕ → ℕ) → level (within design weight depth) ≡ 0) → IsDown design depth total all level
    → (weight : ℕ → ℕ) → carried (all weight) ≡ carried (total weight)
level_done design depth total all level nothing down weight =
    let z : level (within design weight depth) ≡ 0 = nothing weight in
    let none : all weight ≡ all weight + level (within design weight depth) = omega (arith, z) in ap carried none ∙ down weight

-- nor below the last
pub level_last : (design : Design) (depth : ℕ) (total all level : Tally) → IsTally level → depth ≡ 0 → IsDown design depth total all level → (weight : ℕ → ℕ) → carried (all weight) ≡ carried (total weight)
level_last design depth total all level tally e =
    level_done design depth total all level (λ weight. ap (λ (d : ℕ). level (within design weight d)) e ∙ tally.none)
