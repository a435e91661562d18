-- The rules that count on the nets, while they are noted.
use Rattle.std.proofs.Common.{◌≡◌, ◌<◌, ◌+◌, ◌∷◌, [], ℕ, suc, List, Option, None, drop, get_or, length, refl, ap, sym, ◌∙◌, arith}
use Rattle.flat_holds.specs.Falls.{HasNoted, best_at, best_from, closer_by, depth_of, own_places, spot_at}
use Rattle.flat_holds.specs.declared.falls.Spot.{Spot}
use Rattle.line_laws.proofs.LineLaws.{earlier_alone, earlier_joined}
use Rattle.net_places.specs.declared.places.Place.{Place}
use Rattle.net_places.specs.declared.whole.Unrolled.{Unrolled}
use Rattle.rule_index.specs.declared.by_cell.ByCell.{ByCell}
use Rattle.vrt_model.proofs.Lists.{drop_one}
use Rattle.vrt_model.specs.Lists.{At}
use Rattle.vrt_model.specs.declared.design.Design.{Design}
use Rattle.vrt_model.specs.declared.rules.Rules.{Rules}

abbrev pub Spots : Type 0
Spots = List (Option Spot)

-- what is noted now, and what is left to note, is all that is to be noted
pub record IsNoting (all : ℕ → Option Spot) (old now : Spots) (left : ℕ → Option Spot) : Type 0 where
  pub len : length now ≡ length old
  pub noted : (n : ℕ) → n < length old → closer_by depth_of (get_or now n None) (left n) ≡ closer_by depth_of (get_or old n None) (all n)

-- ---- one after the other

-- all is left
pub begun : (all : ℕ → Option Spot) (table : Spots) → IsNoting all table table all
begun all table = record { len = refl; noted = λ n lt. refl }

-- one more
pub step : (all left more rest : ℕ → Option Spot) (old now next : Spots) → ((n : ℕ) → left n ≡ closer_by depth_of (more n) (rest n)) → IsNoting all old now left → HasNoted more now next
    → IsNoting all old next rest
step all left more rest old now next e before one = record {
  len = one.len ∙ before.len;
  noted = λ n lt.
      ap (λ (o : Option Spot). closer_by depth_of o (rest n)) (one.noted n (let len = before.len in omega (arith, len, lt)))
      ∙ earlier_joined depth_of (get_or now n None) (more n) (rest n)
      ∙ sym (ap (closer_by depth_of (get_or now n None)) (e n)) ∙ before.noted n lt;
}

-- nothing is left
pub done : (all left : ℕ → Option Spot) (old now : Spots) → ((n : ℕ) → left n ≡ None) → IsNoting all old now left → HasNoted all old now
done all left old now e noting = record {
  len = noting.len;
  noted = λ n lt. sym (earlier_alone depth_of (get_or now n None)) ∙ sym (ap (closer_by depth_of (get_or now n None)) (e n)) ∙ noting.noted n lt;
}

-- ---- the rules of a place

module _ (design : Design) (rules : Rules) (unrolled : Unrolled) (number : ℕ) (p : Place) where
  pub next_rule : (all : ℕ → Option Spot) (left behind : List ℕ) (at : ℕ) (old now next : Spots) → left ≡ at ∷ behind → IsNoting all old now (λ n. best_at design rules unrolled n number p left)
      → HasNoted (λ n. spot_at design rules unrolled n number p at) now next → IsNoting all old next (λ n. best_at design rules unrolled n number p behind)
  next_rule all left behind at old now next e before one =
      step all (λ n. best_at design rules unrolled n number p left) (λ n. spot_at design rules unrolled n number p at) (λ n. best_at design rules unrolled n number p behind) old now next
      (λ n. ap (λ (lines : List ℕ). best_at design rules unrolled n number p lines) e) before one

  pub last_rule : (all : ℕ → Option Spot) (left : List ℕ) (old now : Spots) → left ≡ [] → IsNoting all old now (λ n. best_at design rules unrolled n number p left) → HasNoted all old now
  last_rule all left old now e noting =
      done all (λ n. best_at design rules unrolled n number p left) old now (λ n. ap (λ (lines : List ℕ). best_at design rules unrolled n number p lines) e) noting

-- ---- the places

module _ (design : Design) (rules : Rules) (holds : ByCell) (unrolled : Unrolled) where
  abbrev pub from : ℕ → ℕ → Option Spot
  from k n = best_from design rules holds unrolled n k (drop k unrolled.places)

  pub next_place : (all : ℕ → Option Spot) (k : ℕ) (p : Place) (old now next : Spots) → At unrolled.places k p → IsNoting all old now (from k)
      → HasNoted (λ n. best_at design rules unrolled n k p (own_places design holds p)) now next → IsNoting all old next (from (k + 1))
  next_place all k p old now next here before one =
      let following : k + 1 ≡ suc k = omega arith in
      step all (from k) (λ n. best_at design rules unrolled n k p (own_places design holds p)) (from (k + 1)) old now next
      (λ n.
      ap (λ (ps : List Place). best_from design rules holds unrolled n k ps) (drop_one unrolled.places k p here)
      ∙ sym (ap (λ (m : ℕ). closer_by depth_of (best_at design rules unrolled n k p (own_places design holds p)) (best_from design rules holds unrolled n m (drop (k + 1) unrolled.places))) following)) before one
