-- Graphs that grow arc by arc.
use Rattle.std.proofs.Common.{◌≡◌, ℕ, ◌+◌, ◌⊎◌, List, arith, subst, sym, refl, ◌∙◌, inl, inr}
use Rattle.std.proofs.lemmas.Option.{same_Some}
use Rattle.channel_parts.specs.NetGraphs.{ArcsBelow}
use Rattle.known_nets.proofs.PlaceLaws.{below_or_at}
use Rattle.known_nets.specs.Placed.{Adds}
use Rattle.vrt_model.specs.Lists.{At}

pub none_adds : (Arc : ℕ → ℕ → Type 0) (graph : List (List ℕ)) → ((from to : ℕ) → Arc from to → ⊥) → Adds Arc graph graph
none_adds Arc graph none = record {
  count = refl;
  only = λ f t arc. inl arc;
  stays = λ f t arc. arc;
  joined = λ f t arc lt. absurd (none f t arc);
}

pub same_adds : (A B : ℕ → ℕ → Type 0) (old new : List (List ℕ)) → ((from to : ℕ) → A from to → B from to) → ((from to : ℕ) → B from to → A from to) → Adds A old new → Adds B old new
same_adds A B old new forth back adds = record {
  count = adds.count;
  only = λ f t arc. elim (adds.only f t arc) [ inl o ↦ inl o | inr a ↦ inr (forth f t a) ];
  stays = adds.stays;
  joined = λ f t arc lt. adds.joined f t (back f t arc) lt;
}

pub more_adds : (A B C : ℕ → ℕ → Type 0) (old mid new : List (List ℕ)) → ((from to : ℕ) → A from to → C from to) → ((from to : ℕ) → B from to → C from to)
    → ((from to : ℕ) → C from to → A from to ⊎ B from to) → Adds A old mid → Adds B mid new → Adds C old new
more_adds A B C old mid new left right split first second = record {
  count = second.count ∙ first.count;
  only = λ f t arc. elim (second.only f t arc) [
    | inl before ↦ elim (first.only f t before) [ inl o ↦ inl o | inr a ↦ inr (left f t a) ]
    | inr b ↦ inr (right f t b)
  ];
  stays = λ f t arc. second.stays f t (first.stays f t arc);
  joined = λ f t arc lt. elim (split f t arc) [
    | inl a ↦ second.stays f t (first.joined f t a lt)
    | inr b ↦ (let count = first.count in second.joined f t b (omega (arith, lt, count)))
  ];
}

-- ---- arcs by the items of a list

-- none by those before the first
pub none_below : {X : Type 0} (xs : List X) (Arc : X → ℕ → ℕ → Type 0) (graph : List (List ℕ)) → Adds (ArcsBelow xs Arc 0) graph graph
none_below xs Arc graph = none_adds (ArcsBelow xs Arc 0) graph (λ f t arc. let lt = arc.2 in omega (arith, lt))

-- and those by one item more
pub more_below : {X : Type 0} (xs : List X) (Arc : X → ℕ → ℕ → Type 0) (at : ℕ) (x : X) (old mid new : List (List ℕ)) → At xs at x
    → Adds (ArcsBelow xs Arc at) old mid → Adds (Arc x) mid new → Adds (ArcsBelow xs Arc (at + 1)) old new
more_below {X} xs Arc at x old mid new there =
    more_adds (ArcsBelow xs Arc at) (Arc x) (ArcsBelow xs Arc (at + 1)) old mid new
    (λ f t arc. (arc.0, arc.1, let lt = arc.2 in omega (arith, lt), arc.3, arc.4))
    (λ f t arc. (at, x, omega arith, there, arc))
    (λ f t arc. elim (below_or_at at arc.0 arc.2) [
      | inl low ↦ inl (arc.0, arc.1, low, arc.3, arc.4)
      | inr e ↦
          let same : arc.1 ≡ x = same_Some arc.1 x (sym (subst (λ (i : ℕ). At xs i arc.1) e arc.3) ∙ there) in
          inr (subst (λ (y : X). Arc y f t) same arc.4)
    ])
