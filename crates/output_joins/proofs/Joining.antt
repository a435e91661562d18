-- Outputs joined one after the other.
use Rattle.std.proofs.Common.{◌≡◌, ℕ, ◌+◌, ◌*◌, ◌<◌, ◌&&◌, ◌||◌, Bool, List, ◌∷◌, Err, Ok, Result, arith, ap, ap₂, length, refl, subst, sym, ◌∙◌}
use Rattle.std.specs.Prelude.{All}
use Rattle.std.proofs.Math.Bool.{or_assoc}
use Rattle.std.proofs.lemmas.List.Elements.{All-head, All-tail}
use Rattle.node_pool.specs.declared.region.Span.{Span}
use Rattle.bdd_core.proofs.Frames.{nodes_then, word_added}
use Rattle.bdd_core.specs.Diagram.{Valuation, meaning}
use Rattle.bdd_core.specs.Store.{AddsNodes, Diagrams, IsLive, function_of}
use Rattle.bdd_core.specs.Words.{IsFilled, shows, word_at}
use Rattle.bdd_core.specs.declared.handle.H.{H}
use Rattle.bdd_core.specs.declared.handle.Spent.{Spent}
use Rattle.bdd_ops.proofs.CountingLaws.{counts_more, counts_then}
use Rattle.bdd_ops.specs.Counting.{Counts, IsCounted}
use Rattle.output_joins.specs.Joins.{AreLive, HasJoined, IsOutputWithin, is_of, part_of, parts_of, shown}
use Rattle.phase_laws.proofs.Work.{used_more}
use Rattle.phase_terms.specs.Stores.{IsUsed}
use Rattle.phase_wishes.specs.declared.wishes.Wish.{Wish}

-- the outputs so far are joined, and with those that are left all are; two operations were made for each
pub record IsJoining (care : H) (gates : Span) (wishes left : List Wish) (old : Diagrams) (handles : List H) (new : Diagrams) (joined : List H) : Type 0 where
  pub adds : AddsNodes old new
  pub len : length joined ≡ length handles
  pub live : AreLive new joined
  pub there : All (IsOutputWithin gates.len (length joined)) left
  pub is :
      (s : ℕ) → s < length handles → (v : Valuation)
      → (shown new joined s v || parts_of (function_of old care) (shows old gates) left s v)
      ≡ (shown old handles s v || parts_of (function_of old care) (shows old gates) wishes s v)
  pub done : ℕ
  pub count : done + length left ≡ length wishes
  pub counted : (u made : ℕ) → IsUsed old.budget u made old → IsCounted u (2 * done) old new

module _ (care : H) (gates : Span) (wishes left behind : List Wish) (wish : Wish) (first : left ≡ wish ∷ behind) (old mid new : Diagrams) (handles joined : List H)
    (care_live : IsLive old care) (filled : IsFilled old gates) (before : IsJoining care gates wishes left old handles mid joined) where
  -- the first of what is left is within
  pub first_within : IsOutputWithin gates.len (length joined) wish
  first_within = All-head (IsOutputWithin gates.len (length joined)) wish behind (subst (λ (ws : List Wish). All (IsOutputWithin gates.len (length joined)) ws) first before.there)

  -- the operations so far and those of one output
  used_mid : (u made : ℕ) → IsUsed old.budget u made old → IsUsed mid.budget u (made + 2 * before.done) mid
  used_mid u made used =
      let more = used_more old.budget u made (2 * before.done) old mid used (before.counted u made used) in
      record { budget_is = refl; few = more.few; within = more.within }

  pub counts_joined : (result : Result Unit Spent) → ((u made : ℕ) → IsUsed mid.budget u made mid → Counts u 2 mid new result) → (u made : ℕ) → IsUsed old.budget u made old
      → Counts u (2 * before.done + 2) old new result
  counts_joined result counts u made used = counts_then u (2 * before.done) 2 old mid new result (before.counted u made used) (counts u (made + 2 * before.done) (used_mid u made used))

  -- care set and net have the functions that they had
  part_same : (s : ℕ) (v : Valuation) → part_of (function_of mid care) (shows mid gates) wish s v ≡ part_of (function_of old care) (shows old gates) wish s v
  part_same s v =
      let gate : shows mid gates wish.net.0 v ≡ shows old gates wish.net.0 v =
      ap (λ (h : ℕ). meaning mid.nodes h v) (word_added gates old mid wish.net.0 before.adds) ∙ before.adds.kept (word_at old gates wish.net.0) (filled wish.net.0 first_within.0) v in
      ap₂ (λ (x y : Bool). is_wanted s && (x && y)) (before.adds.kept care.0 care_live v) gate
    where
      is_wanted : ℕ → Bool
      is_wanted s = is_of wish.wanted s

  -- a refusal of it
  pub refused : (spent : Spent) → ((u made : ℕ) → IsUsed mid.budget u made mid → Counts {A = Unit} u 2 mid new (Err spent)) → (u made : ℕ) → IsUsed old.budget u made old
      → Counts {A = Unit} u (2 * length wishes) old new (Err spent)
  refused spent counts u made used =
      let count = before.count in
      let len = ap (λ (ws : List Wish). length ws) first in
      counts_more u (2 * before.done + 2) (2 * length wishes) old new (Err spent) (omega (arith, count, len)) (counts_joined (Err spent) counts u made used)

  -- one output more
  pub joining_more : (more : List H) → AddsNodes mid new → HasJoined (part_of (function_of mid care) (shows mid gates) wish) mid joined new more
      → ((u made : ℕ) → IsUsed mid.budget u made mid → Counts {A = Unit} u 2 mid new (Ok tt)) → IsJoining care gates wishes behind old handles new more
  joining_more more adds j counts = record {
    adds = nodes_then old mid new before.adds adds;
    len = j.len ∙ before.len;
    live = j.live;
    there =
        subst (λ (n : ℕ). All (IsOutputWithin gates.len n) behind) (sym j.len) (All-tail (IsOutputWithin gates.len (length joined)) wish behind (subst (λ (ws : List Wish). All (IsOutputWithin gates.len (length joined)) ws) first before.there));
    is = λ s lt v.
        let rest = parts_of (function_of old care) (shows old gates) behind s v in
        let len = before.len in
        ap (λ (x : Bool). x || rest) (j.is s (omega (arith, lt, len)) v ∙ ap (λ (y : Bool). shown mid joined s v || y) (part_same s v))
        ∙ or_assoc (shown mid joined s v) (part_of (function_of old care) (shows old gates) wish s v) rest
        ∙ ap (λ (ws : List Wish). shown mid joined s v || parts_of (function_of old care) (shows old gates) ws s v) (sym first)
        ∙ before.is s lt v;
    done = before.done + 1;
    count = (let count = before.count in let len = ap (λ (ws : List Wish). length ws) first in omega (arith, count, len));
    counted = λ u made used.
        let sum : 2 * (before.done + 1) ≡ 2 * before.done + 2 = omega arith in
        subst (λ (n : ℕ). IsCounted u n old new) (sym sum) (counts_joined (Ok tt) counts u made used).added;
  }
