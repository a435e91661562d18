-- Functions composed of others: in a store with more nodes, and of a node from its branches.
use Rattle.std.proofs.Common.{◌≡◌, ℕ, ◌+◌, ◌-◌, ◌^◌, ◌<◌, ◌≤◌, Bool, true, false, List, Result, Ok, Err, length, arith, ap, refl, sym, ◌∙◌, cond}
use Rattle.std.proofs.Math.Pow.{pow_mono}
use mathlib.Core.Path.{fun_ext}
use Rattle.node_pool.specs.declared.region.Node.{Node}
use Rattle.bdd_core.specs.declared.handle.H.{H}
use Rattle.bdd_core.specs.declared.handle.Spent.{Spent}
use Rattle.bdd_core.specs.Diagram.{Function, IsReduced, IsSame, IsWithin, Valuation, choice, fixed, meaning, node_at, top}
use Rattle.bdd_core.specs.Store.{Adds, AddsNodes, Diagrams, Gives, IsLive, Makes, function_of}
use Rattle.bdd_core.proofs.Bound.{double, tests_within}
use Rattle.bdd_core.proofs.Branches.{branch_below, branch_hi, branch_lo, tests}
use Rattle.bdd_core.proofs.Frames.{gives_made, gives_next, gives_refused, nodes_then}
use Rattle.bdd_core.proofs.Growth.{sub_refl}
use Rattle.bdd_core.proofs.Meaning.{meaning_node}
use Rattle.bdd_core.proofs.Steps.{top-append}
use Rattle.bdd_ops.proofs.CountingLaws.{counts_made}
use Rattle.bdd_ops.specs.Counting.{Counts, IsCounted}
use Rattle.bdd_ops.proofs.WithinLaws.{within_fixed, within_same}
use Rattle.part_functions.specs.Inner.{AreLive, AreWithin, composed_of, handle_at, inner}
use Rattle.part_functions.specs.declared.few.PartFunctions.{PartFunctions}

-- ---- nodes are added

module _ (f : PartFunctions) (old new : Diagrams) (words : List ℕ) (adds : Adds old new words) (live : AreLive f old) where
  pub live_kept : AreLive f new
  live_kept x = let here = live x in let longer = adds.longer in omega (arith, here, longer)

  pub inner_kept : (v : Valuation) → inner f new v ≡ inner f old v
  inner_kept v = fun_ext (λ x. adds.kept (handle_at f x) (live x) v)

  pub composed_kept : (h : H) → IsLive old h → IsSame (composed_of f new (function_of new h)) (composed_of f old (function_of old h))
  composed_kept h is v = adds.kept h.0 is (inner f new v) ∙ ap (λ (w : Valuation). meaning old.nodes h.0 w) (inner_kept v)

  pub within_kept : (u : ℕ) → AreWithin u f old → AreWithin u f new
  within_kept u w x = within_same u (meaning old.nodes (handle_at f x)) (meaning new.nodes (handle_at f x)) (adds.kept (handle_at f x) (live x)) (w x)

-- what is composed reads what the functions read
pub within_composed : (u : ℕ) (f : PartFunctions) (d : Diagrams) (g : Function) → AreWithin u f d → IsWithin u (composed_of f d g)
within_composed u f d g reads v w same = ap (λ (x : Valuation). g x) (fun_ext (λ x. reads x v w same))

-- ---- a node and its branches

module _ (vars : ℕ) (nodes : List Node) (r : IsReduced vars nodes) (i : ℕ) (high : 2 ≤ i) (inside : i < length nodes) (n : Node) (is : n ≡ node_at nodes i) (below : n.var < vars) where
  pub low_within : (u : ℕ) → IsWithin u (meaning nodes i) → IsWithin u (meaning nodes n.lo)
  low_within u w = within_same u (fixed (meaning nodes i) n.var false) (meaning nodes n.lo) (branch_lo vars nodes r i inside n n.var is refl below) (within_fixed u (meaning nodes i) n.var false w)

  pub high_within : (u : ℕ) → IsWithin u (meaning nodes i) → IsWithin u (meaning nodes n.hi)
  high_within u w = within_same u (fixed (meaning nodes i) n.var true) (meaning nodes n.hi) (branch_hi vars nodes r i inside n n.var is refl below) (within_fixed u (meaning nodes i) n.var true w)

  -- it reads its variable
  pub reads_own : (u : ℕ) → IsWithin u (meaning nodes i) → n.var < u
  reads_own u w =
      let own : top nodes i ≡ n.var = tests vars nodes r i inside n is in
      let low : top nodes i < u = tests_within vars nodes r i high inside u (meaning nodes i) w (sub_refl (meaning nodes i)) in
      omega (arith, own, low)

  pub composed_node : (f : PartFunctions) (d : Diagrams) (v : Valuation)
      → meaning nodes i (inner f d v) ≡ cond (inner f d v n.var) (meaning nodes n.hi (inner f d v)) (meaning nodes n.lo (inner f d v))
  composed_node f d v =
      let p = r.proper i high inside in
      rw is (meaning_node nodes (inner f d v) i high p.lo_below p.hi_below)

-- ---- a node, composed: its low branch from d0 to d1, its high one from d1 to d2, and the choice from d2 to d3

module _ (f : PartFunctions) (d0 : Diagrams) (sound : IsReduced d0.vars d0.nodes) (live : AreLive f d0) (i : ℕ) (high : 2 ≤ i) (inside : i < length d0.nodes) (n : Node) (is : n ≡ node_at d0.nodes i)
    (below : n.var < d0.vars) (small : IsWithin f.count (meaning d0.nodes i)) where
  abbrev pub whole : Function
  whole = composed_of f d0 (meaning d0.nodes i)

  pub lo_live : n.lo < length d0.nodes
  lo_live = let less = (branch_below d0.vars d0.nodes sound i inside n n.var is refl below).0 in omega (arith, less, inside)

  pub hi_live : n.hi < length d0.nodes
  hi_live = let less = (branch_below d0.vars d0.nodes sound i inside n n.var is refl below).1 in omega (arith, less, inside)

  pub var_low : n.var < f.count
  var_low = reads_own d0.vars d0.nodes sound i high inside n is below f.count small

  tops : (n.var < top d0.nodes n.lo) × (n.var < top d0.nodes n.hi)
  tops = let p = sound.proper i high inside in rw is (p.lo_later, p.hi_later)

  module _ (d1 : Diagrams) (lo : H) (first : Gives d0 d1 (composed_of f d0 (meaning d0.nodes n.lo)) (Ok lo)) where
    -- what the high branch is asked with
    pub hi_within : IsWithin f.count (meaning d1.nodes n.hi)
    hi_within =
        within_same f.count (meaning d0.nodes n.hi) (meaning d1.nodes n.hi) (first.adds.kept n.hi hi_live)
        (high_within d0.vars d0.nodes sound i high inside n is below f.count small)

    pub hi_refused : (d2 : Diagrams) (s : Spent) → Gives d1 d2 (composed_of f d1 (meaning d1.nodes n.hi)) (Err s) → Gives d0 d2 whole (Err s)
    hi_refused d2 s second = gives_refused d0 d1 d2 (composed_of f d0 (meaning d0.nodes n.lo)) (composed_of f d1 (meaning d1.nodes n.hi)) whole lo s first second

    module _ (d2 : Diagrams) (hi : H) (second : Gives d1 d2 (composed_of f d1 (meaning d1.nodes n.hi)) (Ok hi)) where
      both : AddsNodes d0 d2
      both = nodes_then d0 d1 d2 first.adds second.adds

      choice_is : IsSame (choice (meaning d2.nodes (handle_at f n.var)) (meaning d2.nodes hi.0) (meaning d2.nodes lo.0)) whole
      choice_is v =
          let test : meaning d2.nodes (handle_at f n.var) v ≡ inner f d0 v n.var = both.kept (handle_at f n.var) (live n.var) v in
          let high_is : meaning d2.nodes hi.0 v ≡ meaning d0.nodes n.hi (inner f d0 v) =
          second.ok.same v ∙ composed_kept f d0 d1 d0.words first.adds live (record { 0 = n.hi }) hi_live v in
          let low_is : meaning d2.nodes lo.0 v ≡ meaning d0.nodes n.lo (inner f d0 v) = second.adds.kept lo.0 first.ok.live v ∙ first.ok.same v in
          ap (λ (b : Bool). cond b (meaning d2.nodes hi.0 v) (meaning d2.nodes lo.0 v)) test
          ∙ ap (λ (b : Bool). cond (inner f d0 v n.var) b (meaning d2.nodes lo.0 v)) high_is
          ∙ ap (λ (b : Bool). cond (inner f d0 v n.var) (meaning d0.nodes n.hi (inner f d0 v)) b) low_is
          ∙ sym (composed_node d0.vars d0.nodes sound i high inside n is below f d0 v)

      pub node_gives : (d3 : Diagrams) (r : Result H Spent) → Makes d2 d3 (choice (meaning d2.nodes (handle_at f n.var)) (meaning d2.nodes hi.0) (meaning d2.nodes lo.0)) r → Gives d0 d3 whole r
      node_gives d3 r made =
          let third : Gives d2 d3 whole r = gives_made d2 d3 (choice (meaning d2.nodes (handle_at f n.var)) (meaning d2.nodes hi.0) (meaning d2.nodes lo.0)) whole r choice_is made in
          let second_on : Gives d1 d3 whole r = gives_next d1 d2 d3 (composed_of f d1 (meaning d1.nodes n.hi)) whole whole hi r second third (λ v. refl) in
          gives_next d0 d1 d3 (composed_of f d0 (meaning d0.nodes n.lo)) whole whole lo r first second_on (λ v. refl)

      pub all_live : (handle_at f n.var < length d2.nodes) × IsLive d2 hi × IsLive d2 lo
      all_live = (live_kept f d0 d2 d0.words both live n.var, second.ok.live, (let here = first.ok.live in let longer = second.adds.longer in omega (arith, here, longer)))

      -- the choice is one operation
      pub choice_counts : (u : ℕ) (d3 : Diagrams) (r : Result H Spent) → AreWithin u f d0 → Makes d2 d3 (choice (meaning d2.nodes (handle_at f n.var)) (meaning d2.nodes hi.0) (meaning d2.nodes lo.0)) r
          → Counts u 1 d2 d3 r
      choice_counts u d3 r reads made =
          let two : 2 ≤ length d2.nodes = (let ends = sound.ends in let longer = both.longer in omega (arith, ends, longer)) in
          counts_made u d2 d3 two (choice (meaning d2.nodes (handle_at f n.var)) (meaning d2.nodes hi.0) (meaning d2.nodes lo.0)) r made
          (within_same u whole (choice (meaning d2.nodes (handle_at f n.var)) (meaning d2.nodes hi.0) (meaning d2.nodes lo.0)) choice_is (within_composed u f d0 (meaning d0.nodes i) reads))

  -- ---- its operations

  module _ (u b : ℕ) (room : f.count ≤ top d0.nodes i + b) where
    abbrev pub left : ℕ
    left = b - 1

    own : top d0.nodes i ≡ n.var
    own = tests d0.vars d0.nodes sound i inside n is

    some : 1 ≤ b
    some = let low = var_low in omega (arith, low, own, room)

    pub lo_room : f.count ≤ top d0.nodes n.lo + left
    lo_room = let later = tops.0 in let one = some in omega (arith, later, own, room, one)

    pub hi_room : (d1 : Diagrams) (k : ℕ) → IsCounted u k d0 d1 → f.count ≤ top d1.nodes n.hi + left
    hi_room d1 k counted =
        let later = tops.1 in
        let same : top d1.nodes n.hi ≡ top d0.nodes n.hi = ap (λ (ns : List Node). top ns n.hi) counted.is ∙ top-append d0.nodes counted.more n.hi hi_live in
        let one = some in
        omega (arith, later, own, room, same, one)

    pub twice : 2 ^ b ≡ 2 ^ left + 2 ^ left
    twice = ap (λ (k : ℕ). 2 ^ k) (let one = some in omega (arith, one)) ∙ double left

    pub positive : 1 ≤ 2 ^ left
    positive = omega (arith, pow_mono {i = 0} {j = left} (omega arith))

    pub lo_less : 2 ^ left - 1 ≤ 2 ^ b - 1
    lo_less = omega (arith, twice)

    pub both_less : (2 ^ left - 1) + (2 ^ left - 1) ≤ 2 ^ b - 1
    both_less = omega (arith, twice, positive)

    pub all_less : (2 ^ left - 1) + ((2 ^ left - 1) + 1) ≤ 2 ^ b - 1
    all_less = omega (arith, twice, positive)
