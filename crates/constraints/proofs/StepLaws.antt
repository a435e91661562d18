-- One line more: an assumption, or a clock port.
use Rattle.std.proofs.Common.{◌≡◌, ℕ, ◌+◌, ◌*◌, ◌&&◌, Bool, true, cond, not, List, Result, Ok, Err, arith, ap, ap₂, refl, sym, subst, ◌∙◌}
use Rattle.std.specs.Prelude.{bytes_eq}
use Rattle.bdd_core.specs.Diagram.{Function, IsWithin, Valuation, meaning}
use Rattle.bdd_core.specs.Store.{Diagrams, Gives, IsLive, Makes, function_of}
use Rattle.bdd_core.specs.declared.handle.H.{H}
use Rattle.bdd_core.specs.declared.handle.Spent.{Spent}
use Rattle.bdd_ops.proofs.CountingLaws.{counts_made, counts_more, counts_then}
use Rattle.bdd_ops.proofs.WithinLaws.{within_and, within_same}
use Rattle.bdd_ops.specs.Counting.{Counts}
use Rattle.bdd_ops.specs.Ops.{and_of}
use Rattle.bdd_core.proofs.Frames.{gives_made, gives_next, gives_error, gives_same}
use Rattle.vrt_model.specs.Expressions.{operators_in}
use Rattle.vrt_model.specs.Lists.{differ}
use Rattle.vrt_model.specs.declared.rules.AssumeRule.{AssumeRule}
use Rattle.vrt_model.specs.declared.rules.ClockportRule.{ClockportRule}
use Rattle.constraints.proofs.EvaluateLaws.{value_within}
use Rattle.constraints.specs.Evaluated.{AreWithin, Evaluates, value_in}
use Rattle.constraints.specs.Handles.{clock_in}
use Rattle.constraints.specs.Obliged.{AddsTest, assume_holds, assume_operations, clock_holds, clock_operations, is_asked}

-- ---- an assumption

module _ (old mid : Diagrams) (handle : List ℕ → ℕ) (cell : List ℕ) (phase : ℕ) (rule : AssumeRule) (all : H) (asked : is_asked cell phase rule ≡ true) where
  operations_are : assume_operations cell phase rule ≡ 2 * operators_in rule.expression + 1
  operations_are = ap (λ (b : Bool). cond b (2 * operators_in rule.expression + 1) 0) asked

  pub assumed_refused : (s : Spent) → Evaluates old mid handle rule.expression (Err s)
      → AddsTest handle (assume_operations cell phase rule) (function_of old all) (assume_holds old handle cell phase rule) old mid (Err s)
  assumed_refused s first = record {
    gives = gives_error old mid (value_in old handle rule.expression) (λ v. function_of old all v && assume_holds old handle cell phase rule v) s first.gives;
    counts = λ u reads starts. counts_more u (2 * operators_in rule.expression) (assume_operations cell phase rule) old mid (Err s) (omega (arith, operations_are)) (first.counts u reads);
  }

  pub assumed_more : (new : Diagrams) (one : H) (r : Result H Spent) → IsLive old all → Evaluates old mid handle rule.expression (Ok one)
      → Makes mid new (and_of (function_of mid all) (function_of mid one)) r
      → AddsTest handle (assume_operations cell phase rule) (function_of old all) (assume_holds old handle cell phase rule) old new r
  assumed_more new one r live first makes =
      let both : Function = and_of (function_of mid all) (function_of mid one) in
      record {
        gives = gives_next old mid new (value_in old handle rule.expression) both (λ v. function_of old all v && assume_holds old handle cell phase rule v) one r first.gives
            (gives_made mid new both both r (λ v. refl) makes)
            (λ v. ap₂ (λ (x y : Bool). x && y) (first.gives.adds.kept all.0 live v)
            (first.gives.ok.same v ∙ sym (ap (λ (b : Bool). cond b (value_in old handle rule.expression v) true) asked)));
        counts = λ u reads starts.
            counts_more u (2 * operators_in rule.expression + 1) (assume_operations cell phase rule) old new r (omega (arith, operations_are))
            (counts_then u (2 * operators_in rule.expression) 1 old mid new r (first.counts u reads).added
            (counts_made u mid new first.gives.adds.sound.ends both r makes
            (within_and u (function_of mid all) (function_of mid one) (within_same u (function_of old all) (function_of mid all) (first.gives.adds.kept all.0 live) starts)
            (within_same u (value_in old handle rule.expression) (function_of mid one) first.gives.ok.same (value_within u old handle rule.expression reads)))));
      }

-- ---- a clock port

module _ (old new : Diagrams) (handle : List ℕ → ℕ) (cell : List ℕ) (bits : List Bool) (rule : ClockportRule) (all port : H) (wanted : Bool) (r : Result H Spent) (ours : bytes_eq rule.cell cell ≡ true)
    (is : port.0 ≡ handle rule.port) (wanted_is : wanted ≡ clock_in bits rule.clock) where
  clock_cost : clock_operations cell rule ≡ 1
  clock_cost = ap (λ (b : Bool). cond b 1 0) ours

  abbrev with_bit : Function
  with_bit = λ v. function_of old all v && not (differ wanted (function_of old port v))

  abbrev target : Function
  target = λ v. function_of old all v && clock_holds old handle cell bits rule v

  -- the line is for the cell, and its clock has this bit
  known_clock : (v : Valuation) → with_bit v ≡ target v
  known_clock v =
      ap₂ (λ (x : Bool) (k : ℕ). function_of old all v && not (differ x (meaning old.nodes k v))) wanted_is is
      ∙ ap (λ (t : Bool). function_of old all v && cond t (not (differ (clock_in bits rule.clock) (meaning old.nodes (handle rule.port) v))) true) (sym ours)

  port_reads : (u : ℕ) → AreWithin u old handle → IsWithin u (function_of old port)
  port_reads u reads = subst (λ (k : ℕ). IsWithin u (meaning old.nodes k)) (sym is) (reads rule.port)

  pub clock_added : Gives old new with_bit r → ((u : ℕ) → IsWithin u (function_of old port) → IsWithin u (function_of old all) → Counts u 1 old new r)
      → AddsTest handle (clock_operations cell rule) (function_of old all) (clock_holds old handle cell bits rule) old new r
  clock_added given counted = record {
    gives = gives_same old new with_bit target r known_clock given;
    counts = λ u reads starts. counts_more u 1 (clock_operations cell rule) old new r (omega (arith, clock_cost)) (counted u (port_reads u reads) starts);
  }
