-- Functions of the ends and the beginnings of steps, operation after operation.
use Rattle.std.proofs.Common.{◌≡◌, ℕ, ◌+◌, ◌*◌, ◌<◌, ◌≤◌, ◌&&◌, ◌||◌, Bool, true, false, cond, List, Option, Some, Result, Ok, Err, ap, ap₂, arith, drop, length, refl, subst, sym, take, ◌∙◌}
use Rattle.std.proofs.Math.Path.{fun_ext}
use Rattle.node_pool.specs.declared.region.Span.{Span}
use Rattle.bdd_core.proofs.Frames.{gives_made, gives_next, nodes_then, word_added}
use Rattle.bdd_core.proofs.Meaning.{meaning_zero}
use Rattle.bdd_core.specs.Diagram.{Function, IsWithin, choice, meaning}
use Rattle.bdd_core.specs.Store.{Adds, AddsNodes, Diagrams, Gives, IsLive, Makes, function_of}
use Rattle.bdd_core.specs.Words.{IsFilled, shows, word_at}
use Rattle.bdd_core.specs.declared.handle.H.{H}
use Rattle.bdd_core.specs.declared.handle.Spent.{Spent}
use Rattle.bdd_ops.proofs.CountingLaws.{counts_made, counts_then}
use Rattle.bdd_ops.proofs.WithinLaws.{within_and, within_choice, within_or}
use Rattle.bdd_ops.specs.Counting.{Counts, IsCounted}
use Rattle.bdd_ops.specs.Ops.{and_of, or_of}
use Rattle.domino_order.proofs.StepFound.{counts_both, same_vars}
use Rattle.domino_order.specs.Beginnings.{beside_of, begins_of, high_ends_of, near_of, reached_of}
use Rattle.step_roots.proofs.CareCounts.{later_within}
use Rattle.step_roots.specs.Bits.{compares}
use Rattle.step_roots.specs.Moved.{moved_of}
use Rattle.vrt_model.specs.declared.groups.Valuation.{Valuation as Found}

-- ---- what is made

-- of two handles that were made one after the other
pub pair_gives : (op : Bool → Bool → Bool) (old mid last new : Diagrams) (f g : Function) (x y : H) (r : Result H Spent) → Gives old mid f (Ok x) → Gives mid last g (Ok y)
    → Gives last new (λ v. op (function_of last x v) (function_of last y v)) r → Gives old new (λ v. op (f v) (g v)) r
pair_gives op old mid last new f g x y r first second third =
    gives_next old last new g (λ v. op (function_of last x v) (function_of last y v)) (λ v. op (f v) (g v)) y r (gives_next old mid last f g g x (Ok y) first second (λ v. refl)) third
    (λ v. ap₂ op (second.adds.kept x.0 first.ok.live v ∙ first.ok.same v) (second.ok.same v))

-- of a handle that was there and one that was made
pub there_gives : (op : Bool → Bool → Bool) (old mid new : Diagrams) (g : Function) (x y : H) (r : Result H Spent) → IsLive old x → Gives old mid g (Ok y)
    → Gives mid new (λ v. op (function_of mid x v) (function_of mid y v)) r → Gives old new (λ v. op (function_of old x v) (g v)) r
there_gives op old mid new g x y r live first second =
    gives_next old mid new g (λ v. op (function_of mid x v) (function_of mid y v)) (λ v. op (function_of old x v) (g v)) y r first second (λ v. ap₂ op (first.adds.kept x.0 live v) (first.ok.same v))

-- variables of a function that was made are moved
pub moved_gives : (xs : List ℕ) (bit : Bool) (old mid new : Diagrams) (f : Function) (x : H) (r : Result H Spent) → Gives old mid f (Ok x) → Gives mid new (moved_of xs bit (function_of mid x)) r
    → Gives old new (moved_of xs bit f) r
moved_gives xs bit old mid new f x r first second =
    gives_next old mid new f (moved_of xs bit (function_of mid x)) (moved_of xs bit f) x r first second
    (λ v. ap (λ (g : Function). moved_of xs bit g v) (fun_ext (λ w. first.ok.same w)))

pub and_gives : (old new : Diagrams) (x y : H) (r : Result H Spent) → Makes old new (and_of (function_of old x) (function_of old y)) r → Gives old new (λ v. function_of old x v && function_of old y v) r
and_gives old new x y r made = gives_made old new (and_of (function_of old x) (function_of old y)) (λ v. function_of old x v && function_of old y v) r (λ v. refl) made

pub or_gives : (old new : Diagrams) (x y : H) (r : Result H Spent) → Makes old new (or_of (function_of old x) (function_of old y)) r → Gives old new (λ v. function_of old x v || function_of old y v) r
or_gives old new x y r made = gives_made old new (or_of (function_of old x) (function_of old y)) (λ v. function_of old x v || function_of old y v) r (λ v. refl) made

-- the net is high at the end
pub high_gives : (old new : Diagrams) (net : ℕ) (care high : H) (given : Span) (r : Result H Spent) → high.0 ≡ word_at old given net → Makes old new (and_of (function_of old care) (function_of old high)) r
    → Gives old new (high_ends_of old net given (function_of old care)) r
high_gives old new net care high given r read made =
    gives_made old new (and_of (function_of old care) (function_of old high)) (high_ends_of old net given (function_of old care)) r
    (λ v. ap (λ (h : ℕ). function_of old care v && meaning old.nodes h v) read) made

-- the net has not risen
pub begins_gives : (old mid new : Diagrams) (net : ℕ) (given : Span) (order arrivals : List ℕ) (bound : Option Found) (ends : Function) (all risen : H) (r : Result H Spent) → IsFilled old given → net < given.len
    → Gives old mid (reached_of order arrivals bound ends) (Ok all) → risen.0 ≡ word_at mid given net
    → Makes mid new (choice (function_of mid risen) (function_of mid (record { 0 = 0 })) (function_of mid all)) r → Gives old new (begins_of old net given order arrivals bound ends) r
begins_gives old mid new net given order arrivals bound ends all risen r filled lt first read made =
    let zero : H = record { 0 = 0 } in
    let f = choice (function_of mid risen) (function_of mid zero) (function_of mid all) in
    let same : (v : _) → function_of mid risen v ≡ shows old given net v =
    λ v. ap (λ (h : ℕ). meaning mid.nodes h v) (read ∙ word_added given old mid net first.adds) ∙ first.adds.kept (word_at old given net) (filled net lt) v in
    gives_next old mid new (reached_of order arrivals bound ends) f (begins_of old net given order arrivals bound ends) all r first (gives_made mid new f f r (λ v. refl) made)
    (λ v.
    ap₂ {C = Bool} (λ (a b : Bool). cond a b (function_of mid all v)) (same v) (meaning_zero mid.nodes v)
    ∙ ap (λ (b : Bool). cond (shows old given net v) false b) (first.ok.same v))

-- ---- operations

-- one operation behind others
pub one_more : (old mid new : Diagrams) (words : List ℕ) (a : ℕ) (f : Function) (r : Result H Spent) → 2 ≤ length old.nodes → Adds old mid words → IsWithin old.vars f → IsCounted old.vars a old mid → Makes mid new f r
    → Counts old.vars (a + 1) old new r
one_more old mid new words a f r two adds within counted made =
    counts_then old.vars a 1 old mid new r counted (counts_made old.vars mid new (let longer = adds.longer in omega (arith, two, longer)) f r made within)

module _ (old mid new : Diagrams) (words : List ℕ) (a : ℕ) (x y : H) (r : Result H Spent) (two : 2 ≤ length old.nodes) (adds : Adds old mid words) (left : IsLive mid x) (right : IsLive mid y)
    (counted : IsCounted old.vars a old mid) where
  x_within : IsWithin old.vars (function_of mid x)
  x_within = later_within old mid words adds x left

  y_within : IsWithin old.vars (function_of mid y)
  y_within = later_within old mid words adds y right

  pub and_counts : Makes mid new (and_of (function_of mid x) (function_of mid y)) r → Counts old.vars (a + 1) old new r
  and_counts made =
      one_more old mid new words a (and_of (function_of mid x) (function_of mid y)) r two adds (within_and old.vars (function_of mid x) (function_of mid y) x_within y_within) counted made

  pub or_counts : Makes mid new (or_of (function_of mid x) (function_of mid y)) r → Counts old.vars (a + 1) old new r
  or_counts made =
      one_more old mid new words a (or_of (function_of mid x) (function_of mid y)) r two adds (within_or old.vars (function_of mid x) (function_of mid y) x_within y_within) counted made

  -- where the first one is 1 nothing
  pub but_counts : Makes mid new (choice (function_of mid x) (function_of mid (record { 0 = 0 })) (function_of mid y)) r → Counts old.vars (a + 1) old new r
  but_counts made =
      let zero : H = record { 0 = 0 } in
      let some : IsLive mid zero = (let longer = adds.longer in omega (arith, two, longer)) in
      one_more old mid new words a (choice (function_of mid x) (function_of mid zero) (function_of mid y)) r two adds
      (within_choice old.vars (function_of mid x) (function_of mid zero) (function_of mid y) x_within (later_within old mid words adds zero some) y_within) counted made

-- ---- several operations in a row

-- steps beside a bound: its end, from where it is reached, and lesser arrivals
module _ (order arrivals : List ℕ) (bits : List Bool) (old m1 m2 m3 : Diagrams) (end near less : H) (two : 2 ≤ length old.nodes)
    (one : Gives old m1 (compares false order (take (length order) bits)) (Ok end)) (one_counts : Counts old.vars (2 * length order) old m1 (Ok end))
    (next : Gives m1 m2 (moved_of arrivals true (function_of m1 end)) (Ok near)) (next_counts : Counts m1.vars (2 * length arrivals) m1 m2 (Ok near)) where
  vars_one : m1.vars ≡ old.vars
  vars_one = same_vars old m1 old.words one.adds

  adds_two : AddsNodes old m2
  adds_two = nodes_then old m1 m2 one.adds next.adds

  vars_two : m2.vars ≡ old.vars
  vars_two = same_vars old m2 old.words adds_two

  near_gives : Gives old m2 (moved_of arrivals true (compares false order (take (length order) bits))) (Ok near)
  near_gives = moved_gives arrivals true old m1 m2 (compares false order (take (length order) bits)) end (Ok near) one next

  near_counts : Counts old.vars (2 * length order + 2 * length arrivals) old m2 (Ok near)
  near_counts =
      counts_both (2 * length order) (2 * length arrivals) (2 * length order + 2 * length arrivals) old m1 m2 end (Ok near) (omega arith) vars_one one_counts next_counts

  pub near_refused : (e : Spent) → Counts {A = H} m2.vars (2 * length arrivals) m2 m3 (Err e) → Counts {A = H} old.vars (2 * length order + 4 * length arrivals + 1) old m3 (Err e)
  near_refused e counts =
      counts_both (2 * length order + 2 * length arrivals) (2 * length arrivals) (2 * length order + 4 * length arrivals + 1) old m2 m3 near (Err e) (omega arith) vars_two near_counts counts

  module _ (last : Gives m2 m3 (compares true arrivals (drop (length order) bits)) (Ok less)) (last_counts : Counts m2.vars (2 * length arrivals) m2 m3 (Ok less)) (new : Diagrams) (r : Result H Spent)
      (made : Makes m3 new (and_of (function_of m3 near) (function_of m3 less)) r) where
    pub beside_gives : Gives old new (beside_of order arrivals bits) r
    beside_gives =
        pair_gives (λ (a b : Bool). a && b) old m2 m3 new (moved_of arrivals true (compares false order (take (length order) bits))) (compares true arrivals (drop (length order) bits)) near less r near_gives last
        (and_gives m3 new near less r made)

    pub beside_counts : Counts old.vars (2 * length order + 4 * length arrivals + 1) old new r
    beside_counts =
        and_counts old m3 new old.words (2 * length order + 4 * length arrivals) near less r two (nodes_then old m2 m3 adds_two last.adds)
        (let live = next.ok.live in let longer = last.adds.longer in omega (arith, live, longer)) last.ok.live
        (counts_both (2 * length order + 2 * length arrivals) (2 * length arrivals) (2 * length order + 4 * length arrivals) old m2 m3 near (Ok less) (omega arith) vars_two near_counts last_counts).added made

-- the ends of steps that begin with some bits
module _ (order arrivals : List ℕ) (begin : List Bool) (ends : H) (old m1 m2 : Diagrams) (point later : H) (two : 2 ≤ length old.nodes) (live : IsLive old ends)
    (one : Gives old m1 (compares false order begin) (Ok point)) (one_counts : Counts old.vars (2 * length order) old m1 (Ok point))
    (next : Gives m1 m2 (moved_of arrivals false (function_of m1 point)) (Ok later)) (next_counts : Counts m1.vars (2 * length arrivals) m1 m2 (Ok later)) (new : Diagrams) (r : Result H Spent)
    (made : Makes m2 new (and_of (function_of m2 ends) (function_of m2 later)) r) where
  pub near_ends_give : Gives old new (near_of order arrivals begin (function_of old ends)) r
  near_ends_give =
      there_gives (λ (a b : Bool). a && b) old m2 new (moved_of arrivals false (compares false order begin)) ends later r live
      (moved_gives arrivals false old m1 m2 (compares false order begin) point (Ok later) one next) (and_gives m2 new ends later r made)

  pub near_ends_count : Counts old.vars (2 * length order + 2 * length arrivals + 1) old new r
  near_ends_count =
      let adds = nodes_then old m1 m2 one.adds next.adds in
      and_counts old m2 new old.words (2 * length order + 2 * length arrivals) ends later r two adds (let longer = adds.longer in omega (arith, live, longer)) next.ok.live
      (counts_both (2 * length order) (2 * length arrivals) (2 * length order + 2 * length arrivals) old m1 m2 point (Ok later) (omega arith) (same_vars old m1 old.words one.adds) one_counts next_counts).added made

-- with a bound its own too
pub reached_gives : (o : Option Found) (b : Found) (order arrivals : List ℕ) (ends : Function) (old m1 m2 new : Diagrams) (from beside : H) (r : Result H Spent) → o ≡ Some b → Gives old m1 (moved_of arrivals true ends) (Ok from)
    → Gives m1 m2 (beside_of order arrivals b.bits) (Ok beside) → Makes m2 new (or_of (function_of m2 from) (function_of m2 beside)) r → Gives old new (reached_of order arrivals o ends) r
reached_gives o b order arrivals ends old m1 m2 new from beside r is one two made =
    subst (λ (x : Option Found). Gives old new (reached_of order arrivals x ends) r) (sym is)
    (pair_gives (λ (x y : Bool). x || y) old m1 m2 new (moved_of arrivals true ends) (beside_of order arrivals b.bits) from beside r one two (or_gives m2 new from beside r made))
