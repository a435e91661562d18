-- What is always true of the fields of a store and of its memo.
use Rattle.std.specs.Prelude.{◌≡◌, ◌+◌, ◌≤◌, ◌^◌, length}
use Rattle.std.specs.Vec.{vec_capacity}
use Rattle.bdd_core.specs.declared.memo.Memo.TheInside.{Inside as Table}
use Rattle.bdd_core.specs.declared.store.Store.TheInside.{Inside}
use Rattle.bdd_core.specs.Diagram.{IsReduced}
use Rattle.bdd_core.specs.Store.{Diagrams}
use Rattle.bdd_core.specs.Memo.{Remembers}

pub record IsTable (m : Table) : Type 0 where
  pub len : length m.pairs.items ≡ m.mask + 1
  pub some : 512 ≤ length m.pairs.items
  pub taken : m.most ≤ vec_capacity m.pairs
  pub most_fit : m.most ≤ 2 ^ 30

pub record IsSound (s : Inside) : Type 0 where
  pub reduced : IsReduced s.vars s.pool.nodes
  pub room : s.pool.node_room ≡ s.budget
  pub fits : length s.pool.nodes ≤ s.budget
  pub memo : Remembers s.pool.nodes s.memo
  pub budget_fits : s.budget ≤ 64000000
  pub vars_fit : s.vars ≤ 1000

abbrev pub diagrams_of : Inside → Diagrams
diagrams_of s = record { nodes = s.pool.nodes; words = s.pool.words; word_room = s.pool.word_room; budget = s.budget; vars = s.vars; own = 0 }
