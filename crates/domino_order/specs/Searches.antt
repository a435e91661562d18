-- What a search of a net finds.
use Rattle.std.specs.Prelude.{◌≡◌, ℕ, ◌+◌, ◌*◌, ◌≤◌, Bool, false, List, length, Option, Some, None}
use Rattle.bdd_core.specs.Store.{Diagrams}
use Rattle.domino_order.specs.Runs.{MayPass, asked_variables, of_asked, phase_variables, run_operations}
use Rattle.domino_order.specs.StepBits.{AllHoldAt, FailsAt}
use Rattle.domino_order.specs.declared.prepared.Asked.{Asked}
use Rattle.domino_order.specs.declared.found.NetFound.{NetFound}
use Rattle.domino_order.specs.declared.found.NetFound.TheVariants.{Holds, Fails, Spent}
use Rattle.phase_terms.specs.Stores.{word_count}
use Rattle.vrt_model.specs.Comparison.{Comparison}
use Rattle.vrt_model.specs.Variables.{is_less}
use Rattle.vrt_model.specs.declared.groups.Valuation.{Valuation}

-- a store with the variables of the phase, and room for the words of a run, whatever stands in it
pub record HasRoom (s : Asked) (d : Diagrams) : Type 0 where
  pub vars : d.vars ≡ phase_variables s
  pub nodes : 2 ≤ length d.nodes
  pub budget : 65536 ≤ d.budget
  pub own : d.own ≤ length d.words
  pub room : d.own + word_count s.counts + 2 * length (of_asked s).circuit.nets ≤ d.word_room

-- these bits are the least at which a step of the net fails
pub record IsLeastFailing (k : Comparison) (phase : ℕ) (nets : List ℕ) (n : ℕ) (bits : List Bool) : Type 0 where
  pub fails : FailsAt k phase nets n bits
  pub least : (more : List Bool) → FailsAt k phase nets n more → is_less more bits ≡ false

-- each step of the net holds; or the least bits at which one fails; or the budget, where a run may need more nodes
abbrev pub NetGives : Asked → ℕ → ℕ → NetFound → Type 0
NetGives s n budget Holds = AllHoldAt (of_asked s) s.rising.phase s.rising.nets.now n
NetGives s n budget (Fails bits) = IsLeastFailing (of_asked s) s.rising.phase s.rising.nets.now n bits.bits
NetGives s n budget Spent = MayPass (asked_variables s) budget (run_operations s)

-- the last answer as what is found
abbrev pub FoundIs : Option Valuation → NetFound → Type 0
FoundIs None found = found ≡ Holds
FoundIs (Some bits) found = found ≡ Fails bits
