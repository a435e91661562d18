-- The names of a text of modules, and how many signals it does not name.
use Rattle.std.proofs.Common.{◌≡◌, ◌≤◌, ◌^◌, ℕ, false, List, [], ◌∷◌, ◌++◌, flat_map}
use Rattle.verilog_meaning.specs.Nets.{actual_nets, nets_of}
use Rattle.verilog_models.specs.Models.{own_in}
use Rattle.verilog_source.specs.Modules.{Entry, Module, PortTie}
use Rattle.verilog_source.specs.Modules.Entry.{listed, directed, assigned, gate, instance}
use Rattle.vrt_model.specs.Lists.{Among, has_number}

-- the names of a tie
abbrev pub tie_names : PortTie → List (List ℕ)
tie_names t = t.port ∷ actual_nets t.actual

abbrev pub entry_names : Entry → List (List ℕ)
entry_names (listed n) = n ∷ []
entry_names (directed l d n) = n ∷ []
entry_names (assigned l n f) = n ∷ nets_of f
entry_names (gate l kind os fs) = os ++ flat_map nets_of fs
entry_names (instance l m ts) = flat_map tie_names ts

-- a name of a text has no blank
abbrev pub IsPlain : List ℕ → Type 0
IsPlain name = has_number name 32 ≡ false

-- all names of modules are such, and the numbers of their own signals can be written out
pub record ArePlain (modules : List Module) : Type 0 where
  pub names : (m : Module) → Among modules m → (e : Entry) → Among m.entries e → (x : List ℕ) → Among (entry_names e) x → IsPlain x
  pub counted : (m : Module) → Among modules m → own_in m.entries ≤ 2 ^ 64
