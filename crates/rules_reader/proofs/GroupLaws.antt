-- The groups of lines.
use Rattle.std.proofs.Common.{◌≡◌, ℕ, List, Option, Some, None, OnOk, Result, append-nil, refl, subst, sym}
use Rattle.rules_reader.specs.Built.{Adds}
use Rattle.rules_lines.specs.declared.entry.Entry.{Entry}
use Rattle.vrt_model.specs.declared.NoMemory.{NoMemory}
use Rattle.vrt_model.specs.declared.rules.Rules.{Rules}

-- what the group of a line adds is what the line adds
pub by_group : (clocks phases : List (List ℕ)) (line : ℕ) (entry : Entry) (group : Option Entry) (result : Result Unit NoMemory) (old new : Rules)
    → group ≡ Some entry → OnOk result (Adds clocks phases line group old new) → OnOk result (Adds clocks phases line (Some entry) old new)
by_group clocks phases line entry group result old new here adds = subst (λ o. OnOk result (Adds clocks phases line o old new)) here adds

-- a line of no such group adds nothing
pub adds_none : (clocks phases : List (List ℕ)) (line : ℕ) (group : Option Entry) (rules : Rules) → group ≡ None → Adds clocks phases line group rules rules
adds_none clocks phases line group rules none = subst (λ o. Adds clocks phases line o rules rules) (sym none) nothing where
  nothing : Adds clocks phases line None rules rules
  nothing = record {
    scale_is = refl;
    clocks_are = refl;
    phases_are = sym (append-nil _);
    supplies = sym (append-nil _);
    devices = sym (append-nil _);
    strengths = sym (append-nil _);
    clockports = sym (append-nil _);
    defaultclocks = sym (append-nil _);
    pairs = sym (append-nil _);
    ports = sym (append-nil _);
    holds = sym (append-nil _);
    keepers = sym (append-nil _);
    matches = sym (append-nil _);
    instance_matches = sym (append-nil _);
    enters = sym (append-nil _);
    observes = sym (append-nil _);
    assumes = sym (append-nil _);
  }
