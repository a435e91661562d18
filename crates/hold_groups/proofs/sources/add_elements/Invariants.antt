use Rattle.std.proofs.Common.{◌≡◌, ◌++◌, length}
use Rattle.hold_groups.specs.Sources.{element_sources}
use Rattle.hold_groups.proofs.sources.add_elements.Given as goal

-- the elements so far, and those that are left
abbrev pub invariant-elements : goal.invariant-elements
invariant-elements l = l.sources ++ element_sources l.number l.rest ≡ l.initial.sources ++ element_sources 0 l.fn.elements

abbrev pub decreases-elements : goal.decreases-elements
decreases-elements l = length l.rest
