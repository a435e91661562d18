-- What a step at a place tells.
use Rattle.verilog_tokens.specs.Passed.{Passing, Place}
use Rattle.verilog_tokens.specs.Passed.Passing.{Over as PassesOver, Endless as HasNoEnd, Stays as PassesNothing}
use Rattle.verilog_tokens.specs.declared.passed.Passed.{Passed}
use Rattle.verilog_tokens.specs.declared.passed.Passed.TheVariants.{Over, Endless, Stays}

-- what was passed over, and where the reader stands then
abbrev pub told : Passed → Place → Passing
told Over place = PassesOver place
told Endless place = HasNoEnd place
told Stays place = PassesNothing place
