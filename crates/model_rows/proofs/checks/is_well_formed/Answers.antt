use Rattle.model_rows.proofs.checks.is_well_formed.Goals as goal

pub returns : goal.returns
returns c e =
    record {
      signal_limit = c.requires.few;
      row_limit = c.requires.rows;
      inputs = c.requires.range.0;
      clocks = c.requires.range.1;
      outputs = c.requires.range.2;
      covers = c.requires.range.3;
      latches = c.requires.range.4;
      dontcares = c.requires.range.5;
      one_driver = c.have_one_driver.ensures e;
    }
