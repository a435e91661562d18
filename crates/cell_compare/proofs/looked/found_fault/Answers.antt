-- The site is that of the fault, and no other word changes.
use Rattle.cell_compare.proofs.looked.found_fault.Goals as goal

pub find_site-site-requires-clause-ready : goal.find_site-site-requires-clause-ready
find_site-site-requires-clause-ready c = c.requires.look.ready
