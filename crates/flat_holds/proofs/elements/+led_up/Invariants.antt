use Rattle.flat_holds.proofs.elements.+led_up.Given as goal

abbrev pub decreases-led_up : goal.decreases-led_up
decreases-led_up l = l.place
