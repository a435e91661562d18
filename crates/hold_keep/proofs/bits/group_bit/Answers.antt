use Rattle.hold_keep.proofs.BitLaws.{element_given, entered_given, variable_given}
use Rattle.hold_keep.proofs.bits.group_bit.Goals as goal

pub returns-in-Some-clause-gives : goal.returns-in-Some-clause-gives
returns-in-Some-clause-gives c =
    element_given c.args.sources.now c.args.number c.args.store.now c.bit_by.new.store c.bit_by.result c.in-Some.element c.element_place.result c.args.element c.args.entered c.in-Some.is
    c.element_place.ensures c.bit_by.ensures.gives

pub returns-in-Some-entered-clause-gives : goal.returns-in-Some-entered-clause-gives
returns-in-Some-entered-clause-gives c =
    entered_given c.args.sources.now c.args.number c.args.store.now c.constant.result c.in-Some-entered.bit c.args.element c.args.entered c.sound.ensures.sound
    c.sound.ensures.within c.constant.ensures c.in-None.is c.in-Some-entered.is

pub returns-in-None-entered-clause-gives : goal.returns-in-None-entered-clause-gives
returns-in-None-entered-clause-gives c =
    variable_given c.args.sources.now c.args.number c.args.store.now c.bit_by-in-None-entered.new.store c.bit_by-in-None-entered.result c.group_place.result c.args.element c.args.entered
    c.in-None.is c.in-None-entered.is c.group_place.ensures c.bit_by-in-None-entered.ensures.gives
