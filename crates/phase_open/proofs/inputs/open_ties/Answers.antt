use Rattle.std.proofs.Common.{ℕ, ◌<◌, ◌∷◌, List, arith, ap, subst, sym, ◌∙◌}
use Rattle.bdd_core.specs.Words.{word_at}
use Rattle.phase_open.proofs.TieLaws.{AreTied, net_below, tie_within, tied_more, tied_none}
use Rattle.phase_ports.specs.Ports.{ports_by}
use Rattle.vrt_model.specs.declared.pairing.PortRole.{PortRole}
use Rattle.phase_open.proofs.inputs.open_ties.Goals as goal

pub roles-init : goal.roles-init
roles-init c = tied_none c.args.roles.now c.args.roots c.args.inputs c.args.store.now c.sound.ensures.sound c.sound.ensures.within c.requires.inputs.1

pub open_tie-requires-clause-within : goal.open_tie-requires-clause-within
open_tie-requires-clause-within c s e =
    let role = c.in-Some.role.now in
    let behind : List PortRole = c.in-Some.behind.now in
    let ports = ports_by 0 2 c.args.roles.now in
    let so_far : AreTied ports c.args.roots c.args.inputs c.args.store.now c.roles.next (role ∷ behind) c.roles.store =
    subst (λ (ls : List PortRole). AreTied ports c.args.roots c.args.inputs c.args.store.now c.roles.next ls c.roles.store) c.in-Some.ensures.cases.0 c.roles.invariant in
    let within = tie_within ports c.args.roots c.args.inputs c.args.store.now c.roles.store c.roles.next role behind so_far c.requires.nets c.requires.within c.requires.one c.requires.apart s e in
    (subst (λ (n : ℕ). n < c.args.roots.len) (sym c.net_of.ensures) within.0, within.1)

pub next_of-next-requires : goal.next_of-next-requires
next_of-next-requires c =
    let role = c.in-Some.role.now in
    let behind : List PortRole = c.in-Some.behind.now in
    let ports = ports_by 0 2 c.args.roles.now in
    let so_far : AreTied ports c.args.roots c.args.inputs c.args.store.now c.roles.next (role ∷ behind) c.roles.store =
    subst (λ (ls : List PortRole). AreTied ports c.args.roots c.args.inputs c.args.store.now c.roles.next ls c.roles.store) c.in-Some.ensures.cases.0 c.roles.invariant in
    let below = net_below ports c.args.roots c.args.inputs c.args.store.now c.roles.store c.roles.next role behind so_far c.requires.nets c.requires.within c.requires.one c.requires.apart in
    omega (arith, below, c.well_formed)

pub roles-preserved : goal.roles-preserved
roles-preserved c =
    let role = c.in-Some.role.now in
    let behind : List PortRole = c.in-Some.behind.now in
    let ports = ports_by 0 2 c.args.roles.now in
    let first = c.args.store.now in
    let old = c.roles.store in
    let new = c.open_tie.new.store in
    let so_far : AreTied ports c.args.roots c.args.inputs first c.roles.next (role ∷ behind) old =
    subst (λ (ls : List PortRole). AreTied ports c.args.roots c.args.inputs first c.roles.next ls old) c.in-Some.ensures.cases.0 c.roles.invariant in
    subst (λ (n : ℕ). AreTied ports c.args.roots c.args.inputs first n behind new) (sym c.next_of-next.ensures)
    (tied_more ports c.args.roots c.args.inputs first old c.roles.next role behind so_far c.requires.nets c.requires.within c.requires.one c.requires.apart new c.open_tie.ensures.writes
    c.open_tie.ensures.rest (λ s e. c.open_tie.ensures.tied s e ∙ ap (λ (n : ℕ). word_at old c.args.roots n) c.net_of.ensures) c.open_tie.ensures.others)
