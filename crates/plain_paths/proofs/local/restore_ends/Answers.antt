use Rattle.plain_paths.proofs.LocalLaws.{agree_either, agree_kept}
use Rattle.plain_paths.proofs.local.restore_ends.Goals as goal

pub returns-clause-there : goal.returns-clause-there
returns-clause-there c =
    let d = c.args.device.now in
    (agree_kept c.restore_net-2.new.tables c.restore_net.new.tables c.args.roots.now d.left.0 (c.restore_net-2.ensures.each d.left.0) c.restore_net.ensures.there, c.restore_net-2.ensures.there)

pub returns-clause-each : goal.returns-clause-each
returns-clause-each c n =
    agree_either c.restore_net-2.new.tables c.restore_net.new.tables c.args.tables.now c.args.roots.now n (c.restore_net-2.ensures.each n) (c.restore_net.ensures.each n)
