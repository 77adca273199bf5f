use Rattle.sws_conn.proofs.WindowLemmas.{range_dropped}
use Rattle.sws_conn.proofs.window.Window.drop_front.Goals as goal

pub returns : goal.returns
returns c = range_dropped c.self.inside.room.items c.args.self.now c.self.inside.start c.self.inside.end c.args.n c.self.view_is c.requires
