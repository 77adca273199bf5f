use Rattle.std.specs.Prelude.{map, string_bytes}
use Rattle.std.proofs.Common.{◌≡◌, inr, sym, subst}
use Rattle.sws_words.specs.Orders.{Order}
use Rattle.sws_words.specs.Told.{order_view}
use Rattle.sws_top.specs.Causes.{IsSound}
use Rattle.sws_top.specs.Hands.{hands}
use Rattle.sws_top.specs.Printed.{PrintsJournal}
use Rattle.sws_top.proofs.CauseLemmas.{causes_of, done_of}
use Rattle.sws_top.proofs.LostLemmas.{none_lost}
use Rattle.sws_top.proofs.PrintedLemmas.{prints_journal}
use Rattle.sws_top.proofs.RangeLemmas.{order_in_range}
use Rattle.sws_top.proofs.UsageLemmas.{no_usage}
use Rattle.sws_top.proofs.ordering.sws.Goals as goal

pub run-requires-clause-range : goal.run-requires-clause-range
run-requires-clause-range g c = λ _ _.
    order_in_range (map string_bytes c.args.words.now) (order_view c.in-Ok.order) c.in-Ok.ensures.read

pub returns-in-Ok-clause-causes : goal.returns-in-Ok-clause-causes
returns-in-Ok-clause-causes g c =
    let before = hands c.args.folder.now c.args.source.now c.args.out.now in
    let now = hands c.run.new.folder c.run.new.source c.run.new.out in
    causes_of g.F.Folder g.R.Source g.W.World g.W.Link.Link g.O.Sink _ _ before now c.args.world c.run.result (order_view c.in-Ok.order) (inr c.run.ensures.ran)

pub returns-in-Ok-clause-complete : goal.returns-in-Ok-clause-complete
returns-in-Ok-clause-complete g c = λ order is sound nothing.
    let before = hands c.args.folder.now c.args.source.now c.args.out.now in
    let now = hands c.run.new.folder c.run.new.source c.run.new.out in
    let same : order ≡ order_view c.in-Ok.order = (let read = c.in-Ok.ensures.read in cc) in
    done_of g.F.Folder g.R.Source g.W.World g.W.Link.Link g.O.Sink _ _ before now c.args.world c.run.result (order_view c.in-Ok.order) (inr c.run.ensures.ran)
    (subst (λ (k : Order). IsSound g.F.Folder g.R.Source g.W.World g.O.Sink before now c.args.world c.run.result k) same sound) nothing

pub returns-in-Ok-clause-lost : goal.returns-in-Ok-clause-lost
returns-in-Ok-clause-lost g c = λ conn apart.
    let before = hands c.args.folder.now c.args.source.now c.args.out.now in
    let now = hands c.run.new.folder c.run.new.source c.run.new.out in
    let read = order_view c.in-Ok.order in
    let causes = causes_of g.F.Folder g.R.Source g.W.World g.W.Link.Link g.O.Sink _ _ before now c.args.world c.run.result read (inr c.run.ensures.ran) in
    none_lost g.F.Folder g.R.Source g.W.World g.W.Link.Link g.O.Sink _ _ before now c.args.world c.run.result conn ((causes.lost conn).0 apart) read c.run.ensures.ran

pub returns-in-Ok-clause-usage : goal.returns-in-Ok-clause-usage
returns-in-Ok-clause-usage g c = λ usage.
    let before = hands c.args.folder.now c.args.source.now c.args.out.now in
    let now = hands c.run.new.folder c.run.new.source c.run.new.out in
    absurd (no_usage g.F.Folder g.R.Source g.W.World g.W.Link.Link g.O.Sink _ _ before now c.args.world c.run.result usage (order_view c.in-Ok.order) c.run.ensures.ran)

pub returns-in-Ok-clause-accepted : goal.returns-in-Ok-clause-accepted
returns-in-Ok-clause-accepted g c = λ order sent is none told.
    let before = hands c.args.folder.now c.args.source.now c.args.out.now in
    let now = hands c.run.new.folder c.run.new.source c.run.new.out in
    let read = order_view c.in-Ok.order in
    let same : order ≡ read = (let there = c.in-Ok.ensures.read in cc) in
    subst (λ (k : Order). PrintsJournal g.R.Source g.O.Sink before now sent k) (sym same)
    (prints_journal g.F.Folder g.R.Source g.W.World g.W.Link.Link g.O.Sink _ _ before now c.args.world c.run.result sent none told read c.run.ensures.ran)
