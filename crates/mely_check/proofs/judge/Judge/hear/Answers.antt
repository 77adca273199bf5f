use Rattle.std.proofs.Common.{ℕ, List, refl, sym, ap, subst, ◌∙◌, ◌<◌, length, set, arith}
use Rattle.std.specs.Vec.{with_item, with_items}
use Rattle.std.proofs.lemmas.Option.{slice_get_within}
use Rattle.mely_event.specs.declared.colour.Colour.{Colour}
use Rattle.mely_history.specs.Entries.{colour_of}
use Rattle.mely_check.specs.Judges.{Counts}
use Rattle.mely_check.specs.declared.report.CoreReport.{CoreReport}
use Rattle.mely_check.proofs.HearingLemmas.{hears_heard, no_fault, read_at, kept_items}
use Rattle.mely_check.proofs.judge.Judge.hear.Goals as goal

pub returns : goal.returns
returns c =
    let judge = c.args.self.now in
    let entry = c.args.entry.now in
    let items = judge.watches.items in
    let may = c.if-not-allows.ensures.0 refl in
    let here = ap (λ (k : Colour). k.0) c.colour.ensures in
    let within = slice_get_within items (colour_of entry).0 may.watch may.there in
    let low : c.colour.result.0 < length items = omega (arith, here, within) in
    let none = no_fault judge.fault c.is_some.result c.is_some.ensures c.if-is_some.false in
    hears_heard judge (record judge { watches = with_item judge.watches c.colour.result.0 c.add.new.self; cores = with_items judge.cores c.count.new.cores }) c.args.begun c.args.line entry none may
    (record {
      was = c.index_mut.result.now;
      now = c.add.new.self;
      there = read_at items items c.colour.result.0 (colour_of entry).0 c.index_mut.result.now refl here low c.index_mut.ensures.value;
      follows = c.in_ok-add.ensures;
      watches = ap (λ (k : ℕ). set items k c.add.new.self) here;
      cores = subst (λ (xs : List CoreReport). Counts judge.cores.items entry xs) (sym (kept_items judge.cores.len c.count.new.cores judge.cores.items (judge.cores.ok.0 ∙ sym (c.count.ensures.many ∙ ap (λ (t : List CoreReport). length t) c.deref_mut.ensures.value))))
          (subst (λ (b : List CoreReport). Counts b entry c.count.new.cores) c.deref_mut.ensures.value c.count.ensures);
      setup = refl;
      fault = none;
    })
