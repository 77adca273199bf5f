use Rattle.std.proofs.Common.{◌≡◌, ◌+◌, ◌++◌, ◌∷◌, take, drop, length, sym, ap, ◌∙◌, subst, arith, map}
use Rattle.sws_link.specs.Scripts.{ItemRead, read_of}
use Rattle.sws_link.specs.LinkItems.{item_of, all_bytes}
use Rattle.sws_link.specs.ScriptReader.{left_of, given_of, rest_of_item, IsUsed}
use Rattle.sws_link.specs.Links.{given_by}
use Rattle.sws_link.proofs.ScriptReaderLemmas.{drop_at, take_at_item, used_within, passed_read, passed_taken, played_taken, read_as, IsUsed-zero}
use Rattle.sws_link.proofs.script_reader.ScriptReader.read.Goals as goal
use Rattle.sws_link.proofs.script_reader.ScriptReader.read.Goals.{After-index, In-Some}

-- the item in play is the first of those that are left
split : (c : After-index) → drop c.items.self-inside.at (map item_of c.items.self-inside.items.items)
    ≡ item_of c.index.result.now ∷ drop (c.items.self-inside.at + 1) (map item_of c.items.self-inside.items.items)
split c = drop_at c.items.self-inside.items.items c.items.self-inside.at c.index.result.now (omega arith) c.index.ensures

-- what is read is what that item says
said : (c : In-Some) → drop c.items.self-inside.at (map item_of c.items.self-inside.items.items)
    ≡ item_of c.index.result.now ∷ drop (c.items.self-inside.at + 1) (map item_of c.items.self-inside.items.items)
    → read_of (length c.args.into.now) c.args.self.now.items ≡ record {
      answer = c.in-Some.answer;
      bytes = given_by c.in-Some.answer c.play.new.into;
      items = rest_of_item c.in-Some.used (item_of c.index.result.now) ∷ drop (c.items.self-inside.at + 1) (map item_of c.items.self-inside.items.items);
    }
said c first =
    read_as c.items.self-inside.used (length c.items.into) (length c.args.into.now) _ _ (item_of c.index.result.now) c.in-Some.answer c.in-Some.used c.play.new.into
    c.args.self.now.items first c.items.auto.into c.items.invariant.read c.in-Some.ensures

pub play-requires-clause-used : goal.play-requires-clause-used
play-requires-clause-used c =
    used_within c.items.self-inside.used _ _ (item_of c.index.result.now) (split (goal.at.play-requires-clause-used c).After-index) c.items.invariant.ok.0

pub invariant_of-self-in-Some : goal.invariant_of-self-in-Some
invariant_of-self-in-Some c =
    (subst (IsUsed c.in-Some.used) (sym (split (goal.at.invariant_of-self-in-Some c).After-index)) c.in-Some.ensures.2, c.items.invariant.ok.1)

pub returns-in-Some-clause-answer : goal.returns-in-Some-clause-answer
returns-in-Some-clause-answer c =
    let at = goal.at.returns-in-Some-clause-answer c in
    sym (ap (λ (r : ItemRead). r.answer) (said at.In-Some (split at.After-index)))

pub returns-in-Some-clause-bytes : goal.returns-in-Some-clause-bytes
returns-in-Some-clause-bytes c =
    let at = goal.at.returns-in-Some-clause-bytes c in
    sym (ap (λ (r : ItemRead). r.bytes) (said at.In-Some (split at.After-index)))

pub returns-in-Some-clause-items : goal.returns-in-Some-clause-items
returns-in-Some-clause-items c =
    let at = goal.at.returns-in-Some-clause-items c in
    ap (left_of c.in-Some.used) (split at.After-index) ∙ sym (ap (λ (r : ItemRead). r.items) (said at.In-Some (split at.After-index)))

pub returns-in-Some-clause-taken : goal.returns-in-Some-clause-taken
returns-in-Some-clause-taken c =
    let p = c.items.self-inside in
    played_taken p.used c.in-Some.used (length c.items.into) _ _ (item_of c.index.result.now) c.in-Some.answer c.play.new.into (all_bytes (take p.at (map item_of p.items.items)))
    (split (goal.at.returns-in-Some-clause-taken c).After-index) c.in-Some.ensures
    ∙ ap (λ l. l ++ given_by c.in-Some.answer c.play.new.into) c.items.invariant.taken

pub items-preserved : goal.items-preserved
items-preserved c =
    let p = c.items.self-inside in
    let item = item_of c.index.result.now in
    let first = split (goal.at.items-preserved c).After-index in
    let rest = drop (p.at + 1) (map item_of p.items.items) in
    let before = all_bytes (take p.at (map item_of p.items.items)) in
    record {
      read = subst (λ n. read_of n (left_of 0 rest) ≡ read_of n (left_of p.used (drop p.at (map item_of p.items.items)))) c.items.auto.into
          (passed_read p.used (length c.items.into) _ rest item c.play.new.into first c.in-None.ensures) ∙ c.items.invariant.read;
      taken = ap (λ l. l ++ given_of 0 rest) (take_at_item p.items.items p.at c.index.result.now (omega arith) c.index.ensures)
          ∙ passed_taken p.used (length c.items.into) _ rest item c.play.new.into before first c.in-None.ensures ∙ c.items.invariant.taken;
      ok = (IsUsed-zero rest, omega arith);
    }
