use Rattle.std.proofs.Common.{rules, [], take, drop, sym}
use Rattle.std.proofs.lemmas.List.{append-nil, take-append-drop}
use Rattle.example_chat_room.proofs.inbox.Inbox.take_line.Goals as goal

pub returns-then-len-gt-LONGEST-clause-fault : goal.returns-then-len-gt-LONGEST-clause-fault
returns-then-len-gt-LONGEST-clause-fault c = record { front = c.args.self.now.bytes.items; back = []; is = sym (append-nil c.args.self.now.bytes.items); many = search rules; no_end = search rules }

pub returns-then-at-gt-LONGEST-clause-fault : goal.returns-then-at-gt-LONGEST-clause-fault
returns-then-at-gt-LONGEST-clause-fault c = record { front = take c.in-Some.at c.args.self.now.bytes.items; back = drop c.in-Some.at c.args.self.now.bytes.items; is = sym (take-append-drop c.in-Some.at c.args.self.now.bytes.items); many = search rules; no_end = search rules }
