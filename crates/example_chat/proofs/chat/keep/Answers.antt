use Rattle.std.proofs.Common.{◌∷◌, [], map, ap, ◌∙◌}
use Rattle.std.proofs.lemmas.List.{map-append}
use Rattle.example_chat.specs.Chats.{note_of}
use Rattle.example_chat.proofs.chat.keep.Goals as goal

pub returns : goal.returns
returns c = ap (map note_of) c.in_ok-push.ensures.items ∙ map-append note_of c.args.seat.now.heard.items (_ ∷ [])
