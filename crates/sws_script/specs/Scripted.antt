-- How the link of a connection answers: the items, the step and the cut of a scripted link.
use Rattle.std.specs.Prelude.{true, false, ℕ, ◌/◌, ◌%◌, ◌==◌, if◌then◌else◌, List, [], ◌∷◌, ◌++◌, length, map, replicate, Some}
use Rattle.std.specs.List.{flat_map}
use Rattle.sws_link.specs.Scripts.{Script, piece, wait, fault}
use Rattle.sws_link.specs.Scripts.{Item as LinkItem}
use Rattle.sws_link.specs.Calls.{no_calls}
use Rattle.sws_link.specs.LinkItems.{all_bytes}
use Rattle.sws_link.specs.MemLinks.{initial_bytes}
use Rattle.sws_link.specs.MemLink.{MemLinkState}
use Rattle.sws_link.specs.Worlds.{Coming, WorldContents}
use Rattle.sws_link.specs.MemWorlds.{initial_lobby}
use Rattle.sws_link.specs.MemWorld.{MemWorldState}
use Rattle.sws_script.specs.declared.input.Item.{Item}
use Rattle.sws_script.specs.declared.input.Item.TheVariants.{Send, Fill, Pause, Fault}
use Rattle.sws_script.specs.declared.input.ScriptConn.{ScriptConn}

-- so many bytes `a`, in one piece
abbrev pub filled_item : ℕ → LinkItem
filled_item count = piece (replicate count 97)

-- so many bytes `a` in pieces of this size, and one of what is left, if anything is
abbrev pub fill_pieces_by : ℕ → ℕ → List LinkItem
fill_pieces_by size count =
    replicate (count / size) (filled_item size)
    ++ (if count % size == 0 then [] else filled_item (count % size) ∷ [])

-- so many bytes in pieces of 4,096, the last one shorter
abbrev pub fill_pieces : ℕ → List LinkItem
fill_pieces count = fill_pieces_by 4096 count

-- the items of a link that an item of a script stands for
abbrev pub link_items : Item → List LinkItem
link_items (Send bytes) = piece bytes ∷ []
link_items (Fill count) = fill_pieces count
link_items (Pause count) = wait count ∷ []
link_items Fault = fault ∷ []

-- the script of a connection
abbrev pub script_of : ScriptConn → Script
script_of conn = record { items = flat_map link_items conn.items; step = conn.step; cut = conn.cut }

-- the link of a connection: nothing was taken or written, and no call is to fail but by its lines
abbrev pub link_of : ScriptConn → MemLinkState
link_of conn = record {
  bytes = initial_bytes (flat_map link_items conn.items) conn.step conn.cut;
  calls = no_calls [];
  waits = 0;
  shut = false;
}

-- what is to come of the link of a connection: the bytes of its items, and
-- the answers of its script
abbrev pub coming_of : ScriptConn → Coming
coming_of conn = record {
  input = all_bytes (flat_map link_items conn.items);
  answers = Some (script_of conn);
  says_all = true;
}

-- the world of connections: a link for each in order, none of them accepted, and no
-- call of the world is to fail
abbrev pub world_of : List ScriptConn → MemWorldState
world_of conns = record { lobby = initial_lobby (map link_of conns); calls = no_calls [] }

-- what the world of connections tells: as many links as connections, each with its input and its
-- answers, and that nothing of the outside stands in its way
abbrev pub told_of : List ScriptConn → WorldContents
told_of conns = record {
  coming = Some (map coming_of conns);
  total = length conns;
  accepted = 0;
  port = 0;
  scripted = true;
}
