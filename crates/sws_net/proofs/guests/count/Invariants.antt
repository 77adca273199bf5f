use Rattle.std.proofs.Common.{◌≡◌, ◌≤◌, take, length, filter, nat_eq}
use Rattle.sws_net.proofs.guests.count.Given as goal

-- those so far are counted
abbrev pub invariant-guests : goal.invariant-guests
invariant-guests l =
    record {
      counted : l.count ≡ length (filter (nat_eq l.address) (take l.guest-index l.here));
      few : l.count ≤ l.guest-index;
    }
