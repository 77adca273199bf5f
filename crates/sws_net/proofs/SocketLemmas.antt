-- What a send behind kept bytes changes in what a link tells, and what a socket in memory gives.
use Rattle.std.proofs.Common.{◌≡◌, ℕ, ◌+◌, ◌-◌, ◌<◌, ◌≤◌, List, [], ◌++◌, length, take, drop, Option, Some, None, true, refl, sym, ap, ◌∙◌, subst, arith, append_assoc, append-nil, take-append-drop}
use Rattle.std.proofs.lemmas.List.{take-append-le, drop-drop}
use Rattle.std.proofs.Math.Seq.{take-append-add, take-add}
use Rattle.sws_link.specs.declared.LinkRead.TheVariants as read
use Rattle.sws_link.specs.declared.LinkWrite.TheVariants as write
use Rattle.sws_link.specs.Links.{LinkContents, LinkPuts}
use Rattle.sws_net.specs.Sockets.{SocketContents, ReceivesTold, Sends, sent_behind, link_tells}

-- the front of two pieces that ends in the second one
front_of_both : (first second : List ℕ) (count : ℕ) → length first ≤ count → first ++ take (count - length first) second ≡ take count (first ++ second)
front_of_both first second count many =
    let e : length first + (count - length first) ≡ count = omega arith in
    sym (subst (λ (n : ℕ). take n (first ++ second) ≡ first ++ take (count - length first) second) e
    (take-append-add first second (count - length first)))

-- of a piece behind kept bytes what comes after these counts
pub sent_with : (tells now : Option SocketContents) (kept kept_now piece : List ℕ) (count : ℕ) → length kept ≤ count → kept_now ≡ []
    → Sends tells now (write.Wrote count) (kept ++ piece)
    → LinkPuts (link_tells tells kept) (link_tells now kept_now) (write.Wrote (count - length kept)) piece
sent_with None now kept kept_now piece count many none is = ap (λ (t : Option SocketContents). link_tells t kept_now) is
sent_with (Some before) now kept kept_now piece count many none is =
    let after : LinkContents = record {
      taken = before.taken;
      left = before.left;
      written = (before.sent ++ take count (kept ++ piece)) ++ [];
      to_come = None;
      says_all = true;
    } in
    record {
      after = after;
      front = take (count - length kept) piece;
      is = ap (λ (t : Option SocketContents). link_tells t kept_now) is
          ∙ ap (λ (k : List ℕ). link_tells (Some (sent_behind before (take count (kept ++ piece)))) k) none;
      written = append-nil (before.sent ++ take count (kept ++ piece))
          ∙ ap (λ (b : List ℕ). before.sent ++ b) (sym (front_of_both kept piece count many))
          ∙ sym (append_assoc before.sent kept (take (count - length kept) piece));
      front_is = refl;
      taken = refl;
      left = refl;
      to_come = refl;
      exact = tt;
      says_all = refl;
      said = λ _. refl;
    }

-- what a socket in memory gives of its input
pub gives_next : (input sent into : List ℕ) (taken count : ℕ) → take count into ≡ take count (drop taken input)
    → ReceivesTold (record { taken = take taken input; left = drop taken input; sent = sent })
    (Some (record { taken = take (taken + count) input; left = drop (taken + count) input; sent = sent }))
    (read.Took count) into
gives_next input sent into taken count given = record {
  rest = drop (taken + count) input;
  left = sym (take-append-drop count (drop taken input))
      ∙ ap (λ (front : List ℕ). front ++ drop count (drop taken input)) (sym given)
      ∙ ap (λ (rest : List ℕ). take count into ++ rest) (drop-drop count taken input);
  is = ap (λ (t : List ℕ). Some (record { taken = t; left = drop (taken + count) input; sent = sent }))
      (take-add taken count input ∙ ap (λ (g : List ℕ). take taken input ++ g) (sym given));
  ends = tt;
}
