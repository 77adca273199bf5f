use Rattle.std.proofs.Common.{rules, ◌≡◌, ◌++◌, length, [], ◌∷◌, ◌∙◌, ap}
use Rattle.std.specs.Prelude.{codes}
use Rattle.std.specs.List.{count_by}
use Rattle.sws_text.specs.Numbers.{space_number}
use Rattle.sws_report.specs.Summary.{is_done, is_idle, is_fault}
use Rattle.sws_report.proofs.SummaryLemmas.{five}
use Rattle.sws_report.proofs.summary.push_ends.Goals as goal

pub returns : goal.returns
returns c =
    let all : c.push_counted.new.text.items ≡ c.args.text.now.items ++ (codes "connections" ++ space_number (length c.args.ends.now)) = c.in_ok-push_counted.ensures in
    let done : c.push_counted-2.new.text.items ≡ c.push_counted.new.text.items ++ (codes " done" ++ space_number (count_by is_done c.args.ends.now)) = c.in_ok-push_counted-2.ensures ∙ ap (λ n. c.push_counted.new.text.items ++ (codes " done" ++ space_number n)) c.done.ensures in
    let idle : c.push_counted-3.new.text.items ≡ c.push_counted-2.new.text.items ++ (codes " idle" ++ space_number (count_by is_idle c.args.ends.now)) = c.in_ok-push_counted-3.ensures ∙ ap (λ n. c.push_counted-2.new.text.items ++ (codes " idle" ++ space_number n)) c.idle.ensures in
    let fault : c.push_counted-4.new.text.items ≡ c.push_counted-3.new.text.items ++ (codes " fault" ++ space_number (count_by is_fault c.args.ends.now)) = c.in_ok-push_counted-4.ensures ∙ ap (λ n. c.push_counted-3.new.text.items ++ (codes " fault" ++ space_number n)) c.faults.ensures in
    let end : c.push.new.self.items ≡ c.push_counted-4.new.text.items ++ 10 ∷ [] = search rules in
    five (codes "connections" ++ space_number (length c.args.ends.now)) (codes " done" ++ space_number (count_by is_done c.args.ends.now))
    (codes " idle" ++ space_number (count_by is_idle c.args.ends.now)) (codes " fault" ++ space_number (count_by is_fault c.args.ends.now)) (10 ∷ [])
    c.push_counted.new.text.items c.push_counted-2.new.text.items c.push_counted-3.new.text.items c.push_counted-4.new.text.items c.push.new.self.items c.args.text.now.items
    all done idle fault end
