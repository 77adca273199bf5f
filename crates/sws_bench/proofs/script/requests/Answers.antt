use Rattle.sws_bench.proofs.ListLemmas.{behind_more, requests_more}
use Rattle.sws_bench.proofs.script.requests.Goals as goal

pub requests-preserved : goal.requests-preserved
requests-preserved c =
    let before = c.requests.invariant in
    record {
      bytes = requests_more c.args.draws.now.state c.requests.counter c.requests.draws.state c.next.result _ _ before.state c.next.ensures.value before.bytes c.in_ok-push_request.ensures;
      state = behind_more c.args.draws.now.state c.requests.counter c.requests.draws.state _ before.state c.next.ensures.state;
    }
