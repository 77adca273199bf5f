use Rattle.mely_actor.proofs.ListLemmas.{one_sent}
use Rattle.example_store.proofs.StoredLemmas.{answer_done, get_done, put_done}
use Rattle.example_store.proofs.store.StoreActor.on.Goals as goal

pub returns-in-Get-clause-kept : goal.returns-in-Get-clause-kept
returns-in-Get-clause-kept c = get_done c.args.slot.now.map.entries c.args.slot.now.answers.items c.args.message c.in-Get.key c.in-Get.client c.args._place.number _ c.send.new.self _ c.in-Get.is (one_sent _ _ _ c.requires.empty c.send.ensures) c.look-found.ensures

pub returns-in_ok-insert-in-Put-clause-kept : goal.returns-in_ok-insert-in-Put-clause-kept
returns-in_ok-insert-in-Put-clause-kept c = λ received sent many stored. put_done received sent _ _ _ _ _ _ _ stored c.in_ok-insert-in-Put.ensures.entries c.requires.empty c.in-Put.is

pub returns-in_ok-push-in-Answer-clause-kept : goal.returns-in_ok-push-in-Answer-clause-kept
returns-in_ok-push-in-Answer-clause-kept c = λ received sent many stored. answer_done received sent _ _ _ _ _ _ _ stored c.in_ok-push-in-Answer.ensures.items c.requires.empty c.in-Answer.is
