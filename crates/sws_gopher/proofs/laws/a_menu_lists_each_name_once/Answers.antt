use Rattle.sws_gopher.proofs.ItemLemmas.{items_ascend, items_are_of_files, files_have_items}
use Rattle.sws_gopher.proofs.laws.a_menu_lists_each_name_once.Goals as goal

pub returns-clause-ascend : goal.returns-clause-ascend
returns-clause-ascend c = items_ascend

pub returns-clause-exact : goal.returns-clause-exact
returns-clause-exact c = λ files folder item. (items_are_of_files files folder item, files_have_items files folder item)
