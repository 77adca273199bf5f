use Rattle.std.proofs.Common.{arith, take, refl}
use Rattle.sws_site.proofs.LoadLemmas.{StepsTo-file}
use Rattle.sws_site.specs.Stored.{file_of}
use Rattle.sws_site.proofs.loading.next_file.Goals as goal

pub returns-clause-steps : goal.returns-clause-steps
returns-clause-steps g c = StepsTo-file c.in-File.len
    (g.F.Folder.tells c.args.folder.now) (g.F.Folder.tells c.next.new.self) (g.F.Folder.tells c.read_file.new.folder)
    c.next.new.name (take c.in-File.len c.next.new.name) c.in_ok-contents.contents.items (file_of c.in_ok-file.file)
    c.in-File.ensures.gives (omega arith) refl c.in_ok-contents.ensures.reads c.in_ok-file.ensures.file
