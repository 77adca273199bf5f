use Rattle.sws_site.proofs.HeadLemmas.{content_text}
use Rattle.sws_site.proofs.heads.add_media_type_and_len.Goals as goal

pub returns : goal.returns
returns c = content_text c.put-2.new.self c.put_number.new.self c.put.new.self c.add_line.new.head c.args.head.now c.args.media_type.now c.args.len
    c.add_line.ensures c.put.ensures c.put_number.ensures c.put-2.ensures
