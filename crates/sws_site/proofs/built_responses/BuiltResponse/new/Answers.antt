use Rattle.std.proofs.Common.{None, true, false}
use Rattle.sws_site.specs.ResponseHeads.{ResponseHead}
use Rattle.sws_site.proofs.HeadLengthsLemmas.{head_text-short}
use Rattle.sws_site.proofs.built_responses.BuiltResponse.new.Goals as goal

pub write_head-requires : goal.write_head-requires
write_head-requires c =
    let head : ResponseHead = record { status = c.args.status; location = None; closes = false; says_kept = c.args.options.now.keeps_alive; date = c.args.date.now; max_age = c.args.max_age; range = None; media_type = c.args.media_type.now; len = c.len.result; headers = c.args.options.now.added.headers } in
    head_text-short head c.requires.media_type c.len.type_inv tt c.requires.age c.args.options.now.added.short_headers

pub write_head-requires-2 : goal.write_head-requires-2
write_head-requires-2 c =
    let head : ResponseHead = record { status = c.args.status; location = None; closes = true; says_kept = c.args.options.now.keeps_alive; date = c.args.date.now; max_age = c.args.max_age; range = None; media_type = c.args.media_type.now; len = c.len.result; headers = c.args.options.now.added.headers } in
    head_text-short head c.requires.media_type c.len.type_inv tt c.requires.age c.args.options.now.added.short_headers
