use Rattle.std.proofs.Common.{◌++◌, ℕ, List, length, ap, ◌∙◌, arith}
use Rattle.std.specs.Prelude.{codes}
use Rattle.sws_site.specs.HeadParts.{head_of}
use Rattle.sws_site.specs.ResponseHeads.{line_end, lines_text, connection_lines, last_modified_lines, cache_lines, allow_lines, range_lines, content_lines}
use Rattle.sws_site.specs.Statuses.{row_value}
use Rattle.sws_site.proofs.HeadLemmas.{head_text-parts, head-fits, length-added}
use Rattle.sws_site.proofs.heads.write_head.Goals as goal

pub add_last_modified-requires : goal.add_last_modified-requires
add_last_modified-requires c =
    omega (
      arith,
      head-fits (head_of c.args.parts.now) (row_value c.row-row.result) c.row-row.ensures c.requires,
      ap length c.new-head.ensures,
      length-added c.add_line.new.head c.new-head.result ((codes "HTTP/1.1 " ++ c.row-row.result.text.now) ++ line_end) c.add_line.ensures,
      length-added c.add_line-2.new.head c.add_line.new.head ((codes "Server: " ++ codes "sws") ++ line_end) c.add_line-2.ensures,
      length-added c.add_connection.new.head c.add_line-2.new.head (lines_text (connection_lines c.args.parts.now.closes c.args.parts.now.options.now.keeps_alive)) c.add_connection.ensures,
    )

pub add_cache-requires : goal.add_cache-requires
add_cache-requires c =
    omega (
      arith,
      head-fits (head_of c.args.parts.now) (row_value c.row-row.result) c.row-row.ensures c.requires,
      ap length c.new-head.ensures,
      length-added c.add_line.new.head c.new-head.result ((codes "HTTP/1.1 " ++ c.row-row.result.text.now) ++ line_end) c.add_line.ensures,
      length-added c.add_line-2.new.head c.add_line.new.head ((codes "Server: " ++ codes "sws") ++ line_end) c.add_line-2.ensures,
      length-added c.add_connection.new.head c.add_line-2.new.head (lines_text (connection_lines c.args.parts.now.closes c.args.parts.now.options.now.keeps_alive)) c.add_connection.ensures,
      length-added c.add_last_modified.new.head c.add_connection.new.head (lines_text (last_modified_lines c.row-row.result.is_dated c.args.parts.now.date.now)) c.add_last_modified.ensures,
    )

pub add_allow-requires : goal.add_allow-requires
add_allow-requires c =
    omega (
      arith,
      head-fits (head_of c.args.parts.now) (row_value c.row-row.result) c.row-row.ensures c.requires,
      ap length c.new-head.ensures,
      length-added c.add_line.new.head c.new-head.result ((codes "HTTP/1.1 " ++ c.row-row.result.text.now) ++ line_end) c.add_line.ensures,
      length-added c.add_line-2.new.head c.add_line.new.head ((codes "Server: " ++ codes "sws") ++ line_end) c.add_line-2.ensures,
      length-added c.add_connection.new.head c.add_line-2.new.head (lines_text (connection_lines c.args.parts.now.closes c.args.parts.now.options.now.keeps_alive)) c.add_connection.ensures,
      length-added c.add_last_modified.new.head c.add_connection.new.head (lines_text (last_modified_lines c.row-row.result.is_dated c.args.parts.now.date.now)) c.add_last_modified.ensures,
      length-added c.add_cache.new.head c.add_last_modified.new.head (lines_text (cache_lines c.row-row.result.is_dated c.args.parts.now.max_age)) c.add_cache.ensures,
    )

pub add_range-requires : goal.add_range-requires
add_range-requires c =
    omega (
      arith,
      head-fits (head_of c.args.parts.now) (row_value c.row-row.result) c.row-row.ensures c.requires,
      ap length c.new-head.ensures,
      length-added c.add_line.new.head c.new-head.result ((codes "HTTP/1.1 " ++ c.row-row.result.text.now) ++ line_end) c.add_line.ensures,
      length-added c.add_line-2.new.head c.add_line.new.head ((codes "Server: " ++ codes "sws") ++ line_end) c.add_line-2.ensures,
      length-added c.add_connection.new.head c.add_line-2.new.head (lines_text (connection_lines c.args.parts.now.closes c.args.parts.now.options.now.keeps_alive)) c.add_connection.ensures,
      length-added c.add_last_modified.new.head c.add_connection.new.head (lines_text (last_modified_lines c.row-row.result.is_dated c.args.parts.now.date.now)) c.add_last_modified.ensures,
      length-added c.add_cache.new.head c.add_last_modified.new.head (lines_text (cache_lines c.row-row.result.is_dated c.args.parts.now.max_age)) c.add_cache.ensures,
      length-added c.add_allow.new.head c.add_cache.new.head (lines_text (allow_lines c.row-row.result.lists_methods)) c.add_allow.ensures,
    )

pub add_content-requires : goal.add_content-requires
add_content-requires c =
    omega (
      arith,
      head-fits (head_of c.args.parts.now) (row_value c.row-row.result) c.row-row.ensures c.requires,
      ap length c.new-head.ensures,
      length-added c.add_line.new.head c.new-head.result ((codes "HTTP/1.1 " ++ c.row-row.result.text.now) ++ line_end) c.add_line.ensures,
      length-added c.add_line-2.new.head c.add_line.new.head ((codes "Server: " ++ codes "sws") ++ line_end) c.add_line-2.ensures,
      length-added c.add_connection.new.head c.add_line-2.new.head (lines_text (connection_lines c.args.parts.now.closes c.args.parts.now.options.now.keeps_alive)) c.add_connection.ensures,
      length-added c.add_last_modified.new.head c.add_connection.new.head (lines_text (last_modified_lines c.row-row.result.is_dated c.args.parts.now.date.now)) c.add_last_modified.ensures,
      length-added c.add_cache.new.head c.add_last_modified.new.head (lines_text (cache_lines c.row-row.result.is_dated c.args.parts.now.max_age)) c.add_cache.ensures,
      length-added c.add_allow.new.head c.add_cache.new.head (lines_text (allow_lines c.row-row.result.lists_methods)) c.add_allow.ensures,
      length-added c.add_range.new.head c.add_allow.new.head (lines_text (range_lines c.row-row.result.has_range c.args.parts.now.range)) c.add_range.ensures,
    )

pub put-requires : goal.put-requires
put-requires c =
    omega (
      arith,
      head-fits (head_of c.args.parts.now) (row_value c.row-row.result) c.row-row.ensures c.requires,
      ap length c.new-head.ensures,
      length-added c.add_line.new.head c.new-head.result ((codes "HTTP/1.1 " ++ c.row-row.result.text.now) ++ line_end) c.add_line.ensures,
      length-added c.add_line-2.new.head c.add_line.new.head ((codes "Server: " ++ codes "sws") ++ line_end) c.add_line-2.ensures,
      length-added c.add_connection.new.head c.add_line-2.new.head (lines_text (connection_lines c.args.parts.now.closes c.args.parts.now.options.now.keeps_alive)) c.add_connection.ensures,
      length-added c.add_last_modified.new.head c.add_connection.new.head (lines_text (last_modified_lines c.row-row.result.is_dated c.args.parts.now.date.now)) c.add_last_modified.ensures,
      length-added c.add_cache.new.head c.add_last_modified.new.head (lines_text (cache_lines c.row-row.result.is_dated c.args.parts.now.max_age)) c.add_cache.ensures,
      length-added c.add_allow.new.head c.add_cache.new.head (lines_text (allow_lines c.row-row.result.lists_methods)) c.add_allow.ensures,
      length-added c.add_range.new.head c.add_allow.new.head (lines_text (range_lines c.row-row.result.has_range c.args.parts.now.range)) c.add_range.ensures,
      length-added c.add_content.new.head c.add_range.new.head (lines_text (content_lines c.row-row.result.body c.args.parts.now.media_type.now c.args.parts.now.len)) c.add_content.ensures,
      ap length c.text.ensures.text,
    )

pub put-requires-2 : goal.put-requires-2
put-requires-2 c =
    omega (
      arith,
      head-fits (head_of c.args.parts.now) (row_value c.row-row.result) c.row-row.ensures c.requires,
      ap length c.new-head.ensures,
      length-added c.add_line.new.head c.new-head.result ((codes "HTTP/1.1 " ++ c.row-row.result.text.now) ++ line_end) c.add_line.ensures,
      length-added c.add_line-2.new.head c.add_line.new.head ((codes "Server: " ++ codes "sws") ++ line_end) c.add_line-2.ensures,
      length-added c.add_connection.new.head c.add_line-2.new.head (lines_text (connection_lines c.args.parts.now.closes c.args.parts.now.options.now.keeps_alive)) c.add_connection.ensures,
      length-added c.add_last_modified.new.head c.add_connection.new.head (lines_text (last_modified_lines c.row-row.result.is_dated c.args.parts.now.date.now)) c.add_last_modified.ensures,
      length-added c.add_cache.new.head c.add_last_modified.new.head (lines_text (cache_lines c.row-row.result.is_dated c.args.parts.now.max_age)) c.add_cache.ensures,
      length-added c.add_allow.new.head c.add_cache.new.head (lines_text (allow_lines c.row-row.result.lists_methods)) c.add_allow.ensures,
      length-added c.add_range.new.head c.add_allow.new.head (lines_text (range_lines c.row-row.result.has_range c.args.parts.now.range)) c.add_range.ensures,
      length-added c.add_content.new.head c.add_range.new.head (lines_text (content_lines c.row-row.result.body c.args.parts.now.media_type.now c.args.parts.now.len)) c.add_content.ensures,
      length-added c.put.new.self c.add_content.new.head c.args.parts.now.options.now.added.headers (c.put.ensures ∙ ap (λ (more : List ℕ). c.add_content.new.head ++ more) c.text.ensures.text),
    )

pub returns : goal.returns
returns c = head_text-parts (head_of c.args.parts.now) (row_value c.row-row.result) c.add_line.new.head c.add_line-2.new.head c.add_connection.new.head
    c.add_last_modified.new.head c.add_cache.new.head c.add_allow.new.head c.add_range.new.head c.add_content.new.head c.put.new.self c.put-2.new.self c.row-row.ensures
    (c.add_line.ensures ∙ ap (λ (old : List ℕ). old ++ ((codes "HTTP/1.1 " ++ c.row-row.result.text.now) ++ line_end)) c.new-head.ensures)
    c.add_line-2.ensures c.add_connection.ensures c.add_last_modified.ensures c.add_cache.ensures c.add_allow.ensures c.add_range.ensures c.add_content.ensures
    (c.put.ensures ∙ ap (λ (more : List ℕ). c.add_content.new.head ++ more) c.text.ensures.text) c.put-2.ensures
