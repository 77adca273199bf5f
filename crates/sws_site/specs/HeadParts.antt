-- What the parts of a head say together.
use Rattle.std.specs.Prelude.{None}
use Rattle.sws_site.specs.declared.heads.HeadParts.{HeadParts}
use Rattle.sws_site.specs.ResponseHeads.{ResponseHead}

-- the head that the parts say, which names no other place
abbrev pub head_of : HeadParts → ResponseHead
head_of parts =
    record {
      status = parts.status;
      location = None;
      closes = parts.closes;
      says_kept = parts.options.now.keeps_alive;
      date = parts.date.now;
      max_age = parts.max_age;
      range = parts.range;
      media_type = parts.media_type.now;
      len = parts.len;
      headers = parts.options.now.added.headers;
    }
