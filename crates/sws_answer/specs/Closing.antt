-- Whether a request lets its connection be used again (RFC 9112, sections 6 and 9.3).
use Rattle.std.specs.Prelude.{ℕ, Bool, not, ◌==◌, ◌&&◌, ◌||◌, List, codes, length}
use Rattle.std.specs.List.{list_any, list_all}
use Rattle.sws_request.specs.Request.{Request}
use Rattle.sws_site.specs.declared.options.SiteOptions.{SiteOptions}
use Rattle.sws_answer.specs.Fields.{Field, is_named, has_field, has_member}

-- a field Connection that has this option (RFC 9110, section 7.6.1)
abbrev pub is_option_field : List ℕ → Field → Bool
is_option_field option field = is_named (codes "connection") field && has_member option field.1

-- some Connection field has this option
abbrev pub has_option : List ℕ → List Field → Bool
has_option option fields = list_any (is_option_field option) fields

-- the client asks for the end of the connection (RFC 9112, section 9.6)
abbrev pub asks_to_close : List Field → Bool
asks_to_close fields = has_option (codes "close") fields

-- the client asks that the connection stay open (RFC 9112, section 9.3)
abbrev pub asks_to_keep : List Field → Bool
asks_to_keep fields = has_option (codes "keep-alive") fields

-- by its version the request is the last one of its connection: it is of HTTP/1.0, unless it asks
-- that the connection stay open, and the site lets it (RFC 9112, section 9.3)
abbrev pub is_last_by_version : SiteOptions → Request → Bool
is_last_by_version options request =
    request.minor == 0 && not (options.keeps_alive && asks_to_keep request.fields)

-- one or more digits 0
abbrev pub is_zero : List ℕ → Bool
is_zero value = not (length value == 0) && list_all (λ byte. byte == 48) value

-- a field that gives a length other than 0 (RFC 9110, section 8.6)
abbrev pub is_length_field : Field → Bool
is_length_field field = is_named (codes "content-length") field && not (is_zero field.1)

-- some field is a Content-Length
abbrev pub has_content_length : List Field → Bool
has_content_length fields = list_any is_length_field fields

-- content may follow the head (RFC 9112, section 6.3)
abbrev pub announces_content : List Field → Bool
announces_content fields = has_field (codes "transfer-encoding") fields || has_content_length fields

-- the connection ends after the response of a site with these options to this request, whatever that
-- response is
abbrev pub is_closing : SiteOptions → Request → Bool
is_closing options request =
    is_last_by_version options request || asks_to_close request.fields
    || announces_content request.fields
